mod Blocks
mod Celling
mod Changing
mod Entering
mod Keeping
mod Shaping
mod Wording
