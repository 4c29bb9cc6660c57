mod Reading
mod Judging
mod Following
