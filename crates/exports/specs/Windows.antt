-- The window that a host is told of.
use Rattle.std.specs.Prelude.{ℕ, Ok, Err, Result, if◌then◌else◌}
use Rattle.command.specs.Lawful.{lawful}
use Rattle.command.specs.declared.refusal.Refusal.TheVariants.{UnlawfulSettings}
use Rattle.entry.specs.Window.{binding_size_of, dynamic_offset_of, window_offset}
use Rattle.exports.specs.declared.status.Failure.{Failure}
use Rattle.exports.specs.declared.status.Failure.TheVariants.{Refused}
use Rattle.exports.specs.declared.windows.Window.{Window}

abbrev pub window_of : (a m s o : ℕ) → Window
window_of a m s o = record { binding_size = binding_size_of a m s; dynamic_offset = dynamic_offset_of a m s o; offset = window_offset a m s o }

-- the window, where the settings are lawful
abbrev pub window_answer : (a m s o : ℕ) → Result Window Failure
window_answer a m s o = if lawful a m then Ok (window_of a m s o) else Err (Refused UnlawfulSettings)
