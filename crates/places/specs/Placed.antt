-- Where a size goes after the current place, and what a supply says to it.
use Rattle.std.specs.Prelude.{◌≡◌, ℕ, ◌+◌, ◌^◌, ◌<◌, ◌≤◌, Bool, false, cond, IfOk, Some, None, Ok, Err, Option, Result, nat_le, nat_lt}
use Rattle.command.specs.declared.refusal.Refusal.{Refusal}
use Rattle.command.specs.declared.refusal.Refusal.TheVariants.{NoBuffer}
use Rattle.places.specs.declared.current.CurrentEntry.{CurrentEntry}

abbrev pub entry : ℕ → ℕ → CurrentEntry
entry i o = record { index = i; offset = o }

-- the current buffer has room for the size
abbrev pub fits : Option CurrentEntry → ℕ → ℕ → Bool
fits None size room = false
fits (Some c) size room = nat_le (c.offset + size) room

-- the buffer after the current one, or the first
abbrev pub following : Option CurrentEntry → ℕ
following None = 0
following (Some c) = c.index + 1

-- at the current place where the size fits, else at the start of the next buffer
abbrev pub placed : Option CurrentEntry → ℕ → ℕ → CurrentEntry
placed None size room = entry 0 0
placed (Some c) size room = cond (nat_le (c.offset + size) room) c (entry (c.index + 1) 0)

-- the current place once the size stands at a place
abbrev pub past : CurrentEntry → ℕ → CurrentEntry
past p size = entry p.index (p.offset + size)

-- buffers are numbered in 64 bits
abbrev pub numbered : CurrentEntry → Bool
numbered p = nat_lt p.index (2 ^ 64)

-- a new buffer's number, where `can` says that the supply has it
abbrev pub fresh : ℕ → (ℕ → Bool) → Result CurrentEntry Refusal
fresh i can = cond (cond (nat_lt i (2 ^ 64)) (can i) false) (Ok (entry i 0)) (Err NoBuffer)

abbrev pub answered : Option CurrentEntry → ℕ → ℕ → (ℕ → Bool) → Result CurrentEntry Refusal
answered None size room can = fresh 0 can
answered (Some c) size room can = cond (nat_le (c.offset + size) room) (Ok c) (fresh (c.index + 1) can)

abbrev pub current_after : Result CurrentEntry Refusal → ℕ → Option CurrentEntry → Option CurrentEntry
current_after (Ok p) size c = Some (past p size)
current_after (Err e) size c = c

-- the supply is asked only where the size does not fit
abbrev pub supply_after : {V : Type 0} → (V → ℕ → V) → Result CurrentEntry Refusal → Bool → V → V
supply_after ensured (Ok p) fit v = cond fit v (ensured v p.index)
supply_after ensured (Err e) fit v = v

-- how many buffers are held, and how many more there are, before and after: none is lost, and the place lies in one that is held
pub record Stocked (c : Option CurrentEntry) (held more held' more' : ℕ) (r : Result CurrentEntry Refusal) : Type 0 where
  pub whole : held' + more' ≡ held + more
  pub grows : held ≤ held'
  pub within : following c ≤ held → IfOk r (λ p. p.index < held')
