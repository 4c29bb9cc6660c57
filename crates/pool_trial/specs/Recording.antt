-- What a recorder holds, and what a place for a draw makes of it.
use Rattle.std.specs.Prelude.{ℕ, ◌≤◌, length, Option, Result}
use Rattle.command.specs.declared.refusal.Refusal.{Refusal}
use Rattle.places.specs.declared.current.CurrentEntry.{CurrentEntry}
use Rattle.places.specs.Placed.{fits, following, answered, current_after, supply_after}
use Rattle.places.specs.Supplies.{grants}
use Rattle.device.specs.declared.buffers.PoolKind.TheVariants.{Destination}
use Rattle.pool_trial.specs.declared.recorder.Recorder.{Recorder}
use Rattle.pool_trial.specs.Lending.{Lending, lend, held_of, more_of, lending}
use Rattle.pool_trial.specs.Making.{Making}
use Rattle.pool_trial.specs.declared.tables.Tables.{Tables}

pub record Recording : Type 0 where
  pub device : Making
  pub destination : Tables
  pub metadata : Tables
  pub current_destination : Option CurrentEntry
  pub current_metadata : Option CurrentEntry

abbrev pub recording : {D : Type 0} → (D → Making) → Recorder D → Recording
recording means r = record {
  device = means r.device;
  destination = r.destination;
  metadata = r.metadata;
  current_destination = r.current_destination;
  current_metadata = r.current_metadata;
}

abbrev pub of_destination : Recording → Lending
of_destination r = lend Destination r.destination r.device

abbrev pub destination_answer : ℕ → ℕ → Recording → Result CurrentEntry Refusal
destination_answer size room r =
    answered r.current_destination size room (grants (held_of (of_destination r)) (more_of (of_destination r)))

abbrev pub lent_after : ℕ → ℕ → Recording → Lending
lent_after size room r =
    supply_after lending (destination_answer size room r) (fits r.current_destination size room) (of_destination r)

abbrev pub destination_after : ℕ → ℕ → Recording → Recording
destination_after size room r = record {
  device = (lent_after size room r).device;
  destination = (lent_after size room r).stock;
  metadata = r.metadata;
  current_destination = current_after (destination_answer size room r) size r.current_destination;
  current_metadata = r.current_metadata;
}

-- The current place is in a member.
abbrev pub Inside : Recording → Type 0
Inside r = following r.current_destination ≤ length r.destination.members
