-- Places of sizes that a host asks for.
use Rattle.std.specs.Prelude.{ℕ, List, [], ◌∷◌, Ok, Err, Option, Result}
use Rattle.command.specs.Refusals.{number_of}
use Rattle.command.specs.declared.refusal.Refusal.{Refusal}
use Rattle.places.specs.Counts.{Counts, counted}
use Rattle.places.specs.Placed.{answered, current_after, fits, supply_after}
use Rattle.places.specs.Supplies.{grants}
use Rattle.places.specs.declared.current.CurrentEntry.{CurrentEntry}
use Rattle.frame_exports.specs.declared.subranges.Place.{Place}

abbrev pub place_told : Result CurrentEntry Refusal → Place
place_told (Ok p) = record { status = 0; index = p.index; offset = p.offset }
place_told (Err e) = record { status = number_of e; index = 0; offset = 0 }

-- what a supply that counts answers to a size
abbrev pub answer_to : ℕ → ℕ → Option CurrentEntry → Counts → Result CurrentEntry Refusal
answer_to room size c s = answered c size room (grants s.holds s.left)

-- each size after the one before
unfoldable pub places_told : ℕ → List ℕ → Option CurrentEntry → Counts → List Place
places_told room [] c s = []
places_told room (z ∷ zs) c s = place_told (answer_to room z c s) ∷ places_told room zs (current_after (answer_to room z c s) z c) (supply_after counted (answer_to room z c s) (fits c z room) s)
