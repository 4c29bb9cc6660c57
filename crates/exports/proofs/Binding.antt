-- Binding a list of slots, one by one.
use Rattle.std.proofs.Common.{◌≡◌, ℕ, ◌+◌, ◌<◌, ◌≤◌, List, length, get_or, drop, Ok}
use Rattle.std.proofs.lemmas.List.{at_drop_more, at_drop_all}
use Rattle.command.specs.Checks.{and_then}
use Rattle.render.specs.Bound.{Bound}
use Rattle.exports.specs.Bound.{slot_after, slot_asked, slots_bound}
use Rattle.exports.specs.declared.bound.Slot.{Slot}

abbrev pub no_slot : Slot
no_slot = record { present = 0; start = 0; end = 0 }

pub slots_more : (ss : List Slot) (i : ℕ) (b : Bound) → i < length ss → slots_bound i (drop i ss) b ≡ and_then (slot_asked i (get_or ss i no_slot)) (λ _. slots_bound (i + 1) (drop (i + 1) ss) (slot_after i (get_or ss i no_slot) b))
unfolding slots_bound
slots_more ss i b h = at_drop_more (λ (l : List Slot). slots_bound i l b) ss i no_slot h

pub slots_all : (ss : List Slot) (i : ℕ) (b : Bound) → length ss ≤ i → slots_bound i (drop i ss) b ≡ Ok b
unfolding slots_bound
slots_all ss i b h = at_drop_all (λ (l : List Slot). slots_bound i l b) ss i h
