-- The words that an entry writes.
use Rattle.std.proofs.Common.{◌≡◌, ℕ, ◌+◌, ◌/◌, ◌≤◌, Bool, false, leb, List, [], ◌∷◌, length, get_or, take, drop, replicate, Some, None, unwrap_or, refl, ◌∙◌, arith, length-drop, length-take}
use lib.Seq.{sets, length-sets}
use Rattle.std.proofs.lemmas.List.{length-replicate}
use Rattle.std.proofs.lemmas.Bool.{cond_both, leb-true, or_parts}
use Rattle.command.specs.Family.{dst_stride}
use Rattle.command.specs.declared.family.DrawCommandFamily.{DrawCommandFamily}
use Rattle.command.specs.declared.family.DrawCommandFamily.TheVariants.{Draw, DrawIndexed}
use Rattle.entry.specs.Entries.{unpacked}
use Rattle.entry.specs.Verdicts.{checked, judged, kept, first_instance_at, word_count, on_words}
use Rattle.entry.specs.declared.metadata.MetadataEntry.{MetadataEntry}
use Rattle.device.specs.Dispatches.{place_words, place_at, drawn, ran}
use Rattle.device.specs.Laws.{between, in_places}
use Rattle.device.proofs.Runs.{get_d_sets_outside}

-- a place is as long as the arguments of its kind
pub place_words_lem : (f : DrawCommandFamily) → dst_stride f / 4 ≡ word_count f
place_words_lem Draw = refl
place_words_lem DrawIndexed = refl

pub judged_length : (allowed : Bool) (f : DrawCommandFamily) (l il : ℕ) (ws : List ℕ) → length ws ≡ word_count f → length (judged allowed f l il ws) ≡ word_count f
judged_length allowed f l il ws h =
    cond_both (kept allowed l il (get_or ws 0 0) (get_or ws 1 0) (get_or ws 2 0) (get_or ws (first_instance_at f) 0)) ws (replicate (word_count f) 0) (λ x. length x ≡ word_count f) (λ _. h) (λ _. length-replicate {A = ℕ} (word_count f) 0)

-- arguments that are read in a window are those of their kind
pub checked_length : (allowed : Bool) (f : DrawCommandFamily) (o l il : ℕ) (w : List ℕ) → length (unwrap_or (checked allowed f o l il w) []) ≤ word_count f
checked_length allowed f o l il w =
    cond_both (leb (o + word_count f) (length w)) (Some (take (word_count f) (drop o w))) None (λ r. length (unwrap_or (on_words (judged allowed f l il) r) []) ≤ word_count f)
    (λ t. let long : length (take (word_count f) (drop o w)) ≡ word_count f = simp (length-take, length-drop) (omega (arith, leb-true (o + word_count f) (length w) t)) in
    omega (arith, judged_length allowed f l il (take (word_count f) (drop o w)) long))
    (λ _. omega arith)

pub drawn_length : (allowed : Bool) (w : List ℕ) (e : MetadataEntry) → length (drawn allowed w e) ≤ place_words e
drawn_length allowed w e =
    omega (arith, checked_length allowed (unpacked e).family ((unpacked e).src_offset / 4) (unpacked e).vertex_or_index_limit (unpacked e).instance_limit w, place_words_lem (unpacked e).family)

-- a word that lies in no entry's place stays
pub ran_outside : (allowed : Bool) (w : List ℕ) (es : List MetadataEntry) (ws : List ℕ) (k : ℕ) → in_places es k ≡ false → get_or (ran allowed w es ws) k 0 ≡ get_or ws k 0
ran_outside allowed w [] ws k out = refl
ran_outside allowed w (e ∷ es) ws k out =
    let parts = or_parts (between (place_at e) (place_words e) k) (in_places es k) out in
    ran_outside allowed w es (sets ws (place_at e) (drawn allowed w e)) k parts.1
    ∙ get_d_sets_outside (drawn allowed w e) ws (place_at e) (place_words e) k 0 (drawn_length allowed w e) parts.0

pub ran_length : (allowed : Bool) (w : List ℕ) (es : List MetadataEntry) (ws : List ℕ) → length (ran allowed w es ws) ≡ length ws
ran_length allowed w [] ws = refl
ran_length allowed w (e ∷ es) ws =
    ran_length allowed w es (sets ws (place_at e) (drawn allowed w e)) ∙ length-sets ws (place_at e) (drawn allowed w e)
