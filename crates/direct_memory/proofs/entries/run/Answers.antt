use Rattle.std.proofs.Common.{◌≡◌, ℕ, ◌+◌, ◌/◌, Bool, true, List, ◌++◌, length, take, drop, sym, refl, ap, ◌∙◌, arith}
use lib.Seq.{sets}
use Rattle.device.specs.Dispatches.{all_inside, entries_from, ran}
use Rattle.device.proofs.Drawing.{ran_length}
use Rattle.direct_memory.specs.Regions.{words_of}
use Rattle.direct_memory.specs.CanRun.{CanRun}
use Rattle.direct_memory.specs.declared.entries.Parts.{Parts}
use Rattle.direct_memory.proofs.Wording.{length_part, put_mid_sets}
use Rattle.direct_memory.proofs.entries.run.Goals as goal

-- entries es, a window win and a destination dest, read of words that were split before and behind the destination
module _ (p : Parts) (ws below rest dest above es win : List ℕ) (end : ℕ) (can : CanRun p ws)
    (first : below ≡ take p.destination.start ws) (second : rest ≡ drop p.destination.start ws) (third : dest ≡ take p.destination.size rest) (last : above ≡ drop p.destination.size rest)
    (whole : ws ≡ below ++ rest) (more : rest ≡ dest ++ above) (ends : length below + length dest ≡ end)
    (e : (m : List ℕ) → length below + length m ≡ end → es ≡ words_of p.entries (below ++ (m ++ above)))
    (w : (m : List ℕ) → length below + length m ≡ end → win ≡ words_of p.window (below ++ (m ++ above))) where
  joined : below ++ (dest ++ above) ≡ ws
  joined = sym (whole ∙ ap (λ t. below ++ t) more)

  entries : es ≡ words_of p.entries ws
  entries = e dest ends ∙ ap (words_of p.entries) joined

  bound : win ≡ words_of p.window ws
  bound = w dest ends ∙ ap (words_of p.window) joined

  target : dest ≡ words_of p.destination ws
  target = third ∙ ap (take p.destination.size) second

  few : length es ≡ p.entries.size
  few = rw entries (length_part p.entries.start p.entries.size ws can.entries)

  size : length dest ≡ p.destination.size
  size = rw target (length_part p.destination.start p.destination.size ws can.destination)

  inside : all_inside (length win) (length dest) (entries_from es (length es / 4)) ≡ true
  inside = rw (few, size, bound, entries, length_part p.window.start p.window.size ws can.window) can.inside

  after : (allowed : Bool) (new : List ℕ) → new ≡ ran allowed win (entries_from es (length es / 4)) dest
      → below ++ (new ++ above) ≡ sets ws p.destination.start (ran allowed (words_of p.window ws) (entries_from (words_of p.entries ws) (p.entries.size / 4)) (words_of p.destination ws))
  after allowed new n =
      let long : length new ≡ p.destination.size = ap length n ∙ ran_length allowed win (entries_from es (length es / 4)) dest ∙ size in
      let same : ran allowed win (entries_from es (length es / 4)) dest ≡ ran allowed (words_of p.window ws) (entries_from (words_of p.entries ws) (p.entries.size / 4)) (words_of p.destination ws) = rw (few, bound, entries, target) in
      let behind : above ≡ drop p.destination.size (drop p.destination.start ws) = last ∙ ap (drop p.destination.size) second in
      rw (first, behind) (put_mid_sets p.destination.start p.destination.size p.destination.size ws new refl (sym long) can.destination)
      ∙ ap (sets ws p.destination.start) (n ∙ same)

pub run_entries-requires : goal.run_entries-requires
run_entries-requires c =
    let b = c.split_at_mut-below in
    let d = c.split_at_mut-destination in
    inside c.args.parts c.args.words.now _ _ _ _ _ _ _ c.requires b.ensures.front b.ensures.back d.ensures.front d.ensures.back b.ensures.value d.ensures.value (omega arith) c.beside-entries.ensures c.beside-window.ensures

pub returns : goal.returns
returns c =
    let b = c.split_at_mut-below in
    let d = c.split_at_mut-destination in
    after c.args.parts c.args.words.now _ _ _ _ _ _ _ c.requires b.ensures.front b.ensures.back d.ensures.front d.ensures.back b.ensures.value d.ensures.value (omega arith) c.beside-entries.ensures c.beside-window.ensures
    c.args.first_instances _ c.run_entries.ensures
