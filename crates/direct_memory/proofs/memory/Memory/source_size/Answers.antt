use Rattle.std.proofs.Common.{ℕ, ◌^◌, ◌<◌, List, get_or, Some, sym, ap, ◌∙◌, subst, arith}
use Rattle.std.proofs.lemmas.Grind.{common_steps}
use Rattle.std.proofs.lemmas.Option.{gets}
use Rattle.direct_memory.specs.declared.layout.SourcePlace.{SourcePlace}
use Rattle.direct_memory.proofs.Keeping.{found_in, found_place, size_in, size_past, sources_sound}
use Rattle.direct_memory.proofs.memory.Memory.source_size.Goals as goal

abbrev Small : List ℕ → Type 0
Small ws = (i : ℕ) → get_or ws i 0 < 2 ^ 32

pub returns-in_err-place-clause-answer : goal.returns-in_err-place-clause-answer
returns-in_err-place-clause-answer c =
    let none = c.in_err-place.ensures in
    c.from_residual.ensures ∙ sym (size_past c.args.self.now c.args.source (grind (arith, common_steps, gets)))

pub returns-in_err-place-clause-sound : goal.returns-in_err-place-clause-sound
returns-in_err-place-clause-sound c = sources_sound c.args.self.now (subst Small c.deref.ensures.value c.have_32_bits.ensures)

pub returns-clause-answer : goal.returns-clause-answer
returns-clause-answer c =
    let m = c.args.self.now in
    let there = found_in m c.args.source _ c.in_ok-place.ensures in
    let place = found_place m c.args.source _ c.in_ok-place.ensures in
    ap Some (c.from.ensures ∙ ap (λ (p : SourcePlace). p.size) place) ∙ sym (size_in m c.args.source there)

pub returns-clause-sound : goal.returns-clause-sound
returns-clause-sound c = sources_sound c.args.self.now (subst Small c.deref.ensures.value c.have_32_bits.ensures)
