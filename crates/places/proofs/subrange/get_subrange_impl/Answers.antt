use Rattle.std.proofs.Common.{sym, ◌∙◌}
use Rattle.places.proofs.Laying.{next_numbered}
use Rattle.places.proofs.subrange.get_subrange_impl.Goals as goal

pub returns-clause-laid : goal.returns-clause-laid
returns-clause-laid g c = next_numbered _ _ _ _ (sym c.in_ok-place.ensures.ok_part ∙ c.next_place.ensures.answer)
