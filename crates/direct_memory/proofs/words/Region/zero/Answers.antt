use Rattle.std.proofs.Common.{◌≡◌, ◌-◌, length, replicate, ap, ◌∙◌, arith}
use lib.Seq.{sets}
use Rattle.direct_memory.specs.Cells.{part}
use Rattle.direct_memory.proofs.Wording.{put_mid_sets, length_part}
use Rattle.direct_memory.proofs.words.Region.zero.Goals as goal

pub returns : goal.returns
returns c =
    let ws = c.args.words.now in
    let a = c.args.self.start in
    let n = c.args.self.size in
    let long : length (part a (c.end.result - a) ws) ≡ n = length_part a (c.end.result - a) ws (omega arith) ∙ omega arith in
    put_mid_sets a _ n ws _ (omega arith) (omega (arith, c.fill.ensures.len)) c.requires
    ∙ ap (sets ws a) (c.fill.ensures.after (λ y e. e) ∙ ap (λ j. replicate j 0) long)
