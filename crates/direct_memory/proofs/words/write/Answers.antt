use Rattle.std.proofs.Common.{length, sym, ap, ◌∙◌, arith}
use lib.Seq.{sets}
use Rattle.direct_memory.proofs.Wording.{put_mid_sets}
use Rattle.direct_memory.proofs.words.write.Goals as goal

pub returns : goal.returns
returns c =
    put_mid_sets c.args.at _ (length c.args.values.now) c.args.words.now _ (omega arith) (ap length (sym c.copy_from_slice.ensures.after)) c.requires
    ∙ ap (sets c.args.words.now c.args.at) c.copy_from_slice.ensures.after
