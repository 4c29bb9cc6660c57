use Rattle.std.proofs.Common.{◌≡◌, ◌/◌, Some, refl, arith, rules}
use Rattle.command.specs.Family.{is_indexed}
use Rattle.entry.specs.Entries.{family_by, unpacked}
use Rattle.entry.specs.Verdicts.{checked, verdict, words_of}
use Rattle.validation.specs.Follows.{entry_for, window_words, arguments_of, drawn, followed, offset_in_window}
use Rattle.validation.specs.declared.follow.Followed.{Followed}
use Rattle.validation.proofs.Reading.{at_fits, at_whole}
use Rattle.validation.proofs.Following.{answer_is, law_is}
use Rattle.validation.proofs.follow.follow_accepted.Goals as goal
use Rattle.validation.proofs.follow.follow_accepted.Goals.{After-validate-arguments}

-- the check answers, with the words that are to be drawn
answered : (c : After-validate-arguments) → c.validate-arguments.result ≡ Some (arguments_of c.args.limits.family (drawn c.args.rules.now c.args.limits c.args.request.now))
answered c =
    let r = c.args.rules.now in
    let l = c.args.limits in
    let q = c.args.request.now in
    let place = offset_in_window r.settings q in
    let entry : c.pack-entry.result ≡ entry_for l place q.dst_offset = search rules in
    let uncut = c.validate-arguments.ensures.uncut (is_indexed l.family) place q.dst_offset l.vertex_or_index_limit l.instance_limit (at_whole r.settings l.family q c.requires) (at_fits r.settings l.family q c.requires) (omega arith) entry in
    let words : words_of c.validate-arguments.result ≡ checked r.first_instance_allowed (family_by (is_indexed l.family)) (place / 4) l.vertex_or_index_limit l.instance_limit (window_words r.settings q) = search rules in
    answer_is r l q c.requires c.validate-arguments.result (rw entry at c.validate-arguments.ensures.kind) words

pub unwrap-requires : goal.unwrap-requires
unwrap-requires c = let is = answered c in rw is refl

pub returns-clause-value : goal.returns-clause-value
returns-clause-value c = let answer = answered (goal.at.returns-clause-value c).After-validate-arguments in search rules

pub returns-clause-law : goal.returns-clause-law
returns-clause-law c =
    let r = c.args.rules.now in
    let l = c.args.limits in
    let q = c.args.request.now in
    let answer = answered (goal.at.returns-clause-law c).After-validate-arguments in
    let inside : verdict r.first_instance_allowed (unpacked (entry_for l (offset_in_window r.settings q) q.dst_offset)) (window_words r.settings q) ≡ words_of (Some (arguments_of l.family (drawn r l q))) = search rules in
    let value : ◌≡◌ {A = Followed} (record { limits = l; binding_size = c.calculate_src_buffer_binding_size-binding_size.result; window = c.calculate_src_offsets-window.result; entry = c.pack-entry.result; arguments = c.unwrap.result }) (followed r l q) = search rules in
    rw value (law_is r l q c.requires c.window_in-words.ensures.fit inside)
