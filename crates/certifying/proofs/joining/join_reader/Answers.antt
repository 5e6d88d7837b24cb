use Rattle.std.proofs.Common.{ℕ, Option, Some, slice_get, sym, ap, ◌∙◌, ◌≡◌}
use Rattle.certifying.proofs.JoinLaws.{follows_set}
use Rattle.certifying.proofs.joining.join_reader.Goals as goal

pub returns-then-x-len-clause-along : goal.returns-then-x-len-clause-along
returns-then-x-len-clause-along c = λ f w al follows e.
    let there : slice_get c.args.readers.now.items c.args.v ≡ Some (Some c.in-Some.x) = c.reader_of.ensures ∙ ap (λ (o : Option ℕ). Some o) c.in-Some.is in
    c.join.ensures.along f al (sym (follows c.args.v c.in-Some.x there) ∙ e)

pub returns-in-None-clause-readers : goal.returns-in-None-clause-readers
returns-in-None-clause-readers c = λ f w follows e. follows_set f w c.args.readers.now.items c.args.v c.args.y follows e c.requires.voter
