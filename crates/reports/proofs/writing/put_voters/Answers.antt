use Rattle.reports.proofs.WordLaws.{voters_put}
use Rattle.reports.proofs.writing.put_voters.Goals as goal

pub returns : goal.returns
returns c =
    voters_put c.args.c.now c.args.out.now.items c.put_first.new.out.items c.put_number.new.out.items c.put_number-2.new.out.items c.put_inputs.new.out.items c.put_end.new.out.items c.args.voters.border c.args.voters.feedback c.requires.border c.requires.feedback c.in_ok-put_first.ensures c.in_ok-put_number.ensures c.in_ok-put_number-2.ensures c.in_ok-put_inputs.ensures c.in_ok-put_end.ensures
