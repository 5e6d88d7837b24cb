use Rattle.std.proofs.Common.{ℕ, List, ◌+◌, ◌++◌, ap, ◌∙◌, arith}
use Rattle.guarded_text.specs.Private.Steps.{twins_at}
use Rattle.guarded_text.proofs.Steps.{twins_put}
use Rattle.guarded_text.proofs.text.put_node.Goals as goal

pub returns : goal.returns
returns c =
    twins_put c.args.n.now.net c.args.i (c.input_count.result + c.args.i) c.make_room.new.out.items c.put_twins.new.out.items c.requires.node
    (omega (arith, c.input_count.ensures.count)) c.in_ok-put_twins.ensures
    ∙ ap (λ (t : List ℕ). t ++ twins_at c.args.n.now.net c.args.i) c.in_ok-make_room.ensures
