use Rattle.std.proofs.Common.{◌+◌, ℕ, List, ap, ◌∙◌, arith}
use Rattle.dwc.specs.Guard.{twin_text}
use Rattle.dwc.proofs.Making.{twin_room, twin_more}
use Rattle.dwc.proofs.twins.push_twin.Goals as goal

pub push_body-requires-clause-room : goal.push_body-requires-clause-room
push_body-requires-clause-room c = twin_room c.args.n.now.net c.args.i (c.input_count.result + c.args.i) c.args.c c.args.made.now c.requires.node (omega (arith, c.input_count.ensures.count)) c.requires.copy c.requires.valid c.requires.made

pub returns : goal.returns
returns c =
    twin_more c.args.n.now.net c.args.i (c.input_count.result + c.args.i) c.args.c c.args.made.now _ c.in_ok-name.name c.requires.node (omega (arith, c.input_count.ensures.count)) c.requires.copy c.requires.valid c.requires.made
    (c.in_ok-name.ensures ∙ ap (λ (a : List ℕ). twin_text a c.args.c) c.name.ensures) c.in_ok-insert.ensures.keys c.in_ok-push_body.ensures
