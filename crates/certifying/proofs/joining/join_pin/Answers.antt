use Rattle.std.proofs.Common.{◌-◌, ap}
use Rattle.certifying.proofs.JoinLaws.{joined_copy, joined_voter}
use Rattle.certifying.proofs.joining.join_pin.Goals as goal

pub returns-in-Copy : goal.returns-in-Copy
returns-in-Copy c =
    joined_copy c.args.n.now.net c.args.h.now.net c.args.k.now c.args.joined.now.up.items c.join.new.up.items c.args.joined.now.readers.items c.args.g.0 c.args.y.0 c.args.j c.pin-p.result.0 c.in-Copy.node.0 (c.in-Copy.node.0 - c.input_count-original.result) (c.args.y.0 - c.input_count-original.result) c.in-Copy.copy
    c.requires.joined (record { copy = c.requires.copy.0; role = c.requires.copy.1; within = c.requires.pin; is = c.pin-p.ensures.value }) c.in-Copy.ensures.role
    (ap (λ z. c.in-Copy.node.0 - z) c.input_count-original.ensures.count) (ap (λ z. c.args.y.0 - z) c.input_count-original.ensures.count)
    c.join.ensures.forest c.join.ensures.long c.join.ensures.along

pub returns-in-Voter : goal.returns-in-Voter
returns-in-Voter c =
    joined_voter c.args.n.now.net c.args.h.now.net c.args.k.now c.args.joined.now.up.items c.join_reader.new.up.items c.args.joined.now.readers.items c.join_reader.new.readers.items c.args.g.0 c.args.y.0 c.args.j c.pin-p.result.0 c.in-Voter.node.0 c.in-Voter.part.0
    (c.pin-p.result.0 - c.input_count-inputs.result) (c.args.y.0 - c.input_count-original.result) c.in-Voter.copy
    c.requires.joined (record { copy = c.requires.copy.0; role = c.requires.copy.1; within = c.requires.pin; is = c.pin-p.ensures.value }) c.in-Voter.ensures.role
    (ap (λ z. c.pin-p.result.0 - z) c.input_count-inputs.ensures.count) (ap (λ z. c.args.y.0 - z) c.input_count-original.ensures.count)
    c.join_reader.ensures.forest c.join_reader.ensures.up_long c.join_reader.ensures.readers_long c.join_reader.ensures.along c.join_reader.ensures.readers
