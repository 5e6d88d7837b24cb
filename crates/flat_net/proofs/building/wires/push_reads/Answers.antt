use Rattle.std.proofs.Common.{◌≡◌, [], ◌∷◌, ap}
use Rattle.std.proofs.lemmas.Bool.{not_from_false}
use Rattle.flat_net.specs.declared.draft.DraftElement.{DraftElement}
use Rattle.flat_net.specs.Draft.{reads_of}
use Rattle.flat_net.specs.DraftView.{plain_element}
use Rattle.flat_net.specs.Faults.{is_no_net, is_among}
use Rattle.flat_net.proofs.Firsts.{none_nil, first_here}
use Rattle.flat_net.proofs.building.wires.push_reads.Goals as goal

pub returns-in-Err-clause-fault : goal.returns-in-Err-clause-fault
returns-in-Err-clause-fault c = λ other.
    let found = c.in-Err.ensures.fault other in
    let reads : reads_of (plain_element c.args.element.now) ≡ c.in-LatchElement.pin ∷ [] = ap (λ (e : DraftElement). reads_of (plain_element e)) c.in-LatchElement.is in
    (c.in-LatchElement.pin, rw reads (first_here (is_no_net c.args.names.now.keys) [] c.in-LatchElement.pin [] (none_nil (is_no_net c.args.names.now.keys)) (not_from_false (is_among c.args.names.now.keys c.in-LatchElement.pin) found.1)), found.0)
