use Rattle.std.proofs.Common.{◌≡◌, ◌∙◌, ℕ, true, sym, ap, rules}
use Rattle.partitioner.specs.declared.refinement.placing.Lead.{Lead}
use Rattle.partitioner.specs.Private.Leading.{IsLead, is_settled, start_of}
use Rattle.partitioner.specs.Private.Gaining.{IsCounted}
use Rattle.partitioner.proofs.GainLaws.{most_few}
use Rattle.partitioner.proofs.PlaceLaws.{settled_at_once, settled_content}
use Rattle.partitioner.proofs.refinement.placing.place_of.Goals as goal

pub least_loss-requires : goal.least_loss-requires
least_loss-requires c = most_few c.args.n.now.net c.args.p.now c.args.i c.count_gains.new.gains c.count_gains.ensures.gains

pub returns-then-is_settled-clause-place : goal.returns-then-is_settled-clause-place
returns-then-is_settled-clause-place c =
    let lead : Lead = record { place = c.part_of-start.result; loss = c.loss_up_to.result } in
    let least : ℕ = c.least_loss.result in
    let is : IsLead c.args.n.now.net c.args.size c.args.p.now c.args.i lead = search rules in
    let counted : IsCounted c.args.n.now.net c.args.p.now c.args.i c.count_gains.new.gains = record { tracks = c.requires.ready.tracks; kept = c.count_gains.ensures.kept; gained = c.count_gains.ensures.gains; node = c.requires.node } in
    let settled : is_settled lead (start_of c.args.p.now c.args.i) least ≡ true = ap (λ (s : ℕ). is_settled lead s least) (sym c.part_of-start.ensures.value) ∙ sym c.if-is_settled.ensures in
    settled_at_once c.args.n.now.net c.args.size c.args.p.now c.args.i least lead c.requires.ready.tracks c.requires.node is (λ q. c.least_loss.ensures.least c.args.n.now.net c.args.p.now c.args.i q counted) settled

pub returns-then-is_settled-clause-content : goal.returns-then-is_settled-clause-content
returns-then-is_settled-clause-content c = λ known.
    let lead : Lead = record { place = c.part_of-start.result; loss = c.loss_up_to.result } in
    let least : ℕ = c.least_loss.result in
    let is : IsLead c.args.n.now.net c.args.size c.args.p.now c.args.i lead = search rules in
    let counted : IsCounted c.args.n.now.net c.args.p.now c.args.i c.count_gains.new.gains = record { tracks = c.requires.ready.tracks; kept = c.count_gains.ensures.kept; gained = c.count_gains.ensures.gains; node = c.requires.node } in
    let settled : is_settled lead (start_of c.args.p.now c.args.i) least ≡ true = ap (λ (s : ℕ). is_settled lead s least) (sym c.part_of-start.ensures.value) ∙ sym c.if-is_settled.ensures in
    settled_content c.args.n.now.net c.args.size c.args.p.now c.args.i least lead is c.part_of-start.ensures.value (λ q. c.least_loss.ensures.least c.args.n.now.net c.args.p.now c.args.i q counted) settled
