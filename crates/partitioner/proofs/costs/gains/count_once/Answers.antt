use Rattle.std.proofs.Common.{◌≡◌, ◌+◌, ◌∙◌, ℕ, ap, sym, subst}
use Rattle.std.proofs.lemmas.List.{get_or_default}
use Rattle.std.specs.Prelude.{max}
use Rattle.std.specs.Vec.{with_item}
use Rattle.partitioner.specs.Private.Gaining.{IsMost, near_in, spot_at}
use Rattle.partitioner.specs.declared.costs.gains.Gains.{Gains}
use Rattle.partitioner.specs.declared.costs.gains.Spot.{Spot}
use Rattle.partitioner.proofs.GainLaws.{most_goes_on, near_raised, near_since}
use Rattle.partitioner.proofs.costs.gains.count_once.Goals as goal

pub returns-clause-most : goal.returns-clause-most
returns-clause-most c =
    let old = c.args.gains.now in
    let new : Gains = record { counted = old.counted; most = old.most; from = old.from; turn = old.turn; spots = with_item old.spots c.args.q (record { near = c.near_since-near.result + 1; last = old.turn }) } in
    let none : Spot = record { near = 0; last = 0 } in
    let spot : c.index-spot.result.now ≡ spot_at old.spots.items c.args.q = c.index-spot.ensures ∙ sym (get_or_default old.spots.items c.args.q none c.index-spot.result.now c.requires.long) in
    let now : c.near_since-near.result ≡ near_in old c.args.q = c.near_since-near.ensures ∙ ap (near_since old.from) spot in
    subst (λ (most : ℕ). IsMost (near_in new) most) (ap (λ (k : ℕ). max old.most (k + 1)) (sym now) ∙ sym c.max-gains.ensures)
    (most_goes_on (near_in old) (near_in new) old.most c.args.q c.requires.most (λ r. near_raised old.spots.items old.from old.turn c.args.q r c.near_since-near.result c.requires.long c.requires.turn now))
