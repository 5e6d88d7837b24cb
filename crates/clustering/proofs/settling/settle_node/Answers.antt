use Rattle.std.proofs.Common.{◌≡◌, ◌<◌, ◌≤◌, ℕ, List, length, get_or, subst}
use Rattle.clustering.specs.Private.Settling.{KeepsRoom}
use Rattle.clustering.proofs.SettleLaws.{stands_by}
use Rattle.clustering.proofs.settling.settle_node.Goals as goal

pub returns-clause-put : goal.returns-clause-put
returns-clause-put c =
    let room = c.args.room in
    let wanted = c.args.wanted in
    let first = c.first_free-first.result in
    let place = c.part_for-p.result in
    record {
      place = place;
      is = c.in_ok-put_node.ensures.put;
      stands = stands_by room wanted place first c.args.of.now.items c.args.holds.now.items c.requires.settled
          (subst (λ (xs : List ℕ). KeepsRoom room first xs) c.as_slice.ensures.value c.first_free-first.ensures.keeps)
          (subst (λ (xs : List ℕ). first < length xs) c.as_slice.ensures.value c.first_free-first.ensures.within)
          (subst (λ (xs : List ℕ). get_or xs first 0 < room) c.as_slice.ensures.value c.first_free-first.ensures.free)
          (subst (λ (xs : List ℕ). wanted < length xs → get_or xs wanted 0 < room → place ≡ wanted) c.as_slice-2.ensures.value c.part_for-p.ensures.wanted)
          (subst (λ (xs : List ℕ). (wanted < length xs → room ≤ get_or xs wanted 0) → place ≡ first) c.as_slice-2.ensures.value c.part_for-p.ensures.other);
    }
