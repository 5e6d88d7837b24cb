-- A design has no more outputs than nets.
use Rattle.std.proofs.Common.{◌≡◌, ◌≢◌, ℕ, ◌<◌, ◌≤◌, ◌∙◌, arith, true, List, length, get_or, All, Any, eqb}
use Rattle.std.proofs.lemmas.Bool.{ne_eqb, eqb-true}
use Rattle.std.proofs.lemmas.Map.Keys.{IsDistinct-from_apart}
use Rattle.std.proofs.lemmas.Map.Steps.{length-le_from_distinct_below}
use Rattle.std.proofs.lemmas.List.Folds.{Any-from_list_any}
use Rattle.std.proofs.lemmas.List.{get_or_default}
use Rattle.flat_net.specs.Net.{Net, net_count, IsValid}

pub outputs_few : (n : Net) → IsValid n → length n.outputs ≤ net_count n
outputs_few n valid = few_apart n.outputs (net_count n) valid.unordered.outputs_differ valid.unordered.outputs_in_range
  where
    few_apart : (xs : List ℕ) (m : ℕ) → ((j k : ℕ) → j < k → k < length xs → get_or xs j 0 ≢ get_or xs k 0) → All (λ x. x < m) xs → length xs ≤ m
    few_apart xs m apart below = length-le_from_distinct_below xs m (IsDistinct-from_apart eqb xs (λ j k b jk h. ne_eqb _ _ (λ e. apart j k jk h (get_or_default xs j 0 b (omega arith) ∙ (e ∙ get_or_default xs k b 0 h))))) (λ q t. go q (Any-from_list_any (eqb q) xs t))
      where
        go : (q : ℕ) → Any (λ x. eqb q x ≡ true) xs → q < m
        go q (k, v, l, at, h) = let b = below k v l in omega (arith, b, eqb-true q v h, at)
