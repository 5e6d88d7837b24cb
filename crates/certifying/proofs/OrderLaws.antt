-- What a cycle names are vertices.
use Rattle.std.proofs.Common.{ℕ, ◌<◌, ◌≤◌, List, length, get_or, arith}
use Rattle.std.proofs.lemmas.List.{get_or_default}
use Rattle.graph.specs.Orders.{Reached, is_root, is_read, IsCycle}

reached_vertex : (rows : List (List ℕ)) (roots x : ℕ) → roots ≤ length rows → Reached rows roots x → x < length rows
reached_vertex rows roots _ few (is_root x l) = omega (arith, few, l)
reached_vertex rows roots _ few (is_read x y r follows) = follows.vertex

pub cycle_within : (rows : List (List ℕ)) (roots : ℕ) (cycle : List ℕ) → IsCycle rows roots cycle → roots ≤ length rows → (k d : ℕ) → k < length cycle → get_or cycle k d < length rows
cycle_within rows roots cycle is few k d l =
    let at = reached_vertex rows roots (get_or cycle k 0) few (is.reached k l) in
    omega (arith, at, get_or_default cycle k d 0 l)
