-- What a search for an order ends with.
use Rattle.std.specs.Prelude.{ℕ, List}
use Rattle.graph.specs.declared.ordering.Sorted.{Sorted}
use Rattle.graph.specs.declared.ordering.Sorted.TheVariants.{Order, Cycle}
use Rattle.graph.specs.Orders.{IsOrder, IsCycle}

-- an order of the reached vertices, or a cycle of reached vertices
abbrev pub IsSorted : List (List ℕ) → ℕ → Sorted → Type 0
IsSorted rows roots (Order order) = IsOrder rows roots order.items
IsSorted rows roots (Cycle cycle) = IsCycle rows roots cycle.items
