use Rattle.std.proofs.Common.{◌≡◌, ℕ, ◌<◌, ◌≤◌, length, Option}
use Rattle.certifying.specs.Private.Forests.{IsForest, GoesAlong}
use Rattle.certifying.proofs.forest.root.Given as goal

abbrev pub invariant-loop-x : goal.invariant-loop-x
invariant-loop-x l = record {
  long : length l.up.items ≡ length l.fn.up.items;
  bound : l.a < length l.fn.up.items;
  forest : IsForest l.up.items;
  within : l.x ≤ l.a;
  same : (f : ℕ → Option ℕ) → GoesAlong f l.fn.up.items → f l.x ≡ f l.a;
  along : (f : ℕ → Option ℕ) → GoesAlong f l.fn.up.items → GoesAlong f l.up.items;
}

abbrev pub decreases-loop-x : goal.decreases-loop-x
decreases-loop-x l = l.x
