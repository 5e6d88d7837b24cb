use Rattle.std.proofs.Common.{◌≡◌, ℕ, ◌∙◌, Bool, true, false, cond, Option, Some, unwrap_or, refl, ap}
use Rattle.partitioner.specs.Private.Counting.{same_spot}
use Rattle.std.specs.HashMap.{get}
use Rattle.partitioner.proofs.counts.counting.set_count.Goals as goal

put_through : (b : Bool) (k : ℕ) (o : Option ℕ) → unwrap_or (cond b (Some k) o) 0 ≡ cond b k (unwrap_or o 0)
put_through true k o = refl
put_through false k o = refl

pub returns : goal.returns
returns c = λ y q.
    ap (λ (o : Option ℕ). unwrap_or o 0) (c.in_ok-insert.ensures.updates.0 (y, q))
    ∙ put_through (same_spot (c.args.x, c.args.p) (y, q)) c.args.count (get same_spot c.args.counts.now (y, q))
