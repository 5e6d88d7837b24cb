use Rattle.std.proofs.Common.{◌≡◌, ◌∙◌, true, false, not, Bool, refl, sym, ap}
use Rattle.std.proofs.lemmas.Bool.{true≢false}
use Rattle.partitioner.specs.Refining.{has_room}
use Rattle.partitioner.specs.Private.Tracking.{held_parts}
use Rattle.partitioner.proofs.counts.spots.shut_full.Goals as goal

pub loop-q-preserved : goal.loop-q-preserved
loop-q-preserved c =
    record {
      free_long = c.shut_spots.ensures.long ∙ c.loop-q.invariant.free_long;
      nets_long = c.loop-q.invariant.nets_long;
      nets = c.loop-q.invariant.nets;
      free = λ x q l m wide some room.
          c.shut_spots.ensures.kept x q
          (λ full e. true≢false (sym room ∙ (ap (has_room c.args.size (held_parts c.args.p.now)) (sym e) ∙ (sym c.has_room-is_full.ensures ∙ no c.has_room-is_full.result full))))
          (c.loop-q.invariant.free x q l m wide some room);
    }
  where
    no : (b : Bool) → not b ≡ true → b ≡ false
    no true e = absurd (true≢false (sym e))
    no false e = refl
