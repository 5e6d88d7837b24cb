use Rattle.std.proofs.Common.{◌<◌, ◌∙◌, ℕ, List, length, sym, ap, subst, arith}
use Rattle.std.specs.List.{All}
use Rattle.partitioner.specs.Sizes.{held}
use Rattle.partitioner.proofs.counts.tracking.placed.Goals as goal

pub held_of-requires-clause-in_range : goal.held_of-requires-clause-in_range
held_of-requires-clause-in_range c =
    subst (λ (of : List ℕ). All (λ q. q < c.count-count.result) of) (sym c.as_slice.ensures.value)
    (subst (λ (count : ℕ). All (λ q. q < count) c.in_ok-of.of.items) (sym c.count-count.ensures) c.in_ok-of.ensures.in_range)

pub returns-clause-placed : goal.returns-clause-placed
returns-clause-placed c =
    record {
      few = omega (arith, c.nodes_of-nodes.ensures.few);
      long = ap length c.in_ok-of.ensures.same ∙ c.requires.parts;
      in_range = subst (λ (count : ℕ). All (λ q. q < count) c.in_ok-of.of.items) (sym c.count-count.ensures) c.in_ok-of.ensures.in_range;
      reads = c.requires.reads;
      held_long = c.in_ok-held.ensures.long;
      held_right = λ q l. c.in_ok-held.ensures.held q l ∙ ap (λ (of : List ℕ). held of q) c.as_slice.ensures.value;
    }
