use Rattle.std.proofs.Common.{◌≡◌, ◌<◌, ◌∙◌, ℕ, List, length, get_or, sym, subst, below_more, arith}
use Rattle.std.proofs.lemmas.List.{get_or_default}
use Rattle.node_reads.specs.Sources.{reads_other, other_readers}
use Rattle.partitioner.specs.Private.Leading.{LeadsOpen, start_of}
use Rattle.node_reads.proofs.SourceLaws.{rows_below}
use Rattle.partitioner.proofs.refinement.placing.consider_readers.Goals as goal

pub part_of-requires-clause-node : goal.part_of-requires-clause-node
part_of-requires-clause-node c =
    subst (λ (xs : List ℕ). c.loop-y.y-index < length xs → get_or xs c.loop-y.y-index 0 < length c.args.mover.now.net.now.net.nodes) (sym c.row-y-items.ensures)
    (rows_below (reads_other c.args.mover.now.net.now.net) (length c.args.mover.now.net.now.net.nodes) (length c.args.mover.now.net.now.net.nodes) c.args.mover.now.parts.now.readers c.args.x c.loop-y.y-index c.requires.counted.tracks.readers c.requires.read) c.loop-y-test.true

pub loop-y-preserved : goal.loop-y-preserved
loop-y-preserved c =
    record {
      lead = c.consider-lead.ensures.lead;
      kept = λ q h. c.consider-lead.ensures.kept q (c.loop-y.invariant.kept q h);
      tried = below_more _ _ (λ k h room. c.consider-lead.ensures.kept _ (c.loop-y.invariant.tried k h room))
          (subst (λ (q : ℕ). LeadsOpen c.args.mover.now.net.now.net c.args.mover.now.size c.args.mover.now.parts.now c.args.mover.now.node c.consider-lead.result.place q) c.part_of.ensures.value c.consider-lead.ensures.tried);
    }

pub returns-clause-tried : goal.returns-clause-tried
returns-clause-tried c = λ k d h.
    let row : c.row-y-items.result.now ≡ other_readers c.args.mover.now.net.now.net c.args.x = c.row-y-items.ensures ∙ c.requires.counted.tracks.readers.row c.args.x c.requires.read in
    subst (λ (z : ℕ). LeadsOpen c.args.mover.now.net.now.net c.args.mover.now.size c.args.mover.now.parts.now c.args.mover.now.node c.loop-y.lead.place (start_of c.args.mover.now.parts.now z)) (get_or_default (other_readers c.args.mover.now.net.now.net c.args.x) k 0 d h)
    (subst (λ (xs : List ℕ). k < length xs → LeadsOpen c.args.mover.now.net.now.net c.args.mover.now.size c.args.mover.now.parts.now c.args.mover.now.node c.loop-y.lead.place (start_of c.args.mover.now.parts.now (get_or xs k 0))) row
    (λ l. c.loop-y.invariant.tried k (omega (arith, l, c.loop-y-test.false))) h)
