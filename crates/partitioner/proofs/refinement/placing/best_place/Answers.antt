use Rattle.std.proofs.Common.{◌≡◌, ◌+◌, ◌∙◌, ℕ, true, List, sym, ap, subst, IsPermutation, refl}
use Rattle.node_reads.specs.Sources.{other_sources}
use Rattle.partitioner.specs.Private.Leading.{LeadsOrLoses, is_settled, start_of}
use Rattle.partitioner.proofs.LossLaws.{sources_below}
use Rattle.partitioner.proofs.PlaceLaws.{settled_place, exhausted_place, readers_tried, source_tried, missed_loses, all_place}
use Rattle.partitioner.proofs.refinement.placing.best_place.Goals as goal

pub loop-x-init : goal.loop-x-init
loop-x-init c =
    (c.consider_readers-lead.ensures.lead, readers_tried c.args.mover.now.net.now.net c.args.mover.now.size c.args.mover.now.parts.now c.args.mover.now.node c.consider_readers-lead.result.place c.row-x-items.result.now c.consider_readers-lead.ensures.tried, refl, c.requires.hints)

pub returns-then-is_settled-clause-place : goal.returns-then-is_settled-clause-place
returns-then-is_settled-clause-place c =
    let perm : IsPermutation (other_sources c.args.mover.now.net.now.net c.args.mover.now.node) c.row-x-items.result.now = subst (λ (row : List ℕ). IsPermutation (other_sources c.args.mover.now.net.now.net c.args.mover.now.node) row) (sym c.row-x-items.ensures) (c.requires.counted.tracks.sources c.args.mover.now.node c.requires.counted.node) in
    let settled : is_settled c.loop-x.lead (start_of c.args.mover.now.parts.now c.args.mover.now.node) (c.loop-x.x-index + 1) ≡ true =
    ap (λ (s : ℕ). is_settled c.loop-x.lead s (c.loop-x.x-index + 1)) (sym c.part_of-start.ensures.value) ∙ (ap (λ (t : ℕ). is_settled c.loop-x.lead c.part_of-start.result t) (sym c.loop-x.invariant.2) ∙ sym c.if-is_settled.ensures) in
    settled_place c.args.mover.now.net.now.net c.args.mover.now.size c.args.mover.now.parts.now c.args.mover.now.node c.loop-x.x-index c.row-x-items.result.now c.loop-x.lead c.requires.counted.tracks c.requires.counted.node perm c.loop-x.invariant.0 c.loop-x.invariant.1 settled

pub consider_source-lead-requires-clause-read : goal.consider_source-lead-requires-clause-read
consider_source-lead-requires-clause-read c =
    let perm : IsPermutation (other_sources c.args.mover.now.net.now.net c.args.mover.now.node) c.row-x-items.result.now = subst (λ (row : List ℕ). IsPermutation (other_sources c.args.mover.now.net.now.net c.args.mover.now.node) row) (sym c.row-x-items.ensures) (c.requires.counted.tracks.sources c.args.mover.now.node c.requires.counted.node) in
    sources_below c.args.mover.now.net.now.net c.args.mover.now.node c.row-x-items.result.now perm c.loop-x.x-index 0 c.loop-x-test.true

pub loop-x-preserved : goal.loop-x-preserved
loop-x-preserved c =
    let now = c.consider_source-lead.result in (
      c.consider_source-lead.ensures.lead,
      source_tried c.args.mover.now.net.now.net c.args.mover.now.size c.args.mover.now.parts.now c.args.mover.now.node c.loop-x.lead.place now.place c.row-x-items.result.now c.loop-x.x-index c.loop-x-test.true c.loop-x.invariant.1
          c.consider_source-lead.ensures.kept c.consider_source-lead.ensures.own c.consider_source-lead.ensures.tried,
      ap (λ (t : ℕ). t + 1) c.loop-x.invariant.2,
      c.consider_source-lead.ensures.hints,
    )

pub returns-clause-place : goal.returns-clause-place
returns-clause-place c =
    let perm : IsPermutation (other_sources c.args.mover.now.net.now.net c.args.mover.now.node) c.row-x-items.result.now = subst (λ (row : List ℕ). IsPermutation (other_sources c.args.mover.now.net.now.net c.args.mover.now.node) row) (sym c.row-x-items.ensures) (c.requires.counted.tracks.sources c.args.mover.now.node c.requires.counted.node) in
    exhausted_place c.args.mover.now.net.now.net c.args.mover.now.size c.args.mover.now.parts.now c.args.mover.now.node c.loop-x.x-index c.row-x-items.result.now c.loop-x.lead c.requires.counted.tracks c.requires.counted.node perm c.loop-x.invariant.0 c.loop-x.invariant.1 c.loop-x-test.false

pub consider_source-lead-requires-clause-least : goal.consider_source-lead-requires-clause-least
consider_source-lead-requires-clause-least c = λ q h room.
    let perm : IsPermutation (other_sources c.args.mover.now.net.now.net c.args.mover.now.node) c.row-x-items.result.now = subst (λ (row : List ℕ). IsPermutation (other_sources c.args.mover.now.net.now.net c.args.mover.now.node) row) (sym c.row-x-items.ensures) (c.requires.counted.tracks.sources c.args.mover.now.node c.requires.counted.node) in
    subst (λ (tried : ℕ). LeadsOrLoses c.args.mover.now.net.now.net c.args.mover.now.parts.now c.args.mover.now.node c.loop-x.lead.place tried q) (sym c.loop-x.invariant.2)
    (missed_loses c.args.mover.now.net.now.net c.args.mover.now.size c.args.mover.now.parts.now c.args.mover.now.node c.loop-x.lead.place c.row-x-items.result.now c.loop-x.x-index perm c.loop-x.invariant.1 q h room)

pub returns-then-is_scanned-clause-place : goal.returns-then-is_scanned-clause-place
returns-then-is_scanned-clause-place c =
    all_place c.args.mover.now.net.now.net c.args.mover.now.size c.args.mover.now.parts.now c.args.mover.now.node c.consider_blocks.result c.requires.counted.tracks c.requires.counted.node c.consider_blocks.ensures.lead c.consider_blocks.ensures.tried
