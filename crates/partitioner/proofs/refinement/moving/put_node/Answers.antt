use Rattle.std.proofs.Common.{◌≡◌, ◌<◌, ◌≤◌, ◌+◌, ◌-◌, ◌∙◌, ℕ, true, eqb, List, length, get_or, set, sym, ap, subst, arith}
use Rattle.std.specs.List.{All, count_by}
use Rattle.std.proofs.lemmas.List.{length-set}
use Rattle.std.proofs.lemmas.List.Elements.{All-set}
use Rattle.node_reads.specs.Sources.{reads_other, is_wide, wide_sources}
use Rattle.node_reads.specs.Private.Marking.{marked_by_row}
use Rattle.partitioner.specs.Private.Counting.{count_at}
use Rattle.partitioner.specs.Private.Moving.{Shifts}
use Rattle.partitioner.specs.Sizes.{held}
use Rattle.node_reads.proofs.WideRows.{wide_below, wide_read, wide_pass}
use Rattle.partitioner.specs.Private.Marks.{is_marked}
use Rattle.partitioner.proofs.NearLaws.{marks_moved}
use Rattle.partitioner.proofs.HeldLaws.{held_some, held_shifted, held_moved}
use Rattle.partitioner.proofs.ShiftLaws.{wide_once, source_counted, readers_within, counts_moved}
use Rattle.partitioner.proofs.refinement.moving.put_node.Goals as goal

pub shift_counts-requires-clause-once : goal.shift_counts-requires-clause-once
shift_counts-requires-clause-once c =
    let row : c.row.result.now ≡ wide_sources c.args.n.now.net c.args.i = c.row.ensures ∙ c.requires.tracks.wide c.args.i c.requires.node in
    subst (λ (row : List ℕ). All (λ x. count_by (λ y. eqb y x) row ≤ 1) row) (sym row) (wide_once c.args.n.now.net c.args.i)

pub shift_counts-requires-clause-counted : goal.shift_counts-requires-clause-counted
shift_counts-requires-clause-counted c =
    let row : c.row.result.now ≡ wide_sources c.args.n.now.net c.args.i = c.row.ensures ∙ c.requires.tracks.wide c.args.i c.requires.node in
    subst (λ (row : List ℕ). All (λ x. 0 < count_at c.args.p.now.counts x c.part_of-a.result) row) (sym row)
    (λ k d l. counted (get_or (wide_sources c.args.n.now.net c.args.i) k d) (wide_below c.args.n.now.net c.args.i k d l) (wide_read c.args.n.now.net c.args.i k d l) (wide_pass c.args.n.now.net c.args.i k d l))
  where
    counted : (x : ℕ) → x < length c.args.n.now.net.nodes → reads_other c.args.n.now.net c.args.i x ≡ true → is_wide c.args.n.now.net x ≡ true → 0 < count_at c.args.p.now.counts x c.part_of-a.result
    counted x within reads wide =
        let some = source_counted c.args.n.now.net c.args.p.now.of.items c.args.i x c.requires.node reads in
        subst (λ (a : ℕ). 0 < count_at c.args.p.now.counts x a) (sym c.part_of-a.ensures.value)
        (omega (arith, some, c.requires.tracks.counts x (get_or c.args.p.now.of.items c.args.i 0) within (omega (arith, c.part_of-a.ensures.range, c.part_of-a.ensures.value)) wide))

pub shift_counts-requires-clause-few : goal.shift_counts-requires-clause-few
shift_counts-requires-clause-few c =
    let row : c.row.result.now ≡ wide_sources c.args.n.now.net c.args.i = c.row.ensures ∙ c.requires.tracks.wide c.args.i c.requires.node in
    subst (λ (row : List ℕ). All (λ x. count_at c.args.p.now.counts x c.args.b < 4294967295) row) (sym row)
    (λ k d l. few (get_or (wide_sources c.args.n.now.net c.args.i) k d) (wide_below c.args.n.now.net c.args.i k d l) (wide_pass c.args.n.now.net c.args.i k d l))
  where
    few : (x : ℕ) → x < length c.args.n.now.net.nodes → is_wide c.args.n.now.net x ≡ true → count_at c.args.p.now.counts x c.args.b < 4294967295
    few x within wide = omega (arith, c.requires.tracks.counts x c.args.b within c.requires.partition wide, readers_within c.args.n.now.net c.args.p.now.of.items x c.args.b, c.requires.tracks.few)

pub returns-clause-tracks : goal.returns-clause-tracks
returns-clause-tracks c =
    let n = c.args.n.now.net in
    let p = c.args.p.now in
    let of = p.of.items in
    let i = c.args.i in
    let b = c.args.b in
    let tracks = c.requires.tracks in
    let row : c.row.result.now ≡ wide_sources n i = c.row.ensures ∙ tracks.wide i c.requires.node in
    let within : i < length of = omega (arith, tracks.long, c.requires.node) in
    let shifts : Shifts (count_at p.counts) (count_at c.shift_counts.new.counts) (marked_by_row (wide_sources n i) (length (wide_sources n i))) (get_or of i 0) b =
    subst (λ (a : ℕ). Shifts (count_at p.counts) (count_at c.shift_counts.new.counts) (marked_by_row (wide_sources n i) (length (wide_sources n i))) a b) c.part_of-a.ensures.value
    (subst (λ (row : List ℕ). Shifts (count_at p.counts) (count_at c.shift_counts.new.counts) (marked_by_row row (length row)) c.part_of-a.result b) row c.in_ok-shift_counts.ensures) in
    let a_in : get_or of i 0 < p.count = omega (arith, c.part_of-a.ensures.range, c.part_of-a.ensures.value) in
    let a_long : get_or of i 0 < length p.held.items = omega (arith, a_in, tracks.held_long) in
    let b_long : b < length p.held.items = omega (arith, c.requires.partition, tracks.held_long) in
    let some : 0 < get_or p.held.items (get_or of i 0) 0 = omega (arith, held_some of i within, tracks.held_right (get_or of i 0) a_in) in
    let holds : c.shift_held.new.held.items ≡ set (set p.held.items (get_or of i 0) (get_or p.held.items (get_or of i 0) 0 - 1)) b (get_or p.held.items b 0 + 1) =
    c.shift_held.ensures ∙ ap (λ (a : ℕ). set (set p.held.items a (get_or p.held.items a 0 - 1)) b (get_or p.held.items b 0 + 1)) c.part_of-a.ensures.value in
    record {
      few = tracks.few;
      long = length-set of i b ∙ tracks.long;
      in_range = All-set (λ q. q < p.count) of i b c.requires.partition tracks.in_range;
      readers = tracks.readers;
      sources_long = tracks.sources_long;
      sources = tracks.sources;
      wide_long = tracks.wide_long;
      wide = tracks.wide;
      held_long = ap length holds ∙ (length-set (set p.held.items (get_or of i 0) (get_or p.held.items (get_or of i 0) 0 - 1)) b (get_or p.held.items b 0 + 1) ∙ (length-set p.held.items (get_or of i 0) (get_or p.held.items (get_or of i 0) 0 - 1) ∙ tracks.held_long));
      held_right = λ q l.
          let shifted = held_shifted p.held.items (get_or of i 0) b q a_long b_long c.requires.apart some in
          let moved = held_moved of i b q within in
          let was = tracks.held_right q l in
          let now : get_or (set (set p.held.items (get_or of i 0) (get_or p.held.items (get_or of i 0) 0 - 1)) b (get_or p.held.items b 0 + 1)) q 0 ≡ held (set of i b) q = omega (arith, shifted, moved, was) in
          ap (λ (h : List ℕ). get_or h q 0) holds ∙ now;
      counts = λ x q l m wide. counts_moved n of i b x q (count_at p.counts) (count_at c.shift_counts.new.counts) within c.requires.node l wide (tracks.counts x q l m wide) shifts;
      marks = marks_moved n of p.count i b p.marks c.mark_row.new.marks within c.requires.node c.requires.partition c.requires.apart tracks.marks (c.mark_row.ensures.long ∙ c.mark.ensures.long)
          (λ z. c.mark_row.ensures.rows z ∙ c.mark.ensures.rows z) (λ z r h. c.mark_row.ensures.kept z r (c.mark.ensures.kept z r h)) (c.mark_row.ensures.kept i b c.mark.ensures.added)
          (subst (λ (row : List ℕ). All (λ x. is_marked c.mark_row.new.marks x b ≡ true) row) (c.row-2.ensures ∙ tracks.wide i c.requires.node) c.mark_row.ensures.row);
    }

pub mark_row-requires : goal.mark_row-requires
mark_row-requires c =
    let row : c.row-2.result.now ≡ wide_sources c.args.n.now.net c.args.i = c.row-2.ensures ∙ c.requires.tracks.wide c.args.i c.requires.node in
    subst (λ (bound : ℕ). All (λ x. x < bound) c.row-2.result.now) (sym (c.mark.ensures.long ∙ c.requires.tracks.marks.long))
    (subst (λ (xs : List ℕ). All (λ x. x < length c.args.n.now.net.nodes) xs) (sym row) (wide_below c.args.n.now.net c.args.i))
