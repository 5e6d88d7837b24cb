use Rattle.std.proofs.Common.{◌∙◌, ℕ, List, ap, subst}
use Rattle.partitioner.specs.Private.Tracking.{AreMarks, reader_count}
use Rattle.partitioner.proofs.counts.tracking.tracked.Goals as goal

pub returns-clause-tracks : goal.returns-clause-tracks
returns-clause-tracks c =
    record {
      few = c.requires.few;
      long = c.requires.long;
      in_range = c.requires.in_range;
      readers = c.requires.reads.readers;
      sources_long = c.in_ok-rows.ensures.rows_long;
      sources = c.in_ok-rows.ensures.rows;
      wide_long = c.in_ok-rows.ensures.wide_long;
      wide = c.in_ok-rows.ensures.wide;
      held_long = c.requires.held_long;
      held_right = c.requires.held_right;
      counts = λ x q l m wide. c.in_ok-counts.ensures x q l wide ∙ ap (λ (of : List ℕ). reader_count c.args.n.now.net of x q) c.as_slice.ensures.value;
      marks = subst (λ (of : List ℕ). AreMarks c.args.n.now.net of c.args.placed.count c.in_ok-marks.marks) c.as_slice-2.ensures.value c.in_ok-marks.ensures;
    }
