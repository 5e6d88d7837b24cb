use Rattle.std.proofs.Common.{ℕ, List, ◌≡◌, ℕ, ◌+◌, ◌-◌, ◌*◌, ◌||◌, Bool, length, ap, sym, ◌∙◌, arith}
use Rattle.table_cover.specs.Cover.{row_matches, some_row_matches}
use Rattle.table_cover.specs.Rows.{cut_rows}
use Rattle.table_cover.specs.Words.{bits_of}
use Rattle.table_cover.proofs.RowLaws.{cut_rows-next, rest_long}
use Rattle.table_cover.proofs.WordLaws.{word_bit_zero, any_next}
use Rattle.table_cover.proofs.rows.wide_some_row.Goals as goal

all_rows : (count : ℕ) → count - 0 ≡ count
all_rows count = omega arith

pub loop-next-init : goal.loop-next-init
loop-next-init c = record {
  same = λ j l.
      ap (λ (b : Bool). b || some_row_matches (cut_rows c.args.width (c.args.count - 0) c.args.marks.now) (bits_of j c.args.words.now)) (word_bit_zero j)
      ∙ ap (λ (n : ℕ). some_row_matches (cut_rows c.args.width n c.args.marks.now) (bits_of j c.args.words.now)) (all_rows c.args.count);
  long = c.requires.long ∙ ap (λ (n : ℕ). n * c.args.width) (sym (all_rows c.args.count));
}

pub loop-next-preserved : goal.loop-next-preserved
loop-next-preserved c = record {
  same = λ j l.
      let next : some_row_matches (cut_rows c.args.width (c.args.count - c.loop-next._next) c.loop-next.rest.now) (bits_of j c.args.words.now) ≡ (row_matches c.split_at.result.0.now (bits_of j c.args.words.now) || some_row_matches (cut_rows c.args.width (c.args.count - (c.loop-next._next + 1)) c.split_at.result.1.now) (bits_of j c.args.words.now)) =
      rw (c.split_at.ensures.front, c.split_at.ensures.back) (ap (λ (rs : List (List ℕ)). some_row_matches rs (bits_of j c.args.words.now)) (cut_rows-next c.args.width c.args.count c.loop-next._next c.loop-next.rest.now c.loop-next-test.true)) in
      any_next j c.loop-next.any c.wide_row-any.result _ _ (some_row_matches (cut_rows c.args.width (c.args.count - (c.loop-next._next + 1)) c.split_at.result.1.now) (bits_of j c.args.words.now)) _ (c.loop-next.invariant.same j l) (c.wide_row-any.ensures j l) next;
  long = ap length c.split_at.ensures.back ∙ rest_long c.args.width c.args.count c.loop-next._next c.loop-next.rest.now c.loop-next-test.true c.loop-next.invariant.long;
}
