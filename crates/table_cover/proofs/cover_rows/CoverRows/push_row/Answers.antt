use Rattle.std.proofs.Common.{◌≡◌, ◌<◌, ◌++◌, None, length, ap, sym, subst, ◌∙◌, arith}
use Rattle.table_cover.specs.Cover.{PlainCover, IsRow}
use Rattle.table_cover.specs.Rows.{cut_rows}
use Rattle.table_cover.specs.Pushing.{row_fault, with_row}
use Rattle.table_cover.proofs.RowLaws.{length-cut_rows}
use Rattle.table_cover.proofs.CoverLaws.{fits, new_view, new_long, new_is_cover}
use Rattle.table_cover.proofs.cover_rows.CoverRows.push_row.Goals as goal

pub overflow_add-self : goal.overflow_add-self
overflow_add-self c =
    let few : length (cut_rows c.self.inside.width c.self.inside.count c.self.inside.marks.items) < 4294967295 = subst (λ (k : PlainCover). length k.rows < 4294967295) (sym c.self.view_is) c.requires in
    let count = length-cut_rows c.self.inside.width c.self.inside.count c.self.inside.marks.items in
    omega (arith, few, count)

pub invariant_of-self : goal.invariant_of-self
invariant_of-self c =
    let few : length (cut_rows c.self.inside.width c.self.inside.count c.self.inside.marks.items) < 4294967295 = subst (λ (k : PlainCover). length k.rows < 4294967295) (sym c.self.view_is) c.requires in
    let fault : row_fault c.args.self.now c.args.row.now c.args.output ≡ None = cc in
    let fit : IsRow c.self.inside.width c.args.row.now = subst (λ (k : PlainCover). IsRow k.width c.args.row.now) (sym c.self.view_is) (fits c.args.self.now c.args.row.now c.args.output fault) in
    let added : c.extend_from_slice.new.self.items ≡ c.self.inside.marks.items ++ c.args.row.now = c.in-Ok.ensures.ok in (
      new_long c.self.inside.width c.self.inside.count c.self.inside.is_on c.self.inside.marks.items _ c.args.row.now c.args.output c.self.invariant.0 fit added,
      new_is_cover c.self.inside.width c.self.inside.count c.self.inside.is_on c.self.inside.marks.items _ c.args.row.now c.args.output c.self.invariant.0 fit added c.self.invariant.1 few,
    )

pub returns-in-Ok-clause-ok : goal.returns-in-Ok-clause-ok
returns-in-Ok-clause-ok c =
    let fault : row_fault c.args.self.now c.args.row.now c.args.output ≡ None = cc in
    let fit : IsRow c.self.inside.width c.args.row.now = subst (λ (k : PlainCover). IsRow k.width c.args.row.now) (sym c.self.view_is) (fits c.args.self.now c.args.row.now c.args.output fault) in
    let added : c.extend_from_slice.new.self.items ≡ c.self.inside.marks.items ++ c.args.row.now = c.in-Ok.ensures.ok in
    new_view c.self.inside.width c.self.inside.count c.self.inside.is_on c.self.inside.marks.items _ c.args.row.now c.args.output c.self.invariant.0 fit added
    ∙ ap (λ (k : PlainCover). with_row k c.args.row.now c.args.output) c.self.view_is
