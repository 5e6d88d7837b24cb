use Rattle.std.proofs.Common.{ap}
use Rattle.std.proofs.lemmas.Bool.Decides.{Decides-eqb}
use Rattle.std.proofs.lemmas.Slice.Eq.{slice_eq-Decides}
use Rattle.table_cover.specs.Rows.{cut_rows}
use Rattle.table_cover.proofs.RowLaws.{cut_rows_same}
use Rattle.table_cover.proofs.rows.same_rows.Goals as goal

pub returns : goal.returns
returns c =
    let same = slice_eq-Decides Decides-eqb c.args.a.now c.args.b.now c.eq.result c.eq.ensures in
    (λ t. ap (cut_rows c.args.width c.args.count) (same.0 t), λ e. same.1 (cut_rows_same c.args.width c.args.count c.args.a.now c.args.b.now c.requires.a c.requires.b e))
