use Rattle.std.proofs.Common.{rules, ◌≡◌, ◌∷◌, ◌∙◌, ap, Some, length}
use Rattle.blif_text.specs.Private.Answers.{plain}
use Rattle.blif_text.specs.Kind.{row_kind}
use Rattle.blif_text.specs.Private.Progress.{shape_of, with_row}
use Rattle.blif_text.proofs.Tables.{kind_as_kept, row_as_kept}
use Rattle.blif_text.proofs.Refusals.{answers_so}
use Rattle.blif_text.proofs.statements.table.OpenTable.push_row.Goals as goal

pub returns : goal.returns
returns c =
    let t = c.self.inside in
    let tokens = c.args.first.now ∷ plain c.args.arguments.now in
    let w : c.len-width.result ≡ length t.pins.items = search rules in
    answers_so c.put_row.result _ _ _ _
    (kind_as_kept t.pins.items t.out t.cover c.len-width.result tokens w ∙ ap (λ t. row_kind (Some (shape_of t)) tokens) c.self.view_is)
    (λ _ more. row_as_kept t.pins.items t.out t.cover c.put_row.new.cover c.len-width.result tokens w more ∙ ap (with_row tokens) c.self.view_is)
    c.put_row.ensures.row
