use Rattle.std.proofs.Common.{sym, ◌∙◌, ap}
use Rattle.table_cover.specs.Cover.{PlainCover}
use Rattle.blif_text.specs.Models.{Table, table}
use Rattle.blif_text.proofs.Tables.{table_is}
use Rattle.blif_text.proofs.statements.table.OpenTable.ended.Goals as goal

pub returns : goal.returns
returns c =
    ap (λ (cover : PlainCover). Table c.self.inside.pins.items c.self.inside.out cover) c.share.ensures
    ∙ (sym (table_is c.self.inside.pins.items c.self.inside.out c.self.inside.cover c.self.invariant c.width-width.ensures.cover.empty_is_on)
    ∙ ap (λ t. table t.tokens t.rows) c.self.view_is)
