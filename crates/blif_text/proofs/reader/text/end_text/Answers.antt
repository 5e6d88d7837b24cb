use Rattle.std.proofs.Common.{◌++◌, ◌∷◌, [], sym, subst}
use Rattle.blif_text.specs.Reading.{Reads}
use Rattle.blif_text.proofs.Taken.{read_well, read_badly, read_badly_last, passed_reading}
use Rattle.blif_text.proofs.reader.text.end_text.Goals as goal

pub returns-in_err-end_line : goal.returns-in_err-end_line
returns-in_err-end_line c = λ given s. passed_reading _ _ c.in_err-end_line.field-0.0 c.from_residual.ensures.0 c.from_residual.ensures.1
    (read_badly given c.in_err-end_line.field-0.0 (c.in_err-end_line.ensures.bad given s))

pub returns-in_err-end_line-2 : goal.returns-in_err-end_line-2
returns-in_err-end_line-2 c = λ given s. passed_reading _ _ c.in_err-end_line-2.field-0.0 c.from_residual-in_err-end_line-2.ensures.0 c.from_residual-in_err-end_line-2.ensures.1
    (read_badly_last given c.in_err-end_line-2.field-0.0 (c.in_err-end_line-2.ensures.bad (given ++ 10 ∷ []) (c.in_ok-end_line.ensures.ok given s)))

pub returns : goal.returns
returns c = λ given s. subst (Reads c.ended.result)
    (sym (read_well c.end_line-2.new.lines c.end_line-2.new.progress given (c.in_ok-end_line-2.ensures.ok (given ++ 10 ∷ []) (c.in_ok-end_line.ensures.ok given s)))) c.ended.ensures
