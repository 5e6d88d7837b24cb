use Rattle.std.proofs.Common.{◌≡◌, subst}
use Rattle.blif_text.specs.Private.Answers.{Answers, plain}
use Rattle.blif_text.specs.Kind.{kind_here}
use Rattle.blif_text.specs.Private.Progress.{here_in, more_of}
use Rattle.blif_text.specs.Text.{statement_by}
use Rattle.blif_text.proofs.Steps.{table_first}
use Rattle.blif_text.proofs.progress.model.OpenModel.take.Goals as goal

pub returns-in_ok-end_rows-in_default : goal.returns-in_ok-end_rows-in_default
returns-in_ok-end_rows-in_default c = λ line models.
    let s = statement_by line c.args.word c.args.first.now (plain c.args.arguments.now) in
    table_first c.args.word s c.args.self.now c.take_arguments.new.self models c.take_arguments.result c.in_default.not-Row c.requires.inner
    (subst (λ m. Answers c.take_arguments.result (kind_here c.args.word models (here_in m) s) (λ _. c.take_arguments.new.self ≡ more_of c.args.word s m))
    c.in_ok-end_rows-in_default.ensures (c.take_arguments.ensures line c.args.first.now models))
