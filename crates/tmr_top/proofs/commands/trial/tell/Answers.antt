use Rattle.std.proofs.Common.{ap, ◌∙◌}
use Rattle.tmr_texts.specs.declared.form_text.FormNumbers.{FormNumbers}
use Rattle.tmr_words.specs.TrialWords.{trial_in}
use Rattle.tmr_top.specs.Tried.{trial_lines}
use Rattle.tmr_top.proofs.RoomLaws.{tried_over}
use Rattle.tmr_top.proofs.TrialLaws.{tried_text}
use Rattle.tmr_top.proofs.commands.trial.tell.Goals as goal

pub returns : goal.returns
returns c =
    let made = c.in_ok-made.made in
    let sums = c.in_ok-sums.sums in
    tried_over (trial_in c.args.words.now) _ _ c.telling.ensures
    (tried_text (trial_in c.args.words.now) c.in_ok-n.n.net made.net.net made.cert made.minimal sums _
    c.in_ok-n.ensures c.in_ok-made.ensures.form c.in_ok-made.ensures.minimal c.in_ok-sums.ensures
    (c.in_ok-text.ensures ∙ ap (λ (f : FormNumbers). trial_lines f sums) c.told_numbers-numbers.ensures))
