-- The words of `trial` as what they mean.
use Rattle.tmr_words.specs.declared.trial_words.TrialWords.{TrialWords}
use Rattle.tmr_words.specs.Trials.{Trial}

abbrev pub trial_in : TrialWords → Trial
trial_in words = record { number = words.number; nodes = words.nodes }
