-- Values of lists of outputs.
use Rattle.std.proofs.Common.{◌≡◌, Bool, List, [], ◌∷◌, ◌++◌, refl, sym, ◌∙◌, ap, append_assoc}
use Rattle.std.proofs.lemmas.List.{append-nil}
use Rattle.schedule_replay.specs.declared.outcome.Difference.{Difference}
use Rattle.schedule_replay.specs.Waves.{waves, wave_of}

pub waves-append : (ds es : List Difference) → waves (ds ++ es) ≡ waves ds ++ waves es
waves-append [] es = refl
waves-append (d ∷ ds) es = ap (λ (vs : List Bool). wave_of d ++ vs) (waves-append ds es) ∙ sym (append_assoc (wave_of d) (waves ds) (waves es))

pub waves_one : (d : Difference) → waves (d ∷ []) ≡ wave_of d
waves_one d = append-nil (wave_of d)
