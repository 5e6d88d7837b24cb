use Rattle.std.proofs.Common.{◌≡◌, ◌∙◌, ◌++◌, ◌∷◌, [], ℕ, suc, ◌+◌, List, Bool, sym, ap, append_assoc, arith}
use Rattle.schedule_replay.specs.declared.outcome.Difference.{Difference}
use Rattle.schedule_replay.specs.Outcome.{outputs_in}
use Rattle.schedule_replay.specs.Waves.{waves, wave_of}
use Rattle.schedule_replay.proofs.WaveLaws.{waves-append, waves_one}
use Rattle.schedule_replay.proofs.waving.push_outputs.Goals as goal

pub loop-i-preserved : goal.loop-i-preserved
loop-i-preserved c = λ tr ft original hardened.
    let n = c.args.n.now.net in
    let h = c.args.h.now.net in
    let front : List Difference = outputs_in n h tr ft c.args.t c.loop-i.i in
    let next : c.loop-i.i + 1 ≡ suc c.loop-i.i = omega arith in
    let here = c.difference.ensures ∙ c.output_words-words.ensures c.args.t 0 tr ft original hardened in
    c.in_ok-push_wave.ensures ∙ (ap (λ (vs : List Bool). vs ++ wave_of c.difference.result) (c.loop-i.invariant tr ft original hardened)
    ∙ (append_assoc c.args.values.now.items (waves front) (wave_of c.difference.result)
    ∙ (ap (λ (vs : List Bool). c.args.values.now.items ++ (waves front ++ vs)) (sym (waves_one c.difference.result))
    ∙ (ap (λ (vs : List Bool). c.args.values.now.items ++ vs) (sym (waves-append front (c.difference.result ∷ [])))
    ∙ (ap (λ (d : Difference). c.args.values.now.items ++ waves (front ++ d ∷ [])) here
    ∙ ap (λ (m : ℕ). c.args.values.now.items ++ waves (outputs_in n h tr ft c.args.t m)) (sym next))))))
