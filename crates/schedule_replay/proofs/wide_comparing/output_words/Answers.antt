use Rattle.std.proofs.Common.{◌∙◌, ◌*◌, ◌+◌, ℕ, ap}
use Rattle.net_meaning.specs.Meaning.{value_at}
use Rattle.schedule_replay.proofs.WideOutcomes.{read_run, output_is, same_difference}
use Rattle.schedule_replay.proofs.wide_comparing.output_words.Goals as goal

pub returns : goal.returns
returns c = λ t j tr ft e f.
    let n = c.args.n.now.net in
    let h = c.args.h.now.net in
    let original = c.args.original.now.last in
    let hardened = c.args.hardened.now.last in
    let i : ℕ = c.args.i in
    same_difference t i _ _ _ _ _ _ _ _
    (read_run original tr t c.output.result.0 j c.value.result c.value.ensures e ∙ ap (value_at tr t) (output_is n.outputs i c.output.result.0 c.output.ensures.output))
    (read_run hardened ft t c.output-2.result.0 j c.value-2.result c.value-2.ensures f ∙ ap (value_at ft t) (output_is h.outputs (3 * i) c.output-2.result.0 c.output-2.ensures.output))
    (read_run hardened ft t c.output-3.result.0 j c.value-3.result c.value-3.ensures f ∙ ap (value_at ft t) (output_is h.outputs (3 * i + 1) c.output-3.result.0 c.output-3.ensures.output))
    (read_run hardened ft t c.output-4.result.0 j c.value-4.result c.value-4.ensures f ∙ ap (value_at ft t) (output_is h.outputs (3 * i + 2) c.output-4.result.0 c.output-4.ensures.output))
