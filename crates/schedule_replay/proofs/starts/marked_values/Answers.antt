use Rattle.std.proofs.Common.{◌≡◌, ◌+◌, ◌<◌, ◌∙◌, ℕ, length, sym, ap, refl, false, arith}
use Rattle.std.specs.Prelude.{slice_index_or}
use Rattle.flat_net.specs.Net.{Design}
use Rattle.schedule_replay.proofs.Placing.{bit_there, no_starts_yet, starts_step}
use Rattle.schedule_replay.proofs.starts.marked_values.Goals as goal

pub loop-i-init : goal.loop-i-init
loop-i-init c = no_starts_yet c.args.n.now.design.net c.args.n.now.free c.args.values.now (c.input_count-inputs.result + 0) c.new-starts.result.items c.new-starts.ensures.items (let e = c.input_count-inputs.ensures.count in let ins : length c.net-design.result.now.net.inputs ≡ length c.args.n.now.design.net.inputs = ap (λ (d : Design). length d.net.inputs) c.net-design.ensures.net in omega arith)

pub loop-i-preserved : goal.loop-i-preserved
loop-i-preserved c =
    let n = c.args.n.now.design.net in
    let i : ℕ = c.loop-i.i in
    let x : ℕ = c.input_count-inputs.result + i in
    let nets : length c.net-design.result.now.net.nodes ≡ length c.args.n.now.design.net.nodes = ap (λ (d : Design). length d.net.nodes) c.net-design.ensures.net in
    let ins : length c.net-design.result.now.net.inputs ≡ length c.args.n.now.design.net.inputs = ap (λ (d : Design). length d.net.inputs) c.net-design.ensures.net in
    let inputs = c.input_count-inputs.ensures.count ∙ ins in
    let within : i < length c.args.values.now = let e = c.requires in omega arith in
    starts_step n c.args.n.now.free c.args.values.now x (c.input_count-inputs.result + (i + 1)) c.loop-i.starts.items c.push_if.new.starts.items c.is_free.result (record { 0 = x }, slice_index_or c.args.values.now i false) c.loop-i.invariant (omega arith) c.is_free.ensures c.in_ok-push_if.ensures refl (omega arith)
    (sym (bit_there (length n.inputs) c.args.values.now x i false (ap (λ (m : ℕ). m + i) inputs) within))
