use Rattle.std.proofs.Common.{◌≡◌, ◌+◌, ◌<◌, ◌∙◌, ◌∷◌, [], ℕ, Bool, false, List, length, get_or, sym, ap, arith}
use Rattle.std.proofs.lemmas.List.{length-append}
use Rattle.flat_net.specs.Net.{Design}
use Rattle.schedule_replay.specs.Starts.{placed_starts}
use Rattle.schedule_replay.proofs.Placing.{bit_there, placed_more, next_few}
use Rattle.schedule_replay.proofs.starts.place_starts.Goals as goal

pub loop-i-preserved : goal.loop-i-preserved
loop-i-preserved c =
    let free : List Bool = c.args.n.now.free in
    let i : ℕ = c.loop-i.i in
    let long = c.net-design.ensures.marks.one_each in
    let nets : length c.net-design.result.now.net.nodes ≡ length c.args.n.now.design.net.nodes = ap (λ (d : Design). length d.net.nodes) c.net-design.ensures.net in
    let ins : length c.net-design.result.now.net.inputs ≡ length c.args.n.now.design.net.inputs = ap (λ (d : Design). length d.net.inputs) c.net-design.ensures.net in
    let within : i < length free = omega arith in
    let mark : get_or free i false ≡ c.is_free.result = sym (c.is_free.ensures ∙ bit_there (length c.args.n.now.design.net.inputs) free (c.input_count-inputs.result + i) i false (ap (λ (m : ℕ). m + i) (c.input_count-inputs.ensures.count ∙ ins)) within) in
    record {
      placed = placed_more free c.args.s.now.starts i c.loop-i.next c.node_start-bit.result.1 within c.loop-i.values.items c.push.new.self.items (placed_starts free c.args.s.now.starts) c.is_free.result c.node_start-bit.result.0 c.loop-i.invariant.placed mark c.node_start-bit.ensures.bit c.node_start-bit.ensures.next c.in_ok-push.ensures.items;
      long = let same = ap length c.in_ok-push.ensures.items in let before = c.loop-i.invariant.long in omega (arith, same, length-append c.loop-i.values.items (c.node_start-bit.result.0 ∷ []));
      few = next_few c.is_free.result c.loop-i.next i c.node_start-bit.result.1 c.loop-i.invariant.few c.node_start-bit.ensures.next;
    }
