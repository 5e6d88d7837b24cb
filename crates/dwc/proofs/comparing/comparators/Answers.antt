use Rattle.std.proofs.Common.{◌+◌, ◌*◌, ◌≡◌, ap, ◌∙◌, arith}
use Rattle.std.specs.List.{range_with_len}
use Rattle.flat_net.specs.Net.{net_count}
use Rattle.dwc.proofs.comparing.comparators.Goals as goal

pub returns : goal.returns
returns c =
    let n = c.args.n.now.net in
    let first : 2 * (c.input_count.result + c.node_count.result) ≡ 2 * net_count n = omega (arith, c.input_count.ensures.count, c.node_count.ensures) in
    c.in_ok-numbers.ensures ∙ (ap (λ a. range_with_len a c.output_count-count.result) first ∙ ap (range_with_len (2 * net_count n)) c.output_count-count.ensures)
