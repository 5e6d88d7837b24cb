use Rattle.std.proofs.Common.{◌≡◌, ◌-◌, ◌++◌, ℕ, List, map, length, ap, ◌∙◌, arith}
use Rattle.std.specs.List.{range_with_len}
use Rattle.flat_net.specs.Nodes.{number_of}
use Rattle.hardened_pair.specs.Private.Layouts.{net_of, partitions, voted, block_of}
use Rattle.triplicate.specs.Numbers.{block_start}
use Rattle.triplicate.proofs.Numbering.{block_length}
use Rattle.triplicate.proofs.Places.{start_more}
use Rattle.hardened_pair.proofs.ordering.push_block.Goals as goal

pub push_range-requires : goal.push_range-requires
push_range-requires c = omega (arith, c.start_of-start.ensures, c.start_of-end.ensures, start_more (net_of c.args.layout.now) (partitions c.args.layout.now) (voted c.args.layout.now) c.args.x)

pub returns : goal.returns
returns c =
    let start = c.start_of-start.ensures in
    let end = c.start_of-end.ensures in
    let long : c.start_of-end.result - c.start_of-start.result ≡ length (block_of c.args.layout.now c.args.x) = omega (arith, start, end, start_more (net_of c.args.layout.now) (partitions c.args.layout.now) (voted c.args.layout.now) c.args.x, block_length (net_of c.args.layout.now) (partitions c.args.layout.now) (voted c.args.layout.now) c.args.x) in
    c.in_ok-push_range.ensures ∙ ap (λ (xs : List ℕ). map number_of c.args.order.now.items ++ xs) (ap (λ k. range_with_len k (c.start_of-end.result - c.start_of-start.result)) start ∙ ap (range_with_len (block_start (net_of c.args.layout.now) (partitions c.args.layout.now) (voted c.args.layout.now) c.args.x)) long)
