use Rattle.std.proofs.Common.{◌∙◌, ◌+◌, ℕ, List, map, ap, subst, length, arith}
use Rattle.std.specs.List.{range_with_len}
use Rattle.flat_net.specs.Net.{Design, net_count}
use Rattle.aag_text.specs.declared.aig.Literal.{Literal}
use Rattle.aag_text.specs.Same.{registers}
use Rattle.hierarchy.specs.Sizes.{row_total}
use Rattle.aag_text.specs.Private.Nets.{HasLiterals, literal_at, latch_at}
use Rattle.aag_text.proofs.Latches.{inputs_are}
use Rattle.aag_text.proofs.nets.aig_of.Goals as goal

pub all_literals-requires : goal.all_literals-requires
all_literals-requires c =
    let few = ap (λ (d : Design). net_count d.net) c.net-net.ensures.net in
    let small = ap (λ (d : Design). row_total d.net) c.net-net.ensures.net in
    record { few = omega (arith, few, c.requires.few); small = omega (arith, small, c.requires.small) }

pub latches_of-requires : goal.latches_of-requires
latches_of-requires c = ap length c.deref.ensures.value ∙ (c.in_ok-literals.ensures.long ∙ ap (λ (d : Design). net_count d.net) c.net-net.ensures.net)

pub outputs_of-requires : goal.outputs_of-requires
outputs_of-requires c = ap length c.deref-2.ensures.value ∙ c.in_ok-literals.ensures.long

pub returns : goal.returns
returns c = record {
  literals = c.in_ok-literals.literals.items;
  gates = c.in_ok-literals.gates;
  has = subst (λ (d : Design). HasLiterals d c.in_ok-literals.literals.items c.in_ok-literals.gates) c.net-net.ensures.net c.in_ok-literals.ensures;
  inputs = c.in_ok-inputs.ensures ∙ ap (λ (m : ℕ). map (λ (i : ℕ). i + 1) (range_with_len 0 m)) (inputs_are c.net-net.result.now c.args.n.now.design c.input_count.result c.net-net.ensures.net c.input_count.ensures.count);
  latches = c.in_ok-latches.ensures ∙ ap (λ (ls : List Literal). map (latch_at c.args.n.now.design.net c.args.n.now.free ls) (registers c.args.n.now.design.net)) c.deref.ensures.value;
  outputs = c.in_ok-outputs.ensures ∙ (ap (λ (ls : List Literal). map (literal_at ls) c.net-net.result.now.net.outputs) c.deref-2.ensures.value ∙ ap (λ (d : Design). map (literal_at c.in_ok-literals.literals.items) d.net.outputs) c.net-net.ensures.net);
  list = c.into_list-gates.ensures.list;
  stacked = c.into_list-gates.ensures.stacked;
}
