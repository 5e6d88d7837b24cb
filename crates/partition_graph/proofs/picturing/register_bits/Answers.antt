use Rattle.std.proofs.Common.{Bool, ℕ, ◌+◌, List, [], ◌∷◌, ◌++◌, map, sym, ap, ◌∙◌, arith}
use Rattle.std.specs.List.{range_with_len}
use Rattle.std.proofs.lemmas.List.FromFn.{map-range_with_len_more}
use Rattle.flat_net.specs.Net.{node_of}
use Rattle.partition_graph.specs.Picture.{is_node_register, is_register_at}
use Rattle.partition_graph.proofs.picturing.register_bits.Goals as goal

pub loop-x-preserved : goal.loop-x-preserved
loop-x-preserved c =
    c.in_ok-push.ensures.items ∙ (ap (λ (bs : List Bool). bs ++ c.is_register.result ∷ []) c.loop-x.invariant
    ∙ (ap (λ (b : Bool). map (is_register_at c.args.n.now.net) (range_with_len 0 c.loop-x.x) ++ b ∷ []) (c.is_register.ensures ∙ ap (λ (m : ℕ). is_node_register (node_of c.args.n.now.net (m + c.loop-x.x))) c.input_count-inputs.ensures.count)
    ∙ sym (map-range_with_len_more (is_register_at c.args.n.now.net) 0 c.loop-x.x c.loop-x.x (omega arith))))
