use Rattle.std.proofs.Common.{◌≡◌, ◌++◌, [], List, ℕ, map, filter, length, sym, ap, ◌∙◌, append_assoc, not}
use Rattle.std.specs.List.{flat_map, range_with_len}
use Rattle.std.proofs.lemmas.List.Concat.{flat_map-append}
use Rattle.flat_net.specs.Nodes.{number_of}
use Rattle.hardened_pair.specs.Private.Layouts.{net_of, partitions, voted}
use Rattle.triplicate.specs.Construction.{block_nets, is_register_net, hardened_order}
use Rattle.hardened_pair.proofs.ordering.hardened_order.Goals as goal

pub returns : goal.returns
unfolding hardened_order
returns c =
    let f = block_nets (net_of c.args.layout.now) (partitions c.args.layout.now) (voted c.args.layout.now) in
    let inputs = range_with_len 0 (length (net_of c.args.layout.now).inputs) in
    let registers = filter (is_register_net (net_of c.args.layout.now)) c.args.layout.now.net.now.order in
    let tables = filter (λ x. not (is_register_net (net_of c.args.layout.now) x)) c.args.layout.now.net.now.order in
    let none : map number_of c.in_ok-order.order.items ≡ [] = ap (map number_of) c.in_ok-order.ensures.items in
    c.in_ok-push_kind-2.ensures ∙ (ap (λ (xs : List ℕ). xs ++ flat_map f tables) (c.in_ok-push_kind.ensures ∙ ap (λ (xs : List ℕ). xs ++ flat_map f registers) (c.in_ok-push_inputs.ensures ∙ ap (λ (xs : List ℕ). xs ++ flat_map f inputs) none))
    ∙ (append_assoc (flat_map f inputs) (flat_map f registers) (flat_map f tables) ∙ (ap (λ (xs : List ℕ). flat_map f inputs ++ xs) (sym (flat_map-append f registers tables)) ∙ sym (flat_map-append f inputs (registers ++ tables)))))
