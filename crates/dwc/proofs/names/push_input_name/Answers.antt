use Rattle.std.proofs.Common.{◌≡◌, ◌+◌, ◌*◌, ℕ, List, [], take, get_or, sym, ap, ◌∙◌}
use Rattle.std.specs.Str.{bytes_eq}
use Rattle.std.proofs.lemmas.Option.{get_or_from_slice_get, slice_get_within}
use Rattle.indexmap.specs.IndexSet.{insert_key}
use Rattle.flat_net.specs.Net.{name_of}
use Rattle.flat_net.proofs.Names.{insert_next}
use Rattle.dwc.specs.Guard.{twin_text, guard_net}
use Rattle.dwc.proofs.Nodes.{input_get}
use Rattle.dwc.proofs.names.push_input_name.Goals as goal

pub returns : goal.returns
returns c =
    let n = c.args.n.now.net in
    let k = 2 * c.args.i + c.args.c in
    let inputs = (guard_net c.args.n.now.net).inputs in
    let at = input_get n c.args.i c.args.c c.requires.input c.requires.copy in
    let here = get_or_from_slice_get inputs k (twin_text (name_of n c.args.i) c.args.c) [] at in
    let name : c.in_ok-name.name ≡ get_or inputs k [] = c.in_ok-name.ensures ∙ (ap (λ (a : List ℕ). twin_text a c.args.c) c.name.ensures ∙ sym here) in
    c.in_ok-insert.ensures.keys ∙ (ap (λ (xs : List (List ℕ)). insert_key bytes_eq xs c.in_ok-name.name) c.requires.names ∙ (ap (insert_key bytes_eq (take k inputs)) name
    ∙ insert_next inputs k c.requires.distinct (slice_get_within inputs k (twin_text (name_of n c.args.i) c.args.c) at)))
