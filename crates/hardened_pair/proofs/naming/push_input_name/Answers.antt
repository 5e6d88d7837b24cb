use Rattle.std.proofs.Common.{◌≡◌, ◌+◌, ◌*◌, ℕ, List, [], take, get_or, Some, slice_get, sym, ap, ◌∙◌}
use Rattle.std.specs.Str.{bytes_eq}
use Rattle.std.proofs.lemmas.Option.{slice_get-get_or, get_or_from_slice_get, slice_get_within}
use Rattle.std.proofs.lemmas.List.{get_or_append_left}
use Rattle.indexmap.specs.IndexSet.{insert_key}
use Rattle.tmr_base.specs.Copies.{copy_number}
use Rattle.tmr_base.specs.Names.{copy_text}
use Rattle.flat_net.specs.Net.{name_of}
use Rattle.flat_net.proofs.Names.{insert_next}
use Rattle.triplicate.specs.Blocks.{hardened_inputs}
use Rattle.triplicate.proofs.Lists.{threes_at}
use Rattle.hardened_pair.proofs.naming.push_input_name.Goals as goal

pub returns : goal.returns
returns c =
    let own : name_of c.args.n.now.net c.args.i ≡ get_or c.args.n.now.net.inputs c.args.i [] = get_or_append_left c.args.n.now.net.inputs _ [] c.args.i c.requires.input in
    let at : slice_get (hardened_inputs c.args.n.now.net) (3 * c.args.i + copy_number c.args.c) ≡ Some (copy_text (get_or c.args.n.now.net.inputs c.args.i []) c.args.c) = threes_at copy_text c.args.n.now.net.inputs c.args.i (get_or c.args.n.now.net.inputs c.args.i []) c.args.c (slice_get-get_or c.args.n.now.net.inputs c.args.i [] c.requires.input) in
    let here : get_or (hardened_inputs c.args.n.now.net) (3 * c.args.i + copy_number c.args.c) [] ≡ copy_text (get_or c.args.n.now.net.inputs c.args.i []) c.args.c = get_or_from_slice_get (hardened_inputs c.args.n.now.net) (3 * c.args.i + copy_number c.args.c) _ [] at in
    let name : c.in_ok-name.name ≡ get_or (hardened_inputs c.args.n.now.net) (3 * c.args.i + copy_number c.args.c) [] = c.in_ok-name.ensures ∙ (ap (λ (a : List ℕ). copy_text a c.args.c) (c.name.ensures ∙ own) ∙ sym here) in
    c.in_ok-insert.ensures.keys ∙ (ap (λ (xs : List (List ℕ)). insert_key bytes_eq xs c.in_ok-name.name) c.requires.names ∙ (ap (insert_key bytes_eq (take (3 * c.args.i + copy_number c.args.c) (hardened_inputs c.args.n.now.net))) name
    ∙ insert_next (hardened_inputs c.args.n.now.net) (3 * c.args.i + copy_number c.args.c) c.requires.distinct (slice_get_within (hardened_inputs c.args.n.now.net) (3 * c.args.i + copy_number c.args.c) _ at)))
