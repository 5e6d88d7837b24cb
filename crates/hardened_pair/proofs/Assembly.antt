-- The lists that are made are the hardened design and its certificate.
use Rattle.std.proofs.Common.{◌≡◌, ℕ, ◌+◌, ◌*◌, ◌++◌, [], ◌∷◌, List, length, map, take, slice_get, Some, refl, sym, ap, ◌∙◌, arith, append-nil, Bool}
use Rattle.std.specs.List.{flat_map, range_with_len}
use Rattle.std.proofs.lemmas.List.{take_more}
use Rattle.std.proofs.lemmas.List.Concat.{flat_map-append}
use Rattle.std.proofs.lemmas.Option.{slice_get_within, get_or_from_slice_get}
use Rattle.tmr_base.specs.declared.copies.CopyNo.TheVariants.{First, Second, Third}
use Rattle.tmr_base.specs.Copies.{Three}
use Rattle.tmr_base.specs.Parts.{PlainParts}
use Rattle.flat_net.specs.Net.{Net, node_name, net_names}
use Rattle.flat_net.specs.Nodes.{number_of}
use Rattle.flat_net.specs.Packs.{Packs}
use Rattle.flat_net.specs.declared.wiring.Wiring.TheInside.{Inside}
use Rattle.flat_net.proofs.PacksLaws.{IsAssembled}
use Rattle.certificate.specs.declared.role.Role.{Role}
use Rattle.certificate.specs.Cert.{PlainCert}
use Rattle.triplicate.specs.Labels.{Labeling}
use Rattle.triplicate.specs.Form.{version_of}
use Rattle.triplicate.specs.Blocks.{threefold, hardened_roles, hardened_clock}
use Rattle.triplicate.specs.Numbers.{copy_net}
use Rattle.triplicate.specs.Construction.{hardened_net, hardened_cert, three_copies, three_labels}
use Rattle.triplicate.proofs.Tripled.{length-hardened_inputs}
use Rattle.triplicate.proofs.Places.{copy_net_more}

module _ (n : Net) (parts : PlainParts) (voted : ℕ → ℕ → Bool) where
  pub assembles : (w : Inside) → w.model ≡ n.model → w.names.keys ≡ net_names (hardened_net n parts voted) → w.inputs ≡ 3 * length n.inputs → Packs (map node_name (hardened_net n parts voted).nodes) w.nodes (hardened_net n parts voted).nodes → map number_of w.outputs.items ≡ flat_map (λ x. threefold (copy_net n parts voted x)) n.outputs → w.clock ≡ hardened_clock n.clock → IsAssembled (hardened_net n parts voted) w
  unfolding hardened_net
  assembles w model names inputs nodes outputs clock = record {
    model = model;
    names = names;
    inputs = inputs ∙ sym (length-hardened_inputs n);
    nodes = nodes;
    outputs = outputs;
    clock = clock;
  }

  pub cert_is : (t : Labeling) (v a b : ℕ) (depth part : List ℕ) (copies labels : List Three) (roles : List Role) → v ≡ version_of t.inputs → a ≡ length n.inputs → b ≡ 3 * length n.inputs → depth ≡ t.depths → part ≡ parts.of → copies ≡ map (three_copies n parts voted) (range_with_len (length n.inputs) (length n.nodes)) → labels ≡ map three_labels t.labels → roles ≡ hardened_roles n parts voted →
      ◌≡◌ {A = PlainCert} (record { version = v; original_inputs = a; hardened_inputs = b; depth = depth; part = part; copies = copies; labels = labels; roles = roles }) (hardened_cert n parts voted t)
  unfolding hardened_cert
  cert_is t v a b depth part copies labels roles ev ea eb ed ep ec el er = λ i. record { version = ev i; original_inputs = ea i; hardened_inputs = eb i; depth = ed i; part = ep i; copies = ec i; labels = el i; roles = er i }

  pub outputs_more : (old new : List ℕ) (k x v : ℕ) → slice_get n.outputs k ≡ Some x → v ≡ copy_net n parts voted x First → old ≡ flat_map (λ x. threefold (copy_net n parts voted x)) (take k n.outputs) → new ≡ old ++ v ∷ (v + 1) ∷ (v + 2) ∷ [] → new ≡ flat_map (λ x. threefold (copy_net n parts voted x)) (take (k + 1) n.outputs)
  outputs_more old new k x v at e before more =
      let f = λ (x : ℕ). threefold (copy_net n parts voted x) in
      let h = slice_get_within n.outputs k x at in
      let here = get_or_from_slice_get n.outputs k x 0 at in
      more ∙ (ap (λ xs. xs ++ v ∷ (v + 1) ∷ (v + 2) ∷ []) before ∙ (ap (λ xs. flat_map f (take k n.outputs) ++ xs) three ∙ sym (ap (flat_map f) (take_more n.outputs k 0 h ∙ ap (λ y. take k n.outputs ++ y ∷ []) here) ∙ (flat_map-append f (take k n.outputs) (x ∷ []) ∙ ap (λ xs. flat_map f (take k n.outputs) ++ xs) (append-nil (f x))))))
    where
      three : v ∷ (v + 1) ∷ (v + 2) ∷ [] ≡ threefold (copy_net n parts voted x)
      three =
          let b : v + 1 ≡ copy_net n parts voted x Second = omega (arith, e, copy_net_more n parts voted x Second) in
          let c : v + 2 ≡ copy_net n parts voted x Third = omega (arith, e, copy_net_more n parts voted x Third) in
          rw (b, c, e) refl
