-- The text of the certificate, net by net of the original.
use Rattle.std.proofs.Common.{◌≡◌, ℕ, zero, suc, ◌+◌, ◌*◌, ◌<◌, Bool, true, false, List, [], ◌∷◌, ◌++◌, length, map, drop, slice_get, Some, refl, sym, ap, ◌∙◌, arith}
use Rattle.std.specs.Prelude.{codes, slice_index, nat_lt, if◌then◌else◌}
use Rattle.std.specs.List.{flat_map, range_with_len}
use Rattle.std.specs.Fmt.{decimal}
use Rattle.std.proofs.lemmas.List.{append-nil, drop_all, drop_more, get_or-map, length-append, length-map}
use Rattle.std.proofs.lemmas.List.Concat.{flat_map-append}
use Rattle.std.proofs.lemmas.List.FromFn.{length-map-range_with_len, get_or-map-range_with_len}
use Rattle.tmr_base.specs.declared.copies.CopyNo.TheVariants.{First, Second, Third}
use Rattle.tmr_base.specs.Copies.{Three, copy_number}
use Rattle.tmr_base.specs.Parts.{PlainParts}
use Rattle.flat_net.specs.Net.{Net, net_count, name_of}
use Rattle.certificate.specs.declared.role.Role.{Role}
use Rattle.certificate.specs.declared.role.Role.TheVariants.{Copy, Voter}
use Rattle.certificate.specs.Cert.{role_of}
use Rattle.certificate.specs.Left.{parts_left, nodes_left, voters_left}
use Rattle.certificate.specs.Text.{line_text, node_line, node_lines, voter_line, voter_lines, cert_text}
use Rattle.certificate.proofs.Lefts.{all_lines_put}
use Rattle.flat_net.proofs.Slots.{slot_at}
use Rattle.triplicate.specs.Blocks.{threefold, block, copies_of, voters_for, hardened_roles}
use Rattle.triplicate.specs.Form.{version_of}
use Rattle.triplicate.specs.Voting.{voting_parts}
use Rattle.triplicate.specs.Construction.{three_copies, three_labels, hardened_net, hardened_cert}
use Rattle.triplicate.specs.Given.{IsGiven}
use Rattle.triplicate.specs.Labels.{Labeling}
use Rattle.triplicate.proofs.Lists.{get_after}
use Rattle.triplicate.proofs.Named.{name_of_role}
use Rattle.hardened_text.specs.Private.Lines.{node_words, voter_words, voters_text, nodes_text, all_voters_text, parts_text}
use Rattle.hardened_text.proofs.ReadNames.{copy_named}

-- a role's line, if it is a voter
abbrev role_line : Net → Role → List (List (List ℕ))
role_line n (Copy x c) = []
role_line n (Voter x p c) = voter_words (name_of n x.0) p.0 c ∷ []

flat_flat : {A B C : Type 0} (f : B → List C) (g : A → List B) (xs : List A) → flat_map f (flat_map g xs) ≡ flat_map (λ x. flat_map f (g x)) xs
flat_flat f g [] = refl
flat_flat f g (x ∷ xs) = flat_map-append f (g x) (flat_map g xs) ∙ ap (λ t. flat_map f (g x) ++ t) (flat_flat f g xs)

flat_same : {A B : Type 0} (f g : A → List B) (xs : List A) → ((x : A) → f x ≡ g x) → flat_map f xs ≡ flat_map g xs
flat_same f g [] e = refl
flat_same f g (x ∷ xs) e = both (e x) (flat_same f g xs e)
  where
    both : {C : Type 0} {a b c d : List C} → a ≡ b → c ≡ d → a ++ c ≡ b ++ d
    both e f = cc

-- the copies of a net have no line of a voter
copies_none : (n : Net) (x : ℕ) → flat_map (role_line n) (copies_of n x) ≡ []
copies_none n x = go (nat_lt x (length n.inputs))
  where
    go : (b : Bool) → flat_map (role_line n) (if b then [] else threefold (λ c. Copy (record { 0 = x }) c)) ≡ []
    go true = refl
    go false = refl

-- the lines of the voters of net x
block_voters : (n : Net) (parts : PlainParts) (voted : ℕ → ℕ → Bool) (x : ℕ) → flat_map line_text (flat_map (role_line n) (block n parts voted x)) ≡ voters_text n parts voted x
block_voters n parts voted x =
    ap (flat_map line_text) (flat_map-append (role_line n) (copies_of n x) (flat_map (voters_for x) (voting_parts n parts voted x))
    ∙ (ap (λ (ls : List (List (List ℕ))). ls ++ flat_map (role_line n) (flat_map (voters_for x) (voting_parts n parts voted x))) (copies_none n x)
    ∙ flat_flat (role_line n) (voters_for x) (voting_parts n parts voted x)))
    ∙ (flat_flat line_text (λ p. flat_map (role_line n) (voters_for x p)) (voting_parts n parts voted x)
    ∙ flat_same (λ p. flat_map line_text (flat_map (role_line n) (voters_for x p))) _ (voting_parts n parts voted x) three)
  where
    three : (p : ℕ) → flat_map line_text (voter_words (name_of n x) p First ∷ voter_words (name_of n x) p Second ∷ voter_words (name_of n x) p Third ∷ [])
        ≡ line_text (voter_words (name_of n x) p First) ++ (line_text (voter_words (name_of n x) p Second) ++ line_text (voter_words (name_of n x) p Third))
    three p = ap (λ (t : List ℕ). line_text (voter_words (name_of n x) p First) ++ (line_text (voter_words (name_of n x) p Second) ++ t)) (append-nil (line_text (voter_words (name_of n x) p Third)))

nine_words : (n : Net) (i p l : ℕ) (a b d u v w : List ℕ) → a ≡ u → b ≡ v → d ≡ w →
    ◌≡◌ {A = List (List ℕ)} (codes "node" ∷ name_of n (length n.inputs + i) ∷ decimal p ∷ a ∷ b ∷ d ∷ decimal l ∷ decimal l ∷ decimal l ∷ [])
    (codes "node" ∷ name_of n (length n.inputs + i) ∷ decimal p ∷ u ∷ v ∷ w ∷ decimal l ∷ decimal l ∷ decimal l ∷ [])
nine_words n i p l a b d u v w e f g = cc

module _ (n : Net) (parts : PlainParts) (voted : ℕ → ℕ → Bool) (t : Labeling) (is : IsGiven n parts voted t) where
  role_line_same : (g : ℕ) (r : Role) → role_of (hardened_cert n parts voted t) g ≡ Some r → voter_line n (hardened_net n parts voted) g r ≡ role_line n r
  role_line_same g (Copy x c) at = refl
  role_line_same g (Voter x p c) at = ap (λ (w : List ℕ). (codes "voter" ∷ w ∷ name_of n x.0 ∷ decimal p.0 ∷ decimal (copy_number c) ∷ []) ∷ []) (name_of_role n parts voted t is g (Voter x p c) at)

  role_here : (done rest : List Role) (r : Role) → hardened_roles n parts voted ≡ done ++ r ∷ rest → role_of (hardened_cert n parts voted t) (3 * length n.inputs + length done) ≡ Some r
  unfolding hardened_cert
  role_here done rest r e =
      slot_at (3 * length n.inputs) (hardened_roles n parts voted) (3 * length n.inputs + length done) (omega arith)
      ∙ (ap (λ (i : ℕ). slice_get (hardened_roles n parts voted) i) (omega arith)
      ∙ (ap (λ (rs : List Role). slice_get rs (length done)) e ∙ (ap (slice_get (done ++ r ∷ rest)) (omega arith) ∙ get_after done (r ∷ rest) 0)))

  -- the lines of the voters behind those that are done
  voters_from : (done rest : List Role) (g : ℕ) → hardened_roles n parts voted ≡ done ++ rest → g ≡ 3 * length n.inputs + length done → voter_lines n (hardened_net n parts voted) g rest ≡ flat_map (role_line n) rest
  voters_from done [] g e at = refl
  voters_from done (r ∷ rest) g e at =
      both (role_line_same g r (ap (role_of (hardened_cert n parts voted t)) at ∙ role_here done rest r e))
      (voters_from (done ++ r ∷ []) rest (g + 1) (e ∙ sym (append_one done r rest)) (omega (arith, at, length-append done (r ∷ []))))
    where
      both : {a b c d : List (List (List ℕ))} → a ≡ b → c ≡ d → a ++ c ≡ b ++ d
      both e f = cc

      append_one : (xs : List Role) (y : Role) (ys : List Role) → (xs ++ y ∷ []) ++ ys ≡ xs ++ y ∷ ys
      append_one [] y ys = refl
      append_one (x ∷ xs) y ys = ap (λ zs. x ∷ zs) (append_one xs y ys)

  voters_same : voters_left n (hardened_net n parts voted) (hardened_cert n parts voted t) 0 ≡ all_voters_text n parts voted (net_count n)
  unfolding hardened_cert hardened_roles
  voters_same =
      ap (flat_map line_text) (voters_from [] (hardened_roles n parts voted) (3 * length n.inputs + 0) refl refl ∙ flat_flat (role_line n) (block n parts voted) (range_with_len 0 (net_count n)))
      ∙ (flat_flat line_text (λ x. flat_map (role_line n) (block n parts voted x)) (range_with_len 0 (net_count n))
      ∙ flat_same (λ x. flat_map line_text (flat_map (role_line n) (block n parts voted x))) (voters_text n parts voted) (range_with_len 0 (net_count n)) (block_voters n parts voted))

  abbrev node_said : (i : ℕ) → ℕ → ℕ → List (List ℕ)
  node_said i p l = node_words (name_of n (length n.inputs + i)) p l

  line_of : (i p l : ℕ) → i < length n.nodes → node_line n (hardened_net n parts voted) (length n.inputs + i) p (three_copies n parts voted (length n.inputs + i)) (three_labels l) ≡ node_said i p l
  line_of i p l low =
      let high : length n.inputs + i < net_count n = omega (arith, low) in
      nine_words n i p l _ _ _ _ _ _ (copy_named n parts voted t is (length n.inputs + i) First high) (copy_named n parts voted t is (length n.inputs + i) Second high) (copy_named n parts voted t is (length n.inputs + i) Third high)

  -- the lines of the nodes from i on
  nodes_from : (d i : ℕ) → i + d ≡ length n.nodes →
      flat_map line_text (node_lines n (hardened_net n parts voted) (length n.inputs + i) (drop i parts.of) (drop i (map (three_copies n parts voted) (range_with_len (length n.inputs) (length n.nodes)))) (drop i (map three_labels t.labels)))
      ≡ flat_map (λ y. line_text (node_said y (slice_index parts.of y) (slice_index t.labels y))) (range_with_len i d)
  nodes_from zero i e =
      ap (λ (ps : List ℕ). flat_map line_text (node_lines n (hardened_net n parts voted) (length n.inputs + i) ps (drop i (map (three_copies n parts voted) (range_with_len (length n.inputs) (length n.nodes)))) (drop i (map three_labels t.labels))))
      (drop_all i parts.of (omega (arith, e, is.parts_long)))
  nodes_from (suc d) i e =
      let low : i < length n.nodes = omega (arith, e) in
      let f = three_copies n parts voted in
      let ones : drop i parts.of ≡ slice_index parts.of i ∷ drop (i + 1) parts.of = drop_more parts.of i 0 (omega (arith, low, is.parts_long)) in
      let any : Three = three_labels 0 in
      let twos : drop i (map f (range_with_len (length n.inputs) (length n.nodes))) ≡ f (length n.inputs + i) ∷ drop (i + 1) (map f (range_with_len (length n.inputs) (length n.nodes))) =
      drop_more (map f (range_with_len (length n.inputs) (length n.nodes))) i any (omega (arith, low, length-map-range_with_len f (length n.inputs) (length n.nodes)))
      ∙ ap (λ (w : Three). w ∷ drop (i + 1) (map f (range_with_len (length n.inputs) (length n.nodes)))) (get_or-map-range_with_len f (length n.inputs) (length n.nodes) i (length n.inputs + i) any low refl) in
      let threes : drop i (map three_labels t.labels) ≡ three_labels (slice_index t.labels i) ∷ drop (i + 1) (map three_labels t.labels) =
      drop_more (map three_labels t.labels) i any (omega (arith, low, is.labels.nodes, length-map t.labels three_labels))
      ∙ ap (λ (w : Three). w ∷ drop (i + 1) (map three_labels t.labels)) (get_or-map three_labels t.labels i 0 any (omega (arith, low, is.labels.nodes))) in
      let rest = nodes_from d (i + 1) (omega (arith, e)) in
      lines (length n.inputs + i) _ _ _ _ _ _ _ _ _ ones twos threes
      ∙ step _ _ _ _ (ap line_text (line_of i (slice_index parts.of i) (slice_index t.labels i) low))
      (ap (λ (s : ℕ). flat_map line_text (node_lines n (hardened_net n parts voted) s (drop (i + 1) parts.of) (drop (i + 1) (map f (range_with_len (length n.inputs) (length n.nodes)))) (drop (i + 1) (map three_labels t.labels)))) (omega arith)
      ∙ (rest ∙ ap (λ (s : ℕ). flat_map (λ y. line_text (node_said y (slice_index parts.of y) (slice_index t.labels y))) (range_with_len s d)) (omega arith)))
    where
      lines : (x : ℕ) (ps qs : List ℕ) (ts us ls ms : List Three) (p : ℕ) (u l : Three) → ps ≡ p ∷ qs → ts ≡ u ∷ us → ls ≡ l ∷ ms →
          flat_map line_text (node_lines n (hardened_net n parts voted) x ps ts ls) ≡ line_text (node_line n (hardened_net n parts voted) x p u l) ++ flat_map line_text (node_lines n (hardened_net n parts voted) (x + 1) qs us ms)
      lines x ps qs ts us ls ms p u l a b c = rw (a, b, c) refl

      step : (a b c d : List ℕ) → a ≡ b → c ≡ d → a ++ c ≡ b ++ d
      step a b c d e f = cc

  nodes_same : nodes_left n (hardened_net n parts voted) (hardened_cert n parts voted t) 0 ≡ nodes_text n parts t.labels (length n.nodes)
  unfolding hardened_cert
  nodes_same = nodes_from (length n.nodes) 0 (omega arith)

  parts_same : parts_left (hardened_cert n parts voted t) 0 ≡ parts_text t.depths 0
  unfolding hardened_cert
  parts_same = refl

  heads : ((hardened_cert n parts voted t).version ≡ version_of t.inputs) × (length (hardened_cert n parts voted t).depth ≡ parts.count)
  unfolding hardened_cert
  heads = (refl, is.labels.parts_long)

  -- all of the text
  pub cert_is : (o0 o1 o2 o3 o4 o5 : List ℕ) → o0 ≡ [] → o1 ≡ (o0 ++ line_text (codes "tmr-cert" ∷ decimal (version_of t.inputs) ∷ [])) ++ line_text (codes "parts" ∷ decimal parts.count ∷ [])
      → o2 ≡ o1 ++ parts_text t.depths 0 → o3 ≡ o2 ++ nodes_text n parts t.labels (length n.nodes) → o4 ≡ o3 ++ all_voters_text n parts voted (net_count n) → o5 ≡ o4 ++ codes "end\n"
      → o5 ≡ cert_text n (hardened_net n parts voted) (hardened_cert n parts voted t)
  cert_is o0 o1 o2 o3 o4 o5 e0 e1 e2 e3 e4 e5 =
      all_lines_put n (hardened_net n parts voted) (hardened_cert n parts voted t) o0 o1 o2 o3 o4 o5 e0
      (e1 ∙ front o0 _ _ _ _ (sym heads.0) (sym heads.1))
      (e2 ∙ ap (λ (t : List ℕ). o1 ++ t) (sym parts_same)) (e3 ∙ ap (λ (t : List ℕ). o2 ++ t) (sym nodes_same)) (e4 ∙ ap (λ (t : List ℕ). o3 ++ t) (sym voters_same)) e5
    where
      front : (o : List ℕ) (a b u v : ℕ) → a ≡ b → u ≡ v → (o ++ line_text (codes "tmr-cert" ∷ decimal a ∷ [])) ++ line_text (codes "parts" ∷ decimal u ∷ []) ≡ (o ++ line_text (codes "tmr-cert" ∷ decimal b ∷ [])) ++ line_text (codes "parts" ∷ decimal v ∷ [])
      front o a b u v e f = cc
