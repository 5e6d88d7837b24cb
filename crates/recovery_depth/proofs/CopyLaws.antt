-- The rows of copies, beside what copies read.
use Rattle.std.proofs.Common.{◌≡◌, ℕ, zero, suc, ◌+◌, ◌-◌, ◌<◌, ◌≤◌, ◌⊎◌, Bool, true, false, List, [], ◌∷◌, length, get_or, map, refl, sym, ◌∙◌, ap, subst, inl, inr, arith}
use Rattle.std.specs.Prelude.{cond, ◌&&◌, Option, Some, None}
use Rattle.std.specs.List.{range_with_len}
use Rattle.std.proofs.lemmas.Bool.{cases_lt}
use Rattle.std.proofs.lemmas.List.{get_or_past, get_or-map, length-map}
use Rattle.std.proofs.lemmas.List.FromFn.{get_or-map-range_with_len, length-map-range_with_len}
use Rattle.flat_net.specs.Net.{Net, Node, Table, Register, pins_at}
use Rattle.flat_net.proofs.Slots.{slot_within}
use Rattle.certificate.specs.declared.role.Role.{Role}
use Rattle.certificate.specs.declared.role.Role.TheVariants.{Copy, Voter}
use Rattle.certificate.specs.Cert.{PlainCert, role_of, role_count, count_of, Fits}
use Rattle.certificate.specs.Rules.{Rule6, LabelReaches}
use Rattle.graph.specs.Rows.{row, Follows}
use Rattle.graph.proofs.Decisions.{no_absurd}
use Rattle.recovery_depth.specs.Walks.{is_marked}
use Rattle.recovery_depth.specs.Private.Vertices.{marked}
use Rattle.recovery_depth.specs.Depths.{is_some_register}
use Rattle.recovery_depth.specs.Hardened.{role_at, node_at, is_copy, ReadsCopy, original_of, own_original}
use Rattle.recovery_depth.specs.Private.Copied.{is_register_copy, copied, copied_row, copied_rows}

module _ (n h : Net) (k : PlainCert) (fits : Fits n h k) where
  pub copied_long : length (copied_rows h k) ≡ length h.nodes
  copied_long = length-map-range_with_len (copied_row h k) 0 (length h.nodes)

  copied_at : (g : ℕ) → g < length h.nodes → row (copied_rows h k) g ≡ copied_row h k g
  copied_at g l = get_or-map-range_with_len (copied_row h k) 0 (length h.nodes) g g [] l (omega arith)

  -- a net with a role is a node
  pub node_with_role : (f : ℕ) → is_copy (role_of k f) ≡ true → (length h.inputs ≤ f) × (f < length h.inputs + length h.nodes)
  node_with_role f t = go (role_of k f) refl t
    where
      go : (o : Option Role) → role_of k f ≡ o → is_copy o ≡ true → (length h.inputs ≤ f) × (f < length h.inputs + length h.nodes)
      go None e t = absurd (no_absurd (sym t))
      go (Some r) e t = let w = slot_within k.hardened_inputs k.roles f r e in (omega (arith, w.0, fits.hardened_inputs), omega (arith, w.1, fits.hardened_inputs, fits.hardened_nodes))

  row_of_copy : (g : ℕ) → is_copy (role_at h k g) ≡ true → copied_row h k g ≡ map (copied h k) (pins_at (node_at h g))
  row_of_copy g t = ap (λ b. cond b (map (copied h k) (pins_at (node_at h g))) []) t

  row_of_other : (g : ℕ) → is_copy (role_at h k g) ≡ false → copied_row h k g ≡ []
  row_of_other g t = ap (λ b. cond b (map (copied h k) (pins_at (node_at h g))) []) t

  pub reads_of_follows : (f g : ℕ) → Follows (copied_rows h k) f g → ReadsCopy h k f g
  reads_of_follows f g r = go (cases_lt g (length h.nodes))
    where
      go : (g < length h.nodes) ⊎ (length h.nodes ≤ g) → ReadsCopy h k f g
      go (inr l) = absurd (let none : length (row (copied_rows h k) g) ≡ 0 = ap length (get_or_past (copied_rows h k) g [] (omega (arith, copied_long, l))) in omega (arith, none, r.within))
      go (inl l) = which (is_copy (role_at h k g)) refl
        where
          which : (b : Bool) → is_copy (role_at h k g) ≡ b → ReadsCopy h k f g
          which false t = absurd (let none : length (row (copied_rows h k) g) ≡ 0 = ap length (copied_at g l ∙ row_of_other g t) in omega (arith, none, r.within))
          which true t = pin (is_copy (role_of k (get_or (pins_at (node_at h g)) r.place 0))) refl
            where
              same : row (copied_rows h k) g ≡ map (copied h k) (pins_at (node_at h g))
              same = copied_at g l ∙ row_of_copy g t

              within : r.place < length (pins_at (node_at h g))
              within = let e : length (row (copied_rows h k) g) ≡ length (pins_at (node_at h g)) = ap length same ∙ length-map (pins_at (node_at h g)) (copied h k) in omega (arith, e, r.within)

              is : copied h k (get_or (pins_at (node_at h g)) r.place 0) ≡ f
              is = sym (ap (λ v. get_or v r.place 0) same ∙ get_or-map (copied h k) (pins_at (node_at h g)) r.place 0 0 within) ∙ r.is

              pin : (b : Bool) → is_copy (role_of k (get_or (pins_at (node_at h g)) r.place 0)) ≡ b → ReadsCopy h k f g
              pin false s = absurd (let past : copied h k (get_or (pins_at (node_at h g)) r.place 0) ≡ length h.nodes = ap (λ b. cond b (get_or (pins_at (node_at h g)) r.place 0 - length h.inputs) (length h.nodes)) s in omega (arith, past, is, copied_long, r.vertex))
              pin true s =
                  let w = node_with_role (get_or (pins_at (node_at h g)) r.place 0) s in
                  let there : copied h k (get_or (pins_at (node_at h g)) r.place 0) ≡ get_or (pins_at (node_at h g)) r.place 0 - length h.inputs = ap (λ b. cond b (get_or (pins_at (node_at h g)) r.place 0 - length h.inputs) (length h.nodes)) s in
                  let at : get_or (pins_at (node_at h g)) r.place 0 ≡ length h.inputs + f = omega (arith, there, is, w.0) in
                  record { pin = r.place; within = within; is = at; reader = t; read = subst (λ (q : ℕ). is_copy (role_of k q) ≡ true) at s }

  pub follows_of_reads : (f g : ℕ) → ReadsCopy h k f g → Follows (copied_rows h k) f g
  follows_of_reads f g r =
      let wg = node_with_role (length h.inputs + g) r.reader in
      let wf = node_with_role (length h.inputs + f) r.read in
      let l : g < length h.nodes = omega (arith, wg.1) in
      let same : row (copied_rows h k) g ≡ map (copied h k) (pins_at (node_at h g)) = copied_at g l ∙ row_of_copy g r.reader in
      let there : copied h k (length h.inputs + f) ≡ (length h.inputs + f) - length h.inputs = ap (λ b. cond b ((length h.inputs + f) - length h.inputs) (length h.nodes)) r.read in
      let at : copied h k (get_or (pins_at (node_at h g)) r.pin 0) ≡ f = ap (copied h k) r.is ∙ (there ∙ omega arith) in
      record {
        place = r.pin;
        within = omega (arith, ap length same, length-map (pins_at (node_at h g)) (copied h k), r.within);
        is = ap (λ v. get_or v r.pin 0) same ∙ (get_or-map (copied h k) (pins_at (node_at h g)) r.pin 0 0 r.within ∙ at);
        vertex = omega (arith, copied_long, wf.1);
      }

  -- the bits of register copies
  pub bit_of : (bits : List Bool) → bits ≡ map (is_register_copy h k) (range_with_len 0 (length h.nodes)) → (g : ℕ) → is_marked bits g ≡ is_register_copy h k g
  bit_of bits e g = go (cases_lt g (length h.nodes))
    where
      go : (g < length h.nodes) ⊎ (length h.nodes ≤ g) → is_marked bits g ≡ is_register_copy h k g
      go (inl l) = ap (λ b. get_or b g false) e ∙ get_or-map-range_with_len (is_register_copy h k) 0 (length h.nodes) g g false l (omega arith)
      go (inr l) = get_or_past bits g false (omega (arith, ap length e, length-map-range_with_len (is_register_copy h k) 0 (length h.nodes), l)) ∙ sym (outside (is_copy (role_at h k g)) refl)
        where
          outside : (b : Bool) → is_copy (role_at h k g) ≡ b → is_register_copy h k g ≡ false
          outside true t = absurd (let w = node_with_role (length h.inputs + g) t in omega (arith, w.1, l))
          outside false t = ap (λ b. b && is_some_register (node_at h g)) t

  pub own_count : (bits : List Bool) → bits ≡ map (is_register_copy h k) (range_with_len 0 (length h.nodes)) → (g : ℕ) → length (own_original h k g) ≡ length (marked bits g)
  own_count bits e g = go (role_at h k g) (is_some_register (node_at h g)) ∙ sym (ap (λ b. length (cond b (g ∷ []) [])) (bit_of bits e g))
    where
      go : (o : Option Role) (b : Bool) → length (original_of o b) ≡ length (cond (is_copy o && b) (g ∷ []) [])
      go None true = refl
      go None false = refl
      go (Some (Copy x c)) true = refl
      go (Some (Copy x c)) false = refl
      go (Some (Voter x p c)) true = refl
      go (Some (Voter x p c)) false = refl

-- what labels grow by
abbrev pub label_at : Net → PlainCert → ℕ → ℕ
label_at h k g = count_of k (length h.inputs + g)

module _ (h : Net) (k : PlainCert) (rule : (g : ℕ) → Rule6 h k (length h.inputs + g)) where
  -- a copy's label, and what its pins want
  reaches_label : (g : ℕ) → is_copy (role_at h k g) ≡ true → LabelReaches k (node_at h g) (label_at h k g)
  reaches_label g t = go (role_at h k g) refl t
    where
      go : (o : Option Role) → role_at h k g ≡ o → is_copy o ≡ true → LabelReaches k (node_at h g) (label_at h k g)
      go None e t = absurd (no_absurd (sym t))
      go (Some (Copy x c)) e t = subst (LabelReaches k (node_at h g)) (sym (ap (role_count k) e)) (rule g x.0 c e)
      go (Some (Voter x p c)) e t = absurd (no_absurd (sym t))

  -- a copy's label is at least that of what it reads, and one more where it is a register
  pub label_grows : (f g : ℕ) → ReadsCopy h k f g → label_at h k f + length (own_original h k g) ≤ label_at h k g
  label_grows f g r = go (node_at h g) refl r.within r.is (reaches_label g r.reader)
    where
      own : (b : Bool) → length (original_of (role_at h k g) b) ≤ 1
      own b = by (role_at h k g) b
        where
          by : (o : Option Role) (b : Bool) → length (original_of o b) ≤ 1
          by None b = omega arith
          by (Some (Copy x c)) true = omega arith
          by (Some (Copy x c)) false = omega arith
          by (Some (Voter x p c)) b = omega arith

      none : (o : Option Role) → length (original_of o false) ≡ 0
      none None = refl
      none (Some (Copy x c)) = refl
      none (Some (Voter x p c)) = refl

      go : (o : Option Node) → node_at h g ≡ o → r.pin < length (pins_at o) → get_or (pins_at o) r.pin 0 ≡ length h.inputs + f → LabelReaches k o (label_at h k g) → label_at h k f + length (own_original h k g) ≤ label_at h k g
      go None e l is reach = absurd (omega arith)
      go (Some (Table name cover pins)) e l is reach =
          let at : label_at h k f ≤ label_at h k g = subst (λ (q : ℕ). count_of k q ≤ label_at h k g) is (reach r.pin l) in
          let empty : length (own_original h k g) ≡ 0 = ap (λ o. length (original_of (role_at h k g) (is_some_register o))) e ∙ none (role_at h k g) in
          omega (arith, at, empty)
      go (Some (Register name init pin)) e l is reach = by r.pin l is
        where
          by : (j : ℕ) → j < length (pin ∷ []) → get_or (pin ∷ []) j 0 ≡ length h.inputs + f → label_at h k f + length (own_original h k g) ≤ label_at h k g
          by zero l is = let at : label_at h k f + 1 ≤ label_at h k g = subst (λ (q : ℕ). count_of k q + 1 ≤ label_at h k g) is reach in omega (arith, at, own (is_some_register (node_at h g)))
          by (suc j) l is = absurd (omega arith)

  -- a register's label counts itself
  pub label_own : (g : ℕ) → length (own_original h k g) ≤ label_at h k g
  label_own g = go (role_at h k g) refl
    where
      go : (o : Option Role) → role_at h k g ≡ o → length (original_of (role_at h k g) (is_some_register (node_at h g))) ≤ label_at h k g
      go None e = let z : length (original_of (role_at h k g) (is_some_register (node_at h g))) ≡ 0 = ap (λ o. length (original_of o (is_some_register (node_at h g)))) e in omega (arith, z)
      go (Some (Voter x p c)) e = let z : length (original_of (role_at h k g) (is_some_register (node_at h g))) ≡ 0 = ap (λ o. length (original_of o (is_some_register (node_at h g)))) e in omega (arith, z)
      go (Some (Copy x c)) e = by (node_at h g) refl (reaches_label g (ap is_copy e))
        where
          little : (b : Bool) → length (original_of (Some (Copy x c)) b) ≤ 1
          little true = omega arith
          little false = omega arith

          by : (o : Option Node) → node_at h g ≡ o → LabelReaches k o (label_at h k g) → length (original_of (role_at h k g) (is_some_register (node_at h g))) ≤ label_at h k g
          by None f reach = let z : length (original_of (role_at h k g) (is_some_register (node_at h g))) ≡ 0 = ap (λ o. length (original_of o (is_some_register (node_at h g)))) e ∙ ap (λ o. length (original_of (Some (Copy x c)) (is_some_register o))) f in omega (arith, z)
          by (Some (Table name cover pins)) f reach = let z : length (original_of (role_at h k g) (is_some_register (node_at h g))) ≡ 0 = ap (λ o. length (original_of o (is_some_register (node_at h g)))) e ∙ ap (λ o. length (original_of (Some (Copy x c)) (is_some_register o))) f in omega (arith, z)
          by (Some (Register name init pin)) f reach = let z : length (original_of (role_at h k g) (is_some_register (node_at h g))) ≡ length (original_of (Some (Copy x c)) (is_some_register (node_at h g))) = ap (λ o. length (original_of o (is_some_register (node_at h g)))) e in omega (arith, z, little (is_some_register (node_at h g)), reach)
