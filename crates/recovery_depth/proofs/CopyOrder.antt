-- Copies make no loop: labels grow at registers, and tables stand in an order.
use Rattle.std.proofs.Common.{◌≡◌, ℕ, ◌+◌, ◌<◌, ◌≤◌, ◌⊎◌, true, List, length, get_or, refl, sym, ◌∙◌, ap, subst, inl, inr, arith}
use Rattle.std.specs.Prelude.{Option, Some, None}
use Rattle.std.proofs.lemmas.Bool.{cases_lt}
use Rattle.flat_net.specs.Net.{Net, Node, Table, Register, node_of, pins_at, IsTable, table_pins, IsOrder}
use Rattle.flat_net.specs.Private.ByPlace.{IsOrderByPlace}
use Rattle.flat_net.proofs.ByPlace.{by_place}
use Rattle.certificate.specs.declared.role.Role.{Role}
use Rattle.certificate.specs.declared.role.Role.TheVariants.{Copy, Voter}
use Rattle.certificate.specs.Cert.{PlainCert, Fits}
use Rattle.certificate.specs.Rules.{Rule6}
use Rattle.graph.specs.Rows.{Follows}
use Rattle.graph.specs.Lists.{Leads, alone, longer}
use Rattle.graph.proofs.Places.{leads_map}
use Rattle.graph.proofs.Decisions.{no_absurd}
use Rattle.recovery_depth.specs.Private.Vertices.{HasNoLoop}
use Rattle.recovery_depth.specs.Depths.{is_some_register}
use Rattle.recovery_depth.specs.Hardened.{role_at, node_at, is_copy, ReadsCopy, original_of, own_original}
use Rattle.recovery_depth.specs.Private.Copied.{copied_rows}
use Rattle.recovery_depth.proofs.CopyLaws.{label_at, label_grows, reads_of_follows, node_with_role}

module _ (n h : Net) (k : PlainCert) (order : List ℕ) (fits : Fits n h k) (ordered : IsOrder h order) (rule : (g : ℕ) → Rule6 h k (length h.inputs + g)) where
  places : IsOrderByPlace h order
  places = by_place h order ordered

  -- f stands before g in the order of the design
  record Earlier (f g : ℕ) : Type 0 where
    pub first : ℕ
    pub second : ℕ
    pub order_is : first < second
    pub within : second < length order
    pub first_is : get_or order first 0 ≡ length h.inputs + f
    pub second_is : get_or order second 0 ≡ length h.inputs + g

  earlier_join : (a b c : ℕ) → Earlier a b → Earlier b c → Earlier a c
  earlier_join a b c p q = record { first = p.first; second = q.second; order_is = (let e = same (cases_lt p.second q.first) (cases_lt q.first p.second) in let l = p.order_is in let m = q.order_is in omega arith); within = q.within; first_is = p.first_is; second_is = q.second_is }
    where
      same : (p.second < q.first) ⊎ (q.first ≤ p.second) → (q.first < p.second) ⊎ (p.second ≤ q.first) → p.second ≡ q.first
      same (inl l) o = absurd (places.once p.second q.first l (let m = q.order_is in let w = q.within in omega arith) (p.second_is ∙ sym q.first_is))
      same (inr l) (inl o) = absurd (places.once q.first p.second o p.within (q.first_is ∙ sym p.second_is))
      same (inr l) (inr o) = omega arith

  not_itself : (a : ℕ) → Earlier a a → ⊥
  not_itself a p = places.once p.first p.second p.order_is p.within (p.first_is ∙ sym p.second_is)

  -- c is above a: by its label, or it is a table behind a
  IsAbove : ℕ → ℕ → Type 0
  IsAbove a c = (label_at h k a < label_at h k c) ⊎ ((label_at h k a ≡ label_at h k c) × IsTable (node_at h c) × (IsTable (node_at h a) → Earlier a c))

  above_join : (a b c : ℕ) → IsAbove a b → IsAbove b c → IsAbove a c
  unfolding IsAbove
  above_join a b c (inl l) (inl m) = inl (omega arith)
  above_join a b c (inl l) (inr m) = let e = m.0 in inl (omega arith)
  above_join a b c (inr l) (inl m) = let e = l.0 in inl (omega arith)
  above_join a b c (inr l) (inr m) = inr (l.0 ∙ m.0, m.1, λ t. earlier_join a b c (l.2 t) (m.2 l.1))

  above_itself : (a : ℕ) → IsAbove a a → ⊥
  unfolding IsAbove
  above_itself a (inl l) = omega arith
  above_itself a (inr l) = not_itself a (l.2 l.1)

  -- a table stands behind each table that it reads
  table_order : (f g : ℕ) → ReadsCopy h k f g → IsTable (node_at h g) → IsTable (node_at h f) → Earlier f g
  table_order f g r t u = go (places.complete (length h.inputs + g) (omega arith) (let w = node_with_role n h k fits (length h.inputs + g) r.reader in w.1))
    where
      same_pins : (o : Option Node) → IsTable o → table_pins o ≡ pins_at o
      same_pins None t = absurd t
      same_pins (Some (Table name cover pins)) t = refl
      same_pins (Some (Register name init pin)) t = absurd t

      go : (j : ℕ) × (j < length order) × (get_or order j 0 ≡ length h.inputs + g) → Earlier f g
      go (j, l, e) = found (places.after j r.pin l within is_table)
        where
          at : table_pins (node_of h (get_or order j 0)) ≡ pins_at (node_at h g)
          at = ap (λ (x : ℕ). table_pins (node_of h x)) e ∙ same_pins (node_at h g) t

          within : r.pin < length (table_pins (node_of h (get_or order j 0)))
          within = subst (λ (ps : List ℕ). r.pin < length ps) (sym at) r.within

          there : get_or (table_pins (node_of h (get_or order j 0))) r.pin 0 ≡ length h.inputs + f
          there = ap (λ (ps : List ℕ). get_or ps r.pin 0) at ∙ r.is

          is_table : IsTable (node_of h (get_or (table_pins (node_of h (get_or order j 0))) r.pin 0))
          is_table = subst (λ (x : ℕ). IsTable (node_of h x)) (sym there) u

          found : (i : ℕ) × (i < j) × (get_or order i 0 ≡ get_or (table_pins (node_of h (get_or order j 0))) r.pin 0) → Earlier f g
          found (i, m, s) = record { first = i; second = j; order_is = m; within = l; first_is = s ∙ there; second_is = e }

  -- a copy is above what it reads
  reads_above : (f g : ℕ) → ReadsCopy h k f g → IsAbove f g
  unfolding IsAbove
  reads_above f g r = go (cases_lt (label_at h k f) (label_at h k g)) (label_grows h k rule f g r)
    where
      is_table : (o : Option Node) → node_at h g ≡ o → r.pin < length (pins_at o) → label_at h k g ≤ label_at h k f → label_at h k f + length (own_original h k g) ≤ label_at h k g → IsTable o
      is_table None e l le grows = absurd (omega arith)
      is_table (Some (Table name cover pins)) e l le grows = tt
      is_table (Some (Register name init pin)) e l le grows = absurd (counted (role_at h k g) refl r.reader)
        where
          counted : (o : Option Role) → role_at h k g ≡ o → is_copy o ≡ true → ⊥
          counted None f t = no_absurd (sym t)
          counted (Some (Voter x p c)) f t = no_absurd (sym t)
          counted (Some (Copy x c)) f t =
              let one : length (own_original h k g) ≡ 1 = ap (λ o. length (original_of o (is_some_register (node_at h g)))) f ∙ ap (λ o. length (original_of (Some (Copy x c)) (is_some_register o))) e in
              omega (arith, one, le, grows)

      go : (label_at h k f < label_at h k g) ⊎ (label_at h k g ≤ label_at h k f) → label_at h k f + length (own_original h k g) ≤ label_at h k g → (label_at h k f < label_at h k g) ⊎ ((label_at h k f ≡ label_at h k g) × IsTable (node_at h g) × (IsTable (node_at h f) → Earlier f g))
      go (inl l) grows = inl l
      go (inr l) grows = let t : IsTable (node_at h g) = is_table (node_at h g) refl r.within l grows in inr (omega (arith, l, grows), t, λ u. table_order f g r t u)

  leads_above : (a b c : ℕ) → Leads (ReadsCopy h k) a b → ReadsCopy h k b c → IsAbove a c
  leads_above _ _ c (alone a) r = reads_above a c r
  leads_above _ _ c (longer a b d l next) r = above_join a d c (leads_above a b d l next) (reads_above d c r)

  pub no_copy_loop : HasNoLoop (copied_rows h k)
  no_copy_loop x y l f = above_itself x (leads_above x y x (leads_map (Follows (copied_rows h k)) (ReadsCopy h k) (reads_of_follows n h k fits) x y l) (reads_of_follows n h k fits y x f))
