-- Labels within a bound, as those of walks through pins that are neither cut nor extra.
use Rattle.std.proofs.Common.{◌≡◌, ◌≢◌, ℕ, ◌+◌, ◌<◌, ◌≤◌, ◌⊎◌, ◌==◌, ◌&&◌, ◌↔◌, Bool, true, false, List, length, get_or, map, refl, sym, ◌∙◌, ap, subst, inl, inr, arith}
use Rattle.std.specs.Prelude.{Option, Some, None}
use Rattle.std.specs.List.{range_with_len}
use Rattle.std.proofs.lemmas.Bool.{cases_lt, or_parts, or_from, and_right}
use Rattle.std.proofs.lemmas.Bool.Decides.{eqb_tells}
use Rattle.std.proofs.lemmas.List.{get_or_past}
use Rattle.tmr_base.specs.Parts.{PlainParts}
use Rattle.flat_net.specs.Net.{Net, Node, Table, Register, node_of, pins_at, IsValid}
use Rattle.graph.specs.Rows.{row, Follows}
use Rattle.feedback_cut.specs.Inner.{node_pins, ReadsInside, inner_rows}
use Rattle.feedback_cut.specs.Cut.{is_cut, ReadsUnvoted, CutsLoops}
use Rattle.feedback_cut.proofs.InnerLaws.{inner_long, inner_pins}
use Rattle.graph.proofs.Decisions.{no_absurd}
use Rattle.recovery_depth.specs.Walks.{IsReach, is_marked}
use Rattle.recovery_depth.specs.Private.Vertices.{IsOrdered, marked}
use Rattle.recovery_depth.specs.Private.Reaching.{IsGreatestOf}
use Rattle.recovery_depth.specs.Private.Uncut.{uncut_rows}
use Rattle.recovery_depth.specs.Depths.{is_some_register, is_register_at, own_register, IsDepth}
use Rattle.recovery_depth.specs.Private.Settled.{IsSettled, AreSettled}
use Rattle.recovery_depth.specs.Extra.{is_extra, is_cut_or_extra, ReadsMost, AreExtra}
use Rattle.recovery_depth.proofs.WalkLaws.{reach_map}
use Rattle.recovery_depth.proofs.UncutLaws.{rest_long, register_bit, own_count, reads_place, place_reads, uncut_places}
use Rattle.recovery_depth.proofs.SettledLaws.{bare_rows, bare_follows, follows_bare, bare_reach, none_marked}

both_true : (a b : Bool) → (a && b) ≡ true → (a ≡ true) × (b ≡ true)
both_true true true e = (refl, refl)
both_true true false e = absurd (no_absurd (sym e))
both_true false b e = absurd (no_absurd (sym e))

both : (a b : Bool) → a ≡ true → b ≡ true → (a && b) ≡ true
both true true e d = refl
both true false e d = absurd (no_absurd (sym d))
both false b e d = absurd (no_absurd (sym e))

-- a register has one pin
one_pin : (n : Net) (y : ℕ) → is_register_at n y ≡ true → length (node_pins n y) ≡ 1
one_pin n y e = go (node_of n (length n.inputs + y)) refl
  where
    go : (o : Option Node) → node_of n (length n.inputs + y) ≡ o → length (node_pins n y) ≡ 1
    go None d = absurd (no_absurd (sym (sym (ap is_some_register d) ∙ e)))
    go (Some (Table name cover pins)) d = absurd (no_absurd (sym (sym (ap is_some_register d) ∙ e)))
    go (Some (Register name init pin)) d = ap (λ o. length (pins_at o)) d

module _ (n : Net) (parts : PlainParts) (cut : List (List Bool)) (valid : IsValid n) (meets : CutsLoops n parts cut) (bits : List Bool) (bits_are : bits ≡ map (is_register_at n) (range_with_len 0 (length n.nodes))) (marks : List Bool) (labels order : List ℕ) (most : ℕ) (positive : 0 < most) (o : IsOrdered (uncut_rows (inner_rows n parts) cut) order) (s : AreSettled (uncut_rows (inner_rows n parts) cut) bits marks labels most) where
  abbrev rest : List (List ℕ)
  rest = uncut_rows (inner_rows n parts) cut

  long : length rest ≡ length n.nodes
  long = rest_long n parts cut valid meets

  -- a marked vertex is a node, and a register
  marked_node : (y : ℕ) → is_marked marks y ≡ true → (y < length n.nodes) × (is_register_at n y ≡ true)
  marked_node y e = go (cases_lt y (length n.nodes))
    where
      go : (y < length n.nodes) ⊎ (length n.nodes ≤ y) → (y < length n.nodes) × (is_register_at n y ≡ true)
      go (inr l) = absurd (no_absurd (sym e ∙ get_or_past marks y false (omega (arith, s.marks_long, long, l))))
      go (inl l) = (l, register_bit n parts cut valid meets bits bits_are y ∙ (both_true (is_marked bits y) _ (sym (s.each y (omega (arith, long, l))).mark ∙ e)).0)

  -- the row of a register has one place
  one_place : (y : ℕ) → y < length n.nodes → is_register_at n y ≡ true → length (row rest y) ≡ 1
  one_place y l e = uncut_places (inner_rows n parts) cut y (omega (arith, inner_long n parts, l)) ∙ (inner_pins n parts y l ∙ one_pin n y e)

  unvoted_of_follows : (x y : ℕ) → Follows (bare_rows rest marks) x y → ReadsUnvoted n parts (is_cut_or_extra cut marks) x y
  unvoted_of_follows x y f =
      let b = bare_follows rest marks x y f in
      let g : Follows rest x y = b.1 in
      let r = reads_place n parts cut valid meets y g.place g.within (omega (arith, g.is, long, g.vertex)) in
      record { pin = g.place; reads = subst (ReadsInside n parts y g.place) g.is r.2; unvoted = or_from (is_cut cut y g.place) (is_extra marks y g.place) r.1 (and_right (g.place == 0) (is_marked marks y) b.0) }

  -- a pin that is not extra is of no marked register
  unmarked : (y j : ℕ) → j < length (node_pins n y) → is_extra marks y j ≡ false → is_marked marks y ≡ false
  unmarked y j l e = go (is_marked marks y) refl
    where
      go : (b : Bool) → is_marked marks y ≡ b → is_marked marks y ≡ false
      go false m = m
      go true m =
          let first : j ≡ 0 = omega (arith, one_pin n y (marked_node y m).1, l) in
          absurd (no_absurd (sym (both (j == 0) (is_marked marks y) (ap (λ i. i == 0) first) m) ∙ e))

  follows_of_unvoted : (x y : ℕ) → ReadsUnvoted n parts (is_cut_or_extra cut marks) x y → Follows (bare_rows rest marks) x y
  follows_of_unvoted x y u =
      let v = or_parts (is_cut cut y u.pin) (is_extra marks y u.pin) u.unvoted in
      let p = place_reads n parts cut valid meets y u.pin x u.reads v.0 in
      follows_bare rest marks x y (omega (arith, long, p.0)) (unmarked y u.pin u.reads.pin v.1) (record { place = u.pin; within = p.1; is = p.2; vertex = omega (arith, long, p.3) })

  label_reach : (x : ℕ) → x < length n.nodes → IsReach (ReadsUnvoted n parts (is_cut_or_extra cut marks)) (own_register n) x (get_or labels x 0)
  label_reach x l =
      reach_map (Follows (bare_rows rest marks)) (ReadsUnvoted n parts (is_cut_or_extra cut marks)) (marked bits) (own_register n) unvoted_of_follows follows_of_unvoted (own_count n parts cut valid meets bits bits_are) x (get_or labels x 0)
      (bare_reach rest marks bits labels order most o s x (omega (arith, long, l)))

  -- what the pin of a marked register reads has the label `most`
  most_read : (y : ℕ) → is_marked marks y ≡ true → ReadsMost n parts cut labels most y 0
  most_read y e = go greatest.some
    where
      node : (y < length n.nodes) × (is_register_at n y ≡ true)
      node = marked_node y e

      settled : IsSettled rest bits marks labels most y
      settled = s.each y (omega (arith, long, node.0))

      greatest : IsGreatestOf (row rest y) labels settled.greatest
      greatest = settled.is_greatest

      is_most : settled.greatest ≡ most
      is_most = tells (eqb_tells settled.greatest most)
        where
          tells : (((settled.greatest == most) ≡ true) × (settled.greatest ≡ most)) ⊎ (((settled.greatest == most) ≡ false) × (settled.greatest ≢ most)) → settled.greatest ≡ most
          tells (inl t) = t.1
          tells (inr t) = absurd (no_absurd (sym (both_true (is_marked bits y) (settled.greatest == most) (sym settled.mark ∙ e)).1 ∙ t.0))

      go : (settled.greatest ≡ 0) ⊎ ((i : ℕ) × (i < length (row rest y)) × (get_or labels (get_or (row rest y) i 0) 0 ≡ settled.greatest)) → ReadsMost n parts cut labels most y 0
      go (inl z) = absurd (omega (arith, z, is_most, positive))
      go (inr (i, l, at)) = vertex (cases_lt (get_or (row rest y) 0 0) (length n.nodes))
        where
          first : i ≡ 0
          first = omega (arith, one_place y node.0 node.1, l)

          label : get_or labels (get_or (row rest y) 0 0) 0 ≡ most
          label = sym (ap (λ i. get_or labels (get_or (row rest y) i 0) 0) first) ∙ (at ∙ is_most)

          vertex : (get_or (row rest y) 0 0 < length n.nodes) ⊎ (length n.nodes ≤ get_or (row rest y) 0 0) → ReadsMost n parts cut labels most y 0
          vertex (inr past) = absurd (let z : get_or labels (get_or (row rest y) 0 0) 0 ≡ 0 = get_or_past labels (get_or (row rest y) 0 0) 0 (omega (arith, s.long, long, past)) in omega (arith, z, label, positive))
          vertex (inl v) =
              let r = reads_place n parts cut valid meets y 0 (omega (arith, one_place y node.0 node.1)) v in
              record { read = get_or (row rest y) 0 0; register = node.1; reads = r.2; uncut = r.1; label = label }

  marked_of_most : (y j : ℕ) → ReadsMost n parts cut labels most y j → is_extra marks y j ≡ true
  marked_of_most y j r = both (j == 0) (is_marked marks y) (ap (λ i. i == 0) first) mark
    where
      first : j ≡ 0
      first = let within : j < length (node_pins n y) = r.reads.pin in omega (arith, one_pin n y r.register, within)

      place : (y < length n.nodes) × (j < length (row rest y)) × (get_or (row rest y) j 0 ≡ r.read) × (r.read < length n.nodes)
      place = place_reads n parts cut valid meets y j r.read r.reads r.uncut

      settled : IsSettled rest bits marks labels most y
      settled = s.each y (omega (arith, long, place.0))

      above : most ≤ settled.greatest
      above = let up : get_or labels (get_or (row rest y) j 0) 0 ≤ settled.greatest = settled.is_greatest.most j place.1 in let same : get_or labels (get_or (row rest y) j 0) 0 ≡ most = ap (λ x. get_or labels x 0) place.2 ∙ r.label in omega (arith, up, same)

      below : settled.greatest ≤ most
      below = go settled.is_greatest.some
        where
          go : (settled.greatest ≡ 0) ⊎ ((i : ℕ) × (i < length (row rest y)) × (get_or labels (get_or (row rest y) i 0) 0 ≡ settled.greatest)) → settled.greatest ≤ most
          go (inl z) = omega (arith, z)
          go (inr (i, l, at)) = omega (arith, at, s.bounded (get_or (row rest y) i 0))

      mark : is_marked marks y ≡ true
      mark = settled.mark ∙ both (is_marked bits y) (settled.greatest == most) (sym (register_bit n parts cut valid meets bits bits_are y) ∙ r.register) (let e : settled.greatest ≡ most = omega (arith, above, below) in ap (λ g. g == most) e ∙ same most)
        where
          same : (k : ℕ) → (k == k) ≡ true
          same k = tells (eqb_tells k k)
            where
              tells : (((k == k) ≡ true) × (k ≡ k)) ⊎ (((k == k) ≡ false) × (k ≢ k)) → (k == k) ≡ true
              tells (inl t) = t.0
              tells (inr t) = absurd (t.1 refl)

  exact : (y j : ℕ) → (is_extra marks y j ≡ true) ↔ ReadsMost n parts cut labels most y j
  exact y j = (there, marked_of_most y j)
    where
      there : is_extra marks y j ≡ true → ReadsMost n parts cut labels most y j
      there e = go (eqb_tells j 0)
        where
          parts_of : ((j == 0) ≡ true) × (is_marked marks y ≡ true)
          parts_of = both_true (j == 0) (is_marked marks y) e

          go : (((j == 0) ≡ true) × (j ≡ 0)) ⊎ (((j == 0) ≡ false) × (j ≢ 0)) → ReadsMost n parts cut labels most y j
          go (inl t) = subst (ReadsMost n parts cut labels most y) (sym t.1) (most_read y parts_of.1)
          go (inr t) = absurd (no_absurd (sym parts_of.0 ∙ t.0))

  pub are_extra : (depths : List ℕ) → length depths ≡ parts.count → ((p : ℕ) → p < parts.count → IsDepth parts labels (length n.nodes) p (get_or depths p 0)) → AreExtra n parts cut most (record { marks = marks; table = record { labels = labels; depths = depths } })
  are_extra depths depths_long each = record {
    depths = record { nodes = s.long ∙ long; parts_long = depths_long; labels = label_reach; depths = each };
    exact = exact;
    bounded = λ x l. s.bounded x;
  }

  pub none_extra : length n.nodes < most → (y j : ℕ) → is_extra marks y j ≡ false
  none_extra far y j = and_right (j == 0) (is_marked marks y) (none_marked rest marks bits labels order most o s (omega (arith, long, far)) y)
