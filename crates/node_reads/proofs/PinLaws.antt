-- What one more pin of a node marks.
use Rattle.std.proofs.Common.{◌≡◌, ℕ, suc, ◌+◌, ◌<◌, ◌≤◌, ◌⊎◌, inl, inr, Bool, true, false, not, eqb, ◌&&◌, ◌||◌, List, length, refl, sym, ◌∙◌, ap, subst, arith, get_or, take}
use Rattle.std.specs.List.{list_any}
use Rattle.std.proofs.lemmas.Bool.{eq-eqb, ne_eqb, cases_eq}
use Rattle.std.proofs.lemmas.List.{take_all}
use Rattle.std.proofs.lemmas.List.Folds.{list_any_more}
use Rattle.flat_net.specs.Net.{Net, node_of, pins_at}
use Rattle.node_reads.specs.Reading.{reads}
use Rattle.node_reads.specs.Sources.{reads_other}
use Rattle.node_reads.specs.Private.Marking.{marked_by_pins, ListsMarked}
use Rattle.node_reads.specs.Noting.{Lists, noted}
use Rattle.node_reads.proofs.NotingLaws.{noted_marks, marks_same, marks_none, marks_all}

-- the first j of these pins name z, another node than y; the first node has net number a
marks : ℕ → List ℕ → ℕ → ℕ → ℕ → Bool
marks a pins y j z = not (eqb z y) && list_any (λ pin. eqb pin (a + z)) (take j pins)

eqb_added : (a x z : ℕ) → eqb (a + x) (a + z) ≡ eqb x z
eqb_added a x z = go (cases_eq x z)
  where
    go : (x ≡ z) ⊎ (x ≡ z → ⊥) → eqb (a + x) (a + z) ≡ eqb x z
    go (inl e) = eq-eqb (a + x) (a + z) (ap (λ (k : ℕ). a + k) e) ∙ sym (eq-eqb x z e)
    go (inr ne) = ne_eqb (a + x) (a + z) (λ e. ne (omega (arith, e))) ∙ sym (ne_eqb x z ne)

marks_node : (a : ℕ) (pins : List ℕ) (y j x z : ℕ) → j < length pins → get_or pins j 0 ≡ a + x → (x ≡ y → ⊥) → marks a pins y (j + 1) z ≡ (marks a pins y j z || eqb x z)
unfolding marks
marks_node a pins y j x z l at other =
    ap (λ (b : Bool). not (eqb z y) && b) (list_any_more (λ pin. eqb pin (a + z)) pins j 0 l ∙ ap (λ (b : Bool). list_any (λ pin. eqb pin (a + z)) (take j pins) || b) (ap (λ (k : ℕ). eqb k (a + z)) at ∙ eqb_added a x z))
    ∙ go (cases_eq z y)
  where
    seen : Bool
    seen = list_any (λ pin. eqb pin (a + z)) (take j pins)

    spread : (b c d : Bool) → b ≡ false → (not b && (c || d)) ≡ ((not b && c) || d)
    spread b c d e = ap (λ (b : Bool). not b && (c || d)) e ∙ sym (ap (λ (b : Bool). (not b && c) || d) e)

    none : (b c d : Bool) → b ≡ true → d ≡ false → (not b && (c || d)) ≡ ((not b && c) || d)
    none b c d e f = ap (λ (b : Bool). not b && (c || d)) e ∙ sym (ap (λ (b : Bool). (not b && c) || d) e ∙ f)

    go : (z ≡ y) ⊎ (z ≡ y → ⊥) → (not (eqb z y) && (list_any (λ pin. eqb pin (a + z)) (take j pins) || eqb x z)) ≡ ((not (eqb z y) && list_any (λ pin. eqb pin (a + z)) (take j pins)) || eqb x z)
    go (inl e) = none (eqb z y) (list_any (λ pin. eqb pin (a + z)) (take j pins)) (eqb x z) (eq-eqb z y e) (ne_eqb x z (λ q. other (q ∙ e)))
    go (inr ne) = spread (eqb z y) (list_any (λ pin. eqb pin (a + z)) (take j pins)) (eqb x z) (ne_eqb z y ne)

-- a pin that reads an input or the node itself
marks_nothing : (a : ℕ) (pins : List ℕ) (y j z : ℕ) → j < length pins → (get_or pins j 0 < a) ⊎ (get_or pins j 0 ≡ a + y) → marks a pins y (j + 1) z ≡ marks a pins y j z
unfolding marks
marks_nothing a pins y j z l which =
    ap (λ (b : Bool). not (eqb z y) && b) (list_any_more (λ pin. eqb pin (a + z)) pins j 0 l) ∙ go (cases_eq z y)
  where
    or_false : (b : Bool) → (b || false) ≡ b
    or_false true = refl
    or_false false = refl

    none : (b c d : Bool) → b ≡ true → (not b && c) ≡ (not b && d)
    none b c d e = ap (λ (b : Bool). not b && c) e ∙ sym (ap (λ (b : Bool). not b && d) e)

    misses : (z ≡ y → ⊥) → (get_or pins j 0 < a) ⊎ (get_or pins j 0 ≡ a + y) → eqb (get_or pins j 0) (a + z) ≡ false
    misses ne (inl h) = ne_eqb (get_or pins j 0) (a + z) (λ e. omega (arith, h, e))
    misses ne (inr h) = ne_eqb (get_or pins j 0) (a + z) (λ e. ne (omega (arith, h, e)))

    go : (z ≡ y) ⊎ (z ≡ y → ⊥) → (not (eqb z y) && (list_any (λ pin. eqb pin (a + z)) (take j pins) || eqb (get_or pins j 0) (a + z))) ≡ (not (eqb z y) && list_any (λ pin. eqb pin (a + z)) (take j pins))
    go (inl e) = none (eqb z y) (list_any (λ pin. eqb pin (a + z)) (take j pins) || eqb (get_or pins j 0) (a + z)) (list_any (λ pin. eqb pin (a + z)) (take j pins)) (eq-eqb z y e)
    go (inr ne) = ap (λ (b : Bool). not (eqb z y) && b) (ap (λ (b : Bool). list_any (λ pin. eqb pin (a + z)) (take j pins) || b) (misses ne which) ∙ or_false (list_any (λ pin. eqb pin (a + z)) (take j pins)))

abbrev pub node_pins : Net → ℕ → List ℕ
node_pins n y = pins_at (node_of n (length n.inputs + y))

abbrev pub Marked : Net → ℕ → ℕ → List (List ℕ) → Type 0
Marked n y j rows = ListsMarked (reads_other n) y (length n.nodes) (marked_by_pins n y j) rows

pub pin_noted : (n : Net) (y j x : ℕ) (rows : List (List ℕ)) → Marked n y j rows → j < length (node_pins n y) → get_or (node_pins n y) j 0 ≡ length n.inputs + x → (x ≡ y → ⊥) → x < length n.nodes → Marked n y (j + 1) (noted rows x y)
unfolding marks
pin_noted n y j x rows lists l at other within =
    noted_marks (reads_other n) y (length n.nodes) (marked_by_pins n y j) (marked_by_pins n y (j + 1)) rows x lists within (λ z h. marks_node (length n.inputs) (node_pins n y) y j x z l at other)

pub pin_passed : (n : Net) (y j : ℕ) (rows : List (List ℕ)) → Marked n y j rows → j < length (node_pins n y) → (get_or (node_pins n y) j 0 < length n.inputs) ⊎ (get_or (node_pins n y) j 0 ≡ length n.inputs + y) → Marked n y (j + 1) rows
unfolding marks
pin_passed n y j rows lists l which =
    marks_same (reads_other n) y (length n.nodes) (marked_by_pins n y j) (marked_by_pins n y (j + 1)) rows lists (λ z h. marks_nothing (length n.inputs) (node_pins n y) y j z l which)

pub pins_start : (n : Net) (y : ℕ) (rows : List (List ℕ)) → Lists (reads_other n) y (length n.nodes) rows → Marked n y 0 rows
pins_start n y rows lists = marks_none (reads_other n) y (length n.nodes) (marked_by_pins n y 0) rows lists (λ z. none (eqb z y))
  where
    none : (b : Bool) → (not b && false) ≡ false
    none true = refl
    none false = refl

pub pins_end : (n : Net) (y j : ℕ) (rows : List (List ℕ)) → Marked n y j rows → length (node_pins n y) ≤ j → Lists (reads_other n) (y + 1) (length n.nodes) rows
unfolding reads
pins_end n y j rows lists past =
    let e : suc y ≡ y + 1 = omega arith in
    subst (λ (k : ℕ). Lists (reads_other n) k (length n.nodes) rows) e (marks_all (reads_other n) y (length n.nodes) (marked_by_pins n y j) rows lists (λ z h. ap (λ (pins : List ℕ). not (eqb z y) && list_any (λ pin. eqb pin (length n.inputs + z)) pins) (take_all j (node_pins n y) past)))
