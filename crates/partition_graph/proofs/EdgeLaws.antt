-- One net more that leads somewhere.
use Rattle.std.proofs.Common.{◌≡◌, ◌≢◌, ℕ, ◌+◌, ◌<◌, ◌≤◌, ◌⊎◌, inl, inr, Bool, true, false, ◌&&◌, ◌||◌, cond, List, [], length, slice_index, Option, Some, refl, sym, ◌∙◌, ap, subst, arith}
use Rattle.std.specs.Prelude.{◌==◌, unwrap_or, All}
use Rattle.std.proofs.lemmas.Bool.{cases_eq, eq-eqb, ne_eqb}
use Rattle.std.proofs.lemmas.Map.Views.{All-values-insert_entry}
use Rattle.std.specs.declared.cmp.Ordering.{Ordering}
use Rattle.std.specs.declared.cmp.Ordering.TheVariants.{Less, Equal, Greater}
use Rattle.std.specs.Ordering.{nat_cmp, ordering_then, is_eq}
use Rattle.std.specs.Cmp.{nat_cmp_is}
use Rattle.std.specs.Map.{lookup, values_of}
use Rattle.std.specs.BTreeMap.{BTreeMap, IsOrdered, get, is_at, insert_entry}
use Rattle.partitioner.specs.Below.{count_below, one_if}
use Rattle.partitioner.proofs.BelowLaws.{count_same, count_changed, count_le}
use Rattle.partition_graph.specs.declared.edges.Edges.{Edges}
use Rattle.partition_graph.specs.Edges.{edge_cmp, number_of_edge}
use Rattle.partition_graph.specs.Private.Meeting.{is_met, AreCounted}
use Rattle.partition_graph.proofs.CountLaws.{none_pass}

pub or_false : (b : Bool) → (b || false) ≡ b
or_false true = refl
or_false false = refl

pub or_true : (b : Bool) → (b || true) ≡ true
or_true true = refl
or_true false = refl

pub or_assoc : (a b c : Bool) → ((a || b) || c) ≡ (a || (b || c))
or_assoc true b c = refl
or_assoc false b c = refl

pub and_false : (b : Bool) → (b && false) ≡ false
and_false true = refl
and_false false = refl

-- the nets of place a that lead to place b, where `met x b` says that net x does
abbrev pub is_of : List ℕ → (ℕ → ℕ → Bool) → ℕ → ℕ → ℕ → Bool
is_of homes met a b x = slice_index homes x == a && met x b

module _ (homes : List ℕ) (old new : ℕ → ℕ → Bool) (y c : ℕ) (within : y < length homes) (is : (x b : ℕ) → new x b ≡ (old x b || (y == x && c == b))) where
  -- what is no new pair stays
  same_elsewhere : (x b : ℕ) → (y ≢ x) ⊎ (c ≢ b) → new x b ≡ old x b
  same_elsewhere x b (inl ne) = is x b ∙ (ap (λ (e : Bool). old x b || (e && c == b)) (ne_eqb y x ne) ∙ or_false (old x b))
  same_elsewhere x b (inr ne) = is x b ∙ (ap (λ (e : Bool). old x b || (y == x && e)) (ne_eqb c b ne) ∙ (ap (λ (e : Bool). old x b || e) (and_false (y == x)) ∙ or_false (old x b)))

  met_now : new y c ≡ true
  met_now = is y c ∙ (ap (λ (e : Bool). old y c || (e && c == c)) (eq-eqb y y refl) ∙ (ap (λ (e : Bool). old y c || e) (eq-eqb c c refl) ∙ or_true (old y c)))

  -- where the pair was met, nothing changes
  pub again_same : old y c ≡ true → (a b : ℕ) → count_below (length homes) (is_of homes new a b) ≡ count_below (length homes) (is_of homes old a b)
  again_same was a b = count_same (length homes) (is_of homes new a b) (is_of homes old a b) (λ x h. ap (λ (e : Bool). slice_index homes x == a && e) (go x (cases_eq y x) (cases_eq c b)))
    where
      go : (x : ℕ) → (y ≡ x) ⊎ (y ≢ x) → (c ≡ b) ⊎ (c ≢ b) → new x b ≡ old x b
      go x (inr ne) e = same_elsewhere x b (inl ne)
      go x (inl e) (inr ne) = same_elsewhere x b (inr ne)
      go x (inl e) (inl f) = sym (ap (λ (z : ℕ). new z b) e) ∙ (sym (ap (new y) f) ∙ (met_now ∙ (sym was ∙ (ap (old y) f ∙ ap (λ (z : ℕ). old z b) e))))

  -- where it was not, its edge has one net more
  pub here_more : old y c ≡ false → count_below (length homes) (is_of homes new (slice_index homes y) c) ≡ count_below (length homes) (is_of homes old (slice_index homes y) c) + 1
  here_more was =
      let a = slice_index homes y in
      let changed = count_changed (length homes) y (is_of homes new a c) (is_of homes old a c) within (λ x h ne. ap (λ (e : Bool). slice_index homes x == a && e) (same_elsewhere x c (inl (λ e. ne (sym e))))) in
      let before : one_if (is_of homes old a c y) ≡ 0 = ap (λ (e : Bool). one_if (slice_index homes y == a && e)) was ∙ ap one_if (and_false (slice_index homes y == a)) in
      let now : one_if (is_of homes new a c y) ≡ 1 = ap (λ (e : Bool). one_if (e && new y c)) (eq-eqb a a refl) ∙ ap one_if met_now in
      omega (arith, changed, before, now)

  -- and the others stay
  pub others_same : (a b : ℕ) → (slice_index homes y ≢ a) ⊎ (c ≢ b) → count_below (length homes) (is_of homes new a b) ≡ count_below (length homes) (is_of homes old a b)
  others_same a b apart = count_same (length homes) (is_of homes new a b) (is_of homes old a b) (λ x h. go x apart (cases_eq y x))
    where
      go : (x : ℕ) → (slice_index homes y ≢ a) ⊎ (c ≢ b) → (y ≡ x) ⊎ (y ≢ x) → is_of homes new a b x ≡ is_of homes old a b x
      go x (inr ne) e = ap (λ (v : Bool). slice_index homes x == a && v) (same_elsewhere x b (inr ne))
      go x (inl ne) (inr apart) = ap (λ (v : Bool). slice_index homes x == a && v) (same_elsewhere x b (inl apart))
      go x (inl ne) (inl e) =
          let no : (slice_index homes x == a) ≡ false = ne_eqb (slice_index homes x) a (λ h. ne (ap (slice_index homes) e ∙ h)) in
          ap (λ (v : Bool). v && new x b) no ∙ sym (ap (λ (v : Bool). v && old x b) no)

pub few_counted : (homes : List ℕ) (met : ℕ → ℕ → Bool) (a b : ℕ) → count_below (length homes) (is_of homes met a b) ≤ length homes
few_counted homes met a b = count_le (length homes) (is_of homes met a b)

-- ---- the numbers that a map keeps

three_ways : (a b : ℕ) → (a < b) ⊎ ((a ≡ b) ⊎ (b < a))
three_ways a b = grind arith

nat_is_eq : (a b : ℕ) → is_eq (nat_cmp a b) ≡ (a == b)
nat_is_eq a b = go (three_ways a b)
  where
    go : (a < b) ⊎ ((a ≡ b) ⊎ (b < a)) → is_eq (nat_cmp a b) ≡ (a == b)
    go (inl l) = ap is_eq (sym (nat_cmp_is a b Less l)) ∙ sym (ne_eqb a b (λ e. absurd (omega arith)))
    go (inr (inl e)) = ap is_eq (sym (nat_cmp_is a b Equal e)) ∙ sym (eq-eqb a b e)
    go (inr (inr l)) = ap is_eq (sym (nat_cmp_is a b Greater l)) ∙ sym (ne_eqb a b (λ e. absurd (omega arith)))

edge_is_eq : (a b c d : ℕ) → is_eq (edge_cmp (a, b) (c, d)) ≡ (a == c && b == d)
edge_is_eq a b c d = go (three_ways a c)
  where
    go : (a < c) ⊎ ((a ≡ c) ⊎ (c < a)) → is_eq (edge_cmp (a, b) (c, d)) ≡ (a == c && b == d)
    go (inl l) = ap (λ (o : Ordering). is_eq (ordering_then o (nat_cmp b d))) (sym (nat_cmp_is a c Less l)) ∙ ap (λ (t : Bool). t && b == d) (sym (ne_eqb a c (λ e. absurd (omega arith))))
    go (inr (inl e)) = ap (λ (o : Ordering). is_eq (ordering_then o (nat_cmp b d))) (sym (nat_cmp_is a c Equal e)) ∙ (nat_is_eq b d ∙ ap (λ (t : Bool). t && b == d) (sym (eq-eqb a c e)))
    go (inr (inr l)) = ap (λ (o : Ordering). is_eq (ordering_then o (nat_cmp b d))) (sym (nat_cmp_is a c Greater l)) ∙ ap (λ (t : Bool). t && b == d) (sym (ne_eqb a c (λ e. absurd (omega arith))))

-- what was written for one edge
put_through : (t : Bool) (k : ℕ) (o : Option ℕ) → unwrap_or (cond t (Some k) o) 0 ≡ cond t k (unwrap_or o 0)
put_through true k o = refl
put_through false k o = refl

pub number_put : (m next : BTreeMap (ℕ × ℕ) ℕ) (a b k : ℕ) → ((q : ℕ × ℕ) → get edge_cmp next q ≡ cond (is_at (edge_cmp (a, b)) q) (Some k) (get edge_cmp m q)) → (c d : ℕ)
    → number_of_edge next c d ≡ cond (a == c && b == d) k (number_of_edge m c d)
number_put m next a b k put c d =
    ap (λ (o : Option ℕ). unwrap_or o 0) (put (c, d)) ∙ (put_through (is_at (edge_cmp (a, b)) (c, d)) k (get edge_cmp m (c, d)) ∙ ap (λ (t : Bool). cond t k (number_of_edge m c d)) (edge_is_eq a b c d))

pub none_kept : (m : BTreeMap (ℕ × ℕ) ℕ) (a b : ℕ) → m.entries ≡ [] → number_of_edge m a b ≡ 0
none_kept m a b e = ap (λ (es : List ((ℕ × ℕ) × ℕ)). unwrap_or (lookup (is_at (edge_cmp (a, b))) es) 0) e

pub or_from_cond : (t o : Bool) → cond t true o ≡ (o || t)
or_from_cond true o = sym (or_true o)
or_from_cond false o = sym (or_false o)

-- no edge, one more net on an edge, and a net that was met
pub none_counted : (homes : List ℕ) (e : Edges) → IsOrdered edge_cmp e.counts → e.counts.entries ≡ [] → ((x b : ℕ) → is_met e x b ≡ false) → AreCounted homes e
none_counted homes e ordered empty none = record {
  ascending = ordered;
  numbers = λ a b. none_kept e.counts a b empty ∙ sym (none_pass (length homes) (is_of homes (is_met e) a b) (λ x h. ap (λ (v : Bool). slice_index homes x == a && v) (none x b) ∙ and_false (slice_index homes x == a)));
  some = subst (λ (es : List ((ℕ × ℕ) × ℕ)). All (λ number. 0 < number) (values_of es)) (sym empty) (λ i d l. absurd (omega arith));
}

pub met_again : (homes : List ℕ) (old new : Edges) (y c : ℕ) → y < length homes → AreCounted homes old → new.counts ≡ old.counts → ((x b : ℕ) → is_met new x b ≡ (is_met old x b || (y == x && c == b))) → is_met old y c ≡ true → AreCounted homes new
met_again homes old new y c within before same is was = record {
  ascending = subst (IsOrdered edge_cmp) (sym same) before.ascending;
  numbers = λ a b. ap (λ (m : BTreeMap (ℕ × ℕ) ℕ). number_of_edge m a b) same ∙ (before.numbers a b ∙ sym (again_same homes (is_met old) (is_met new) y c within is was a b));
  some = subst (λ (m : BTreeMap (ℕ × ℕ) ℕ). All (λ number. 0 < number) (values_of m.entries)) (sym same) before.some;
}

pub met_first : (homes : List ℕ) (old new : Edges) (y c number : ℕ) → y < length homes → AreCounted homes old → IsOrdered edge_cmp new.counts
    → ((q : ℕ × ℕ) → get edge_cmp new.counts q ≡ cond (is_at (edge_cmp (slice_index homes y, c)) q) (Some (number + 1)) (get edge_cmp old.counts q))
    → new.counts.entries ≡ insert_entry edge_cmp old.counts.entries (slice_index homes y, c) (number + 1) → number ≡ number_of_edge old.counts (slice_index homes y) c
    → ((x b : ℕ) → is_met new x b ≡ (is_met old x b || (y == x && c == b))) → is_met old y c ≡ false → AreCounted homes new
met_first homes old new y c number within before ordered put entries kept is was = record {
  ascending = ordered;
  numbers = λ a b. number_put old.counts new.counts (slice_index homes y) c (number + 1) put a b ∙ go a b (cases_eq (slice_index homes y) a) (cases_eq c b);
  some = subst (λ (es : List ((ℕ × ℕ) × ℕ)). All (λ number. 0 < number) (values_of es)) (sym entries)
      (All-values-insert_entry edge_cmp (slice_index homes y, c) (number + 1) (λ (v : ℕ). 0 < v) old.counts.entries before.some (omega arith));
}
  where
    go : (a b : ℕ) → (slice_index homes y ≡ a) ⊎ (slice_index homes y ≢ a) → (c ≡ b) ⊎ (c ≢ b) → cond (slice_index homes y == a && c == b) (number + 1) (number_of_edge old.counts a b) ≡ count_below (length homes) (is_of homes (is_met new) a b)
    go a b (inl e) (inl f) =
        ap (λ (t : Bool). cond (t && c == b) (number + 1) (number_of_edge old.counts a b)) (eq-eqb (slice_index homes y) a e)
        ∙ (ap (λ (t : Bool). cond t (number + 1) (number_of_edge old.counts a b)) (eq-eqb c b f)
        ∙ (ap (λ (m : ℕ). m + 1) (kept ∙ before.numbers (slice_index homes y) c)
        ∙ (sym (here_more homes (is_met old) (is_met new) y c within is was)
        ∙ (ap (λ (z : ℕ). count_below (length homes) (is_of homes (is_met new) z c)) e ∙ ap (λ (z : ℕ). count_below (length homes) (is_of homes (is_met new) a z)) f))))
    go a b (inr ne) f =
        ap (λ (t : Bool). cond (t && c == b) (number + 1) (number_of_edge old.counts a b)) (ne_eqb (slice_index homes y) a ne)
        ∙ (before.numbers a b ∙ sym (others_same homes (is_met old) (is_met new) y c within is a b (inl ne)))
    go a b (inl e) (inr ne) =
        ap (λ (t : Bool). cond (slice_index homes y == a && t) (number + 1) (number_of_edge old.counts a b)) (ne_eqb c b ne)
        ∙ (ap (λ (t : Bool). cond t (number + 1) (number_of_edge old.counts a b)) (and_false (slice_index homes y == a))
        ∙ (before.numbers a b ∙ sym (others_same homes (is_met old) (is_met new) y c within is a b (inr ne))))
