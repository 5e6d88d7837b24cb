-- One table more has its literal.
use Rattle.std.proofs.Common.{◌≡◌, ◌≢◌, ℕ, ◌+◌, ◌<◌, ◌≤◌, ◌⊎◌, inl, inr, Bool, false, List, [], ◌∷◌, length, map, slice_get, slice_index, Option, Some, None, refl, sym, ◌∙◌, ap, subst, arith}
use Rattle.std.specs.Prelude.{slice_set}
use Rattle.std.proofs.lemmas.List.{get_or-set_other, get_or-set_same, length-set}
use Rattle.std.proofs.lemmas.Option.{slice_get_within, get_or_from_slice_get}
use Rattle.table_cover.specs.Cover.{PlainCover, cover_value}
use Rattle.flat_net.proofs.ByPlace.{by_place}
use Rattle.flat_net.specs.Net.{Net, Node, Table, Register, net_count, node_of, pins_at, table_pins, IsTable, IsCoverOf, IsOrder, IsValid}
use Rattle.net_meaning.specs.Meaning.{bit}
use Rattle.net_meaning.proofs.Lists.{map_agree}
use Rattle.aag_text.specs.declared.aig.Literal.{Literal}
use Rattle.aag_text.specs.Aig.{literal_value}
use Rattle.aag_text.specs.Private.Gates.{PlainGates, AreMet}
use Rattle.aag_text.specs.Private.Nets.{literal_at, table_value, IsCycle, IsMade, AreRight, OnlyTables, IsMadeAt}

-- x is no table
pub unmade : (n : Net) (x : ℕ) (old : List Literal) (gates : PlainGates) → (IsTable (node_of n x) → ⊥) → IsMadeAt n x old old gates
unmade n x old gates no_table = record { long = refl; others = λ y h. refl; own = λ t. absurd (no_table t) }

map_map : {A B C : Type 0} (f : B → C) (g : A → B) (xs : List A) → map f (map g xs) ≡ map (λ x. f (g x)) xs
map_map f g [] = refl
map_map f g (x ∷ xs) = ap (λ (r : List _). f (g x) ∷ r) (map_map f g xs)

cover_table : (o : Option Node) (k : PlainCover) (f : ℕ → Bool) → IsCoverOf o k → cover_value k (map f (pins_at o)) ≡ table_value o f
cover_table None k f is = absurd is
cover_table (Some (Table name cover pins)) k f is = ap (λ (c : PlainCover). cover_value c (map f pins)) (sym is)
cover_table (Some (Register name init pin)) k f is = absurd is

same_or_not : (y x : ℕ) → (y ≡ x) ⊎ (y ≢ x)
same_or_not y x = grind arith

below_or_not : (a b : ℕ) → (a < b) ⊎ (b ≤ a)
below_or_not a b = grind arith

-- the table at x has its literal
pub made : (n : Net) (x : ℕ) (old : List Literal) (own : Literal) (gates : PlainGates) (cover : PlainCover) (pins : List Literal) → x < length old → IsTable (node_of n x) → IsCoverOf (node_of n x) cover → pins ≡ map (literal_at old) (pins_at (node_of n x))
    → ((values : ℕ → Bool) → values 0 ≡ false → AreMet values gates.list → literal_value values own ≡ cover_value cover (map (literal_value values) pins))
    → IsMadeAt n x old (slice_set old x own) gates
made n x old own gates cover pins l is_table is_cover is value = record {
  long = length-set old x own;
  others = λ y h. get_or-set_other old x y own _ (λ e. h e is_table);
  own = λ t values zero met.
      ap (literal_value values) (get_or-set_same old x own _ l)
      ∙ (value values zero met
      ∙ (ap (λ (ps : List Literal). cover_value cover (map (literal_value values) ps)) is
      ∙ (ap (cover_value cover) (map_map (literal_value values) (literal_at old) (pins_at (node_of n x)))
      ∙ cover_table (node_of n x) cover (λ p. literal_value values (literal_at old p)) is_cover)));
}

same_table : (o : Option Node) (f g : ℕ → Bool) → ((j : ℕ) → j < length (table_pins o) → f (slice_index (table_pins o) j) ≡ g (slice_index (table_pins o) j)) → table_value o f ≡ table_value o g
same_table None f g e = refl
same_table (Some (Table name cover pins)) f g e = ap (cover_value cover) (map_agree f g pins pins refl e)
same_table (Some (Register name init pin)) f g e = refl

-- the pins of a table are nets
pins_within : (n : Net) (x : ℕ) → IsValid n → (j : ℕ) → j < length (table_pins (node_of n x)) → slice_index (table_pins (node_of n x)) j < net_count n
pins_within n x valid = go (node_of n x) refl
  where
    go : (o : Option Node) → node_of n x ≡ o → (j : ℕ) → j < length (table_pins o) → slice_index (table_pins o) j < net_count n
    go None e j l = absurd (omega arith)
    go (Some (Table name cover pins)) e j l = (valid.unordered.wired x _ e).0 j 0 l
    go (Some (Register name init pin)) e j l = absurd (omega arith)

at_place : (order : List ℕ) (i x : ℕ) → slice_get order i ≡ Some x → slice_index order i ≡ x
at_place order i x e = get_or_from_slice_get order i x 0 e

-- one place of the order more
pub right_goes : (n : Net) (order : List ℕ) → IsOrder n order → IsValid n → (i x : ℕ) (first old new : List Literal) (gates more : PlainGates) → slice_get order i ≡ Some x → AreRight n order i first old gates → IsMadeAt n x old new more → ((values : ℕ → Bool) → AreMet values more.list → AreMet values gates.list) → AreRight n order (i + 1) first new more
right_goes n order is_order valid i x first old new gates more at right made before = λ values v cycle met y l is_made. go values v cycle met y l is_made (same_or_not y x)
  where
    here : slice_index order i ≡ x
    here = at_place order i x at

    -- a net that is made among the first places, but is not x
    earlier : (y : ℕ) → y ≢ x → IsMade n order (i + 1) y → IsMade n order i y
    earlier y ne is_made t = let (k, lt, is) = is_made t in pick k lt is (below_or_not k i)
      where
        pick : (k : ℕ) → k < i + 1 → slice_index order k ≡ y → (k < i) ⊎ (i ≤ k) → (j : ℕ) × (j < i) × (slice_index order j ≡ y)
        pick k lt is (inl l) = (k, l, is)
        pick k lt is (inr ge) = let e : k ≡ i = omega (arith, lt, ge) in absurd (ne (sym is ∙ (ap (slice_index order) e ∙ here)))

    pin_made : (j : ℕ) → j < length (table_pins (node_of n x)) → IsMade n order i (slice_index (table_pins (node_of n x)) j)
    pin_made j l = subst (λ (z : ℕ). j < length (table_pins (node_of n z)) → IsMade n order i (slice_index (table_pins (node_of n z)) j)) here (λ lt t. (by_place n order is_order).after i j (slice_get_within order i x at) lt t) l

    own : (values : ℕ → Bool) (v : List Bool) → IsCycle n first values v → AreMet values more.list → x < net_count n → IsTable (node_of n x) → literal_value values (literal_at new x) ≡ bit v x
    own values v cycle met l t =
        made.own t values cycle.zero met
        ∙ (same_table (node_of n x) (λ p. literal_value values (literal_at old p)) (bit v) (λ j lt. right values v cycle (before values met) _ (pins_within n x valid j lt) (pin_made j lt))
        ∙ sym (cycle.tables x l t))

    other : (values : ℕ → Bool) (v : List Bool) → IsCycle n first values v → AreMet values more.list → (y : ℕ) → y < net_count n → (y ≡ x → IsTable (node_of n x) → ⊥) → IsMade n order i y → literal_value values (literal_at new y) ≡ bit v y
    other values v cycle met y l ne is_made = ap (literal_value values) (made.others y ne) ∙ right values v cycle (before values met) y l is_made

    at_x : (values : ℕ → Bool) (v : List Bool) → IsCycle n first values v → AreMet values more.list → x < net_count n → (o : Option Node) → node_of n x ≡ o → literal_value values (literal_at new x) ≡ bit v x
    at_x values v cycle met l None e = let no : IsTable (node_of n x) → ⊥ = λ t. subst IsTable e t in other values v cycle met x l (λ s t. no t) (λ t. absurd (no t))
    at_x values v cycle met l (Some (Table name cover pins)) e = own values v cycle met l (subst IsTable (sym e) tt)
    at_x values v cycle met l (Some (Register name init pin)) e = let no : IsTable (node_of n x) → ⊥ = λ t. subst IsTable e t in other values v cycle met x l (λ s t. no t) (λ t. absurd (no t))

    go : (values : ℕ → Bool) (v : List Bool) → IsCycle n first values v → AreMet values more.list → (y : ℕ) → y < net_count n → IsMade n order (i + 1) y → (y ≡ x) ⊎ (y ≢ x) → literal_value values (literal_at new y) ≡ bit v y
    go values v cycle met y l is_made (inl e) = subst (λ (z : ℕ). literal_value values (literal_at new z) ≡ bit v z) (sym e) (at_x values v cycle met (subst (λ (z : ℕ). z < net_count n) e l) (node_of n x) refl)
    go values v cycle met y l is_made (inr ne) = other values v cycle met y l (λ e t. ne e) (earlier y ne is_made)

pub only_goes : (n : Net) (x : ℕ) (first old new : List Literal) (gates : PlainGates) → OnlyTables n first old → IsMadeAt n x old new gates → OnlyTables n first new
only_goes n x first old new gates only made y no_table = made.others y (λ e t. no_table (subst (λ (z : ℕ). IsTable (node_of n z)) (sym e) t)) ∙ only y no_table

-- nothing is made yet
pub right_starts : (n : Net) (order : List ℕ) (first : List Literal) (gates : PlainGates) → AreRight n order 0 first first gates
right_starts n order first gates = λ values v cycle met y l is_made. cycle.others y l (λ t. let (k, lt, is) = is_made t in absurd (omega arith))
