-- What is reached grows table by table, and in the end tells of all paths.
use Rattle.std.proofs.Common.{◌≡◌, ◌≢◌, ℕ, ◌+◌, ◌*◌, ◌-◌, ◌<◌, ◌≤◌, ◌⊎◌, inl, inr, max, Bool, true, false, cond, List, [], ◌∷◌, ◌++◌, length, map, slice_set, Option, Some, None, refl, sym, ap, ◌∙◌, subst, arith}
use Rattle.std.specs.Prelude.{◌==◌, slice_index}
use Rattle.std.specs.List.{range_with_len}
use Rattle.std.proofs.lemmas.Bool.{cases_eq, cases_lt, eq-eqb, ne_eqb}
use Rattle.std.proofs.lemmas.List.{get_or-set_same, get_or-set_other, length-set, get_or_past}
use Rattle.std.proofs.lemmas.List.FromFn.{get_or-map-range_with_len, length-map-range_with_len, map-range_with_len_more}
use Rattle.flat_net.specs.Net.{Net, Node, Table, Register, net_count, node_of, pins_at, table_pins, IsTable, IsRegister, IsOrder}
use Rattle.flat_net.specs.declared.kind.Kind.TheVariants as kind
use Rattle.flat_net.specs.Kinds.{kind_of}
use Rattle.flat_net.specs.Private.ByPlace.{IsOrderByPlace}
use Rattle.flat_net.proofs.ByPlace.{by_place}
use Rattle.flat_net.proofs.Orders.{length-order}
use Rattle.flat_net.proofs.Slots.{slot_within}
use Rattle.feedback_cut.specs.Inner.{node_pins}
use Rattle.partitioner.specs.Below.{one_if}
use Rattle.sweep.specs.Levels.{IsStart}
use Rattle.sweep.specs.Private.Reaching.{VotedPath, begins, goes_on, VotedEnd, at_output, at_register, passed, along, IsMostOf, IsMostAt, IsMostOut, IsMostKept, kept, kept_of, first_reach, IsNextReach, AreReached, AreVotedLevels}

-- ---- the greatest of several numbers

pub most_none : (f : ℕ → ℕ) → IsMostOf f 0 0
most_none f = record { some = inl refl; none_above = λ j l. absurd (omega (arith, l)) }

max_more : (f : ℕ → ℕ) (j most value : ℕ) → IsMostOf f j most → value ≡ f j → IsMostOf f (j + 1) (max most value)
max_more f j most value is at = record { some = go (cases_lt most value) is.some; none_above = λ i l. below i (cases_lt i j) l }
  where
    go : (most < value) ⊎ (value ≤ most) → (most ≡ 0) ⊎ ((i : ℕ) × (i < j) × (most ≡ f i)) → (max most value ≡ 0) ⊎ ((i : ℕ) × (i < j + 1) × (max most value ≡ f i))
    go (inl more) some = inr (j, omega arith, omega (arith, at, more))
    go (inr less) (inl none) = inl (omega (arith, none, less))
    go (inr less) (inr (i, l, e)) = inr (i, omega (arith, l), omega (arith, e, less))

    below : (i : ℕ) → (i < j) ⊎ (j ≤ i) → i < j + 1 → f i ≤ max most value
    below i (inl l) h = omega (arith, is.none_above i l)
    below i (inr m) h =
        let same : i ≡ j = omega (arith, m, h) in
        omega (arith, at, ap f same)

pub most_more : (f : ℕ → ℕ) (j most value next : ℕ) → IsMostOf f j most → value ≡ f j → next ≡ max most value → IsMostOf f (j + 1) next
most_more f j most value next is at greater = subst (λ (m : ℕ). IsMostOf f (j + 1) m) (sym greater) (max_more f j most value is at)

-- ---- what comes along a pin

one_if_few : (b : Bool) → one_if b ≤ 1
one_if_few true = omega arith
one_if_few false = omega arith

pub passed_none : (reach : ℕ) (voted : Bool) → reach ≡ 0 → passed reach voted ≡ 0
passed_none reach voted e = ap (λ (b : Bool). cond b 0 (reach + one_if voted)) (eq-eqb reach 0 e)

pub passed_some : (reach : ℕ) (voted : Bool) → 0 < reach → passed reach voted ≡ reach + one_if voted
passed_some reach voted l = ap (λ (b : Bool). cond b 0 (reach + one_if voted)) (ne_eqb reach 0 (λ e. omega (arith, e, l)))

passed_few : (reach : ℕ) (voted : Bool) → passed reach voted ≤ reach + 1
passed_few reach voted = go (cases_eq reach 0)
  where
    go : (reach ≡ 0) ⊎ (reach ≢ 0) → passed reach voted ≤ reach + 1
    go (inl e) = omega (arith, passed_none reach voted e)
    go (inr ne) = omega (arith, passed_some reach voted (omega (arith, ne)), one_if_few voted)

-- where something comes along, something is reached
passed_from : (reach m : ℕ) (voted : Bool) → m ≡ passed reach voted → 0 < m → (t : ℕ) × (reach ≡ t + 1) × (m ≡ t + 1 + one_if voted)
passed_from reach m voted e l = go (cases_eq reach 0)
  where
    go : (reach ≡ 0) ⊎ (reach ≢ 0) → (t : ℕ) × (reach ≡ t + 1) × (m ≡ t + 1 + one_if voted)
    go (inl none) = absurd (omega (arith, passed_none reach voted none, e, l))
    go (inr some) = (reach - 1, omega (arith, some), omega (arith, some, e, passed_some reach voted (omega (arith, some))))

-- ---- tables

-- a net is a table or it is none
table_or_not : (o : Option Node) → IsTable o ⊎ (IsTable o → ⊥)
table_or_not None = inr (λ t. t)
table_or_not (Some (Table name cover pins)) = inl tt
table_or_not (Some (Register name init pin)) = inr (λ t. t)

-- the pins of a table
pins_of_table : (o : Option Node) → IsTable o → pins_at o ≡ table_pins o
pins_of_table None t = absurd t
pins_of_table (Some (Table name cover pins)) t = refl
pins_of_table (Some (Register name init pin)) t = absurd t

-- a table is a node
pub table_within : (n : Net) (y : ℕ) → IsTable (node_of n (length n.inputs + y)) → y < length n.nodes
table_within n y t = go (node_of n (length n.inputs + y)) refl t
  where
    go : (o : Option Node) → node_of n (length n.inputs + y) ≡ o → IsTable o → y < length n.nodes
    go None e t = absurd t
    go (Some node) e t = omega (arith, (slot_within (length n.inputs) n.nodes (length n.inputs + y) node e).1)

-- so is a register
pub register_within : (n : Net) (y : ℕ) → IsRegister (node_of n (length n.inputs + y)) → y < length n.nodes
register_within n y t = go (node_of n (length n.inputs + y)) refl t
  where
    go : (o : Option Node) → node_of n (length n.inputs + y) ≡ o → IsRegister o → y < length n.nodes
    go None e t = absurd t
    go (Some node) e t = omega (arith, (slot_within (length n.inputs) n.nodes (length n.inputs + y) node e).1)

one_first : (o : Option Node) → first_reach o ≤ 1
one_first None = omega arith
one_first (Some (Table name cover pins)) = omega arith
one_first (Some (Register name init pin)) = omega arith

first_start : (o : Option Node) → (IsTable o → ⊥) → first_reach o ≡ 1
first_start None t = refl
first_start (Some (Table name cover pins)) t = absurd (t tt)
first_start (Some (Register name init pin)) t = refl

first_table : (o : Option Node) → IsTable o → first_reach o ≡ 0
first_table None t = absurd t
first_table (Some (Table name cover pins)) t = refl
first_table (Some (Register name init pin)) t = absurd t

-- what is reached at first, one net more
pub first_more : (n : Net) (x value : ℕ) (old new : List ℕ) → old ≡ map (λ z. first_reach (node_of n z)) (range_with_len 0 x) → value ≡ first_reach (node_of n x) → new ≡ old ++ value ∷ [] → new ≡ map (λ z. first_reach (node_of n z)) (range_with_len 0 (x + 1))
first_more n x value old new before at pushed =
    pushed ∙ (ap (λ (xs : List ℕ). xs ++ value ∷ []) before ∙ (ap (λ (v : ℕ). map (λ z. first_reach (node_of n z)) (range_with_len 0 x) ++ v ∷ []) at ∙ sym (map-range_with_len_more (λ z. first_reach (node_of n z)) 0 x x (omega arith))))

pub input_no_table : (o : Option Node) → kind.Input ≡ kind_of o → IsTable o → ⊥
input_no_table None e t = t
input_no_table (Some (Table name cover pins)) e t = cc
input_no_table (Some (Register name init pin)) e t = t

pub register_no_table : (o : Option Node) → kind.Register ≡ kind_of o → IsTable o → ⊥
register_no_table None e t = t
register_no_table (Some (Table name cover pins)) e t = cc
register_no_table (Some (Register name init pin)) e t = t

-- what is no table stays as it is
pub stays : (n : Net) (voted : ℕ → ℕ → Bool) (reach : List ℕ) (x next : ℕ) → (IsTable (node_of n x) → ⊥) → next ≡ slice_index reach x → IsNextReach n voted reach x next
stays n voted reach x next other e = record { most = 0; is_most = λ table. absurd (other table); table = λ table. absurd (other table); other = λ not. e }

pub table_next : (n : Net) (voted : ℕ → ℕ → Bool) (reach : List ℕ) (x y most next : ℕ) → IsTable (node_of n x) → y ≡ x - length n.inputs → IsMostAt n voted reach y most → next ≡ cond (most == 0) 0 (most + 1) → IsNextReach n voted reach x next
table_next n voted reach x y most next table at is e = record {
  most = most;
  is_most = λ t. subst (λ (z : ℕ). IsMostAt n voted reach z most) at is;
  table = λ t. e;
  other = λ not. absurd (not table);
}

module _ (n : Net) (voted : ℕ → ℕ → Bool) (order : List ℕ) where
  -- ---- before any table

  module _ (reach : List ℕ) (is : reach ≡ map (λ x. first_reach (node_of n x)) (range_with_len 0 (net_count n))) where
    first_long : length reach ≡ net_count n
    first_long = ap length is ∙ length-map-range_with_len (λ x. first_reach (node_of n x)) 0 (net_count n)

    first_at : (x : ℕ) → x < net_count n → slice_index reach x ≡ first_reach (node_of n x)
    first_at x l = ap (λ (xs : List ℕ). slice_index xs x) is ∙ get_or-map-range_with_len (λ x. first_reach (node_of n x)) 0 (net_count n) x x 0 l (omega arith)

    first_past : (x : ℕ) → net_count n ≤ x → slice_index reach x ≡ 0
    first_past x l = get_or_past reach x 0 (omega (arith, first_long, l))

    first_sound : (x tables : ℕ) → slice_index reach x ≡ tables + 1 → VotedPath n voted x tables
    first_sound x tables e = go (cases_lt x (net_count n)) (table_or_not (node_of n x))
      where
        go : (x < net_count n) ⊎ (net_count n ≤ x) → IsTable (node_of n x) ⊎ (IsTable (node_of n x) → ⊥) → VotedPath n voted x tables
        go (inr past) any = absurd (omega (arith, first_past x past, e))
        go (inl l) (inl table) = absurd (omega (arith, first_at x l, first_table (node_of n x) table, e))
        go (inl l) (inr start) =
            let none : 0 ≡ tables = omega (arith, first_at x l, first_start (node_of n x) start, e) in
            subst (λ (t : ℕ). VotedPath n voted x t) none (begins x (l, start))

    pub reached_none : AreReached n voted order 0 reach
    reached_none = record {
      long = first_long;
      sound = first_sound;
      starts = λ x s. first_at x s.0 ∙ first_start (node_of n x) s.1;
      closed = λ k y j l at table h some. absurd (omega (arith, l));
      few = λ x. few x (cases_lt x (net_count n));
    }
      where
        few : (x : ℕ) → (x < net_count n) ⊎ (net_count n ≤ x) → slice_index reach x ≤ 2 * 0 + 1
        few x (inl l) = omega (arith, first_at x l, one_first (node_of n x))
        few x (inr l) = omega (arith, first_past x l)

  -- ---- one place more

  module _ (ordered : IsOrder n order) where
    places : IsOrderByPlace n order
    places = by_place n order ordered

    -- a pin of a table that is a table stands before it
    pin_before : (k y j : ℕ) → k < length order → slice_index order k ≡ length n.inputs + y → IsTable (node_of n (length n.inputs + y)) → j < length (node_pins n y)
        → IsTable (node_of n (slice_index (node_pins n y) j)) → (i : ℕ) × (i < k) × (slice_index order i ≡ slice_index (node_pins n y) j)
    pin_before k y j l at table h pin =
        let same : node_pins n y ≡ table_pins (node_of n (slice_index order k)) = pins_of_table (node_of n (length n.inputs + y)) table ∙ ap (λ (x : ℕ). table_pins (node_of n x)) (sym at) in
        let (i, less, is) = places.after k j l (omega (arith, h, ap length same)) (subst (λ (xs : List ℕ). IsTable (node_of n (slice_index xs j))) same pin) in
        (i, less, is ∙ ap (λ (xs : List ℕ). slice_index xs j) (sym same))

    module _ (i x next : ℕ) (old new : List ℕ) (s : AreReached n voted order i old) (l : i < length order) (at : slice_index order i ≡ x) (is : IsNextReach n voted old x next) (set : new ≡ slice_set old x next) where
      low : length n.inputs ≤ x
      low = omega (arith, (places.nodes i l).0, at)

      high : x < net_count n
      high = omega (arith, (places.nodes i l).1, at)

      here : slice_index new x ≡ next
      here = ap (λ (xs : List ℕ). slice_index xs x) set ∙ get_or-set_same old x next 0 (omega (arith, high, s.long))

      there : (z : ℕ) → z ≢ x → slice_index new z ≡ slice_index old z
      there z apart = ap (λ (xs : List ℕ). slice_index xs z) set ∙ get_or-set_other old x z next 0 apart

      long : length new ≡ net_count n
      long = ap length set ∙ (length-set old x next ∙ s.long)

      y : ℕ
      y = x - length n.inputs

      back : length n.inputs + (x - length n.inputs) ≡ x
      back = omega (arith, low)

      -- a register stays as it was
      unchanged : (IsTable (node_of n x) → ⊥) → (z : ℕ) → slice_index new z ≡ slice_index old z
      unchanged other z = go (cases_eq z x)
        where
          go : (z ≡ x) ⊎ (z ≢ x) → slice_index new z ≡ slice_index old z
          go (inl e) = ap (slice_index new) e ∙ (here ∙ (is.other other ∙ ap (slice_index old) (sym e)))
          go (inr ne) = there z ne

      register_more : (IsTable (node_of n x) → ⊥) → AreReached n voted order (i + 1) new
      register_more other = record {
        long = long;
        sound = λ z tables e. s.sound z tables (sym (unchanged other z) ∙ e);
        starts = λ z start. unchanged other z ∙ s.starts z start;
        closed = λ k z j less place table h some. closed k z j less place table h some (cases_lt k i);
        few = λ z. omega (arith, unchanged other z, s.few z);
      }
        where
          closed : (k z j : ℕ) → k < i + 1 → slice_index order k ≡ length n.inputs + z → IsTable (node_of n (length n.inputs + z)) → j < length (node_pins n z) → 0 < along n voted new z j → (k < i) ⊎ (i ≤ k)
              → along n voted new z j + 1 ≤ slice_index new (length n.inputs + z)
          closed k z j less place table h some (inl before) =
              let same : along n voted new z j ≡ along n voted old z j = ap (λ (r : ℕ). passed r (voted z j)) (unchanged other (slice_index (node_pins n z) j)) in
              omega (arith, same, unchanged other (length n.inputs + z), s.closed k z j before place table h (omega (arith, same, some)))
          closed k z j less place table h some (inr last) =
              let this : k ≡ i = omega (arith, less, last) in
              let own : length n.inputs + z ≡ x = sym place ∙ (ap (slice_index order) this ∙ at) in
              absurd (other (subst (λ (w : ℕ). IsTable (node_of n w)) own table))

      module _ (table : IsTable (node_of n x)) where
        own_most : IsMostAt n voted old (x - length n.inputs) is.most
        own_most = is.is_most table

        next_none : is.most ≡ 0 → next ≡ 0
        next_none e = is.table table ∙ ap (λ (b : Bool). cond b 0 (is.most + 1)) (eq-eqb is.most 0 e)

        next_some : 0 < is.most → next ≡ is.most + 1
        next_some h = is.table table ∙ ap (λ (b : Bool). cond b 0 (is.most + 1)) (ne_eqb is.most 0 (λ e. omega (arith, e, h)))

        own_table : IsTable (node_of n (length n.inputs + (x - length n.inputs)))
        own_table = subst (λ (w : ℕ). IsTable (node_of n w)) (sym back) table

        table_sound : (tables : ℕ) → next ≡ tables + 1 → VotedPath n voted x tables
        table_sound tables e = go own_most.some (cases_eq is.most 0)
          where
            go : (is.most ≡ 0) ⊎ ((j : ℕ) × (j < length (node_pins n (x - length n.inputs))) × (is.most ≡ along n voted old (x - length n.inputs) j)) → (is.most ≡ 0) ⊎ (is.most ≢ 0) → VotedPath n voted x tables
            go any (inl none) = absurd (omega (arith, next_none none, e))
            go (inl none) (inr some) = absurd (some none)
            go (inr (j, h, m)) (inr some) =
                let (t, r, sum) = passed_from (slice_index old (slice_index (node_pins n (x - length n.inputs)) j)) is.most (voted (x - length n.inputs) j) m (omega (arith, some)) in
                let count : t + one_if (voted (x - length n.inputs) j) + 1 ≡ tables = omega (arith, sum, e, next_some (omega (arith, some))) in
                let path : VotedPath n voted (length n.inputs + (x - length n.inputs)) (t + one_if (voted (x - length n.inputs) j) + 1) = goes_on (x - length n.inputs) j t own_table h (s.sound (slice_index (node_pins n (x - length n.inputs)) j) t r) in
                subst (λ (w : ℕ). VotedPath n voted w tables) back (subst (λ (c : ℕ). VotedPath n voted (length n.inputs + (x - length n.inputs)) c) count path)

        next_few : next ≤ 2 * (i + 1) + 1
        next_few = go own_most.some (cases_eq is.most 0)
          where
            go : (is.most ≡ 0) ⊎ ((j : ℕ) × (j < length (node_pins n (x - length n.inputs))) × (is.most ≡ along n voted old (x - length n.inputs) j)) → (is.most ≡ 0) ⊎ (is.most ≢ 0) → next ≤ 2 * (i + 1) + 1
            go any (inl none) = omega (arith, next_none none)
            go (inl none) (inr some) = absurd (some none)
            go (inr (j, h, m)) (inr some) =
                let r = slice_index old (slice_index (node_pins n (x - length n.inputs)) j) in
                omega (arith, m, next_some (omega (arith, some)), passed_few r (voted (x - length n.inputs) j), s.few (slice_index (node_pins n (x - length n.inputs)) j))

        -- what a table of the places up to here reads is not this one
        pin_apart : (k z j : ℕ) → k < i + 1 → slice_index order k ≡ length n.inputs + z → IsTable (node_of n (length n.inputs + z)) → j < length (node_pins n z) → slice_index (node_pins n z) j ≢ x
        pin_apart k z j less place its h same =
            let (b, before, is_there) = pin_before k z j (omega (arith, less, l)) place its h (subst (λ (w : ℕ). IsTable (node_of n w)) (sym same) table) in
            places.once b i (omega (arith, before, less)) l (is_there ∙ (same ∙ sym at))

        table_closed : (k z j : ℕ) → k < i + 1 → slice_index order k ≡ length n.inputs + z → IsTable (node_of n (length n.inputs + z)) → j < length (node_pins n z) → 0 < along n voted new z j → (k < i) ⊎ (i ≤ k)
            → along n voted new z j + 1 ≤ slice_index new (length n.inputs + z)
        table_closed k z j less place its h some (inl before) =
            let same : along n voted new z j ≡ along n voted old z j = ap (λ (r : ℕ). passed r (voted z j)) (there (slice_index (node_pins n z) j) (pin_apart k z j less place its h)) in
            let apart : length n.inputs + z ≢ x = λ e. places.once k i before l (place ∙ (e ∙ sym at)) in
            omega (arith, same, there (length n.inputs + z) apart, s.closed k z j before place its h (omega (arith, same, some)))
        table_closed k z j less place its h some (inr last) =
            let this : k ≡ i = omega (arith, less, last) in
            let own : length n.inputs + z ≡ x = sym place ∙ (ap (slice_index order) this ∙ at) in
            let same : along n voted new z j ≡ along n voted old z j = ap (λ (r : ℕ). passed r (voted z j)) (there (slice_index (node_pins n z) j) (pin_apart k z j less place its h)) in
            let node : z ≡ x - length n.inputs = omega (arith, own) in
            let at_own : along n voted old z j ≡ along n voted old (x - length n.inputs) j = ap (λ (w : ℕ). along n voted old w j) node in
            let most = own_most.none_above j (omega (arith, h, ap (λ (w : ℕ). length (node_pins n w)) node)) in
            omega (arith, same, at_own, most, some, next_some (omega (arith, same, at_own, most, some)), here, ap (slice_index new) own)

        table_more : AreReached n voted order (i + 1) new
        table_more = record {
          long = long;
          sound = λ z tables e. sound z tables e (cases_eq z x);
          starts = λ z start. starts z start (cases_eq z x);
          closed = λ k z j less place its h some. table_closed k z j less place its h some (cases_lt k i);
          few = λ z. few z (cases_eq z x);
        }
          where
            sound : (z tables : ℕ) → slice_index new z ≡ tables + 1 → (z ≡ x) ⊎ (z ≢ x) → VotedPath n voted z tables
            sound z tables e (inl same) = subst (λ (w : ℕ). VotedPath n voted w tables) (sym same) (table_sound tables (sym here ∙ (ap (slice_index new) (sym same) ∙ e)))
            sound z tables e (inr apart) = s.sound z tables (sym (there z apart) ∙ e)

            starts : (z : ℕ) → IsStart n z → (z ≡ x) ⊎ (z ≢ x) → slice_index new z ≡ 1
            starts z start (inl same) = absurd (start.1 (subst (λ (w : ℕ). IsTable (node_of n w)) (sym same) table))
            starts z start (inr apart) = there z apart ∙ s.starts z start

            few : (z : ℕ) → (z ≡ x) ⊎ (z ≢ x) → slice_index new z ≤ 2 * (i + 1) + 1
            few z (inl same) = omega (arith, here, ap (slice_index new) same, next_few)
            few z (inr apart) = omega (arith, there z apart, s.few z)

      pub reached_more : AreReached n voted order (i + 1) new
      reached_more = go (table_or_not (node_of n x))
        where
          go : IsTable (node_of n x) ⊎ (IsTable (node_of n x) → ⊥) → AreReached n voted order (i + 1) new
          go (inl table) = table_more table
          go (inr other) = register_more other

    -- ---- all places

    module _ (reach : List ℕ) (s : AreReached n voted order (length n.nodes) reach) where
      pub reaches : (x tables : ℕ) → VotedPath n voted x tables → tables + 1 ≤ slice_index reach x
      reaches _ _ (begins x start) = omega (arith, s.starts x start)
      reaches _ _ (goes_on y j tables table h path) =
          let before = reaches (slice_index (node_pins n y) j) tables path in
          let (k, l, e) = places.complete (length n.inputs + y) (omega arith) (omega (arith, table_within n y table)) in
          let passes = passed_some (slice_index reach (slice_index (node_pins n y) j)) (voted y j) (omega (arith, before)) in
          omega (arith, before, passes, s.closed k y j (omega (arith, l, length-order n order ordered)) e table h (omega (arith, before, passes)))

      kept_is : (y : ℕ) → IsRegister (node_of n (length n.inputs + y)) → kept n voted reach y ≡ along n voted reach y 0
      kept_is y register = go (node_of n (length n.inputs + y)) register
        where
          go : (o : Option Node) → IsRegister o → kept_of o (along n voted reach y 0) ≡ along n voted reach y 0
          go None r = absurd r
          go (Some (Table name cover pins)) r = absurd r
          go (Some (Register name init pin)) r = refl

      register_kept : (y m : ℕ) → m ≡ kept n voted reach y → 0 < m → IsRegister (node_of n (length n.inputs + y))
      register_kept y m e l = go (node_of n (length n.inputs + y)) e
        where
          go : (o : Option Node) → m ≡ kept_of o (along n voted reach y 0) → IsRegister o
          go None f = absurd (omega (arith, f, l))
          go (Some (Table name cover pins)) f = absurd (omega (arith, f, l))
          go (Some (Register name init pin)) f = tt

      pub levels_are : (outs keeps levels : ℕ) → IsMostOut n reach outs → IsMostKept n voted reach keeps → levels ≡ max outs keeps - 1 → AreVotedLevels n voted levels
      levels_are outs keeps levels out keep e = record { most = most; some = some (cases_eq (max outs keeps) 0) (cases_lt keeps outs) }
        where
          most : (tables : ℕ) → VotedEnd n voted tables → tables ≤ levels
          most _ (at_output k tables l path) = omega (arith, e, out.none_above k l, reaches (slice_index n.outputs k) tables path)
          most _ (at_register y tables register path) =
              let before = reaches (slice_index (node_pins n y) 0) tables path in
              omega (arith, e, keep.none_above y (register_within n y register), kept_is y register, passed_some (slice_index reach (slice_index (node_pins n y) 0)) (voted y 0) (omega (arith, before)), before)

          at_out : outs ≡ levels + 1 → (outs ≡ 0) ⊎ ((k : ℕ) × (k < length n.outputs) × (outs ≡ slice_index reach (slice_index n.outputs k))) → VotedEnd n voted levels
          at_out f (inl none) = absurd (omega (arith, f, none))
          at_out f (inr (k, l, is)) = at_output k levels l (s.sound (slice_index n.outputs k) levels (sym is ∙ f))

          at_kept : keeps ≡ levels + 1 → (keeps ≡ 0) ⊎ ((y : ℕ) × (y < length n.nodes) × (keeps ≡ kept n voted reach y)) → VotedEnd n voted levels
          at_kept f (inl none) = absurd (omega (arith, f, none))
          at_kept f (inr (y, l, is)) =
              let register = register_kept y keeps is (omega (arith, f)) in
              let (t, r, sum) = passed_from (slice_index reach (slice_index (node_pins n y) 0)) keeps (voted y 0) (is ∙ kept_is y register) (omega (arith, f)) in
              let count : t + one_if (voted y 0) ≡ levels = omega (arith, sum, f) in
              subst (λ (m : ℕ). VotedEnd n voted m) count (at_register y t register (s.sound (slice_index (node_pins n y) 0) t r))

          some : (max outs keeps ≡ 0) ⊎ (max outs keeps ≢ 0) → (keeps < outs) ⊎ (outs ≤ keeps) → (levels ≡ 0) ⊎ VotedEnd n voted levels
          some (inl none) any = inl (omega (arith, e, none))
          some (inr more) (inl l) = inr (at_out (omega (arith, e, more, l)) out.some)
          some (inr more) (inr l) = inr (at_kept (omega (arith, e, more, l)) keep.some)
