-- Upsets by cycle and net.
use Rattle.std.proofs.Common.{◌≡◌, ℕ, zero, suc, ◌+◌, ◌<◌, ◌≤◌, ◌⊎◌, inl, inr, Bool, true, false, cond, ◌&&◌, ◌||◌, List, [], ◌∷◌, ◌++◌, length, map, take, drop, get_or, slice_get, ◌-◌, Option, Some, None, Result, Ok, Err, refl, sym, ◌∙◌, ap, subst, arith}
use Rattle.std.specs.Prelude.{nat_eq, nat_lt, is_some, not, All, IfSome}
use Rattle.std.proofs.lemmas.Bool.{eq-eqb, ne_eqb, eqb-true}
use Rattle.std.proofs.lemmas.Bool.Decides.{nat_tests}
use Rattle.std.specs.declared.cmp.Ordering.{Ordering}
use Rattle.std.specs.declared.cmp.Ordering.TheVariants.{Less, Equal, Greater}
use Rattle.std.specs.Ordering.{nat_cmp, ordering_then, is_eq}
use Rattle.std.specs.Cmp.{nat_cmp_is}
use Rattle.std.specs.Map.{lookup, keys_of}
use Rattle.std.specs.List.Sorted.{IsStrictlySortedBy}
use Rattle.std.proofs.lemmas.Map.Keys.{Less-from_sorted}
use Rattle.std.proofs.lemmas.Option.{slice_get_within, get_or_from_slice_get}
use Rattle.schedules.specs.Schedule.{IsBefore}
use Rattle.schedules.specs.Reading.{IsNodeOf}
use Rattle.std.specs.BTreeMap as tree
use Rattle.std.specs.BTreeMap.{BTreeMap, is_at}
use Rattle.tmr_base.specs.declared.ids.Upset.{Upset}
use Rattle.flat_net.specs.Net.{Net, net_count}
use Rattle.net_meaning.specs.Meaning.{upset_at}
use Rattle.schedules.specs.declared.fault.ScheduleFault.{ScheduleFault}
use Rattle.schedules.specs.declared.fault.ScheduleFault.TheVariants as fault
use Rattle.schedules.specs.Document.{Entry, is_listed, struck_named, placed, known, upset_of, and_then, entry_of, listed, list_of, only_keys, is_file_key, inputs_of, upsets_of, starts_of, arrays_listed, document_listed}
use Rattle.schedules.specs.Private.Reading.{CanBeStruck, upsets_from}
use Rattle.schedules.specs.Private.Entries.{place_cmp, upset_of_entry, Holds}
use Rattle.toml.specs.Data.{Data, Items, Members}
use Rattle.toml.specs.View.{view, items_view}
use Rattle.toml.specs.declared.value.Value.{Value}
use Rattle.std.proofs.lemmas.List.{drop_more, length-map, length-take-le, get_or-map, get_or-take}

three_ways : (a b : ℕ) → (a < b) ⊎ ((a ≡ b) ⊎ (b < a))
three_ways a b = grind arith

nat_is_eq : (a b : ℕ) → is_eq (nat_cmp a b) ≡ nat_eq a b
nat_is_eq a b = go (three_ways a b)
  where
    go : (a < b) ⊎ ((a ≡ b) ⊎ (b < a)) → is_eq (nat_cmp a b) ≡ nat_eq a b
    go (inl l) = ap is_eq (sym (nat_cmp_is a b Less l)) ∙ sym (ne_eqb a b (λ e. absurd (omega arith)))
    go (inr (inl e)) = ap is_eq (sym (nat_cmp_is a b Equal e)) ∙ sym (eq-eqb a b e)
    go (inr (inr l)) = ap is_eq (sym (nat_cmp_is a b Greater l)) ∙ sym (ne_eqb a b (λ e. absurd (omega arith)))

pub place_is_eq : (a b c d : ℕ) → is_eq (place_cmp (a, b) (c, d)) ≡ (nat_eq a c && nat_eq b d)
place_is_eq a b c d = go (three_ways a c)
  where
    go : (a < c) ⊎ ((a ≡ c) ⊎ (c < a)) → is_eq (place_cmp (a, b) (c, d)) ≡ (nat_eq a c && nat_eq b d)
    go (inl l) = ap (λ (o : Ordering). is_eq (ordering_then o (nat_cmp b d))) (sym (nat_cmp_is a c Less l)) ∙ ap (λ (t : Bool). t && nat_eq b d) (sym (ne_eqb a c (λ e. absurd (omega arith))))
    go (inr (inl e)) = ap (λ (o : Ordering). is_eq (ordering_then o (nat_cmp b d))) (sym (nat_cmp_is a c Equal e)) ∙ (nat_is_eq b d ∙ ap (λ (t : Bool). t && nat_eq b d) (sym (eq-eqb a c e)))
    go (inr (inr l)) = ap (λ (o : Ordering). is_eq (ordering_then o (nat_cmp b d))) (sym (nat_cmp_is a c Greater l)) ∙ ap (λ (t : Bool). t && nat_eq b d) (sym (ne_eqb a c (λ e. absurd (omega arith))))

pub place_less : (a b c d : ℕ) → place_cmp (a, b) (c, d) ≡ Less → (a < c) ⊎ ((a ≡ c) × (b < d))
place_less a b c d is = go (three_ways a c) (three_ways b d)
  where
    go : (a < c) ⊎ ((a ≡ c) ⊎ (c < a)) → (b < d) ⊎ ((b ≡ d) ⊎ (d < b)) → (a < c) ⊎ ((a ≡ c) × (b < d))
    go (inl l) r = inl l
    go (inr (inl e)) (inl l) = inr (e, l)
    go (inr (inl e)) (inr (inl f)) = absurd (let x = nat_cmp_is a c Equal e in let y = nat_cmp_is b d Equal f in let z : ordering_then Equal Equal ≡ Less = ap (λ (o : Ordering). ordering_then o Equal) x ∙ (ap (ordering_then (nat_cmp a c)) y ∙ is) in cc)
    go (inr (inl e)) (inr (inr l)) = absurd (let x = nat_cmp_is a c Equal e in let y = nat_cmp_is b d Greater l in let z : ordering_then Equal Greater ≡ Less = ap (λ (o : Ordering). ordering_then o Greater) x ∙ (ap (ordering_then (nat_cmp a c)) y ∙ is) in cc)
    go (inr (inr l)) r = absurd (let x = nat_cmp_is a c Greater l in let z : ordering_then Greater (nat_cmp b d) ≡ Less = ap (λ (o : Ordering). ordering_then o (nat_cmp b d)) x ∙ is in cc)

eq_sym : (a b : ℕ) → nat_eq a b ≡ nat_eq b a
eq_sym a b = go (three_ways a b)
  where
    go : (a < b) ⊎ ((a ≡ b) ⊎ (b < a)) → nat_eq a b ≡ nat_eq b a
    go (inl l) = ne_eqb a b (λ e. absurd (omega arith)) ∙ sym (ne_eqb b a (λ e. absurd (omega arith)))
    go (inr (inl e)) = eq-eqb a b e ∙ sym (eq-eqb b a (sym e))
    go (inr (inr l)) = ne_eqb a b (λ e. absurd (omega arith)) ∙ sym (ne_eqb b a (λ e. absurd (omega arith)))

-- entries give what a map of them gives
pub entries_hold : (es : List ((ℕ × ℕ) × Bool)) (cycle net : ℕ) → lookup (is_at (place_cmp (cycle, net))) es ≡ upset_at (map upset_of_entry es) cycle net
entries_hold [] cycle net = refl
entries_hold (e ∷ es) cycle net =
    ap (λ (t : Bool). cond t (Some e.1) (lookup (is_at (place_cmp (cycle, net))) es)) (place_is_eq cycle net e.0.0 e.0.1 ∙ (ap (λ (t : Bool). t && nat_eq net e.0.1) (eq_sym cycle e.0.0) ∙ ap (λ (t : Bool). nat_eq e.0.0 cycle && t) (eq_sym net e.0.1)))
    ∙ ap (λ (o : Option Bool). cond (nat_eq e.0.0 cycle && nat_eq e.0.1 net) (Some e.1) o) (entries_hold es cycle net)

pub listed_at : (us : List Upset) (cycle net : ℕ) → is_listed us cycle net ≡ is_some (upset_at us cycle net)
listed_at [] cycle net = refl
listed_at (u ∷ us) cycle net = go (nat_eq u.cycle cycle && nat_eq u.net.0 net) (listed_at us cycle net)
  where
    go : (t : Bool) → is_listed us cycle net ≡ is_some (upset_at us cycle net) → (t || is_listed us cycle net) ≡ is_some (cond t (Some u.value) (upset_at us cycle net))
    go true e = refl
    go false e = e

-- one upset more, at a place that had none
pub upset_at_more : (us : List Upset) (u : Upset) (cycle net : ℕ) → upset_at us u.cycle u.net.0 ≡ None → upset_at (us ++ u ∷ []) cycle net ≡ cond (nat_eq u.cycle cycle && nat_eq u.net.0 net) (Some u.value) (upset_at us cycle net)
upset_at_more [] u cycle net e = refl
upset_at_more (w ∷ us) u cycle net e = go (nat_eq w.cycle cycle && nat_eq w.net.0 net) (nat_eq u.cycle cycle && nat_eq u.net.0 net) (λ n. upset_at_more us u cycle net n) refl refl
  where
    rest : (nat_eq w.cycle u.cycle && nat_eq w.net.0 u.net.0) ≡ false
    rest = other (nat_eq w.cycle u.cycle && nat_eq w.net.0 u.net.0) e
      where
        other : (t : Bool) → cond t (Some w.value) (upset_at us u.cycle u.net.0) ≡ None → t ≡ false
        other true e = absurd (cc)
        other false e = refl

    none_left : upset_at us u.cycle u.net.0 ≡ None
    none_left = subst (λ (t : Bool). cond t (Some w.value) (upset_at us u.cycle u.net.0) ≡ None) rest e

    both : (a b : Bool) → (a && b) ≡ true → (a ≡ true) × (b ≡ true)
    both true true e = (refl, refl)
    both true false e = absurd (cc)
    both false b e = absurd (cc)

    go : (s t : Bool) → (upset_at us u.cycle u.net.0 ≡ None → upset_at (us ++ u ∷ []) cycle net ≡ cond (nat_eq u.cycle cycle && nat_eq u.net.0 net) (Some u.value) (upset_at us cycle net)) → (nat_eq w.cycle cycle && nat_eq w.net.0 net) ≡ s → (nat_eq u.cycle cycle && nat_eq u.net.0 net) ≡ t → cond s (Some w.value) (upset_at (us ++ u ∷ []) cycle net) ≡ cond t (Some u.value) (cond s (Some w.value) (upset_at us cycle net))
    go true true more a b =
        let x = both (nat_eq w.cycle cycle) (nat_eq w.net.0 net) a in
        let y = both (nat_eq u.cycle cycle) (nat_eq u.net.0 net) b in
        let cycles : w.cycle ≡ u.cycle = eqb-true w.cycle cycle x.0 ∙ sym (eqb-true u.cycle cycle y.0) in
        let nets : w.net.0 ≡ u.net.0 = eqb-true w.net.0 net x.1 ∙ sym (eqb-true u.net.0 net y.1) in
        absurd (let p = eq-eqb w.cycle u.cycle cycles in let q = eq-eqb w.net.0 u.net.0 nets in let r : (true && true) ≡ false = ap (λ (t : Bool). t && true) (sym p) ∙ (ap (λ (t : Bool). nat_eq w.cycle u.cycle && t) (sym q) ∙ rest) in cc)
    go true false more a b = refl
    go false t more a b = more none_left ∙ ap (λ (s : Bool). cond s (Some u.value) (upset_at us cycle net)) b

-- an entry whose place was struck before, and one whose place was not
module _ (version : ℕ) (h : Net) (cycles j : ℕ) (earlier : List Upset) (m : BTreeMap (ℕ × ℕ) Bool) (e : Entry) (o : Option Entry) (x : ℕ) where
  at_place : o ≡ Some e → struck_named version h e.net ≡ Some x → upset_of version h cycles j earlier o ≡ placed cycles j earlier e.cycle e.value x
  at_place is named = ap (upset_of version h cycles j earlier) is ∙ ap (known cycles j earlier e) named

  below : e.cycle < cycles → not (nat_lt e.cycle cycles) ≡ false
  below l = grind (arith, nat_tests)

  in_map : Holds m earlier → is_listed earlier e.cycle x ≡ is_some (tree.get place_cmp m (e.cycle, x))
  in_map holds = listed_at earlier e.cycle x ∙ ap is_some (sym (holds e.cycle x))

  pub doubled : o ≡ Some e → struck_named version h e.net ≡ Some x → e.cycle < cycles → Holds m earlier → is_some (tree.get place_cmp m (e.cycle, x)) ≡ true → upset_of version h cycles j earlier o ≡ Err (fault.Doubled j)
  doubled is named l holds there =
      at_place is named ∙ (ap (λ (t : Bool). cond t (Err (fault.Range j)) (cond (is_listed earlier e.cycle x) (Err (fault.Doubled j)) (Ok (record { cycle = e.cycle; net = record { 0 = x }; value = e.value })))) (below l)
      ∙ ap (λ (t : Bool). cond t (Err (fault.Doubled j)) (Ok (record { cycle = e.cycle; net = record { 0 = x }; value = e.value }))) (in_map holds ∙ there))

  pub fresh : o ≡ Some e → struck_named version h e.net ≡ Some x → e.cycle < cycles → Holds m earlier → is_some (tree.get place_cmp m (e.cycle, x)) ≡ false → upset_of version h cycles j earlier o ≡ Ok (record { cycle = e.cycle; net = record { 0 = x }; value = e.value })
  fresh is named l holds there =
      at_place is named ∙ (ap (λ (t : Bool). cond t (Err (fault.Range j)) (cond (is_listed earlier e.cycle x) (Err (fault.Doubled j)) (Ok (record { cycle = e.cycle; net = record { 0 = x }; value = e.value })))) (below l)
      ∙ ap (λ (t : Bool). cond t (Err (fault.Doubled j)) (Ok (record { cycle = e.cycle; net = record { 0 = x }; value = e.value }))) (in_map holds ∙ there))

pub none_there : {A : Type 0} (o : Option A) → is_some o ≡ false → o ≡ None
none_there None e = refl
none_there (Some a) e = absurd (cc)

-- reading goes on behind an upset
pub upsets_step : (version : ℕ) (h : Net) (cycles j : ℕ) (earlier : List Upset) (vs : List Value) (d : Value) (u : Upset) → j < length vs → upset_of version h cycles j earlier (entry_of (view (get_or vs j d))) ≡ Ok u → upsets_from version h cycles (j + 1) (earlier ++ u ∷ []) (map view (drop (j + 1) vs)) ≡ upsets_from version h cycles j earlier (map view (drop j vs))
upsets_step version h cycles j earlier vs d u l is =
    sym (ap (λ (ws : List Value). upsets_from version h cycles j earlier (map view ws)) (drop_more vs j d l)
    ∙ ap (λ (r : Result Upset ScheduleFault). and_then r (λ u. upsets_from version h cycles (j + 1) (earlier ++ u ∷ []) (map view (drop (j + 1) vs)))) is)

-- the map has one upset more
pub holds_more : (m n : BTreeMap (ℕ × ℕ) Bool) (us : List Upset) (u : Upset) → Holds m us → tree.get place_cmp m (u.cycle, u.net.0) ≡ None → ((q : ℕ × ℕ) → tree.get place_cmp n q ≡ cond (is_eq (place_cmp (u.cycle, u.net.0) q)) (Some u.value) (tree.get place_cmp m q)) → Holds n (us ++ u ∷ [])
holds_more m n us u holds none updated cycle net =
    updated (cycle, net) ∙ (ap (λ (t : Bool). cond t (Some u.value) (tree.get place_cmp m (cycle, net))) (place_is_eq u.cycle u.net.0 cycle net)
    ∙ (ap (λ (o : Option Bool). cond (nat_eq u.cycle cycle && nat_eq u.net.0 net) (Some u.value) o) (holds cycle net)
    ∙ sym (upset_at_more us u cycle net (sym (holds u.cycle u.net.0) ∙ none))))

key_at : (es : List ((ℕ × ℕ) × Bool)) (j : ℕ) (e : (ℕ × ℕ) × Bool) → get_or (keys_of es) j e.0 ≡ (get_or es j e).0
key_at [] j e = refl
key_at (x ∷ es) zero e = refl
key_at (x ∷ es) (suc j) e = key_at es j e

keys_long : (es : List ((ℕ × ℕ) × Bool)) → length (keys_of es) ≡ length es
keys_long [] = refl
keys_long (x ∷ es) = ap suc (keys_long es)

-- the cycle of entry j
pub cycle_in_range : (es : List ((ℕ × ℕ) × Bool)) (j cycles : ℕ) (e : (ℕ × ℕ) × Bool) → All (λ k. k.0 < cycles) (keys_of es) → j < length es → (get_or es j e).0.0 < cycles
cycle_in_range es j cycles e all l = subst (λ (k : ℕ × ℕ). k.0 < cycles) (key_at es j e) (all j e.0 (let long = keys_long es in omega arith))

-- entry j comes behind those before it
pub entry_in_order : (es : List ((ℕ × ℕ) × Bool)) (j : ℕ) (e : (ℕ × ℕ) × Bool) → IsStrictlySortedBy place_cmp (keys_of es) → j < length es → IfSome (slice_get (map upset_of_entry (take j es)) (length (map upset_of_entry (take j es)) - 1)) (λ v. IsBefore v (upset_of_entry (get_or es j e)))
entry_in_order es j e sorted l = go (slice_get (map upset_of_entry (take j es)) (length (map upset_of_entry (take j es)) - 1)) refl
  where
    front : List Upset
    front = map upset_of_entry (take j es)

    go : (o : Option Upset) → slice_get (map upset_of_entry (take j es)) (length (map upset_of_entry (take j es)) - 1) ≡ o → IfSome o (λ v. IsBefore v (upset_of_entry (get_or es j e)))
    go None at = tt
    go (Some v) at =
        let us : List Upset = map upset_of_entry (take j es) in
        let i : ℕ = length us - 1 in
        let within : i < length us = slice_get_within us i v at in
        let long : length us ≡ j = length-map (take j es) upset_of_entry ∙ length-take-le j es (omega arith) in
        let here : get_or us i v ≡ v = get_or_from_slice_get us i v v at in
        let short : i < j = omega arith in
        let there : get_or us i v ≡ upset_of_entry (get_or es i e) = get_or-map upset_of_entry (take j es) i e v (omega (arith, within, length-map (take j es) upset_of_entry)) ∙ ap upset_of_entry (get_or-take j es i e short) in
        let less = Less-from_sorted place_cmp (keys_of es) i j e.0 sorted short (omega (arith, l, keys_long es)) in
        let before : IsBefore (upset_of_entry (get_or es i e)) (upset_of_entry (get_or es j e)) =
        place_less (get_or es i e).0.0 (get_or es i e).0.1 (get_or es j e).0.0 (get_or es j e).0.1 (subst (λ (k : ℕ × ℕ). place_cmp (get_or es i e).0 k ≡ Less) (key_at es j e) (subst (λ (k : ℕ × ℕ). place_cmp k (get_or (keys_of es) j e.0) ≡ Less) (key_at es i e) less)) in
        subst (λ (w : Upset). IsBefore w (upset_of_entry (get_or es j e))) (sym there ∙ here) before

few_enough : (a b : ℕ) → a ≤ 1048576 → b ≤ 1048576 → (nat_lt 1048576 a || nat_lt 1048576 b) ≡ false
few_enough a b l k = grind (arith, nat_tests)

list_of_view : (vs : List Value) → list_of (items_view vs) ≡ map view vs
list_of_view [] = refl
list_of_view (v ∷ vs) = ap (λ (ds : List Data). view v ∷ ds) (list_of_view vs)

-- a document with its two arrays
pub top_listed : (version count : ℕ) (n h : Net) (top : Members) (rows ups : List Value) → only_keys (is_file_key version) top ≡ true → inputs_of top ≡ Some (items_view rows) → upsets_of top ≡ Some (items_view ups) → document_listed version count n h (Some top) ≡ listed version n h (starts_of count top) (map view rows) (map view ups)
top_listed version count n h top rows ups keys rows_are ups_are =
    ap (λ (t : Bool). cond t (arrays_listed version n h (starts_of count top) (inputs_of top) (upsets_of top)) (Err fault.Top)) keys
    ∙ (ap (λ (o : Option Items). arrays_listed version n h (starts_of count top) o (upsets_of top)) rows_are
    ∙ (ap (arrays_listed version n h (starts_of count top) (Some (items_view rows))) ups_are
    ∙ (ap (λ (ds : List Data). listed version n h (starts_of count top) ds (list_of (items_view ups))) (list_of_view rows)
    ∙ ap (listed version n h (starts_of count top) (map view rows)) (list_of_view ups))))

-- what holds of the nets of the entries holds of those of the upsets
pub upsets_nets : (P : ℕ → Type 0) (es : List ((ℕ × ℕ) × Bool)) → All (λ k. P k.1) (keys_of es) → All (λ u. P u.net.0) (map upset_of_entry es)
upsets_nets P [] all i d l = absurd (omega arith)
upsets_nets P (e ∷ es) all zero d l = all 0 (0, 0) (omega arith)
upsets_nets P (e ∷ es) all (suc i) d l = upsets_nets P es (λ j k m. all (suc j) k (omega arith)) i d (omega arith)

-- in version 1 nodes alone are struck
pub all_nodes : (h : Net) (us : List Upset) → All (λ u. CanBeStruck 1 h u.net.0) us → All (λ u. IsNodeOf h u.net.0) us
all_nodes h us all i d l = let is = all i d l in (is.0 refl, is.1)

pub all_nets : (version : ℕ) (h : Net) (us : List Upset) → All (λ u. CanBeStruck version h u.net.0) us → All (λ u. u.net.0 < net_count h) us
all_nets version h us all i d l = (all i d l).1
