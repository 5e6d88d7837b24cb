-- An earlier different net of the same text, where no two earlier nets share one.
use Rattle.std.proofs.Common.{◌≡◌, ℕ, ◌⊎◌, inl, inr, Bool, true, false, ◌&&◌, cond, not, List, [], ◌∷◌, ◌++◌, refl, sym, ap, ◌∙◌, subst, Some, None}
use Rattle.std.specs.Prelude.{find, ◌||◌}
use Rattle.std.specs.List.{list_any}
use Rattle.std.specs.Str.{bytes_eq}
use Rattle.std.proofs.lemmas.Slice.Eq.{bytes_eq-Decides}
use Rattle.library_faults.specs.Flat.{PlacedNet, net_text}
use Rattle.hierarchy.specs.Clash.{same_net, clashes, is_taken}
use Rattle.hierarchy.specs.Private.Naming.{Among, has_text}

pub among_split : (x : PlacedNet) (ys zs : List PlacedNet) → Among x (ys ++ zs) → Among x ys ⊎ Among x zs
among_split x [] zs a = inr a
among_split x (y ∷ ys) zs (inl e) = inl (inl e)
among_split x (y ∷ ys) zs (inr a) = go (among_split x ys zs a)
  where
    go : Among x ys ⊎ Among x zs → Among x (y ∷ ys) ⊎ Among x zs
    go (inl b) = inl (inr b)
    go (inr b) = inr b

any_none : (p : PlacedNet → Bool) (ys : List PlacedNet) → ((x : PlacedNet) → Among x ys → p x ≡ false) → list_any p ys ≡ false
any_none p [] none = refl
any_none p (y ∷ ys) none =
    let one : p y ≡ false = none y (inl refl) in
    let rest : list_any p ys ≡ false = any_none p ys (λ x a. none x (inr a)) in
    rw (one, rest) refl

any_first : (a b : Bool) → (a || b) ≡ false → (a ≡ false) × (b ≡ false)
any_first true b e = absurd cc
any_first false b e = (refl, e)

none_among : (p : PlacedNet → Bool) (ys : List PlacedNet) (x : PlacedNet) → list_any p ys ≡ false → Among x ys → p x ≡ false
none_among p [] x none a = absurd a
none_among p (y ∷ ys) x none (inl e) = subst (λ n. p n ≡ false) e (any_first (p y) (list_any p ys) none).0
none_among p (y ∷ ys) x none (inr a) = none_among p ys x (any_first (p y) (list_any p ys) none).1 a

or_true : (a b : Bool) → b ≡ true → (a || b) ≡ true
or_true true b e = refl
or_true false b e = e

some_among : (p : PlacedNet → Bool) (ys : List PlacedNet) (x : PlacedNet) → p x ≡ true → Among x ys → list_any p ys ≡ true
some_among p [] x holds a = absurd a
some_among p (y ∷ ys) x holds (inl e) = let here : p y ≡ true = subst (λ n. p n ≡ true) (sym e) holds in rw here refl
some_among p (y ∷ ys) x holds (inr a) = or_true (p y) (list_any p ys) (some_among p ys x holds a)

pub found_among : (text : List ℕ) (xs : List PlacedNet) (y : PlacedNet) → find (has_text text) xs ≡ Some y → Among y xs × (has_text text y ≡ true)
found_among text [] y e = absurd cc
found_among text (x ∷ xs) y e = go (has_text text x) refl e (found_among text xs y)
  where
    some_is : (u v : PlacedNet) → Some u ≡ Some v → u ≡ v
    some_is u v e = cc

    go : (v : Bool) → has_text text x ≡ v → cond v (Some x) (find (has_text text) xs) ≡ Some y → (find (has_text text) xs ≡ Some y → Among y xs × (has_text text y ≡ true)) → Among y (x ∷ xs) × (has_text text y ≡ true)
    go true is h later = let same = some_is x y h in (inl same, ap (has_text text) (sym same) ∙ is)
    go false is h later = let r = later h in (inr r.0, r.1)

none_found : (text : List ℕ) (xs : List PlacedNet) (y : PlacedNet) → find (has_text text) xs ≡ None → Among y xs → has_text text y ≡ false
none_found text [] y e a = absurd a
none_found text (x ∷ xs) y e a = go (has_text text x) refl e a (none_found text xs y)
  where
    go : (v : Bool) → has_text text x ≡ v → cond v (Some x) (find (has_text text) xs) ≡ None → Among y (x ∷ xs) → (find (has_text text) xs ≡ None → Among y xs → has_text text y ≡ false) → has_text text y ≡ false
    go true is h a later = absurd cc
    go false is h (inl same) later = ap (has_text text) (sym same) ∙ is
    go false is h (inr a) later = later h a

and_true : (a b : Bool) → (a && b) ≡ true → (a ≡ true) × (b ≡ true)
and_true true b e = (refl, e)
and_true false b e = absurd cc

net_is : (a b : PlacedNet) → same_net a b ≡ true → a ≡ b
net_is a b e =
    let both = and_true (bytes_eq a.path b.path) (bytes_eq a.name b.name) e in
    let paths : a.path ≡ b.path = (bytes_eq-Decides a.path b.path).0 both.0 in
    let names : a.name ≡ b.name = (bytes_eq-Decides a.name b.name).0 both.1 in
    ap (λ p. let n : PlacedNet = record { path = p; name = a.name } in n) paths ∙ ap (λ m. let n : PlacedNet = record { path = b.path; name = m } in n) names

itself : (a : PlacedNet) → same_net a a ≡ true
itself a = rw ((bytes_eq-Decides a.path a.path).1 refl, (bytes_eq-Decides a.name a.name).1 refl) refl

-- no two nets share a text
abbrev IsClear : List PlacedNet → Type 0
IsClear before = (a b : PlacedNet) → Among a before → Among b before → net_text a ≡ net_text b → a ≡ b

module _ (before : List PlacedNet) (net : PlacedNet) where
  -- a net of the same text, where no two share one
  pub taken_apart : IsClear before → (other : PlacedNet) (v : Bool) → Among other before → has_text (net_text net) other ≡ true → same_net other net ≡ v → not v ≡ is_taken before net
  taken_apart clear other false a h e = sym (some_among (clashes net) before other (rw (h, e) refl) a)
  taken_apart clear other true a h e = sym (any_none (clashes net) before (λ y b. alike y b (has_text (net_text net) y) refl))
    where
      alike : (y : PlacedNet) → Among y before → (v : Bool) → has_text (net_text net) y ≡ v → clashes net y ≡ false
      alike y b false g = rw g refl
      alike y b true g =
          let texts_same : net_text y ≡ net_text other = (bytes_eq-Decides (net_text y) (net_text net)).0 g ∙ sym ((bytes_eq-Decides (net_text other) (net_text net)).0 h) in
          let same : y ≡ net = clear y other b a texts_same ∙ net_is other net e in
          let one : same_net y net ≡ true = subst (λ n. same_net n net ≡ true) (sym same) (itself net) in
          rw (g, one) refl

  -- no net has the text
  pub free_text : find (has_text (net_text net)) before ≡ None → false ≡ is_taken before net
  free_text e = sym (any_none (clashes net) before (λ y b. let none : has_text (net_text net) y ≡ false = none_found (net_text net) before y e b in rw none refl))

  pub still_clear : IsClear before → is_taken before net ≡ false → IsClear (before ++ net ∷ [])
  still_clear clear free a b x y e = go (among_split a before (net ∷ []) x) (among_split b before (net ∷ []) y)
    where
      with_net : (other : PlacedNet) → Among other before → net_text other ≡ net_text net → other ≡ net
      with_net other z f = by (same_net other net) refl
        where
          by : (v : Bool) → same_net other net ≡ v → other ≡ net
          by true g = net_is other net g
          by false g = absurd (let yes : clashes net other ≡ true = (let h : has_text (net_text net) other ≡ true = (bytes_eq-Decides (net_text other) (net_text net)).1 f in rw (h, g) refl) in let no : clashes net other ≡ false = none_among (clashes net) before other free z in cc)

      only : (other : PlacedNet) → Among other (net ∷ []) → net ≡ other
      only other (inl f) = f
      only other (inr z) = absurd z

      go : Among a before ⊎ Among a (net ∷ []) → Among b before ⊎ Among b (net ∷ []) → a ≡ b
      go (inl l) (inl r) = clear a b l r e
      go (inl l) (inr r) = let last : net ≡ b = only b r in with_net a l (e ∙ ap net_text (sym last)) ∙ last
      go (inr l) (inl r) = let last : net ≡ a = only a l in sym (with_net b r (sym e ∙ ap net_text (sym last)) ∙ last)
      go (inr l) (inr r) = sym (only a l) ∙ only b r
