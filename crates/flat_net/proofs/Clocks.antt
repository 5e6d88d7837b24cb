-- The first latch of a list of elements, and clocking that differs from it.
use Rattle.std.proofs.Common.{◌≡◌, ℕ, Bool, true, false, ◌||◌, List, [], ◌∷◌, ◌++◌, map, Option, Some, None, refl, sym, ap, ◌∙◌}
use Rattle.std.specs.List.{flat_map, list_any}
use Rattle.std.proofs.lemmas.List.Folds.{list_any-append}
use Rattle.tmr_base.specs.declared.ids.Edge.{Edge}
use Rattle.tmr_base.specs.declared.ids.Edge.TheVariants.{Rising, Falling}
use Rattle.flat_net.specs.Draft.{Element, TableOf, LatchOf, reads_of}
use Rattle.flat_net.specs.First.{HasNone}
use Rattle.flat_net.specs.Faults.{first_control, same_edge, same_control, is_unlike, is_mixed}
use Rattle.flat_net.proofs.Names.{eq_true}

same_edge_self : (e : Edge) → same_edge e e ≡ true
same_edge_self Rising = refl
same_edge_self Falling = refl

same_control_self : (c : Option (Edge × List ℕ)) → same_control c c ≡ true
same_control_self None = refl
same_control_self (Some c) = rw (same_edge_self c.0, eq_true c.1 c.1 refl) refl

-- elements behind a latch do not change which one is the first
pub first_control-append : (xs ys : List Element) (c : Option (Edge × List ℕ)) → first_control xs ≡ Some c → first_control (xs ++ ys) ≡ Some c
first_control-append [] ys c e = absurd (cc)
first_control-append (TableOf pins out cover ∷ xs) ys c e = first_control-append xs ys c e
first_control-append (LatchOf pin out control init ∷ xs) ys c e = e

pub first_control-none : (xs ys : List Element) → first_control xs ≡ None → first_control (xs ++ ys) ≡ first_control ys
first_control-none [] ys e = refl
first_control-none (TableOf pins out cover ∷ xs) ys e = first_control-none xs ys e
first_control-none (LatchOf pin out control init ∷ xs) ys e = absurd (cc)

-- to differ from the first latch before is to differ from the first latch of all
pub mixed_is_unlike : (before : List Element) (e : Element) (after : List Element) (first : Option (Edge × List ℕ)) → first_control (before ++ e ∷ after) ≡ Some first → is_mixed before e ≡ is_unlike first e
mixed_is_unlike before e after first is = go (first_control before) refl
  where
    own : (e : Element) → first_control (e ∷ after) ≡ Some first → false ≡ is_unlike first e
    own (TableOf pins out cover) f = refl
    own (LatchOf pin out control init) f = let s : first ≡ control = cc in rw (s, same_control_self control) refl

    go : (o : Option (Option (Edge × List ℕ))) → first_control before ≡ o → is_mixed before e ≡ is_unlike first e
    go None f = rw f (own e (sym (first_control-none before (e ∷ after) f) ∙ is))
    go (Some c) f =
        let s : c ≡ first = let g = first_control-append before (e ∷ after) c f in cc in
        rw (f, s) refl

-- without a latch nothing differs
pub no_latch : (xs : List Element) → first_control xs ≡ None → HasNone is_mixed xs
no_latch xs none = record { none = λ before e after is. go before e after is (first_control before) refl }
  where
    go : (before : List Element) (e : Element) (after : List Element) → xs ≡ before ++ e ∷ after → (o : Option (Option (Edge × List ℕ))) → first_control before ≡ o → is_mixed before e ≡ false
    go before e after is None f = rw f refl
    go before e after is (Some c) f = absurd (let g = first_control-append before (e ∷ after) c f in let h : first_control xs ≡ first_control (before ++ e ∷ after) = ap first_control is in cc)

-- a test of the pins of all elements goes element by element
pub any_read : {X : Type 0} (p : List ℕ → Bool) (f : X → Element) (xs : List X) → list_any (λ x. list_any p (reads_of (f x))) xs ≡ list_any p (flat_map reads_of (map f xs))
any_read p f [] = refl
any_read p f (x ∷ xs) =
    ap (λ b. list_any p (reads_of (f x)) || b) (any_read p f xs) ∙ sym (list_any-append p (reads_of (f x)) (flat_map reads_of (map f xs)))
