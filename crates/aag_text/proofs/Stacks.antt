-- One gate more.
use Rattle.std.proofs.Common.{◌≡◌, ℕ, suc, ◌+◌, ◌<◌, ◌≤◌, Bool, true, false, List, [], ◌∷◌, ◌++◌, length, refl, sym, ◌∙◌, ap, subst, arith, length-append}
use Rattle.std.specs.Prelude.{◌&&◌, Result, Ok, Err, OnOk, IfOk}
use Rattle.aag_text.specs.declared.aig.Literal.{Literal}
use Rattle.aag_text.specs.declared.aig.Gate.{Gate}
use Rattle.aag_text.specs.Aig.{literal_value, literal_number, IsMet}
use Rattle.aag_text.specs.Private.Gates.{PlainGates, next_of, AreMet, AreStacked, Grows}

pub stacked_append : (next : ℕ) (gates : List Gate) (g : Gate) → AreStacked next gates → g.variable ≡ next + length gates → g.left.variable < next + length gates → g.right.variable < next + length gates → literal_number g.right ≤ literal_number g.left → AreStacked next (gates ++ g ∷ [])
unfolding AreStacked
stacked_append next [] g s v l r first = (omega (arith, v), omega (arith, l), omega (arith, r), first, tt)
stacked_append next (h ∷ gates) g s v l r first =
    (s.0, s.1, s.2, s.3, stacked_append (suc next) gates g s.4 (omega (arith, v)) (omega (arith, l)) (omega (arith, r)) first)

pub met_before : (values : ℕ → Bool) (gates : List Gate) (g : Gate) → AreMet values (gates ++ g ∷ []) → AreMet values gates
unfolding AreMet
met_before values [] g m = tt
met_before values (h ∷ gates) g m = (m.0, met_before values gates g m.1)

pub met_last : (values : ℕ → Bool) (gates : List Gate) (g : Gate) → AreMet values (gates ++ g ∷ []) → IsMet values g
unfolding AreMet
met_last values [] g m = m.0
met_last values (h ∷ gates) g m = met_last values gates g m.1

pub one_more : (old new : PlainGates) (g : Gate) → new ≡ record { first = old.first; list = old.list ++ g ∷ [] } → Grows 1 old new
one_more old new g e = subst (λ (n : PlainGates). Grows 1 old n) (sym e) (record {
  first = refl;
  longer = omega (arith, length-append old.list (g ∷ []));
  bound = omega (arith, length-append old.list (g ∷ []));
  met = λ values m. met_before values old.list g m;
})

and_commutes : (a b : Bool) → (a && b) ≡ (b && a)
and_commutes true true = refl
and_commutes true false = refl
and_commutes false true = refl
and_commutes false false = refl

pub grows_none : (count : ℕ) (g : PlainGates) → Grows count g g
grows_none count g = record { first = refl; longer = omega arith; bound = omega arith; met = λ values m. m }

pub grown : {E : Type 0} (r : Result Literal E) (old new : PlainGates) (g : Gate) → OnOk r (new ≡ record { first = old.first; list = old.list ++ g ∷ [] }) → OnOk r (Grows 1 old new)
grown (Ok l) old new g e = one_more old new g e
grown (Err x) old new g e = tt

own_value : (old new : PlainGates) (left right l : Literal) → new ≡ record { first = old.first; list = old.list ++ record { variable = next_of old; left = left; right = right } ∷ [] } → l ≡ record { variable = next_of old; negated = false } → (values : ℕ → Bool) → AreMet values new.list → literal_value values l ≡ (literal_value values left && literal_value values right)
own_value old new left right l e is values m =
    let met : AreMet values (old.list ++ record { variable = next_of old; left = left; right = right } ∷ []) = subst (λ (n : PlainGates). AreMet values n.list) e m in
    ap (literal_value values) is ∙ met_last values old.list (record { variable = next_of old; left = left; right = right }) met

pub conjoined : {E : Type 0} (r : Result Literal E) (old new : PlainGates) (a b : Literal) → OnOk r (new ≡ record { first = old.first; list = old.list ++ record { variable = next_of old; left = a; right = b } ∷ [] }) → IfOk r (λ l. l ≡ record { variable = next_of old; negated = false }) → IfOk r (λ l. (values : ℕ → Bool) → AreMet values new.list → literal_value values l ≡ (literal_value values a && literal_value values b))
conjoined (Ok l) old new a b e is = own_value old new a b l e is
conjoined (Err x) old new a b e is = tt

pub conjoined_back : {E : Type 0} (r : Result Literal E) (old new : PlainGates) (a b : Literal) → OnOk r (new ≡ record { first = old.first; list = old.list ++ record { variable = next_of old; left = b; right = a } ∷ [] }) → IfOk r (λ l. l ≡ record { variable = next_of old; negated = false }) → IfOk r (λ l. (values : ℕ → Bool) → AreMet values new.list → literal_value values l ≡ (literal_value values a && literal_value values b))
conjoined_back (Ok l) old new a b e is = λ values m. own_value old new b a l e is values m ∙ and_commutes (literal_value values b) (literal_value values a)
conjoined_back (Err x) old new a b e is = tt

-- one gate more
pub one_longer : {E : Type 0} (r : Result Literal E) (old new : PlainGates) (g : Gate) → OnOk r (new ≡ record { first = old.first; list = old.list ++ g ∷ [] }) → OnOk r (length new.list ≡ length old.list + 1)
one_longer (Ok l) old new g e = ap (λ (n : PlainGates). length n.list) e ∙ length-append old.list (g ∷ [])
one_longer (Err x) old new g e = tt
