-- The actuals of formals, taken one by one.
use Rattle.std.proofs.Common.{◌≡◌, ℕ, ◌+◌, ◌<◌, Bool, true, false, cond, List, [], ◌∷◌, ◌++◌, length, get_or, take, refl, sym, ap, ◌∙◌, subst, Option, Some, None}
use Rattle.std.specs.Str.{bytes_eq}
use Rattle.std.specs.Option.{option_or, is_some}
use Rattle.std.proofs.lemmas.List.{take_more}
use Rattle.std.proofs.lemmas.Slice.Eq.{bytes_eq-Decides}
use Rattle.library_faults.specs.Flat.{actual_of}

bytes_swap : (a b : List ℕ) (v : Bool) → bytes_eq a b ≡ v → bytes_eq b a ≡ v
bytes_swap a b true e = (bytes_eq-Decides b a).1 (sym ((bytes_eq-Decides a b).0 e))
bytes_swap a b false e = go (bytes_eq b a) refl
  where
    go : (v : Bool) → bytes_eq b a ≡ v → bytes_eq b a ≡ false
    go true f = absurd (let g : bytes_eq a b ≡ true = (bytes_eq-Decides a b).1 (sym ((bytes_eq-Decides b a).0 f)) in cc)
    go false f = f

either : (first : List ℕ) (rest more last : Option (List ℕ)) (v : Bool) → more ≡ option_or rest last → cond v (Some first) more ≡ option_or (cond v (Some first) rest) last
either first rest more last true e = refl
either first rest more last false e = e

-- one binding more
pub one_more : (seen : List (List ℕ × List ℕ)) (b : List ℕ × List ℕ) (q : List ℕ) → actual_of (seen ++ b ∷ []) q ≡ option_or (actual_of seen q) (cond (bytes_eq q b.0) (Some b.1) None)
unfolding actual_of
one_more [] b q = refl
one_more (c ∷ seen) b q = either c.1 (actual_of seen q) (actual_of (seen ++ b ∷ []) q) (cond (bytes_eq q b.0) (Some b.1) None) (bytes_eq q c.0) (one_more seen b q)

pub bind_more : (bindings : List (List ℕ × List ℕ)) (i : ℕ) (b : List ℕ × List ℕ) (old new : Option (List ℕ)) (q : List ℕ) → i < length bindings → b ≡ get_or bindings i b → old ≡ actual_of (take i bindings) q → new ≡ option_or old (cond (bytes_eq q b.0) (Some b.1) None) → new ≡ actual_of (take (i + 1) bindings) q
bind_more bindings i b old new q below is so_far one = one ∙ (ap (λ o. option_or o (cond (bytes_eq q b.0) (Some b.1) None)) so_far ∙ sym (whole ∙ one_more (take i bindings) b q))
  where
    whole : actual_of (take (i + 1) bindings) q ≡ actual_of (take i bindings ++ b ∷ []) q
    whole = ap (λ bs. actual_of bs q) (rw (take_more bindings i b below, ← is) refl)

-- a formal that is bound stays bound to the same
pub bound_before : (get : List ℕ → Option (List ℕ)) (formal actual q : List ℕ) → is_some (get formal) ≡ true → get q ≡ option_or (get q) (cond (bytes_eq q formal) (Some actual) None)
bound_before get formal actual q some = go (bytes_eq q formal) refl (get q) refl
  where
    go : (v : Bool) → bytes_eq q formal ≡ v → (o : Option (List ℕ)) → get q ≡ o → o ≡ option_or o (cond v (Some actual) None)
    go v e (Some x) f = refl
    go false e None f = refl
    go true e None f = absurd (let same : q ≡ formal = (bytes_eq-Decides q formal).0 e in let none : get formal ≡ None = subst (λ n. get n ≡ None) same f in let wrong : is_some (get formal) ≡ false = ap is_some none in cc)

-- a formal that is not bound is bound to the actual
pub bound_now : (get : List ℕ → Option (List ℕ)) (formal actual q : List ℕ) → is_some (get formal) ≡ false → cond (bytes_eq formal q) (Some actual) (get q) ≡ option_or (get q) (cond (bytes_eq q formal) (Some actual) None)
bound_now get formal actual q none = go (bytes_eq q formal) refl (get q) refl
  where
    go : (v : Bool) → bytes_eq q formal ≡ v → (o : Option (List ℕ)) → get q ≡ o → cond (bytes_eq formal q) (Some actual) o ≡ option_or o (cond v (Some actual) None)
    go false e o f = rw (bytes_swap q formal false e) (plain o)
      where
        plain : (o : Option (List ℕ)) → o ≡ option_or o None
        plain None = refl
        plain (Some x) = refl
    go true e None f = rw (bytes_swap q formal true e) refl
    go true e (Some x) f = absurd (let same : q ≡ formal = (bytes_eq-Decides q formal).0 e in let there : get formal ≡ Some x = subst (λ n. get n ≡ Some x) same f in let wrong : is_some (get formal) ≡ true = ap is_some there in cc)
