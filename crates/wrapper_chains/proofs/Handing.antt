-- Bindings of a way, made one by one.
use Rattle.std.proofs.Common.{◌≡◌, ◌≢◌, ℕ, ◌+◌, ◌<◌, ◌⊎◌, inl, inr, Bool, true, false, cond, ◌||◌, List, [], ◌∷◌, ◌++◌, length, get_or, take, refl, sym, ap, ◌∙◌, Option, Some, None}
use Rattle.std.specs.Prelude.{option_and_then, Result, Ok, Err, IfOk, IfSome}
use Rattle.std.specs.Option.{option_or, option_map_or, is_some}
use Rattle.std.specs.Str.{bytes_eq}
use Rattle.std.proofs.lemmas.List.{take_more}
use Rattle.std.proofs.lemmas.List.Folds.{list_any-append, list_any_at}
use Rattle.std.proofs.lemmas.List.Quantifiers.{position-Some}
use Rattle.std.proofs.lemmas.Slice.Eq.{bytes_eq-Decides}
use Rattle.blif_text.specs.Kind.{is_among}
use Rattle.library_faults.specs.declared.lengths.count.Count.{Count}
use Rattle.library_faults.specs.Graph.{number_named}
use Rattle.library_faults.specs.Private.Counts.{used}
use Rattle.library_faults.specs.Flat.{actual_of}
use Rattle.wrapper_chains.specs.Private.Ways.{IsHandedOn}
use Rattle.wrapper_chains.proofs.Binding.{one_more}

-- each name among these that stands somewhere is bound to itself, and no name to another
pub record AreAlike (count : Count) (names : List (List ℕ)) (nets : List (List ℕ × List ℕ)) : Type 0 where
  pub has : (name : List ℕ) → is_among names name ≡ true → used count name ≢ 0 → actual_of nets name ≡ Some name
  pub own : (name other : List ℕ) → actual_of nets name ≡ Some other → other ≡ name

either_name : (t u : Bool) → (t || (u || false)) ≡ true → (t ≡ true) ⊎ (u ≡ true)
either_name true u e = inl refl
either_name false true e = inr refl
either_name false false e = absurd cc

one_among : (names : List (List ℕ)) (i : ℕ) (one name : List ℕ) → i < length names → one ≡ get_or names i one → is_among (take (i + 1) names) name ≡ true → (is_among (take i names) name ≡ true) ⊎ (name ≡ one)
one_among names i one name below is among = go (either_name (is_among (take i names) name) (bytes_eq name one) (sym split ∙ among))
  where
    split : is_among (take (i + 1) names) name ≡ (is_among (take i names) name || (bytes_eq name one || false))
    split = ap (λ ns. is_among ns name) (take_more names i one below ∙ ap (λ n. take i names ++ n ∷ []) (sym is)) ∙ list_any-append (bytes_eq name) (take i names) (one ∷ [])

    go : (is_among (take i names) name ≡ true) ⊎ (bytes_eq name one ≡ true) → (is_among (take i names) name ≡ true) ⊎ (name ≡ one)
    go (inl l) = inl l
    go (inr r) = inr ((bytes_eq-Decides name one).0 r)

-- one name more is bound to itself
pub alike_more : (count : Count) (names : List (List ℕ)) (i : ℕ) (one formal actual : List ℕ) (nets after : List (List ℕ × List ℕ)) → i < length names → one ≡ get_or names i one → formal ≡ one → actual ≡ one → after ≡ nets ++ (formal, actual) ∷ [] → AreAlike count (take i names) nets → AreAlike count (take (i + 1) names) after
alike_more count names i one formal actual nets after below is of to made so_far = record {
  has = λ name among some. now name ∙ has name some (one_among names i one name below is among) (actual_of nets name) refl;
  own = λ name other e. own name other (actual_of nets name) refl (bytes_eq name one) refl (sym (now name) ∙ e);
}
  where
    now : (name : List ℕ) → actual_of after name ≡ option_or (actual_of nets name) (cond (bytes_eq name one) (Some one) None)
    now name = ap (λ ns. actual_of ns name) made ∙ (one_more nets (formal, actual) name ∙ (ap (λ f. option_or (actual_of nets name) (cond (bytes_eq name f) (Some actual) None)) of ∙ ap (λ a. option_or (actual_of nets name) (cond (bytes_eq name one) (Some a) None)) to))

    has : (name : List ℕ) → used count name ≢ 0 → (is_among (take i names) name ≡ true) ⊎ (name ≡ one) → (o : Option (List ℕ)) → actual_of nets name ≡ o → option_or (actual_of nets name) (cond (bytes_eq name one) (Some one) None) ≡ Some name
    has name some (inl l) o e = rw (so_far.has name l some) refl
    has name some (inr same) None e = rw (e, (bytes_eq-Decides name one).1 same) (ap (λ n. Some n) (sym same))
    has name some (inr same) (Some other) e = rw e (ap (λ n. Some n) (so_far.own name other e))

    own : (name other : List ℕ) (o : Option (List ℕ)) → actual_of nets name ≡ o → (t : Bool) → bytes_eq name one ≡ t → option_or (actual_of nets name) (cond (bytes_eq name one) (Some one) None) ≡ Some other → other ≡ name
    own name other (Some found) e t f g = so_far.own name other (let h : option_or (actual_of nets name) (cond (bytes_eq name one) (Some one) None) ≡ actual_of nets name = rw e refl in sym h ∙ g)
    own name other None e true f g =
        let h : option_or (actual_of nets name) (cond (bytes_eq name one) (Some one) None) ≡ Some one = rw (e, f) refl in
        let same : one ≡ other = cc in
        sym same ∙ sym ((bytes_eq-Decides name one).0 f)
    own name other None e false f g = absurd (let h : option_or (actual_of nets name) (cond (bytes_eq name one) (Some one) None) ≡ None = rw (e, f) refl in cc)

-- a name that stands nowhere is passed
pub alike_passed : (count : Count) (names : List (List ℕ)) (i : ℕ) (one : List ℕ) (nets : List (List ℕ × List ℕ)) → i < length names → one ≡ get_or names i one → used count one ≡ 0 → AreAlike count (take i names) nets → AreAlike count (take (i + 1) names) nets
alike_passed count names i one nets below is none so_far = record {
  has = λ name among some. has name some (one_among names i one name below is among);
  own = so_far.own;
}
  where
    has : (name : List ℕ) → used count name ≢ 0 → (is_among (take i names) name ≡ true) ⊎ (name ≡ one) → actual_of nets name ≡ Some name
    has name some (inl l) = so_far.has name l some
    has name some (inr same) = absurd (some (ap (used count) same ∙ none))

pub none_alike : (count : Count) (nets : List (List ℕ × List ℕ)) → nets ≡ [] → AreAlike count [] nets
unfolding actual_of
none_alike count nets e = record {
  has = λ name among some. absurd cc;
  own = λ name other f. absurd (let none : actual_of nets name ≡ None = rw e refl in cc);
}

-- a name that stands somewhere is a formal
pub used_among : (count : Count) (name : List ℕ) → used count name ≢ 0 → is_among count.formals.keys name ≡ true
unfolding number_named
used_among count name some = go (number_named count.formals.keys name) refl
  where
    go : (o : Option ℕ) → number_named count.formals.keys name ≡ o → is_among count.formals.keys name ≡ true
    go None e = absurd (some (ap (λ o. option_map_or (λ k. get_or count.uses.items k 0) o 0) e))
    go (Some k) e = let at = position-Some (bytes_eq name) count.formals.keys k [] e in list_any_at (bytes_eq name) count.formals.keys k [] at.0 at.1

handed_step : (get : List ℕ → Option (List ℕ)) (before now : Option (List ℕ)) (t : Bool) (net actual : List ℕ) → now ≡ option_and_then get before → is_some now ≡ is_some before → get net ≡ Some actual → (option_or now (cond t (Some actual) None) ≡ option_and_then get (option_or before (cond t (Some net) None))) × (is_some (option_or now (cond t (Some actual) None)) ≡ is_some (option_or before (cond t (Some net) None)))
handed_step get (Some n) (Some a) t net actual same some e = (same, refl)
handed_step get (Some n) None t net actual same some e = absurd cc
handed_step get None (Some a) t net actual same some e = absurd cc
handed_step get None None true net actual same some e = (sym e, refl)
handed_step get None None false net actual same some e = (refl, refl)

-- one net more has what it is bound to
pub handed_more : (get : List ℕ → Option (List ℕ)) (nets : List (List ℕ × List ℕ)) (i : ℕ) (item : List ℕ × List ℕ) (found name actual : List ℕ) (old new : List (List ℕ × List ℕ)) → i < length nets → item ≡ get_or nets i item → get item.1 ≡ Some found → name ≡ item.0 → actual ≡ found → new ≡ old ++ (name, actual) ∷ [] → IsHandedOn (take i nets) get old → IsHandedOn (take (i + 1) nets) get new
handed_more get nets i item found name actual old new below is bound of to made so_far = record {
  same = λ q. now q ∙ ((step q).0 ∙ sym (ap (option_and_then get) (before q)));
  some = λ q. ap is_some (now q) ∙ ((step q).1 ∙ sym (ap is_some (before q)));
}
  where
    before : (q : List ℕ) → actual_of (take (i + 1) nets) q ≡ option_or (actual_of (take i nets) q) (cond (bytes_eq q item.0) (Some item.1) None)
    before q = ap (λ bs. actual_of bs q) (take_more nets i item below ∙ ap (λ b. take i nets ++ b ∷ []) (sym is)) ∙ one_more (take i nets) item q

    now : (q : List ℕ) → actual_of new q ≡ option_or (actual_of old q) (cond (bytes_eq q item.0) (Some actual) None)
    now q = ap (λ bs. actual_of bs q) made ∙ (one_more old (name, actual) q ∙ ap (λ n. option_or (actual_of old q) (cond (bytes_eq q n) (Some actual) None)) of)

    step : (q : List ℕ) → (option_or (actual_of old q) (cond (bytes_eq q item.0) (Some actual) None) ≡ option_and_then get (option_or (actual_of (take i nets) q) (cond (bytes_eq q item.0) (Some item.1) None))) × (is_some (option_or (actual_of old q) (cond (bytes_eq q item.0) (Some actual) None)) ≡ is_some (option_or (actual_of (take i nets) q) (cond (bytes_eq q item.0) (Some item.1) None)))
    step q = handed_step get (actual_of (take i nets) q) (actual_of old q) (bytes_eq q item.0) item.1 actual (so_far.same q) (so_far.some q) (bound ∙ ap (λ n. Some n) (sym to))

pub none_handed : (get : List ℕ → Option (List ℕ)) (new : List (List ℕ × List ℕ)) → new ≡ [] → IsHandedOn [] get new
unfolding actual_of
none_handed get new e = record { same = λ q. rw e refl; some = λ q. rw e refl }

pub if_found : {A E : Type 0} (r : Result (Option A) E) (P Q : A → Type 0) → ((a : A) → P a → Q a) → IfOk r (λ found. IfSome found P) → IfOk r (λ found. IfSome found Q)
if_found (Ok (Some a)) P Q f h = f a h
if_found (Ok None) P Q f h = tt
if_found (Err e) P Q f h = tt

pub if_ok : {A E : Type 0} (r : Result A E) (P Q : A → Type 0) → ((a : A) → P a → Q a) → IfOk r P → IfOk r Q
if_ok (Ok a) P Q f h = f a h
if_ok (Err e) P Q f h = tt

pub both_ok : {A E : Type 0} (r : Result A E) (P Q R : A → Type 0) → ((a : A) → P a → Q a → R a) → IfOk r P → IfOk r Q → IfOk r R
both_ok (Ok a) P Q R f p q = f a p q
both_ok (Err e) P Q R f p q = tt
