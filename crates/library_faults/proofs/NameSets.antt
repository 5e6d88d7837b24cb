-- Names that differ, put into a set one by one.
use Rattle.std.proofs.Common.{◌≡◌, ℕ, ◌+◌, ◌<◌, ◌||◌, Bool, true, false, cond, List, [], ◌∷◌, ◌++◌, length, take, drop, get_or, map, refl, ap, sym, subst, ◌∙◌, arith, add-one, append_assoc, drop-cons}
use Rattle.std.proofs.Math.Seq.{get_or-append_seam}
use Rattle.std.specs.List.{list_any}
use Rattle.std.specs.Str.{bytes_eq}
use Rattle.std.proofs.lemmas.Slice.Eq.{bytes_eq-Decides}
use Rattle.std.proofs.lemmas.List.{length-append, get_or_append_left, take_more}
use Rattle.std.proofs.lemmas.List.Folds.{list_any_none, list_any-append}
use Rattle.std.proofs.lemmas.Bool.{false_from_ne_true}
use Rattle.indexmap.specs.IndexSet.{insert_key}
use Rattle.blif_text.specs.Kind.{is_among}
use Rattle.blif_text.specs.Library.{Differ}
use Rattle.blif_text.specs.declared.library.BlifModel.{BlifModel}
use Rattle.blif_text.specs.Views.{plain_model}
use Rattle.library_faults.specs.Graph.{names_of}

pub none_before : (done : List (List ℕ)) (name : List ℕ) (rest : List (List ℕ)) → Differ (done ++ name ∷ rest) → list_any (bytes_eq name) done ≡ false
none_before done name rest d = list_any_none (bytes_eq name) done (λ k e below. false_from_ne_true (bytes_eq name (get_or done k e)) (λ same. apart k e below ((bytes_eq-Decides name (get_or done k e)).0 same)))
  where
    apart : (k : ℕ) (e : List ℕ) → k < length done → name ≡ get_or done k e → ⊥
    apart k e below same =
        let long : length done < length (done ++ name ∷ rest) = omega (arith, length-append done (name ∷ rest)) in
        let left : get_or (done ++ name ∷ rest) k e ≡ get_or done k e = get_or_append_left done (name ∷ rest) e k below in
        let here : get_or (done ++ name ∷ rest) (length done) e ≡ name = get_or-append_seam done name rest e in
        d k (length done) e below long (left ∙ (sym same ∙ sym here))

-- one name more is in the set
pub set_more : (keys after : List (List ℕ)) (names : List (List ℕ)) (i : ℕ) (name : List ℕ) → i < length names → Differ names → keys ++ drop i names ≡ names → name ≡ get_or names i name → after ≡ insert_key bytes_eq keys name → after ++ drop (i + 1) names ≡ names
set_more keys after names i name below d so_far is inserted =
    rw inserted (rw none (append_assoc keys (name ∷ []) (drop (i + 1) names) ∙ whole))
  where
    whole : keys ++ name ∷ drop (i + 1) names ≡ names
    whole = rw (add-one, is) (rw (← drop-cons names i name) so_far)

    none : list_any (bytes_eq name) keys ≡ false
    none = none_before keys name (drop (i + 1) names) (subst Differ (sym whole) d)

-- one model's name more is in the set
pub model_more : (keys after : List (List ℕ)) (models : List BlifModel) (i : ℕ) (m : BlifModel) (name : List ℕ) → i < length models → Differ (names_of (map plain_model models)) → keys ++ names_of (map plain_model (drop i models)) ≡ names_of (map plain_model models) → m ≡ get_or models i m → name ≡ m.name → after ≡ insert_key bytes_eq keys name → after ++ names_of (map plain_model (drop (i + 1) models)) ≡ names_of (map plain_model models)
model_more keys after models i m name below d so_far is named inserted =
    rw inserted (rw none (append_assoc keys (name ∷ []) (names_of (map plain_model (drop (i + 1) models))) ∙ whole))
  where
    whole : keys ++ name ∷ names_of (map plain_model (drop (i + 1) models)) ≡ names_of (map plain_model models)
    whole = rw (named, add-one) (rw (drop-cons models i m, ← is) at so_far)

    none : list_any (bytes_eq name) keys ≡ false
    none = none_before keys name (names_of (map plain_model (drop (i + 1) models))) (subst Differ (sym whole) d)

pub ruleset model_laws = (model_more)

pub ruleset set_laws = (set_more)

either_way : (a b c : Bool) → (a || (b || c)) ≡ ((a || b) || c)
either_way true b c = refl
either_way false b c = refl

-- a name is among a set and one name more
among_more : (keys : List (List ℕ)) (one name : List ℕ) → is_among (insert_key bytes_eq keys one) name ≡ (is_among keys name || bytes_eq name one)
among_more keys one name = go (list_any (bytes_eq one) keys) refl
  where
    go : (b : Bool) → list_any (bytes_eq one) keys ≡ b → is_among (cond b keys (keys ++ one ∷ [])) name ≡ (is_among keys name || bytes_eq name one)
    go false e = list_any-append (bytes_eq name) keys (one ∷ []) ∙ ap (λ t. is_among keys name || t) (last (bytes_eq name one))
      where
        last : (t : Bool) → (t || false) ≡ t
        last true = refl
        last false = refl
    go true e = same (bytes_eq name one) refl
      where
        same : (t : Bool) → bytes_eq name one ≡ t → is_among keys name ≡ (is_among keys name || t)
        same false f = none (is_among keys name)
          where
            none : (t : Bool) → t ≡ (t || false)
            none true = refl
            none false = refl
        same true f =
            let there : is_among keys name ≡ true = ap (λ n. list_any (bytes_eq n) keys) ((bytes_eq-Decides name one).0 f) ∙ e in
            there ∙ sym (ap (λ t. t || true) there)

pub among_names : (before now after names : List (List ℕ)) (i : ℕ) (one name : List ℕ) → i < length names → one ≡ get_or names i one → is_among now name ≡ (is_among before name || is_among (take i names) name) → after ≡ insert_key bytes_eq now one → is_among after name ≡ (is_among before name || is_among (take (i + 1) names) name)
among_names before now after names i one name below is so_far inserted =
    ap (λ ks. is_among ks name) inserted ∙ (among_more now one name ∙ (ap (λ t. t || bytes_eq name one) so_far ∙ (sym (either_way (is_among before name) (is_among (take i names) name) (bytes_eq name one)) ∙ ap (λ t. is_among before name || t) (sym whole))))
  where
    whole : is_among (take (i + 1) names) name ≡ (is_among (take i names) name || bytes_eq name one)
    whole = ap (λ ns. is_among ns name) (take_more names i one below) ∙ (list_any-append (bytes_eq name) (take i names) (get_or names i one ∷ []) ∙ ap (λ t. is_among (take i names) name || t) (last (bytes_eq name (get_or names i one)) ∙ ap (bytes_eq name) (sym is)))
      where
        last : (t : Bool) → (t || false) ≡ t
        last true = refl
        last false = refl
