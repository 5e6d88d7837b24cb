-- First entries, and lists without one, as a loop over the list meets them.
use Rattle.std.proofs.Common.{◌≡◌, ℕ, zero, suc, ◌<◌, Bool, true, false, ◌⊎◌, inl, inr, List, [], ◌∷◌, ◌++◌, length, refl, sym, ap, ◌∙◌, arith, get_or}
use Rattle.std.proofs.lemmas.List.{append_assoc, same_from_push}
use Rattle.flat_net.specs.First.{HasNone, IsFirst}

abbrev pub End : {A : Type 0} → List A → Type 0
End {A} xs = (xs ≡ []) ⊎ ((front : List A) × (last : A) × (xs ≡ front ++ last ∷ []))

-- a list is empty or has a last entry
pub end_of : {A : Type 0} (xs : List A) → End xs
end_of [] = inl refl
end_of {A} (x ∷ xs) = inr (go (end_of xs))
  where
    go : End xs → (front : List A) × (last : A) × (x ∷ xs ≡ front ++ last ∷ [])
    go (inl e) = ([], x, ap (λ (ys : List A). x ∷ ys) e)
    go (inr (front, last, e)) = (x ∷ front, last, ap (λ (ys : List A). x ∷ ys) e)

module _ {A : Type 0} (test : List A → A → Bool) where
  pub none_nil : HasNone test []
  none_nil = record { none = λ before x after e. absurd (go before x after e) }
    where
      go : (before : List A) (x : A) (after : List A) → [] ≡ before ++ x ∷ after → ⊥
      go [] x after e = cc
      go (b ∷ before) x after e = cc

  -- one entry more
  pub none_push : (xs : List A) (x : A) → HasNone test xs → test xs x ≡ false → HasNone test (xs ++ x ∷ [])
  none_push xs x h fails = record { none = λ before y after e. go before y after e (end_of after) }
    where
      go : (before : List A) (y : A) (after : List A) → xs ++ x ∷ [] ≡ before ++ y ∷ after → End after → test before y ≡ false
      go before y after e (inl none) =
          let s = same_from_push xs before x y (e ∙ ap (λ (ys : List A). before ++ y ∷ ys) none) in
          cc
      go before y after e (inr (front, last, is)) =
          let f : xs ++ x ∷ [] ≡ (before ++ y ∷ front) ++ last ∷ [] = e ∙ (ap (λ (ys : List A). before ++ y ∷ ys) is ∙ sym (append_assoc before (y ∷ front) (last ∷ []))) in
          h.none before y front (same_from_push xs (before ++ y ∷ front) x last f).0

  pub first_here : (xs : List A) (x : A) (after : List A) → HasNone test xs → test xs x ≡ true → IsFirst test (xs ++ x ∷ after) x
  first_here xs x after h passes = record { before = xs; after = after; split = refl; earlier = h; passes = passes }

  -- more entries behind the first
  pub first_more : (xs ys : List A) (x : A) → IsFirst test xs x → IsFirst test (xs ++ ys) x
  first_more xs ys x f = record {
    before = f.before;
    after = f.after ++ ys;
    split = ap (λ (zs : List A). zs ++ ys) f.split ∙ append_assoc f.before (x ∷ f.after) ys;
    earlier = f.earlier;
    passes = f.passes;
  }

-- a test that does not look at the entries before
module _ {A : Type 0} (p : A → Bool) where
  pub none_append : (xs ys : List A) → HasNone (λ before x. p x) xs → HasNone (λ before x. p x) ys → HasNone (λ before x. p x) (xs ++ ys)
  none_append [] ys h k = k
  none_append (x ∷ xs) ys h k = record { none = go (none_append xs ys (record { none = λ front z back f. h.none (x ∷ front) z back (ap (λ (zs : List A). x ∷ zs) f) }) k) }
    where
      go : HasNone (λ before x. p x) (xs ++ ys) → (before : List A) (y : A) (after : List A) → x ∷ (xs ++ ys) ≡ before ++ y ∷ after → p y ≡ false
      go rest [] y after e = let s : x ≡ y = cc in rw (← s) (h.none [] x xs refl)
      go rest (b ∷ before) y after e =
          let tail : xs ++ ys ≡ before ++ y ∷ after = cc in
          rest.none before y after tail

  -- what stands before the first entry adds none
  pub first_after : (xs ys : List A) (x : A) → HasNone (λ before x. p x) xs → IsFirst (λ before x. p x) ys x → IsFirst (λ before x. p x) (xs ++ ys) x
  first_after xs ys x h f = record {
    before = xs ++ f.before;
    after = f.after;
    split = ap (λ (zs : List A). xs ++ zs) f.split ∙ sym (append_assoc xs f.before (x ∷ f.after));
    earlier = none_append xs f.before h f.earlier;
    passes = f.passes;
  }

  pub none_at : (xs : List A) (k : ℕ) (d : A) → HasNone (λ before x. p x) xs → k < length xs → p (get_or xs k d) ≡ false
  none_at [] k d h l = absurd (omega arith)
  none_at (x ∷ xs) zero d h l = h.none [] x xs refl
  none_at (x ∷ xs) (suc k) d h l = none_at xs k d (record { none = λ front z back f. h.none (x ∷ front) z back (ap (λ (zs : List A). x ∷ zs) f) }) (omega arith)
