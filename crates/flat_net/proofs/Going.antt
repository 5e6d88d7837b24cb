-- A loop over elements: those that it has gone over, the next one, and those behind it.
use Rattle.std.proofs.Common.{◌≡◌, ℕ, ◌+◌, ◌<◌, true, false, List, [], ◌∷◌, ◌++◌, length, map, get_or, take, drop, sym, ap, subst, ◌∙◌}
use Rattle.std.proofs.lemmas.List.{map_more, append_assoc, map-append, take-append-drop, drop_more, take_more}
use Rattle.std.proofs.lemmas.Bool.{not_from_true, not_from_false}
use Rattle.flat_net.specs.First.{HasNone, IsFirst}
use Rattle.flat_net.specs.Draft.{Element, out_of}
use Rattle.flat_net.specs.Faults.{is_among, is_driven_before, is_no_net, number_in}
use Rattle.flat_net.proofs.Firsts.{none_push, first_here}

module _ {X Y : Type 0} (f : X → Y) (xs : List X) (i : ℕ) (x : X) (h : i < length xs) (is : x ≡ get_or xs i x) where
  pub one_more : map f (take (i + 1) xs) ≡ map f (take i xs) ++ f x ∷ []
  one_more = map_more f xs i x h ∙ ap (λ y. map f (take i xs) ++ f y ∷ []) (sym is)

  pub split_here : map f xs ≡ map f (take i xs) ++ f x ∷ map f (drop (i + 1) xs)
  split_here =
      ap (map f) (sym (take-append-drop i xs) ∙ ap (λ (ys : List X). take i xs ++ ys) (drop_more xs i x h ∙ ap (λ y. y ∷ drop (i + 1) xs) (sym is)))
      ∙ map-append f (take i xs) (x ∷ drop (i + 1) xs)

module _ {X : Type 0} (xs : List X) (i : ℕ) (x : X) (h : i < length xs) (is : x ≡ get_or xs i x) where
  pub taken_more : take (i + 1) xs ≡ take i xs ++ x ∷ []
  taken_more = take_more xs i x h ∙ ap (λ y. take i xs ++ y ∷ []) (sym is)

  pub taken_split : xs ≡ take i xs ++ x ∷ drop (i + 1) xs
  taken_split = sym (take-append-drop i xs) ∙ ap (λ (ys : List X). take i xs ++ ys) (drop_more xs i x h ∙ ap (λ y. y ∷ drop (i + 1) xs) (sym is))

-- numbers of the pins that a loop has gone over
module _ (keys : List (List ℕ)) (reads : List (List ℕ)) (i : ℕ) (x : List ℕ) (h : i < length reads) (is : x ≡ get_or reads i x) where
  pub pushed_pins : (first now next : List ℕ) → now ≡ first ++ map (number_in keys) (take i reads) → next ≡ now ++ number_in keys x ∷ [] → next ≡ first ++ map (number_in keys) (take (i + 1) reads)
  pushed_pins first now next n e =
      e ∙ (ap (λ (ys : List ℕ). ys ++ number_in keys x ∷ []) n
      ∙ (append_assoc first (map (number_in keys) (take i reads)) (number_in keys x ∷ [])
      ∙ ap (λ (ys : List ℕ). first ++ ys) (sym (ap (map (number_in keys)) (taken_more reads i x h is) ∙ map-append (number_in keys) (take i reads) (x ∷ [])))))

  pub pushed_nets : HasNone (is_no_net keys) (take i reads) → is_among keys x ≡ true → HasNone (is_no_net keys) (take (i + 1) reads)
  pushed_nets none net = rw (taken_more reads i x h is) (none_push (is_no_net keys) (take i reads) x none (not_from_true (is_among keys x) net))

  pub first_no_net : HasNone (is_no_net keys) (take i reads) → is_among keys x ≡ false → IsFirst (is_no_net keys) reads x
  first_no_net none net =
      let f : IsFirst (is_no_net keys) (take i reads ++ x ∷ drop (i + 1) reads) x = first_here (is_no_net keys) (take i reads) x (drop (i + 1) reads) none (not_from_false (is_among keys x) net) in
      subst (λ (ys : List (List ℕ)). IsFirst (is_no_net keys) ys x) (sym (taken_split reads i x h is)) f

module _ (old keys : List (List ℕ)) (done : List Element) (e : Element) (are : keys ≡ old ++ map out_of done) where
  pub pushed_names : (new : List (List ℕ)) (next : List Element) → new ≡ keys ++ out_of e ∷ [] → next ≡ done ++ e ∷ [] → new ≡ old ++ map out_of next
  pushed_names new next n s =
      n ∙ (ap (λ (ks : List (List ℕ)). ks ++ out_of e ∷ []) are ∙ (append_assoc old (map out_of done) (out_of e ∷ []) ∙ ap (λ (ks : List (List ℕ)). old ++ ks) (sym (map-append out_of done (e ∷ [])) ∙ ap (map out_of) (sym s))))

  pub pushed_once : (next : List Element) → HasNone (is_driven_before old) done → is_among keys (out_of e) ≡ false → next ≡ done ++ e ∷ [] → HasNone (is_driven_before old) next
  pushed_once next once new s = rw s (none_push (is_driven_before old) done e once (rw are at new))

  pub doubled : (all after : List Element) → HasNone (is_driven_before old) done → is_among keys (out_of e) ≡ true → all ≡ done ++ e ∷ after → IsFirst (is_driven_before old) all e
  doubled all after once again s = rw s (first_here (is_driven_before old) done e after once (rw are at again))
