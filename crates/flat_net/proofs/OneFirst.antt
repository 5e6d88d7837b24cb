-- A list has at most one first entry that passes a test.
use Rattle.std.proofs.Common.{◌≡◌, ◌⊎◌, Bool, inl, inr, List, [], ◌∷◌, ◌++◌, refl, sym, ◌∙◌}
use Rattle.flat_net.specs.First.{HasNone, IsFirst}

-- Two splits of one list: they are the same, or one of them splits what stands in front in the other.
abbrev pub Compared : {A : Type 0} → List A → List A → A → A → Type 0
Compared {A} b c x y = ((b ≡ c) × (x ≡ y)) ⊎ (((r : List A) × (c ≡ b ++ x ∷ r)) ⊎ ((r : List A) × (b ≡ c ++ y ∷ r)))

pub compared : {A : Type 0} (b c : List A) (x y : A) (s t : List A) → b ++ x ∷ s ≡ c ++ y ∷ t → Compared b c x y
compared [] [] x y s t e = inl (refl, cc)
compared [] (c ∷ cs) x y s t e = inr (inl (cs, cc))
compared (b ∷ bs) [] x y s t e = inr (inr (bs, cc))
compared {A} (b ∷ bs) (c ∷ cs) x y s t e = go (compared bs cs x y s t (cc))
  where
    same : b ≡ c
    same = cc

    go : Compared bs cs x y → Compared (b ∷ bs) (c ∷ cs) x y
    go (inl (f, g)) = inl (cc, g)
    go (inr (inl (r, f))) = inr (inl (r, cc))
    go (inr (inr (r, f))) = inr (inr (r, cc))

module _ {A : Type 0} (test : List A → A → Bool) (xs : List A) (x : A) (first : IsFirst test xs x) where
  pub none_first : HasNone test xs → ⊥
  none_first none = let no = none.none first.before x first.after first.split in let yes = first.passes in cc

  pub one_first : (y : A) → IsFirst test xs y → x ≡ y
  one_first y other = go (compared first.before other.before x y first.after other.after (sym first.split ∙ other.split))
    where
      go : Compared first.before other.before x y → x ≡ y
      go (inl (f, g)) = g
      go (inr (inl (r, f))) = let no = other.earlier.none first.before x r f in let yes = first.passes in absurd cc
      go (inr (inr (r, f))) = let no = first.earlier.none other.before y r f in let yes = other.passes in absurd cc
