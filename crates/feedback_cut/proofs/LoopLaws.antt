-- Which groups have a loop, one vertex more at a time.
use Rattle.std.proofs.Common.{◌≡◌, ◌≢◌, ℕ, ◌+◌, ◌<◌, ◌≤◌, ◌⊎◌, Bool, true, false, List, length, get_or, set, replicate, sym, ◌∙◌, ap, subst, inl, inr, arith}
use Rattle.std.proofs.lemmas.Bool.{cases_eq, cases_lt}
use Rattle.std.proofs.lemmas.List.{get_or-set_same, get_or-set_other, get_or_past, get_or-replicate, length-set, length-replicate}
use Rattle.graph.specs.Rows.{row}
use Rattle.feedback_cut.specs.Private.Loops.{ReadsOwn, AreLooped}
use Rattle.graph.proofs.Decisions.{no_absurd}

later : (y k : ℕ) → y < k + 1 → (y ≡ k) ⊎ (y < k)
later y k h = go (cases_eq y k)
  where
    go : (y ≡ k) ⊎ (y ≡ k → ⊥) → (y ≡ k) ⊎ (y < k)
    go (inl e) = inl e
    go (inr ne) = inr (omega (arith, ne))

pub none_looped : (rows : List (List ℕ)) (numbers : List ℕ) (groups : ℕ) (loops : List Bool) → loops ≡ replicate groups false → AreLooped rows numbers groups 0 loops
none_looped rows numbers groups loops e = rw e (record {
  long = length-replicate groups false;
  only = λ g t. absurd (no_absurd (sym t ∙ never g));
  all = λ y l own. absurd (omega arith);
})
  where
    never : (g : ℕ) → get_or (replicate groups false) g false ≡ false
    never g = go (cases_lt g groups)
      where
        go : (g < groups) ⊎ (groups ≤ g) → get_or (replicate groups false) g false ≡ false
        go (inl l) = get_or-replicate groups g false false l
        go (inr l) = get_or_past (replicate groups false) g false (omega (arith, length-replicate groups false))

module _ (rows : List (List ℕ)) (numbers : List ℕ) (groups k : ℕ) (loops : List Bool) (a : AreLooped rows numbers groups k loops) where
  earlier : (g : ℕ) → (y : ℕ) × (y < k) × (get_or numbers y 0 ≡ g) × ReadsOwn rows numbers y → (y : ℕ) × (y < k + 1) × (get_or numbers y 0 ≡ g) × ReadsOwn rows numbers y
  earlier g (y, l, e, own) = (y, omega (arith, l), e, own)

  pub no_own : (ReadsOwn rows numbers k → ⊥) → AreLooped rows numbers groups (k + 1) loops
  no_own none = record {
    long = a.long;
    only = λ g t. earlier g (a.only g t);
    all = λ y l own. go y own (later y k l);
  }
    where
      go : (y : ℕ) → ReadsOwn rows numbers y → (y ≡ k) ⊎ (y < k) → get_or loops (get_or numbers y 0) false ≡ true
      go y own (inl e) = absurd (none (subst (ReadsOwn rows numbers) e own))
      go y own (inr l) = a.all y l own

  pub one_own : (g : ℕ) (loops' : List Bool) → get_or numbers k 0 ≡ g → g < groups → ReadsOwn rows numbers k → loops' ≡ set loops g true → AreLooped rows numbers groups (k + 1) loops'
  one_own g loops' at within own e = rw e (record {
    long = length-set loops g true ∙ a.long;
    only = λ m t. only m t (cases_eq m g);
    all = λ y l o. all y o (later y k l) (cases_eq (get_or numbers y 0) g);
  })
    where
      only : (m : ℕ) → get_or (set loops g true) m false ≡ true → (m ≡ g) ⊎ (m ≡ g → ⊥) → (y : ℕ) × (y < k + 1) × (get_or numbers y 0 ≡ m) × ReadsOwn rows numbers y
      only m t (inl f) = (k, omega arith, at ∙ sym f, own)
      only m t (inr ne) = earlier m (a.only m (sym (get_or-set_other loops g m true false ne) ∙ t))

      all : (y : ℕ) → ReadsOwn rows numbers y → (y ≡ k) ⊎ (y < k) → (get_or numbers y 0 ≡ g) ⊎ (get_or numbers y 0 ≡ g → ⊥) → get_or (set loops g true) (get_or numbers y 0) false ≡ true
      all y o w (inl f) = ap (λ m. get_or (set loops g true) m false) f ∙ get_or-set_same loops g true false (omega (arith, a.long, within))
      all y o (inl f) (inr ne) = absurd (ne (ap (λ z. get_or numbers z 0) f ∙ at))
      all y o (inr l) (inr ne) = get_or-set_other loops g (get_or numbers y 0) true false ne ∙ a.all y l o

-- no place of the row before i names a vertex of the same number
abbrev pub HasNone : List ℕ → List ℕ → ℕ → ℕ → Type 0
HasNone reads numbers y i = (j : ℕ) → j < i → get_or reads j 0 < length numbers → get_or numbers (get_or reads j 0) 0 ≢ get_or numbers y 0

pub one_more_none : (reads numbers : List ℕ) (y i x : ℕ) → HasNone reads numbers y i → get_or reads i 0 ≡ x → (x < length numbers → get_or numbers x 0 ≢ get_or numbers y 0) → HasNone reads numbers y (i + 1)
one_more_none reads numbers y i x h at none j l v e = go (later j i l)
  where
    go : (j ≡ i) ⊎ (j < i) → ⊥
    go (inr m) = h j m v e
    go (inl f) =
        let same : get_or reads j 0 ≡ x = ap (λ p. get_or reads p 0) f ∙ at in
        none (omega (arith, same, v)) (ap (λ z. get_or numbers z 0) (sym same) ∙ e)

pub none_own : (rows : List (List ℕ)) (numbers : List ℕ) (y i : ℕ) (reads : List ℕ) → reads ≡ row rows y → length numbers ≡ length rows → HasNone reads numbers y i → length reads ≤ i → ReadsOwn rows numbers y → ⊥
none_own rows numbers y i reads e long h l own =
    let f = own.follows in
    let at : get_or reads f.place 0 ≡ own.read = ap (λ r. get_or r f.place 0) e ∙ f.is in
    h f.place (omega (arith, ap length e, f.within, l)) (omega (arith, at, long, f.vertex)) (ap (λ z. get_or numbers z 0) at ∙ own.same)

pub some_own : (rows : List (List ℕ)) (numbers : List ℕ) (y i x : ℕ) (reads : List ℕ) → reads ≡ row rows y → length numbers ≡ length rows → i < length reads → get_or reads i 0 ≡ x → x < length numbers → get_or numbers x 0 ≡ get_or numbers y 0 → ReadsOwn rows numbers y
some_own rows numbers y i x reads e long l at v same = record {
  read = x;
  follows = record { place = i; within = omega (arith, ap length e, l); is = ap (λ r. get_or r i 0) (sym e) ∙ at; vertex = omega (arith, v, long) };
  same = same;
}
