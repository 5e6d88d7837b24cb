-- Depths that are raised to a label more, and labels with one node more.
use Rattle.std.proofs.Common.{◌≡◌, ◌≢◌, ℕ, ◌+◌, ◌-◌, ◌<◌, ◌≤◌, ◌⊎◌, inl, inr, List, [], ◌∷◌, ◌++◌, length, length-append, get_or, set, map, max, All, sym, ap, subst, ◌∙◌, arith}
use Rattle.std.proofs.lemmas.Bool.{cases_lt}
use Rattle.std.proofs.lemmas.List.{get_or-set_same, get_or-set_other, get_or_past, get_or_push, get_or_append_left, length-set, map-append}
use Rattle.std.proofs.lemmas.List.Elements.{All-from_get_or, All-push}
use Rattle.certifying.specs.Private.Bare.{AreSmall}
use Rattle.tmr_base.specs.declared.copies.CopyNo.{CopyNo}
use Rattle.tmr_base.specs.Copies.{Three, of_copy}
use Rattle.flat_net.specs.Net.{Net}
use Rattle.certificate.specs.Threes.{three_of}
use Rattle.certificate.specs.Cert.{PlainCert, copy_of}
use Rattle.certifying.specs.Private.Depths.{three_at, no_three, IsAbove, AreDepths}
use Rattle.certifying.specs.Private.Labels.{AreReached, AreBelow}
use Rattle.certifying.proofs.ForestLaws.{same_or_not}

-- the entry of a list of which one is written
pub set_within : (xs : List ℕ) (p v q bound : ℕ) → (q ≡ p → v ≤ bound) → (q ≢ p → get_or xs q 0 ≤ bound) → get_or (set xs p v) q 0 ≤ bound
set_within xs p v q bound small rest = go (same_or_not q p) (cases_lt p (length xs))
  where
    go : (q ≡ p) ⊎ (q ≢ p) → (p < length xs) ⊎ (length xs ≤ p) → get_or (set xs p v) q 0 ≤ bound
    go (inl e) (inl l) = let at : get_or (set xs p v) q 0 ≡ v = ap (λ (z : ℕ). get_or (set xs p v) z 0) e ∙ get_or-set_same xs p v 0 l in omega (arith, at, small e)
    go (inl e) (inr l) = let at : get_or (set xs p v) q 0 ≡ 0 = get_or_past (set xs p v) q 0 (omega (arith, l, e, length-set xs p v)) in omega (arith, at)
    go (inr d) any = let at : get_or (set xs p v) q 0 ≡ get_or xs q 0 = get_or-set_other xs p q v 0 d in omega (arith, at, rest d)

-- the greatest label of node i raises the depth of its partition
pub raised : (numbers : List ℕ) (threes : List Three) (depths : List ℕ) (i p old top new : ℕ) → AreDepths numbers threes depths → i < length numbers → p ≡ get_or numbers i 0 → old ≡ get_or depths p 0
    → ((e : ℕ) → IsAbove threes i e → top ≤ e) → new ≡ max old top → AreDepths numbers threes (set depths p new)
raised numbers threes depths i p old top new are within number value most is = record { parts = parts; nodes = nodes }
  where
    parts : (d : ℕ → ℕ) → ((j : ℕ) → j < length numbers → IsAbove threes j (d (get_or numbers j 0))) → (q : ℕ) → get_or (set depths p new) q 0 ≤ d q
    parts d above q = set_within depths p new q (d q) small (λ _. are.parts d above q)
      where
        small : q ≡ p → new ≤ d q
        small e =
            let here : d q ≡ d (get_or numbers i 0) = ap d (e ∙ number) in
            let there : d q ≡ d p = ap d e in
            omega (arith, most (d (get_or numbers i 0)) (above i within), are.parts d above p, here, there, value, is)

    nodes : (e : ℕ → ℕ) → ((j : ℕ) → j < length numbers → IsAbove threes j (e j)) → ((j k : ℕ) → j < length numbers → k < length numbers → get_or numbers j 0 ≡ get_or numbers k 0 → e j ≡ e k) → (j : ℕ) → j < length numbers → get_or (set depths p new) (get_or numbers j 0) 0 ≤ e j
    nodes e above alike j l = set_within depths p new (get_or numbers j 0) (e j) small (λ _. are.nodes e above alike j l)
      where
        small : get_or numbers j 0 ≡ p → new ≤ e j
        small same =
            let equal : e j ≡ e i = alike j i l within (same ∙ number) in
            let at : get_or depths (get_or numbers j 0) 0 ≡ get_or depths p 0 = ap (λ (z : ℕ). get_or depths z 0) same in
            omega (arith, most (e i) (above i within), are.nodes e above alike j l, equal, at, value, is)

-- no depths yet
pub no_depths : (numbers : List ℕ) (threes : List Three) (depths : List ℕ) → ((q : ℕ) → get_or depths q 0 ≡ 0) → AreDepths numbers threes depths
no_depths numbers threes depths zero = record {
  parts = λ d above q. omega (arith, zero q);
  nodes = λ e above alike j l. omega (arith, zero (get_or numbers j 0));
}

-- a label that is below each that is reached
pub below_set : (h : Net) (k : PlainCert) (labels : List ℕ) (i label : ℕ) → AreBelow h k labels → ((l : ℕ → ℕ) → AreReached h k l → label ≤ l (length h.inputs + i)) → AreBelow h k (set labels i label)
below_set h k labels i label below small l reached j within =
    set_within labels i label j (l (length h.inputs + j)) (λ e. let here : l (length h.inputs + i) ≡ l (length h.inputs + j) = ap (λ (z : ℕ). l (length h.inputs + z)) (sym e) in omega (arith, small l reached, here)) (λ _. below l reached j (omega (arith, within, length-set labels i label)))

-- the labels of one node more
module _ (n h : Net) (k : PlainCert) (labels : List ℕ) (threes more : List (List ℕ)) (three : List ℕ) (i : ℕ) (long : length (map three_of threes) ≡ i) (is : more ≡ threes ++ three ∷ []) where
  mapped : map three_of more ≡ map three_of threes ++ three_of three ∷ []
  mapped = ap (map three_of) is ∙ map-append three_of threes (three ∷ [])

  pub more_long : length (map three_of more) ≡ i + 1
  more_long = ap length mapped ∙ (length-append (map three_of threes) (three_of three ∷ []) ∙ omega (arith, long))

  pub more_each : ((j : ℕ) → j < i → (c : CopyNo) → of_copy (three_at (map three_of threes) j) c ≡ get_or labels (copy_of k (length n.inputs + j) c - length h.inputs) 0)
      → ((c : CopyNo) → of_copy (three_of three) c ≡ get_or labels (copy_of k (length n.inputs + i) c - length h.inputs) 0)
      → (j : ℕ) → j < i + 1 → (c : CopyNo) → of_copy (three_at (map three_of more) j) c ≡ get_or labels (copy_of k (length n.inputs + j) c - length h.inputs) 0
  more_each each last j l c = ap (λ (ts : List Three). of_copy (get_or ts j no_three) c) mapped ∙ go (cases_lt j i)
    where
      go : (j < i) ⊎ (i ≤ j) → of_copy (get_or (map three_of threes ++ three_of three ∷ []) j no_three) c ≡ get_or labels (copy_of k (length n.inputs + j) c - length h.inputs) 0
      go (inl m) = ap (λ (t : Three). of_copy t c) (get_or_append_left (map three_of threes) (three_of three ∷ []) no_three j (omega (arith, m, long))) ∙ each j m c
      go (inr m) =
          let here : i ≡ j = omega (arith, m, l) in
          ap (λ (t : Three). of_copy t c) (get_or_push (map three_of threes) (three_of three) no_three j (omega (arith, long, here))) ∙ (last c ∙ ap (λ (z : ℕ). get_or labels (copy_of k (length n.inputs + z) c - length h.inputs) 0) here)

  pub more_small : All AreSmall (map three_of threes) → AreSmall (three_of three) → All AreSmall (map three_of more)
  more_small small last = subst (All AreSmall) (sym mapped) (All-push AreSmall (map three_of threes) (three_of three) small last)

-- each number stays small
pub small_set : (xs : List ℕ) (p v : ℕ) → All (λ d. d < 4294967296) xs → v < 4294967296 → All (λ d. d < 4294967296) (set xs p v)
small_set xs p v small fits = All-from_get_or (λ d. d < 4294967296) (set xs p v) 0 each
  where
    each : (i : ℕ) → i < length (set xs p v) → get_or (set xs p v) i 0 < 4294967296
    each i l =
        let most : get_or (set xs p v) i 0 ≤ 4294967295 = set_within xs p v i 4294967295 (λ _. omega (arith, fits)) (λ _. omega (arith, small i 0 (omega (arith, l, length-set xs p v)))) in
        omega (arith, most)
