-- Registers read backwards, and the lists of chains.
use Rattle.std.proofs.Common.{◌≡◌, ℕ, zero, suc, ◌<◌, ◌⊎◌, Bool, true, List, [], ◌∷◌, ◌++◌, length, map, reverse, refl, sym, ◌∙◌, ap, subst, inl, inr, arith, length-append, append_assoc, Some}
use Rattle.std.specs.Prelude.{cond, slice_get}
use Rattle.std.proofs.lemmas.List.{map-append, reverse-append}
use Rattle.flat_net.specs.Nodes.{number_of}
use Rattle.tmr_base.specs.declared.ids.NetId.{NetId}
use Rattle.certificate.proofs.Validity.{push_read}
use Rattle.graph.specs.Rows.{Follows}
use Rattle.recovery_depth.specs.declared.depth_and_chain.Deep.{Deep}
use Rattle.recovery_depth.specs.Walks.{Walk, starts, is_marked}
use Rattle.recovery_depth.specs.Private.Vertices.{one_if, marked}
use Rattle.recovery_depth.specs.Private.LastRegisters.{number_at, IsBefore, AreBefore}
use Rattle.recovery_depth.specs.Private.ChainEnds.{walked, IsRead, AreRead}

pub length_walked : (before : List ℕ) (d x : ℕ) → length (walked before d x) ≡ d
unfolding walked
length_walked before zero x = refl
length_walked before (suc d) x = omega (arith, length-append (walked before d (number_at before x)) (x ∷ []), length_walked before d (number_at before x))

-- one register more is read
pub walked_more : (before originals : List ℕ) (n m x : ℕ) (whole rest : List ℕ) → n ≡ suc m → whole ≡ map (number_at originals) (walked before n x) ++ rest → whole ≡ map (number_at originals) (walked before m (number_at before x)) ++ (number_at originals x ∷ rest)
unfolding walked
walked_more before originals n m x whole rest e is =
    (is ∙ ap (λ (k : ℕ). map (number_at originals) (walked before k x) ++ rest) e)
    ∙ (ap (λ ys. ys ++ rest) (map-append (number_at originals) (walked before m (number_at before x)) (x ∷ []))
    ∙ append_assoc (map (number_at originals) (walked before m (number_at before x))) (number_at originals x ∷ []) rest)

pub walked_none : (before : List ℕ) (n x : ℕ) → n ≡ 0 → walked before n x ≡ []
unfolding walked
walked_none before n x e = ap (λ (k : ℕ). walked before k x) e

pub reversed_push : (xs : List NetId) (y : NetId) → map number_of (reverse (xs ++ y ∷ [])) ≡ number_of y ∷ map number_of (reverse xs)
reversed_push xs y = ap (map number_of) (reverse-append xs (y ∷ []))

-- the registers before a register make a walk that ends in it
pub walked_walk : (rows : List (List ℕ)) (bits : List Bool) (reaches before : List ℕ) → AreBefore rows bits reaches before → (d x : ℕ) → x < length rows → is_marked bits x ≡ true → number_at reaches x ≡ suc d → Walk (Follows rows) (marked bits) x (walked before (suc d) x)
unfolding walked
walked_walk rows bits reaches before known zero x l register e = subst (Walk (Follows rows) (marked bits) x) (ap (λ b. cond b (x ∷ []) []) register) (starts x)
walked_walk rows bits reaches before known (suc m) x l register e =
    let own : marked bits x ≡ x ∷ [] = ap (λ b. cond b (x ∷ []) []) register in
    let one : one_if (is_marked bits x) ≡ 1 = ap one_if register in
    let b : IsBefore rows bits reaches x (number_at before x) = known x l (omega (arith, one, e)) in
    let w : Walk (Follows rows) (marked bits) (number_at before x) (walked before (suc m) (number_at before x)) = walked_walk rows bits reaches before known m (number_at before x) b.vertex b.register (omega (arith, b.reach, one, e)) in
    subst (λ r. Walk (Follows rows) (marked bits) x (walked before (suc m) (number_at before x) ++ r)) own (b.joins (walked before (suc m) (number_at before x)) w)

pub one_read : (before originals ends depths : List ℕ) (deeps : List Deep) (k : ℕ) (new : Deep) → length deeps ≡ k → AreRead before originals ends depths deeps → IsRead before originals ends depths k new → AreRead before originals ends depths (deeps ++ new ∷ [])
one_read before originals ends depths deeps k new long all here p d e = go (push_read deeps new d p e)
  where
    go : (slice_get deeps p ≡ Some d) ⊎ ((p ≡ length deeps) × (new ≡ d)) → IsRead before originals ends depths p d
    go (inl f) = all p d f
    go (inr f) = subst (IsRead before originals ends depths p) f.1 (subst (λ (q : ℕ). IsRead before originals ends depths q new) (sym (f.0 ∙ long)) here)
