-- The marks of a design, piece by piece.
use Rattle.std.proofs.Common.{◌≡◌, ℕ, ◌+◌, Bool, false, List, [], ◌∷◌, ◌++◌, length, map, replicate, refl, sym, ap, ◌∙◌, append_assoc}
use Rattle.std.proofs.lemmas.List.{length-map}
use Rattle.aag_text.specs.declared.aig.Literal.{Literal}
use Rattle.aag_text.specs.declared.aig.Latch.{Latch}
use Rattle.aag_text.specs.declared.aig.Gate.{Gate}
use Rattle.aag_text.specs.Aig.{PlainAig}
use Rattle.aag_design.specs.Draft.{map_from, starts_free, aig_marks}

without_numbers : {A B : Type 0} (f : A → B) (k : ℕ) (xs : List A) → map_from (λ i x. f x) k xs ≡ map f xs
without_numbers f k [] = refl
without_numbers f k (x ∷ xs) = ap (λ (ys : List _). f x ∷ ys) (without_numbers f (k + 1) xs)

no_marks : {A : Type 0} (xs : List A) → map (λ x. false) xs ≡ replicate (length xs) false
no_marks [] = refl
no_marks (x ∷ xs) = ap (λ (bs : List Bool). false ∷ bs) (no_marks xs)

no_marks_from : {A : Type 0} (k : ℕ) (xs : List A) → map_from (λ i x. false) k xs ≡ replicate (length xs) false
no_marks_from k [] = refl
no_marks_from k (x ∷ xs) = ap (λ (bs : List Bool). false ∷ bs) (no_marks_from (k + 1) xs)

pub marks_join : (a : PlainAig) (m0 m1 m2 m3 m4 m5 : List Bool) → m0 ≡ [] → m1 ≡ m0 ++ false ∷ [] → m2 ≡ m1 ++ map (λ (l : Latch). starts_free l.start) a.latches → m3 ≡ m2 ++ replicate (length a.gates) false
    → m4 ≡ m3 ++ replicate (length a.latches) false → m5 ≡ m4 ++ replicate (length a.outputs) false → m5 ≡ aig_marks a
unfolding aig_marks
marks_join a m0 m1 m2 m3 m4 m5 e0 e1 e2 e3 e4 e5 =
    let frees : List Bool = map (λ (l : Latch). starts_free l.start) a.latches in
    let s1 : m1 ≡ false ∷ [] = e1 ∙ ap (λ (m : List Bool). m ++ false ∷ []) e0 in
    let s5 : m5 ≡ m3 ++ (replicate (length a.latches) false ++ replicate (length a.outputs) false) = e5 ∙ (ap (λ (m : List Bool). m ++ replicate (length a.outputs) false) e4 ∙ append_assoc m3 (replicate (length a.latches) false) (replicate (length a.outputs) false)) in
    let s3 : m5 ≡ m2 ++ (replicate (length a.gates) false ++ (replicate (length a.latches) false ++ replicate (length a.outputs) false)) = s5 ∙ (ap (λ (m : List Bool). m ++ (replicate (length a.latches) false ++ replicate (length a.outputs) false)) e3 ∙ append_assoc m2 (replicate (length a.gates) false) (replicate (length a.latches) false ++ replicate (length a.outputs) false)) in
    let s2 : m5 ≡ false ∷ (frees ++ (replicate (length a.gates) false ++ (replicate (length a.latches) false ++ replicate (length a.outputs) false))) =
    s3 ∙ (ap (λ (m : List Bool). m ++ (replicate (length a.gates) false ++ (replicate (length a.latches) false ++ replicate (length a.outputs) false))) (e2 ∙ ap (λ (m : List Bool). m ++ frees) s1)) in
    let nexts : map_from (λ j (l : Literal). false) 0 (map (λ (l : Latch). l.next) a.latches) ≡ replicate (length a.latches) false = no_marks_from 0 (map (λ (l : Latch). l.next) a.latches) ∙ ap (λ (n : ℕ). replicate n false) (length-map a.latches (λ (l : Latch). l.next)) in
    s2
    ∙ (ap (λ (f : List Bool). false ∷ (f ++ (replicate (length a.gates) false ++ (replicate (length a.latches) false ++ replicate (length a.outputs) false)))) (sym (without_numbers (λ (l : Latch). starts_free l.start) 0 a.latches))
    ∙ (ap (λ (g : List Bool). false ∷ (map_from (λ j (l : Latch). starts_free l.start) 0 a.latches ++ (g ++ (replicate (length a.latches) false ++ replicate (length a.outputs) false)))) (sym (no_marks a.gates))
    ∙ (ap (λ (n : List Bool). false ∷ (map_from (λ j (l : Latch). starts_free l.start) 0 a.latches ++ (map (λ (g : Gate). false) a.gates ++ (n ++ replicate (length a.outputs) false)))) (sym nexts)
    ∙ ap (λ (o : List Bool). false ∷ (map_from (λ j (l : Latch). starts_free l.start) 0 a.latches ++ (map (λ (g : Gate). false) a.gates ++ (map_from (λ j (l : Literal). false) 0 (map (λ (l : Latch). l.next) a.latches) ++ o)))) (sym (no_marks_from 0 a.outputs)))))
