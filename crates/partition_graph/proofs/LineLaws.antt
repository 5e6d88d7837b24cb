-- Lines of a picture, one after the other.
use Rattle.std.proofs.Common.{◌≡◌, ℕ, ◌+◌, List, [], ◌++◌, sym, ap, ◌∙◌, append_assoc}
use Rattle.std.specs.List.{flat_map, range_with_len}
use Rattle.std.proofs.lemmas.List.{flat_map_more}
use Rattle.partition_graph.proofs.MeetLaws.{range_more}

-- the line of one number more
pub line_more : (f : ℕ → List ℕ) (i : ℕ) (first old new : List ℕ) → old ≡ first ++ flat_map f (range_with_len 0 i) → new ≡ old ++ f i → new ≡ first ++ flat_map f (range_with_len 0 (i + 1))
line_more f i first old new before more =
    more ∙ (ap (λ (t : List ℕ). t ++ f i) before ∙ (flat_map_more f first (range_with_len 0 i) i ∙ ap (λ (xs : List ℕ). first ++ flat_map f xs) (sym (range_more i))))

-- five pieces of a text
pub five_put : (a b c d e p q r s t : List ℕ) → a ≡ [] ++ p → b ≡ a ++ q → c ≡ b ++ r → d ≡ c ++ s → e ≡ d ++ t → e ≡ p ++ (q ++ (r ++ (s ++ t)))
five_put a b c d e p q r s t ea eb ec ed ee =
    ee ∙ (ap (λ (x : List ℕ). x ++ t) (ed ∙ ap (λ (x : List ℕ). x ++ s) (ec ∙ ap (λ (x : List ℕ). x ++ r) (eb ∙ ap (λ (x : List ℕ). x ++ q) ea))) ∙ regroup p q r s t)
  where
    regroup : (p q r s t : List ℕ) → (((p ++ q) ++ r) ++ s) ++ t ≡ p ++ (q ++ (r ++ (s ++ t)))
    regroup p q r s t = simp (append_assoc)
