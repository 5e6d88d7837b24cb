-- Pieces that are put one behind the other.
use Rattle.std.proofs.Common.{◌≡◌, ℕ, ◌+◌, ◌<◌, ◌≤◌, List, ◌++◌, length, drop, get_or, sym, ap, ◌∙◌, append_assoc}
use Rattle.std.proofs.lemmas.List.{append-nil, drop_all, drop_more}
use Rattle.std.specs.Borrow.{Bor}
use Rattle.std.specs.List.{concat}
use Rattle.certificate.specs.Plain.{texts}

-- one piece more
pub piece_joined : (text : List ℕ) (pieces : List (Bor (List ℕ))) (i : ℕ) (d : Bor (List ℕ)) (whole : List ℕ) → i < length pieces → text ++ concat (texts (drop i pieces)) ≡ whole → (text ++ (get_or pieces i d).now) ++ concat (texts (drop (i + 1) pieces)) ≡ whole
piece_joined text pieces i d whole h e =
    append_assoc text (get_or pieces i d).now (concat (texts (drop (i + 1) pieces)))
    ∙ (ap (λ (ps : List (Bor (List ℕ))). text ++ concat (texts ps)) (sym (drop_more pieces i d h)) ∙ e)

pub all_joined : (text : List ℕ) (pieces : List (Bor (List ℕ))) (i : ℕ) (whole : List ℕ) → length pieces ≤ i → text ++ concat (texts (drop i pieces)) ≡ whole → text ≡ whole
all_joined text pieces i whole h e = sym (append-nil text) ∙ (ap (λ (ps : List (Bor (List ℕ))). text ++ concat (texts ps)) (sym (drop_all i pieces h)) ∙ e)

pub ruleset pieces = (piece_joined, all_joined)
