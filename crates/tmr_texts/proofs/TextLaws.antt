-- Pieces and greatest numbers, one after the other.
use Rattle.std.proofs.Common.{◌≡◌, ℕ, ◌+◌, ◌<◌, ◌≤◌, max, List, [], ◌∷◌, ◌++◌, length, map, drop, get_or, refl, sym, ap, ◌∙◌, append_assoc, add-one, drop-cons, arith}
use Rattle.std.specs.Borrow.{Bor}
use Rattle.std.specs.Fmt.{decimal}
use Rattle.std.proofs.lemmas.List.{nil_from_length, length-drop, append-nil}
use Rattle.tmr_words.specs.FileWords.{read_words}
use Rattle.std.specs.Prelude.{codes}
use Rattle.tmr_words.specs.declared.topic.Topic.{Topic}
use Rattle.tmr_words.specs.Topics.{call_of}
use Rattle.tmr_texts.specs.Texts.{joined, greatest, usage_lines}
use Rattle.tmr_texts.specs.Reasons.{spaced}

next : {A : Type 0} (i : ℕ) (xs : List A) (d : A) → i < length xs → drop i xs ≡ get_or xs i d ∷ drop (i + 1) xs
next i xs d h = rw (add-one, drop-cons xs i d) refl

-- one piece more
pub piece_joined : (text : List ℕ) (pieces : List (Bor (List ℕ))) (i : ℕ) (d : Bor (List ℕ)) (whole : List ℕ) → i < length pieces → text ++ joined (read_words (drop i pieces)) ≡ whole → (text ++ (get_or pieces i d).now) ++ joined (read_words (drop (i + 1) pieces)) ≡ whole
piece_joined text pieces i d whole h e =
    append_assoc text (get_or pieces i d).now (joined (read_words (drop (i + 1) pieces)))
    ∙ (ap (λ (ps : List (Bor (List ℕ))). text ++ joined (read_words ps)) (sym (next i pieces d h)) ∙ e)

pub all_joined : (text : List ℕ) (pieces : List (Bor (List ℕ))) (i : ℕ) (whole : List ℕ) → length pieces ≤ i → text ++ joined (read_words (drop i pieces)) ≡ whole → text ≡ whole
all_joined text pieces i whole h e =
    let none : drop i pieces ≡ [] = nil_from_length (drop i pieces) (omega (arith, length-drop i pieces)) in
    sym (append-nil text) ∙ (ap (λ (ps : List (Bor (List ℕ))). text ++ joined (read_words ps)) (sym none) ∙ e)

-- one number more
pub number_seen : (most p : ℕ) (ds : List ℕ) (whole : ℕ) → p < length ds → max most (greatest (drop p ds)) ≡ whole → max (max most (get_or ds p 0)) (greatest (drop (p + 1) ds)) ≡ whole
number_seen most p ds whole h e =
    let here : greatest (drop p ds) ≡ max (get_or ds p 0) (greatest (drop (p + 1) ds)) = ap greatest (next p ds 0 h) in
    omega arith

pub all_seen : (most p : ℕ) (ds : List ℕ) (whole : ℕ) → length ds ≤ p → max most (greatest (drop p ds)) ≡ whole → most ≡ whole
all_seen most p ds whole h e =
    let none : drop p ds ≡ [] = nil_from_length (drop p ds) (omega (arith, length-drop p ds)) in
    let zero : greatest (drop p ds) ≡ 0 = ap greatest none in
    omega arith

pub ruleset pieces = (piece_joined, all_joined)

pub ruleset numbers = (number_seen, all_seen)

-- one name more
pub name_spaced : (text : List ℕ) (names : List (List ℕ)) (i : ℕ) (d : List ℕ) (whole : List ℕ) → i < length names → text ++ spaced (drop i names) ≡ whole → ((text ++ 32 ∷ []) ++ get_or names i d) ++ spaced (drop (i + 1) names) ≡ whole
name_spaced text names i d whole h e =
    append_assoc (text ++ 32 ∷ []) (get_or names i d) (spaced (drop (i + 1) names))
    ∙ (append_assoc text (32 ∷ []) (get_or names i d ++ spaced (drop (i + 1) names))
    ∙ (ap (λ (ns : List (List ℕ)). text ++ spaced ns) (sym (next i names d h)) ∙ e))

pub all_spaced : (text : List ℕ) (names : List (List ℕ)) (i : ℕ) (whole : List ℕ) → length names ≤ i → text ++ spaced (drop i names) ≡ whole → text ≡ whole
all_spaced text names i whole h e =
    let none : drop i names ≡ [] = nil_from_length (drop i names) (omega (arith, length-drop i names)) in
    sym (append-nil text) ∙ (ap (λ (ns : List (List ℕ)). text ++ spaced ns) (sym none) ∙ e)

pub ruleset names = (name_spaced, all_spaced)

-- one number more
pub number_spaced : (text : List ℕ) (numbers : List ℕ) (i d : ℕ) (whole : List ℕ) → i < length numbers → text ++ spaced (map decimal (drop i numbers)) ≡ whole → ((text ++ 32 ∷ []) ++ decimal (get_or numbers i d)) ++ spaced (map decimal (drop (i + 1) numbers)) ≡ whole
number_spaced text numbers i d whole h e =
    append_assoc (text ++ 32 ∷ []) (decimal (get_or numbers i d)) (spaced (map decimal (drop (i + 1) numbers)))
    ∙ (append_assoc text (32 ∷ []) (decimal (get_or numbers i d) ++ spaced (map decimal (drop (i + 1) numbers)))
    ∙ (ap (λ (ns : List ℕ). text ++ spaced (map decimal ns)) (sym (next i numbers d h)) ∙ e))

pub all_numbers_spaced : (text : List ℕ) (numbers : List ℕ) (i : ℕ) (whole : List ℕ) → length numbers ≤ i → text ++ spaced (map decimal (drop i numbers)) ≡ whole → text ≡ whole
all_numbers_spaced text numbers i whole h e =
    let none : drop i numbers ≡ [] = nil_from_length (drop i numbers) (omega (arith, length-drop i numbers)) in
    sym (append-nil text) ∙ (ap (λ (ns : List ℕ). text ++ spaced (map decimal ns)) (sym none) ∙ e)

pub ruleset spaced_numbers = (number_spaced, all_numbers_spaced)

-- one command more
pub call_put : (text head : List ℕ) (commands : List Topic) (i : ℕ) (d : Topic) (whole : List ℕ) → i < length commands → text ++ usage_lines head (drop i commands) ≡ whole → (text ++ (head ++ (call_of (get_or commands i d) ++ codes "\n"))) ++ usage_lines (codes "       tmr ") (drop (i + 1) commands) ≡ whole
call_put text head commands i d whole h e =
    append_assoc text (head ++ (call_of (get_or commands i d) ++ codes "\n")) (usage_lines (codes "       tmr ") (drop (i + 1) commands))
    ∙ (ap (λ (t : List ℕ). text ++ t) (append_assoc head (call_of (get_or commands i d) ++ codes "\n") (usage_lines (codes "       tmr ") (drop (i + 1) commands))
    ∙ ap (λ (t : List ℕ). head ++ t) (append_assoc (call_of (get_or commands i d)) (codes "\n") (usage_lines (codes "       tmr ") (drop (i + 1) commands))))
    ∙ (ap (λ (cs : List Topic). text ++ usage_lines head cs) (sym (next i commands d h)) ∙ e))

pub all_put : (text head : List ℕ) (commands : List Topic) (i : ℕ) (whole : List ℕ) → length commands ≤ i → text ++ usage_lines head (drop i commands) ≡ whole → text ≡ whole
all_put text head commands i whole h e =
    let none : drop i commands ≡ [] = nil_from_length (drop i commands) (omega (arith, length-drop i commands)) in
    sym (append-nil text) ∙ (ap (λ (cs : List Topic). text ++ usage_lines head cs) (sym none) ∙ e)

pub ruleset calls = (call_put, all_put)
