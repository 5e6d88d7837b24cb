-- Lines of the first failures, and how many more there are.
use Rattle.std.proofs.lemmas.Option.{get_or_from_slice_get, unwrap_or-slice_get}
use Rattle.std.specs.Option.{unwrap_or}
use Rattle.std.proofs.Common.{Option, Some, None, slice_get, add-one, min, ◌≡◌, ℕ, ◌+◌, ◌-◌, ◌<◌, ◌≤◌, ◌⊎◌, inl, inr, List, [], ◌∷◌, ◌++◌, length, take, sym, ap, ◌∙◌, arith}
use Rattle.std.proofs.lemmas.Bool.Decides.{nat_tests}
use Rattle.std.proofs.lemmas.List.{append-nil, take_all, take-append-le, length_push, take_min}
use Rattle.std.proofs.lemmas.List.Concat.{flat_map-append}
use Rattle.std.specs.Prelude.{slice_index_or}
use Rattle.std.specs.List.{flat_map}
use Rattle.explaining.specs.Explained.{more_line}
use Rattle.explaining.specs.Private.Found.{shown}

pub not_shown : (before : ℕ) (line text : List ℕ) → 100 ≤ before → text ≡ text ++ shown before line
not_shown before line text h =
    let no : shown before line ≡ [] = grind (arith, nat_tests) in
    sym (append-nil text) ∙ ap (λ (t : List ℕ). text ++ t) (sym no)

pub is_shown : (before : ℕ) (line : List ℕ) → before < 100 → shown before line ≡ line
is_shown before line h = grind (arith, nat_tests)

-- one failure more
pub next_shown : {A : Type 0} (f : A → List ℕ) (xs : List A) (x : A) (text new : List ℕ) (count : ℕ) → text ≡ flat_map f (take 100 xs) → count ≡ length xs → new ≡ text ++ shown count (f x) → new ≡ flat_map f (take 100 (xs ++ x ∷ []))
next_shown f xs x text new count is counts put = go (cases (length xs) 100)
  where
    cases : (a b : ℕ) → (a < b) ⊎ (b ≤ a)
    cases a b = grind arith

    go : (length xs < 100) ⊎ (100 ≤ length xs) → new ≡ flat_map f (take 100 (xs ++ x ∷ []))
    go (inl few) =
        let line : shown count (f x) ≡ f x = is_shown count (f x) (omega (arith, counts)) in
        let all : take 100 xs ≡ xs = take_all 100 xs (omega arith) in
        let more : take 100 (xs ++ x ∷ []) ≡ xs ++ x ∷ [] = take_all 100 (xs ++ x ∷ []) (omega (arith, length_push xs x)) in
        put ∙ (ap (λ (t : List ℕ). text ++ t) line ∙ (ap (λ (t : List ℕ). t ++ f x) (is ∙ ap (flat_map f) all)
        ∙ (ap (λ (t : List ℕ). flat_map f xs ++ t) (sym (append-nil (f x))) ∙ (sym (flat_map-append f xs (x ∷ [])) ∙ ap (flat_map f) (sym more)))))
    go (inr many) =
        let same : text ≡ text ++ shown count (f x) = not_shown count (f x) text (omega (arith, counts)) in
        put ∙ (sym same ∙ (is ∙ ap (flat_map f) (sym (take-append-le 100 xs (x ∷ []) many))))

pub no_more : (count : ℕ) (text : List ℕ) → count ≤ 100 → text ≡ text ++ more_line (count - 100)
no_more count text h =
    let none : more_line (count - 100) ≡ [] = ap more_line (let z : count - 100 ≡ 0 = omega arith in z) in
    sym (append-nil text) ∙ ap (λ (t : List ℕ). text ++ t) (sym none)

-- the line with a number, counted from 1
pub line_shown : (lines : List (List ℕ)) (number index cut : ℕ) (line : List ℕ) → Some line ≡ slice_get lines index → number ≡ index + 1 → cut ≡ min (length line) 200 → take cut line ≡ take 200 (slice_index_or ([] ∷ lines) number [])
line_shown lines number index cut line is at short =
    let whole : take cut line ≡ take 200 line = ap (λ m. take m line) (let m : cut ≡ min 200 (length line) = omega arith in m) ∙ take_min 200 line in
    let there : slice_index_or ([] ∷ lines) number [] ≡ slice_index_or lines index [] = ap (λ m. slice_index_or ([] ∷ lines) m []) (at ∙ add-one index) in
    whole ∙ ap (take 200) (sym (there ∙ get_or_from_slice_get lines index line [] (sym is)))

pub no_line_shown : (lines : List (List ℕ)) (number index : ℕ) → None ≡ slice_get lines index → number ≡ index + 1 → [] ≡ take 200 (slice_index_or ([] ∷ lines) number [])
no_line_shown lines number index is at =
    let there : slice_index_or ([] ∷ lines) number [] ≡ slice_index_or lines index [] = ap (λ m. slice_index_or ([] ∷ lines) m []) (at ∙ add-one index) in
    let none : slice_index_or lines index [] ≡ [] = sym (unwrap_or-slice_get lines index []) ∙ ap (λ (o : Option (List ℕ)). unwrap_or o []) (sym is) in
    sym (ap (take 200) (there ∙ none))

pub ruleset lines_shown = (line_shown, no_line_shown)

pub ruleset puts = (not_shown, is_shown)
