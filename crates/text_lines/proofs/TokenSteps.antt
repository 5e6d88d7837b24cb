-- Token by token.
use Rattle.std.proofs.Common.{◌⊎◌, inl, inr, ◌≡◌, ℕ, ◌+◌, ◌<◌, ◌≤◌, ◌==◌, Bool, true, false, cond, List, [], ◌∷◌, ◌++◌, length, take, drop, filter, refl, sym, ap, ◌∙◌, arith, append_assoc, append-nil}
use Rattle.std.specs.List.{slice_split, position_or_len, before_first, after_first}
use Rattle.std.proofs.lemmas.Bool.Decides.{nat_tests}
use Rattle.std.proofs.lemmas.List.{take_all, length-drop, nil_from_length}
use Rattle.std.proofs.lemmas.List.Sums.{fails_before_first}
use Rattle.std.proofs.lemmas.List.Splits.{slice_split_first, slice_split_none}
use Rattle.text_lines.specs.Joined.{is_blank, tokens}
use Rattle.text_lines.specs.Tokens.{is_full}
use Rattle.text_lines.proofs.NextLine.{nothing_left}

below_or_not : (a b : ℕ) → (a < b) ⊎ (b ≤ a)
below_or_not a b = grind arith

full_first : (token : List ℕ) (more : List (List ℕ)) → filter is_full (token ∷ more) ≡ filter is_full (token ∷ []) ++ filter is_full more
full_first token more = go (is_full token)
  where
    go : (b : Bool) → cond b (token ∷ filter is_full more) (filter is_full more) ≡ cond b (token ∷ []) [] ++ filter is_full more
    go true = refl
    go false = refl

-- no blank is left
last_word : (text : List ℕ) → length text ≤ position_or_len is_blank text → slice_split is_blank text ≡ text ∷ []
last_word text le = slice_split_none is_blank text (λ k d below. fails_before_first is_blank text k d (omega (arith, below, le)))

-- the first token, and those behind it
pub next_token : (text : List ℕ) → tokens text ≡ filter is_full (take (position_or_len is_blank text) text ∷ []) ++ tokens (drop (position_or_len is_blank text + 1) text)
unfolding tokens
next_token text = go (below_or_not (position_or_len is_blank text) (length text))
  where
    go : (position_or_len is_blank text < length text) ⊎ (length text ≤ position_or_len is_blank text)
        → filter is_full (slice_split is_blank text) ≡ filter is_full (take (position_or_len is_blank text) text ∷ []) ++ filter is_full (slice_split is_blank (drop (position_or_len is_blank text + 1) text))
    go (inl l) = ap (filter is_full) (slice_split_first is_blank text 0 l) ∙ full_first (before_first is_blank text) (slice_split is_blank (after_first is_blank text))
    go (inr le) = ap (filter is_full) (last_word text le)
        ∙ ap (λ w. filter is_full (w ∷ [])) (sym (take_all (position_or_len is_blank text) text le))
        ∙ sym (append-nil (filter is_full (take (position_or_len is_blank text) text ∷ [])))
        ∙ ap (λ rest. filter is_full (take (position_or_len is_blank text) text ∷ []) ++ filter is_full (slice_split is_blank rest)) (sym (nothing_left (position_or_len is_blank text + 1) text (omega (arith, le))))

pub no_tokens : (text : List ℕ) → text ≡ [] → tokens text ≡ []
unfolding tokens
no_tokens text e = ap (λ t. filter is_full (slice_split is_blank t)) e

-- one more is found
pub found_more : (whole old new : List (List ℕ)) (rest after : List ℕ) (end : ℕ) (token : List ℕ)
    → old ++ tokens rest ≡ whole → new ≡ old ++ filter is_full (token ∷ []) → end ≡ position_or_len is_blank rest → token ≡ take end rest → after ≡ drop (end + 1) rest
    → new ++ tokens after ≡ whole
found_more whole old new rest after end token so_far more at is behind =
    ap (λ n. n ++ tokens after) more
    ∙ append_assoc old (filter is_full (token ∷ [])) (tokens after)
    ∙ ap (λ ts. old ++ ts) (ap (λ w. filter is_full (w ∷ []) ++ tokens after) is
    ∙ ap (λ a. filter is_full (take end rest ∷ []) ++ tokens a) behind
    ∙ ap (λ n. filter is_full (take n rest ∷ []) ++ tokens (drop (n + 1) rest)) at
    ∙ sym (next_token rest))
    ∙ so_far

none_long : (xs : List ℕ) → (length xs == 0) ≡ true → length xs ≡ 0
none_long xs e = grind (arith, nat_tests, e)

pub is_nothing : (xs : List ℕ) → true ≡ (length xs == 0) → xs ≡ []
is_nothing xs e = nil_from_length xs (none_long xs (sym e))

pub all_found : (whole found : List (List ℕ)) (rest : List ℕ) → found ++ tokens rest ≡ whole → rest ≡ [] → found ≡ whole
all_found whole found rest so_far e = sym (append-nil found) ∙ ap (λ ts. found ++ ts) (sym (no_tokens rest e)) ∙ so_far

pub left_less : (rest after : List ℕ) (end : ℕ) → 0 < length rest → after ≡ drop (end + 1) rest → length after < length rest
left_less rest after end some e = omega (arith, some, ap length e, length-drop (end + 1) rest)

pub ruleset token_loop = (left_less)
