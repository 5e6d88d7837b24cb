-- The lines of a file, one by one.
use Rattle.std.proofs.Common.{◌≡◌, ◌≢◌, ℕ, zero, suc, ◌+◌, ◌<◌, ◌≤◌, Bool, true, false, List, [], ◌∷◌, length, take, get_or, refl, sym, ap, ◌∙◌, arith, if◌then◌else◌}
use Rattle.std.specs.Prelude.{All, ◌==◌}
use Rattle.std.specs.List.{slice_split, position_or_len, before_first, after_first}
use Rattle.std.proofs.lemmas.Bool.{eq-eqb, ne_eqb}
use Rattle.std.proofs.lemmas.List.{take_all, length-drop, nil_from_length}
use Rattle.std.proofs.lemmas.List.Sums.{fails_before_first}
use Rattle.std.proofs.lemmas.List.Splits.{slice_split_first, slice_split_none, length-slice_split}
use Rattle.aag_text.proofs.Spelling.{line_cons}
use Rattle.text_lines.specs.Lines.{Rest, has_line_feed, behind_line}
use Rattle.text_lines.proofs.NextLine.{line_feed_within, line_feed_missing}
use Rattle.aag_text.specs.Lines.{is_line_feed, without_return, lines_from, lines_of}

-- a line that a line feed ends, and what is left
found : (bytes : List ℕ) → position_or_len is_line_feed bytes < length bytes → lines_of bytes ≡ without_return (before_first is_line_feed bytes) ∷ lines_of (after_first is_line_feed bytes)
found bytes lt =
    let long = length-slice_split is_line_feed (after_first is_line_feed bytes) in
    let some : 0 < length (slice_split is_line_feed (after_first is_line_feed bytes)) = omega (arith, long) in
    ap lines_from (slice_split_first is_line_feed bytes 0 lt)
    ∙ line_cons (before_first is_line_feed bytes) (slice_split is_line_feed (after_first is_line_feed bytes)) some

alone : (piece : List ℕ) → 0 < length piece → lines_from (piece ∷ []) ≡ piece ∷ []
alone [] some = absurd (omega arith)
alone (b ∷ piece) some = refl

-- the last line, where no line feed ends it
last : (bytes : List ℕ) → length bytes ≤ position_or_len is_line_feed bytes → 0 < length bytes → lines_of bytes ≡ before_first is_line_feed bytes ∷ lines_of (after_first is_line_feed bytes)
last bytes le some =
    let none : All (λ b. is_line_feed b ≡ false) bytes = λ k d lt. fails_before_first is_line_feed bytes k d (omega (arith, le, lt)) in
    let nothing : after_first is_line_feed bytes ≡ [] = nil_from_length (after_first is_line_feed bytes) (let l = length-drop (position_or_len is_line_feed bytes + 1) bytes in omega (arith, l, le)) in
    ap lines_from (slice_split_none is_line_feed bytes none)
    ∙ (alone bytes some
    ∙ (ap (λ (line : List ℕ). line ∷ lines_of []) (sym (take_all (position_or_len is_line_feed bytes) bytes le))
    ∙ ap (λ (rest : List ℕ). before_first is_line_feed bytes ∷ lines_of rest) (sym nothing)))

pub line_found : (old new : Rest) (line : List ℕ) → line ≡ before_first is_line_feed old.bytes → new ≡ behind_line old → has_line_feed old.bytes ≡ true → lines_of old.bytes ≡ without_return line ∷ lines_of new.bytes
line_found old new line is left feed = rw (is, left) (found old.bytes (line_feed_within old.bytes feed))

some_left : (bytes : List ℕ) → (length bytes == 0) ≡ false → 0 < length bytes
some_left [] e = absurd (cc)
some_left (b ∷ bytes) e = omega arith

pub line_last : (old new : Rest) (line : List ℕ) → line ≡ before_first is_line_feed old.bytes → new ≡ behind_line old → has_line_feed old.bytes ≡ false → (length old.bytes == 0) ≡ false → lines_of old.bytes ≡ line ∷ lines_of new.bytes
line_last old new line is left feed some = rw (is, left) (last old.bytes (line_feed_missing old.bytes feed) (some_left old.bytes some))

pub shorter : (old new : Rest) → new ≡ behind_line old → (length old.bytes == 0) ≡ false → length new.bytes < length old.bytes
shorter old new left some = rw left (let l = length-drop (position_or_len is_line_feed old.bytes + 1) old.bytes in omega (arith, l, some_left old.bytes some))

pub next_number : (old new : Rest) → new ≡ behind_line old → new.line ≡ old.line + 1
next_number old new left = ap (λ (r : Rest). r.line) left

pub no_line : (bytes : List ℕ) → (length bytes == 0) ≡ true → lines_of bytes ≡ []
no_line [] e = refl
no_line (b ∷ bytes) e = absurd (let wrong : true ≡ false = sym e ∙ some in cc)
  where
    some : (length (b ∷ bytes) == 0) ≡ false
    some = grind arith

pub ruleset lines = (line_found, line_last, shorter, next_number, no_line)

pub without : (line : List ℕ) (n : ℕ) → length line ≡ n + 1 → get_or line n 0 ≡ 13 → without_return line ≡ take n line
without [] n long is = absurd (omega (arith, long))
without (b ∷ []) zero long is = ap (λ (x : Bool). if x then [] else b ∷ []) (eq-eqb b 13 is)
without (b ∷ []) (suc n) long is = absurd (omega (arith, long))
without (b ∷ c ∷ line) zero long is = absurd (omega (arith, long))
without (b ∷ c ∷ line) (suc n) long is = ap (λ (t : List ℕ). b ∷ t) (without (c ∷ line) n (omega (arith, long)) is)

pub with_it : (line : List ℕ) (n : ℕ) → length line ≡ n + 1 → get_or line n 0 ≢ 13 → without_return line ≡ line
with_it [] n long is = absurd (omega (arith, long))
with_it (b ∷ []) zero long is = ap (λ (x : Bool). if x then [] else b ∷ []) (ne_eqb b 13 is)
with_it (b ∷ []) (suc n) long is = absurd (omega (arith, long))
with_it (b ∷ c ∷ line) zero long is = absurd (omega (arith, long))
with_it (b ∷ c ∷ line) (suc n) long is = ap (λ (t : List ℕ). b ∷ t) (with_it (c ∷ line) n (omega (arith, long)) is)

pub nothing_without : (line : List ℕ) → length line ≡ 0 → without_return line ≡ line
nothing_without [] e = refl
nothing_without (b ∷ line) e = absurd (omega (arith, e))

pub ruleset returns = (without, with_it, nothing_without)
