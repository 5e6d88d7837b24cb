-- The next line, by the place of its line feed.
use Rattle.std.proofs.Common.{◌≡◌, ℕ, ◌+◌, ◌≤◌, ◌<◌, Bool, true, false, cond, List, [], length, take, drop, refl, sym, ap, ◌∙◌, arith, Some, None}
use Rattle.std.specs.Prelude.{nat_lt, is_some}
use Rattle.std.specs.List.{position, position_or_len, before_first, after_first}
use Rattle.std.proofs.lemmas.Bool.Decides.{nat_tests}
use Rattle.std.proofs.lemmas.List.{take_all, length-drop, nil_from_length}
use Rattle.text_lines.specs.Lines.{is_line_feed, has_line_feed}

found : (bytes : List ℕ) (end : ℕ) → position is_line_feed bytes ≡ Some end → (position_or_len is_line_feed bytes ≡ end) × (position_or_len is_line_feed bytes < length bytes)
found bytes end e = go (nat_lt (position_or_len is_line_feed bytes) (length bytes)) refl e
  where
    go : (t : Bool) → nat_lt (position_or_len is_line_feed bytes) (length bytes) ≡ t → cond t (Some (position_or_len is_line_feed bytes)) None ≡ Some end → (position_or_len is_line_feed bytes ≡ end) × (position_or_len is_line_feed bytes < length bytes)
    go true below e = (cc, grind (arith, nat_tests, below))
    go false below e = absurd (cc)

missing : (bytes : List ℕ) → position is_line_feed bytes ≡ None → length bytes ≤ position_or_len is_line_feed bytes
missing bytes e = go (nat_lt (position_or_len is_line_feed bytes) (length bytes)) refl e
  where
    go : (t : Bool) → nat_lt (position_or_len is_line_feed bytes) (length bytes) ≡ t → cond t (Some (position_or_len is_line_feed bytes)) None ≡ None → length bytes ≤ position_or_len is_line_feed bytes
    go true below e = absurd (cc)
    go false below e = grind (arith, nat_tests, below)

pub end_within : (bytes : List ℕ) (end : ℕ) → position is_line_feed bytes ≡ Some end → end < length bytes
end_within bytes end e = omega (arith, (found bytes end e).0, (found bytes end e).1)

pub before_end : (bytes : List ℕ) (end : ℕ) → position is_line_feed bytes ≡ Some end → take end bytes ≡ before_first is_line_feed bytes
before_end bytes end e = ap (λ (n : ℕ). take n bytes) (sym (found bytes end e).0)

pub behind_end : (bytes : List ℕ) (end : ℕ) → position is_line_feed bytes ≡ Some end → drop (end + 1) bytes ≡ after_first is_line_feed bytes
behind_end bytes end e = ap (λ (n : ℕ). drop (n + 1) bytes) (sym (found bytes end e).0)

pub before_all : (bytes : List ℕ) (n : ℕ) → position is_line_feed bytes ≡ None → n ≡ length bytes → take n bytes ≡ before_first is_line_feed bytes
before_all bytes n e long = take_all n bytes (omega (arith, long)) ∙ sym (take_all (position_or_len is_line_feed bytes) bytes (missing bytes e))

pub nothing_left : (n : ℕ) (bytes : List ℕ) → length bytes ≤ n → drop n bytes ≡ []
nothing_left n bytes le = nil_from_length (drop n bytes) (let l = length-drop n bytes in omega (arith, l, le))

pub behind_all : (bytes : List ℕ) (n : ℕ) → position is_line_feed bytes ≡ None → n ≡ length bytes → drop n bytes ≡ after_first is_line_feed bytes
behind_all bytes n e long =
    nothing_left n bytes (omega (arith, long))
    ∙ sym (nothing_left (position_or_len is_line_feed bytes + 1) bytes (omega (arith, missing bytes e)))

-- the same by the test

pub line_feed_within : (bytes : List ℕ) → has_line_feed bytes ≡ true → position_or_len is_line_feed bytes < length bytes
line_feed_within bytes e = go (nat_lt (position_or_len is_line_feed bytes) (length bytes)) refl e
  where
    go : (t : Bool) → nat_lt (position_or_len is_line_feed bytes) (length bytes) ≡ t → is_some (cond t (Some (position_or_len is_line_feed bytes)) None) ≡ true → position_or_len is_line_feed bytes < length bytes
    go true below e = grind (arith, nat_tests, below)
    go false below e = absurd (cc)

pub line_feed_missing : (bytes : List ℕ) → has_line_feed bytes ≡ false → length bytes ≤ position_or_len is_line_feed bytes
line_feed_missing bytes e = go (nat_lt (position_or_len is_line_feed bytes) (length bytes)) refl e
  where
    go : (t : Bool) → nat_lt (position_or_len is_line_feed bytes) (length bytes) ≡ t → is_some (cond t (Some (position_or_len is_line_feed bytes)) None) ≡ false → length bytes ≤ position_or_len is_line_feed bytes
    go true below e = absurd (cc)
    go false below e = grind (arith, nat_tests, below)

pub ruleset next_line = (end_within, before_end, behind_end, before_all, behind_all)
