-- The lines of a piece, behind the part of a line that is in hand.
use Rattle.std.proofs.Common.{◌≡◌, ℕ, ◌+◌, ◌<◌, false, List, [], ◌∷◌, ◌++◌, length, take, drop, get_or, Some, None, Ok, refl, sym, ap, subst, ◌∙◌, append_assoc, arith}
use Rattle.std.specs.Prelude.{is_some}
use Rattle.std.specs.List.{position, position_or_len, before_first, after_first}
use Rattle.std.proofs.lemmas.Bool.{eqb-true}
use Rattle.std.proofs.lemmas.List.{length-take, get_or-take}
use Rattle.std.proofs.lemmas.List.Elements.{All-append}
use Rattle.std.proofs.lemmas.List.Sums.{split_at_first, passes_at_first, fails_before_first}
use Rattle.text_lines.specs.Lines.{is_line_feed}
use Rattle.text_lines.specs.Pending.{IsOneLine}
use Rattle.text_lines.proofs.NextLine.{before_end, behind_end, line_feed_within, line_feed_missing}
use Rattle.flat_net.specs.Net.{Net}
use Rattle.certificate.specs.declared.fault.CertFault.{CertFault}
use Rattle.certificate.specs.declared.progress.Progress.{Progress}
use Rattle.certificate.specs.Gives.{Fails}
use Rattle.certificate.specs.Lines.{next_line}
use Rattle.certificate.specs.Carrying.{carry, Passes, Refuses}
use Rattle.certificate.proofs.Again.{next_again}

-- a line with its line feed at the head of a text
next_at : (i : ℕ) (line rest : List ℕ) → IsOneLine line → next_line (record { line = i; bytes = line ++ 10 ∷ rest }) ≡ Ok (line, record { line = i + 1; bytes = rest })
next_at i line rest one = ap (λ (b : List ℕ). next_line (record { line = i; bytes = b })) (sym (append_assoc line (10 ∷ []) rest)) ∙ next_again i line rest one

module _ (n h : Net) (old : Progress) (number : ℕ) (part text : List ℕ) (one : IsOneLine part) (is : text ≡ part) where
  next_there : (more : List ℕ) → next_line (record { line = number; bytes = part ++ 10 ∷ more }) ≡ Ok (text, record { line = number + 1; bytes = more })
  next_there more = next_at number part more one ∙ ap (λ (t : List ℕ). Ok (t, record { line = number + 1; bytes = more })) (sym is)

  pub line_passes : (new : Progress) (left : List ℕ) → left ≡ [] → Passes (carry n h old) (carry n h new) text number → (more : List ℕ)
      → carry n h old (record { line = number; bytes = part ++ 10 ∷ more }) ≡ carry n h new (record { line = number + 1; bytes = left ++ more })
  line_passes new left none passes more =
      passes (record { line = number; bytes = part ++ 10 ∷ more }) (record { line = number + 1; bytes = more }) (next_there more) refl
      ∙ ap (λ (xs : List ℕ). carry n h new (record { line = number + 1; bytes = xs ++ more })) (sym none)

  pub line_refuses : (f : CertFault) → Refuses (carry n h old) f text number → (more : List ℕ) → Fails f (carry n h old (record { line = number; bytes = part ++ 10 ∷ more }))
  line_refuses f refuses more = refuses (record { line = number; bytes = part ++ 10 ∷ more }) (record { line = number + 1; bytes = more }) (next_there more) refl

-- where no part of a line is in hand
pub nothing_in_hand : (n h : Net) (old : Progress) (number : ℕ) (part bytes : List ℕ) → part ≡ [] → carry n h old (record { line = number; bytes = part ++ bytes }) ≡ carry n h old (record { line = number; bytes = bytes })
nothing_in_hand n h old number part bytes none = ap (λ (xs : List ℕ). carry n h old (record { line = number; bytes = xs ++ bytes })) none

-- ---- the line feed of a piece

-- no line feed stands before the first
pub front_one_line : (bytes : List ℕ) (end : ℕ) → position is_line_feed bytes ≡ Some end → IsOneLine (take end bytes)
front_one_line bytes end e = subst IsOneLine (sym (before_end bytes end e)) (λ i d lt.
    let within : i < position_or_len is_line_feed bytes = omega (arith, lt, length-take (position_or_len is_line_feed bytes) bytes) in
    ap is_line_feed (get_or-take (position_or_len is_line_feed bytes) bytes i d within) ∙ fails_before_first is_line_feed bytes i d within)

pub all_one_line : (bytes : List ℕ) → position is_line_feed bytes ≡ None → IsOneLine bytes
all_one_line bytes e = λ i d lt. fails_before_first is_line_feed bytes i d (omega (arith, lt, line_feed_missing bytes (ap is_some e)))

pub longer_one_line : (part bytes : List ℕ) → IsOneLine part → position is_line_feed bytes ≡ None → IsOneLine (part ++ bytes)
longer_one_line part bytes one e = All-append (λ b. is_line_feed b ≡ false) part bytes one (all_one_line bytes e)

-- the line, its line feed, and what stands behind it
pub cut_at : (bytes : List ℕ) (end : ℕ) → position is_line_feed bytes ≡ Some end → bytes ≡ take end bytes ++ 10 ∷ drop (end + 1) bytes
cut_at bytes end e =
    let lt : position_or_len is_line_feed bytes < length bytes = line_feed_within bytes (ap is_some e) in
    let feed : get_or bytes (position_or_len is_line_feed bytes) 0 ≡ 10 = eqb-true _ _ (passes_at_first is_line_feed bytes 0 lt) in
    split_at_first is_line_feed bytes 0 lt ∙ (ap (λ (b : ℕ). before_first is_line_feed bytes ++ (b ∷ after_first is_line_feed bytes)) feed
    ∙ (ap (λ (x : List ℕ). x ++ 10 ∷ after_first is_line_feed bytes) (sym (before_end bytes end e)) ∙ ap (λ (x : List ℕ). take end bytes ++ 10 ∷ x) (sym (behind_end bytes end e))))

pub cut_more : (bytes more : List ℕ) (end : ℕ) → position is_line_feed bytes ≡ Some end → bytes ++ more ≡ take end bytes ++ 10 ∷ (drop (end + 1) bytes ++ more)
cut_more bytes more end e = ap (λ (x : List ℕ). x ++ more) (cut_at bytes end e) ∙ append_assoc (take end bytes) (10 ∷ drop (end + 1) bytes) more
