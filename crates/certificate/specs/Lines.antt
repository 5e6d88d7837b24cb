-- The code's own way to take a text line by line, up to the first fault: specs/Words says what lines and words are.
use Rattle.std.specs.Prelude.{ℕ, Bool, List, Option, Some, None, Result, Ok, Err, if◌then◌else◌}
use Rattle.std.specs.List.{before_first}
pub use Rattle.text_lines.specs.Lines.{Rest}
use Rattle.text_lines.specs.Lines.{has_line_feed, behind_line}
use Rattle.tmr_base.specs.Numbers.{number_of}
pub use Rattle.certificate.specs.Words.{is_line_feed, is_blank, words_of, word, is_full, has_form}
use Rattle.certificate.specs.declared.fault.CertFault.{CertFault}
use Rattle.certificate.specs.declared.fault.CertFault.TheVariants.{Line}

-- one after the other, up to the first fault
infixl 10 ◌>>=◌
abbrev pub ◌>>=◌ : {A B : Type 0} → Result A CertFault → (A → Result B CertFault) → Result B CertFault
(Ok x) >>= f = f x
(Err e) >>= f = Err e

-- the value, or else this fault
abbrev pub want : {A : Type 0} → Option A → CertFault → Result A CertFault
want None fault = Err fault
want (Some x) fault = Ok x

-- nothing, or this fault where the test fails
abbrev pub hold : Bool → CertFault → Result (Unit {0}) CertFault
hold b fault = if b then Ok tt else Err fault

-- the bytes before the next line feed, and what stands after it
unfoldable pub next_line : Rest → Result (List ℕ × Rest) CertFault
next_line r = if has_line_feed r.bytes then Ok (before_first is_line_feed r.bytes, behind_line r) else Err (Line r.line)

-- the words of a line of this form
unfoldable pub form_words : List ℕ → ℕ → List ℕ → ℕ → Result (List (List ℕ)) CertFault
form_words text count first line = do
  _ ← hold (has_form (words_of text) count first) (Line line)
  Ok (words_of text)

-- a decimal number below 2 ^ 32
unfoldable pub number_at : List ℕ → ℕ → Result ℕ CertFault
number_at bytes line = want (number_of 32 bytes) (Line line)
