-- What a certificate's reader is between two pieces, and which lists of bytes it stands for.
use Rattle.std.specs.Prelude.{◌≡◌, ℕ, ◌+◌, ◌≤◌, List, ◌++◌, length, Option, Some, None}
use Rattle.text_lines.specs.Pending.{IsOneLine}
use Rattle.flat_net.specs.Net.{Net}
use Rattle.certificate.specs.declared.fault.CertFault.{CertFault}
use Rattle.certificate.specs.declared.pieces.LineInHand.{LineInHand}
use Rattle.certificate.specs.declared.progress.Progress.{Progress}
use Rattle.certificate.specs.Gives.{Fails}
use Rattle.certificate.specs.Reading.{cert_of_text}
use Rattle.certificate.specs.Carrying.{to_come}

-- the two designs, how many more bytes may come, the line at hand, what those before it said, and the first fault if there was one
pub record ReaderState : Type 0 where
  pub original : Net
  pub hardened : Net
  pub room : ℕ
  pub line : LineInHand
  pub progress : Progress
  pub refused : Option CertFault

-- the bytes that all pieces together may have: 2 ^ 63
abbrev pub most_bytes : ℕ
most_bytes = 9223372036854775808

-- each text that begins with these bytes gives what the reader goes on to with the rest of it; or it has the fault that was met
abbrev pub HasRead : Net → Net → Option CertFault → LineInHand → Progress → List ℕ → Type 0
HasRead n h None line progress given = (more : List ℕ) → cert_of_text n h (given ++ more) ≡ to_come n h line progress more
HasRead n h (Some fault) line progress given = (more : List ℕ) → Fails fault (cert_of_text n h (given ++ more))

-- The reader has been given these bytes, in whatever pieces. A new one stands for no bytes.
pub record StandsFor (r : ReaderState) (given : List ℕ) : Type 0 where
  pub size : length given + r.room ≡ most_bytes
  pub read : HasRead r.original r.hardened r.refused r.line r.progress given

-- the part of a line has no line feed, and each hardened node has a place for its role
pub record IsReady (h : Net) (line : LineInHand) (progress : Progress) : Type 0 where
  pub one_line : IsOneLine line.part.items
  pub roles : length progress.nodes.roles.items ≡ length h.nodes

-- what every reader keeps; and there are bytes that it was given
pub record KeepsOn (r : ReaderState) : Type 0 where
  pub lines : r.line.number + r.room ≤ most_bytes + 1
  pub ready : r.refused ≡ None → IsReady r.hardened r.line r.progress
  pub was_given : (given : List ℕ) × HasRead r.original r.hardened r.refused r.line r.progress given
