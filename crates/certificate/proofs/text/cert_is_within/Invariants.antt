use Rattle.std.proofs.Common.{◌≡◌, ◌+◌, length}
use Rattle.certificate.specs.Text.{cert_text}
use Rattle.certificate.proofs.text.cert_is_within.Given as goal

abbrev pub invariant-loop-text : goal.invariant-loop-text
invariant-loop-text l = length (cert_text l.n.net l.h.net l.c) + l.room ≡ l.most + length l.text.rest

abbrev pub decreases-loop-text : goal.decreases-loop-text
decreases-loop-text l = l.text.left
