use Rattle.std.proofs.Common.{◌≡◌, ◌++◌}
use Rattle.certificate.specs.Text.{cert_text}
use Rattle.certificate.proofs.text.write_cert.Given as goal

abbrev pub invariant-loop-bytes : goal.invariant-loop-bytes
invariant-loop-bytes l = l.bytes.items ++ l.text.rest ≡ cert_text l.n.net l.h.net l.c

abbrev pub decreases-loop-bytes : goal.decreases-loop-bytes
decreases-loop-bytes l = l.text.left
