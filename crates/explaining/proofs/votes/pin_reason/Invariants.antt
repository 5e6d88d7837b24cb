use Rattle.std.proofs.Common.{◌≡◌, ◌<◌, slice_index}
use Rattle.tmr_base.specs.declared.copies.CopyNo.{CopyNo}
use Rattle.tmr_base.specs.Copies.{copy_number}
use Rattle.flat_net.specs.Net.{node_of, pins_at}
use Rattle.certificate.specs.Cert.{copy_of}
use Rattle.explaining.proofs.votes.pin_reason.Given as goal

abbrev pub invariant-loop-pin : goal.invariant-loop-pin
invariant-loop-pin l =
    (d : CopyNo) → copy_number d < l.pin → slice_index (pins_at (node_of l.h.net l.g.0)) (copy_number d) ≡ copy_of l.c l.x.0 d
