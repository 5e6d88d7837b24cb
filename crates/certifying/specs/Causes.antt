-- Where a cause stands, and what it says.
use Rattle.std.specs.Prelude.{◌≢◌, ◌*◌, ◌<◌, ◌⊎◌, length, All}
use Rattle.flat_net.specs.Net.{Net, IsNode, node_of, pins_at}
use Rattle.certificate.specs.Rules.{SameEdge}
use Rattle.validator.specs.Place.{IsPlace}
use Rattle.certifying.specs.declared.cause.NoCertificate.{NoCertificate}
use Rattle.certifying.specs.declared.cause.NoCertificate.TheVariants.{Inputs, Clock, Output, Pin, TwoRoles, NoRole, NoCopy, Loop, Rule, Memory}

-- what a cause names is there; a hardened design n is `h`. The inputs and the clock are told only where they differ
abbrev pub IsPlaced : Net → Net → NoCertificate → Type 0
IsPlaced n h Inputs = length h.inputs ≢ 3 * length n.inputs
IsPlaced n h Clock = SameEdge n.clock h.clock → ⊥
IsPlaced n h (Output k) = (k < 3 * length n.outputs) ⊎ (k < length h.outputs)
IsPlaced n h (Pin g j) = IsNode h g.0 × (j < length (pins_at (node_of h g.0)))
IsPlaced n h (TwoRoles g) = IsNode h g.0
IsPlaced n h (NoRole g) = IsNode h g.0
IsPlaced n h (NoCopy x c) = IsNode n x.0
IsPlaced n h (Loop gs) = All (λ g. g < length h.nodes) gs.items
IsPlaced n h (Rule refusal) = IsPlace h refusal.rule refusal.at
IsPlaced n h Memory = Unit {0}
