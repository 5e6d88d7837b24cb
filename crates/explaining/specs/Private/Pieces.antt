-- Reasons by parts of a rule, and what a reason names.
use Rattle.std.specs.Prelude.{◌≡◌, ℕ, ◌+◌, ◌<◌, ◌≤◌, Bool, List, length, slice_index}
use Rattle.table_cover.specs.Cover.{PlainCover}
use Rattle.flat_net.specs.Net.{Net, net_count}
use Rattle.flat_net.specs.Free.{FreeDesign, node_bit}
use Rattle.certificate.specs.Cert.{PlainCert, count_of}
use Rattle.certificate.specs.Starts.{counted}
use Rattle.explaining.specs.declared.reason.Reason.{Reason}
use Rattle.explaining.specs.declared.reason.Reason.TheVariants.{IsTable, IsRegister, PinCount, Polarity, RowCount, Row, Initial, Pin, VoterPin, Minority, LowLabel, WrongOutput, NoOutput, NewOutput}
use Rattle.explaining.specs.Reasons.{VoterPinFails, VoteFailsFirst, LabelFailsFirst}

-- net x is marked, as far as the certificate counts marks
abbrev pub mark_in : FreeDesign → PlainCert → ℕ → Bool
mark_in n k x = node_bit (length n.design.net.inputs) (counted k n.free) x

-- what the reason names are nets
abbrev pub HasNets : Net → Net → Reason → Type 0
HasNets n h (Pin j g x p c) = (g.0 < net_count h) × (x.0 < net_count n)
HasNets n h (VoterPin g x c) = (g.0 < net_count h) × (x.0 < net_count n)
HasNets n h (LowLabel label wants g m) = g.0 < net_count h
HasNets n h (WrongOutput g x c) = (g.0 < net_count h) × (x.0 < net_count n)
HasNets n h (NoOutput x c) = x.0 < net_count n
HasNets n h (NewOutput g) = g.0 < net_count h
HasNets n h _ = Unit {0}

-- the reason is of a node's kind, of how many pins it has, of its rows, or of its initial value
abbrev pub IsOfShape : Reason → Type 0
IsOfShape IsTable = Unit {0}
IsOfShape IsRegister = Unit {0}
IsOfShape (PinCount is wanted) = Unit {0}
IsOfShape Polarity = Unit {0}
IsOfShape (RowCount is wanted) = Unit {0}
IsOfShape (Row i is wanted) = Unit {0}
IsOfShape (Initial is is_free wanted wanted_free) = Unit {0}
IsOfShape _ = ⊥

-- the reason is of what a node's pins read, or of a voter's value on them
abbrev pub IsOfPins : Reason → Type 0
IsOfPins (Pin j g x p c) = Unit {0}
IsOfPins (VoterPin g x c) = Unit {0}
IsOfPins (Minority a b c) = Unit {0}
IsOfPins _ = ⊥

-- each pin wants its net's count and so much more, and e reaches it
abbrev pub AllReach : PlainCert → List ℕ → ℕ → ℕ → Type 0
AllReach k pins more e = (j : ℕ) → j < length pins → count_of k (slice_index pins j) + more ≤ e

abbrev pub PinLabelFails : PlainCert → List ℕ → ℕ → ℕ → Reason → Type 0
PinLabelFails k pins more e (LowLabel label w g m) = (label ≡ e) × LabelFailsFirst k pins more e w g.0 m
PinLabelFails k pins more e _ = ⊥

abbrev pub VoterPinReason : PlainCert → ℕ → List ℕ → Reason → Type 0
VoterPinReason k x pins (VoterPin g y c) = (y.0 ≡ x) × VoterPinFails k x pins g.0 c
VoterPinReason k x pins _ = ⊥

abbrev pub MinorityReason : PlainCover → Reason → Type 0
MinorityReason cover (Minority a b c) = VoteFailsFirst cover a b c
MinorityReason cover _ = ⊥
