-- What is printed of why a file is refused.
use Rattle.std.specs.Prelude.{ℕ, List, [], ◌∷◌, ◌++◌, map, codes}
use Rattle.std.specs.Fmt.{decimal}
use Rattle.flat_net.specs.declared.fault.NetFault.{NetFault}
use Rattle.flat_net.specs.declared.fault.NetFault.TheVariants as net
use Rattle.blif_text.specs.declared.fault.TextKind.{TextKind}
use Rattle.blif_text.specs.declared.fault.TextKind.TheVariants as kind
use Rattle.certificate.specs.declared.fault.CertFault.{CertFault}
use Rattle.certificate.specs.declared.fault.CertFault.TheVariants as fault
use Rattle.blif_text.specs.Kind.{Bad}
use Rattle.schedules.specs.declared.fault.ScheduleFault.{ScheduleFault}
use Rattle.schedules.specs.declared.fault.ScheduleFault.TheVariants as schedule
use Rattle.hierarchy.specs.declared.flat_fault.FlatFault.{FlatFault}
use Rattle.hierarchy.specs.declared.flat_fault.FlatFault.TheVariants as flat
use Rattle.aag_design.specs.declared.fault.AagFault.{AagFault}
use Rattle.aag_design.specs.declared.fault.AagFault.TheVariants as aag
use Rattle.tmr_texts.specs.Texts.{joined, line_reason, counted_text}

abbrev pub kind_text : TextKind → List ℕ
kind_text kind.NoModel = codes "no model"
kind_text kind.Unsupported = codes "unsupported"
kind_text kind.BadName = codes "bad name"
kind_text kind.BadRow = codes "bad row"
kind_text kind.MixedCover = codes "mixed cover"
kind_text kind.BadLatch = codes "bad latch"
kind_text kind.BadBinding = codes "bad binding"
kind_text kind.DuplicatePort = codes "duplicate port"
kind_text kind.DuplicateModel = codes "duplicate model"
kind_text kind.RowOutside = codes "row outside"
kind_text kind.Arguments = codes "arguments"

-- of the first bad line of a netlist
abbrev pub bad_reason : Bad → List ℕ
bad_reason bad = line_reason bad.line (kind_text bad.kind)

-- of the first bad line of a certificate
abbrev pub cert_reason : CertFault → List ℕ
cert_reason (fault.Line n) = line_reason n (codes "bad line")
cert_reason (fault.UnknownNet n) = line_reason n (codes "unknown net")
cert_reason (fault.Order n) = line_reason n (codes "order")
cert_reason (fault.Range n) = line_reason n (codes "range")
cert_reason (fault.Doubled n) = line_reason n (codes "doubled")
cert_reason fault.Memory = []

-- of the first fault of a schedule; rows and upsets are counted from 0
abbrev pub schedule_reason : ScheduleFault → List ℕ
schedule_reason schedule.NotToml = codes "not TOML"
schedule_reason schedule.Top = codes "bad top"
schedule_reason schedule.TooMany = codes "too many"
schedule_reason (schedule.Row t) = counted_text (codes "bad inputs row ") t
schedule_reason (schedule.Entry j) = counted_text (codes "bad upset ") j
schedule_reason (schedule.UnknownNet j) = counted_text (codes "unknown net in upset ") j
schedule_reason (schedule.Range j) = counted_text (codes "cycle out of range in upset ") j
schedule_reason (schedule.Doubled j) = counted_text (codes "doubled upset ") j
schedule_reason schedule.Start = codes "bad start"
schedule_reason schedule.Memory = []

-- each name with a blank before it
abbrev pub spaced : List (List ℕ) → List ℕ
spaced [] = []
spaced (name ∷ names) = 32 ∷ (name ++ spaced names)

-- of flat elements that are no design
abbrev pub fault_reason : NetFault → List ℕ
fault_reason (net.DoubleDriven name) = joined (codes "double driven " ∷ name ∷ [])
fault_reason (net.MixedClock name) = joined (codes "mixed clock " ∷ name ∷ [])
fault_reason (net.ClockUse name) = joined (codes "clock use " ∷ name ∷ [])
fault_reason (net.Undriven name) = joined (codes "undriven " ∷ name ∷ [])
fault_reason (net.CombLoop names) = codes "combinational loop" ++ spaced names.items
fault_reason net.Memory = []

-- of a library that has no flat design
abbrev pub flat_reason : FlatFault → List ℕ
flat_reason (flat.UnknownModel name) = joined (codes "unknown model " ∷ name ∷ [])
flat_reason (flat.UnboundInput name) = joined (codes "unbound input " ∷ name ∷ [])
flat_reason (flat.UnknownFormal name) = joined (codes "unknown formal " ∷ name ∷ [])
flat_reason (flat.DuplicateFormal name) = joined (codes "duplicate formal " ∷ name ∷ [])
flat_reason (flat.BothWays name) = joined (codes "both ways " ∷ name ∷ [])
flat_reason (flat.Recursive names) = codes "recursive" ++ spaced names.items
flat_reason flat.TooLarge = codes "too large"
flat_reason (flat.NameClash name) = joined (codes "name clash " ∷ name ∷ [])
flat_reason (flat.Net fault) = fault_reason fault
flat_reason flat.Memory = []

-- of the first fault of an AIGER file; a loop is told by the variables of its gates
abbrev pub aag_reason : AagFault → List ℕ
aag_reason (aag.Line n) = line_reason n (codes "bad line")
aag_reason (aag.Doubled v) = counted_text (codes "doubled ") v
aag_reason (aag.Undefined v) = counted_text (codes "undefined ") v
aag_reason (aag.Loop variables) = codes "loop" ++ spaced (map decimal variables.items)
aag_reason aag.TooLarge = codes "too large"
aag_reason aag.Memory = []
