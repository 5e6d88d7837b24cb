-- A design that was read of an AIGER file, with the counts of its graph, and the refusal of such a file.
use Rattle.std.specs.Prelude.{◌≡◌, ◌≢◌, ℕ, List}
use Rattle.aag_design.specs.Read.{IsReadCounted}
use Rattle.aag_design.specs.declared.fault.AagFault.{AagFault}
use Rattle.aag_design.specs.declared.fault.AagFault.TheVariants.{Memory}
use Rattle.aag_design.specs.declared.file.CountedDesign.{CountedDesign}
use Rattle.limits.specs.declared.Limits.{Limits}
use Rattle.tmr_outside.specs.Contents.{Contents}
use Rattle.tmr_top.specs.declared.loads.Stop.{Stop}
use Rattle.tmr_top.specs.declared.loads.Stop.TheVariants as stop
use Rattle.tmr_top.specs.Files.{Holds}
use Rattle.tmr_top.specs.GraphRead.{HoldsNoGraph}
use Rattle.tmr_top.specs.Loads.{Load, graph_file}
use Rattle.tmr_texts.specs.Reasons.{aag_reason}
use Rattle.tmr_texts.specs.Texts.{refused_line}

-- the file gives this design, and its graph has these counts
abbrev pub HoldsCounted : Contents → Load → CountedDesign → Type 0
HoldsCounted held load read = Holds held load (λ bytes. IsReadCounted bytes load.limit read)

-- the bytes have a fault, and the line tells of it
pub record IsRefusedGraph (l : Limits) (name : List ℕ) (line : List ℕ) (held : Contents) : Type 0 where
  pub fault : AagFault
  pub caused : fault ≢ Memory
  pub first : HoldsNoGraph held (graph_file l name) fault
  pub says : line ≡ refused_line name (aag_reason fault)

-- the stop is the refusal for this fault, or there was no memory for it
abbrev pub RefusesGraph : List ℕ → AagFault → Stop → Type 0
RefusesGraph name fault (stop.Failed other) = ⊥
RefusesGraph name fault (stop.TooLong other) = ⊥
RefusesGraph name fault (stop.Refused line) = (fault ≢ Memory) × (line.items ≡ refused_line name (aag_reason fault))
RefusesGraph name fault stop.Memory = Unit {0}
