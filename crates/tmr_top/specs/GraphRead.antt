-- `from-aag AAG FLAT`: what it comes to.
use Rattle.std.specs.Prelude.{◌≡◌, ◌≢◌, ℕ, List, [], ◌∷◌}
use Rattle.flat_net.specs.Free.{FreeDesign}
use Rattle.blif_writer.specs.Text.{free_text}
use Rattle.aag_design.specs.Counts.{counts_of}
use Rattle.aag_design.specs.Read.{IsReadAs, IsFaultOf}
use Rattle.aag_design.specs.declared.fault.AagFault.{AagFault}
use Rattle.aag_design.specs.declared.fault.AagFault.TheVariants.{Memory}
use Rattle.tmr_outside.specs.Contents.{Contents}
use Rattle.tmr_top.specs.declared.decision.Verdict.{Verdict}
use Rattle.tmr_top.specs.declared.decision.Verdict.TheVariants.{Done, NotAccepted, Refused}
use Rattle.tmr_top.specs.Files.{Holds}
use Rattle.tmr_words.specs.Line.{GraphReading}
use Rattle.tmr_top.specs.Loads.{Load, graph_file}
use Rattle.tmr_texts.specs.Reasons.{aag_reason}
use Rattle.tmr_texts.specs.Texts.{aag_line, refused_line}

-- the bytes are a file of a graph, and this is the design that it gives, which does the same
abbrev pub HoldsGraph : Contents → Load → FreeDesign → Type 0
HoldsGraph held load n = Holds held load (λ bytes. IsReadAs bytes load.limit n)

-- the bytes give no design, and this is their first fault
abbrev pub HoldsNoGraph : Contents → Load → AagFault → Type 0
HoldsNoGraph held load fault = Holds held load (λ bytes. IsFaultOf bytes load.limit fault)

-- done: the flat text of the design, with its marks, is saved, and the numbers of the graph of which the bytes are a file are told
pub record IsGraphRead (w : GraphReading) (held : Contents) (saved : List (List ℕ)) (text : List ℕ) : Type 0 where
  pub design : FreeDesign
  pub holds : HoldsGraph held (graph_file w.limits w.graph) design
  pub saves : saved ≡ free_text design.design.net design.free ∷ []
  pub says : text ≡ aag_line (counts_of holds.fact.graph)

-- refused: the bytes have a fault
pub record IsGraphUnread (w : GraphReading) (held : Contents) (text : List ℕ) : Type 0 where
  pub fault : AagFault
  pub caused : fault ≢ Memory
  pub first : HoldsNoGraph held (graph_file w.limits w.graph) fault
  pub says : text ≡ refused_line w.graph (aag_reason fault)

abbrev pub GraphRead : GraphReading → Contents → Verdict → List (List ℕ) → List ℕ → Type 0
GraphRead w held Done saved text = IsGraphRead w held saved text
GraphRead w held NotAccepted saved text = ⊥
GraphRead w held Refused saved text = IsGraphUnread w held text
