-- What an AIGER file comes to.
use Rattle.std.proofs.Common.{◌≡◌, ◌≢◌, ℕ, List, Option, Some, refl, sym, subst}
use Rattle.std.specs.FinMap.{get}
use Rattle.flat_net.specs.Free.{FreeDesign}
use Rattle.aag_design.specs.Read.{IsFaultOf, IsReadAs, IsReadCounted}
use Rattle.aag_design.specs.declared.file.CountedDesign.{CountedDesign}
use Rattle.aag_design.specs.declared.fault.AagFault.{AagFault}
use Rattle.aag_design.specs.declared.fault.AagFault.TheVariants.{Memory}
use Rattle.aag_design.proofs.OneAnswer.{design_or_fault}
use Rattle.limits.specs.declared.Limits.{Limits}
use Rattle.limits.specs.Most.{most_original}
use Rattle.tmr_outside.specs.Contents.{Contents}
use Rattle.tmr_top.specs.declared.decision.Verdict.{Verdict}
use Rattle.tmr_top.specs.declared.decision.Verdict.TheVariants.{Done, NotAccepted, Refused}
use Rattle.tmr_words.specs.Line.{GraphReading}
use Rattle.tmr_top.specs.Loads.{Load, graph_file}
use Rattle.tmr_top.specs.Private.Opened.{HoldsBytes, IsRefusal}
use Rattle.tmr_top.specs.GraphRead.{HoldsGraph, HoldsNoGraph, GraphRead}
use Rattle.tmr_top.specs.declared.loads.Stop.{Stop}
use Rattle.tmr_top.specs.declared.loads.Stop.TheVariants as stop
use Rattle.tmr_top.specs.Private.GraphCounted.{HoldsCounted, IsRefusedGraph, RefusesGraph}

-- ---- what the bytes of a file give

pub holds_counted : (held : Contents) (load : Load) (bytes : List ℕ) (read : CountedDesign) → HoldsBytes held load bytes → IsReadCounted bytes load.limit read → HoldsCounted held load read
holds_counted held load bytes read holds is = record {
  bytes = holds.bytes;
  there = holds.there;
  short = holds.short;
  fact = subst (λ (b : List ℕ). IsReadCounted b load.limit read) (sym holds.fact) is;
}

pub holds_no_graph : (held : Contents) (load : Load) (bytes : List ℕ) (fault : AagFault) → HoldsBytes held load bytes → IsFaultOf bytes load.limit fault → HoldsNoGraph held load fault
holds_no_graph held load bytes fault holds is = record {
  bytes = holds.bytes;
  there = holds.there;
  short = holds.short;
  fact = subst (λ (b : List ℕ). IsFaultOf b load.limit fault) (sym holds.fact) is;
}

-- a refusal for a fault
pub graph_refusal : (l : Limits) (name bytes : List ℕ) (fault : AagFault) (why : Stop) → IsFaultOf bytes (most_original l) fault → RefusesGraph name fault why → IsRefusal (λ held. HoldsBytes held (graph_file l name) bytes) (IsRefusedGraph l name) why
graph_refusal l name bytes fault (stop.Failed other) first is = absurd is
graph_refusal l name bytes fault (stop.TooLong other) first is = absurd is
graph_refusal l name bytes fault (stop.Refused line) first is = λ held holds. record {
  fault = fault;
  caused = is.0;
  first = holds_no_graph held (graph_file l name) bytes fault holds first;
  says = is.1;
}
graph_refusal l name bytes fault stop.Memory first is = tt

-- ---- one verdict

same_bytes : (o : Option (List ℕ)) (one other : List ℕ) → o ≡ Some one → o ≡ Some other → one ≡ other
same_bytes o one other e f = cc

-- a name that holds a graph is not refused
graph_or_none : (held : Contents) (load : Load) (n : FreeDesign) (fault : AagFault) → HoldsGraph held load n → fault ≢ Memory → HoldsNoGraph held load fault → ⊥
graph_or_none held load n fault one caused none =
    let same = same_bytes (get held load.name) one.bytes none.bytes one.there none.there in
    design_or_fault none.bytes load.limit n (subst (λ (b : List ℕ). IsReadAs b load.limit n) same one.fact) fault caused none.fact

pub one_graph_read : (w : GraphReading) (held : Contents) (u v : Verdict) (s t : List (List ℕ)) (x y : List ℕ) → GraphRead w held u s x → GraphRead w held v t y → u ≡ v
one_graph_read w held Done Done s t x y one other = refl
one_graph_read w held Refused Refused s t x y one other = refl
one_graph_read w held Done Refused s t x y one other = absurd (graph_or_none held (graph_file w.limits w.graph) one.design other.fault one.holds other.caused other.first)
one_graph_read w held Refused Done s t x y one other = absurd (graph_or_none held (graph_file w.limits w.graph) other.design one.fault other.holds one.caused one.first)
one_graph_read w held NotAccepted v s t x y one other = absurd one
one_graph_read w held Done NotAccepted s t x y one other = absurd other
one_graph_read w held Refused NotAccepted s t x y one other = absurd other
