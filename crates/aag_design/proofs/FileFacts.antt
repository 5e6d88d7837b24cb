-- The design of a file, or its first fault.
use Rattle.std.proofs.Common.{◌≡◌, ℕ, ◌<◌, ◌≤◌, Bool, true, false, List, length, sym, ap, ◌∙◌, subst, arith}
use Rattle.std.proofs.lemmas.Bool.{leb-true, leb-false}
use Rattle.limits.specs.Most.{widest_original}
use Rattle.flat_net.specs.Net.{Net, IsValid}
use Rattle.blif_writer.specs.Text.{free_text}
use Rattle.flat_net.specs.Free.{FreeDesign, AreMarks}
use Rattle.flat_net.specs.Faults.{net_of_draft}
use Rattle.aag_text.specs.Aig.{PlainAig, plain_aig}
use Rattle.aag_design.specs.Draft.{aig_draft, aig_marks}
use Rattle.aag_text.specs.Variables.{defined, IsDefinedOnce, IsDefined}
use Rattle.aag_text.specs.Lines.{IsFile}
use Rattle.aag_reader.specs.declared.file.Graph.{Graph}
use Rattle.aag_design.specs.declared.fault.AagFault.{AagFault}
use Rattle.aag_design.specs.declared.fault.AagFault.TheVariants.{Line, Doubled, Undefined, Loop, TooLarge, Memory}
use Rattle.aag_design.specs.declared.file.CountedDesign.{CountedDesign}
use Rattle.aag_design.specs.Counts.{counts_of}
use Rattle.aag_design.specs.Private.Drafting.{IsGraph, IsSound, IsLoopOf}
use Rattle.aag_design.specs.Private.Small.{is_small}
use Rattle.aag_design.specs.Read.{design_text, IsGraphOf, IsDesignOf, IsFaultOf, IsReadCounted}
use Rattle.aag_design.specs.Loop.{IsLoop, HasNoLoop}
use Rattle.aag_design.proofs.Bounds.{few_entries, variables_are}
use Rattle.aag_design.proofs.Designs.{same_meaning, are_free_marks}

-- a file's graph is sound
pub file_sound : (bytes : List ℕ) (a : PlainAig) → length bytes ≤ widest_original → IsFile bytes a → IsDefinedOnce a → IsDefined a → IsSound a
file_sound bytes a short file once known = record {
  few = let few = few_entries bytes a file in omega (arith, few, short);
  once = once;
  known = known;
  variables = λ p u e. variables_are bytes a file p u e;
}

pub graph_is : (bytes : List ℕ) (g : Graph) → length bytes ≤ widest_original → IsFile bytes (plain_aig g.aig) → g.variables.keys ≡ defined (plain_aig g.aig) → IsGraph g
graph_is bytes g short file keys =
    let few = few_entries bytes (plain_aig g.aig) file in
    record { inputs = omega (arith, few, short); latches = omega (arith, few, short); outputs = omega (arith, few, short); variables = keys }

pub design_is : (a : PlainAig) (n : FreeDesign) → IsSound a → IsValid n.design.net → n.design.net ≡ net_of_draft (aig_draft a) → n.free ≡ aig_marks a → IsDesignOf a n
design_is a n sound valid net marks = record { net = net; marks = marks; same = same_meaning a sound n (subst IsValid net valid) net marks }

pub marks_fit : (a : PlainAig) (net : Net) (marks : List Bool) → IsSound a → net ≡ net_of_draft (aig_draft a) → marks ≡ aig_marks a → AreMarks net marks
marks_fit a net marks sound e f = subst (λ (m : Net). AreMarks m marks) (sym e) (subst (λ (bs : List Bool). AreMarks (net_of_draft (aig_draft a)) bs) (sym f) (are_free_marks a sound))

pub text_is : (a : PlainAig) (n : FreeDesign) → IsDesignOf a n → free_text n.design.net n.free ≡ design_text a
unfolding design_text
text_is a n of = ap (λ (m : Net). free_text m n.free) of.net ∙ ap (free_text (net_of_draft (aig_draft a))) of.marks

-- the text keeps the limit
text_fits : (limit : ℕ) (a : PlainAig) (n : FreeDesign) → IsDesignOf a n → is_small n limit ≡ true → length (design_text a) ≤ limit
unfolding is_small
text_fits limit a n design small =
    let fits : length (free_text n.design.net n.free) ≤ limit = leb-true _ _ small in
    subst (λ (t : List ℕ). length t ≤ limit) (text_is a n design) fits

pub small_text : (bytes : List ℕ) (limit : ℕ) (a : PlainAig) (r : CountedDesign) → IsGraphOf bytes a → HasNoLoop a → IsDesignOf a r.net → is_small r.net limit ≡ true → r.counts ≡ counts_of a → IsReadCounted bytes limit r
small_text bytes limit a r of no_loop design small counts = record {
  read = record { graph = a; of = of; no_loop = no_loop; small = text_fits limit a r.net design small; design = design };
  counts = counts;
}

pub large_text : (bytes : List ℕ) (limit : ℕ) (a : PlainAig) (n : FreeDesign) → IsGraphOf bytes a → HasNoLoop a → IsDesignOf a n → is_small n limit ≡ false → IsFaultOf bytes limit TooLarge
unfolding is_small
large_text bytes limit a n of no_loop design large =
    let over : limit < length (free_text n.design.net n.free) = leb-false _ _ large in
    (a, of, no_loop, subst (λ (t : List ℕ). limit < length t) (text_is a n design) over)

-- a loop is the first fault of a file
pub loop_first : (bytes : List ℕ) (limit : ℕ) (a : PlainAig) (fault : AagFault) → IsGraphOf bytes a → IsLoopOf a fault → IsFaultOf bytes limit fault
loop_first bytes limit a (Line number) of is = absurd is
loop_first bytes limit a (Doubled v) of is = absurd is
loop_first bytes limit a (Undefined v) of is = absurd is
loop_first bytes limit a (Loop variables) of is = (a, of, is)
loop_first bytes limit a TooLarge of is = absurd is
loop_first bytes limit a Memory of is = tt

pub ruleset file_facts = (file_sound, graph_is, design_is, marks_fit, small_text, large_text, loop_first)
