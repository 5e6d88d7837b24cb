-- The file of a design has no fault but its size.
use Rattle.std.proofs.Common.{◌≡◌, ℕ, ◌-◌, ◌<◌, ◌≤◌, ◌⊎◌, inl, inr, List, length, sym, ap, subst, arith}
use Rattle.std.specs.Prelude.{All, slice_index}
use Rattle.std.proofs.lemmas.Bool.{cases_lt}
use Rattle.flat_net.specs.Free.{FreeDesign}
use Rattle.aag_text.specs.declared.aig.Gate.{Gate}
use Rattle.aag_text.specs.Aig.{PlainAig, ReadsLesser}
use Rattle.aag_text.specs.Variables.{defined, is_among, is_undefined, read_variables, IsDefinedOnce, IsDefined}
use Rattle.aag_text.specs.Lines.{IsFile}
use Rattle.aag_text.specs.Written.{IsFileOf}
use Rattle.aag_reader.proofs.OneFile.{one_file, file_or_bad, none_or_first}
use Rattle.aag_design.specs.declared.fault.AagFault.{AagFault}
use Rattle.aag_design.specs.declared.fault.AagFault.TheVariants.{Line, Doubled, Undefined, Loop, TooLarge, Memory}
use Rattle.aag_design.specs.Loop.{ReadsGate, IsLoop, HasNoLoop}
use Rattle.aag_design.specs.Read.{IsFaultOf}
use Rattle.aag_design.specs.ReadBack.{IsOfSize, IsReadBack}
use Rattle.aag_design.proofs.GateLoops.{two_in}

-- a gate that reads lesser variables
one_less : (a : PlainAig) (v u : ℕ) → All ReadsLesser a.gates → ReadsGate a v u → u < v
one_less a v u lesser r =
    let (k, below, is) = r.there in
    let own : ReadsLesser r.gate = subst ReadsLesser is (lesser k _ below) in
    go own (two_in r.gate.left.variable r.gate.right.variable u r.reads)
  where
    go : ReadsLesser r.gate → (r.gate.left.variable ≡ u) ⊎ (r.gate.right.variable ≡ u) → u < v
    go own (inl e) = omega (arith, own.0, e, r.variable)
    go own (inr e) = omega (arith, own.1, e, r.variable)

-- gates that read lesser variables are no loop
no_loop : (a : PlainAig) → All ReadsLesser a.gates → HasNoLoop a
no_loop a lesser variables is = go (cases_lt 1 (length variables))
  where
    go : (1 < length variables) ⊎ (length variables ≤ 1) → ⊥
    go (inl more) =
        let less = one_less a (slice_index variables 0) (slice_index variables 1) lesser (is.next 0 more) in
        let least = is.least 1 more in
        omega (arith, less, least)
    go (inr one) =
        let last : length variables - 1 ≡ 0 = omega (arith, one) in
        let less = one_less a (slice_index variables (length variables - 1)) (slice_index variables 0) lesser is.closed in
        let same = ap (slice_index variables) last in
        omega (arith, less, same)

module _ (n : FreeDesign) (bytes : List ℕ) (file : IsFileOf n bytes) (limit : ℕ) where
  same : (a : PlainAig) → IsFile bytes a → file.graph ≡ a
  same a is = one_file bytes file.graph a file.file is

  of_size : (fault : AagFault) → IsFaultOf bytes limit fault → IsOfSize fault
  of_size (Line number) is = file_or_bad bytes file.graph file.file number is
  of_size (Doubled v) (a, is, first) = none_or_first is_among (defined a) v (subst IsDefinedOnce (same a is) file.defined.once) first
  of_size (Undefined v) (a, is, once, first) = none_or_first (is_undefined a) (read_variables a) v (subst IsDefined (same a is) file.defined.known) first
  of_size (Loop variables) (a, of, is) =
      no_loop file.graph file.defined.lesser variables.items (subst (λ (g : PlainAig). IsLoop g variables.items) (sym (same a of.file)) is)
  of_size TooLarge is = tt
  of_size Memory is = tt

  pub read_back : IsReadBack n bytes file limit
  read_back = record { fault = of_size; graph = λ m read. sym (same read.graph read.of.file) }
