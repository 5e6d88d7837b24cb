-- From what a step answers to the fault of the draft.
use Rattle.std.proofs.Common.{◌≡◌, ◌≢◌, ℕ, suc, ◌-◌, ◌<◌, ◌⊎◌, inl, inr, not, List, ◌++◌, length, get_or, Option, Some, None, subst, sym, arith}
use Rattle.std.specs.Prelude.{Contains, Result, Ok, Err, IfErr, IsErrAnd}
use Rattle.flat_net.specs.declared.fault.NetFault.{NetFault}
use Rattle.flat_net.specs.declared.fault.NetFault.TheVariants.{DoubleDriven, MixedClock, ClockUse, Undriven, CombLoop, Memory}
use Rattle.flat_net.specs.Draft.{PlainDraft}
use Rattle.flat_net.specs.First.{HasNone, IsFirst}
use Rattle.flat_net.specs.Faults.{is_among, is_no_net, draft_names, draft_reads, IsDrivenOnce, HasOneClock, HasCleanClock, IsDriven, IsFaultOf, net_of_draft}
use Rattle.flat_net.specs.Private.LoopFaults.{IsLoopFault}
use Rattle.flat_net.specs.Net.{Net, Node, Table, Register, node_of, net_count, table_pins, IsTable}
use Rattle.flat_net.specs.Loop.{IsLoop}
use Rattle.flat_net.proofs.Ranges.{table_within}
use Rattle.std.proofs.lemmas.Bool.{cases_eq}
use Rattle.flat_net.proofs.Firsts.{first_after}

pub undriven_fault : (d : PlainDraft) (fault : NetFault) → IsDrivenOnce d → HasOneClock d → HasCleanClock d → (fault ≢ Memory → (name : List ℕ) × IsFirst (is_no_net (draft_names d)) (draft_reads d ++ d.outputs) name × (fault ≡ Undriven name)) → IsFaultOf d fault
undriven_fault d (DoubleDriven n) once one clean found = let (name, first, is) = found (λ e. (cc)) in absurd (cc)
undriven_fault d (MixedClock n) once one clean found = let (name, first, is) = found (λ e. (cc)) in absurd (cc)
undriven_fault d (ClockUse n) once one clean found = let (name, first, is) = found (λ e. (cc)) in absurd (cc)
undriven_fault d (Undriven n) once one clean found =
    let (name, first, is) = found (λ e. (cc)) in
    let same : n ≡ name = cc in
    (once, one, clean, rw same first)
undriven_fault d (CombLoop names) once one clean found = let (name, first, is) = found (λ e. (cc)) in absurd (cc)
undriven_fault d Memory once one clean found = tt

-- all pins are nets, and so the first name that is none is an output
pub undriven_output : (d : PlainDraft) (fault : NetFault) (keys : List (List ℕ)) → keys ≡ draft_names d → HasNone (is_no_net keys) (draft_reads d) → (fault ≢ Memory → (name : List ℕ) × IsFirst (is_no_net keys) d.outputs name × (fault ≡ Undriven name)) → fault ≢ Memory → (name : List ℕ) × IsFirst (is_no_net (draft_names d)) (draft_reads d ++ d.outputs) name × (fault ≡ Undriven name)
undriven_output d fault keys k nets found other =
    let (name, first, is) = found other in
    (name, subst (λ (ks : List (List ℕ)). IsFirst (is_no_net ks) (draft_reads d ++ d.outputs) name) k (first_after (λ x. not (is_among keys x)) (draft_reads d) d.outputs name nets first), is)

pub loop_fault : (d : PlainDraft) (n : Net) (fault : NetFault) → n ≡ net_of_draft d → IsDrivenOnce d → HasOneClock d → HasCleanClock d → IsDriven d → IsLoopFault n fault → IsFaultOf d fault
loop_fault d n (DoubleDriven name) same once one clean driven l = absurd l
loop_fault d n (MixedClock name) same once one clean driven l = absurd l
loop_fault d n (ClockUse name) same once one clean driven l = absurd l
loop_fault d n (Undriven name) same once one clean driven l = absurd l
loop_fault d n (CombLoop names) same once one clean driven l = (once, one, clean, driven, rw same at l)
loop_fault d n Memory same once one clean driven l = tt

reads_some : (o : Option Node) (y : ℕ) → Contains (table_pins o) y → IsTable o
reads_some None y (at, below, is) = omega arith
reads_some (Some (Table name cover pins)) y there = tt
reads_some (Some (Register name init pin)) y (at, below, is) = omega arith

-- the tables of a loop are tables
pub loop_table : (n : Net) (tables : List ℕ) → IsLoop n tables → (k : ℕ) → k < length tables → IsTable (node_of n (get_or tables k 0))
loop_table n tables loop k h = go (cases_eq (suc k) (length tables))
  where
    go : (suc k ≡ length tables) ⊎ (suc k ≡ length tables → ⊥) → IsTable (node_of n (get_or tables k 0))
    go (inl e) = let last : k ≡ length tables - 1 = omega arith in rw last (reads_some _ _ loop.closed)
    go (inr ne) = reads_some _ _ (loop.next k (omega arith))

pub loop_within : (n : Net) (tables : List ℕ) → IsLoop n tables → (k : ℕ) → k < length tables → get_or tables k 0 < net_count n
loop_within n tables loop k h = (table_within n (get_or tables k 0) (loop_table n tables loop k h)).1

-- what the exit of a `?` answers
pub told_fault : {T : Type 0} (r : Result T NetFault) (fault : NetFault) (P : NetFault → Type 0) → IsErrAnd r (λ x. x ≡ fault) → P fault → IfErr r P
told_fault (Ok value) fault P is holds = absurd is
told_fault (Err error) fault P is holds = subst P (sym is) holds
