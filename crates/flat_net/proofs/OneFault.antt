-- A draft has one fault, or none.
use Rattle.std.proofs.Common.{◌≡◌, ◌≢◌, ℕ, ◌⊎◌, inl, inr, List, [], Option, None, Some, refl, sym, ap, subst, ◌∙◌}
use Rattle.std.specs.Prelude.{Result, Ok, Err, MatchResult, IfOk, IfErr, OnOk, IsErrAnd}
use Rattle.tmr_base.specs.declared.ids.Edge.{Edge}
use Rattle.flat_net.specs.Net.{Net, IsOrder}
use Rattle.flat_net.specs.Draft.{PlainDraft, out_of}
use Rattle.flat_net.specs.Faults.{net_of_draft, IsFaultless, IsFaultOf, IsSameFault, same, of_tables, IsDrivenOnce, HasOneClock, HasCleanClock, IsDriven, IsDoubleDriven, IsMixedClock, IsClockUse, IsUndriven, IsCombLoop, is_driven_before, is_mixed, is_no_net, draft_names}
use Rattle.flat_net.specs.declared.fault.NetFault.{NetFault}
use Rattle.flat_net.specs.declared.fault.NetFault.TheVariants.{DoubleDriven, MixedClock, ClockUse, Undriven, CombLoop, Memory}
use Rattle.flat_net.proofs.OneFirst.{none_first, one_first}
use Rattle.flat_net.proofs.NoLoop.{no_loop}

module _ (d : PlainDraft) where
  -- ---- each fault, and its absence

  driven_twice : (name : List ℕ) → IsDoubleDriven d name → IsDrivenOnce d → ⊥
  driven_twice name (element, first, is) none = none_first (is_driven_before d.inputs) d.elements element first none

  mixed : (name : List ℕ) → IsMixedClock d name → HasOneClock d → ⊥
  mixed name (element, first, is) none = none_first is_mixed d.elements element first none

  misused : (name : List ℕ) → IsClockUse d name → HasCleanClock d → ⊥
  misused name (edge, is, use_of) clean = let fine = clean edge name is in cc

  undriven : (name : List ℕ) → IsUndriven d name → IsDriven d → ⊥
  undriven name first none = none_first (is_no_net (draft_names d)) _ name first none

  looped : (names : List (List ℕ)) → IsCombLoop d names → (order : List ℕ) × IsOrder (net_of_draft d) order → ⊥
  looped names (tables, loop, is) (order, ordered) = no_loop (net_of_draft d) order tables ordered loop

  -- a draft without a fault has none
  pub none_or_one : (fault : NetFault) → fault ≢ Memory → IsFaultless d → IsFaultOf d fault → ⊥
  none_or_one (DoubleDriven name) caused fine f = driven_twice name f fine.driven_once
  none_or_one (MixedClock name) caused fine (once, f) = mixed name f fine.one_clock
  none_or_one (ClockUse name) caused fine (once, one, f) = misused name f fine.clean_clock
  none_or_one (Undriven name) caused fine (once, one, clean, f) = undriven name f fine.driven
  none_or_one (CombLoop names) caused fine (once, one, clean, driven, f) = looped names.items f fine.ordered
  none_or_one Memory caused fine f = caused refl

  -- ---- each fault names one net

  one_driven_twice : (a b : List ℕ) → IsDoubleDriven d a → IsDoubleDriven d b → a ≡ b
  one_driven_twice a b (e, first, is) (f, other, also) = sym is ∙ (ap out_of (one_first (is_driven_before d.inputs) d.elements e first f other) ∙ also)

  one_mixed : (a b : List ℕ) → IsMixedClock d a → IsMixedClock d b → a ≡ b
  one_mixed a b (e, first, is) (f, other, also) = sym is ∙ (ap out_of (one_first is_mixed d.elements e first f other) ∙ also)

  one_misused : (a b : List ℕ) → IsClockUse d a → IsClockUse d b → a ≡ b
  one_misused a b (e, is, use_of) (f, also, other) = ap clock_name (sym is ∙ also)
    where
      clock_name : Option (Edge × List ℕ) → List ℕ
      clock_name None = []
      clock_name (Some clock) = clock.1

  one_undriven : (a b : List ℕ) → IsUndriven d a → IsUndriven d b → a ≡ b
  one_undriven a b first other = one_first (is_no_net (draft_names d)) _ a first b other

  alike : (make : List ℕ → NetFault) (a b : List ℕ) → a ≡ b → IsSameFault (make a) (make b)
  alike make a b e = subst (λ c. IsSameFault (make a) (make c)) e (same (make a))

  -- two faults of a draft are the same
  pub one_fault : (f g : NetFault) → f ≢ Memory → g ≢ Memory → IsFaultOf d f → IsFaultOf d g → IsSameFault f g
  one_fault (DoubleDriven a) (DoubleDriven b) p q x y = alike DoubleDriven a b (one_driven_twice a b x y)
  one_fault (DoubleDriven a) (MixedClock b) p q x (once, y) = absurd (driven_twice a x once)
  one_fault (DoubleDriven a) (ClockUse b) p q x (once, one, y) = absurd (driven_twice a x once)
  one_fault (DoubleDriven a) (Undriven b) p q x (once, one, clean, y) = absurd (driven_twice a x once)
  one_fault (DoubleDriven a) (CombLoop b) p q x (once, one, clean, driven, y) = absurd (driven_twice a x once)
  one_fault (MixedClock a) (DoubleDriven b) p q (once, x) y = absurd (driven_twice b y once)
  one_fault (MixedClock a) (MixedClock b) p q (once, x) (also, y) = alike MixedClock a b (one_mixed a b x y)
  one_fault (MixedClock a) (ClockUse b) p q (once, x) (also, one, y) = absurd (mixed a x one)
  one_fault (MixedClock a) (Undriven b) p q (once, x) (also, one, clean, y) = absurd (mixed a x one)
  one_fault (MixedClock a) (CombLoop b) p q (once, x) (also, one, clean, driven, y) = absurd (mixed a x one)
  one_fault (ClockUse a) (DoubleDriven b) p q (once, one, x) y = absurd (driven_twice b y once)
  one_fault (ClockUse a) (MixedClock b) p q (once, one, x) (also, y) = absurd (mixed b y one)
  one_fault (ClockUse a) (ClockUse b) p q (once, one, x) (also, too, y) = alike ClockUse a b (one_misused a b x y)
  one_fault (ClockUse a) (Undriven b) p q (once, one, x) (also, too, clean, y) = absurd (misused a x clean)
  one_fault (ClockUse a) (CombLoop b) p q (once, one, x) (also, too, clean, driven, y) = absurd (misused a x clean)
  one_fault (Undriven a) (DoubleDriven b) p q (once, one, clean, x) y = absurd (driven_twice b y once)
  one_fault (Undriven a) (MixedClock b) p q (once, one, clean, x) (also, y) = absurd (mixed b y one)
  one_fault (Undriven a) (ClockUse b) p q (once, one, clean, x) (also, too, y) = absurd (misused b y clean)
  one_fault (Undriven a) (Undriven b) p q (once, one, clean, x) (also, too, fine, y) = alike Undriven a b (one_undriven a b x y)
  one_fault (Undriven a) (CombLoop b) p q (once, one, clean, x) (also, too, fine, driven, y) = absurd (undriven a x driven)
  one_fault (CombLoop a) (DoubleDriven b) p q (once, one, clean, driven, x) y = absurd (driven_twice b y once)
  one_fault (CombLoop a) (MixedClock b) p q (once, one, clean, driven, x) (also, y) = absurd (mixed b y one)
  one_fault (CombLoop a) (ClockUse b) p q (once, one, clean, driven, x) (also, too, y) = absurd (misused b y clean)
  one_fault (CombLoop a) (Undriven b) p q (once, one, clean, driven, x) (also, too, fine, y) = absurd (undriven b y driven)
  one_fault (CombLoop a) (CombLoop b) p q x y = of_tables a b
  one_fault Memory g p q x y = absurd (p refl)
  one_fault f Memory p q x y = absurd (q refl)

memory_or_not : (fault : NetFault) → (fault ≡ Memory) ⊎ (fault ≢ Memory)
memory_or_not (DoubleDriven name) = inr (λ e. (cc))
memory_or_not (MixedClock name) = inr (λ e. (cc))
memory_or_not (ClockUse name) = inr (λ e. (cc))
memory_or_not (Undriven name) = inr (λ e. (cc))
memory_or_not (CombLoop names) = inr (λ e. (cc))
memory_or_not Memory = inl refl

module _ {F : Type 0} (d : PlainDraft) (net_of : F → Net) where
  -- where there is a design, it is answered
  pub ok_only : (r : Result F NetFault) → IfOk r (λ net. net_of net ≡ net_of_draft d) → IfErr r (λ fault. IsFaultOf d fault) → IsFaultless d → MatchResult r (λ net. net_of net ≡ net_of_draft d) (λ fault. fault ≡ Memory)
  ok_only (Ok net) ok err fine = ok
  ok_only (Err fault) ok err fine = go (memory_or_not fault)
    where
      go : (fault ≡ Memory) ⊎ (fault ≢ Memory) → fault ≡ Memory
      go (inl e) = e
      go (inr caused) = absurd (none_or_one d fault caused fine err)

  -- where there is a fault, it is answered
  pub fault_only : (r : Result F NetFault) → OnOk r (IsFaultless d) → IfErr r (λ fault. IsFaultOf d fault) → (fault : NetFault) → fault ≢ Memory → IsFaultOf d fault → IsErrAnd r (λ answered. (answered ≡ Memory) ⊎ IsSameFault answered fault)
  fault_only (Ok net) fine err fault caused is = none_or_one d fault caused fine is
  fault_only (Err answered) fine err fault caused is = go (memory_or_not answered)
    where
      go : (answered ≡ Memory) ⊎ (answered ≢ Memory) → (answered ≡ Memory) ⊎ IsSameFault answered fault
      go (inl e) = inl e
      go (inr also) = inr (one_fault d answered fault also caused err is)
