-- What is seen of files in memory where a call fails.
use Rattle.std.proofs.Common.{◌≡◌, ◌≢◌, ℕ, List, [], ◌∷◌, ◌++◌, None, Result, Err, refl, ap, ◌∙◌, arith}
use Rattle.std.specs.Prelude.{OnOk, OnErr}
use Rattle.std.specs.FinMap.{empty, get, insert}
use Rattle.std.proofs.lemmas.Grind.{common_steps}
use Rattle.tmr_outside.specs.Contents.{Contents}
use Rattle.tmr_outside.specs.FailedCalls.{loads_of, saves_of}
use Rattle.tmr_outside.specs.Loading.{IsLoad}
use Rattle.tmr_outside.specs.MemoryFiles.{files_seen}
use Rattle.tmr_outside.specs.Plan.{Plan}
use Rattle.tmr_outside.specs.Saving.{IsSave}
use Rattle.tmr_outside.specs.declared.failed_calls.CallKind.{CallKind}
use Rattle.tmr_outside.specs.declared.failed_calls.CallKind.TheVariants.{Load, Save}
use Rattle.tmr_outside.specs.declared.faults.LoadFault.{LoadFault}
use Rattle.tmr_outside.specs.declared.faults.LoadFault.TheVariants as load
use Rattle.tmr_outside.specs.declared.faults.SaveFault.{SaveFault}
use Rattle.tmr_outside.specs.declared.faults.SaveFault.TheVariants as save
use Rattle.tmr_outside.proofs.ContentsLemmas.{contents_rules}
use Rattle.tmr_outside.proofs.FailedCallLemmas.{loads_of-other, saves_of-other, call_rules}

-- ---- loads

other_loads : (name n : List ℕ) (why : LoadFault) (old new : List (CallKind × List ℕ)) → (why ≡ load.Failed → new ≡ old ++ (Load, name) ∷ []) → (why ≡ load.Memory → new ≡ old) → why ≢ load.TooLong → n ≢ name → loads_of new n ≡ loads_of old n
other_loads name n load.Failed old new noted memory other differs = rw (noted refl) (loads_of-other old name n differs)
other_loads name n load.Memory old new noted memory other differs = ap (λ calls. loads_of calls n) (memory refl)
other_loads name n load.TooLong old new noted memory other differs = absurd (other refl)

-- a load that was to fail, or of a file that is not there
pub load_fails : {A : Type 0} (name : List ℕ) (limit : ℕ) (why : LoadFault) (held : Contents) (before after : List (CallKind × List ℕ)) (plan next : Plan) → (why ≡ load.Failed → after ≡ before ++ (Load, name) ∷ []) → (why ≡ load.Memory → after ≡ before) → why ≢ load.TooLong → next.failing ≡ plan.failing → (plan.failing ≡ empty → get held name ≡ None) → IsLoad {A = A} name limit (Err why) (files_seen record { held = held; failed = before; plan = plan }) (files_seen record { held = held; failed = after; plan = next }) (plan.failing ≡ empty) (next.failing ≡ empty)
load_fails name limit why held before after plan next noted memory other failing absent = record {
  stays = refl;
  too_long = grind (arith, common_steps, call_rules);
  too_long_only = tt;
  failed = grind (arith, common_steps, call_rules);
  missing = grind (arith, common_steps, call_rules);
  loads = grind (arith, common_steps, call_rules);
  saves = grind (arith, common_steps, call_rules);
  other_loads = λ told n differs. other_loads name n why before after noted memory other differs;
  no_saves = grind (arith, common_steps, call_rules);
  answered = grind (arith, common_steps, call_rules);
  steady = λ was. failing ∙ was;
  steady_failed = λ was is. absent was;
  steady_counts = grind (arith, common_steps, call_rules);
}

-- ---- saves

other_saves : (name n : List ℕ) (why : SaveFault) (old new : List (CallKind × List ℕ)) → (why ≡ save.Failed → new ≡ old ++ (Save, name) ∷ []) → (why ≡ save.Memory → new ≡ old) → n ≢ name → saves_of new n ≡ saves_of old n
other_saves name n save.Failed old new noted memory differs = rw (noted refl) (saves_of-other old name n differs)
other_saves name n save.Memory old new noted memory differs = ap (λ calls. saves_of calls n) (memory refl)

-- a save that was not to fail
pub save_stores : {A : Type 0} (name bytes : List ℕ) (answer : Result A SaveFault) (held left : Contents) (calls : List (CallKind × List ℕ)) (plan next : Plan) → OnOk answer (left ≡ insert held name bytes) → OnErr answer (left ≡ held) → answer ≢ Err save.Failed → next.failing ≡ plan.failing → IsSave name bytes answer (files_seen record { held = held; failed = calls; plan = plan }) (files_seen record { held = left; failed = calls; plan = next }) (plan.failing ≡ empty) (next.failing ≡ empty)
save_stores name bytes answer held left calls plan next stored kept kinds failing = record {
  ok = grind (arith, common_steps);
  memory = grind (arith, common_steps);
  others = grind (arith, common_steps, contents_rules);
  failed = grind (arith, common_steps);
  loads = grind (arith, common_steps);
  saves = grind (arith, common_steps);
  no_loads = λ told n. refl;
  other_saves = λ told n differs. refl;
  answered = λ told is. refl;
  steady = λ was. failing ∙ was;
  steady_ok = λ was. (kinds, (λ n. refl), λ n. refl);
}

-- a save that was to fail
pub save_fails : {A : Type 0} (name bytes kept : List ℕ) (why : SaveFault) (held left : Contents) (before after : List (CallKind × List ℕ)) (plan next : Plan) → (why ≡ save.Failed → after ≡ before ++ (Save, name) ∷ []) → (why ≡ save.Failed → left ≡ insert held name kept) → (why ≡ save.Memory → after ≡ before) → (why ≡ save.Memory → left ≡ held) → next.failing ≡ plan.failing → plan.failing ≢ empty → IsSave {A = A} name bytes (Err why) (files_seen record { held = held; failed = before; plan = plan }) (files_seen record { held = left; failed = after; plan = next }) (plan.failing ≡ empty) (next.failing ≡ empty)
save_fails name bytes kept why held left before after plan next noted stored memory same failing planned = record {
  ok = tt;
  memory = grind (arith, common_steps);
  others = grind (arith, common_steps, contents_rules);
  failed = grind (arith, common_steps, call_rules);
  loads = grind (arith, common_steps, call_rules);
  saves = grind (arith, common_steps, call_rules);
  no_loads = grind (arith, common_steps, call_rules);
  other_saves = λ told n differs. other_saves name n why before after noted memory differs;
  answered = grind (arith, common_steps, call_rules);
  steady = λ was. failing ∙ was;
  steady_ok = λ was. absurd (planned was);
}
