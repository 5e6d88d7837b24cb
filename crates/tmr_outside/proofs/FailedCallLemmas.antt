-- How many calls of a list are loads or saves of a name, when a call is added.
use Rattle.std.proofs.Common.{◌≡◌, ◌≢◌, ℕ, ◌+◌, Bool, true, false, cond, List, [], ◌∷◌, ◌++◌, refl, sym, ap, ◌∙◌, ◌&&◌, not, zero-add, add-zero}
use Rattle.std.specs.Prelude.{count_by}
use Rattle.std.specs.Str.{bytes_eq}
use Rattle.std.proofs.lemmas.Bool.{false_from_ne_true}
use Rattle.std.proofs.lemmas.List.Sums.{sum_by-append}
use Rattle.std.proofs.lemmas.Slice.Eq.{bytes_eq-Decides}
use Rattle.tmr_outside.specs.FailedCalls.{is_load, loads_of, saves_of}
use Rattle.tmr_outside.specs.declared.failed_calls.CallKind.{CallKind}
use Rattle.tmr_outside.specs.declared.failed_calls.CallKind.TheVariants.{Load, Save}

counted : (p : CallKind × List ℕ → Bool) (calls : List (CallKind × List ℕ)) (call : CallKind × List ℕ) → count_by p (calls ++ call ∷ []) ≡ count_by p calls + cond (p call) 1 0
counted p calls call = sum_by-append (λ x. cond (p x) 1 0) calls (call ∷ []) ∙ ap (λ n. count_by p calls + n) (zero-add _)

same_name : (name : List ℕ) → bytes_eq name name ≡ true
same_name name = (bytes_eq-Decides name name).1 refl

other_name : (name other : List ℕ) → other ≢ name → bytes_eq name other ≡ false
other_name name other differs = false_from_ne_true (bytes_eq name other) (λ e. differs (sym ((bytes_eq-Decides name other).0 e)))

pub loads_of-load : (calls : List (CallKind × List ℕ)) (name : List ℕ) → loads_of (calls ++ (Load, name) ∷ []) name ≡ loads_of calls name + 1
loads_of-load calls name = counted (λ call. is_load call.0 && bytes_eq call.1 name) calls (Load, name) ∙ ap (λ b. loads_of calls name + cond b 1 0) (same_name name)

pub loads_of-other : (calls : List (CallKind × List ℕ)) (name other : List ℕ) → other ≢ name → loads_of (calls ++ (Load, name) ∷ []) other ≡ loads_of calls other
loads_of-other calls name other differs = counted (λ call. is_load call.0 && bytes_eq call.1 other) calls (Load, name) ∙ ap (λ b. loads_of calls other + cond b 1 0) (other_name name other differs) ∙ add-zero _

pub loads_of-save : (calls : List (CallKind × List ℕ)) (name other : List ℕ) → loads_of (calls ++ (Save, name) ∷ []) other ≡ loads_of calls other
loads_of-save calls name other = counted (λ call. is_load call.0 && bytes_eq call.1 other) calls (Save, name) ∙ add-zero _

pub saves_of-save : (calls : List (CallKind × List ℕ)) (name : List ℕ) → saves_of (calls ++ (Save, name) ∷ []) name ≡ saves_of calls name + 1
saves_of-save calls name = counted (λ call. not (is_load call.0) && bytes_eq call.1 name) calls (Save, name) ∙ ap (λ b. saves_of calls name + cond b 1 0) (same_name name)

pub saves_of-other : (calls : List (CallKind × List ℕ)) (name other : List ℕ) → other ≢ name → saves_of (calls ++ (Save, name) ∷ []) other ≡ saves_of calls other
saves_of-other calls name other differs = counted (λ call. not (is_load call.0) && bytes_eq call.1 other) calls (Save, name) ∙ ap (λ b. saves_of calls other + cond b 1 0) (other_name name other differs) ∙ add-zero _

pub saves_of-load : (calls : List (CallKind × List ℕ)) (name other : List ℕ) → saves_of (calls ++ (Load, name) ∷ []) other ≡ saves_of calls other
saves_of-load calls name other = counted (λ call. not (is_load call.0) && bytes_eq call.1 other) calls (Load, name) ∙ add-zero _

pub ruleset call_rules = (loads_of-load, loads_of-other, loads_of-save, saves_of-save, saves_of-other, saves_of-load)
