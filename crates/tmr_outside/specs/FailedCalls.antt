-- Lists of calls that failed, each with its kind and name.
use Rattle.std.specs.Prelude.{ℕ, Bool, true, false, ◌&&◌, not, List, map, string_bytes, count_by, Vec}
use Rattle.std.specs.Str.{bytes_eq}
use Rattle.std.specs.declared.alloc.Global.{Global}
use Rattle.tmr_outside.specs.declared.failed_calls.CallKind.{CallKind}
use Rattle.tmr_outside.specs.declared.failed_calls.CallKind.TheVariants.{Load, Save}
use Rattle.tmr_outside.specs.declared.failed_calls.FailedCall.{FailedCall}

abbrev pub is_load : CallKind → Bool
is_load Load = true
is_load Save = false

-- how many of the calls are loads of a name
abbrev pub loads_of : List (CallKind × List ℕ) → List ℕ → ℕ
loads_of calls name = count_by (λ call. is_load call.0 && bytes_eq call.1 name) calls

-- how many of the calls are saves of a name
abbrev pub saves_of : List (CallKind × List ℕ) → List ℕ → ℕ
saves_of calls name = count_by (λ call. not (is_load call.0) && bytes_eq call.1 name) calls

-- how the calls are seen
abbrev pub calls_of : Vec FailedCall Global → List (CallKind × List ℕ)
calls_of calls = map (λ call. (call.kind, string_bytes call.name)) calls.items
