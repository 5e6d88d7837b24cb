-- The numbers of calls, and which calls are to fail.
use Rattle.std.specs.Prelude.{ℕ, ◌+◌, ◌-◌, ◌^◌, min, Option, refl}
use Rattle.std.specs.Coded.{Coded, code_by, coded×, coded_ℕ}
use Rattle.std.specs.Ordering.{nat_cmp}
use Rattle.std.specs.BTreeMap.{BTreeMap}
use Rattle.std.specs.FinMap.{FinMap, get, insert, from_entries, code}

-- the number of the next call, and the calls that are to fail, each with the length of the prefix that it leaves
pub record Plan : Type 0 where
  pub next_call : ℕ
  pub failing : FinMap nat_cmp ℕ

-- a plan is stored as the pair of its fields
abbrev pub plan_code : Coded Plan
plan_code = code_by (ℕ × FinMap nat_cmp ℕ) (coded× coded_ℕ (code coded_ℕ coded_ℕ))
    (λ plan. (plan.next_call, plan.failing)) (λ p. record { next_call = p.0; failing = p.1 }) (λ _. refl)

-- the length of the prefix that the next call leaves, if it is to fail
abbrev pub prefix_left : Plan → Option ℕ
prefix_left plan = get plan.failing plan.next_call

-- the call after this one is the next; the last number of 64 bits stays
abbrev pub after_call : Plan → Plan
after_call plan = record plan { next_call = min (plan.next_call + 1) (2 ^ 64 - 1) }

-- one more call is to fail, or leaves another prefix
abbrev pub with_failure : Plan → ℕ → ℕ → Plan
with_failure plan call keep = record plan { failing = insert plan.failing call keep }

-- how the map of the calls that are to fail is seen
abbrev pub failing_of : BTreeMap ℕ ℕ → FinMap nat_cmp ℕ
failing_of failing = from_entries failing.entries
