-- What `help` and `version` come to.
use Rattle.std.proofs.Common.{◌≡◌, ℕ, List, refl}
use Rattle.tmr_top.specs.declared.decision.Verdict.{Verdict}
use Rattle.tmr_top.specs.declared.decision.Verdict.TheVariants.{Done, NotAccepted, Refused}
use Rattle.tmr_top.specs.Told.{Told}

-- they come to one verdict
pub one_told : (what : List ℕ) (v w : Verdict) (s r : List (List ℕ)) (x y : List ℕ) → Told what v s x → Told what w r y → v ≡ w
one_told what Done Done s r x y one other = refl
one_told what Done NotAccepted s r x y one other = absurd other
one_told what Done Refused s r x y one other = absurd other
one_told what NotAccepted w s r x y one other = absurd one
one_told what Refused w s r x y one other = absurd one
