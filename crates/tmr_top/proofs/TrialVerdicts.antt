-- A trial comes to one verdict.
use Rattle.std.proofs.Common.{◌≡◌, ℕ, List, refl}
use Rattle.tmr_top.specs.declared.decision.Verdict.{Verdict}
use Rattle.tmr_top.specs.declared.decision.Verdict.TheVariants.{Done, NotAccepted, Refused}
use Rattle.tmr_words.specs.Trials.{Trial}
use Rattle.tmr_top.specs.Tried.{Tried}

pub one_tried : (t : Trial) (v w : Verdict) (s r : List (List ℕ)) (x y : List ℕ) → Tried t v s x → Tried t w r y → v ≡ w
one_tried t Done Done s r x y one other = refl
one_tried t Done NotAccepted s r x y one other = absurd other
one_tried t Done Refused s r x y one other = absurd other
one_tried t NotAccepted w s r x y one other = absurd one
one_tried t Refused w s r x y one other = absurd one
