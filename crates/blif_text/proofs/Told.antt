-- What a reader answers once a piece is taken.
use Rattle.std.proofs.Common.{◌≡◌, ℕ, List, [], ◌++◌, IfErr, sym, ◌∙◌, ap, subst, append-nil, Option, Some, None, Result, Ok, Err}
use Rattle.blif_text.specs.declared.fault.TextFault.{TextFault}
use Rattle.blif_text.specs.declared.fault.TextFault.TheVariants as faults
use Rattle.blif_text.specs.Private.Pending.{Pending}
use Rattle.blif_text.specs.Private.Progress.{Progress}
use Rattle.blif_text.specs.Reading.{reading, ended_bad, IsFaultOf}
use Rattle.blif_text.specs.Private.Stands.{IsBadOf}
use Rattle.blif_text.specs.Reader.{HasRead, FirstBadIs}
use Rattle.blif_text.proofs.Pass.{stands-good}
use Rattle.blif_text.proofs.Taken.{bad_given, bad_longer}

bad_now : (given : List ℕ) (fault : TextFault) → IsBadOf given fault → FirstBadIs (ended_bad given) (Err fault)
bad_now given (faults.Bad line kind) h = ap ended_bad (sym (append-nil given)) ∙ h []
bad_now given faults.Memory h = tt

pub told_none : (p : Pending) (q : Progress) (given : List ℕ) (fault : Option TextFault) (r : Result (Unit {0}) TextFault) → fault ≡ None → r ≡ Ok tt
    → HasRead fault p q given → FirstBadIs (ended_bad given) r
told_none p q given fault r none is read =
    subst (FirstBadIs (ended_bad given)) (sym is) (stands-good p q given (subst (λ f. HasRead f p q given) none read))

pub told_some : (p : Pending) (q : Progress) (given : List ℕ) (fault : Option TextFault) (r : Result (Unit {0}) TextFault) (f : TextFault) → fault ≡ Some f → r ≡ Err f
    → HasRead fault p q given → FirstBadIs (ended_bad given) r
told_some p q given fault r f some is read =
    subst (FirstBadIs (ended_bad given)) (sym is) (bad_now given f (subst (λ f. HasRead f p q given) some read))

-- what a fault says of every text that begins so
abbrev pub BeginsBadly : List ℕ → TextFault → Type 0
BeginsBadly given fault = (more : List ℕ) → IsFaultOf (reading (given ++ more)) fault

pub bad_none : (given : List ℕ) (r : Result (Unit {0}) TextFault) → r ≡ Ok tt → IfErr r (BeginsBadly given)
bad_none given r is = subst (λ r. IfErr r (BeginsBadly given)) (sym is) tt

pub bad_some : (p : Pending) (q : Progress) (given : List ℕ) (fault : Option TextFault) (r : Result (Unit {0}) TextFault) (f : TextFault) → fault ≡ Some f → r ≡ Err f
    → HasRead fault p q given → IfErr r (BeginsBadly given)
bad_some p q given fault r f some is read =
    let bad : IsBadOf given f = subst (λ f. HasRead f p q given) some read in
    subst (λ r. IfErr r (BeginsBadly given)) (sym is) (λ more. bad_given (given ++ more) f (bad_longer given more f bad))

pub for_all : (r : Result (Unit {0}) TextFault) (S : List ℕ → Type 0) (piece : List ℕ) → ((given : List ℕ) → S given → IfErr r (BeginsBadly (given ++ piece)))
    → IfErr r (λ fault. (given more : List ℕ) → S given → IsFaultOf (reading ((given ++ piece) ++ more)) fault)
for_all (Ok u) S piece h = tt
for_all (Err fault) S piece h = λ given more s. h given s more
