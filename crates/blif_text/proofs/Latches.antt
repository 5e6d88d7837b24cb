-- A latch whose TYPE and CONTROL are given, and no INIT.
use Rattle.std.proofs.Common.{◌≡◌, ◌≤◌, ◌<◌, arith, length, get_or, ℕ, List, [], ◌∷◌, refl, sym, ap, Option, Some, None, Result}
use Rattle.std.specs.Borrow.{Bor}
use Rattle.blif_text.specs.declared.fault.Refusal.{Refusal}
use Rattle.blif_text.specs.declared.fault.TextKind.{TextKind}
use Rattle.blif_text.specs.declared.library.Element.{Element}
use Rattle.blif_text.specs.declared.library.Init.TheVariants.{Unknown as Unset}
use Rattle.blif_text.specs.Kind.{◌or_else◌, ends_kind, control_kind, latch_kind}
use Rattle.blif_text.specs.Models.{Register, control, register}
use Rattle.blif_text.specs.Views.{plain_element}
use Rattle.blif_text.specs.Private.Answers.{Answers, plain}
use Rattle.blif_text.proofs.Refusals.{answers_so, nothing_more}

no_start : (ends clock : Option TextKind) → (ends or_else (clock or_else None)) ≡ (ends or_else clock)
no_start None clock = nothing_more clock
no_start (Some kind) clock = refl

pub clocked : (tokens : List (Bor (List ℕ))) (i j k l : Bor (List ℕ)) (r : Result Element Refusal) → 4 ≤ length tokens → length tokens < 5
    → Answers r (ends_kind (get_or tokens 0 i).now (get_or tokens 1 j).now or_else (control_kind (get_or tokens 2 k).now (get_or tokens 3 l).now or_else None))
    (λ e. plain_element e ≡ Register (get_or tokens 0 i).now (get_or tokens 1 j).now (control (get_or tokens 2 k).now (get_or tokens 3 l).now) Unset)
    → Answers r (latch_kind (plain tokens)) (λ e. register (plain tokens) ≡ plain_element e ∷ [])
unfolding latch_kind register
clocked (pin ∷ out ∷ type ∷ clock ∷ []) i j k l r low high a =
    answers_so r _ _ _ _ (no_start (ends_kind pin.now out.now) (control_kind type.now clock.now)) (λ e is. ap (λ x. x ∷ []) (sym is)) a
clocked [] i j k l r low high a = absurd (omega (arith, low))
clocked (pin ∷ []) i j k l r low high a = absurd (omega (arith, low))
clocked (pin ∷ out ∷ []) i j k l r low high a = absurd (omega (arith, low))
clocked (pin ∷ out ∷ type ∷ []) i j k l r low high a = absurd (omega (arith, low))
clocked (pin ∷ out ∷ type ∷ clock ∷ more ∷ tokens) i j k l r low high a = absurd (omega (arith, high))
