-- What a refusal says of one kind it says of an equal one.
use Rattle.std.proofs.Common.{◌≡◌, Option, Some, None, Result, Ok, Err, ◌∙◌, refl, sym}
use Rattle.blif_text.specs.Kind.{◌or_else◌}
use Rattle.blif_text.specs.declared.fault.TextKind.{TextKind}
use Rattle.blif_text.specs.declared.fault.Refusal.{Refusal}
use Rattle.blif_text.specs.declared.fault.Refusal.TheVariants as refusals
use Rattle.blif_text.specs.Private.Answers.{Answers}

pub refused_so : {X Y : Type 0} (e : Refusal) (kind other : Option TextKind) (P : X → Type 0) (Q : Y → Type 0) → kind ≡ other → Answers (Err e) kind P → Answers (Err e) other Q
refused_so (refusals.Bad k) kind other P Q same h = sym same ∙ h
refused_so refusals.Memory kind other P Q same h = tt

-- and what an answer says
pub answers_so : {X : Type 0} (r : Result X Refusal) (kind other : Option TextKind) (P Q : X → Type 0) → kind ≡ other → ((x : X) → P x → Q x) → Answers r kind P → Answers r other Q
answers_so (Ok x) kind other P Q same more h = (sym same ∙ h.0, more x h.1)
answers_so (Err e) kind other P Q same more h = refused_so e kind other P Q same h

-- nothing more to refuse
pub nothing_more : (kind : Option TextKind) → (kind or_else None) ≡ kind
nothing_more None = refl
nothing_more (Some kind) = refl
