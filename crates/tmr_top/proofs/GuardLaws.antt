-- What a guarded design comes to, and its check.
use Rattle.std.proofs.Common.{◌≡◌, ℕ, ◌≤◌, ◌⊎◌, zero, suc, Bool, List, [], ◌∷◌, length, inl, inr, refl, ap, subst, arith}
use Rattle.std.specs.Prelude.{count_by, slice_get}
use Rattle.flat_net.specs.Net.{Net}
use Rattle.blif_writer.specs.NetOf.{IsNetOf}
use Rattle.blif_writer.specs.Text.{flat_text}
use Rattle.dwc.specs.Answer.{BreaksFirst}
use Rattle.dwc.specs.Guard.{guard_net}
use Rattle.dwc.specs.Tells.{Guards}
use Rattle.limits.specs.Most.{most_hardened}
use Rattle.tmr_outside.specs.Contents.{Contents}
use Rattle.tmr_words.specs.Line.{Guarding}
use Rattle.tmr_top.specs.Guarded.{IsGuarded, IsUnguarded, IsGuardUnread}
use Rattle.tmr_top.specs.Private.Refused.{AreRefused}
use Rattle.tmr_top.specs.Loads.{original_file, hardened_file}
use Rattle.tmr_top.specs.Designs.{HoldsDesign}
use Rattle.tmr_texts.specs.Texts.{guard_line}

pub guarded_outcome : (held : Contents) (w : Guarding) (n : Net) (a : List Bool) (bytes text : List ℕ) → HoldsDesign held (original_file w.limits w.original) n a → Guards n (guard_net n) → bytes ≡ flat_text (guard_net n) → length bytes ≤ most_hardened w.limits → IsNetOf bytes (most_hardened w.limits) (guard_net n) 0
    → text ≡ guard_line n (guard_net n) (count_by (λ bit. bit) a) → IsGuarded w held (bytes ∷ []) text
guarded_outcome held w n a bytes text holds guards same keeps read says = record {
  original = n;
  free = a;
  holds = holds;
  guards = guards;
  saves = ap (λ (t : List ℕ). t ∷ []) same;
  keeps = subst (λ (t : List ℕ). length t ≤ most_hardened w.limits) same keeps;
  read = subst (λ (t : List ℕ). IsNetOf t (most_hardened w.limits) (guard_net n) 0) same read;
  says = says;
}

-- the first of the two files that is no design
pub none_read : (w : Guarding) (line : List ℕ) (held : Contents) → AreRefused (original_file w.limits w.original) (hardened_file w.limits w.guarded) line held → IsUnguarded w held line ⊎ IsGuardUnread w held line
none_read w line held (inl first) = inl (record { reason = first.reason; unread = first.unread; says = first.says })
none_read w line held (inr second) = inr (record {
  original = second.design;
  free = second.free;
  original_read = second.first_read;
  reason = second.refused.reason;
  unread = second.refused.unread;
  says = second.refused.says;
})

-- a design differs nowhere from itself
pub no_failure : (a b : Net) (rule place : ℕ) → a ≡ b → BreaksFirst a b rule place → ⊥
no_failure a b zero place is fails = absurd (omega (arith, fails.known.0))
no_failure a b (suc zero) place is fails = (fails.frame refl).1 (record { model = ap (λ (d : Net). d.model) is; inputs = ap (λ (d : Net). d.inputs) is; clock = ap (λ (d : Net). d.clock) is })
no_failure a b (suc (suc zero)) place is fails = (fails.nodes refl).differ (ap (λ (d : Net). slice_get d.nodes place) is)
no_failure a b (suc (suc (suc zero))) place is fails = (fails.outputs refl).1.differ (ap (λ (d : Net). slice_get d.outputs place) is)
no_failure a b (suc (suc (suc (suc rule)))) place is fails = absurd (omega (arith, fails.known.1))
