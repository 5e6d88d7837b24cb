-- The marks of the hardened design are marks of it.
use Rattle.std.proofs.Common.{◌≡◌, ℕ, ◌-◌, Bool, true, false, List, [], length, refl, sym, ◌∙◌, ap, subst, Option, Some, None}
use Rattle.std.specs.Prelude.{nat_eq, if◌then◌else◌}
use Rattle.std.specs.Option.{unwrap_or}
use Rattle.std.proofs.lemmas.Bool.{false≢true}
use Rattle.std.proofs.lemmas.List.{length-map}
use Rattle.tmr_base.specs.declared.copies.CopyNo.{CopyNo}
use Rattle.tmr_base.specs.Parts.{PlainParts}
use Rattle.flat_net.specs.Net.{Net, Node, Table, Register, node_of, IsInitOf}
use Rattle.flat_net.specs.Free.{node_bit, AreMarks}
use Rattle.flat_net.proofs.Slots.{slot_none}
use Rattle.certificate.specs.declared.role.Role.{Role}
use Rattle.certificate.specs.declared.role.Role.TheVariants.{Copy, Voter}
use Rattle.certificate.specs.Cert.{PlainCert, role_of, Fits}
use Rattle.certificate.specs.Starts.{counted, role_start, spread_start}
use Rattle.triplicate.specs.Labels.{Labeling}
use Rattle.triplicate.specs.Construction.{node_copy, hardened_net, hardened_cert}
use Rattle.triplicate.specs.Given.{IsGiven}
use Rattle.triplicate.proofs.Certified.{cert_fits}
use Rattle.triplicate.proofs.Tripled.{node_of_role}
use Rattle.triplicate.proofs.Marks.{node_bit_none, slot_of_some, copy_marked}

-- marked are only registers whose initial value is false
abbrev pub MarksFalse : Net → List Bool → Type 0
MarksFalse n free = (x : ℕ) → node_bit (length n.inputs) free x ≡ true → IsInitOf (node_of n x) false

pub counted_marks : (n : Net) (free : List Bool) (k : PlainCert) → MarksFalse n free → MarksFalse n (counted k free)
counted_marks n free k marks = go (nat_eq k.version 1)
  where
    go : (b : Bool) → MarksFalse n (if b then [] else free)
    go true = λ x e. absurd (false≢true (sym (node_bit_none (length n.inputs) x) ∙ e))
    go false = marks

init_copied : (n : Net) (parts : PlainParts) (voted : ℕ → ℕ → Bool) (y : ℕ) (c : CopyNo) (o : Option Node) → IsInitOf o false → IsInitOf (Some (node_copy n parts voted y c o)) false
init_copied n parts voted y c None is = absurd is
init_copied n parts voted y c (Some (Table name cover pins)) is = absurd is
init_copied n parts voted y c (Some (Register name init pin)) is = is

pub marks_are_marks : (n : Net) (parts : PlainParts) (voted : ℕ → ℕ → Bool) (t : Labeling) (is : IsGiven n parts voted t) (free : List Bool) → MarksFalse n free → AreMarks (hardened_net n parts voted) (spread_start (hardened_cert n parts voted t) free)
marks_are_marks n parts voted t is free marks = record {
  one_each = length-map (hardened_cert n parts voted t).roles (role_start (hardened_cert n parts voted t) free) ∙ fits.hardened_nodes;
  registers = λ g e. go g e (role_of (hardened_cert n parts voted t) g) refl;
}
  where
    fits : Fits n (hardened_net n parts voted) (hardened_cert n parts voted t)
    fits = cert_fits n parts voted t is

    go : (g : ℕ) → node_bit (length (hardened_net n parts voted).inputs) (spread_start (hardened_cert n parts voted t) free) g ≡ true → (o : Option Role) → role_of (hardened_cert n parts voted t) g ≡ o → IsInitOf (node_of (hardened_net n parts voted) g) false
    go g e None at = absurd (false≢true (sym (ap (λ (b : Option Bool). unwrap_or b false) (slot_none (hardened_cert n parts voted t).hardened_inputs (length (hardened_net n parts voted).inputs) (hardened_cert n parts voted t).roles (spread_start (hardened_cert n parts voted t) free) g fits.hardened_inputs (sym (length-map (hardened_cert n parts voted t).roles (role_start (hardened_cert n parts voted t) free))) at)) ∙ e))
    go g e (Some (Voter x p c)) at = absurd (false≢true (sym (ap (λ (b : Option Bool). unwrap_or b false) (slot_of_some (role_start (hardened_cert n parts voted t) free) (hardened_cert n parts voted t).hardened_inputs (hardened_cert n parts voted t).roles g (Voter x p c) at)) ∙ (ap (λ m. node_bit m (spread_start (hardened_cert n parts voted t) free) g) fits.hardened_inputs ∙ e)))
    go g e (Some (Copy x c)) at =
        let own : node_bit (length n.inputs) free x.0 ≡ true =
        ap (λ m. node_bit m free x.0) (sym fits.original_inputs) ∙ (sym (copy_marked (hardened_cert n parts voted t) free g x.0 c at) ∙ (ap (λ m. node_bit m (spread_start (hardened_cert n parts voted t) free) g) fits.hardened_inputs ∙ e)) in
        subst (λ (o : Option Node). IsInitOf o false) (sym (node_of_role n parts voted t g (Copy x c) at)) (init_copied n parts voted (x.0 - length n.inputs) c (node_of n x.0) (marks x.0 own))
