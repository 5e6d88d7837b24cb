-- What a hardening comes to.
use Rattle.std.proofs.Common.{◌≡◌, ℕ, zero, suc, ◌+◌, ◌<◌, ◌≤◌, ◌⊎◌, Bool, List, [], ◌∷◌, length, Ok, inl, inr, refl, ap, subst, ◌∙◌, arith}
use Rattle.std.specs.Prelude.{◌↔◌, IsTrue, count_by, nat_eq}
use Rattle.flat_net.specs.Net.{Net, IsValid, net_count, pin_total}
use Rattle.blif_writer.specs.NetOf.{IsFreeNetOf}
use Rattle.blif_writer.specs.Text.{free_text}
use Rattle.certificate.specs.Cert.{PlainCert, IsCert}
use Rattle.certificate.specs.Starts.{counted}
use Rattle.recovery_depth.specs.Extra.{is_extra}
use Rattle.hardened_size.specs.Size.{AreShort, IsHardenedFrom, FlatTextKeepsLimit, HardenedTextsKeepLimits, KeepLimits}
use Rattle.limits.specs.declared.Limits.{Limits}
use Rattle.limits.specs.Most.{most_original, most_hardened, widest_nets}
use Rattle.tmr_top.specs.Private.FlatWithin.{IsFlatWithin}
use Rattle.certificate.specs.Reading.{cert_of_text}
use Rattle.certificate.specs.Text.{cert_text}
use Rattle.partitioner.specs.Cost.{cost}
use Rattle.partitioner.specs.Sizes.{plain_parts}
use Rattle.partitioner.specs.Refining.{IsMinimal}
use Rattle.triplicate.specs.declared.form.Form.{Form}
use Rattle.triplicate.specs.Form.{BoundedForm, parts_of}
use Rattle.triplicate.specs.Result.{is_voter_role}
use Rattle.tmr_outside.specs.Contents.{Contents}
use Rattle.tmr_words.specs.Line.{Pair, Hardening, Harden, TryOut, Validate}
use Rattle.tmr_words.specs.Trials.{Trial}
use Rattle.tmr_top.specs.Loads.{original_file}
use Rattle.tmr_top.specs.Designs.{HoldsDesign}
use Rattle.tmr_top.specs.Hardened.{HasNoExtra, IsHardened}
use Rattle.tmr_texts.specs.FormText.{form_numbers, hardened_lines}
use Rattle.tmr_texts.specs.Texts.{greatest}

pub no_trial : (w : Hardening) (t : Trial) → Harden w ≡ TryOut t → ⊥
no_trial w t e = cc

pub no_check : (w : Hardening) (p : Pair) → Harden w ≡ Validate p → ⊥
no_check w p e = cc

pub hardened_outcome : (held : Contents) (w : Hardening) (n h : Net) (f g : List Bool) (k : PlainCert) (minimal : Bool) (d e text : List ℕ) → HoldsDesign held (original_file w.limits w.original) n f → BoundedForm w.form n f w.size w.version w.most h g k → (length n.nodes < w.most → HasNoExtra w n f h g k) → net_count n + pin_total n ≤ widest_nets → AreShort n h k → (IsTrue minimal ↔ IsMinimal n w.size (parts_of k)) → d ≡ free_text h g → length d ≤ most_hardened w.limits → IsFreeNetOf d (most_hardened w.limits) h g → e ≡ cert_text n h k → length e ≤ most_hardened w.limits → cert_of_text n h e ≡ Ok k → text ≡ hardened_lines (form_numbers n w.size h k minimal) k.version (count_by (λ bit. bit) f) → IsHardened w held (d ∷ e ∷ []) text
hardened_outcome held w n h f g k minimal d e text holds form unbounded few short is_minimal d_is d_short d_read e_is e_short e_read says = record {
  original = n;
  free = f;
  holds = holds;
  hardened = h;
  marks = g;
  certificate = k;
  form = form;
  few = omega (arith, few);
  unbounded = unbounded;
  short = short;
  saves = both;
  read = record {
    design_short = subst (λ (t : List ℕ). length t ≤ most_hardened w.limits) d_is d_short;
    design_read = subst (λ (t : List ℕ). IsFreeNetOf t (most_hardened w.limits) h g) d_is d_read;
    certificate_short = subst (λ (t : List ℕ). length t ≤ most_hardened w.limits) e_is e_short;
    certificate_read = subst (λ (t : List ℕ). cert_of_text n h t ≡ Ok k) e_is e_read;
  };
  minimal = minimal;
  is_minimal = is_minimal;
  says = says;
}
  where
    both : d ∷ e ∷ [] ≡ free_text h g ∷ cert_text n h k ∷ []
    both = ap (λ (t : List ℕ). t ∷ e ∷ []) d_is ∙ ap (λ (t : List ℕ). free_text h g ∷ t ∷ []) e_is

-- the numbers of a form
pub told_numbers : (n h : Net) (k : PlainCert) (size : ℕ) (minimal : Bool) (f : List Bool) (nodes hardened_nodes partitions pairs plain voters depth version count : ℕ) → nodes ≡ length n.nodes → hardened_nodes ≡ length h.nodes → partitions ≡ length k.depth → pairs ≡ cost n (parts_of k) → plain ≡ cost n (plain_parts n size) → voters ≡ count_by is_voter_role k.roles → depth ≡ greatest k.depth → version ≡ k.version → count ≡ count_by (λ bit. bit) f → hardened_lines (record { nodes = nodes; hardened_nodes = hardened_nodes; partitions = partitions; cost = pairs; plain = plain; minimal = minimal; voters = voters; depth = depth }) version count ≡ hardened_lines (form_numbers n size h k minimal) k.version (count_by (λ bit. bit) f)
told_numbers n h k size minimal f nodes hardened_nodes partitions pairs plain voters depth version count a b c d e g i v m = cc

-- a version above 0 and below 3
pub known_version : (v : ℕ) → 0 < v → v < 3 → (v ≡ 1) ⊎ (v ≡ 2)
known_version zero low high = absurd (omega (arith, low))
known_version (suc zero) low high = inl refl
known_version (suc (suc zero)) low high = inr refl
known_version (suc (suc (suc v))) low high = absurd (omega (arith, high))

-- a form that is bounded is one of which the law of lengths speaks
pub hardened_from : (kind : Form) (n h : Net) (f g : List Bool) (size version most : ℕ) (k : PlainCert) → IsValid h → IsCert k → 0 < size → BoundedForm kind n f size version most h g k → IsHardenedFrom n h k
hardened_from kind n h f g size version most k valid certificate some form = record {
  marks = counted k f;
  hardened_marks = counted k g;
  kind = kind;
  size = size;
  inputs = nat_eq version 2;
  extra = is_extra form.extra.marks;
  some = some;
  valid = valid;
  certificate = certificate;
  form = form.form;
}

-- the texts of a hardened form keep the limits of their files, where the original was flattened within its own
pub limits_kept : (l : Limits) (n h : Net) (f : List Bool) (k : PlainCert) → IsHardenedFrom n h k → IsFlatWithin (most_original l) n f → FlatTextKeepsLimit n → HardenedTextsKeepLimits n → KeepLimits l n h k
limits_kept l n h f k from within original law = law l h k f from (original within.library (most_original l) f within.flat)

pub ruleset versions = (known_version)
