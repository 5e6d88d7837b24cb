-- How long the texts of a hardened design are, beside the flat text of its original.
use Rattle.std.specs.Prelude.{ℕ, ◌*◌, ◌<◌, ◌≤◌, Bool, List, length}
use Rattle.limits.specs.declared.Limits.{Limits}
use Rattle.limits.specs.Most.{most_original, most_hardened}
use Rattle.flat_net.specs.Net.{Net, IsValid}
use Rattle.certificate.specs.Cert.{PlainCert, IsCert}
use Rattle.certificate.specs.Text.{cert_text}
use Rattle.blif_writer.specs.Text.{free_text}
use Rattle.blif_text.specs.Models.{PlainModel}
use Rattle.hierarchy.specs.Flatten.{IsFreeFlat}
use Rattle.triplicate.specs.declared.form.Form.{Form}
use Rattle.triplicate.specs.Form.{HasForm}

-- the flat text of h and the text of certificate k each have at most 128 times the bytes of the flat text of n, whatever
-- registers are marked in the two designs
pub record AreShort (n h : Net) (k : PlainCert) : Type 0 where
  pub design : (f g : List Bool) → length (free_text h g) ≤ 128 * length (free_text n f)
  pub certificate : (f : List Bool) → length (cert_text n h k) ≤ 128 * length (free_text n f)

-- under these limits both texts have at most as many bytes as a file of them may have
pub record KeepLimits (l : Limits) (n h : Net) (k : PlainCert) : Type 0 where
  pub design : (g : List Bool) → length (free_text h g) ≤ most_hardened l
  pub certificate : length (cert_text n h k) ≤ most_hardened l

-- h and k are a hardened form of n: plain or lean, of either version, for some size of partitions and some choice of pins that are voted
-- besides those that have to be
pub record IsHardenedFrom (n h : Net) (k : PlainCert) : Type 0 where
  pub marks : List Bool
  pub hardened_marks : List Bool
  pub kind : Form
  pub size : ℕ
  pub inputs : Bool
  pub extra : ℕ → ℕ → Bool
  pub some : 0 < size
  pub valid : IsValid h
  pub certificate : IsCert k
  pub form : HasForm kind n marks size h hardened_marks k inputs extra

-- the texts of each hardened form are short
abbrev pub HardenedTextsAreShort : Net → Type 0
HardenedTextsAreShort n = (h : Net) (k : PlainCert) → IsHardenedFrom n h k → AreShort n h k

-- so they keep their limit where the flat text of the original keeps its own, with the usual limits and with the large ones
abbrev pub HardenedTextsKeepLimits : Net → Type 0
HardenedTextsKeepLimits n =
    (l : Limits) (h : Net) (k : PlainCert) (f : List Bool) → IsHardenedFrom n h k → length (free_text n f) ≤ most_original l → KeepLimits l n h k

-- a design that a library is flattened to within a limit has a flat text within it
abbrev pub FlatTextKeepsLimit : Net → Type 0
FlatTextKeepsLimit n = (library : List PlainModel) (limit : ℕ) (f : List Bool) → IsFreeFlat library limit n f → length (free_text n f) ≤ limit
