-- What a hardened form and its texts are.
use Rattle.std.specs.Prelude.{◌≡◌, ◌≤◌, ℕ, Bool, List, length, Ok}
use Rattle.flat_net.specs.Net.{IsValid}
use Rattle.flat_net.specs.Free.{FreeDesign}
use Rattle.blif_writer.specs.NetOf.{IsFreeNetOf}
use Rattle.blif_writer.specs.Text.{free_text}
use Rattle.certificate.specs.Cert.{IsCert, Fits}
use Rattle.certificate.specs.Reading.{cert_of_text}
use Rattle.certificate.specs.Text.{cert_text}
use Rattle.triplicate.specs.declared.form.Form.{Form}
use Rattle.triplicate.specs.declared.hardened.HardenedFree.{HardenedFree}
use Rattle.triplicate.specs.Planned.{IsPlan, pair_in}
use Rattle.triplicate.specs.Result.{IsBoundedPair}
use Rattle.hardened_text.specs.declared.form.HardenedForm.{HardenedForm}

-- the flat text of the hardened design that a form's plan stands for
abbrev pub design_text : FreeDesign → HardenedForm → List ℕ
design_text n t = free_text (pair_in n t.plan).net.design.net (pair_in n t.plan).net.free

-- the text of the certificate that it stands for
abbrev pub certificate_text : FreeDesign → HardenedForm → List ℕ
certificate_text n t = cert_text n.design.net (pair_in n t.plan).net.design.net (pair_in n t.plan).cert

-- a form's plan is one of this design, so that both texts can be given
pub record IsFormed (n : FreeDesign) (t : HardenedForm) : Type 0 where
  pub kind : Form
  pub size : ℕ
  pub inputs : Bool
  pub most : ℕ
  pub planned : IsPlan kind n.design.net size inputs most t.plan

-- one pair in a hardened form, of which all that is answered is told: the flat text of the hardened design, which is read
-- and flattened back to it for every limit that it keeps; the text of the certificate, which is read back to it; and numbers
pub record IsFormOf (kind : Form) (n : FreeDesign) (size version most : ℕ) (t : HardenedForm) : Type 0 where
  pub formed : IsFormed n t
  pub pair : HardenedFree
  pub bounded : IsBoundedPair kind n size version most pair
  pub valid : IsValid pair.net.design.net
  pub certified : IsCert pair.cert
  pub fits : Fits n.design.net pair.net.design.net pair.cert
  pub design : design_text n t ≡ free_text pair.net.design.net pair.net.free
  pub design_read : (limit : ℕ) → length (free_text pair.net.design.net pair.net.free) ≤ limit →
      IsFreeNetOf (free_text pair.net.design.net pair.net.free) limit pair.net.design.net pair.net.free
  pub certificate : certificate_text n t ≡ cert_text n.design.net pair.net.design.net pair.cert
  pub certificate_read : cert_of_text n.design.net pair.net.design.net (cert_text n.design.net pair.net.design.net pair.cert) ≡ Ok pair.cert
  pub nodes : t.nodes ≡ length pair.net.design.net.nodes
  pub partitions : t.partitions ≡ length pair.cert.depth
  pub depths : t.depths.items ≡ pair.cert.depth
  pub cost : t.cost ≡ pair.cost
  pub plain : t.plain ≡ pair.plain
  pub minimal : t.minimal ≡ pair.minimal
  pub voters : t.voters ≡ pair.voters
