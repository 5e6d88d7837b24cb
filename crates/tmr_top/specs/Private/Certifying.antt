-- A certificate that was found.
use Rattle.std.specs.Prelude.{ℕ}
use Rattle.certificate.specs.Cert.{PlainCert}
use Rattle.certifying.specs.Certified.{IsAccepted}
use Rattle.certifying.specs.Finest.{IsFinest}
use Rattle.certifying.specs.Least.{AreLeastLabels}
use Rattle.tmr_top.specs.declared.pair_files.Designs.{Designs}

-- the certificate is accepted for the two designs, it is the finest for its roles, and no labels and depths are smaller
pub record IsFound (version : ℕ) (designs : Designs) (k : PlainCert) : Type 0 where
  pub accepted : IsAccepted designs.original.design.net designs.original.free designs.hardened.design.net designs.hardened.free version k
  pub finest : IsFinest designs.original.design.net designs.original.free designs.hardened.design.net designs.hardened.free k
  pub least : AreLeastLabels designs.hardened.design.net k
