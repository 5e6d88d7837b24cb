-- What a certificate that is found is.
use Rattle.std.specs.Prelude.{◌≡◌, ℕ, Bool, List}
use Rattle.flat_net.specs.Net.{Net}
use Rattle.certificate.specs.Cert.{PlainCert, IsCert, Fits}
use Rattle.certificate.specs.Rules.{FreeCorresponds}

-- k is a certificate of this version that the eight rules accept for n and h, of which f and g are the marks
pub record IsAccepted (n : Net) (f : List Bool) (h : Net) (g : List Bool) (version : ℕ) (k : PlainCert) : Type 0 where
  pub versioned : k.version ≡ version
  pub cert : IsCert k
  pub fits : Fits n h k
  pub rules : FreeCorresponds n f h g k
