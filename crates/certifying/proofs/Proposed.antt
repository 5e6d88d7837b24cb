-- What is proposed is the finest, with the least labels and depths.
use Rattle.std.proofs.Common.{ℕ, Bool, List, sym, subst}
use Rattle.flat_net.specs.Net.{Net, IsValid}
use Rattle.certificate.specs.Cert.{PlainCert}
use Rattle.certifying.specs.Finest.{IsFinest}
use Rattle.certifying.specs.Least.{AreLeastLabels}
use Rattle.certifying.specs.Private.Refined.{IsProposed}
use Rattle.certifying.proofs.FinestLaws.{finest, least}

pub proposed_finest : (n h : Net) (f g : List Bool) (version : ℕ) (k : PlainCert) → IsValid n → IsValid h → IsProposed n h version k → IsFinest n f h g k
proposed_finest n h f g version k valid_n valid_h p =
    let r = p.refines in
    subst (IsFinest n f h g) (sym r.is) (finest n h p.base p.bare.cert p.bare.fits r.up r.readers r.depth r.part r.labels r.threes r.roles r.found f g valid_n valid_h)

pub proposed_least : (n h : Net) (version : ℕ) (k : PlainCert) → IsProposed n h version k → AreLeastLabels h k
proposed_least n h version k p =
    let r = p.refines in
    subst (AreLeastLabels h) (sym r.is) (least n h p.base p.bare.cert p.bare.fits r.up r.readers r.depth r.part r.labels r.threes r.roles r.found)
