-- What is made of a plan fits its certificate.
use Rattle.std.proofs.Common.{List, Bool, sym, subst}
use Rattle.flat_net.specs.Net.{Net}
use Rattle.flat_net.specs.Free.{AreMarks}
use Rattle.certificate.specs.Cert.{PlainCert, Fits}
use Rattle.certificate.specs.Starts.{counted, spread_start}
use Rattle.triplicate.specs.declared.hardened.Hardened.{Hardened}
use Rattle.triplicate.specs.declared.planning.Plan.{Plan}
use Rattle.triplicate.specs.Construction.{hardened_net}
use Rattle.triplicate.specs.Given.{IsGiven}
use Rattle.triplicate.specs.Labels.{labeling}
use Rattle.triplicate.specs.Planned.{plan_votes, cert_in, IsMadeOf}
use Rattle.triplicate.proofs.Certified.{cert_fits}
use Rattle.triplicate.proofs.Marked.{counted_marks, marks_are_marks}

module _ (n : Net) (p : Plan) (r : Hardened) (given : IsGiven n p.parts (plan_votes n p) (labeling p.inputs p.extra.table)) (made : IsMadeOf n p r) where
  -- the certificate fits
  pub made_fits : Fits n r.net.net r.cert
  made_fits =
      subst (λ (h : Net). Fits n h r.cert) (sym made.net) (subst (λ (k : PlainCert). Fits n (hardened_net n p.parts (plan_votes n p)) k) (sym made.cert)
      (cert_fits n p.parts (plan_votes n p) (labeling p.inputs p.extra.table) given))

  -- the marks that it spreads are marks
  pub made_marks : (free : List Bool) → AreMarks n free → AreMarks r.net.net (spread_start r.cert (counted r.cert free))
  made_marks free marks =
      subst (λ (h : Net). AreMarks h (spread_start r.cert (counted r.cert free))) (sym made.net)
      (subst (λ (k : PlainCert). AreMarks (hardened_net n p.parts (plan_votes n p)) (spread_start k (counted k free))) (sym made.cert)
      (marks_are_marks n p.parts (plan_votes n p) (labeling p.inputs p.extra.table) given (counted (cert_in n p) free)
      (counted_marks n free (cert_in n p) marks.registers)))
