use Rattle.std.proofs.Common.{ℕ, ◌+◌, ◌<◌, ◌≤◌, ◌-◌, get_or, [], length, refl, sym, ◌∙◌, ap, subst, List}
use Rattle.tmr_base.specs.Copies.{of_copy}
use Rattle.certificate.specs.Cert.{PlainCert, label_of}
use Rattle.certificate.specs.Threes.{three_of}
use Rattle.certificate.specs.View.{cert_of}
use Rattle.certificate.proofs.TripleLaws.{label_read}
use Rattle.certificate.proofs.certificate.Certificate.label.Goals as goal

pub returns : goal.returns
returns c =
    let low : c.self.inside.original_inputs ≤ c.args.x.0 = subst (λ (k : PlainCert). k.original_inputs ≤ c.args.x.0) (sym c.self.view_is) c.requires.low in
    let high : c.args.x.0 < c.self.inside.original_inputs + length (cert_of c.self.inside).labels = rw c.self.invariant.labels_long (subst (λ (k : PlainCert). c.args.x.0 < k.original_inputs + length k.part) (sym c.self.view_is) c.requires.high) in
    let read = label_read three_of (cert_of c.self.inside) c.self.inside.labels.items c.args.x.0 [] c.args.c refl low high in
    let at = ap (λ (ts : List (List ℕ)). of_copy (three_of (get_or ts (c.args.x.0 - c.self.inside.original_inputs) [])) c.args.c) c.deref.ensures.value in
    c.label_at.ensures ∙ (at ∙ (read ∙ ap (λ (k : PlainCert). label_of k c.args.x.0 c.args.c) c.self.view_is))
