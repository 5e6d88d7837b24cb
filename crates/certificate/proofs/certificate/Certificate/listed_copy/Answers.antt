use Rattle.std.proofs.Common.{◌+◌, ◌<◌, ◌≤◌, ◌-◌, get_or, [], length, refl, sym, ◌∙◌, ap, subst, List}
use Rattle.tmr_base.specs.declared.ids.NetId.{NetId}
use Rattle.tmr_base.specs.Copies.{of_copy}
use Rattle.certificate.specs.Cert.{PlainCert, copy_of}
use Rattle.certificate.specs.Threes.{three_ids}
use Rattle.certificate.specs.View.{cert_of}
use Rattle.certificate.proofs.TripleLaws.{copy_read}
use Rattle.certificate.proofs.certificate.Certificate.listed_copy.Goals as goal

pub returns-clause-copy : goal.returns-clause-copy
returns-clause-copy c =
    let low : c.self.inside.original_inputs ≤ c.args.x.0 = subst (λ (k : PlainCert). k.original_inputs ≤ c.args.x.0) (sym c.self.view_is) c.requires.low in
    let high : c.args.x.0 < c.self.inside.original_inputs + length (cert_of c.self.inside).copies = rw c.self.invariant.copies_long (subst (λ (k : PlainCert). c.args.x.0 < k.original_inputs + length k.part) (sym c.self.view_is) c.requires.high) in
    let read = copy_read three_ids (cert_of c.self.inside) c.self.inside.copies.items c.args.x.0 [] c.args.c refl low high in
    let at = ap (λ (ts : List (List NetId)). of_copy (three_ids (get_or ts (c.args.x.0 - c.self.inside.original_inputs) [])) c.args.c) c.deref.ensures.value in
    c.id_at.ensures ∙ (at ∙ (read ∙ ap (λ (k : PlainCert). copy_of k c.args.x.0 c.args.c) c.self.view_is))
