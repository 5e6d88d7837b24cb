use Rattle.std.proofs.Common.{◌≡◌, ◌<◌, [], length, None, refl, sym, subst, ◌∙◌, ap, Ok, arith}
use Rattle.std.proofs.lemmas.Bool.Decides.{nat_tests}
use Rattle.std.proofs.lemmas.List.{nil_from_length}
use Rattle.certificate.specs.declared.progress.Stage.{Stage}
use Rattle.certificate.specs.Lines.{Rest}
use Rattle.certificate.specs.Tables.{nodes_read}
use Rattle.certificate.specs.Carrying.{made}
use Rattle.certificate.proofs.Endings.{IsUnended, not_ended, unended_read, end_read, cert_is}
use Rattle.certificate.proofs.reader.end_unrefused.Goals as goal

pub returns-then-not-is_empty : goal.returns-then-not-is_empty
returns-then-not-is_empty c = λ given read.
    let some : 0 < length c.args.line.part.items = grind (arith, nat_tests, c.is_empty.ensures, c.if-not-is_empty.true) in
    unended_read c.args.n.now.net c.args.h.now.net None c.args.line c.args.progress given read refl c.requires.one_line (subst (λ (s : Stage). IsUnended s c.args.line.part.items) (sym c.in-Ended.is) some)

pub certificate_of-requires : goal.certificate_of-requires
certificate_of-requires c = λ r.
    let none : c.args.line.part.items ≡ [] = nil_from_length _ (grind (arith, nat_tests, c.is_empty.ensures, c.if-not-is_empty.false)) in
    (cert_is c.args.n.now.net c.args.h.now.net c.requires.given.0 c.requires.original.valid c.requires.hardened.valid (made c.in-Ended.version c.args.n.now.net c.args.h.now.net c.args.progress.depth.items (nodes_read c.args.progress.nodes r) c.args.progress.roles.items)
    (end_read c.args.n.now.net c.args.h.now.net None c.args.line c.args.progress c.requires.given.0 c.requires.given.1 c.in-Ended.version r refl c.in-Ended.is none)).0

pub returns-in-Ended : goal.returns-in-Ended
returns-in-Ended c = λ given read.
    let none : c.args.line.part.items ≡ [] = nil_from_length _ (grind (arith, nat_tests, c.is_empty.ensures, c.if-not-is_empty.false)) in
    let r : Rest = record { line = 0; bytes = [] } in
    end_read c.args.n.now.net c.args.h.now.net None c.args.line c.args.progress given read c.in-Ended.version r refl c.in-Ended.is none ∙ ap Ok (sym (c.certificate_of.ensures r))

pub returns : goal.returns
returns c = λ given read.
    unended_read c.args.n.now.net c.args.h.now.net None c.args.line c.args.progress given read refl c.requires.one_line (not_ended c.args.progress.stage c.args.line.part.items c.in_default.not-Ended)
