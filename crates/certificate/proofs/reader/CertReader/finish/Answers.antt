use Rattle.std.proofs.Common.{sym, subst}
use Rattle.flat_net.specs.Net.{IsValid}
use Rattle.certificate.specs.Gives.{Gives}
use Rattle.certificate.specs.Reading.{cert_of_text}
use Rattle.certificate.specs.Reader.{ReaderState, StandsFor}
use Rattle.certificate.proofs.Endings.{fits_so, found_so, only_so}
use Rattle.certificate.proofs.reader.CertReader.finish.Goals as goal

pub returns-clause-fits : goal.returns-clause-fits
returns-clause-fits c = λ given s.
    let valid : IsValid c.args.self.original = subst (λ (r : ReaderState). IsValid r.original) c.self.view_is c.ended.ensures.original.valid in
    let valid_h : IsValid c.args.self.hardened = subst (λ (r : ReaderState). IsValid r.hardened) c.self.view_is c.ended.ensures.hardened.valid in
    fits_so c.args.self.original c.args.self.hardened given valid valid_h c.ended.result
    (subst (λ (r : ReaderState). Gives (λ k. k) c.ended.result (cert_of_text r.original r.hardened given)) c.self.view_is (c.ended.ensures.exact given (subst (λ (r : ReaderState). StandsFor r given) (sym c.self.view_is) s).read))

pub returns-clause-found : goal.returns-clause-found
returns-clause-found c = λ given s.
    let valid : IsValid c.args.self.original = subst (λ (r : ReaderState). IsValid r.original) c.self.view_is c.ended.ensures.original.valid in
    let valid_h : IsValid c.args.self.hardened = subst (λ (r : ReaderState). IsValid r.hardened) c.self.view_is c.ended.ensures.hardened.valid in
    found_so c.args.self.original c.args.self.hardened given valid valid_h c.ended.result
    (subst (λ (r : ReaderState). Gives (λ k. k) c.ended.result (cert_of_text r.original r.hardened given)) c.self.view_is (c.ended.ensures.exact given (subst (λ (r : ReaderState). StandsFor r given) (sym c.self.view_is) s).read))

pub returns-clause-only : goal.returns-clause-only
returns-clause-only c = λ given s.
    let valid : IsValid c.args.self.original = subst (λ (r : ReaderState). IsValid r.original) c.self.view_is c.ended.ensures.original.valid in
    let valid_h : IsValid c.args.self.hardened = subst (λ (r : ReaderState). IsValid r.hardened) c.self.view_is c.ended.ensures.hardened.valid in
    only_so c.args.self.original c.args.self.hardened given valid valid_h c.ended.result
    (subst (λ (r : ReaderState). Gives (λ k. k) c.ended.result (cert_of_text r.original r.hardened given)) c.self.view_is (c.ended.ensures.exact given (subst (λ (r : ReaderState). StandsFor r given) (sym c.self.view_is) s).read))
