-- The law of 128 times, and what follows for limits.
use Rattle.std.proofs.Common.{arith}
use Rattle.std.specs.Prelude.{count_by}
use Rattle.limits.proofs.MostLaws.{hardened_is}
use Rattle.flat_net.specs.Net.{Net, IsValid}
use Rattle.certificate.proofs.Lengths.{text_length}
use Rattle.blif_writer.proofs.Lengths.{text_sum}
use Rattle.hardened_size.specs.Size.{HardenedTextsAreShort, HardenedTextsKeepLimits, FlatTextKeepsLimit}
use Rattle.hardened_size.proofs.DesignText.{design_long}
use Rattle.hardened_size.proofs.CertText.{cert_long}
use Rattle.hardened_size.proofs.Original.{limit_kept}

pub texts_are_short : (n : Net) → IsValid n → HardenedTextsAreShort n
texts_are_short n valid h k is =
    let form = is.form in
    record {
      design = λ f g. omega (arith, text_sum h g is.valid, text_sum n f valid, design_long n h is.marks is.hardened_marks k valid is.valid is.certificate form.tripled form.corresponds);
      certificate = λ f. omega (arith, text_length n h k is.certificate, text_sum n f valid, cert_long n h k valid is.certificate form.tripled is.kind is.size is.some form.parts);
    }

pub texts_keep_limits : (n : Net) → IsValid n → HardenedTextsKeepLimits n
texts_keep_limits n valid l h k f is few =
    let short = texts_are_short n valid h k is in
    let times = hardened_is l in
    record { design = λ g. omega (arith, times, few, short.design f g); certificate = omega (arith, times, few, short.certificate f) }

pub text_keeps_limit : (n : Net) → IsValid n → FlatTextKeepsLimit n
text_keeps_limit n valid library limit f is = omega (arith, text_sum n f valid, limit_kept library limit (count_by (λ bit. bit) f) n is.flat)
