-- What a draft says, for a certificate of this version.
use Rattle.std.specs.Prelude.{ℕ, map}
use Rattle.certificate.specs.Threes.{three_of, three_ids}
use Rattle.certificate.specs.declared.draft.CertDraft.{CertDraft}
use Rattle.certificate.specs.Cert.{PlainCert}

abbrev pub cert_of_draft : ℕ → CertDraft → PlainCert
cert_of_draft version k = record {
  version = version;
  original_inputs = k.original_inputs;
  hardened_inputs = k.hardened_inputs;
  depth = k.depth.items;
  part = k.part.items;
  copies = map three_ids k.copies.items;
  labels = map three_of k.labels.items;
  roles = k.roles.items;
}
