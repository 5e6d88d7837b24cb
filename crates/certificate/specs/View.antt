-- What a certificate shows of its fields.
use Rattle.std.specs.Prelude.{map}
use Rattle.certificate.specs.Threes.{three_of, three_ids}
use Rattle.certificate.specs.declared.certificate.Certificate.TheInside.{Inside}
use Rattle.certificate.specs.Cert.{PlainCert}

abbrev pub cert_of : Inside → PlainCert
cert_of k = record {
  version = k.version;
  original_inputs = k.original_inputs;
  hardened_inputs = k.hardened_inputs;
  depth = k.depth.items;
  part = k.part.items;
  copies = map three_ids k.copies.items;
  labels = map three_of k.labels.items;
  roles = k.roles.items;
}
