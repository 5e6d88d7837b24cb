-- A net belongs to one partition and copy alone: this stands with the certificate.
pub use Rattle.certificate.proofs.Domains.{copy_below, one_place, one_domain}
