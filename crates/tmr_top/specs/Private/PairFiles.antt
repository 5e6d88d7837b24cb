-- The files of a pair as they were read.
use Rattle.std.specs.Prelude.{◌≡◌, ◌≤◌, ◌*◌, ℕ, List, Result}
use Rattle.flat_net.specs.Net.{Net, net_count}
use Rattle.certificate.specs.Cert.{Fits, PlainCert}
use Rattle.certificate.specs.Gives.{Gives}
use Rattle.certificate.specs.Reader.{ReaderState, StandsFor}
use Rattle.certificate.specs.Reading.{cert_of_text}
use Rattle.certificate.specs.declared.fault.CertFault.{CertFault}
use Rattle.limits.specs.declared.Limits.{Limits}
use Rattle.limits.specs.Most.{widest_nets}
use Rattle.tmr_outside.specs.Contents.{Contents}
use Rattle.tmr_words.specs.Line.{Pair}
use Rattle.tmr_top.specs.declared.pair_files.Designs.{Designs}
use Rattle.tmr_top.specs.declared.pair_files.PairRead.{PairRead}
use Rattle.tmr_top.specs.Loads.{Load, original_file, hardened_file, certificate_file}
use Rattle.tmr_top.specs.Designs.{HoldsDesign}
use Rattle.tmr_top.specs.Pairs.{ReadPair}
use Rattle.tmr_top.specs.Files.{Holds}

-- the reader was given these bytes of a certificate of these designs
pub record IsReading (n h : Net) (r : ReaderState) (given : List ℕ) : Type 0 where
  pub original : r.original ≡ n
  pub hardened : r.hardened ≡ h
  pub stands : StandsFor r given

-- what the file holds was read as a certificate of these designs, with this result
abbrev pub ReadsCertificate : Contents → Load → Net → Net → Result PlainCert CertFault → Type 0
ReadsCertificate held load n h read = Holds held load (λ bytes. Gives (λ k. k) read (cert_of_text n h bytes))

-- these two designs are what these names hold
pub record AreDesigns (l : Limits) (original hardened : List ℕ) (read : Designs) (held : Contents) : Type 0 where
  pub original_read : HoldsDesign held (original_file l original) read.original.design.net read.original.free
  pub hardened_read : HoldsDesign held (hardened_file l hardened) read.hardened.design.net read.hardened.free

-- a pair that was read, without where it lies in memory
abbrev pub pair_of : PairRead → ReadPair
pair_of read = record {
  original = read.original.design.net;
  free = read.original.free;
  hardened = read.hardened.design.net;
  hardened_free = read.hardened.free;
  certificate = read.certificate;
}

-- the designs are read, and the certificate's file was read for them, with this result
pub record IsBeforePair (p : Pair) (designs : Designs) (read : Result PlainCert CertFault) (held : Contents) : Type 0 where
  pub designs_read : AreDesigns p.limits p.original p.hardened designs held
  pub certificate_read : ReadsCertificate held (certificate_file p.limits p.certificate) designs.original.design.net designs.hardened.design.net read

-- the certificate is one of the two designs, and the original is small enough for four waves of each output
pub record IsFit (read : PairRead) : Type 0 where
  pub fits : Fits read.original.design.net read.hardened.design.net read.certificate
  pub small : 4 * net_count read.original.design.net ≤ widest_nets
