-- Pairs that are read, and that files give one pair or none.
use Rattle.std.proofs.Common.{◌≡◌, ◌≢◌, ℕ, Bool, List, Option, Some, Result, Ok, Err, inl, inr, refl, sym, ap, subst, ◌∙◌, ◌≤◌, ◌+◌, ◌*◌, arith}
use Rattle.std.specs.FinMap.{get}
use Rattle.std.specs.Prelude.{IfOk}
use Rattle.certificate.specs.Gives.{Fails}
use Rattle.certificate.specs.declared.fault.CertFault.{CertFault}
use Rattle.certificate.specs.declared.fault.CertFault.TheVariants as faults
use Rattle.certificate.specs.Cert.{Fits}
use Rattle.flat_net.specs.Free.{FreeDesign}
use Rattle.flat_net.specs.Net.{Net, Design, net_count, pin_total}
use Rattle.certificate.specs.Cert.{PlainCert}
use Rattle.certificate.specs.Reading.{cert_of_text}
use Rattle.limits.specs.declared.Limits.{Limits}
use Rattle.limits.specs.Most.{most_original, widest_nets}
use Rattle.limits.proofs.MostLaws.{original_within}
use Rattle.tmr_outside.specs.Contents.{Contents}
use Rattle.tmr_words.specs.Line.{Pair}
use Rattle.tmr_top.specs.Loads.{Load, original_file, hardened_file, certificate_file}
use Rattle.tmr_texts.specs.Reasons.{cert_reason}
use Rattle.tmr_texts.specs.Texts.{refused_line}
use Rattle.tmr_top.specs.Private.Opened.{HoldsBytes}
use Rattle.tmr_top.specs.Pairs.{ReadPair, HoldsCertificate, HoldsNoCertificate, HoldsPair, Accepts}
use Rattle.tmr_top.specs.declared.pair_files.Designs.{Designs}
use Rattle.tmr_top.specs.declared.pair_files.PairRead.{PairRead}
use Rattle.tmr_top.specs.Designs.{HoldsDesign}
use Rattle.tmr_top.specs.Private.PairFiles.{AreDesigns, ReadsCertificate, IsBeforePair, pair_of, IsFit}
use Rattle.tmr_top.specs.Private.Refused.{AreRefused}
use Rattle.tmr_top.specs.Validated.{IsNotAccepted, IsPairUnread}
use Rattle.tmr_top.proofs.DesignLaws.{one_design, design_or_none}

-- a fault that is no want of memory is what reading gives
pub read_fault : (fault : CertFault) (read : Result PlainCert CertFault) → Fails fault read → fault ≢ faults.Memory → read ≡ Err fault
read_fault (faults.Line n) read fails caused = fails
read_fault (faults.UnknownNet n) read fails caused = fails
read_fault (faults.Order n) read fails caused = fails
read_fault (faults.Range n) read fails caused = fails
read_fault (faults.Doubled n) read fails caused = fails
read_fault faults.Memory read fails caused = absurd (caused refl)

pub holds_certificate : (held : Contents) (load : Load) (bytes : List ℕ) (n h : Net) (k : PlainCert) → HoldsBytes held load bytes → cert_of_text n h bytes ≡ Ok k → HoldsCertificate held load n h k
holds_certificate held load bytes n h k holds read = record { bytes = holds.bytes; there = holds.there; short = holds.short; fact = ap (cert_of_text n h) holds.fact ∙ read }

pub holds_no_certificate : (held : Contents) (load : Load) (bytes : List ℕ) (n h : Net) (fault : CertFault) → HoldsBytes held load bytes → cert_of_text n h bytes ≡ Err fault → HoldsNoCertificate held load n h fault
holds_no_certificate held load bytes n h fault holds unread = record { bytes = holds.bytes; there = holds.there; short = holds.short; fact = ap (cert_of_text n h) holds.fact ∙ unread }

-- ---- one pair, or none

same_pair : (n m h g : Net) (a b c d : List Bool) (k l : PlainCert) → n ≡ m → a ≡ b → h ≡ g → c ≡ d → k ≡ l →
    let r : ReadPair = record { original = n; free = a; hardened = h; hardened_free = c; certificate = k } in
    let s : ReadPair = record { original = m; free = b; hardened = g; hardened_free = d; certificate = l } in
    r ≡ s
same_pair n m h g a b c d k l one two three four five = cc

same_bytes : (o : Option (List ℕ)) (one other : List ℕ) → o ≡ Some one → o ≡ Some other → one ≡ other
same_bytes o one other e f = cc

-- texts of one certificate, for designs that are the same
same_text : (n m h g : Net) (b c : List ℕ) → n ≡ m → h ≡ g → b ≡ c → cert_of_text n h b ≡ cert_of_text m g c
same_text n m h g b c one two three = cc

same_ok : (x y : Result PlainCert CertFault) (k l : PlainCert) → x ≡ y → x ≡ Ok k → y ≡ Ok l → k ≡ l
same_ok x y k l e f g = cc

ok_or_err : (x y : Result PlainCert CertFault) (e : CertFault) (k : PlainCert) → x ≡ y → x ≡ Err e → y ≡ Ok k → ⊥
ok_or_err x y e k f g h = cc

pub one_pair : (held : Contents) (p : Pair) (r s : ReadPair) → HoldsPair held p r → HoldsPair held p s → r ≡ s
one_pair held p r s one other =
    let original = one_design held (original_file p.limits p.original) r.original s.original r.free s.free one.original_read other.original_read in
    let hardened = one_design held (hardened_file p.limits p.hardened) r.hardened s.hardened r.hardened_free s.hardened_free one.hardened_read other.hardened_read in
    let bytes = same_bytes (get held p.certificate) one.certificate_read.bytes other.certificate_read.bytes one.certificate_read.there other.certificate_read.there in
    let text = same_text r.original s.original r.hardened s.hardened one.certificate_read.bytes other.certificate_read.bytes original.0 hardened.0 bytes in
    let certificate = same_ok (cert_of_text r.original r.hardened one.certificate_read.bytes) (cert_of_text s.original s.hardened other.certificate_read.bytes) r.certificate s.certificate text one.certificate_read.fact other.certificate_read.fact in
    same_pair r.original s.original r.hardened s.hardened r.free s.free r.hardened_free s.hardened_free r.certificate s.certificate original.0 original.1 hardened.0 hardened.1 certificate

-- what is refused is not read
pub unread_pair : (held : Contents) (p : Pair) (text : List ℕ) (r : ReadPair) → IsPairUnread p held text → HoldsPair held p r → ⊥
unread_pair held p text r unread read = go unread
  where
    go : IsPairUnread p held text → ⊥
    go (inl says) = design_or_none held (original_file p.limits p.original) r.original r.free says.reason read.original_read says.unread
    go (inr (inl says)) = design_or_none held (hardened_file p.limits p.hardened) r.hardened r.hardened_free says.reason read.hardened_read says.unread
    go (inr (inr says)) =
        let original = one_design held (original_file p.limits p.original) says.original r.original says.free r.free says.original_read read.original_read in
        let hardened = one_design held (hardened_file p.limits p.hardened) says.hardened r.hardened says.hardened_free r.hardened_free says.hardened_read read.hardened_read in
        let bytes = same_bytes (get held p.certificate) says.unread.bytes read.certificate_read.bytes says.unread.there read.certificate_read.there in
        let same = same_text says.original r.original says.hardened r.hardened says.unread.bytes read.certificate_read.bytes original.0 hardened.0 bytes in
        ok_or_err (cert_of_text says.original says.hardened says.unread.bytes) (cert_of_text r.original r.hardened read.certificate_read.bytes) says.fault r.certificate same says.unread.fact read.certificate_read.fact

-- a pair that is accepted does not differ
pub agrees : (held : Contents) (p : Pair) (r : ReadPair) (text : List ℕ) → HoldsPair held p r → Accepts r → IsNotAccepted p held text → ⊥
agrees held p r text holds accepts differs =
    let there : Accepts differs.pair = subst Accepts (one_pair held p r differs.pair holds differs.holds) accepts in
    differs.first.fails (there differs.rule differs.place)

-- ---- a pair that is read, and its refusals

pub pair_read : (p : Pair) (held : Contents) (designs : Designs) (k : PlainCert) (read : PairRead) → read.original ≡ designs.original → read.hardened ≡ designs.hardened → read.certificate ≡ k → AreDesigns p.limits p.original p.hardened designs held → HoldsCertificate held (certificate_file p.limits p.certificate) designs.original.design.net designs.hardened.design.net k → HoldsPair held p (pair_of read)
pair_read p held designs k read one two three are holds = record {
  original_read = subst (λ (n : FreeDesign). HoldsDesign held (original_file p.limits p.original) n.design.net n.free) (sym one) are.original_read;
  hardened_read = subst (λ (n : FreeDesign). HoldsDesign held (hardened_file p.limits p.hardened) n.design.net n.free) (sym two) are.hardened_read;
  certificate_read =
      subst (λ (n : FreeDesign). HoldsCertificate held (certificate_file p.limits p.certificate) n.design.net read.hardened.design.net read.certificate) (sym one)
      (subst (λ (n : FreeDesign). HoldsCertificate held (certificate_file p.limits p.certificate) designs.original.design.net n.design.net read.certificate) (sym two)
      (subst (λ (c : PlainCert). HoldsCertificate held (certificate_file p.limits p.certificate) designs.original.design.net designs.hardened.design.net c) (sym three) holds));
}

pub fit_pair : (l : Limits) (designs : Designs) (k : PlainCert) (read : PairRead) → read.original ≡ designs.original → read.hardened ≡ designs.hardened → read.certificate ≡ k → Fits designs.original.design.net designs.hardened.design.net k → 2 * (net_count designs.original.design.net + pin_total designs.original.design.net) ≤ most_original l → IsFit read
fit_pair l designs k read one two three fits few = record {
  fits =
      subst (λ (n : FreeDesign). Fits n.design.net read.hardened.design.net read.certificate) (sym one)
      (subst (λ (n : FreeDesign). Fits designs.original.design.net n.design.net read.certificate) (sym two)
      (subst (λ (c : PlainCert). Fits designs.original.design.net designs.hardened.design.net c) (sym three) fits));
  small = subst (λ (n : FreeDesign). 4 * net_count n.design.net ≤ widest_nets) (sym one) (omega (arith, few, original_within l));
}

pub before_pair : (p : Pair) (designs : Designs) (a b : Design) (read : Result PlainCert CertFault) (held : Contents) → a ≡ designs.original.design → b ≡ designs.hardened.design → AreDesigns p.limits p.original p.hardened designs held → ReadsCertificate held (certificate_file p.limits p.certificate) a.net b.net read → IsBeforePair p designs read held
before_pair p designs a b read held one two are there = record {
  designs_read = are;
  certificate_read =
      subst (λ (d : Design). ReadsCertificate held (certificate_file p.limits p.certificate) d.net designs.hardened.design.net read) one
      (subst (λ (d : Design). ReadsCertificate held (certificate_file p.limits p.certificate) a.net d.net read) two there);
}

-- the certificate was read for the designs
pub given_pair : (p : Pair) (designs : Designs) (read : Result PlainCert CertFault) (k : PlainCert) (pair : PairRead) → read ≡ Ok k → pair.original ≡ designs.original → pair.hardened ≡ designs.hardened → pair.certificate ≡ k → (held : Contents) → IsBeforePair p designs read held → HoldsPair held p (pair_of pair)
given_pair p designs read k pair is one two three held before =
    pair_read p held designs k pair one two three before.designs_read
    (subst (λ (r : Result PlainCert CertFault). ReadsCertificate held (certificate_file p.limits p.certificate) designs.original.design.net designs.hardened.design.net r) is before.certificate_read)

-- or it was refused
pub given_fault : (p : Pair) (designs : Designs) (read : Result PlainCert CertFault) (fault : CertFault) (line : List ℕ) (held : Contents) → read ≡ Err fault → fault ≢ faults.Memory → line ≡ refused_line p.certificate (cert_reason fault) → IsBeforePair p designs read held → IsPairUnread p held line
given_fault p designs read fault line held is caused says before =
    let there : ReadsCertificate held (certificate_file p.limits p.certificate) designs.original.design.net designs.hardened.design.net (Err fault) =
    subst (λ (r : Result PlainCert CertFault). ReadsCertificate held (certificate_file p.limits p.certificate) designs.original.design.net designs.hardened.design.net r) is before.certificate_read
    in
    inr (inr (record {
      original = designs.original.design.net;
      free = designs.original.free;
      original_read = before.designs_read.original_read;
      hardened = designs.hardened.design.net;
      hardened_free = designs.hardened.free;
      hardened_read = before.designs_read.hardened_read;
      fault = fault;
      unread = record { bytes = there.bytes; there = there.there; short = there.short; fact = read_fault fault (cert_of_text designs.original.design.net designs.hardened.design.net there.bytes) there.fact caused };
      says = says;
    }))

pub given_fit : (l : Limits) (designs : Designs) (read : Result PlainCert CertFault) (k : PlainCert) (pair : PairRead) → read ≡ Ok k → pair.original ≡ designs.original → pair.hardened ≡ designs.hardened → pair.certificate ≡ k → IfOk read (Fits designs.original.design.net designs.hardened.design.net) → 2 * (net_count designs.original.design.net + pin_total designs.original.design.net) ≤ most_original l → IsFit pair
given_fit l designs read k pair is one two three fits few = fit_pair l designs k pair one two three (subst (λ (r : Result PlainCert CertFault). IfOk r (Fits designs.original.design.net designs.hardened.design.net)) is fits) few

pub designs_unread : (p : Pair) (line : List ℕ) (held : Contents) → AreRefused (original_file p.limits p.original) (hardened_file p.limits p.hardened) line held → IsPairUnread p held line
designs_unread p line held (inl first) = inl (record { reason = first.reason; unread = first.unread; says = first.says })
designs_unread p line held (inr second) = inr (inl (record {
  original = second.design;
  free = second.free;
  original_read = second.first_read;
  reason = second.refused.reason;
  unread = second.refused.unread;
  says = second.refused.says;
}))
