-- What `certify` finds, and what it leaves.
use Rattle.std.proofs.Common.{◌≡◌, ℕ, ◌<◌, ◌≤◌, ◌⊎◌, Bool, true, false, List, [], ◌∷◌, length, Ok, inl, inr, ap, subst, arith}
use Rattle.std.specs.Prelude.{◌↔◌, IsTrue, count_by}
use Rattle.std.proofs.Math.Nat.{lt_of_not-le}
use Rattle.flat_net.specs.Net.{Net, Design}
use Rattle.certificate.specs.Cert.{PlainCert}
use Rattle.certificate.specs.Reading.{cert_of_text}
use Rattle.certificate.specs.Text.{cert_text}
use Rattle.certifying.specs.Certified.{IsAccepted}
use Rattle.certifying.specs.Finest.{IsFinest}
use Rattle.certifying.specs.Least.{AreLeastLabels}
use Rattle.limits.specs.Most.{most_hardened}
use Rattle.tmr_texts.specs.Texts.{accepted_line}
use Rattle.tmr_top.specs.Designs.{HoldsDesign}
use Rattle.tmr_outside.specs.Contents.{Contents}
use Rattle.tmr_words.specs.Line.{Certifying}
use Rattle.tmr_top.specs.Loads.{original_file, hardened_file}
use Rattle.tmr_top.specs.Validated.{IsOriginalUnread, IsHardenedUnread}
use Rattle.tmr_top.specs.Certified.{certified_pair, IsCertified}
use Rattle.tmr_top.specs.Private.Refused.{AreRefused}

-- the first of the two files that is no design
pub none_read : (w : Certifying) (line : List ℕ) (held : Contents) → AreRefused (original_file w.limits w.original) (hardened_file w.limits w.hardened) line held → IsOriginalUnread (certified_pair w) held line ⊎ IsHardenedUnread (certified_pair w) held line
none_read w line held (inl first) = inl (record { reason = first.reason; unread = first.unread; says = first.says })
none_read w line held (inr second) = inr (record {
  original = second.design;
  free = second.free;
  original_read = second.first_read;
  reason = second.refused.reason;
  unread = second.refused.unread;
  says = second.refused.says;
})

-- a certificate that is found, saved and told of
pub found_is : (w : Certifying) (held : Contents) (n h : Net) (f g : List Bool) (k : PlainCert) (bytes text : List ℕ) → HoldsDesign held (original_file w.limits w.original) n f → HoldsDesign held (hardened_file w.limits w.hardened) h g → IsAccepted n f h g w.version k → IsFinest n f h g k → AreLeastLabels h k → bytes ≡ cert_text n h k → cert_of_text n h bytes ≡ Ok k → length bytes ≤ most_hardened w.limits → text ≡ accepted_line k (count_by (λ bit. bit) f) (count_by (λ bit. bit) g) → IsCertified w held (bytes ∷ []) text
found_is w held n h f g k bytes text one other accepted finest least written read short says = record {
  designs = record { original = n; free = f; original_read = one; hardened = h; hardened_free = g; hardened_read = other };
  certificate = k;
  accepted = accepted;
  finest = finest;
  least = least;
  saves = ap (λ (b : List ℕ). b ∷ []) written;
  short = subst (λ (b : List ℕ). length b ≤ most_hardened w.limits) written short;
  read = subst (λ (b : List ℕ). cert_of_text n h b ≡ Ok k) written read;
  says = says;
}

-- the text of a certificate for the same two designs
same_length : (d e x y : Design) (k : PlainCert) → x ≡ d → y ≡ e → length (cert_text x.net y.net k) ≡ length (cert_text d.net e.net k)
same_length d e x y k one other = cc

-- its bytes were counted, and are not too many
pub is_short : (d e x y : Design) (k : PlainCert) (within : Bool) (m most : ℕ) → x ≡ d → y ≡ e → m ≡ most
    → IsTrue within ↔ length (cert_text x.net y.net k) ≤ m → within ≡ true → length (cert_text d.net e.net k) ≤ most
is_short d e x y k within m most one other limit counted answer = omega (arith, counted.0 answer, limit, same_length d e x y k one other)

-- its bytes were counted, and are too many
pub is_long : (d e x y : Design) (k : PlainCert) (within : Bool) (m most : ℕ) → x ≡ d → y ≡ e → m ≡ most
    → IsTrue within ↔ length (cert_text x.net y.net k) ≤ m → within ≡ false → most < length (cert_text d.net e.net k)
is_long d e x y k within m most one other limit counted answer =
    let long : m < length (cert_text x.net y.net k) = lt_of_not-le (λ le. let e = counted.1 le in absurd cc) in
    omega (arith, long, limit, same_length d e x y k one other)
