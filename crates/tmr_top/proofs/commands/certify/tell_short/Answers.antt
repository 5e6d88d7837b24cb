use Rattle.std.proofs.Common.{◌≡◌, ◌≤◌, ℕ, List, length, Ok, refl, sym, ap, subst, ◌∙◌}
use Rattle.flat_net.specs.Net.{Design}
use Rattle.certificate.specs.Reading.{cert_of_text}
use Rattle.certificate.specs.Text.{cert_text}
use Rattle.limits.specs.Most.{most_hardened}
use Rattle.tmr_words.specs.FileWords.{certifying_in}
use Rattle.tmr_top.proofs.RoomLaws.{if_ok, done_over}
use Rattle.tmr_top.proofs.CertifyLaws.{found_is}
use Rattle.tmr_top.proofs.commands.certify.tell_short.Goals as goal

pub returns : goal.returns
returns c =
    let n = c.args.designs.now.original.design.net in
    let h = c.args.designs.now.hardened.design.net in
    let k = c.args.found.now in
    let bytes : List ℕ = c.in_pieces-made.result.rest in
    let written : bytes ≡ cert_text n h k =
    c.in_pieces-made.ensures.text ∙ (ap (λ (d : Design). cert_text d.net c.net-hardened.result.now.net k) c.net-original.ensures.net ∙ ap (λ (d : Design). cert_text n d.net k) c.net-hardened.ensures.net) in
    let read : cert_of_text n h (cert_text n h k) ≡ Ok k =
    subst (λ (d : Design). cert_of_text n d.net (cert_text n d.net k) ≡ Ok k) c.net-hardened.ensures.net
    (subst (λ (d : Design). cert_of_text d.net c.net-hardened.result.now.net (cert_text d.net c.net-hardened.result.now.net k) ≡ Ok k) c.net-original.ensures.net c.in_pieces-made.ensures.read) in
    let read_bytes : cert_of_text n h bytes ≡ Ok k = subst (λ (t : List ℕ). cert_of_text n h t ≡ Ok k) (sym written) read in
    let short : length bytes ≤ most_hardened c.args.words.now.limits = subst (λ (t : List ℕ). length t ≤ most_hardened c.args.words.now.limits) (sym written) c.requires.short in
    if_ok c.saving_made.result _ _ (λ w is. done_over _ _ _ _ _ w is refl (λ t e. cc)
    (λ held are. found_is (certifying_in c.args.words.now) held n h _ _ k bytes c.in_ok-text.text.items are.original_read are.hardened_read c.requires.found.accepted c.requires.found.finest c.requires.found.least written read_bytes short
    (let one = c.free_count.ensures in let other = c.free_count-2.ensures in let text = c.in_ok-text.ensures in cc))
    (λ held are p e. absurd cc)) c.saving_made.ensures
