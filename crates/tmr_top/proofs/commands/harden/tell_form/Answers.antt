use Rattle.std.proofs.Common.{◌≤◌, Bool, List, ℕ, [], ◌∷◌, ◌++◌, ◌∙◌, length, sym, ap, subst, refl}
use Rattle.std.specs.Prelude.{◌↔◌, IsTrue}
use Rattle.blif_writer.specs.Text.{free_text}
use Rattle.certificate.specs.Text.{cert_text}
use Rattle.limits.specs.Most.{most_hardened}
use Rattle.partitioner.specs.Refining.{IsMinimal}
use Rattle.triplicate.specs.Form.{parts_of}
use Rattle.tmr_words.specs.FileWords.{hardening_in}
use Rattle.tmr_top.specs.declared.decision.Save.{Save}
use Rattle.tmr_top.specs.declared.decision.SavedText.TheVariants as saved
use Rattle.tmr_top.specs.Private.Works.{save_names, save_texts}
use Rattle.tmr_top.proofs.HardenLaws.{hardened_outcome, no_trial, no_check}
use Rattle.tmr_top.proofs.LimitLaws.{few_pins}
use Rattle.tmr_top.proofs.RoomLaws.{done_over}
use Rattle.tmr_top.proofs.commands.harden.tell_form.Goals as goal

pub returns : goal.returns
returns c =
    let w = hardening_in c.args.words.now in
    let a = c.requires.made in
    let n = c.args.n.now.design.net in
    let within = c.requires.within in
    let limits = c.texts_keep_limits.ensures.limits a in
    let design : List ℕ = free_text a.pair.net.design.net a.pair.net.free in
    let certificate : List ℕ = cert_text n a.pair.net.design.net a.pair.cert in
    let design_short : length design ≤ most_hardened w.limits = limits.design a.pair.net.free in
    let certificate_short : length certificate ≤ most_hardened w.limits = limits.certificate in
    let one : Save = record { name = c.args.words.now.hardened; text = saved.Design c.in_ok-design.design } in
    let other : Save = record { name = c.args.words.now.certificate; text = saved.Certificate c.in_pieces-certificate.result } in
    let saves = c.in_ok-push-2.ensures.items ∙ ap (λ (s : List Save). s ++ other ∷ []) (c.in_ok-push.ensures.items ∙ ap (λ (s : List Save). s ++ one ∷ []) c.new-saves.ensures.items) in
    let texts = ap save_texts saves ∙ (ap (λ (t : List ℕ). t ∷ c.in_pieces-certificate.result.rest ∷ []) (c.in_ok-design.ensures ∙ a.design) ∙ ap (λ (t : List ℕ). design ∷ t ∷ []) (c.in_pieces-certificate.ensures ∙ a.certificate)) in
    done_over _ _ _ _ _ _ (record { done = refl; names_are = ap save_names saves; texts_are = texts; says = refl }) refl (no_trial w)
    (λ held holds. hardened_outcome held (hardening_in c.args.words.now) n a.pair.net.design.net c.args.n.now.free a.pair.net.free a.pair.cert c.args.made.now.minimal design certificate _ holds a.bounded.form a.bounded.unbounded (few_pins w.limits _ within.few) (c.texts_keep_limits.ensures.short a)
    (subst (λ (m : Bool). IsTrue m ↔ IsMinimal n c.args.words.now.size (parts_of a.pair.cert)) (sym a.minimal) a.bounded.minimal)
    refl design_short (a.design_read (most_hardened w.limits) design_short) refl certificate_short a.certificate_read
    (c.in_ok-text.ensures a))
    (λ held holds p e. absurd (no_check w p e))
