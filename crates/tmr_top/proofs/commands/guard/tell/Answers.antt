use Rattle.std.proofs.Common.{◌≡◌, ℕ, List, ◌≤◌, length, refl, sym, ap, subst, ◌∙◌}
use Rattle.flat_net.specs.Net.{Design}
use Rattle.blif_writer.specs.Length.{flat_length}
use Rattle.blif_writer.specs.NetOf.{IsNetOf}
use Rattle.blif_writer.specs.Text.{flat_text}
use Rattle.dwc.specs.Guard.{guard_net}
use Rattle.dwc.specs.Tells.{Guards}
use Rattle.limits.specs.Most.{most_hardened}
use Rattle.tmr_words.specs.FileWords.{guarding_in}
use Rattle.tmr_texts.specs.Texts.{guard_line}
use Rattle.tmr_top.proofs.GuardLaws.{guarded_outcome}
use Rattle.tmr_top.proofs.RoomLaws.{if_ok, done_over}
use Rattle.tmr_top.proofs.commands.guard.tell.Goals as goal

pub returns : goal.returns
returns c =
    let n = c.args.design.now.design.net in
    let most = most_hardened c.args.words.now.limits in
    let bytes : List ℕ = c.in_ok-guarded.guarded.rest in
    let same : c.net-net.result.now ≡ c.args.design.now.design = c.net-net.ensures.net in
    let guards = subst (λ (d : Design). Guards d.net (guard_net d.net)) same c.in_pieces.ensures.guards in
    let text : bytes ≡ flat_text (guard_net n) = c.in_ok-guarded.ensures.text ∙ ap (λ (d : Design). flat_text (guard_net d.net)) same in
    let long : length bytes ≡ flat_length (guard_net n) = ap length text ∙ subst (λ (d : Design). length (flat_text (guard_net d.net)) ≡ flat_length (guard_net d.net)) same c.in_pieces.ensures.length in
    let keeps : length bytes ≤ most = subst (λ (k : ℕ). k ≤ most) (sym long) c.text_keeps_limit.ensures in
    let read : IsNetOf bytes most (guard_net n) 0 = subst (λ (t : List ℕ). IsNetOf t most (guard_net n) 0) (sym text)
    (subst (λ (d : Design). length (flat_text (guard_net d.net)) ≤ most → IsNetOf (flat_text (guard_net d.net)) most (guard_net d.net) 0) same (c.in_pieces.ensures.again most) (subst (λ (t : List ℕ). length t ≤ most) text keeps)) in
    let count = sym (c.guarded_nodes.ensures ∙ ap (λ (d : Design). length (guard_net d.net).nodes) same) in
    let says = c.in_ok-text.ensures (guard_net n) count ∙ (ap (λ (d : Design). guard_line d.net (guard_net n) c.free_count.result) same ∙ ap (guard_line n (guard_net n)) c.free_count.ensures) in
    if_ok c.saving_made.result _ _ (λ w is. done_over _ _ _ _ _ w is refl (λ t e. cc)
    (λ held holds. guarded_outcome held (guarding_in c.args.words.now) n c.args.design.now.free bytes _ holds guards text keeps read says)
    (λ held holds p e. absurd cc)) c.saving_made.ensures
