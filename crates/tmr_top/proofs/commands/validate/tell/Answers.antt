use Rattle.std.proofs.Common.{◌≡◌, refl, subst}
use Rattle.tmr_words.specs.Line.{Pair}
use Rattle.tmr_words.specs.FileWords.{pair_in}
use Rattle.tmr_top.specs.Pairs.{Masked}
use Rattle.tmr_top.proofs.RoomLaws.{if_ok, done_over, denied_over}
use Rattle.tmr_top.proofs.commands.validate.tell.Goals as goal

pub returns-in_ok-text-in-Ok : goal.returns-in_ok-text-in-Ok
returns-in_ok-text-in-Ok c = done_over _ _ _ _ _ _ c.telling.ensures refl (λ t e. cc)
    (λ held holds. (
      record {
        pair = _;
        holds = holds;
        accepts = c.in-Ok.ensures.accepts;
        says = let one = c.free_count.ensures in let other = c.free_count-in-Ok.ensures in let text = c.in_ok-text-in-Ok.ensures in cc;
      },
      refl,
    ))
    (λ held holds p e.
    let same : pair_in c.args.words.now ≡ p = cc in
    subst (λ (q : Pair). Masked held q) same (record { pair = _; holds = holds; accepts = c.in-Ok.ensures.accepts; is_masking = c.in-Ok.ensures.masks }))

pub returns-in-Err : goal.returns-in-Err
returns-in-Err c = if_ok c.deny.result _ _ (λ w is. denied_over _ _ _ w is refl (λ t e. cc)
    (λ held holds saved. record { pair = _; holds = holds; rule = _; place = _; first = c.in-Err.ensures.denies; says = refl })) c.deny.ensures
