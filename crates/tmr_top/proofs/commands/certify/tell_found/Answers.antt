use Rattle.std.proofs.Common.{inr, refl}
use Rattle.tmr_top.proofs.RoomLaws.{denied_over}
use Rattle.tmr_top.proofs.CertifyLaws.{is_short, is_long}
use Rattle.tmr_top.proofs.commands.certify.tell_found.Goals as goal

pub tell_short-requires : goal.tell_short-requires
tell_short-requires c = record {
  found = c.requires;
  short = is_short c.args.designs.now.original.design c.args.designs.now.hardened.design _ _ c.args.found.now _ _ _ c.net-original.ensures.net c.net-hardened.ensures.net c.hardened-most.ensures.is c.in_ok-within.ensures c.if-within.true;
}

pub returns : goal.returns
returns c =
    denied_over _ _ _ _ c.denying.ensures refl (λ t e. cc)
    (λ held are saved. inr (record {
      designs = record { original = _; free = _; original_read = are.original_read; hardened = _; hardened_free = _; hardened_read = are.hardened_read };
      certificate = c.args.found.now;
      accepted = c.requires.accepted;
      long = is_long c.args.designs.now.original.design c.args.designs.now.hardened.design _ _ c.args.found.now _ _ _ c.net-original.ensures.net c.net-hardened.ensures.net c.hardened-most.ensures.is c.in_ok-within.ensures c.if-within.false;
      says = c.in_ok-text.ensures;
    }))
