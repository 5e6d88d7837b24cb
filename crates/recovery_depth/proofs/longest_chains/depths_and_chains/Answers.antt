use Rattle.std.proofs.Common.{ℕ, ◌+◌, map, length, sym, ◌∙◌, ap, subst}
use Rattle.std.proofs.lemmas.List.{length_push}
use Rattle.recovery_depth.specs.Private.LastRegisters.{number_at}
use Rattle.recovery_depth.specs.Private.ChainEnds.{walked, AreRead}
use Rattle.recovery_depth.proofs.WalkedLaws.{one_read}
use Rattle.recovery_depth.proofs.longest_chains.depths_and_chains.Goals as goal

pub loop-p-preserved : goal.loop-p-preserved
loop-p-preserved c = record {
  long = ap length c.in_ok-push.ensures.items ∙ (length_push c.loop-p.deeps.items _ ∙ ap (λ (k : ℕ). k + 1) c.loop-p.invariant.long);
  read = subst (AreRead c.args.before.now c.args.originals.now c.args.ends.now c.args.depths.now) (sym c.in_ok-push.ensures.items) (one_read c.args.before.now c.args.originals.now c.args.ends.now c.args.depths.now c.loop-p.deeps.items c.loop-p.p _ c.loop-p.invariant.long c.loop-p.invariant.read (record {
    depth = c.reach_at-depth.ensures;
    chain = c.in_ok-chain.ensures ∙ (ap (λ (d : ℕ). map (number_at c.args.originals.now) (walked c.args.before.now d c.reach_at.result)) c.reach_at-depth.ensures ∙ ap (λ (t : ℕ). map (number_at c.args.originals.now) (walked c.args.before.now (number_at c.args.depths.now c.loop-p.p) t)) c.reach_at.ensures);
  }));
}
