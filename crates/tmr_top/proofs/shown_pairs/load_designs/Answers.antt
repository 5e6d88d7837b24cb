use Rattle.std.proofs.Common.{[], ◌∷◌}
use Rattle.tmr_top.specs.Loads.{original_file, hardened_file, kept_file}
use Rattle.tmr_top.specs.Private.Shown.{AreDesignBytes}
use Rattle.tmr_top.proofs.LoadLaws.{opens_both, stops_first, stops_later}
use Rattle.tmr_top.proofs.shown_pairs.load_designs.Goals as goal

pub returns-in-Ok-keep_hardened-clause-opens : goal.returns-in-Ok-keep_hardened-clause-opens
returns-in-Ok-keep_hardened-clause-opens g c = opens_both (kept_file (original_file c.args.limits c.args.original.now) ∷ []) (kept_file (hardened_file c.args.limits c.args.hardened.now) ∷ []) _ _ (AreDesignBytes c.args.limits c.args.original.now c.args.hardened.now) _ _ _ _ _ _ _ c.in-Ok.ensures.opens _ _ (λ held one other. record { original_loaded = one; hardened_loaded = other }) c.in-Ok-keep_hardened.ensures.opens

pub returns-in-Err-keep_hardened-clause-opens : goal.returns-in-Err-keep_hardened-clause-opens
returns-in-Err-keep_hardened-clause-opens g c = stops_later (kept_file (original_file c.args.limits c.args.original.now) ∷ []) (kept_file (hardened_file c.args.limits c.args.hardened.now) ∷ []) _ _ (AreDesignBytes c.args.limits c.args.original.now c.args.hardened.now) _ _ _ _ _ _ _ c.in-Ok.ensures.opens _ c.in-Err-keep_hardened.ensures.opens

pub returns-in-Err-clause-opens : goal.returns-in-Err-clause-opens
returns-in-Err-clause-opens g c = stops_first (kept_file (original_file c.args.limits c.args.original.now) ∷ []) (kept_file (hardened_file c.args.limits c.args.hardened.now) ∷ []) _ _ _ _ _ _ _ c.in-Err.ensures.opens
