use Rattle.std.proofs.Common.{[], ◌∷◌}
use Rattle.tmr_top.specs.Loads.{original_file, hardened_file}
use Rattle.tmr_top.specs.Private.Opened.{Keeps}
use Rattle.tmr_top.specs.Private.PairFiles.{AreDesigns}
use Rattle.tmr_top.specs.Private.Refused.{AreRefused}
use Rattle.tmr_top.proofs.LoadLaws.{opens_both, stops_first, stops_later}
use Rattle.tmr_top.proofs.pairs.load_designs.Goals as goal

pub returns-in-Ok-kept_hardened-clause-opens : goal.returns-in-Ok-kept_hardened-clause-opens
returns-in-Ok-kept_hardened-clause-opens g c =
    let one = original_file c.args.limits c.args.original.now in
    let other = hardened_file c.args.limits c.args.hardened.now in
    opens_both (one ∷ []) (other ∷ []) _ _ (Keeps (AreDesigns c.args.limits c.args.original.now c.args.hardened.now) (AreRefused one other)) _ _ _ _ _ _ _ c.in-Ok.ensures.opens _ _ (c.join_designs.ensures.keeps c.args.limits c.args.original.now c.args.hardened.now) c.in-Ok-kept_hardened.ensures

pub returns-in-Err-kept_hardened-clause-opens : goal.returns-in-Err-kept_hardened-clause-opens
returns-in-Err-kept_hardened-clause-opens g c =
    let one = original_file c.args.limits c.args.original.now in
    let other = hardened_file c.args.limits c.args.hardened.now in
    stops_later (one ∷ []) (other ∷ []) _ _ (Keeps (AreDesigns c.args.limits c.args.original.now c.args.hardened.now) (AreRefused one other)) _ _ _ _ _ _ _ c.in-Ok.ensures.opens _ c.in-Err-kept_hardened.ensures

pub returns-in-Err-clause-opens : goal.returns-in-Err-clause-opens
returns-in-Err-clause-opens g c = stops_first (original_file c.args.limits c.args.original.now ∷ []) (hardened_file c.args.limits c.args.hardened.now ∷ []) _ _ _ _ _ _ _ c.in-Err.ensures.opens
