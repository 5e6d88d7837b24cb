use Rattle.std.proofs.Common.{[], ◌∷◌}
use Rattle.tmr_top.specs.Loads.{original_file}
use Rattle.tmr_top.specs.Private.Opened.{HoldsText}
use Rattle.tmr_top.specs.Private.Refused.{KeepsDesign}
use Rattle.tmr_top.proofs.LoadLaws.{opens_kept, still_stops}
use Rattle.tmr_top.proofs.pairs.kept_original.Goals as goal

pub returns-in-Ok-clause-opens : goal.returns-in-Ok-clause-opens
returns-in-Ok-clause-opens g c =
    let load = original_file c.args.limits c.args.name.now in
    opens_kept (load ∷ []) _ (λ held. HoldsText held load c.in-Ok.text) _ _ (KeepsDesign load) _ _ _ _ c.in-Ok.text c.read_original.result c.keep.result c.keep.ensures c.in-Ok.ensures c.read_original.ensures.gives (λ kept held there keeps. keeps there)

pub returns-in-Err-clause-opens : goal.returns-in-Err-clause-opens
returns-in-Err-clause-opens g c = still_stops _ _ _ _ _ _ _ _ _ c.in-Err.ensures
