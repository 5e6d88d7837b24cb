use Rattle.std.proofs.Common.{[], ◌∷◌}
use Rattle.tmr_top.specs.Loads.{hardened_file}
use Rattle.tmr_top.specs.Private.Opened.{HoldsText}
use Rattle.tmr_top.specs.Private.Refused.{KeepsDesign}
use Rattle.tmr_top.proofs.LoadLaws.{opens_kept, still_stops}
use Rattle.tmr_top.proofs.pairs.kept_hardened.Goals as goal

pub returns-in-Ok : goal.returns-in-Ok
returns-in-Ok g c =
    let load = hardened_file c.args.limits c.args.name.now in
    opens_kept (load ∷ []) _ (λ held. HoldsText held load c.in-Ok.text) _ _ (KeepsDesign load) _ _ _ _ c.in-Ok.text c.read_hardened.result c.keep.result c.keep.ensures c.in-Ok.ensures c.read_hardened.ensures.gives (λ kept held there keeps. keeps there)

pub returns-in-Err : goal.returns-in-Err
returns-in-Err g c = still_stops _ _ _ _ _ _ _ _ _ c.in-Err.ensures
