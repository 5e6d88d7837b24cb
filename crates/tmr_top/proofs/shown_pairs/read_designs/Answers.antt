use Rattle.std.proofs.Common.{inl, inr}
use Rattle.tmr_top.specs.Loads.{original_file, hardened_file, kept_file}
use Rattle.tmr_top.specs.Private.Opened.{HoldsBytes}
use Rattle.tmr_top.specs.Private.Shown.{AreDesignBytes, AreShown, IsShownNetlist}
use Rattle.tmr_top.proofs.LoadLaws.{refusal_more}
use Rattle.tmr_top.proofs.shown_pairs.read_designs.Goals as goal

pub returns-in-Ok-read_hardened-clause-gives : goal.returns-in-Ok-read_hardened-clause-gives
returns-in-Ok-read_hardened-clause-gives c = λ held loaded. record {
  original_read = c.in-Ok.ensures.gives held loaded.original_loaded;
  hardened_read = c.in-Ok-read_hardened.ensures.gives held loaded.hardened_loaded;
}

pub returns-in-Err-read_hardened-clause-gives : goal.returns-in-Err-read_hardened-clause-gives
returns-in-Err-read_hardened-clause-gives c =
    let one = original_file c.args.limits c.args.original.now in
    let other = hardened_file c.args.limits c.args.hardened.now in
    refusal_more (λ held. HoldsBytes held (kept_file other) c.args.loaded.hardened.items) (AreDesignBytes c.args.limits c.args.original.now c.args.hardened.now c.args.loaded) (IsShownNetlist other) (AreShown one other) _ c.in-Err-read_hardened.ensures.gives (λ held loaded. loaded.hardened_loaded)
    (λ text held loaded shown. inr (record { design = _; free = _; first_read = c.in-Ok.ensures.gives held loaded.original_loaded; shown = shown }))

pub returns-in-Err-clause-gives : goal.returns-in-Err-clause-gives
returns-in-Err-clause-gives c =
    let one = original_file c.args.limits c.args.original.now in
    let other = hardened_file c.args.limits c.args.hardened.now in
    refusal_more (λ held. HoldsBytes held (kept_file one) c.args.loaded.original.items) (AreDesignBytes c.args.limits c.args.original.now c.args.hardened.now c.args.loaded) (IsShownNetlist one) (AreShown one other) _ c.in-Err.ensures.gives (λ held loaded. loaded.original_loaded) (λ text held loaded shown. inl shown)
