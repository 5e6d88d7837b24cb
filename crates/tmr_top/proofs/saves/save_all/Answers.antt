use Rattle.std.proofs.Common.{◌≡◌, ◌<◌, ◌+◌, ◌∙◌, ◌++◌, ◌∷◌, [], ℕ, suc, length, get_or, drop, take, refl, sym, ap, subst, arith}
use Rattle.std.specs.Vec.Iter.{into_iter_items}
use Rattle.std.proofs.lemmas.List.{length_push}
use Rattle.library_faults.proofs.Items.{next_left}
use Rattle.tmr_top.specs.Private.Saved.{after_saves}
use Rattle.tmr_top.specs.Private.Works.{save_names, save_texts}
use Rattle.tmr_top.proofs.ChangeLaws.{err_gives}
use Rattle.tmr_top.proofs.SaveLaws.{stop_in, change_in, held_in, none_in}
use Rattle.tmr_top.proofs.saves.save_all.Goals as goal

pub returns-in_err-save_one-clause-stop : goal.returns-in_err-save_one-clause-stop
returns-in_err-save_one-clause-stop g c = err_gives c.from_residual.result c.in_err-save_one.field-0.0 _ c.from_residual.ensures.1
    (stop_in c.args.saves.items (length c.loop-save.yielded) c.in-Some.save _ (g.F.Files.seen c.args.files.now) (g.F.Files.seen c.loop-save.files) (g.F.Files.seen c.save_one.new.files) here.0 (sym here.1) refl c.loop-save.invariant.held c.loop-save.invariant.none c.loop-save.invariant.changes _ c.in_err-save_one.ensures.stop)
  where
    here : (length c.loop-save.yielded < length c.args.saves.items) × (get_or c.args.saves.items (length c.loop-save.yielded) c.in-Some.save ≡ c.in-Some.save) × (into_iter_items c.next.new.self ≡ drop (suc (length c.loop-save.yielded)) c.args.saves.items)
    here = next_left (length c.loop-save.yielded) c.args.saves.items c.in-Some.save c.in-Some.save (into_iter_items c.next.new.self) (sym c.in-Some.ensures.steps.0 ∙ c.loop-save.invariant.left)

pub returns-in_err-save_one-clause-changes : goal.returns-in_err-save_one-clause-changes
returns-in_err-save_one-clause-changes g c =
    change_in c.args.saves.items (length c.loop-save.yielded) c.in-Some.save _ (g.F.Files.seen c.args.files.now) (g.F.Files.seen c.loop-save.files) (g.F.Files.seen c.save_one.new.files) here.0 (sym here.1) refl c.loop-save.invariant.held c.loop-save.invariant.none c.loop-save.invariant.changes c.in_err-save_one.ensures.changes
  where
    here : (length c.loop-save.yielded < length c.args.saves.items) × (get_or c.args.saves.items (length c.loop-save.yielded) c.in-Some.save ≡ c.in-Some.save) × (into_iter_items c.next.new.self ≡ drop (suc (length c.loop-save.yielded)) c.args.saves.items)
    here = next_left (length c.loop-save.yielded) c.args.saves.items c.in-Some.save c.in-Some.save (into_iter_items c.next.new.self) (sym c.in-Some.ensures.steps.0 ∙ c.loop-save.invariant.left)

pub loop-save-preserved : goal.loop-save-preserved
loop-save-preserved g c = record {
  left = here.2 ∙ ap (λ (n : ℕ). drop n c.args.saves.items) (sym longer);
  held = subst (λ (n : ℕ). (g.F.Files.seen c.save_one.new.files).contents ≡ after_saves (g.F.Files.seen c.args.files.now).contents (take n (save_names c.args.saves.items)) (save_texts c.args.saves.items)) (sym longer_by)
      (held_in c.args.saves.items (length c.loop-save.yielded) c.in-Some.save _ (g.F.Files.seen c.args.files.now) (g.F.Files.seen c.loop-save.files) (g.F.Files.seen c.save_one.new.files) here.0 (sym here.1) refl c.loop-save.invariant.held c.loop-save.invariant.none c.loop-save.invariant.changes c.in_ok-save_one.ensures.saves);
  none = none_in c.args.saves.items (length c.loop-save.yielded) c.in-Some.save _ (g.F.Files.seen c.args.files.now) (g.F.Files.seen c.loop-save.files) (g.F.Files.seen c.save_one.new.files) here.0 (sym here.1) refl c.loop-save.invariant.held c.loop-save.invariant.none c.loop-save.invariant.changes c.in_ok-save_one.ensures.saves;
  changes = change_in c.args.saves.items (length c.loop-save.yielded) c.in-Some.save _ (g.F.Files.seen c.args.files.now) (g.F.Files.seen c.loop-save.files) (g.F.Files.seen c.save_one.new.files) here.0 (sym here.1) refl c.loop-save.invariant.held c.loop-save.invariant.none c.loop-save.invariant.changes c.in_ok-save_one.ensures.changes;
  steady = λ steady. c.in_ok-save_one.ensures.steady (c.loop-save.invariant.steady steady);
}
  where
    here : (length c.loop-save.yielded < length c.args.saves.items) × (get_or c.args.saves.items (length c.loop-save.yielded) c.in-Some.save ≡ c.in-Some.save) × (into_iter_items c.next.new.self ≡ drop (suc (length c.loop-save.yielded)) c.args.saves.items)
    here = next_left (length c.loop-save.yielded) c.args.saves.items c.in-Some.save c.in-Some.save (into_iter_items c.next.new.self) (sym c.in-Some.ensures.steps.0 ∙ c.loop-save.invariant.left)

    longer : length (c.loop-save.yielded ++ c.in-Some.save ∷ []) ≡ suc (length c.loop-save.yielded)
    longer = let e = length_push c.loop-save.yielded c.in-Some.save in omega (arith, e)

    longer_by : length (c.loop-save.yielded ++ c.in-Some.save ∷ []) ≡ length c.loop-save.yielded + 1
    longer_by = omega (arith, longer)
