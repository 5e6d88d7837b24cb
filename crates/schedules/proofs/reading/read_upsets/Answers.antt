use Rattle.std.proofs.Common.{◌≡◌, ◌+◌, ◌<◌, ◌++◌, ◌∷◌, [], ◌∙◌, ℕ, Bool, List, Option, None, Ok, cond, length, sym, ap, subst, arith}
use Rattle.std.specs.Prelude.{All, is_some}
use Rattle.std.specs.Map.{keys_of}
use Rattle.std.proofs.lemmas.List.{length-append}
use Rattle.std.proofs.lemmas.Map.Views.{All-keys-insert_entry}
use Rattle.toml.specs.View.{view}
use Rattle.toml.specs.declared.value.Value.{Value}
use Rattle.tmr_base.specs.declared.ids.Upset.{Upset}
use Rattle.schedules.specs.Document.{upset_of, entry_of}
use Rattle.schedules.specs.Private.Entries.{place_cmp}
use Rattle.schedules.specs.Private.Reading.{CanBeStruck}
use Rattle.schedules.proofs.Places.{upsets_step, holds_more}
use Rattle.schedules.proofs.Members.{distinct_more}
use Rattle.schedules.proofs.reading.read_upsets.Goals as goal

pub loop-j-preserved : goal.loop-j-preserved
loop-j-preserved c =
    let old = c.loop-j.invariant in
    let u : Upset = c.in-Ok.u in
    let upset = c.in-Ok.ensures.upset old.upsets old.holds in
    let none : c.in-Ok-insert.field-0 ≡ None = c.in-Ok-insert.ensures.old ∙ c.in-Ok.ensures.fresh in
    let one : length c.insert.new.self.entries ≡ length c.loop-j.seen.entries + 1 = c.in-Ok-insert.ensures.len ∙ ap (λ (o : Option Bool). length c.loop-j.seen.entries + cond (is_some o) 0 1) none in
    record {
      upsets = old.upsets ++ u ∷ [];
      listed = upsets_step c.args.version c.args.h.now.net c.args.cycles c.loop-j.j old.upsets c.args.entries.now c.index-entries-j.result u c.loop-j-test.true (subst (λ (v : Value). upset_of c.args.version c.args.h.now.net c.args.cycles c.loop-j.j old.upsets (entry_of (view v)) ≡ Ok u) c.index-entries-j.is upset) ∙ old.listed;
      holds = holds_more c.loop-j.seen c.insert.new.self old.upsets u old.holds c.in-Ok.ensures.fresh c.in-Ok-insert.ensures.updates.0;
      count = let same : length c.loop-j.seen.entries ≡ length old.upsets = old.count in omega (arith, length-append old.upsets (u ∷ []), one, same);
      long = let same : length c.loop-j.seen.entries ≡ c.loop-j.j = old.long in omega arith;
      ordered = c.in-Ok-insert.ensures.ordered;
      range = subst (λ (es : List ((ℕ × ℕ) × Bool)). All (λ k. k.0 < c.args.cycles) (keys_of es)) (sym c.in-Ok-insert.ensures.entries) (All-keys-insert_entry place_cmp (u.cycle, u.net.0) u.value (λ k. k.0 < c.args.cycles) c.loop-j.seen.entries old.range c.in-Ok.ensures.range);
      nets = subst (λ (es : List ((ℕ × ℕ) × Bool)). All (λ k. CanBeStruck c.args.version c.args.h.now.net k.1) (keys_of es)) (sym c.in-Ok-insert.ensures.entries) (All-keys-insert_entry place_cmp (u.cycle, u.net.0) u.value (λ k. CanBeStruck c.args.version c.args.h.now.net k.1) c.loop-j.seen.entries old.nets c.in-Ok.ensures.struck);
      distinct = distinct_more old.upsets u old.distinct (sym (old.holds u.cycle u.net.0) ∙ c.in-Ok.ensures.fresh);
    }
