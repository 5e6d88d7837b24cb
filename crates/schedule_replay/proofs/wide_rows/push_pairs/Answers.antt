use Rattle.std.proofs.Common.{◌≡◌, ◌∙◌, ◌&&◌, Bool, false, Some, get_or, slice_get, ap}
use Rattle.std.proofs.lemmas.Option.{slice_get-get_or}
use Rattle.tmr_base.specs.declared.ids.NetId.{NetId}
use Rattle.schedule_replay.proofs.WideRows.{own_run, other_run, triples_more, and_true}
use Rattle.schedule_replay.proofs.wide_rows.push_pairs.Goals as goal

pub loop-k-preserved : goal.loop-k-preserved
loop-k-preserved c =
    let none : NetId × Bool = (record { 0 = 0 }, false) in
    let f : NetId × Bool = get_or c.args.pairs.now c.loop-k.k none in
    let at : slice_get c.args.pairs.now c.loop-k.k ≡ Some f = slice_get-get_or c.args.pairs.now c.loop-k.k none c.loop-k-test.true in
    record {
      own = λ j x l in_mask none.
          own_run f.0 c.args.mask c.value_word.result c.loop-k.struck.items c.push.new.self.items c.in_ok-push.ensures.items j x c.args.pairs.now c.loop-k.k f.1 at in_mask
          (c.value_word.ensures j l ∙ (ap (λ (b : Bool). f.1 && b) in_mask ∙ and_true f.1)) (c.loop-k.invariant.own j x l in_mask none);
      others = λ j x apart.
          other_run f.0 c.args.mask c.value_word.result c.loop-k.struck.items c.push.new.self.items c.in_ok-push.ensures.items j x apart ∙ c.loop-k.invariant.others j x apart;
      nets = λ high all before.
          triples_more high c.loop-k.struck.items c.push.new.self.items (f.0, c.args.mask, c.value_word.result) (c.loop-k.invariant.nets high all before) (all c.loop-k.k none c.loop-k-test.true) c.in_ok-push.ensures.items;
    }
