use Rattle.std.proofs.Common.{◌≡◌, ◌∙◌, ◌<◌, ℕ, true, List, length, map, slice_index, arith}
use Rattle.std.specs.Prelude.{slice_index_or}
use Rattle.std.proofs.lemmas.List.{get_or-map, length-set}
use Rattle.tmr_base.specs.declared.ids.NetId.{NetId}
use Rattle.net_simulator.proofs.ChangeLaws.{kept_off, one_more_due, none_forced}
use Rattle.net_simulator.proofs.changes.make_forced_due.Goals as goal

pub loop-i-preserved : goal.loop-i-preserved
loop-i-preserved c =
    let triples = c.args.triples.now in
    let d : NetId × ℕ × ℕ = (record { 0 = 0 }, 0, 0) in
    let nets : List ℕ = map (λ (f : NetId × ℕ × ℕ). f.0.0) triples in
    let x : ℕ = (slice_index_or triples c.loop-i.i d).0.0 in
    let here : slice_index nets c.loop-i.i ≡ x = get_or-map (λ (f : NetId × ℕ × ℕ). f.0.0) triples c.loop-i.i d 0 c.loop-i-test.true in
    let range : x < length c.args.due.now = c.requires c.loop-i.i d c.loop-i-test.true in
    let long = c.loop-i.invariant.long in
    let within : x < length c.loop-i.due = omega (arith, range, long) in
    record {
      free = λ y k f l. one_more_due nets c.loop-i.due c.loop-i.i x y k here within f l (λ h. c.loop-i.invariant.free y k (kept_off c.loop-i.due x y within f) h);
      kept = λ y f. c.loop-i.invariant.kept y (kept_off c.loop-i.due x y within f);
      long = length-set c.loop-i.due x true ∙ c.loop-i.invariant.long;
    }

pub returns-clause-free : goal.returns-clause-free
returns-clause-free c = λ j y f. none_forced j y c.args.triples.now (λ i l. c.loop-i.invariant.free y i f (omega arith))
