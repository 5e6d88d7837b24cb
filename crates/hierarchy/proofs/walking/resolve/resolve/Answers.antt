use Rattle.std.proofs.Common.{◌∙◌, sym, ap, arith}
use Rattle.std.specs.Prelude.{option_copied}
use Rattle.hierarchy.proofs.Resolving.{frame_kept, outwards, stays_here, outermost, known_here, inner_end}
use Rattle.hierarchy.specs.Private.Walk.{library_of}
use Rattle.hierarchy.proofs.walking.resolve.resolve.Goals as goal

pub actual_in-requires-clause-placing : goal.actual_in-requires-clause-placing
actual_in-requires-clause-placing c = (frame_kept (library_of c.args.place.now.ready) c.args.place.now.walk.now c.loop-depth.depth c.index-frame.result.now c.requires.walking (omega arith) c.loop-depth.invariant.within c.index-frame.ensures).1

pub returns-in-None-clause-within : goal.returns-in-None-clause-within
returns-in-None-clause-within c = (frame_kept (library_of c.args.place.now.ready) c.args.place.now.walk.now c.loop-depth.depth c.index-frame.result.now c.requires.walking (omega arith) c.loop-depth.invariant.within c.index-frame.ensures).0

pub returns-in-None-clause-net : goal.returns-in-None-clause-net
returns-in-None-clause-net c = stays_here (library_of c.args.place.now.ready) c.args.place.now.walk.now c.loop-depth.depth c.index-frame.result.now c.loop-depth.found.now _ (omega arith) c.loop-depth.invariant.within c.index-frame.ensures c.loop-depth.invariant.same (sym c.in-None.ensures)

pub loop-depth-preserved : goal.loop-depth-preserved
loop-depth-preserved c = record {
  within = omega (arith, c.loop-depth.invariant.within);
  same = outwards (library_of c.args.place.now.ready) c.args.place.now.walk.now c.loop-depth.depth c.index-frame.result.now c.loop-depth.found.now _ (omega arith) c.loop-depth.invariant.within c.index-frame.ensures c.loop-depth.invariant.same c.in-Some-actual_in.actual.now (sym c.in-Some-actual_in.ensures);
}

pub returns-clause-net : goal.returns-clause-net
returns-clause-net c = outermost (library_of c.args.place.now.ready) c.args.place.now.walk.now c.loop-depth.depth c.loop-depth.found.now _ (omega arith) c.loop-depth.invariant.same

pub returns-in-Some-clause-within : goal.returns-in-Some-clause-within
returns-in-Some-clause-within c = let low = (known_here (library_of c.args.place.now.ready) c.args.place.now.walk.now c.loop-depth.depth c.index-frame.result.now c.loop-depth.found.now _ c.requires.walking (omega arith) c.loop-depth.invariant.within c.index-frame.ensures c.loop-depth.invariant.same c.in-Some.field-0.now.0 c.in-Some.field-0.now.1 (sym c.known_at.ensures ∙ ap option_copied c.in-Some.is)).0 in let high = (frame_kept (library_of c.args.place.now.ready) c.args.place.now.walk.now c.loop-depth.depth c.index-frame.result.now c.requires.walking (omega arith) c.loop-depth.invariant.within c.index-frame.ensures).0 in omega arith

pub returns-in-Some-clause-inner : goal.returns-in-Some-clause-inner
returns-in-Some-clause-inner c = λ f frames first. (let low = (known_here (library_of c.args.place.now.ready) c.args.place.now.walk.now c.loop-depth.depth c.index-frame.result.now c.loop-depth.found.now _ c.requires.walking (omega arith) c.loop-depth.invariant.within c.index-frame.ensures c.loop-depth.invariant.same c.in-Some.field-0.now.0 c.in-Some.field-0.now.1 (sym c.known_at.ensures ∙ ap option_copied c.in-Some.is)).0 in let high = inner_end (library_of c.args.place.now.ready) c.args.place.now.walk.now c.loop-depth.depth c.index-frame.result.now f frames c.requires.walking (omega arith) c.loop-depth.invariant.within c.index-frame.ensures first in omega arith)

pub returns-in-Some-clause-net : goal.returns-in-Some-clause-net
returns-in-Some-clause-net c = (known_here (library_of c.args.place.now.ready) c.args.place.now.walk.now c.loop-depth.depth c.index-frame.result.now c.loop-depth.found.now _ c.requires.walking (omega arith) c.loop-depth.invariant.within c.index-frame.ensures c.loop-depth.invariant.same c.in-Some.field-0.now.0 c.in-Some.field-0.now.1 (sym c.known_at.ensures ∙ ap option_copied c.in-Some.is)).1

pub returns-in-None-clause-inner : goal.returns-in-None-clause-inner
returns-in-None-clause-inner c = λ f frames first. inner_end (library_of c.args.place.now.ready) c.args.place.now.walk.now c.loop-depth.depth c.index-frame.result.now f frames c.requires.walking (omega arith) c.loop-depth.invariant.within c.index-frame.ensures first
