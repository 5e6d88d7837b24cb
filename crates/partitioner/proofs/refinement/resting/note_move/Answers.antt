use Rattle.std.proofs.Common.{refl, arith}
use Rattle.std.proofs.lemmas.List.{length-set}
use Rattle.partitioner.specs.declared.refinement.resting.Rest.{Rest}
use Rattle.partitioner.proofs.LossLaws.{sources_below}
use Rattle.partitioner.proofs.RestLaws.{IsNoted, times_noted, noted_kept, noted_apart, row_permutes}
use Rattle.partitioner.proofs.refinement.resting.note_move.Goals as goal

pub set_times-requires : goal.set_times-requires
set_times-requires c =
    let perm = row_permutes c.args.n.now.net c.args.p.now c.args.i c.row.result.now c.requires.tracks c.requires.node c.row.ensures in
    let long = length-set c.advance.new.rest.changed.items c.args.i c.advance.new.rest.clock in
    λ k d l. omega (arith, sources_below c.args.n.now.net c.args.i c.row.result.now perm k d l, long, c.advance.ensures.changed_long, c.requires.dated.changed_long)

pub returns-clause-kept : goal.returns-clause-kept
returns-clause-kept c = λ j is.
    let after : Rest = record { clock = c.advance.new.rest.clock; changed = c.set_times.new.times; rested = c.advance.new.rest.rested } in
    let noted : IsNoted c.args.n.now.net c.advance.new.rest after c.args.i c.advance.new.rest.clock c.row.result.now =
    times_noted c.args.n.now.net c.advance.new.rest after c.args.i c.row.result.now (omega (arith, c.requires.node, c.advance.ensures.changed_long, c.requires.dated.changed_long)) (λ k. refl) c.advance.ensures.later c.set_times.ensures.row c.set_times.ensures.others in
    c.advance.ensures.kept c.args.n.now.net j (noted_kept c.args.n.now.net c.advance.new.rest after c.args.i c.advance.new.rest.clock j c.row.result.now noted is)

pub returns-clause-apart : goal.returns-clause-apart
returns-clause-apart c = λ j l is.
    let after : Rest = record { clock = c.advance.new.rest.clock; changed = c.set_times.new.times; rested = c.advance.new.rest.rested } in
    let perm = row_permutes c.args.n.now.net c.args.p.now c.args.i c.row.result.now c.requires.tracks c.requires.node c.row.ensures in
    let noted : IsNoted c.args.n.now.net c.advance.new.rest after c.args.i c.advance.new.rest.clock c.row.result.now =
    times_noted c.args.n.now.net c.advance.new.rest after c.args.i c.row.result.now (omega (arith, c.requires.node, c.advance.ensures.changed_long, c.requires.dated.changed_long)) (λ k. refl) c.advance.ensures.later c.set_times.ensures.row c.set_times.ensures.others in
    noted_apart c.args.n.now.net c.advance.new.rest after c.args.i c.advance.new.rest.clock j c.row.result.now perm noted l is
