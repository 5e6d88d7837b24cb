use Rattle.std.proofs.Common.{◌≡◌, ◌+◌, ◌/◌, ℕ, List, length, replicate, [], ap, ◌∙◌, arith}
use Rattle.node_reads.specs.declared.notes.Note.{Note}
use Rattle.node_reads.proofs.DealtLaws.{logs_more}
use Rattle.node_reads.proofs.dealing.empty_blocks.Goals as goal

pub loop-b-preserved : goal.loop-b-preserved
loop-b-preserved c = logs_more c.loop-b.blocks.items c.push.new.self.items c.in_ok-with_capacity.field-0 c.loop-b.b c.loop-b.invariant c.in_ok-push.ensures.items c.in_ok-with_capacity.ensures.items

pub returns : goal.returns
returns c =
    let all : c.loop-b.b ≡ length c.args.tallies.now / 16384 + 1 = omega (arith, c.loop-b-test.false, c.loop-b.auto.b-end) in
    c.loop-b.invariant ∙ ap (λ (k : ℕ). replicate {A = List Note} k []) all
