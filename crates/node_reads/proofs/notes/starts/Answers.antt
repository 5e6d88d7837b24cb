use Rattle.std.proofs.Common.{◌≡◌, ◌+◌, ℕ, suc, length, sym, ap, ◌∙◌, arith}
use Rattle.std.proofs.lemmas.List.{length_push}
use Rattle.node_reads.specs.Private.Logged.{start_in}
use Rattle.node_reads.proofs.LoggedLaws.{start_none, start_more, row_within, starts_pushed}
use Rattle.node_reads.proofs.notes.starts.Goals as goal

pub loop-x-init : goal.loop-x-init
loop-x-init c = record { next = sym (start_none c.args.log.now); long = ap length c.in_ok-starts.ensures.items; each = λ z h. absurd (omega (arith, h)) }

pub overflow_add-next : goal.overflow_add-next
overflow_add-next c =
    omega (arith, c.count_at-next.ensures, c.loop-x.invariant.next, row_within (length c.args.tallies.now) c.args.log.now c.loop-x.x c.requires.rows c.loop-x-test.true, c.requires.few)

pub loop-x-preserved : goal.loop-x-preserved
loop-x-preserved c =
    let more : c.loop-x.x + 1 ≡ suc c.loop-x.x = omega arith in
    record {
      next = omega (arith, c.count_at-next.ensures, c.loop-x.invariant.next, start_more c.args.log.now c.loop-x.x, ap (λ (k : ℕ). start_in c.args.log.now k) more);
      long = ap length c.in_ok-push.ensures.items ∙ (length_push c.loop-x.starts.items c.loop-x.next ∙ ap (λ (k : ℕ). k + 1) c.loop-x.invariant.long);
      each = starts_pushed c.args.log.now c.loop-x.starts.items c.push.new.self.items c.loop-x.x c.loop-x.next c.loop-x.invariant.long c.in_ok-push.ensures.items c.loop-x.invariant.next c.loop-x.invariant.each;
    }
