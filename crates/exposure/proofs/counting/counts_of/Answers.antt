use Rattle.std.proofs.Common.{◌≡◌, ◌+◌, ◌≤◌, ◌<◌, ℕ, length, get_or, refl, ap, ◌∙◌, arith}
use Rattle.std.specs.Prelude.{slice_set}
use Rattle.std.proofs.lemmas.List.{get_or_default}
use Rattle.exposure.proofs.CountLaws.{one_more_role, few_so_far}
use Rattle.exposure.proofs.counting.counts_of.Goals as goal

pub overflow_add-index_mut : goal.overflow_add-index_mut
overflow_add-index_mut c =
    let old : c.index_mut.result.now ≡ get_or c.loop-g.counts.items c.part_of.result 0 = c.index_mut.ensures.value ∙ get_or_default c.loop-g.counts.items c.part_of.result c.index_mut.result.now 0 (omega (arith, c.part_of.ensures.range, c.loop-g.invariant.long)) in
    let few : c.loop-g.g ≤ length c.args.c.now.roles = omega (arith, c.loop-g-test.true, c.node_count-g-end.ensures, c.requires.hardened_nodes) in
    omega (arith, old, few_so_far c.args.c.now c.args.copy c.loop-g.g c.part_of.result c.loop-g.counts.items c.loop-g.invariant few c.part_of.ensures.range, c.one_if_of.ensures.few, few, c.parts.ensures.cert.few_hardened)

pub loop-g-preserved : goal.loop-g-preserved
loop-g-preserved c =
    let old : c.index_mut.result.now ≡ get_or c.loop-g.counts.items c.part_of.result 0 = c.index_mut.ensures.value ∙ get_or_default c.loop-g.counts.items c.part_of.result c.index_mut.result.now 0 (omega (arith, c.part_of.ensures.range, c.loop-g.invariant.long)) in
    let h : c.loop-g.g < length c.args.c.now.roles = omega (arith, c.loop-g-test.true, c.node_count-g-end.ensures, c.requires.hardened_nodes) in
    one_more_role c.args.c.now c.args.copy c.hardened_inputs-first.result c.loop-g.g (c.hardened_inputs-first.result + c.loop-g.g) c.part_of.result c.one_if_of.result c.role-role.result c.loop-g.counts.items (slice_set c.loop-g.counts.items c.part_of.result (c.index_mut.result.now + c.one_if_of.result))
    c.loop-g.invariant c.hardened_inputs-first.ensures.value refl c.role-role.ensures.role h c.part_of.ensures.part c.part_of.ensures.range c.one_if_of.ensures.count (ap (λ (m : ℕ). slice_set c.loop-g.counts.items c.part_of.result (m + c.one_if_of.result)) old)
