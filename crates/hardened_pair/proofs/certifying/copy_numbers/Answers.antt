use Rattle.std.proofs.Common.{◌+◌, ◌++◌, [], ◌∷◌, List, map, length, sym, ap, ◌∙◌, arith}
use Rattle.std.specs.List.{range_with_len}
use Rattle.std.proofs.lemmas.List.{map-append}
use Rattle.std.proofs.lemmas.List.FromFn.{map-range_with_len_more}
use Rattle.tmr_base.specs.Copies.{Three}
use Rattle.certificate.specs.Threes.{three_ids}
use Rattle.hardened_pair.specs.Private.Layouts.{net_of, partitions, voted}
use Rattle.triplicate.specs.Construction.{three_copies}
use Rattle.triplicate.proofs.Places.{copy_few, three_is}
use Rattle.hardened_pair.proofs.certifying.copy_numbers.Goals as goal

pub overflow_add-copy : goal.overflow_add-copy
overflow_add-copy c = omega (arith, c.first_copy-copy.ensures, c.requires.room.nets, copy_few (net_of c.args.layout.now) (partitions c.args.layout.now) (voted c.args.layout.now) (c.input_count-inputs.result + c.loop-y.y) (omega (arith, c.input_count-inputs.ensures.count, c.nodes_of-count.ensures.count, c.loop-y-test.true)))

pub overflow_add-copy-in-loop-y : goal.overflow_add-copy-in-loop-y
overflow_add-copy-in-loop-y c = omega (arith, c.first_copy-copy.ensures, c.requires.room.nets, copy_few (net_of c.args.layout.now) (partitions c.args.layout.now) (voted c.args.layout.now) (c.input_count-inputs.result + c.loop-y.y) (omega (arith, c.input_count-inputs.ensures.count, c.nodes_of-count.ensures.count, c.loop-y-test.true)))

pub loop-y-preserved : goal.loop-y-preserved
loop-y-preserved c =
    let f = three_copies (net_of c.args.layout.now) (partitions c.args.layout.now) (voted c.args.layout.now) in
    let three = three_is (net_of c.args.layout.now) (partitions c.args.layout.now) (voted c.args.layout.now) (c.input_count-inputs.result + c.loop-y.y) c.first_copy-copy.result c.first_copy-copy.ensures in
    ap (map three_ids) c.in_ok-push.ensures.items ∙ (map-append three_ids c.loop-y.copies.items _
    ∙ (ap (λ (ts : List Three). ts ++ record { first = c.first_copy-copy.result; second = c.first_copy-copy.result + 1; third = c.first_copy-copy.result + 2 } ∷ []) c.loop-y.invariant
    ∙ (ap (λ (three : Three). map f (range_with_len (length (net_of c.args.layout.now).inputs) c.loop-y.y) ++ three ∷ []) three
    ∙ sym (map-range_with_len_more f (length (net_of c.args.layout.now).inputs) c.loop-y.y (c.input_count-inputs.result + c.loop-y.y) (omega (arith, c.input_count-inputs.ensures.count))))))
