use Rattle.std.proofs.Common.{[], ◌∷◌}
use Rattle.std.specs.Prelude.{codes}
use Rattle.std.specs.Fmt.{decimal}
use Rattle.reports.proofs.WordLaws.{numbers_put}
use Rattle.reports.proofs.writing.put_numbers.Goals as goal

pub returns : goal.returns
returns c =
    numbers_put c.args.out.now.items c.put_decimal.new.out.items c.put_number.new.out.items c.put_number-2.new.out.items c.put_number-3.new.out.items c.put_number-4.new.out.items c.put_number-5.new.out.items c.put_word.new.out.items (decimal c.args.p)
    (codes "nodes" ∷ decimal c.args.part.nodes ∷ []) (codes "registers" ∷ decimal c.args.part.registers ∷ []) (codes "loops" ∷ decimal c.args.part.loops ∷ []) (codes "depth" ∷ decimal c.args.part.depth ∷ []) (codes "least" ∷ decimal c.args.part.least ∷ []) (codes "chain" ∷ [])
    c.in_ok-put_decimal.ensures c.in_ok-put_number.ensures c.in_ok-put_number-2.ensures c.in_ok-put_number-3.ensures c.in_ok-put_number-4.ensures c.in_ok-put_number-5.ensures c.in_ok-put_word.ensures
