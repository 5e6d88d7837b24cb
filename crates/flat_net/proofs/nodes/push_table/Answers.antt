use Rattle.std.proofs.Common.{rules, refl}
use Rattle.flat_net.specs.declared.nodes.Body.TheVariants.{TableBody}
use Rattle.flat_net.proofs.PacksLaws.{packs_more}
use Rattle.flat_net.proofs.nodes.push_table.Goals as goal

pub returns-clause-table : goal.returns-clause-table
returns-clause-table c = λ names name done k.
    packs_more c.args.nodes.now _ (TableBody c.args.cover) c.args.pins.now 0 (record { bodies = search rules; pins = search rules; ends = search rules; registers = search rules }) (λ n. tt) names name done refl k
