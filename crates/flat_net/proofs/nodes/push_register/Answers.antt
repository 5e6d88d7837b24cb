use Rattle.std.proofs.Common.{rules, refl, [], ◌∷◌}
use Rattle.flat_net.specs.declared.nodes.Body.TheVariants.{RegisterBody}
use Rattle.flat_net.proofs.PacksLaws.{packs_more}
use Rattle.flat_net.proofs.nodes.push_register.Goals as goal

pub returns-clause-register : goal.returns-clause-register
returns-clause-register c = λ names name done k.
    packs_more c.args.nodes.now _ (RegisterBody c.args.init) (c.args.pin ∷ []) 1 (record { bodies = search rules; pins = search rules; ends = search rules; registers = search rules }) (λ n. refl) names name done refl k
