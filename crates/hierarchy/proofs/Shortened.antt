-- Models of the same flat elements have the same flat model, and the same text clashes.
use Rattle.std.proofs.Common.{◌≡◌, List, [], refl, sym, ap, ◌∙◌}
use Rattle.blif_text.specs.Models.{PlainModel}
use Rattle.library_faults.specs.Flat.{flat_model}
use Rattle.wrapper_chains.specs.SameFlat.{IsSameFlat}
use Rattle.hierarchy.specs.Clash.{walked, clash_after, name_clash}
use Rattle.hierarchy.specs.declared.walking.naming.NamingFault.{NamingFault}
use Rattle.hierarchy.specs.declared.walking.naming.NamingFault.TheVariants.{Clash, Memory}
use Rattle.hierarchy.specs.Private.Naming.{IsClash}

module _ (library models : List PlainModel) (same : IsSameFlat library models) where
  walked_alike : walked models ≡ walked library
  unfolding walked
  walked_alike = rw (same.inputs, same.outputs, same.elements) refl

  pub model_alike : flat_model models ≡ flat_model library
  unfolding flat_model
  model_alike = rw (same.name, same.inputs, same.outputs, same.elements) refl

  pub clash_alike : name_clash models ≡ name_clash library
  clash_alike = ap (clash_after []) walked_alike

  pub fault_alike : (fault : NamingFault) → IsClash models fault → IsClash library fault
  fault_alike (Clash text) some = sym clash_alike ∙ some
  fault_alike Memory some = tt

pub ruleset short_laws = (model_alike, clash_alike, fault_alike)
