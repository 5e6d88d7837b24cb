-- The lists that are made are the guarded design.
use Rattle.std.proofs.Common.{◌≡◌, ◌+◌, ◌*◌, length, map, sym, ◌∙◌}
use Rattle.std.specs.Option.{option_map}
use Rattle.tmr_base.specs.Names.{clock_text}
use Rattle.flat_net.specs.Net.{Net}
use Rattle.flat_net.specs.Nodes.{number_of}
use Rattle.flat_net.specs.declared.wiring.Wiring.TheInside.{Inside}
use Rattle.flat_net.proofs.PacksLaws.{IsAssembled}
use Rattle.dwc.specs.declared.made.Made.{Made}
use Rattle.dwc.specs.Guard.{guard_net}
use Rattle.dwc.specs.Making.{IsMade}
use Rattle.dwc.proofs.Nodes.{length-inputs, length-nodes}
use Rattle.dwc.proofs.Valid.{model_same, clock_same}
use Rattle.dwc.proofs.Making.{made_names, made_nodes}

pub assembles : (n : Net) (made : Made) (w : Inside) → IsMade (guard_net n) (2 * length n.nodes + length n.outputs + 1) made → w.names ≡ made.names → w.nodes ≡ made.nodes → w.model ≡ n.model → w.inputs ≡ 2 * length n.inputs → map number_of w.outputs.items ≡ (guard_net n).outputs → w.clock ≡ option_map (λ c. (c.0, clock_text c.1)) n.clock → IsAssembled (guard_net n) w
assembles n made w is names nodes model inputs outputs clock = record {
  model = model ∙ sym (model_same n);
  names = rw names (made_names (guard_net n) (2 * length n.nodes + length n.outputs + 1) made is (sym (length-nodes n)));
  inputs = inputs ∙ sym (length-inputs n);
  nodes = rw nodes (made_nodes (guard_net n) (2 * length n.nodes + length n.outputs + 1) made is (sym (length-nodes n)));
  outputs = outputs;
  clock = clock ∙ sym (clock_same n);
}
