use Rattle.std.proofs.Common.{◌≡◌, ◌-◌, length, map, subst, ap, ◌∙◌, arith}
use Rattle.std.proofs.lemmas.List.{length-append, length-map}
use Rattle.flat_net.specs.Net.{IsUnordered}
use Rattle.flat_net.specs.Draft.{PlainDraft, IsDraft, out_of}
use Rattle.flat_net.specs.DraftView.{plain_element}
use Rattle.flat_net.specs.Faults.{draft_names, net_inputs, net_of_draft}
use Rattle.flat_net.specs.Private.Bodies.{body_of}
use Rattle.flat_net.proofs.Sound.{unordered, names_few}
use Rattle.flat_net.proofs.Packing.{IsPackedFrom, net_packed, wiring_packed, bodies_map}
use Rattle.flat_net.proofs.building.packed.Goals as goal

pub overflow_cast-inputs : goal.overflow_cast-inputs
overflow_cast-inputs c =
    let names : c.len.result ≡ length (draft_names c.args.draft) = c.len.ensures.len ∙ ap length c.requires.names in
    omega (arith, names_few c.args.draft c.requires.nets)

pub new-requires : goal.new-requires
new-requires c = wiring_packed c.args.draft _ parts valid
  where
    is : IsDraft c.args.draft
    is = subst (λ (d : PlainDraft). IsDraft d) c.draft.view_is c.draft.invariant

    elements : map plain_element c.draft.inside.elements.items ≡ c.args.draft.elements
    elements = ap (λ (d : PlainDraft). d.elements) c.draft.view_is

    valid : IsUnordered (net_of_draft c.args.draft)
    valid = unordered c.args.draft is c.requires.nets c.requires.pins c.requires.outputs (rw c.requires.names at c.len.ensures.unique) c.requires.once c.requires.clean c.requires.driven

    parts : IsPackedFrom c.args.draft (record { model = c.draft.inside.model; names = c.args.names; inputs = c.len.result - c.len-2.result; nodes = record { bodies = c.in_ok-bodies.bodies; ends = c.args.wires.ends; pins = c.args.wires.pins; registers = c.args.wires.registers }; outputs = c.args.outputs; clock = c.args.clock })
    parts = record {
      model = ap (λ (d : PlainDraft). d.model) c.draft.view_is;
      names = c.requires.names;
      inputs = omega (arith, c.len.ensures.len, ap length c.requires.names, c.len-2.ensures, ap length elements, length-map c.draft.inside.elements.items plain_element, length-append (net_inputs c.args.draft) (map out_of c.args.draft.elements), length-map c.args.draft.elements out_of);
      bodies = c.in_ok-bodies.ensures ∙ (bodies_map plain_element c.draft.inside.elements.items ∙ ap (map body_of) elements);
      wires = rw c.requires.names at c.requires.wires;
      outputs = rw c.requires.names at c.requires.numbers;
      clock = c.requires.clock;
    }

pub returns : goal.returns
returns c = c.new.ensures ∙ net_packed c.args.draft _ parts
  where
    elements : map plain_element c.draft.inside.elements.items ≡ c.args.draft.elements
    elements = ap (λ (d : PlainDraft). d.elements) c.draft.view_is

    parts : IsPackedFrom c.args.draft (record { model = c.draft.inside.model; names = c.args.names; inputs = c.len.result - c.len-2.result; nodes = record { bodies = c.in_ok-bodies.bodies; ends = c.args.wires.ends; pins = c.args.wires.pins; registers = c.args.wires.registers }; outputs = c.args.outputs; clock = c.args.clock })
    parts = record {
      model = ap (λ (d : PlainDraft). d.model) c.draft.view_is;
      names = c.requires.names;
      inputs = omega (arith, c.len.ensures.len, ap length c.requires.names, c.len-2.ensures, ap length elements, length-map c.draft.inside.elements.items plain_element, length-append (net_inputs c.args.draft) (map out_of c.args.draft.elements), length-map c.args.draft.elements out_of);
      bodies = c.in_ok-bodies.ensures ∙ (bodies_map plain_element c.draft.inside.elements.items ∙ ap (map body_of) elements);
      wires = rw c.requires.names at c.requires.wires;
      outputs = rw c.requires.names at c.requires.numbers;
      clock = c.requires.clock;
    }
