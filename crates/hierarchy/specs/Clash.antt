-- Texts that two nets share.
use Rattle.std.specs.Prelude.{ℕ, Bool, ◌&&◌, not, List, [], ◌∷◌, ◌++◌, map, flat_map, Option, Some, None, if◌then◌else◌}
use Rattle.std.specs.List.{list_any}
use Rattle.std.specs.Str.{bytes_eq}
use Rattle.tmr_base.specs.declared.ids.Edge.{Edge}
use Rattle.blif_text.specs.Models.{PlainModel}
use Rattle.library_faults.specs.Flat.{PlacedNet, net_text, NetElement, NetTable, NetRegister, main_of, flat_elements}

abbrev pub main_net : List ℕ → PlacedNet
main_net name = record { path = []; name = name }

abbrev pub control_nets : Option (Edge × PlacedNet) → List PlacedNet
control_nets None = []
control_nets (Some (edge, net)) = net ∷ []

-- pins, output and control
abbrev pub nets_of : NetElement → List PlacedNet
nets_of (NetTable pins out cover) = pins ++ out ∷ []
nets_of (NetRegister pin out control init) = pin ∷ out ∷ control_nets control

-- the main inputs, the nets of each element, the main outputs
unfoldable pub walked : List PlainModel → List PlacedNet
walked library = map main_net (main_of library).inputs ++ flat_map nets_of (flat_elements library) ++ map main_net (main_of library).outputs

abbrev pub same_net : PlacedNet → PlacedNet → Bool
same_net a b = bytes_eq a.path b.path && bytes_eq a.name b.name

-- the other net has the same text, and is not the same
abbrev pub clashes : PlacedNet → PlacedNet → Bool
clashes net other = bytes_eq (net_text other) (net_text net) && not (same_net other net)

-- an earlier different net has its text
abbrev pub is_taken : List PlacedNet → PlacedNet → Bool
is_taken before net = list_any (clashes net) before

-- the first text that an earlier different net has
unfoldable pub clash_after : List PlacedNet → List PlacedNet → Option (List ℕ)
clash_after before [] = None
clash_after before (net ∷ nets) = if is_taken before net then Some (net_text net) else clash_after (before ++ net ∷ []) nets

abbrev pub name_clash : List PlainModel → Option (List ℕ)
name_clash library = clash_after [] (walked library)
