-- The flat elements of tables and registers.
use Rattle.std.specs.Prelude.{List, [], ◌∷◌, map}
use Rattle.blif_text.specs.Models.{PlainElement, Table, Register, Instance}
use Rattle.library_faults.specs.Flat.{Level, NetElement, NetTable, NetRegister, resolve, resolved_control}

-- the flat element of a table or a register at these levels
abbrev pub placed_element : List Level → PlainElement → List NetElement
placed_element levels (Table pins out cover) = NetTable (map (resolve levels) pins) (resolve levels out) cover ∷ []
placed_element levels (Register pin out control init) = NetRegister (resolve levels pin) (resolve levels out) (resolved_control levels control) init ∷ []
placed_element levels (Instance model bindings) = []
