-- What a net is.
use Rattle.std.specs.Prelude.{Option, Some, None}
use Rattle.flat_net.specs.declared.kind.Kind.{Kind}
use Rattle.flat_net.specs.declared.kind.Kind.TheVariants as kind
use Rattle.flat_net.specs.Net.{Node, Table, Register}

abbrev pub kind_of : Option Node → Kind
kind_of None = kind.Input
kind_of (Some (Table name cover pins)) = kind.Table
kind_of (Some (Register name init pin)) = kind.Register
