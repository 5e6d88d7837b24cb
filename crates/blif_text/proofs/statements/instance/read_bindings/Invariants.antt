use Rattle.std.proofs.Common.{◌≡◌, ◌++◌, drop, map}
use Rattle.blif_text.specs.Private.Answers.{plain}
use Rattle.blif_text.specs.Kind.{bindings_kind}
use Rattle.blif_text.specs.Models.{binding}
use Rattle.blif_text.proofs.statements.instance.read_bindings.Given as goal

abbrev pub invariant-loop-token : goal.invariant-loop-token
invariant-loop-token l = record {
  read : l.bindings.items ++ map binding (plain (drop l.token-index l.tokens)) ≡ map binding (plain l.tokens);
  rest : bindings_kind (plain (drop l.token-index l.tokens)) ≡ bindings_kind (plain l.tokens);
}
