use Rattle.std.proofs.Common.{◌≡◌, ◌++◌, drop}
use Rattle.blif_text.specs.Private.Answers.{plain}
use Rattle.blif_text.specs.Kind.{names_kind}
use Rattle.blif_text.proofs.statements.name_lists.read_names.Given as goal

abbrev pub invariant-loop-token : goal.invariant-loop-token
invariant-loop-token l = record {
  read : l.names.items ++ plain (drop l.token-index l.tokens) ≡ plain l.tokens;
  rest : names_kind (plain (drop l.token-index l.tokens)) ≡ names_kind (plain l.tokens);
}
