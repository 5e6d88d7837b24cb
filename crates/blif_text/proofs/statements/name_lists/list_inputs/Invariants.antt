use Rattle.std.proofs.Common.{◌≡◌, ◌++◌, drop}
use Rattle.blif_text.specs.Private.Answers.{plain}
use Rattle.blif_text.specs.Kind.{ports_kind}
use Rattle.blif_text.specs.Models.{appearing}
use Rattle.blif_text.proofs.statements.name_lists.list_inputs.Given as goal

abbrev pub invariant-loop-token : goal.invariant-loop-token
invariant-loop-token l = record {
  listed : l.listed.keys ++ plain (drop l.token-index l.tokens) ≡ l.fn.listed.keys ++ plain l.tokens;
  rest : ports_kind l.listed.keys (plain (drop l.token-index l.tokens)) ≡ ports_kind l.fn.listed.keys (plain l.tokens);
  ports : appearing l.ports.keys (plain (drop l.token-index l.tokens)) ≡ appearing l.fn.ports.keys (plain l.tokens);
}
