use Rattle.blif_text.specs.Models.{binding}
use Rattle.blif_text.proofs.Tokens.{read_more, bindings_kind_more}
use Rattle.blif_text.proofs.statements.instance.read_bindings.Goals as goal

pub loop-token-preserved : goal.loop-token-preserved
loop-token-preserved c = record {
  read = read_more binding c.args.tokens.now c.loop-token.token-index _ c.loop-token.bindings.items c.push.new.self.items c.in_ok-binding.binding _ c.loop-token-test.true c.in_ok-push.ensures.items c.in_ok-binding.ensures.1 c.loop-token.invariant.read;
  rest = bindings_kind_more c.args.tokens.now c.loop-token.token-index _ _ c.loop-token-test.true c.in_ok-binding.ensures.0 c.loop-token.invariant.rest;
}
