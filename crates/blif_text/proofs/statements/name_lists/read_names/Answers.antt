use Rattle.blif_text.proofs.Tokens.{read_on, names_kind_more}
use Rattle.blif_text.proofs.statements.name_lists.read_names.Goals as goal

pub loop-token-preserved : goal.loop-token-preserved
loop-token-preserved c = record {
  read = read_on c.args.tokens.now c.loop-token.token-index _ c.loop-token.names.items c.push.new.self.items c.in_ok-name.name _ c.loop-token-test.true c.in_ok-push.ensures.items c.in_ok-name.ensures.1 c.loop-token.invariant.read;
  rest = names_kind_more c.args.tokens.now c.loop-token.token-index _ _ c.loop-token-test.true c.in_ok-name.ensures.0 c.loop-token.invariant.rest;
}
