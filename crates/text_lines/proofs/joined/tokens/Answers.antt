use Rattle.std.proofs.Common.{take, refl}
use Rattle.text_lines.specs.Tokens.{plain}
use Rattle.text_lines.specs.Joined.{tokens}
use Rattle.text_lines.proofs.TokenSteps.{found_more, all_found, is_nothing}
use Rattle.text_lines.proofs.joined.tokens.Goals as goal

pub loop-rest-preserved : goal.loop-rest-preserved
loop-rest-preserved c =
    found_more (tokens c.args.text.now) (plain c.loop-rest.found.items) (plain c.push_token.new.found.items) c.loop-rest.rest.now c.behind-rest.result.now
    c.word_end-end.result (take c.word_end-end.result c.loop-rest.rest.now)
    c.loop-rest.invariant c.in_ok-push_token.ensures c.word_end-end.ensures refl c.behind-rest.ensures

pub returns : goal.returns
returns c = all_found (tokens c.args.text.now) (plain c.loop-rest.found.items) c.loop-rest.rest.now c.loop-rest.invariant (is_nothing c.loop-rest.rest.now c.loop-rest-test.ensures)
