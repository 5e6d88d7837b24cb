use Rattle.std.proofs.Common.{◌<◌}
use Rattle.flat_net.specs.Net.{net_count}
use Rattle.replay_cases.proofs.Lists.{all_more}
use Rattle.replay_cases.proofs.stepping.push_triple.Goals as goal

pub returns : goal.returns
returns c = all_more (λ f. f.0.0 < net_count c.args.net.now.net) c.args.forced.now.items c.push.new.self.items c.args.triple c.requires.all c.requires.triple c.in_ok-push.ensures.items
