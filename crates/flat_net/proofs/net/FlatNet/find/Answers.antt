use Rattle.std.proofs.Common.{◌≡◌, Some, None, sym, ap, ◌∙◌, rules}
use Rattle.std.specs.Prelude.{position}
use Rattle.std.specs.Str.{bytes_eq}
use Rattle.flat_net.specs.Net.{net_names, net_named}
use Rattle.flat_net.proofs.net.FlatNet.find.Goals as goal

pub returns-in-Some-clause-exact : goal.returns-in-Some-clause-exact
unfolding net_named
returns-in-Some-clause-exact c =
    let names : c.names.result.now.keys ≡ net_names c.args.self.now.net = search rules in
    let found : position (bytes_eq c.args.name.now) c.names.result.now.keys ≡ Some c.in-Some.x = search rules in
    sym found ∙ ap (position (bytes_eq c.args.name.now)) names

pub returns-in-None-clause-exact : goal.returns-in-None-clause-exact
unfolding net_named
returns-in-None-clause-exact c =
    let names : c.names.result.now.keys ≡ net_names c.args.self.now.net = search rules in
    let found : position (bytes_eq c.args.name.now) c.names.result.now.keys ≡ None = search rules in
    sym found ∙ ap (position (bytes_eq c.args.name.now)) names
