use Rattle.std.proofs.Common.{ℕ, ap, ◌∙◌}
use Rattle.std.specs.Prelude.{◌==◌}
use Rattle.partition_graph.proofs.PlaceLaws.{drawn_is}
use Rattle.partition_graph.proofs.places.is_drawn.Goals as goal

pub returns : goal.returns
returns c = ap (λ (a : ℕ). a == c.args.p) (c.requires.places.each c.args.p c.requires.part) ∙ drawn_is c.args.c.now c.args.p c.requires.part
