use Rattle.std.proofs.Common.{refl, arith}
use Rattle.triplicate.proofs.Building.{given_of}
use Rattle.triplicate.proofs.planning.plan_of.Goals as goal

pub cut_of-requires : goal.cut_of-requires
cut_of-requires c = c.requires.chosen.long

pub bound_in_order-requires-clause-parts : goal.bound_in_order-requires-clause-parts
bound_in_order-requires-clause-parts c = c.requires.chosen.long

pub voting_parts-requires : goal.voting_parts-requires
voting_parts-requires c =
    record {
      votes = record {
        parts_long = c.requires.chosen.long;
        cut = c.in_ok-found.ensures.loops;
        marks = c.in_ok-extra.ensures.marks;
      };
      in_range = c.requires.chosen.range;
    }

pub returns : goal.returns
returns c =
    record {
      inputs_are = refl;
      given = given_of c.args.form c.args.n.now.net c.args.refined.parts (record { inputs = c.args.inputs; cut = c.in_ok-found.found.cut; marks = c.in_ok-extra.extra.marks }) c.in_ok-extra.extra.table
          c.nodes_of-nodes.ensures.design.valid c.requires.few c.requires.chosen.long c.requires.chosen.range (omega (arith, c.count-count.ensures)) c.in_ok-found.ensures.cut c.in_ok-extra.ensures.extra.depths;
      kind_is = refl;
      cut_is = refl;
      extra_is = refl;
      votes = record {
        parts_long = c.requires.chosen.long;
        cut = c.in_ok-found.ensures.loops;
        marks = c.in_ok-extra.ensures.marks;
      };
      bound = c.in_ok-extra.ensures.extra;
      none = c.in_ok-extra.ensures.none;
      exact = c.requires.chosen.parts;
      voters = c.in_ok-voters.ensures.rows;
      taps = c.in_ok-voters.ensures.taps;
      pairs = c.requires.chosen.pairs;
      plain_pairs = c.requires.chosen.plain_pairs;
      minimal = c.requires.chosen.minimal;
    }
