use Rattle.std.proofs.Common.{◌+◌, ◌++◌, [], ◌∷◌, ℕ, List, refl, ap, ◌∙◌}
use Rattle.tmr_base.specs.Names.{voter_text}
use Rattle.flat_net.specs.Net.{Table, name_of, node_name}
use Rattle.certificate.specs.declared.role.Role.TheVariants.{Voter}
use Rattle.hardened_pair.specs.Private.Layouts.{net_of, partitions, voted}
use Rattle.hardened_pair.proofs.RoleSteps.{made_more, room_for_pins, voter_is}
use Rattle.hardened_pair.proofs.tripling.push_voter.Goals as goal

pub push_table-requires : goal.push_table-requires
push_table-requires c = room_for_pins c.args.layout.now c.args.made.now (Voter c.args.voted.now.net c.args.p c.args.c) c.requires.layout.room c.requires.made c.requires.next

pub returns-clause-made : goal.returns-clause-made
returns-clause-made c =
    let same = voter_is (net_of c.args.layout.now) (partitions c.args.layout.now) (voted c.args.layout.now) c.args.voted.now.net.0 c.args.p.0 c.args.c c.in_ok-majority.majority c.args.voted.now.copy (c.args.voted.now.copy ∷ (c.args.voted.now.copy + 1) ∷ (c.args.voted.now.copy + 2) ∷ []) (c.in_ok-majority.ensures ∙ c.requires.voted.cover) c.requires.voted.copy refl in
    let name = c.in_ok-name.ensures (name_of (net_of c.args.layout.now) c.args.voted.now.net.0) c.args.p.0 c.requires.stem in
    made_more c.args.layout.now c.args.made.now _ (Voter c.args.voted.now.net c.args.p c.args.c) (Table (voter_text (name_of (net_of c.args.layout.now) c.args.voted.now.net.0) c.args.p.0 c.args.c) c.in_ok-majority.majority (c.args.voted.now.copy ∷ (c.args.voted.now.copy + 1) ∷ (c.args.voted.now.copy + 2) ∷ [])) c.requires.made refl
    (c.in_ok-push.ensures.items ∙ ap (λ (a : List ℕ). c.args.made.now.waiting.items ++ a ∷ []) name) c.in_ok-push-2.ensures.items same (ap node_name same) (λ names done k. c.in_ok-push_table.ensures.table names (voter_text (name_of (net_of c.args.layout.now) c.args.voted.now.net.0) c.args.p.0 c.args.c) done k)
