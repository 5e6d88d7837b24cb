use Rattle.std.proofs.Common.{◌≡◌, arith, refl, ap, subst, List, length, Option, None}
use Rattle.std.specs.Prelude.{slice_index_or}
use Rattle.certificate.specs.declared.role.Role.{Role}
use Rattle.certificate.specs.declared.progress.Stage.TheVariants.{Counted, Ended}
use Rattle.certificate.proofs.Carries.{passed_there, voter_passes, voter_refuses, end_passes, end_refuses, passes_so, refuses_so, passed_on}
use Rattle.certificate.proofs.progress.take_voter_or_end.Goals as goal

pub returns-in_err-take_voter-clause-refuses : goal.returns-in_err-take_voter-clause-refuses
returns-in_err-take_voter-clause-refuses c =
    let n = c.args.scope.now.original.now.net in
    let h = c.args.scope.now.hardened.now.net in
    let p = c.args.progress.now in
    passed_on _ _ c.in_err-take_voter.field-0.0 c.from_residual-in_err-take_voter.ensures.1
    (refuses_so n h p c.args.text.now c.args.line (Counted c.args.scope.now.version c.args.scope.now.parts) c.in_err-take_voter.field-0.0 c.requires.stage
    (voter_refuses c.args.scope.now.version n h c.args.scope.now.parts p.depth.items p.nodes p.roles.items c.args.text.now c.args.line c.pass_given.new.roles.items c.in_err-take_voter.field-0.0 c.requires.depths c.requires.nodes c.requires.roles
    (passed_there c.args.scope.now.version n h c.args.scope.now.parts p.depth.items p.nodes p.roles.items c.args.text.now c.args.line c.deref.result.now c.pass_given.new.roles.items c.deref.ensures.value (λ r. c.in_ok-pass_given.ensures.passed c.args.scope.now.version n h c.args.scope.now.parts r)) (omega (arith, c.if-len-node_count.true, c.len.ensures, c.node_count.ensures)) (subst (λ (xs : List (Option Role)). slice_index_or xs (length c.pass_given.new.roles.items) None ≡ None) c.deref.ensures.value (c.in_ok-pass_given.ensures.due (omega (arith, c.if-len-node_count.true, c.len.ensures, c.node_count.ensures, c.requires.roles, ap length c.deref.ensures.value)))) c.in_err-take_voter.ensures.taken))

pub returns-then-len-node_count-clause-passes : goal.returns-then-len-node_count-clause-passes
returns-then-len-node_count-clause-passes c =
    let n = c.args.scope.now.original.now.net in
    let h = c.args.scope.now.hardened.now.net in
    let p = c.args.progress.now in
    passes_so n h p c.args.text.now c.args.line (Counted c.args.scope.now.version c.args.scope.now.parts) p.stage (Counted c.args.scope.now.version c.args.scope.now.parts) p.depth.items p.nodes c.take_voter.new.roles.items c.requires.stage c.requires.stage
    (voter_passes c.args.scope.now.version n h c.args.scope.now.parts p.depth.items p.nodes p.roles.items c.args.text.now c.args.line c.pass_given.new.roles.items c.take_voter.new.roles.items c.requires.depths c.requires.nodes c.requires.roles
    (passed_there c.args.scope.now.version n h c.args.scope.now.parts p.depth.items p.nodes p.roles.items c.args.text.now c.args.line c.deref.result.now c.pass_given.new.roles.items c.deref.ensures.value (λ r. c.in_ok-pass_given.ensures.passed c.args.scope.now.version n h c.args.scope.now.parts r)) (omega (arith, c.if-len-node_count.true, c.len.ensures, c.node_count.ensures)) (subst (λ (xs : List (Option Role)). slice_index_or xs (length c.pass_given.new.roles.items) None ≡ None) c.deref.ensures.value (c.in_ok-pass_given.ensures.due (omega (arith, c.if-len-node_count.true, c.len.ensures, c.node_count.ensures, c.requires.roles, ap length c.deref.ensures.value)))) c.in_ok-take_voter.ensures.length c.in_ok-take_voter.ensures.taken)

pub returns-in_err-read_end-clause-refuses : goal.returns-in_err-read_end-clause-refuses
returns-in_err-read_end-clause-refuses c =
    let n = c.args.scope.now.original.now.net in
    let h = c.args.scope.now.hardened.now.net in
    let p = c.args.progress.now in
    passed_on _ _ c.in_err-read_end.field-0.0 c.from_residual-in_err-read_end.ensures.1
    (refuses_so n h p c.args.text.now c.args.line (Counted c.args.scope.now.version c.args.scope.now.parts) c.in_err-read_end.field-0.0 c.requires.stage
    (end_refuses c.args.scope.now.version n h c.args.scope.now.parts p.depth.items p.nodes p.roles.items c.args.text.now c.args.line c.pass_given.new.roles.items c.in_err-read_end.field-0.0 c.requires.depths c.requires.nodes c.requires.roles
    (passed_there c.args.scope.now.version n h c.args.scope.now.parts p.depth.items p.nodes p.roles.items c.args.text.now c.args.line c.deref.result.now c.pass_given.new.roles.items c.deref.ensures.value (λ r. c.in_ok-pass_given.ensures.passed c.args.scope.now.version n h c.args.scope.now.parts r)) (omega (arith, c.if-len-node_count.false, c.len.ensures, c.node_count.ensures)) c.in_err-read_end.ensures))

pub returns-clause-passes : goal.returns-clause-passes
returns-clause-passes c =
    let n = c.args.scope.now.original.now.net in
    let h = c.args.scope.now.hardened.now.net in
    let p = c.args.progress.now in
    passes_so n h p c.args.text.now c.args.line (Counted c.args.scope.now.version c.args.scope.now.parts) (Ended c.args.scope.now.version) (Ended c.args.scope.now.version) p.depth.items p.nodes c.pass_given.new.roles.items c.requires.stage refl
    (end_passes c.args.scope.now.version n h c.args.scope.now.parts p.depth.items p.nodes p.roles.items c.args.text.now c.args.line c.pass_given.new.roles.items c.requires.depths c.requires.nodes c.requires.roles
    (passed_there c.args.scope.now.version n h c.args.scope.now.parts p.depth.items p.nodes p.roles.items c.args.text.now c.args.line c.deref.result.now c.pass_given.new.roles.items c.deref.ensures.value (λ r. c.in_ok-pass_given.ensures.passed c.args.scope.now.version n h c.args.scope.now.parts r)) (omega (arith, c.if-len-node_count.false, c.len.ensures, c.node_count.ensures)) c.in_ok-read_end.ensures)
