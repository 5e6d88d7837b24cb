use Rattle.std.proofs.Common.{arith}
use Rattle.certificate.specs.declared.progress.Stage.TheVariants.{Counted}
use Rattle.certificate.proofs.Carries.{part_passes, part_refuses, node_passes, node_refuses, passes_so, refuses_so, passed_on}
use Rattle.certificate.proofs.progress.take_inner.Goals as goal

pub returns-in_err-take_part-clause-refuses : goal.returns-in_err-take_part-clause-refuses
returns-in_err-take_part-clause-refuses c =
    let n = c.args.scope.now.original.now.net in
    let h = c.args.scope.now.hardened.now.net in
    let p = c.args.progress.now in
    passed_on _ _ c.in_err-take_part.field-0.0 c.from_residual.ensures.1
    (refuses_so n h p c.args.text.now c.args.line (Counted c.args.scope.now.version c.args.scope.now.parts) c.in_err-take_part.field-0.0 c.requires.stage
    (part_refuses c.args.scope.now.version n h c.args.scope.now.parts p.depth.items p.nodes p.roles.items c.args.text.now c.args.line c.in_err-take_part.field-0.0 (omega (arith, c.if-len-scope.true, c.len.ensures)) c.in_err-take_part.ensures.taken))

pub returns-then-len-scope-clause-passes : goal.returns-then-len-scope-clause-passes
returns-then-len-scope-clause-passes c =
    let n = c.args.scope.now.original.now.net in
    let h = c.args.scope.now.hardened.now.net in
    let p = c.args.progress.now in
    passes_so n h p c.args.text.now c.args.line (Counted c.args.scope.now.version c.args.scope.now.parts) p.stage (Counted c.args.scope.now.version c.args.scope.now.parts) c.take_part.new.depths.items p.nodes p.roles.items c.requires.stage c.requires.stage
    (part_passes c.args.scope.now.version n h c.args.scope.now.parts p.depth.items p.nodes p.roles.items c.args.text.now c.args.line c.take_part.new.depths.items (omega (arith, c.if-len-scope.true, c.len.ensures)) c.in_ok-take_part.ensures.length c.in_ok-take_part.ensures.taken)

pub returns-in_err-take_node-clause-refuses : goal.returns-in_err-take_node-clause-refuses
returns-in_err-take_node-clause-refuses c =
    let n = c.args.scope.now.original.now.net in
    let h = c.args.scope.now.hardened.now.net in
    let p = c.args.progress.now in
    passed_on _ _ c.in_err-take_node.field-0.0 c.from_residual-in_err-take_node.ensures.1
    (refuses_so n h p c.args.text.now c.args.line (Counted c.args.scope.now.version c.args.scope.now.parts) c.in_err-take_node.field-0.0 c.requires.stage
    (node_refuses c.args.scope.now.version n h c.args.scope.now.parts p.depth.items p.nodes p.roles.items c.args.text.now c.args.line c.in_err-take_node.field-0.0 (omega (arith, c.if-len-scope.false, c.len.ensures)) (omega (arith, c.if-len-node_count.true, c.len-2.ensures, c.node_count.ensures)) (λ after. c.in_err-take_node.ensures.taken after)))

pub returns-then-len-node_count-clause-passes : goal.returns-then-len-node_count-clause-passes
returns-then-len-node_count-clause-passes c =
    let n = c.args.scope.now.original.now.net in
    let h = c.args.scope.now.hardened.now.net in
    let p = c.args.progress.now in
    passes_so n h p c.args.text.now c.args.line (Counted c.args.scope.now.version c.args.scope.now.parts) p.stage (Counted c.args.scope.now.version c.args.scope.now.parts) p.depth.items c.take_node.new.nodes p.roles.items c.requires.stage c.requires.stage
    (node_passes c.args.scope.now.version n h c.args.scope.now.parts p.depth.items p.nodes p.roles.items c.args.text.now c.args.line c.take_node.new.nodes (omega (arith, c.if-len-scope.false, c.len.ensures)) (omega (arith, c.if-len-node_count.true, c.len-2.ensures, c.node_count.ensures)) c.in_ok-take_node.ensures.length (λ after. c.in_ok-take_node.ensures.taken after))
