use Rattle.std.proofs.Common.{◌-◌, arith}
use Rattle.certificate.proofs.Stepping.{node_step, role_step, end_step}
use Rattle.certificate.proofs.cert_text.put_behind.Goals as goal

pub returns-then-step-nodes : goal.returns-then-step-nodes
returns-then-step-nodes c =
    node_step c.args.n.now.net c.args.h.now.net c.args.k.now c.args.step c.args.out.now.items c.put_node_at.new.out.items
    (omega (arith, c.if-step-nodes.true, c.from-nodes.ensures, c.node_count.ensures, c.requires.fits.original_nodes)) c.in_ok-put_node_at.ensures

pub returns-then-j-from : goal.returns-then-j-from
returns-then-j-from c =
    role_step c.args.n.now.net c.args.h.now.net c.args.k.now c.args.step (c.args.step - c.from-nodes.result) c.args.out.now.items c.put_role_at.new.out.items
    (omega (arith, c.if-step-nodes.false, c.from-nodes.ensures, c.node_count.ensures, c.requires.fits.original_nodes))
    (omega (arith, c.from-nodes.ensures, c.node_count.ensures, c.requires.fits.original_nodes))
    (omega (arith, c.if-j-from.true, c.from.ensures, c.node_count-2.ensures, c.requires.fits.hardened_nodes)) c.in_ok-put_role_at.ensures

pub returns : goal.returns
returns c =
    end_step c.args.n.now.net c.args.h.now.net c.args.k.now c.args.step c.args.out.now.items c.put_line.new.out.items
    (omega (
      arith,
      c.requires.step,
      c.if-step-nodes.false,
      c.if-j-from.false,
      c.from-nodes.ensures,
      c.node_count.ensures,
      c.requires.fits.original_nodes,
      c.from.ensures,
      c.node_count-2.ensures,
      c.requires.fits.hardened_nodes,
    )) c.in_ok-put_line.ensures
