use Rattle.std.proofs.Common.{◌+◌, length, ap, ◌∙◌, arith}
use Rattle.std.specs.Prelude.{slice_index}
use Rattle.flat_net.specs.Net.{name_of}
use Rattle.hardened_text.proofs.CertPuts.{same_node}
use Rattle.hardened_text.proofs.certificate_lines.put_node_of.Goals as goal

pub returns : goal.returns
returns c =
    let n = c.args.n.now.net in
    c.in_ok-put_node.ensures ∙ same_node c.args.out.now.items c.bytes-name.result.now (name_of n (length n.inputs + c.args.y)) c.of.result (slice_index c.args.plan.now.parts.of c.args.y) c.label.result (slice_index c.args.plan.now.extra.table.labels c.args.y)
    (c.bytes-name.ensures.bytes ∙ (c.name.ensures ∙ ap (name_of n) (omega (arith, c.input_count.ensures.count)))) c.of.ensures.value c.label.ensures
