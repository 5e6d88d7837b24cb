use Rattle.std.proofs.Common.{◌≡◌, ◌++◌, ◌+◌, ◌∙◌, ℕ, Bool, length, ap, arith}
use Rattle.flat_net.specs.Net.{Net, node_of}
use Rattle.flat_net.specs.Free.{node_bit}
use Rattle.blif_writer.specs.Text.{lines_text}
use Rattle.blif_writer.specs.Left.{lines_at, nodes_left}
use Rattle.blif_writer.specs.Marks.{net_in, marks_in}
use Rattle.blif_writer.proofs.NodeLines.{node_put, all_put}
use Rattle.blif_writer.proofs.nodes.put_nodes.Goals as goal

pub loop-i-preserved : goal.loop-i-preserved
loop-i-preserved c =
    let n : Net = net_in c.args.design in
    let marks = marks_in c.args.design in
    let same : c.net-net.result.now.net ≡ n = c.net-net.ensures in
    let x : ℕ = c.input_count.result + c.loop-i.i in
    let place : x ≡ length n.inputs + c.loop-i.i = ap (λ (m : ℕ). m + c.loop-i.i) (c.input_count.ensures.count ∙ ap (λ (m : Net). length m.inputs) same) in
    let placed : c.put_net.new.out.items ≡ c.make_room.new.out.items ++ lines_text (lines_at n (node_of n x) (node_bit (length n.inputs) marks x)) = c.in_ok-put_net.ensures ∙ (ap (λ (m : Net). c.make_room.new.out.items ++ lines_text (lines_at m (node_of m x) c.is_free.result)) same ∙ ap (λ (b : Bool). c.make_room.new.out.items ++ lines_text (lines_at n (node_of n x) b)) c.is_free.ensures) in
    let room = c.in_ok-make_room.ensures in
    let put : c.put_net.new.out.items ≡ c.loop-i.out.items ++ lines_text (lines_at n (node_of n x) (node_bit (length n.inputs) marks x)) = cc in
    node_put n marks c.loop-i.i x c.loop-i.out.items c.put_net.new.out.items (c.args.out.now.items ++ nodes_left n marks 0) (omega (arith, ap (λ (m : Net). length m.nodes) same)) place put c.loop-i.invariant

pub returns : goal.returns
returns c =
    let n : Net = net_in c.args.design in
    let marks = marks_in c.args.design in
    let same : c.net-net.result.now.net ≡ n = c.net-net.ensures in
    all_put n marks c.loop-i.i c.loop-i.out.items (c.args.out.now.items ++ nodes_left n marks 0) (omega (arith, ap (λ (m : Net). length m.nodes) same, c.node_count-i-end.ensures, c.loop-i-test.false)) c.loop-i.invariant
