use Rattle.std.proofs.Common.{◌≡◌, ◌++◌, [], ◌∙◌}
use Rattle.std.specs.Fmt.{decimal}
use Rattle.partition_graph.specs.Picture.{rest_text}
use Rattle.partition_graph.proofs.writing.put_others.Goals as goal

pub returns : goal.returns
unfolding rest_text
returns c =
    let count : c.as_bytes.result.now ≡ decimal c.args.rest.count = c.as_bytes.ensures.value ∙ c.in_ok-count.ensures.ok in
    let nodes : c.as_bytes-2.result.now ≡ decimal c.args.rest.nodes = c.as_bytes-2.ensures.value ∙ c.in_ok-nodes.ensures.ok in
    let registers : c.as_bytes-3.result.now ≡ decimal c.args.rest.registers = c.as_bytes-3.ensures.value ∙ c.in_ok-registers.ensures.ok in
    let depth : c.as_bytes-4.result.now ≡ decimal c.args.rest.depth = c.as_bytes-4.ensures.value ∙ c.in_ok-depth.ensures.ok in
    c.in_ok-put_all.ensures
    ∙ λ i. c.args.out.now.items ++ (c.as_slice.ensures i ++ (count i ++ (c.as_slice-2.ensures i ++ (nodes i ++ (c.as_slice-3.ensures i ++ (registers i ++ (c.as_slice-4.ensures i ++ (depth i ++ (c.as_slice-5.ensures i ++ [])))))))))
