use Rattle.std.proofs.Common.{◌≡◌, ◌++◌, [], ◌∙◌, ap, length}
use Rattle.std.specs.Fmt.{decimal}
use Rattle.partition_graph.specs.Picture.{quoted, head_text}
use Rattle.partition_graph.proofs.writing.put_head.Goals as goal

pub returns : goal.returns
unfolding head_text
returns c =
    let name : c.as_slice-2.result.now ≡ quoted c.args.n.now.net.model = c.as_slice-2.ensures.value ∙ (c.in_ok-name.ensures ∙ ap quoted (c.bytes.ensures.bytes ∙ c.model.ensures)) in
    let inputs : c.as_bytes.result.now ≡ decimal (length c.args.n.now.net.inputs) = c.as_bytes.ensures.value ∙ (c.in_ok-inputs.ensures.ok ∙ ap decimal c.input_count.ensures.count) in
    let outputs : c.as_bytes-2.result.now ≡ decimal (length c.args.n.now.net.outputs) = c.as_bytes-2.ensures.value ∙ (c.in_ok-outputs.ensures.ok ∙ ap decimal c.output_count.ensures) in
    c.in_ok-put_all.ensures
    ∙ λ i. c.args.out.now.items ++ (c.as_slice.ensures i ++ (name i ++ (c.as_slice-3.ensures i ++ (inputs i ++ (c.as_slice-4.ensures i ++ (outputs i ++ (c.as_slice-5.ensures i ++ [])))))))
