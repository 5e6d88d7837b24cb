use Rattle.std.proofs.Common.{◌≡◌, ◌+◌, ◌∷◌, [], ℕ, sym, ap, ◌∙◌}
use Rattle.tmr_base.specs.Copies.{Three}
use Rattle.certificate.specs.Threes.{three_of, three_ids}
use Rattle.certificate.specs.Cert.{copy_of, label_of}
use Rattle.certificate.proofs.Lefts.{node_put, each_copy}
use Rattle.certificate.proofs.writing.put_node_at.Goals as goal

pub returns : goal.returns
returns c =
    let x : ℕ = c.input_count.result + c.args.i in
    let copies : Three = three_ids (c.copy.result ∷ c.copy-2.result ∷ c.copy-3.result ∷ []) in
    let labels : Three = three_of (c.label.result ∷ c.label-2.result ∷ c.label-3.result ∷ []) in
    let place : x ≡ c.args.k.now.original_inputs + c.args.i = ap (λ (m : ℕ). m + c.args.i) (c.input_count.ensures.count ∙ sym c.requires.fits.original_inputs) in
    node_put c.args.n.now.net c.args.h.now.net c.args.k.now x c.args.i c.part.result.0 copies labels c.args.out.now.items c.put_node.new.out.items c.requires.cert c.requires.place place c.part.ensures.part
    (each_copy copies (copy_of c.args.k.now x) c.copy.ensures.copy c.copy-2.ensures.copy c.copy-3.ensures.copy)
    (each_copy labels (label_of c.args.k.now x) c.label.ensures c.label-2.ensures c.label-3.ensures)
    c.in_ok-put_node.ensures
