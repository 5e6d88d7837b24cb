use Rattle.std.proofs.Common.{◌≡◌, ℕ, length, get_or, map, ap, sym, subst, ◌∙◌, arith}
use Rattle.std.proofs.lemmas.List.{get_or-replicate, length-map, length-replicate}
use Rattle.certificate.specs.Threes.{three_of}
use Rattle.certifying.specs.Private.Bare.{AreSound, HaveRoles}
use Rattle.certifying.proofs.Certs.{bare_cert}
use Rattle.certifying.proofs.bare.one_partition.Goals as goal

pub of_version-requires-clause-cert : goal.of_version-requires-clause-cert
of_version-requires-clause-cert c =
    let first : c.input_count.result ≡ length c.args.n.now.net.inputs = c.input_count.ensures.count in
    let inputs : c.input_count-2.result ≡ length c.args.h.now.net.inputs = c.input_count-2.ensures.count in
    let sound : AreSound c.args.version c.input_count.result c.input_count-2.result c.args.copies.items c.args.roles.items =
    subst (λ (z : ℕ). AreSound c.args.version z c.input_count-2.result c.args.copies.items c.args.roles.items) (sym first)
    (subst (λ (z : ℕ). AreSound c.args.version (length c.args.n.now.net.inputs) z c.args.copies.items c.args.roles.items) (sym inputs) c.requires.sound) in
    let have : HaveRoles c.input_count.result c.input_count-2.result c.args.roles.items c.args.copies.items =
    subst (λ (z : ℕ). HaveRoles z c.input_count-2.result c.args.roles.items c.args.copies.items) (sym first)
    (subst (λ (z : ℕ). HaveRoles (length c.args.n.now.net.inputs) z c.args.roles.items c.args.copies.items) (sym inputs) c.requires.roles) in
    let depth_is = c.in_ok-zeros.ensures in
    let part_is = c.in_ok-zeros-2.ensures in
    let labels_long : length (map three_of c.in_ok-labels.labels.items) ≡ length c.args.n.now.net.nodes = length-map c.in_ok-labels.labels.items three_of ∙ (c.in_ok-labels.ensures.long ∙ c.nodes_of-count.ensures.count) in
    bare_cert c.args.version c.input_count.result c.input_count-2.result (length c.args.n.now.net.nodes) (length c.args.h.now.net.nodes) c.args.copies.items (map three_of c.in_ok-labels.labels.items) c.args.roles.items
    c.in_ok-zeros.field-0.items c.in_ok-zeros-2.field-0.items c.requires.known
    (omega (arith, first, c.nodes_of-count.ensures.few)) (omega (arith, inputs, c.nodes_of-nodes.ensures.few))
    c.requires.original c.requires.hardened labels_long
    (ap length part_is ∙ (length-replicate {A = ℕ} c.nodes_of-count.result 0 ∙ c.nodes_of-count.ensures.count))
    sound have c.in_ok-labels.ensures.small
    (λ i l. ap (λ xs. get_or xs i 0) part_is ∙ get_or-replicate {A = ℕ} c.nodes_of-count.result i 0 0 (omega (arith, l, ap length part_is, length-replicate {A = ℕ} c.nodes_of-count.result 0)))
    (ap length depth_is ∙ length-replicate {A = ℕ} 1 0)
    (λ i l. ap (λ xs. get_or xs i 0) depth_is ∙ get_or-replicate {A = ℕ} 1 i 0 0 (omega (arith, l, ap length depth_is, length-replicate {A = ℕ} 1 0)))
