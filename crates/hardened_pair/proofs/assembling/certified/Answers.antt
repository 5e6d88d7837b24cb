use Rattle.std.proofs.Common.{◌*◌, map, refl, sym, subst, ap, ◌∙◌}
use Rattle.certificate.specs.Cert.{PlainCert, IsCert}
use Rattle.certificate.specs.Threes.{three_of, three_ids}
use Rattle.triplicate.specs.Labels.{labeling}
use Rattle.triplicate.specs.Form.{version_of}
use Rattle.hardened_pair.specs.Private.Layouts.{net_of, partitions, voted}
use Rattle.triplicate.proofs.Certified.{is_cert}
use Rattle.hardened_pair.proofs.Assembly.{cert_is}
use Rattle.hardened_pair.proofs.assembling.certified.Goals as goal

pub of_version-requires : goal.of_version-requires
of_version-requires c =
    let same = cert_is (net_of c.args.layout.now) (partitions c.args.layout.now) (voted c.args.layout.now) (labeling c.args.layout.now.plan.now.inputs c.args.layout.now.plan.now.extra.table) (version_of c.args.layout.now.plan.now.inputs) c.input_count-original_inputs.result (3 * c.input_count-original_inputs.result) c.in_ok-depth.depth.items c.in_ok-part.part.items (map three_ids c.in_ok-copies.copies.items) (map three_of c.in_ok-labels.labels.items) c.args.roles.items refl c.input_count-original_inputs.ensures.count (ap (λ k. 3 * k) c.input_count-original_inputs.ensures.count) c.in_ok-depth.ensures.depths c.in_ok-part.ensures c.in_ok-copies.ensures c.in_ok-labels.ensures.labels c.requires.roles in
    subst (λ (k : PlainCert). IsCert k) (sym same) (is_cert (net_of c.args.layout.now) (partitions c.args.layout.now) (voted c.args.layout.now) (labeling c.args.layout.now.plan.now.inputs c.args.layout.now.plan.now.extra.table) c.requires.given c.in_ok-labels.ensures.small c.in_ok-depth.ensures.small)

pub returns : goal.returns
returns c =
    c.of_version.ensures ∙ cert_is (net_of c.args.layout.now) (partitions c.args.layout.now) (voted c.args.layout.now) (labeling c.args.layout.now.plan.now.inputs c.args.layout.now.plan.now.extra.table) (version_of c.args.layout.now.plan.now.inputs) c.input_count-original_inputs.result (3 * c.input_count-original_inputs.result) c.in_ok-depth.depth.items c.in_ok-part.part.items (map three_ids c.in_ok-copies.copies.items) (map three_of c.in_ok-labels.labels.items) c.args.roles.items refl c.input_count-original_inputs.ensures.count (ap (λ k. 3 * k) c.input_count-original_inputs.ensures.count) c.in_ok-depth.ensures.depths c.in_ok-part.ensures c.in_ok-copies.ensures c.in_ok-labels.ensures.labels c.requires.roles
