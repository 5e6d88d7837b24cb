use Rattle.std.proofs.Common.{ℕ, List, map, sym, subst, ◌∙◌, arith}
use Rattle.certificate.specs.Threes.{three_of, three_ids}
use Rattle.certificate.specs.Cert.{IsCert}
use Rattle.certifying.specs.Private.Depths.{AreDepths}
use Rattle.certifying.proofs.Certs.{same_cert, found_of, refined_cert}
use Rattle.certifying.proofs.draft.refined.Goals as goal

pub of_version-requires-clause-cert : goal.of_version-requires-clause-cert
of_version-requires-clause-cert c =
    let found = found_of c.args.n.now.net c.args.h.now.net c.args.k.now c.in_ok-sets.sets.up.items c.deref.result.now c.in_ok-sets.sets.readers.items c.deref-3.result.now c.in_ok-depth.depth.items c.in_ok-parts.parts.numbers.items c.deref-2.result.now c.deref-6.result.now c.in_ok-parts.parts.count c.in_ok-labels.labels.items c.deref-5.result.now (map three_of c.in_ok-threes.threes.items) c.in_ok-roles.roles.items
    c.deref.ensures.value c.deref-3.ensures.value c.deref-2.ensures.value c.deref-6.ensures.value c.deref-5.ensures.value (sym c.in_ok-depth.ensures.long) c.in_ok-parts.ensures.few (omega (arith, c.nodes_of.ensures.few)) c.in_ok-parts.ensures.long
    c.in_ok-sets.ensures c.in_ok-parts.ensures.numbered c.in_ok-labels.ensures.long c.in_ok-labels.ensures.below c.in_ok-threes.ensures.labels c.in_ok-threes.ensures.small
    (subst (λ (ls : List (List ℕ)). AreDepths c.deref-6.result.now (map three_of ls) c.in_ok-depth.depth.items) c.deref-7.ensures.value c.in_ok-depth.ensures.least) c.in_ok-depth.ensures.small c.in_ok-roles.ensures.roles in
    subst IsCert (sym (same_cert c.args.k.now c.args.version c.input_count.result c.input_count-2.result c.in_ok-depth.depth.items c.in_ok-parts.parts.numbers.items (map three_ids c.in_ok-copies.copies.items) (map three_of c.in_ok-threes.threes.items) c.in_ok-roles.roles.items
    (sym c.requires.bare.versioned) (c.input_count.ensures.count ∙ sym c.requires.bare.fits.original_inputs) (c.input_count-2.ensures.count ∙ sym c.requires.bare.fits.hardened_inputs) c.in_ok-copies.ensures))
    (refined_cert c.args.n.now.net c.args.h.now.net c.args.version c.args.k.now c.requires.bare c.in_ok-sets.sets.up.items c.in_ok-sets.sets.readers.items c.in_ok-depth.depth.items c.in_ok-parts.parts.numbers.items c.in_ok-labels.labels.items (map three_of c.in_ok-threes.threes.items) c.in_ok-roles.roles.items found).cert

pub returns-clause-refined : goal.returns-clause-refined
returns-clause-refined c = record {
  up = c.in_ok-sets.sets.up.items;
  readers = c.in_ok-sets.sets.readers.items;
  depth = c.in_ok-depth.depth.items;
  part = c.in_ok-parts.parts.numbers.items;
  labels = c.in_ok-labels.labels.items;
  threes = map three_of c.in_ok-threes.threes.items;
  roles = c.in_ok-roles.roles.items;
  found = found_of c.args.n.now.net c.args.h.now.net c.args.k.now c.in_ok-sets.sets.up.items c.deref.result.now c.in_ok-sets.sets.readers.items c.deref-3.result.now c.in_ok-depth.depth.items c.in_ok-parts.parts.numbers.items c.deref-2.result.now c.deref-6.result.now c.in_ok-parts.parts.count c.in_ok-labels.labels.items c.deref-5.result.now (map three_of c.in_ok-threes.threes.items) c.in_ok-roles.roles.items
      c.deref.ensures.value c.deref-3.ensures.value c.deref-2.ensures.value c.deref-6.ensures.value c.deref-5.ensures.value (sym c.in_ok-depth.ensures.long) c.in_ok-parts.ensures.few (omega (arith, c.nodes_of.ensures.few)) c.in_ok-parts.ensures.long
      c.in_ok-sets.ensures c.in_ok-parts.ensures.numbered c.in_ok-labels.ensures.long c.in_ok-labels.ensures.below c.in_ok-threes.ensures.labels c.in_ok-threes.ensures.small
      (subst (λ (ls : List (List ℕ)). AreDepths c.deref-6.result.now (map three_of ls) c.in_ok-depth.depth.items) c.deref-7.ensures.value c.in_ok-depth.ensures.least) c.in_ok-depth.ensures.small c.in_ok-roles.ensures.roles;
  is = c.of_version.ensures ∙ same_cert c.args.k.now c.args.version c.input_count.result c.input_count-2.result c.in_ok-depth.depth.items c.in_ok-parts.parts.numbers.items (map three_ids c.in_ok-copies.copies.items) (map three_of c.in_ok-threes.threes.items) c.in_ok-roles.roles.items
      (sym c.requires.bare.versioned) (c.input_count.ensures.count ∙ sym c.requires.bare.fits.original_inputs) (c.input_count-2.ensures.count ∙ sym c.requires.bare.fits.hardened_inputs) c.in_ok-copies.ensures;
}
