-- The pair that hardening makes has the hardened form.
use Rattle.std.proofs.Common.{◌≡◌, ℕ, ◌<◌, ◌≤◌, ◌⊎◌, inl, inr, ◌∙◌, refl, sym, ap, subst, arith, Bool, true, false, List, [], length}
use Rattle.std.specs.Prelude.{◌↔◌, IsTrue, count_by, nat_eq, slice_index, if◌then◌else◌}
use Rattle.std.proofs.lemmas.List.{length-map}
use Rattle.certificate.specs.Cert.{PlainCert, depth_of}
use Rattle.certificate.specs.Rules.{AllHold}
use Rattle.certificate.specs.Starts.{counted, spread_start}
use Rattle.certificate.proofs.Unmarked.{without_marks}
use Rattle.recovery_depth.specs.Extra.{PlainExtra, is_extra, AreExtra}
use Rattle.flat_net.specs.Free.{FreeDesign}
use Rattle.partitioner.specs.Cost.{cost}
use Rattle.triplicate.specs.Labels.{Labeling, labeling}
use Rattle.triplicate.specs.declared.hardened.Hardened.{Hardened}
use Rattle.triplicate.specs.declared.hardened.HardenedFree.{HardenedFree}
use Rattle.triplicate.specs.Blocks.{hardened_roles}
use Rattle.triplicate.specs.Result.{IsHardenedPair, IsFreeHardenedPair, IsBoundedPair, is_voter_role}
use Rattle.tmr_base.specs.Parts.{PlainParts}
use Rattle.flat_net.specs.Net.{Net}
use Rattle.partitioner.specs.Refining.{IsMinimal}
use Rattle.triplicate.specs.declared.form.Form.{Form}
use Rattle.triplicate.specs.declared.form.Form.TheVariants.{Plain}
use Rattle.triplicate.specs.Choices.{ArePartsOf}
use Rattle.triplicate.specs.Voting.{none_extra}
use Rattle.triplicate.specs.declared.planning.Plan.{Plan}
use Rattle.triplicate.specs.Planned.{IsPlan, IsMadeOf, plan_votes}
use Rattle.triplicate.specs.Form.{version_of, HasForm, BoundedForm, parts_of}
use Rattle.triplicate.specs.Construction.{role_node, hardened_net, hardened_cert}
use Rattle.triplicate.specs.Given.{IsGiven}
use Rattle.triplicate.proofs.Corresponding.{corresponds}
use Rattle.triplicate.proofs.Formed.{same_parts, is_tripled, votes_as_needed, cut_needed}
use Rattle.triplicate.proofs.Labeled.{least_labels}

pub nodes_long : (n : Net) (parts : PlainParts) (voted : ℕ → ℕ → Bool) → length (hardened_net n parts voted).nodes ≡ length (hardened_roles n parts voted)
unfolding hardened_net
nodes_long n parts voted = length-map (hardened_roles n parts voted) (role_node n parts voted)

cert_roles : (n : Net) (parts : PlainParts) (voted : ℕ → ℕ → Bool) (t : Labeling) → count_by is_voter_role (hardened_cert n parts voted t).roles ≡ count_by is_voter_role (hardened_roles n parts voted)
unfolding hardened_cert
cert_roles n parts voted t = refl

cert_version : (n : Net) (parts : PlainParts) (voted : ℕ → ℕ → Bool) (t : Labeling) → (hardened_cert n parts voted t).version ≡ version_of t.inputs
unfolding hardened_cert
cert_version n parts voted t = refl

cert_depths : (n : Net) (parts : PlainParts) (voted : ℕ → ℕ → Bool) (t : Labeling) → (hardened_cert n parts voted t).depth ≡ t.depths
unfolding hardened_cert
cert_depths n parts voted t = refl

-- no depth is above the bound of the labels
cert_within : (n : Net) (parts : PlainParts) (voted : ℕ → ℕ → Bool) (t : Labeling) (cut : List (List Bool)) (most : ℕ) (e : PlainExtra) → t.depths ≡ e.table.depths → AreExtra n parts cut most e → (p : ℕ) → p < length (hardened_cert n parts voted t).depth → depth_of (hardened_cert n parts voted t) p ≤ most
cert_within n parts voted t cut most e same is p below = go (is.depths.depths p (omega (arith, below, ap (λ (ds : List ℕ). length ds) depths, is.depths.parts_long))).some
  where
    depths : (hardened_cert n parts voted t).depth ≡ e.table.depths
    depths = cert_depths n parts voted t ∙ same

    go : (slice_index e.table.depths p ≡ 0) ⊎ ((x : ℕ) × (x < length n.nodes) × (slice_index parts.of x ≡ p) × (slice_index e.table.labels x ≡ slice_index e.table.depths p)) → depth_of (hardened_cert n parts voted t) p ≤ most
    go (inl zero) = omega (arith, zero, ap (λ (ds : List ℕ). slice_index ds p) depths)
    go (inr (x, l, own, label)) = omega (arith, label, is.bounded x l, ap (λ (ds : List ℕ). slice_index ds p) depths)

-- the rules hold with the marks that count
counted_rules : (n h : Net) (f : List Bool) (k : PlainCert) → ((f : List Bool) → AllHold n f h (spread_start k f) k) → AllHold n (counted k f) h (counted k (spread_start k (counted k f))) k
counted_rules n h f k all = go (nat_eq k.version 1)
  where
    go : (b : Bool) → AllHold n (if b then [] else f) h (if b then [] else spread_start k (if b then [] else f)) k
    go true = without_marks n h [] (spread_start k []) k (all [])
    go false = all f

version_is : (version : ℕ) → (version ≡ 1) ⊎ (version ≡ 2) → version_of (nat_eq version 2) ≡ version
version_is version (inl e) = ap (λ v. version_of (nat_eq v 2)) e ∙ sym e
version_is version (inr e) = ap (λ v. version_of (nat_eq v 2)) e ∙ sym e

-- in version 2 all marks count
counted_all : (k : PlainCert) (f : List Bool) → k.version ≡ 2 → counted k f ≡ f
counted_all k f e = ap (λ v. if nat_eq v 1 then [] else f) e

module _ (n : Net) (size : ℕ) (parts : PlainParts) (voted : ℕ → ℕ → Bool) (t : Labeling) (is : IsGiven n parts voted t) (exact : ArePartsOf is.kind n size parts) where
  pub has_form : (f g : List Bool) → AllHold n f (hardened_net n parts voted) g (hardened_cert n parts voted t) → HasForm is.kind n f size (hardened_net n parts voted) g (hardened_cert n parts voted t) t.inputs is.extra
  has_form f g rules = record {
    version = cert_version n parts voted t;
    parts = subst (λ (p : PlainParts). ArePartsOf is.kind n size p) (sym (same_parts n parts voted t is)) exact;
    tripled = is_tripled n parts voted t is;
    voted = votes_as_needed n parts voted t is;
    corresponds = rules;
    labels = least_labels n parts voted t is;
  }

  pub plain_form : HasForm is.kind n [] size (hardened_net n parts voted) [] (hardened_cert n parts voted t) t.inputs is.extra
  plain_form = has_form [] [] (without_marks n (hardened_net n parts voted) [] (spread_start (hardened_cert n parts voted t) []) (hardened_cert n parts voted t) (corresponds n parts voted t is []))

  pub counted_form : (f : List Bool) → HasForm is.kind n (counted (hardened_cert n parts voted t) f) size (hardened_net n parts voted) (counted (hardened_cert n parts voted t) (spread_start (hardened_cert n parts voted t) (counted (hardened_cert n parts voted t) f))) (hardened_cert n parts voted t) t.inputs is.extra
  counted_form f = has_form (counted (hardened_cert n parts voted t) f) (counted (hardened_cert n parts voted t) (spread_start (hardened_cert n parts voted t) (counted (hardened_cert n parts voted t) f))) (counted_rules n (hardened_net n parts voted) f (hardened_cert n parts voted t) (corresponds n parts voted t is))

  pub counted_cut : (f : List Bool) → (counted_form f).voted.cut ≡ is.cut
  unfolding counted_form has_form
  counted_cut f = cut_needed n parts voted t is

-- what is told of a pair beside its form
module _ (kind : Form) (n : Net) (size : ℕ) (inputs : Bool) (most : ℕ) (plan : Plan) (r : Hardened) (b : IsPlan kind n size inputs most plan) (m : IsMadeOf n plan r) where
  own : parts_of r.cert ≡ plan.parts
  own = ap parts_of m.cert ∙ same_parts n plan.parts (plan_votes n plan) (labeling plan.inputs plan.extra.table) b.given

  pub pairs_are : r.cost ≡ cost n (parts_of r.cert)
  pairs_are = m.cost ∙ (b.pairs ∙ ap (cost n) (sym own))

  pub minimal_is : IsTrue r.minimal ↔ IsMinimal n size (parts_of r.cert)
  minimal_is = subst (λ (p : PlainParts). IsTrue r.minimal ↔ IsMinimal n size p) (sym own) (subst (λ (v : Bool). IsTrue v ↔ IsMinimal n size plan.parts) (sym m.minimal) b.minimal)

  pub voters_are : r.voters ≡ count_by is_voter_role r.cert.roles
  voters_are = m.voters ∙ sym (ap (λ (k : PlainCert). count_by is_voter_role k.roles) m.cert ∙ cert_roles n plan.parts (plan_votes n plan) (labeling plan.inputs plan.extra.table))

-- the answer of hardening to version 1
pub hardened_is : (n : Net) (size most : ℕ) (plan : Plan) (r : Hardened) → length n.nodes < most → IsPlan Plain n size false most plan → IsMadeOf n plan r → IsHardenedPair n size r
hardened_is n size most plan r few b m = record {
  form = subst (λ (h : Net). HasForm Plain n [] size h [] r.cert false none_extra) (sym m.net) (subst (λ (k : PlainCert). HasForm Plain n [] size (hardened_net n plan.parts (plan_votes n plan)) [] k false none_extra) (sym m.cert) made);
  pairs = pairs_are Plain n size false most plan r b m;
  plain_pairs = m.plain ∙ b.plain_pairs;
  minimal = minimal_is Plain n size false most plan r b m;
  voters = voters_are Plain n size false most plan r b m;
}
  where
    none : b.given.extra ≡ none_extra
    none = b.extra_is ∙ (λ i y j. b.none few y j i)

    made : HasForm Plain n [] size (hardened_net n plan.parts (plan_votes n plan)) [] (hardened_cert n plan.parts (plan_votes n plan) (labeling plan.inputs plan.extra.table)) false none_extra
    made = subst (λ (inputs : Bool). HasForm Plain n [] size (hardened_net n plan.parts (plan_votes n plan)) [] (hardened_cert n plan.parts (plan_votes n plan) (labeling plan.inputs plan.extra.table)) inputs none_extra) b.inputs_are
        (subst (λ (x : ℕ → ℕ → Bool). HasForm Plain n [] size (hardened_net n plan.parts (plan_votes n plan)) [] (hardened_cert n plan.parts (plan_votes n plan) (labeling plan.inputs plan.extra.table)) plan.inputs x) none
        (subst (λ (kind : Form). HasForm kind n [] size (hardened_net n plan.parts (plan_votes n plan)) [] (hardened_cert n plan.parts (plan_votes n plan) (labeling plan.inputs plan.extra.table)) plan.inputs b.given.extra) b.kind_is
        (plain_form n size plan.parts (plan_votes n plan) (labeling plan.inputs plan.extra.table) b.given (subst (λ (kind : Form). ArePartsOf kind n size plan.parts) (sym b.kind_is) b.exact))))

-- the form with its cut and its extra pins
pub record FormWith (kind : Form) (n : Net) (f : List Bool) (size most : ℕ) (h : Net) (g : List Bool) (k : PlainCert) (inputs : Bool) (x : ℕ → ℕ → Bool) (e : PlainExtra) : Type 0 where
  pub form : HasForm kind n f size h g k inputs x
  pub bound : AreExtra n (parts_of k) form.voted.cut most e

-- the answer of hardening to either version, with a bound
pub bounded_is : (kind : Form) (n : FreeDesign) (size version most : ℕ) (plan : Plan) (r : Hardened) (f : HardenedFree) → (version ≡ 1) ⊎ (version ≡ 2) → IsPlan kind n.design.net size (nat_eq version 2) most plan → IsMadeOf n.design.net plan r → f.net.design.net ≡ r.net.net → f.cert ≡ r.cert → f.net.free ≡ spread_start r.cert (counted r.cert n.free) →
    f.cost ≡ r.cost → f.plain ≡ r.plain → f.minimal ≡ r.minimal → f.voters ≡ r.voters → IsBoundedPair kind n size version most f
bounded_is kind n size version most plan r f known b m net cert marks pairs plain minimal voters = record {
  form = subst (λ (h : Net). BoundedForm kind n.design.net n.free size version most h f.net.free f.cert) (sym (net ∙ m.net)) (subst (λ (k : PlainCert). BoundedForm kind n.design.net n.free size version most h f.net.free k) (sym (cert ∙ m.cert)) made);
  unbounded = λ few. subst (λ (h : Net). HasForm kind n.design.net (counted f.cert n.free) size h (counted f.cert f.net.free) f.cert (nat_eq version 2) none_extra) (sym (net ∙ m.net)) (subst (λ (c : PlainCert). HasForm kind n.design.net (counted c n.free) size h (counted c f.net.free) c (nat_eq version 2) none_extra) (sym (cert ∙ m.cert)) (none_added few));
  pairs = pairs ∙ (pairs_are kind n.design.net size (nat_eq version 2) most plan r b m ∙ ap (λ (k : PlainCert). cost n.design.net (parts_of k)) (sym cert));
  plain_pairs = plain ∙ (m.plain ∙ b.plain_pairs);
  minimal = subst (λ (v : Bool). IsTrue v ↔ IsMinimal n.design.net size (parts_of f.cert)) (sym minimal) (subst (λ (k : PlainCert). IsTrue r.minimal ↔ IsMinimal n.design.net size (parts_of k)) (sym cert) (minimal_is kind n.design.net size (nat_eq version 2) most plan r b m));
  voters = voters ∙ (voters_are kind n.design.net size (nat_eq version 2) most plan r b m ∙ ap (λ (k : PlainCert). count_by is_voter_role k.roles) (sym cert));
}
  where
    voted : ℕ → ℕ → Bool
    voted = plan_votes n.design.net plan

    t : Labeling
    t = labeling plan.inputs plan.extra.table

    h : Net
    h = hardened_net n.design.net plan.parts (plan_votes n.design.net plan)

    k : PlainCert
    k = hardened_cert n.design.net plan.parts (plan_votes n.design.net plan) (labeling plan.inputs plan.extra.table)

    extra : PlainExtra
    extra = plan.extra

    exact : ArePartsOf b.given.kind n.design.net size plan.parts
    exact = subst (λ (k : Form). ArePartsOf k n.design.net size plan.parts) (sym b.kind_is) b.exact

    with_cut : FormWith b.given.kind n.design.net (counted k n.free) size most h (counted k (spread_start k (counted k n.free))) k t.inputs b.given.extra extra
    with_cut = record {
      form = counted_form n.design.net size plan.parts voted t b.given exact n.free;
      bound = subst (λ (p : PlainParts). AreExtra n.design.net p (counted_form n.design.net size plan.parts voted t b.given exact n.free).voted.cut most extra) (sym (same_parts n.design.net plan.parts voted t b.given)) (subst (λ (c : List (List Bool)). AreExtra n.design.net plan.parts c most extra) (sym (counted_cut n.design.net size plan.parts voted t b.given exact n.free ∙ b.cut_is)) b.bound);
    }

    last : FormWith kind n.design.net (counted k n.free) size most h (counted k (spread_start k (counted k n.free))) k (nat_eq version 2) (is_extra plan.extra.marks) extra
    last = subst (λ (inputs : Bool). FormWith kind n.design.net (counted k n.free) size most h (counted k (spread_start k (counted k n.free))) k inputs (is_extra plan.extra.marks) extra) b.inputs_are
        (subst (λ (x : ℕ → ℕ → Bool). FormWith kind n.design.net (counted k n.free) size most h (counted k (spread_start k (counted k n.free))) k t.inputs x extra) b.extra_is
        (subst (λ (f : Form). FormWith f n.design.net (counted k n.free) size most h (counted k (spread_start k (counted k n.free))) k t.inputs b.given.extra extra) b.kind_is with_cut))

    marks_are : spread_start k (counted k n.free) ≡ f.net.free
    marks_are = ap (λ (c : PlainCert). spread_start c (counted c n.free)) (sym m.cert) ∙ sym marks

    made : BoundedForm kind n.design.net n.free size version most h f.net.free k
    made = subst (λ (g : List Bool). BoundedForm kind n.design.net n.free size version most h g k) marks_are (record {
      has_version = cert_version n.design.net plan.parts voted t ∙ (ap version_of b.inputs_are ∙ version_is version known);
      extra = extra;
      form = last.form;
      bound = last.bound;
      within = cert_within n.design.net plan.parts voted t plan.cut most extra refl b.bound;
      marks = refl;
    })

    none_added : length n.design.net.nodes < most → HasForm kind n.design.net (counted k n.free) size h (counted k f.net.free) k (nat_eq version 2) none_extra
    none_added few =
        subst (λ (g : List Bool). HasForm kind n.design.net (counted k n.free) size h (counted k g) k (nat_eq version 2) none_extra) marks_are
        (subst (λ (x : ℕ → ℕ → Bool). HasForm kind n.design.net (counted k n.free) size h (counted k (spread_start k (counted k n.free))) k (nat_eq version 2) x) (λ i y j. b.none few y j i) last.form)

-- the answer of hardening to version 2
pub free_hardened_is : (n : FreeDesign) (size most : ℕ) (r : HardenedFree) → length n.design.net.nodes < most → IsBoundedPair Plain n size 2 most r → IsFreeHardenedPair n size r
free_hardened_is n size most r few b = record {
  form = record {
    form = subst (λ (g : List Bool). HasForm Plain n.design.net n.free size r.net.design.net g r.cert true none_extra) (counted_all r.cert r.net.free b.form.has_version)
        (subst (λ (f : List Bool). HasForm Plain n.design.net f size r.net.design.net (counted r.cert r.net.free) r.cert true none_extra) (counted_all r.cert n.free b.form.has_version) (b.unbounded few));
    marks = b.form.marks ∙ ap (spread_start r.cert) (counted_all r.cert n.free b.form.has_version);
  };
  pairs = b.pairs;
  plain_pairs = b.plain_pairs;
  minimal = b.minimal;
  voters = b.voters;
}
