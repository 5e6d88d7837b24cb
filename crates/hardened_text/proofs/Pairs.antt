-- What is answered is told of the pair that is made of the plan.
use Rattle.std.proofs.Common.{◌≡◌, ℕ, zero, suc, ◌+◌, ◌*◌, ◌-◌, ◌<◌, ◌≤◌, ◌^◌, ◌⊎◌, Bool, List, [], ◌∷◌, length, get_or, refl, sym, ap, subst, ◌∙◌, arith}
use Rattle.std.specs.Prelude.{All, nat_eq}
use Rattle.flat_net.specs.Net.{Net, Design, IsValid, IsDesign}
use Rattle.flat_net.specs.Free.{FreeDesign, AreMarks}
use Rattle.blif_writer.specs.Text.{free_text}
use Rattle.blif_writer.proofs.Again.{free_of_text}
use Rattle.blif_writer.proofs.Lengths.{text_long}
use Rattle.certificate.specs.Cert.{IsCert, Fits}
use Rattle.certificate.specs.Starts.{counted, spread_start}
use Rattle.certificate.specs.Text.{cert_text}
use Rattle.certificate.proofs.RoundTrip.{fold_of_text_again}
use Rattle.certificate.proofs.Same.{same_reading}
use Rattle.triplicate.specs.declared.form.Form.{Form}
use Rattle.triplicate.specs.Blocks.{hardened_roles}
use Rattle.triplicate.specs.declared.planning.Plan.{Plan}
use Rattle.triplicate.specs.Planned.{IsPlan, plan_votes, cert_in, pair_in}
use Rattle.triplicate.specs.Construction.{hardened_net, hardened_cert, hardened_order}
use Rattle.triplicate.specs.Labels.{labeling}
use Rattle.triplicate.proofs.Certified.{cert_fits, is_cert}
use Rattle.triplicate.proofs.HardenedOrder.{is_order}
use Rattle.triplicate.proofs.Marked.{counted_marks, marks_are_marks}
use Rattle.triplicate.proofs.Planned.{planned_is}
use Rattle.triplicate.proofs.Sizes.{roles_counted}
use Rattle.triplicate.proofs.Valid.{is_valid}
use Rattle.triplicate.proofs.Whole.{nodes_long}
use Rattle.hardened_text.specs.declared.form.HardenedForm.{HardenedForm}
use Rattle.hardened_text.specs.Texts.{IsFormOf}

depths_are : (n : Net) (p : Plan) → (cert_in n p).depth ≡ p.extra.table.depths
unfolding hardened_cert
depths_are n p = refl

-- a number that is 2 ^ 32 - 1 or less has 32 bits
get_or_alike : (xs : List ℕ) (k d e : ℕ) → k < length xs → get_or xs k d ≡ get_or xs k e
get_or_alike [] k d e lt = absurd (omega (arith, lt))
get_or_alike (x ∷ xs) zero d e lt = refl
get_or_alike (x ∷ xs) (suc k) d e lt = get_or_alike xs k d e (omega (arith, lt))

labels_small : (kind : Form) (n : Net) (size : ℕ) (inputs : Bool) (most : ℕ) (p : Plan) → most < 2 ^ 32 → IsPlan kind n size inputs most p → All (λ l. l < 2 ^ 32) p.extra.table.labels
labels_small kind n size inputs most p small is = λ k d lt.
    let low : k < length n.nodes = omega (arith, lt, is.bound.depths.nodes) in
    omega (arith, small, is.bound.bounded k low, get_or_alike p.extra.table.labels k d 0 lt)

pub few_nodes : (kind : Form) (n : Net) (size : ℕ) (inputs : Bool) (most : ℕ) (p : Plan) (nets ins count : ℕ) → IsPlan kind n size inputs most p → nets ≡ 3 * length n.inputs + length (hardened_roles n p.parts (plan_votes n p)) → ins ≡ length n.inputs → count ≡ length n.nodes → 3 * count ≤ nets - 3 * ins
few_nodes kind n size inputs most p nets ins count is e f g = omega (arith, e, f, g, roles_counted n p.parts (plan_votes n p))

-- all that is answered is told of one pair
pub form_is : (kind : Form) (n : FreeDesign) (d : Design) (size version most : ℕ) (p : Plan) (r : HardenedForm) (nets ins count : ℕ) → (version ≡ 1) ⊎ (version ≡ 2) → most < 2 ^ 32 → d ≡ n.design → AreMarks n.design.net n.free → IsDesign d → IsPlan kind d.net size (nat_eq version 2) most p
    → nets ≡ 3 * length d.net.inputs + length (hardened_roles d.net p.parts (plan_votes d.net p)) → ins ≡ length d.net.inputs → count ≡ length d.net.nodes
    → r.depths.items ≡ p.extra.table.depths → All (λ x. x < 2 ^ 32) p.extra.table.depths → r.nodes ≡ nets - 3 * ins → r.partitions ≡ p.parts.count → r.cost ≡ p.cost → r.plain ≡ p.plain → r.minimal ≡ p.minimal → r.voters ≡ nets - 3 * ins - 3 * count → r.plan ≡ p
    → IsFormOf kind n size version most r
form_is kind n d size version most p r nets ins count known small same marks design planned en ei ec eds small_depths er ep ecost eplain eminimal ev own = record {
  formed = record { kind = kind; size = size; inputs = nat_eq version 2; most = most; planned = subst (λ (q : Plan). IsPlan kind n.design.net size (nat_eq version 2) most q) (sym own) is };
  pair = pair_in n p;
  bounded = planned_is kind n size version most p known is;
  valid = valid;
  certified = certified;
  fits = fits;
  design = ap (λ (q : Plan). free_text (pair_in n q).net.design.net (pair_in n q).net.free) own;
  design_read = λ limit fits. free_of_text h g limit valid own_marks (subst (λ (m : ℕ). m ≤ limit) (text_long h g valid) fits);
  certificate = ap (λ (q : Plan). cert_text n.design.net (pair_in n q).net.design.net (pair_in n q).cert) own;
  certificate_read = sym (same_reading n.design.net h (cert_text n.design.net h (cert_in n.design.net p))) ∙ fold_of_text_again n.design.net h (cert_in n.design.net p) is.given.valid valid certified fits;
  nodes = omega (arith, er, total, inputs, nodes_long n.design.net p.parts (plan_votes n.design.net p));
  partitions = omega (arith, ep, is.bound.depths.parts_long, ap length (depths_are n.design.net p));
  depths = eds ∙ sym (depths_are n.design.net p);
  cost = ecost;
  plain = eplain;
  minimal = eminimal;
  voters = omega (arith, ev, total, inputs, nodes, roles_counted n.design.net p.parts (plan_votes n.design.net p));
}
  where
    is : IsPlan kind n.design.net size (nat_eq version 2) most p
    is = subst (λ (e : Design). IsPlan kind e.net size (nat_eq version 2) most p) same planned

    ordered : IsDesign n.design
    ordered = subst IsDesign same design

    h : Net
    h = hardened_net n.design.net p.parts (plan_votes n.design.net p)

    g : List Bool
    g = spread_start (cert_in n.design.net p) (counted (cert_in n.design.net p) n.free)

    valid : IsValid (hardened_net n.design.net p.parts (plan_votes n.design.net p))
    valid = is_valid n.design.net p.parts (plan_votes n.design.net p) (labeling p.inputs p.extra.table) is.given (hardened_order n.design.net p.parts (plan_votes n.design.net p) n.design.order)
        (is_order n.design.net p.parts (plan_votes n.design.net p) (labeling p.inputs p.extra.table) is.given n.design.order ordered.order)

    certified : IsCert (cert_in n.design.net p)
    certified = is_cert n.design.net p.parts (plan_votes n.design.net p) (labeling p.inputs p.extra.table) is.given (labels_small kind n.design.net size (nat_eq version 2) most p small is) small_depths

    own_marks : AreMarks (hardened_net n.design.net p.parts (plan_votes n.design.net p)) (spread_start (cert_in n.design.net p) (counted (cert_in n.design.net p) n.free))
    own_marks = marks_are_marks n.design.net p.parts (plan_votes n.design.net p) (labeling p.inputs p.extra.table) is.given (counted (cert_in n.design.net p) n.free) (counted_marks n.design.net n.free (cert_in n.design.net p) marks.registers)

    fits : Fits n.design.net (hardened_net n.design.net p.parts (plan_votes n.design.net p)) (cert_in n.design.net p)
    fits = cert_fits n.design.net p.parts (plan_votes n.design.net p) (labeling p.inputs p.extra.table) is.given

    total : nets ≡ 3 * length n.design.net.inputs + length (hardened_roles n.design.net p.parts (plan_votes n.design.net p))
    total = en ∙ ap (λ (e : Design). 3 * length e.net.inputs + length (hardened_roles e.net p.parts (plan_votes e.net p))) same

    inputs : ins ≡ length n.design.net.inputs
    inputs = ei ∙ ap (λ (e : Design). length e.net.inputs) same

    nodes : count ≡ length n.design.net.nodes
    nodes = ec ∙ ap (λ (e : Design). length e.net.nodes) same
