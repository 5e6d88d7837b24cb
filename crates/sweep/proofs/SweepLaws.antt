-- What is told of one size, all sizes, and the lines.
use Rattle.std.proofs.Common.{◌≡◌, ℕ, zero, suc, ◌+◌, ◌*◌, ◌-◌, ◌^◌, ◌<◌, ◌≤◌, ◌⊎◌, inl, inr, Bool, true, false, List, [], ◌∷◌, ◌++◌, length, map, drop, get_or, slice_get, Some, refl, sym, ap, ◌∙◌, subst, append_assoc, add-one, drop-cons, arith, All}
use Rattle.std.specs.Prelude.{◌==◌, nat_eq, slice_index, if◌then◌else◌}
use Rattle.std.specs.List.{flat_map}
use Rattle.std.proofs.lemmas.Bool.{cases_lt}
use Rattle.std.proofs.lemmas.List.{length-append}
use Rattle.std.proofs.lemmas.Option.{get_or_from_slice_get, slice_get_within}
use Rattle.std.proofs.Math.Nat.{pow-suc}
use Rattle.tmr_base.specs.declared.copies.CopyNo.TheVariants.{First, Second, Third}
use Rattle.flat_net.specs.Net.{Net, Design, IsDesign}
use Rattle.flat_net.specs.Free.{FreeDesign}
use Rattle.certificate.specs.Cert.{IsCert, depth_of}
use Rattle.certificate.specs.Text.{line_text}
use Rattle.triplicate.specs.declared.form.Form.{Form}
use Rattle.triplicate.specs.Blocks.{hardened_roles}
use Rattle.triplicate.specs.Form.{version_of}
use Rattle.triplicate.specs.declared.planning.Plan.{Plan}
use Rattle.triplicate.specs.Planned.{IsPlan, plan_votes, cert_in, pair_in}
use Rattle.triplicate.specs.Construction.{hardened_cert, hardened_order}
use Rattle.triplicate.specs.Labels.{labeling}
use Rattle.triplicate.proofs.Lists.{get_before, get_after}
use Rattle.triplicate.proofs.Certified.{cert_fits, is_cert}
use Rattle.triplicate.proofs.HardenedOrder.{is_order}
use Rattle.triplicate.proofs.Planned.{planned_is}
use Rattle.triplicate.proofs.Sizes.{roles_counted}
use Rattle.triplicate.proofs.Valid.{is_valid}
use Rattle.exposure.specs.Counts.{copy_count, near_of, near_in, near_inputs, near_total}
use Rattle.sweep.specs.declared.swept.Swept.{Swept}
use Rattle.sweep.specs.Levels.{AreLevels}
use Rattle.sweep.specs.Sweep.{greatest, IsSwept, IsSweep, IsSweepText, original_line, swept_line, sweep_text}
use Rattle.sweep.specs.Private.Counting.{AreCounts}
use Rattle.sweep.specs.Private.Reaching.{AreVotedLevels}
use Rattle.sweep.specs.Private.Written.{IsSweeping, lines_left}
use Rattle.sweep.proofs.HardenedPaths.{hardened_levels}

-- ---- pairs that are too near

pub depths_are : (n : Net) (p : Plan) → (cert_in n p).depth ≡ p.extra.table.depths
unfolding hardened_cert
depths_are n p = refl

version_is : (n : Net) (p : Plan) → (cert_in n p).version ≡ version_of p.inputs
unfolding hardened_cert
version_is n p = refl

inputs_are : (n : Net) (p : Plan) → (cert_in n p).original_inputs ≡ length n.inputs
unfolding hardened_cert
inputs_are n p = refl

pub inputs_near : (n : Net) (p : Plan) (count : ℕ) → count ≡ length n.inputs → (if p.inputs then near_of count count count 0 else 0) ≡ near_inputs (cert_in n p)
inputs_near n p count e =
    go p.inputs
    ∙ (ap (λ (v : ℕ). if v == 1 then 0 else near_of count count count 0) (sym (version_is n p))
    ∙ ap (λ (i : ℕ). if (cert_in n p).version == 1 then 0 else near_of i i i 0) (e ∙ sym (inputs_are n p)))
  where
    go : (b : Bool) → (if b then near_of count count count 0 else 0) ≡ (if version_of b == 1 then 0 else near_of count count count 0)
    go true = refl
    go false = refl

pub none_near : (n : Net) (p : Plan) → p.inputs ≡ false → 0 ≡ near_inputs (cert_in n p)
none_near n p e =
    let same : (if p.inputs then near_of (length n.inputs) (length n.inputs) (length n.inputs) 0 else 0) ≡ 0 = ap (λ (b : Bool). if b then near_of (length n.inputs) (length n.inputs) (length n.inputs) 0 else 0) e in
    sym same ∙ inputs_near n p (length n.inputs) refl

pub part_near : (n : Net) (p : Plan) (counts depths : List ℕ) (i : ℕ) → AreCounts n p counts → depths ≡ p.extra.table.depths → i < p.parts.count
    → near_of (slice_index counts i) (slice_index counts i) (slice_index counts i) (slice_index depths i) ≡ near_in (cert_in n p) i
part_near n p counts depths i are same l =
    let depth : slice_index depths i ≡ depth_of (cert_in n p) i = ap (λ (ds : List ℕ). slice_index ds i) (same ∙ sym (depths_are n p)) in
    ap (λ (a : ℕ). near_of a (slice_index counts i) (slice_index counts i) (slice_index depths i)) (are.each i First l)
    ∙ (ap (λ (b : ℕ). near_of (copy_count (cert_in n p) i First) b (slice_index counts i) (slice_index depths i)) (are.each i Second l)
    ∙ (ap (λ (c : ℕ). near_of (copy_count (cert_in n p) i First) (copy_count (cert_in n p) i Second) c (slice_index depths i)) (are.each i Third l)
    ∙ ap (λ (d : ℕ). near_of (copy_count (cert_in n p) i First) (copy_count (cert_in n p) i Second) (copy_count (cert_in n p) i Third) d) depth))

-- ---- one size

get_or_alike : (xs : List ℕ) (k d e : ℕ) → k < length xs → get_or xs k d ≡ get_or xs k e
get_or_alike [] k d e lt = absurd (omega (arith, lt))
get_or_alike (x ∷ xs) zero d e lt = refl
get_or_alike (x ∷ xs) (suc k) d e lt = get_or_alike xs k d e (omega (arith, lt))

labels_small : (kind : Form) (n : Net) (size : ℕ) (inputs : Bool) (most : ℕ) (p : Plan) → most < 2 ^ 32 → IsPlan kind n size inputs most p → All (λ l. l < 2 ^ 32) p.extra.table.labels
labels_small kind n size inputs most p small is = λ k d lt.
    let low : k < length n.nodes = omega (arith, lt, is.bound.depths.nodes) in
    omega (arith, small, is.bound.bounded k low, get_or_alike p.extra.table.labels k d 0 lt)

-- the certificate of a plan is consistent
pub plan_certified : (kind : Form) (n : Net) (size : ℕ) (inputs : Bool) (most : ℕ) (p : Plan) → most < 2 ^ 32 → IsPlan kind n size inputs most p → All (λ d. d < 2 ^ 32) p.extra.table.depths → IsCert (cert_in n p)
plan_certified kind n size inputs most p small is depths = is_cert n p.parts (plan_votes n p) (labeling p.inputs p.extra.table) is.given (labels_small kind n size inputs most p small is) depths

pub few_nodes : (kind : Form) (n : Net) (size : ℕ) (inputs : Bool) (most : ℕ) (p : Plan) (nets ins count : ℕ) → IsPlan kind n size inputs most p → nets ≡ 3 * length n.inputs + length (hardened_roles n p.parts (plan_votes n p)) → ins ≡ length n.inputs → count ≡ length n.nodes → 3 * count ≤ nets - 3 * ins
few_nodes kind n size inputs most p nets ins count is e f g = omega (arith, e, f, g, roles_counted n p.parts (plan_votes n p))

-- all that is answered is told of one pair
pub swept_is : (kind : Form) (n : FreeDesign) (d : Design) (size version most : ℕ) (p : Plan) (s : Swept) (nets ins count : ℕ) → (version ≡ 1) ⊎ (version ≡ 2) → most < 2 ^ 32 → d ≡ n.design → IsDesign d → IsPlan kind d.net size (nat_eq version 2) most p
    → nets ≡ 3 * length d.net.inputs + length (hardened_roles d.net p.parts (plan_votes d.net p)) → ins ≡ length d.net.inputs → count ≡ length d.net.nodes → All (λ x. x < 2 ^ 32) p.extra.table.depths
    → s.size ≡ size → s.partitions ≡ p.parts.count → s.voters ≡ nets - 3 * ins - 3 * count → s.depth ≡ greatest p.extra.table.depths → AreVotedLevels d.net (plan_votes d.net p) s.levels → s.near ≡ near_total (cert_in d.net p)
    → IsSwept kind n size version most s
swept_is kind n d size version most p s nets ins count known small same design planned en ei ec small_depths es ep ev ed levels enear = record {
  pair = pair_in n p;
  bounded = planned_is kind n size version most p known is;
  valid = is_valid n.design.net p.parts (plan_votes n.design.net p) (labeling p.inputs p.extra.table) is.given (hardened_order n.design.net p.parts (plan_votes n.design.net p) n.design.order)
      (is_order n.design.net p.parts (plan_votes n.design.net p) (labeling p.inputs p.extra.table) is.given n.design.order ordered.order);
  certified = plan_certified kind n.design.net size (nat_eq version 2) most p small is small_depths;
  fits = cert_fits n.design.net p.parts (plan_votes n.design.net p) (labeling p.inputs p.extra.table) is.given;
  size_is = es;
  partitions = omega (arith, ep, is.bound.depths.parts_long, ap length (depths_are n.design.net p));
  voters = omega (arith, ev, total, inputs, nodes, roles_counted n.design.net p.parts (plan_votes n.design.net p));
  depth = ed ∙ ap greatest (sym (depths_are n.design.net p));
  levels = hardened_levels n.design.net p.parts (plan_votes n.design.net p) (labeling p.inputs p.extra.table) is.given s.levels (subst (λ (e : Design). AreVotedLevels e.net (plan_votes e.net p) s.levels) same levels);
  near = enear ∙ ap (λ (e : Design). near_total (cert_in e.net p)) same;
}
  where
    is : IsPlan kind n.design.net size (nat_eq version 2) most p
    is = subst (λ (e : Design). IsPlan kind e.net size (nat_eq version 2) most p) same planned

    ordered : IsDesign n.design
    ordered = subst IsDesign same design

    total : nets ≡ 3 * length n.design.net.inputs + length (hardened_roles n.design.net p.parts (plan_votes n.design.net p))
    total = en ∙ ap (λ (e : Design). 3 * length e.net.inputs + length (hardened_roles e.net p.parts (plan_votes e.net p))) same

    inputs : ins ≡ length n.design.net.inputs
    inputs = ei ∙ ap (λ (e : Design). length e.net.inputs) same

    nodes : count ≡ length n.design.net.nodes
    nodes = ec ∙ ap (λ (e : Design). length e.net.nodes) same

-- ---- all sizes

module _ (kind : Form) (n : FreeDesign) (version most : ℕ) where
  pub first_swept : (old new : List Swept) (s : Swept) → old ≡ [] → new ≡ old ++ s ∷ [] → IsSwept kind n 16 version most s → IsSweeping kind n version most new 16
  first_swept old new s none pushed is = subst (λ (xs : List Swept). IsSweeping kind n version most xs 16) (sym (pushed ∙ ap (λ (xs : List Swept). xs ++ s ∷ []) none)) (record {
    some = omega arith;
    each = each;
    smaller = λ i l. absurd (omega (arith, l));
    last = refl;
    positive = omega arith;
  })
    where
      each : (i : ℕ) (r : Swept) → slice_get (s ∷ []) i ≡ Some r → IsSwept kind n (16 * 2 ^ i) version most r
      each zero r at = subst (λ (q : Swept). IsSwept kind n 16 version most q) (let same : s ≡ r = cc in same) is
      each (suc i) r at = absurd (cc)

  pub next_swept : (old new : List Swept) (size next : ℕ) (s : Swept) → IsSweeping kind n version most old size → size < length n.design.net.nodes → next ≡ size * 2 → new ≡ old ++ s ∷ [] → IsSwept kind n next version most s → IsSweeping kind n version most new next
  next_swept old new size next s w below double pushed is = subst (λ (xs : List Swept). IsSweeping kind n version most xs next) (sym pushed) (record {
    some = omega (arith, long);
    each = λ i r at. each i r at (cases_lt i (length old));
    smaller = λ i l. smaller i (omega (arith, l, long)) (cases_lt (i + 1) (length old));
    last = grown ∙ ap (λ (m : ℕ). 16 * 2 ^ m) (let e : length old ≡ length (old ++ s ∷ []) - 1 = omega (arith, long) in e);
    positive = omega (arith, double, w.positive);
  })
    where
      long : length (old ++ s ∷ []) ≡ length old + 1
      long = length-append old (s ∷ [])

      grown : next ≡ 16 * 2 ^ length old
      grown =
          let e : suc (length old - 1) ≡ length old = omega (arith, w.some) in
          let power : 2 ^ length old ≡ 2 ^ (length old - 1) * 2 = ap (λ (m : ℕ). 2 ^ m) (sym e) ∙ pow-suc 2 (length old - 1) in
          omega (arith, double, w.last, power)

      each : (i : ℕ) (r : Swept) → slice_get (old ++ s ∷ []) i ≡ Some r → (i < length old) ⊎ (length old ≤ i) → IsSwept kind n (16 * 2 ^ i) version most r
      each i r at (inl l) = w.each i r (sym (get_before old (s ∷ []) i l) ∙ at)
      each i r at (inr l) =
          let here : i ≡ length old = omega (arith, l, long, slice_get_within (old ++ s ∷ []) i r at) in
          let back : i ≡ length old + 0 = omega (arith, here) in
          let there : slice_get (s ∷ []) 0 ≡ Some r = sym (get_after old (s ∷ []) 0) ∙ (ap (slice_get (old ++ s ∷ [])) (sym back) ∙ at) in
          let same : s ≡ r = cc in
          subst (λ (m : ℕ). IsSwept kind n m version most r) (grown ∙ ap (λ (m : ℕ). 16 * 2 ^ m) (sym here)) (subst (λ (q : Swept). IsSwept kind n next version most q) same is)

      smaller : (i : ℕ) → i + 1 < length old + 1 → (i + 1 < length old) ⊎ (length old ≤ i + 1) → 16 * 2 ^ i < length n.design.net.nodes
      smaller i l (inl earlier) = w.smaller i earlier
      smaller i l (inr last) =
          let here : length old - 1 ≡ i = omega (arith, l, last) in
          let power : 16 * 2 ^ (length old - 1) ≡ 16 * 2 ^ i = ap (λ (m : ℕ). 16 * 2 ^ m) here in
          omega (arith, below, w.last, power)

  pub all_swept : (swept : List Swept) (size : ℕ) → IsSweeping kind n version most swept size → length n.design.net.nodes ≤ size → IsSweep kind n version most swept
  all_swept swept size w enough = record { some = w.some; each = w.each; smaller = w.smaller; enough = omega (arith, enough, w.last) }

-- ---- lines

pub line_put : (n : Net) (swept : List Swept) (i : ℕ) (s : Swept) (old new total : List ℕ) → slice_get swept i ≡ Some s → new ≡ old ++ line_text (swept_line n s) → old ++ lines_left n swept i ≡ total → new ++ lines_left n swept (i + 1) ≡ total
line_put n swept i s old new total at put before =
    let l : i < length swept = slice_get_within swept i s at in
    let here : drop i swept ≡ get_or swept i s ∷ drop (i + 1) swept = rw (add-one, drop-cons swept i s) refl in
    let first : drop i swept ≡ s ∷ drop (i + 1) swept = here ∙ ap (λ (q : Swept). q ∷ drop (i + 1) swept) (get_or_from_slice_get swept i s s at) in
    ap (λ (xs : List ℕ). xs ++ lines_left n swept (i + 1)) put
    ∙ (append_assoc old (line_text (swept_line n s)) (lines_left n swept (i + 1))
    ∙ (ap (λ (ss : List Swept). old ++ flat_map line_text (map (swept_line n) ss)) (sym first) ∙ before))

pub text_is : (kind : Form) (n : FreeDesign) (d : Design) (version most levels : ℕ) (swept : List Swept) (a b c : List ℕ) → d ≡ n.design → AreLevels d.net levels → IsSweep kind n version most swept → a ≡ []
    → b ≡ a ++ line_text (original_line d.net levels) → c ≡ b ++ lines_left d.net swept 0 → IsSweepText kind n version most c
text_is kind n d version most levels swept a b c same original sizes none first rest = record {
  levels = levels;
  swept = swept;
  original = subst (λ (e : Design). AreLevels e.net levels) same original;
  sizes = sizes;
  text_is = rest ∙ (ap (λ (xs : List ℕ). xs ++ lines_left d.net swept 0) (first ∙ ap (λ (xs : List ℕ). xs ++ line_text (original_line d.net levels)) none) ∙ ap (λ (e : Design). sweep_text e.net levels swept) same);
}
