-- One node more that was seen, and the path that leads.
use Rattle.std.proofs.Common.{◌≡◌, ◌≢◌, ℕ, ◌+◌, ◌-◌, ◌*◌, ◌<◌, ◌≤◌, ◌⊎◌, inl, inr, Bool, true, false, ◌&&◌, List, [], ◌∷◌, ◌++◌, length, slice_index, slice_set, refl, sym, ◌∙◌, ap, subst, arith}
use Rattle.std.specs.Prelude.{◌==◌, if◌then◌else◌}
use Rattle.std.specs.Str.{bytes_eq}
use Rattle.std.proofs.lemmas.Bool.{cases_eq, cases_lt, eq-eqb, ne_eqb}
use Rattle.std.specs.Borrow.{Bor}
use Rattle.std.proofs.lemmas.List.{get_or-set_same, get_or-set_other, length-set, length-append, length-map, map-append, get_or_push, get_or_append_left}
use Rattle.flat_net.specs.Net.{Net}
use Rattle.flat_net.proofs.Names.{eq_true, eq_from, eq_false}
use Rattle.certificate.specs.Cert.{PlainCert}
use Rattle.partitioner.specs.Below.{count_below, one_if}
use Rattle.partitioner.proofs.BelowLaws.{count_none, count_same, count_le}
use Rattle.partition_graph.specs.declared.groups.Lead.{Lead}
use Rattle.partition_graph.specs.Places.{nodes_in}
use Rattle.partition_graph.specs.Groups.{path_of, path_count, IsGroup, group_at}
use Rattle.partition_graph.specs.Private.Counting.{text, texts}
use Rattle.partition_graph.specs.Private.Leading.{voted_lead, node_path, seen_in, seen_with, lead_at, IsLeading, AreLeading, has_lead}
use Rattle.partition_graph.proofs.CountLaws.{count_more, count_some, count_fewer}

bool_cases : (b : Bool) → (b ≡ true) ⊎ (b ≡ false)
bool_cases true = inl refl
bool_cases false = inr refl

module _ (n : Net) (k : PlainCert) where
  in_more : (m p : ℕ) → seen_in k (m + 1) p ≡ seen_in k m p + one_if (slice_index k.part m == p)
  unfolding seen_in
  in_more m p = count_more m (λ i. slice_index k.part i == p)

  with_more : (m p : ℕ) (path : List ℕ) → seen_with n k (m + 1) p path ≡ seen_with n k m p path + one_if (slice_index k.part m == p && bytes_eq (node_path n k m) path)
  unfolding seen_with
  with_more m p path = count_more m (λ i. slice_index k.part i == p && bytes_eq (node_path n k i) path)

  none_seen : (p : ℕ) → seen_in k 0 p ≡ 0
  unfolding seen_in
  none_seen p = count_none (λ i. slice_index k.part i == p)

  none_with : (p : ℕ) (path : List ℕ) → seen_with n k 0 p path ≡ 0
  unfolding seen_with
  none_with p path = count_none (λ i. slice_index k.part i == p && bytes_eq (node_path n k i) path)

  -- no node was seen
  none_leads : (p : ℕ) → IsLeading n k 0 p (record { node = 0; by = 0 })
  none_leads p = record {
    few = omega arith;
    node = λ h. absurd (omega (arith, h, none_seen p));
    own = λ path e. omega (arith, none_with p path);
    other = λ path e. omega (arith, none_with p path);
  }

  -- the next node is of another partition
  stays : (m p : ℕ) (lead : Lead) → slice_index k.part m ≢ p → IsLeading n k m p lead → IsLeading n k (m + 1) p lead
  stays m p lead apart is =
      let no = ne_eqb (slice_index k.part m) p apart in
      let same : seen_in k (m + 1) p ≡ seen_in k m p = let e : one_if (slice_index k.part m == p) ≡ 0 = ap one_if no in omega (arith, in_more m p, e) in
      record {
        few = omega (arith, is.few, same);
        node = λ h. is.node (omega (arith, h, same));
        own = λ path e. let f : one_if (slice_index k.part m == p && bytes_eq (node_path n k m) path) ≡ 0 = ap (λ (b : Bool). one_if (b && bytes_eq (node_path n k m) path)) no in omega (arith, is.own path e, same, with_more m p path, f);
        other = λ path e. let f : one_if (slice_index k.part m == p && bytes_eq (node_path n k m) path) ≡ 0 = ap (λ (b : Bool). one_if (b && bytes_eq (node_path n k m) path)) no in omega (arith, is.other path e, same, with_more m p path, f);
      }

  -- the next node is of this partition
  module _ (m p : ℕ) (lead : Lead) (own : slice_index k.part m ≡ p) (within : m < length k.part) (is : IsLeading n k m p lead) where
    mine : (slice_index k.part m == p) ≡ true
    mine = eq-eqb (slice_index k.part m) p own

    more : seen_in k (m + 1) p ≡ seen_in k m p + 1
    more = let e : one_if (slice_index k.part m == p) ≡ 1 = ap one_if mine in omega (arith, in_more m p, e)

    with_this : (path : List ℕ) → bytes_eq (node_path n k m) path ≡ true → seen_with n k (m + 1) p path ≡ seen_with n k m p path + 1
    with_this path e =
        let f : one_if (slice_index k.part m == p && bytes_eq (node_path n k m) path) ≡ 1 = ap (λ (b : Bool). one_if (b && bytes_eq (node_path n k m) path)) mine ∙ ap one_if e in
        omega (arith, with_more m p path, f)

    with_other : (path : List ℕ) → bytes_eq (node_path n k m) path ≡ false → seen_with n k (m + 1) p path ≡ seen_with n k m p path
    with_other path e =
        let f : one_if (slice_index k.part m == p && bytes_eq (node_path n k m) path) ≡ 0 = ap (λ (b : Bool). one_if (b && bytes_eq (node_path n k m) path)) mine ∙ ap one_if e in
        omega (arith, with_more m p path, f)

    -- nothing leads: the new node does
    half : lead.by ≡ 0 → (path : List ℕ) → 2 * seen_with n k m p path ≤ seen_in k m p
    half none path = go (bool_cases (bytes_eq (node_path n k lead.node) path))
      where
        go : (bytes_eq (node_path n k lead.node) path ≡ true) ⊎ (bytes_eq (node_path n k lead.node) path ≡ false) → 2 * seen_with n k m p path ≤ seen_in k m p
        go (inl e) = omega (arith, is.own path e, none)
        go (inr e) = omega (arith, is.other path e, none)

    begins : lead.by ≡ 0 → IsLeading n k (m + 1) p (record { node = m; by = 1 })
    begins none = record {
      few = omega (arith, more);
      node = λ h. within;
      own = λ path e. omega (arith, half none path, more, with_this path e);
      other = λ path e. omega (arith, half none path, more, with_other path e);
    }

    -- the new node has the leading path
    gains : bytes_eq (node_path n k m) (node_path n k lead.node) ≡ true → lead.node < length k.part → IsLeading n k (m + 1) p (record { node = lead.node; by = lead.by + 1 })
    gains e node = record {
      few = omega (arith, is.few, more);
      node = λ h. node;
      own = λ path f. omega (arith, is.own path f, more, with_this path (eq_true (node_path n k m) path (same ∙ eq_from (node_path n k lead.node) path f)));
      other = λ path f. omega (arith, is.other path f, more, with_other path (ap (λ (q : List ℕ). bytes_eq q path) same ∙ f));
    }
      where
        same : node_path n k m ≡ node_path n k lead.node
        same = eq_from (node_path n k m) (node_path n k lead.node) e

    -- the new node has another path
    loses : bytes_eq (node_path n k m) (node_path n k lead.node) ≡ false → 0 < lead.by → lead.node < length k.part → IsLeading n k (m + 1) p (record { node = lead.node; by = lead.by - 1 })
    loses e some node = record {
      few = omega (arith, is.few, more);
      node = λ h. node;
      own = λ path f. omega (arith, is.own path f, more, some, with_other path (eq_false (node_path n k m) path (λ g. apart (g ∙ sym (eq_from (node_path n k lead.node) path f)))));
      other = λ path f. go path f (bool_cases (bytes_eq (node_path n k m) path));
    }
      where
        apart : node_path n k m ≢ node_path n k lead.node
        apart same = absurd (cc (e, eq_true (node_path n k m) (node_path n k lead.node) same))

        go : (path : List ℕ) → bytes_eq (node_path n k lead.node) path ≡ false → (bytes_eq (node_path n k m) path ≡ true) ⊎ (bytes_eq (node_path n k m) path ≡ false) → 2 * seen_with n k (m + 1) p path + (lead.by - 1) ≤ seen_in k (m + 1) p
        go path f (inl g) = omega (arith, is.other path f, more, some, with_this path g)
        go path f (inr g) = omega (arith, is.other path f, more, some, with_other path g)

    voted : IsLeading n k (m + 1) p (voted_lead lead m (bytes_eq (node_path n k m) (node_path n k lead.node)))
    voted = go (cases_eq lead.by 0) (bool_cases (bytes_eq (node_path n k m) (node_path n k lead.node)))
      where
        go : (lead.by ≡ 0) ⊎ (lead.by ≢ 0) → (bytes_eq (node_path n k m) (node_path n k lead.node) ≡ true) ⊎ (bytes_eq (node_path n k m) (node_path n k lead.node) ≡ false)
            → IsLeading n k (m + 1) p (voted_lead lead m (bytes_eq (node_path n k m) (node_path n k lead.node)))
        go (inl none) f =
            subst (λ (b : Bool). IsLeading n k (m + 1) p (if b then record { node = m; by = 1 } else record { node = lead.node; by = if bytes_eq (node_path n k m) (node_path n k lead.node) then lead.by + 1 else lead.by - 1 })) (sym (eq-eqb lead.by 0 none)) (begins none)
        go (inr some) (inl e) =
            subst (λ (b : Bool). IsLeading n k (m + 1) p (if b then record { node = m; by = 1 } else record { node = lead.node; by = if bytes_eq (node_path n k m) (node_path n k lead.node) then lead.by + 1 else lead.by - 1 })) (sym (ne_eqb lead.by 0 some))
            (subst (λ (b : Bool). IsLeading n k (m + 1) p (record { node = lead.node; by = if b then lead.by + 1 else lead.by - 1 })) (sym e) (gains e (is.node (omega (arith, is.few, some)))))
        go (inr some) (inr e) =
            subst (λ (b : Bool). IsLeading n k (m + 1) p (if b then record { node = m; by = 1 } else record { node = lead.node; by = if bytes_eq (node_path n k m) (node_path n k lead.node) then lead.by + 1 else lead.by - 1 })) (sym (ne_eqb lead.by 0 some))
            (subst (λ (b : Bool). IsLeading n k (m + 1) p (record { node = lead.node; by = if b then lead.by + 1 else lead.by - 1 })) (sym e) (loses e (omega (arith, some)) (is.node (omega (arith, is.few, some)))))

  -- all partitions, before the first node and behind the next one
  pub none_are_leading : (leads : List Lead) → length leads ≡ length k.depth → ((p : ℕ) → p < length k.depth → lead_at leads p ≡ record { node = 0; by = 0 }) → AreLeading n k 0 leads
  none_are_leading leads long none = record {
    long = long;
    each = λ p h. subst (λ (lead : Lead). IsLeading n k 0 p lead) (sym (none p h)) (none_leads p);
  }

  pub next_are_leading : (m q : ℕ) (lead : Lead) (old new : List Lead) → m < length k.part → q ≡ slice_index k.part m → q < length k.depth → lead ≡ voted_lead (lead_at old q) m (bytes_eq (node_path n k m) (node_path n k (lead_at old q).node))
      → new ≡ slice_set old q lead → AreLeading n k m old → AreLeading n k (m + 1) new
  next_are_leading m q lead old new within at below is set before = record {
    long = ap length set ∙ (length-set old q lead ∙ before.long);
    each = λ p h. go p h (cases_eq p q);
  }
    where
      go : (p : ℕ) → p < length k.depth → (p ≡ q) ⊎ (p ≢ q) → IsLeading n k (m + 1) p (lead_at new p)
      go p h (inl e) =
          let here : lead_at new p ≡ lead = ap (lead_at new) e ∙ (ap (λ (ls : List Lead). lead_at ls q) set ∙ get_or-set_same old q lead (record { node = 0; by = 0 }) (omega (arith, before.long, below))) in
          let there : lead ≡ voted_lead (lead_at old p) m (bytes_eq (node_path n k m) (node_path n k (lead_at old p).node)) = is ∙ ap (λ (r : ℕ). voted_lead (lead_at old r) m (bytes_eq (node_path n k m) (node_path n k (lead_at old r).node))) (sym e) in
          subst (λ (l : Lead). IsLeading n k (m + 1) p l) (sym (here ∙ there)) (voted m p (lead_at old p) (sym at ∙ sym e) within (before.each p h))
      go p h (inr apart) =
          let there : lead_at new p ≡ lead_at old p = ap (λ (ls : List Lead). lead_at ls p) set ∙ get_or-set_other old q p lead (record { node = 0; by = 0 }) apart in
          subst (λ (l : Lead). IsLeading n k (m + 1) p l) (sym there) (stays m p (lead_at old p) (λ e. apart (sym e ∙ sym at)) (before.each p h))

  -- ---- what more than half have

  all_in : (p : ℕ) → seen_in k (length k.part) p ≡ nodes_in k p
  unfolding seen_in nodes_in
  all_in p = refl

  all_with : (p : ℕ) (path : List ℕ) → seen_with n k (length k.part) p path ≡ path_count n k p path
  unfolding seen_with path_count
  all_with p path = refl

  -- the nodes that agree with the leading path of their partition
  pub agree_count : (leads : List Lead) (p : ℕ) → count_below (length k.part) (λ i. slice_index k.part i == p && has_lead n k leads i) ≡ path_count n k p (node_path n k (lead_at leads p).node)
  unfolding path_count
  agree_count leads p =
      count_same (length k.part) (λ i. slice_index k.part i == p && has_lead n k leads i) (λ i. slice_index k.part i == p && bytes_eq (node_path n k i) (node_path n k (lead_at leads p).node)) (λ i h. go i (cases_eq (slice_index k.part i) p))
    where
      go : (i : ℕ) → (slice_index k.part i ≡ p) ⊎ (slice_index k.part i ≢ p) → (slice_index k.part i == p && has_lead n k leads i) ≡ (slice_index k.part i == p && bytes_eq (node_path n k i) (node_path n k (lead_at leads p).node))
      go i (inl e) = ap (λ (q : ℕ). slice_index k.part i == p && bytes_eq (node_path n k i) (node_path n k (lead_at leads q).node)) e
      go i (inr ne) = ap (λ (b : Bool). b && has_lead n k leads i) (ne_eqb (slice_index k.part i) p ne) ∙ sym (ap (λ (b : Bool). b && bytes_eq (node_path n k i) (node_path n k (lead_at leads p).node)) (ne_eqb (slice_index k.part i) p ne))

  pub group_is : (leads : List Lead) (p nodes agree : ℕ) (path : List ℕ) → AreLeading n k (length k.part) leads → p < length k.depth → nodes ≡ nodes_in k p → agree ≡ path_count n k p (node_path n k (lead_at leads p).node)
      → (nodes < 2 * agree → path ≡ node_path n k (lead_at leads p).node) → (2 * agree ≤ nodes → path ≡ []) → IsGroup n k p path
  group_is leads p nodes agree path are h counted agreed most none = go (cases_lt nodes (2 * agree))
    where
      is : IsLeading n k (length k.part) p (lead_at leads p)
      is = are.each p h

      minor : (other : List ℕ) → bytes_eq (node_path n k (lead_at leads p).node) other ≡ false → 2 * path_count n k p other ≤ nodes_in k p
      minor other e = omega (arith, is.other other e, all_in p, all_with p other)

      go : (nodes < 2 * agree) ⊎ (2 * agree ≤ nodes) → IsGroup n k p path
      go (inl more) =
          let e = most more in
          record {
            own = inr (omega (arith, more, counted, agreed, ap (path_count n k p) e));
            none = λ empty other ne. minor other (eq_false (node_path n k (lead_at leads p).node) other (λ f. ne (sym f ∙ (sym e ∙ empty))));
          }
      go (inr few) = record {
        own = inl (none few);
        none = λ empty other ne. half other (bool_cases (bytes_eq (node_path n k (lead_at leads p).node) other));
      }
        where
          half : (other : List ℕ) → (bytes_eq (node_path n k (lead_at leads p).node) other ≡ true) ⊎ (bytes_eq (node_path n k (lead_at leads p).node) other ≡ false) → 2 * path_count n k p other ≤ nodes_in k p
          half other (inl e) = omega (arith, few, counted, agreed, ap (path_count n k p) (eq_from (node_path n k (lead_at leads p).node) other e))
          half other (inr e) = minor other e

  -- ---- at run time

  few_seen : (m p : ℕ) → seen_in k m p ≤ m
  unfolding seen_in
  few_seen m p = count_le m (λ i. slice_index k.part i == p)

  pub few_lead : (m p : ℕ) (leads : List Lead) → AreLeading n k m leads → p < length k.depth → (lead_at leads p).by ≤ m
  few_lead m p leads are h = let few = (are.each p h).few in omega (arith, few, few_seen m p)

  some_seen : (p x : ℕ) → x < length k.part → slice_index k.part x ≡ p → 0 < seen_in k (length k.part) p
  unfolding seen_in
  some_seen p x h e = count_some (length k.part) (λ i. slice_index k.part i == p) x h (eq-eqb (slice_index k.part x) p e)

  pub lead_within : (leads : List Lead) (p x : ℕ) → AreLeading n k (length k.part) leads → p < length k.depth → x < length k.part → slice_index k.part x ≡ p → (lead_at leads p).node < length k.part
  lead_within leads p x are h l e = (are.each p h).node (some_seen p x l e)

  pub has_lead_is : (leads : List Lead) (inputs x p : ℕ) (a b : List ℕ) (same : Bool) → inputs ≡ k.original_inputs → slice_index k.part x ≡ p → a ≡ path_of n (inputs + x) → b ≡ path_of n (inputs + (lead_at leads p).node) → same ≡ bytes_eq a b → same ≡ has_lead n k leads x
  has_lead_is leads inputs x p a b same e own is_a is_b is =
      is ∙ (ap (λ (q : List ℕ). bytes_eq q b) (is_a ∙ ap (λ (m : ℕ). path_of n (m + x)) e)
      ∙ ap (bytes_eq (node_path n k x)) (is_b ∙ (ap (λ (m : ℕ). path_of n (m + (lead_at leads p).node)) e ∙ ap (λ (q : ℕ). node_path n k (lead_at leads q).node) (sym own))))

  -- the next lead, with the number of inputs as the code has it
  pub next_are : (inputs m q : ℕ) (was lead : Lead) (old new : List Lead) → inputs ≡ k.original_inputs → m < length k.part → slice_index k.part m ≡ q → q < length k.depth → was ≡ lead_at old q
      → lead ≡ voted_lead was m (bytes_eq (path_of n (inputs + m)) (path_of n (inputs + was.node))) → new ≡ slice_set old q lead → AreLeading n k m old → AreLeading n k (m + 1) new
  next_are inputs m q was lead old new e within own below at is set before =
      next_are_leading m q lead old new within (sym own) below
      (is ∙ (ap (λ (l : Lead). voted_lead l m (bytes_eq (path_of n (inputs + m)) (path_of n (inputs + l.node)))) at ∙ ap (λ (i : ℕ). voted_lead (lead_at old q) m (bytes_eq (path_of n (i + m)) (path_of n (i + (lead_at old q).node)))) e))
      set before

  paths_fewer : (p : ℕ) (path : List ℕ) → path_count n k p path ≤ nodes_in k p
  unfolding path_count nodes_in
  paths_fewer p path =
      count_fewer (length k.part) (λ i. slice_index k.part i == p && bytes_eq (path_of n (k.original_inputs + i)) path) (λ i. slice_index k.part i == p)
      (λ i h. go (slice_index k.part i == p) (bytes_eq (path_of n (k.original_inputs + i)) path))
    where
      go : (a b : Bool) → one_if (a && b) ≤ one_if a
      go true true = omega arith
      go true false = omega arith
      go false b = omega arith

  -- where some node agrees, the leading node is one
  pub agreed_within : (leads : List Lead) (p nodes agree : ℕ) → AreLeading n k (length k.part) leads → p < length k.depth → agree ≡ path_count n k p (node_path n k (lead_at leads p).node) → nodes < 2 * agree → (lead_at leads p).node < length k.part
  agreed_within leads p nodes agree are h agreed more =
      (are.each p h).node (omega (arith, more, agreed, paths_fewer p (node_path n k (lead_at leads p).node), all_in p))

  -- one group more
  pub groups_more : (old new : List (Bor (List ℕ))) (g : Bor (List ℕ)) (p : ℕ) → new ≡ old ++ g ∷ [] → length old ≡ p → ((q : ℕ) → q < p → IsGroup n k q (group_at (texts old) q)) → IsGroup n k p g.now
      → (length new ≡ p + 1) × ((q : ℕ) → q < p + 1 → IsGroup n k q (group_at (texts new) q))
  groups_more old new g p is long before here = (let e = ap length is in omega (arith, e, length-append old (g ∷ []), long), λ q h. go q h (cases_eq q p))
    where
      go : (q : ℕ) → q < p + 1 → (q ≡ p) ⊎ (q ≢ p) → IsGroup n k q (group_at (texts new) q)
      go q h (inl e) =
          let own : group_at (texts new) p ≡ g.now = ap (λ (gs : List (Bor (List ℕ))). group_at (texts gs) p) is ∙ (ap (λ (ts : List (List ℕ)). group_at ts p) (map-append text old (g ∷ [])) ∙ get_or_push (texts old) g.now [] p (length-map old text ∙ long)) in
          subst (λ (r : ℕ). IsGroup n k r (group_at (texts new) r)) (sym e) (subst (IsGroup n k p) (sym own) here)
      go q h (inr ne) =
          let same : group_at (texts new) q ≡ group_at (texts old) q = ap (λ (gs : List (Bor (List ℕ))). group_at (texts gs) q) is ∙ (ap (λ (ts : List (List ℕ)). group_at ts q) (map-append text old (g ∷ [])) ∙ get_or_append_left (texts old) (g.now ∷ []) [] q (omega (arith, length-map old text, long, h, ne))) in
          subst (IsGroup n k q) (sym same) (before q (omega (arith, h, ne)))
