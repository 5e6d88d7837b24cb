-- The partition where the loss is lowest is where the cost is lowest, and few partitions need be tried.
use Rattle.std.proofs.Common.{◌≡◌, ℕ, ◌+◌, ◌<◌, ◌≤◌, ◌⊎◌, inl, inr, Bool, true, false, eqb, ltb, not, ◌&&◌, ◌||◌, List, [], ◌∷◌, length, refl, sym, ◌∙◌, ap, subst, arith, get_or, take, IsPermutation}
use Rattle.std.specs.List.{list_any, All}
use Rattle.std.proofs.lemmas.Bool.{cases_Bool, cases_lt, and_parts, or_cases, eqb-true, ltb-true, not-false, true≢false}
use Rattle.std.proofs.lemmas.List.Elements.{All-head, All-tail}
use Rattle.std.proofs.lemmas.List.Sums.{count_by-le-length}
use Rattle.std.proofs.lemmas.List.{length-take}
use Rattle.flat_net.specs.Net.{Net}
use Rattle.partitioner.specs.declared.counts.partitioning.Partitioning.{Partitioning}
use Rattle.partitioner.specs.declared.refinement.placing.Lead.{Lead}
use Rattle.partitioner.specs.Below.{one_if}
use Rattle.node_reads.specs.Sources.{other_readers, other_sources}
use Rattle.partitioner.specs.Cost.{cost}
use Rattle.partitioner.specs.Private.Loss.{is_fresh, is_kept, is_wanted, loss, IsContent}
use Rattle.partitioner.specs.Refining.{has_room, put, place}
use Rattle.partitioner.specs.Private.Tracking.{Tracks, held_parts}
use Rattle.partitioner.specs.Private.Leading.{AsGood, IsReached, IsLead, Leads, LeadsOpen, LeadsReaders, LeadsOrLoses, is_settled, start_of}
use Rattle.partitioner.proofs.BelowLaws.{one_if_le}
use Rattle.partitioner.proofs.LowestLaws.{IsLowest, is_lowest}
use Rattle.partitioner.proofs.PutLaws.{base, cost_put}
use Rattle.partitioner.proofs.LossLaws.{loss_so_far, loss_more, loss_all, loss_at_least}

-- two functions that differ by a constant are lowest at the same place
lowest_both : (f g : ℕ → ℕ) (b : ℕ) (passes : ℕ → Bool) (start bound a : ℕ) → ((c : ℕ) → c < bound → f c + 1 ≡ b + g c) → start < bound → IsLowest g passes start bound a → IsLowest f passes start bound a
lowest_both f g b passes start bound a same within is = record { reached = reached is.reached; best = λ c h p. best c h (place_within is.reached) (is.best c h p) }
  where
    place_within : IsReached g passes start bound a → a < bound
    place_within (inl e) = omega (arith, e, within)
    place_within (inr h) = h.0

    reached : IsReached g passes start bound a → IsReached f passes start bound a
    reached (inl e) = inl e
    reached (inr h) = inr (h.0, h.1, omega (arith, same a h.0, same start within, h.2))

    best : (c : ℕ) → c < bound → a < bound → AsGood g start a c → AsGood f start a c
    best c h l (inl lower) = inl (omega (arith, same a l, same c h, lower))
    best c h l (inr (e, or)) = inr (omega (arith, same a l, same c h, e), or)

pub place_is : (n : Net) (size : ℕ) (p : Partitioning) (i a : ℕ) → Tracks n p → i < length n.nodes → IsLowest (loss n p.of.items i) (has_room size (held_parts p)) (start_of p i) p.count a → a ≡ place n size (held_parts p) i
place_is n size p i a tracks l is =
    is_lowest (λ q. cost n (put (held_parts p) i q)) (has_room size (held_parts p)) (start_of p i) p.count a
    (lowest_both (λ q. cost n (put (held_parts p) i q)) (loss n p.of.items i) (base n (held_parts p) i) (has_room size (held_parts p)) (start_of p i) p.count a
    (λ c h. cost_put n (held_parts p) i c tracks.long l h) (tracks.in_range i 0 (omega (arith, tracks.long, l))) is)

lead_low : (n : Net) (size : ℕ) (p : Partitioning) (i : ℕ) (lead : Lead) → IsLead n size p i lead → loss n p.of.items i lead.place ≤ loss n p.of.items i (start_of p i)
lead_low n size p i lead is = go is.reached
  where
    go : IsReached (loss n p.of.items i) (has_room size (held_parts p)) (start_of p i) p.count lead.place → loss n p.of.items i lead.place ≤ loss n p.of.items i (start_of p i)
    go (inl e) = omega (arith, ap (loss n p.of.items i) e)
    go (inr h) = omega (arith, h)

-- a partition that loses at least `tried` does not take a settled lead
settled_leads : (n : Net) (size : ℕ) (p : Partitioning) (i tried c : ℕ) (lead : Lead) → IsLead n size p i lead → is_settled lead (start_of p i) tried ≡ true → tried ≤ loss n p.of.items i c → Leads n p i lead.place c
settled_leads n size p i tried c lead is settled least = go (or_cases (ltb lead.loss tried) (eqb lead.loss tried && eqb lead.place (start_of p i)) settled)
  where
    last : (lead.place ≡ start_of p i) → lead.loss ≡ tried → (loss n p.of.items i lead.place < loss n p.of.items i c) ⊎ (loss n p.of.items i c ≤ loss n p.of.items i lead.place) → Leads n p i lead.place c
    last e q (inl h) = inl h
    last e q (inr h) = inr (omega (arith, h, q, least, is.value), inl e)

    go : (ltb lead.loss tried ≡ true) ⊎ ((eqb lead.loss tried && eqb lead.place (start_of p i)) ≡ true) → Leads n p i lead.place c
    go (inl h) = inl (omega (arith, ltb-true lead.loss tried h, is.value, least))
    go (inr h) =
        let both = and_parts (eqb lead.loss tried) (eqb lead.place (start_of p i)) h in
        last (eqb-true lead.place (start_of p i) both.1) (eqb-true lead.loss tried both.0) (cases_lt (loss n p.of.items i lead.place) (loss n p.of.items i c))

-- each partition with room is no better than the lead, or was not met by the first rows
abbrev pub LeadsOrMissed : Net → ℕ → Partitioning → ℕ → ℕ → List ℕ → ℕ → Type 0
LeadsOrMissed n size p i a row j = (c : ℕ) → c < p.count → has_room size (held_parts p) c ≡ true → Leads n p i a c ⊎ (loss_so_far n p.of.items i c row j ≡ j + 1)

pub settled_place : (n : Net) (size : ℕ) (p : Partitioning) (i j : ℕ) (row : List ℕ) (lead : Lead) → Tracks n p → i < length n.nodes → IsPermutation (other_sources n i) row → IsLead n size p i lead → LeadsOrMissed n size p i lead.place row j → is_settled lead (start_of p i) (j + 1) ≡ true → lead.place ≡ place n size (held_parts p) i
settled_place n size p i j row lead tracks l perm is tried settled =
    place_is n size p i lead.place tracks l (record { reached = is.reached; best = λ c h room. at c (tried c h room) })
  where
    at : (c : ℕ) → Leads n p i lead.place c ⊎ (loss_so_far n p.of.items i c row j ≡ j + 1) → Leads n p i lead.place c
    at c (inl h) = h
    at c (inr e) = settled_leads n size p i (j + 1) c lead is settled (omega (arith, e, loss_at_least n p.of.items i c row j perm))

pub settled_at_once : (n : Net) (size : ℕ) (p : Partitioning) (i least : ℕ) (lead : Lead) → Tracks n p → i < length n.nodes → IsLead n size p i lead → ((q : ℕ) → least ≤ loss n p.of.items i q) → is_settled lead (start_of p i) least ≡ true → lead.place ≡ place n size (held_parts p) i
settled_at_once n size p i least lead tracks l is low settled =
    place_is n size p i lead.place tracks l (record { reached = is.reached; best = λ c h room. settled_leads n size p i least c lead is settled (low c) })

pub settled_open : (n : Net) (size : ℕ) (p : Partitioning) (i least : ℕ) (lead : Lead) → Tracks n p → i < length n.nodes → IsLead n size p i lead → ((q : ℕ) → q < p.count → has_room size (held_parts p) q ≡ true → least ≤ loss n p.of.items i q) → is_settled lead (start_of p i) least ≡ true → lead.place ≡ place n size (held_parts p) i
settled_open n size p i least lead tracks l is low settled =
    place_is n size p i lead.place tracks l (record { reached = is.reached; best = λ c h room. settled_leads n size p i least c lead is settled (low c h room) })

pub exhausted_place : (n : Net) (size : ℕ) (p : Partitioning) (i j : ℕ) (row : List ℕ) (lead : Lead) → Tracks n p → i < length n.nodes → IsPermutation (other_sources n i) row → IsLead n size p i lead → LeadsOrMissed n size p i lead.place row j → length row ≤ j → lead.place ≡ place n size (held_parts p) i
exhausted_place n size p i j row lead tracks l perm is tried past =
    place_is n size p i lead.place tracks l (record { reached = is.reached; best = λ c h room. at c (tried c h room) })
  where
    most : loss n p.of.items i (start_of p i) ≤ length row + 1
    most =
        let all = loss_all n p.of.items i (start_of p i) row (length row) perm (omega arith) in
        let one = one_if_le (not (is_wanted n p.of.items i (start_of p i))) in
        let few = count_by-le-length (λ x. is_fresh n p.of.items i x (start_of p i)) (take (length row) row) in
        let long = length-take (length row) row in
        omega (arith, all, one, few, long)

    stays : (c : ℕ) → loss n p.of.items i c ≡ j + 1 → IsReached (loss n p.of.items i) (has_room size (held_parts p)) (start_of p i) p.count lead.place → Leads n p i lead.place c
    stays c e (inl s) = first (cases_lt (loss n p.of.items i lead.place) (loss n p.of.items i c))
      where
        first : (loss n p.of.items i lead.place < loss n p.of.items i c) ⊎ (loss n p.of.items i c ≤ loss n p.of.items i lead.place) → Leads n p i lead.place c
        first (inl h) = inl h
        first (inr h) = inr (omega (arith, h, e, most, past, lead_low n size p i lead is), inl s)
    stays c e (inr h) = inl (omega (arith, h, e, most, past))

    at : (c : ℕ) → Leads n p i lead.place c ⊎ (loss_so_far n p.of.items i c row j ≡ j + 1) → Leads n p i lead.place c
    at c (inl h) = h
    at c (inr e) = stays c (sym (loss_all n p.of.items i c row j perm past) ∙ e) is.reached

any_reached : (f : ℕ → Bool) (P : ℕ → Type 0) (Q : Type 0) (ys : List ℕ) → list_any f ys ≡ true → All P ys → ((y : ℕ) → f y ≡ true → P y → Q) → Q
any_reached f P Q [] e all use' = absurd (true≢false (sym e))
any_reached f P Q (y ∷ ys) e all use' = go (cases_Bool (f y)) (λ h. any_reached f P Q ys h (All-tail P y ys all) use')
  where
    go : (f y ≡ true) ⊎ (f y ≡ false) → (list_any f ys ≡ true → Q) → Q
    go (inl h) later = use' y h (All-head P y ys all)
    go (inr h) later = later (sym (ap (λ (b : Bool). b || list_any f ys) h) ∙ e)

-- the partitions of a node's readers were tried
readers_lead : (n : Net) (size : ℕ) (p : Partitioning) (i a x c : ℕ) (f : ℕ → Bool) → ((y : ℕ) → f y ≡ true → start_of p y ≡ c) → list_any f (other_readers n x) ≡ true → LeadsReaders n size p i a x → has_room size (held_parts p) c ≡ true → Leads n p i a c
readers_lead n size p i a x c f means some tried room =
    any_reached f (λ y. LeadsOpen n size p i a (start_of p y)) (Leads n p i a c) (other_readers n x) some tried
    (λ y h free. subst (λ (q : ℕ). LeadsOpen n size p i a q) (means y h) free room)

pub readers_tried : (n : Net) (size : ℕ) (p : Partitioning) (i a : ℕ) (row : List ℕ) → LeadsReaders n size p i a i → LeadsOrMissed n size p i a row 0
readers_tried n size p i a row tried = λ c h room. at c room (cases_Bool (is_wanted n p.of.items i c))
  where
    at : (c : ℕ) → has_room size (held_parts p) c ≡ true → (is_wanted n p.of.items i c ≡ true) ⊎ (is_wanted n p.of.items i c ≡ false) → Leads n p i a c ⊎ (loss_so_far n p.of.items i c row 0 ≡ 0 + 1)
    at c room (inl e) = inl (readers_lead n size p i a i c (λ y. eqb (start_of p y) c) (λ y h. eqb-true (start_of p y) c h) e tried room)
    at c room (inr e) = let one : one_if (not (is_wanted n p.of.items i c)) ≡ 1 = ap (λ (b : Bool). one_if (not b)) e in inr (omega (arith, one))

pub source_tried : (n : Net) (size : ℕ) (p : Partitioning) (i a b : ℕ) (row : List ℕ) (j : ℕ) → j < length row → LeadsOrMissed n size p i a row j → ((c : ℕ) → Leads n p i a c → Leads n p i b c) → LeadsOpen n size p i b (start_of p (get_or row j 0)) → LeadsReaders n size p i b (get_or row j 0) → LeadsOrMissed n size p i b row (j + 1)
source_tried n size p i a b row j l before kept own tried = λ c h room. at c room (before c h room) (cases_Bool (is_fresh n p.of.items i (get_or row j 0) c))
  where
    x : ℕ
    x = get_or row j 0

    met : (c : ℕ) → has_room size (held_parts p) c ≡ true → (eqb (start_of p (get_or row j 0)) c ≡ true) ⊎ (eqb (start_of p (get_or row j 0)) c ≡ false) → is_fresh n p.of.items i (get_or row j 0) c ≡ false → Leads n p i b c
    met c room (inl e) f = subst (λ (q : ℕ). LeadsOpen n size p i b q) (eqb-true (start_of p (get_or row j 0)) c e) own room
    met c room (inr e) f =
        let some : is_kept n p.of.items i (get_or row j 0) c ≡ true = not-false (is_kept n p.of.items i (get_or row j 0) c) (sym (ap (λ (d : Bool). not d && not (is_kept n p.of.items i (get_or row j 0) c)) e) ∙ f) in
        readers_lead n size p i b (get_or row j 0) c (λ y. not (eqb i y) && eqb (start_of p y) c) (λ y h. eqb-true (start_of p y) c (and_parts (not (eqb i y)) (eqb (start_of p y) c) h).1) some tried room

    at : (c : ℕ) → has_room size (held_parts p) c ≡ true → Leads n p i a c ⊎ (loss_so_far n p.of.items i c row j ≡ j + 1) → (is_fresh n p.of.items i (get_or row j 0) c ≡ true) ⊎ (is_fresh n p.of.items i (get_or row j 0) c ≡ false) → Leads n p i b c ⊎ (loss_so_far n p.of.items i c row (j + 1) ≡ (j + 1) + 1)
    at c room (inl h) f = inl (kept c h)
    at c room (inr e) (inl f) =
        let more = loss_more n p.of.items i c row j l in
        let one : one_if (is_fresh n p.of.items i (get_or row j 0) c) ≡ 1 = ap one_if f in
        inr (omega (arith, e, more, one))
    at c room (inr e) (inr f) = inl (met c room (cases_Bool (eqb (start_of p (get_or row j 0)) c)) f)

-- what was missed by the rows so far loses as many
pub missed_loses : (n : Net) (size : ℕ) (p : Partitioning) (i a : ℕ) (row : List ℕ) (j : ℕ) → IsPermutation (other_sources n i) row → LeadsOrMissed n size p i a row j → (c : ℕ) → c < p.count → has_room size (held_parts p) c ≡ true → LeadsOrLoses n p i a (j + 1) c
missed_loses n size p i a row j perm tried c h room = at (tried c h room)
  where
    at : Leads n p i a c ⊎ (loss_so_far n p.of.items i c row j ≡ j + 1) → LeadsOrLoses n p i a (j + 1) c
    at (inl k) = inl k
    at (inr e) = inr (omega (arith, e, loss_at_least n p.of.items i c row j perm))

pub kept_loses : (n : Net) (p : Partitioning) (i a b tried c : ℕ) → ((q : ℕ) → Leads n p i a q → Leads n p i b q) → LeadsOrLoses n p i a tried c → LeadsOrLoses n p i b tried c
kept_loses n p i a b tried c kept (inl h) = inl (kept c h)
kept_loses n p i a b tried c kept (inr h) = inr h

-- a later partition that loses at least as many as the lead does not take it
pub later_leads : (n : Net) (size : ℕ) (p : Partitioning) (i tried q c : ℕ) (lead : Lead) → IsLead n size p i lead → lead.loss ≤ tried → lead.place ≤ q → q < c → LeadsOrLoses n p i lead.place tried c → Leads n p i lead.place c
later_leads n size p i tried q c lead is low early later (inl h) = h
later_leads n size p i tried q c lead is low early later (inr h) = go (cases_lt (loss n p.of.items i lead.place) (loss n p.of.items i c))
  where
    go : (loss n p.of.items i lead.place < loss n p.of.items i c) ⊎ (loss n p.of.items i c ≤ loss n p.of.items i lead.place) → Leads n p i lead.place c
    go (inl k) = inl k
    go (inr k) = inr (omega (arith, k, h, low, is.value), inr (omega (arith, early, later)))

pub all_place : (n : Net) (size : ℕ) (p : Partitioning) (i : ℕ) (lead : Lead) → Tracks n p → i < length n.nodes → IsLead n size p i lead → ((c : ℕ) → c < p.count → LeadsOpen n size p i lead.place c) → lead.place ≡ place n size (held_parts p) i
all_place n size p i lead tracks l is all = place_is n size p i lead.place tracks l (record { reached = is.reached; best = all })

-- a node that is known to lose least where it stands is content
pub settled_content : (n : Net) (size : ℕ) (p : Partitioning) (i least : ℕ) (lead : Lead) → IsLead n size p i lead → lead.place ≡ start_of p i → ((q : ℕ) → least ≤ loss n p.of.items i q) → is_settled lead (start_of p i) least ≡ true → IsContent n p.of.items i
settled_content n size p i least lead is own low settled = λ q. go q (or_cases (ltb lead.loss least) (eqb lead.loss least && eqb lead.place (start_of p i)) settled)
  where
    here : lead.loss ≡ loss n p.of.items i (start_of p i)
    here = is.value ∙ ap (loss n p.of.items i) own

    go : (q : ℕ) → (ltb lead.loss least ≡ true) ⊎ ((eqb lead.loss least && eqb lead.place (start_of p i)) ≡ true) → loss n p.of.items i (start_of p i) ≤ loss n p.of.items i q
    go q (inl h) = omega (arith, ltb-true lead.loss least h, here, low q)
    go q (inr h) = omega (arith, eqb-true lead.loss least (and_parts (eqb lead.loss least) (eqb lead.place (start_of p i)) h).0, here, low q)

-- a content node goes nowhere
pub content_stays : (n : Net) (size : ℕ) (p : Partitioning) (i : ℕ) → Tracks n p → i < length n.nodes → IsContent n p.of.items i → place n size (held_parts p) i ≡ start_of p i
content_stays n size p i tracks l content =
    sym (place_is n size p i (start_of p i) tracks l (record { reached = inl refl; best = λ c h room. at c (cases_lt (loss n p.of.items i (start_of p i)) (loss n p.of.items i c)) }))
  where
    at : (c : ℕ) → (loss n p.of.items i (start_of p i) < loss n p.of.items i c) ⊎ (loss n p.of.items i c ≤ loss n p.of.items i (start_of p i)) → Leads n p i (start_of p i) c
    at c (inl h) = inl h
    at c (inr h) = inr (omega (arith, h, content c), inl refl)
