-- Start values at their nodes.
use Rattle.std.proofs.Common.{◌≡◌, ℕ, zero, suc, ◌+◌, ◌-◌, ◌<◌, ◌≤◌, ◌⊎◌, inl, inr, Bool, true, false, cond, if◌then◌else◌, List, [], ◌∷◌, ◌++◌, length, map, take, drop, get_or, slice_get, Option, Some, None, refl, sym, ◌∙◌, ap, subst, append_assoc, arith}
use Rattle.std.specs.Prelude.{All, nat_eq, slice_index_or}
use Rattle.std.specs.Option.{unwrap_or}
use Rattle.std.proofs.lemmas.Bool.{eq-eqb, ne_eqb}
use Rattle.std.proofs.lemmas.List.{drop_more, map-append}
use Rattle.std.proofs.lemmas.List.Elements.{All-append}
use Rattle.std.proofs.lemmas.Option.{slice_get_within, slice_get-get_or, get_or_from_slice_get}
use Rattle.std.proofs.Math.Seq.{take-suc}
use Rattle.tmr_base.specs.declared.copies.CopyNo.{CopyNo}
use Rattle.tmr_base.specs.declared.ids.NetId.{NetId}
use Rattle.flat_net.specs.Net.{Net, net_count}
use Rattle.flat_net.specs.Free.{node_bit}
use Rattle.flat_net.proofs.Slots.{slot_at, slot_below}
use Rattle.net_meaning.specs.Meaning.{start_at}
use Rattle.certificate.specs.declared.role.Role.{Role}
use Rattle.certificate.specs.declared.role.Role.TheVariants.{Copy}
use Rattle.certificate.specs.Cert.{PlainCert, RoleIsInRange, role_of}
use Rattle.certificate.specs.Starts.{role_start}
use Rattle.schedule_replay.specs.Starts.{forced_to, placed_starts, or_else}
use Rattle.schedule_replay.proofs.Taking.{or_none, forced_to-append}

-- the bit of node i
pub bit_there : (start : ℕ) (bits : List Bool) (x i : ℕ) (d : Bool) → x ≡ start + i → i < length bits → node_bit start bits x ≡ get_or bits i d
bit_there start bits x i d e l =
    let at : x - start ≡ i = omega arith in
    ap (λ (o : Option Bool). unwrap_or o false) (slot_at start bits x (omega arith) ∙ (ap (slice_get bits) at ∙ slice_get-get_or bits i d l))

-- the start value of a copy
pub role_value : (k : PlainCert) (w : List Bool) (role : Role) (x : NetId) (c : CopyNo) (inputs : ℕ) → role ≡ Copy x c → inputs ≡ k.original_inputs → RoleIsInRange k role → length w ≡ length k.part → slice_index_or w (x.0 - inputs) false ≡ role_start k w role
role_value k w role x c inputs e same range long =
    let r : RoleIsInRange k (Copy x c) = subst (λ (q : Role). RoleIsInRange k q) e range in
    let low = r.0 in
    let high = r.1 in
    sym (bit_there k.original_inputs w x.0 (x.0 - inputs) false (omega arith) (omega arith)) ∙ ap (role_start k w) (sym e)

head_marked : (marks starts : List Bool) (j : ℕ) → placed_starts (true ∷ marks) (drop j starts) ≡ slice_index_or starts j false ∷ placed_starts marks (drop (suc j) starts)
head_marked marks [] zero = refl
head_marked marks [] (suc j) = refl
head_marked marks (b ∷ bs) zero = refl
head_marked marks (b ∷ bs) (suc j) = head_marked marks bs j

module _ (marks starts : List Bool) (i j : ℕ) (l : i < length marks) (vs new all : List Bool) (so_far : vs ++ placed_starts (drop i marks) (drop j starts) ≡ all) where
  at_mark : (b : Bool) → get_or marks i false ≡ b → placed_starts (drop i marks) (drop j starts) ≡ placed_starts (b ∷ drop (i + 1) marks) (drop j starts)
  at_mark b e = ap (λ (ms : List Bool). placed_starts ms (drop j starts)) (drop_more marks i false l ∙ ap (λ (m : Bool). m ∷ drop (i + 1) marks) e)

  joined : (b : Bool) (rest : List Bool) → new ≡ vs ++ b ∷ [] → placed_starts (drop i marks) (drop j starts) ≡ b ∷ rest → new ++ rest ≡ all
  joined b rest e is = ap (λ (xs : List Bool). xs ++ rest) e ∙ (append_assoc vs (b ∷ []) rest ∙ (ap (λ (xs : List Bool). vs ++ xs) (sym is) ∙ so_far))

  pub placed_marked : get_or marks i false ≡ true → new ≡ vs ++ slice_index_or starts j false ∷ [] → new ++ placed_starts (drop (i + 1) marks) (drop (j + 1) starts) ≡ all
  placed_marked mark e =
      let next : suc j ≡ j + 1 = omega arith in
      joined (slice_index_or starts j false) (placed_starts (drop (i + 1) marks) (drop (j + 1) starts)) e
      (at_mark true mark ∙ (head_marked (drop (i + 1) marks) starts j ∙ ap (λ (k : ℕ). slice_index_or starts j false ∷ placed_starts (drop (i + 1) marks) (drop k starts)) next))

  pub placed_unmarked : get_or marks i false ≡ false → new ≡ vs ++ false ∷ [] → new ++ placed_starts (drop (i + 1) marks) (drop j starts) ≡ all
  placed_unmarked mark e = joined false (placed_starts (drop (i + 1) marks) (drop j starts)) e (at_mark false mark)

pub placed_more : (marks starts : List Bool) (i j next : ℕ) → i < length marks → (vs new all : List Bool) (b bit : Bool) → vs ++ placed_starts (drop i marks) (drop j starts) ≡ all
    → get_or marks i false ≡ b → bit ≡ (if b then slice_index_or starts j false else false) → next ≡ (if b then j + 1 else j) → new ≡ vs ++ bit ∷ [] → new ++ placed_starts (drop (i + 1) marks) (drop next starts) ≡ all
placed_more marks starts i j next l vs new all true bit so_far mark is_bit is_next pushed =
    subst (λ (m : ℕ). new ++ placed_starts (drop (i + 1) marks) (drop m starts) ≡ all) (sym is_next) (placed_marked marks starts i j l vs new all so_far mark (pushed ∙ ap (λ (c : Bool). vs ++ c ∷ []) is_bit))
placed_more marks starts i j next l vs new all false bit so_far mark is_bit is_next pushed =
    subst (λ (m : ℕ). new ++ placed_starts (drop (i + 1) marks) (drop m starts) ≡ all) (sym is_next) (placed_unmarked marks starts i j l vs new all so_far mark (pushed ∙ ap (λ (c : Bool). vs ++ c ∷ []) is_bit))

pub next_few : (b : Bool) (next i j : ℕ) → next ≤ i → j ≡ (if b then next + 1 else next) → j ≤ i + 1
next_few true next i j l e = omega arith
next_few false next i j l e = omega arith

-- one role more
pub roles_more : (k : PlainCert) (w : List Bool) (i x : ℕ) (r : Role) (b : Bool) (old new : List Bool) → x ≡ k.hardened_inputs + i → role_of k x ≡ Some r → b ≡ role_start k w r → old ≡ map (role_start k w) (take i k.roles) → new ≡ old ++ b ∷ [] → new ≡ map (role_start k w) (take (i + 1) k.roles)
roles_more k w i x r b old new e is value before pushed =
    let at : x - k.hardened_inputs ≡ i = omega arith in
    let there : slice_get k.roles i ≡ Some r = ap (slice_get k.roles) (sym at) ∙ (sym (slot_at k.hardened_inputs k.roles x (omega arith)) ∙ is) in
    let within : i < length k.roles = slice_get_within k.roles i r there in
    let next : i + 1 ≡ suc i = omega arith in
    let more : take (i + 1) k.roles ≡ take i k.roles ++ r ∷ [] = ap (λ (m : ℕ). take m k.roles) next ∙ (take-suc k.roles i r within ∙ ap (λ (v : Role). take i k.roles ++ v ∷ []) (get_or_from_slice_get k.roles i r r there)) in
    pushed ∙ (ap (λ (bs : List Bool). bs ++ b ∷ []) before ∙ (ap (λ (c : Bool). map (role_start k w) (take i k.roles) ++ c ∷ []) value
    ∙ (sym (map-append (role_start k w) (take i k.roles) (r ∷ [])) ∙ ap (map (role_start k w)) (sym more))))

-- the marked registers below some net, with their values
pub record ListsStarts (n : Net) (free values : List Bool) (bound : ℕ) (starts : List (NetId × Bool)) : Type 0 where
  pub before : (x : ℕ) → x < bound → forced_to starts x ≡ start_at n free values x
  pub after : (x : ℕ) → bound ≤ x → forced_to starts x ≡ None
  pub range : All (λ f. f.0.0 < net_count n) starts

one : {A : Type 0} (P : A → Type 0) (x : A) → P x → All P (x ∷ [])
one P x p zero d h = p
one P x p (suc i) d h = absurd (omega arith)

unmarked_at : (n : Net) (free values : List Bool) (x : ℕ) → node_bit (length n.inputs) free x ≡ false → start_at n free values x ≡ None
unmarked_at n free values x e = ap (λ (b : Bool). if b then Some (node_bit (length n.inputs) values x) else None) e

marked_at : (n : Net) (free values : List Bool) (x : ℕ) → node_bit (length n.inputs) free x ≡ true → start_at n free values x ≡ Some (node_bit (length n.inputs) values x)
marked_at n free values x e = ap (λ (b : Bool). if b then Some (node_bit (length n.inputs) values x) else None) e

pub no_starts_yet : (n : Net) (free values : List Bool) (bound : ℕ) (starts : List (NetId × Bool)) → starts ≡ [] → bound ≡ length n.inputs → ListsStarts n free values bound starts
no_starts_yet n free values bound starts e b = record {
  before = λ x l. ap (λ (fs : List (NetId × Bool)). forced_to fs x) e ∙ sym (unmarked_at n free values x (ap (λ (o : Option Bool). unwrap_or o false) (slot_below (length n.inputs) free x (omega arith))));
  after = λ x l. ap (λ (fs : List (NetId × Bool)). forced_to fs x) e;
  range = subst (λ (fs : List (NetId × Bool)). All (λ f. f.0.0 < net_count n) fs) (sym e) (λ i d l. absurd (omega arith));
}

module _ (n : Net) (free values : List Bool) (x : ℕ) (old : List (NetId × Bool)) (is : ListsStarts n free values x old) where
  ways : (a b : ℕ) → (a < b) ⊎ ((a ≡ b) ⊎ (b < a))
  ways a b = grind arith

  pub starts_same : node_bit (length n.inputs) free x ≡ false → ListsStarts n free values (x + 1) old
  starts_same mark = record {
    before = λ y l. go y l (ways y x);
    after = λ y l. is.after y (omega arith);
    range = is.range;
  }
    where
      go : (y : ℕ) → y < x + 1 → (y < x) ⊎ ((y ≡ x) ⊎ (x < y)) → forced_to old y ≡ start_at n free values y
      go y l (inl m) = is.before y m
      go y l (inr (inl e)) = is.after y (omega arith) ∙ sym (unmarked_at n free values y (subst (λ (z : ℕ). node_bit (length n.inputs) free z ≡ false) (sym e) mark))
      go y l (inr (inr g)) = absurd (omega arith)

  pub starts_more : (new : List (NetId × Bool)) (f : NetId × Bool) → new ≡ old ++ f ∷ [] → f.0.0 ≡ x → x < net_count n → f.1 ≡ node_bit (length n.inputs) values x → node_bit (length n.inputs) free x ≡ true → ListsStarts n free values (x + 1) new
  starts_more new f pushed at within value mark = record {
    before = λ y l. go y l (ways y x);
    after = λ y l. forced y ∙ (ap (λ (o : Option Bool). or_else o (cond (nat_eq f.0.0 y) (Some f.1) None)) (is.after y (omega arith)) ∙ ap (λ (b : Bool). cond b (Some f.1) None) (ne_eqb f.0.0 y (λ e. absurd (omega arith))));
    range = subst (λ (fs : List (NetId × Bool)). All (λ f. f.0.0 < net_count n) fs) (sym pushed) (All-append (λ f. f.0.0 < net_count n) old (f ∷ []) is.range (λ i d m. one (λ f. f.0.0 < net_count n) f (omega arith) i d m));
  }
    where
      forced : (y : ℕ) → forced_to new y ≡ or_else (forced_to old y) (cond (nat_eq f.0.0 y) (Some f.1) None)
      forced y = ap (λ (fs : List (NetId × Bool)). forced_to fs y) pushed ∙ forced_to-append old (f ∷ []) y

      go : (y : ℕ) → y < x + 1 → (y < x) ⊎ ((y ≡ x) ⊎ (x < y)) → forced_to new y ≡ start_at n free values y
      go y l (inl m) = forced y ∙ (ap (λ (b : Bool). or_else (forced_to old y) (cond b (Some f.1) None)) (ne_eqb f.0.0 y (λ e. absurd (omega arith))) ∙ (or_none (forced_to old y) ∙ is.before y m))
      go y l (inr (inl e)) =
          let same : f.0.0 ≡ y = at ∙ sym e in
          forced y ∙ (ap (λ (o : Option Bool). or_else o (cond (nat_eq f.0.0 y) (Some f.1) None)) (is.after y (omega arith))
          ∙ (ap (λ (b : Bool). cond b (Some f.1) None) (eq-eqb f.0.0 y same)
          ∙ (ap Some value ∙ subst (λ (z : ℕ). Some (node_bit (length n.inputs) values x) ≡ start_at n free values z) (sym e) (sym (marked_at n free values x mark)))))
      go y l (inr (inr g)) = absurd (omega arith)

-- one net more, marked or not
pub starts_step : (n : Net) (free values : List Bool) (x next : ℕ) (old new : List (NetId × Bool)) (b : Bool) (f : NetId × Bool) → ListsStarts n free values x old → next ≡ x + 1
    → b ≡ node_bit (length n.inputs) free x → new ≡ (if b then old ++ f ∷ [] else old) → f.0.0 ≡ x → x < net_count n → f.1 ≡ node_bit (length n.inputs) values x → ListsStarts n free values next new
starts_step n free values x next old new true f is after mark pushed at within value = subst (λ (m : ℕ). ListsStarts n free values m new) (sym after) (starts_more n free values x old is new f pushed at within value (sym mark))
starts_step n free values x next old new false f is after mark pushed at within value =
    subst (λ (m : ℕ). ListsStarts n free values m new) (sym after) (subst (λ (fs : List (NetId × Bool)). ListsStarts n free values (x + 1) fs) (sym pushed) (starts_same n free values x old is (sym mark)))
