-- What the search cuts where registers read themselves is the cut at registers.
use Rattle.std.proofs.Common.{◌≡◌, ◌≢◌, ℕ, ◌<◌, ◌≤◌, ◌⊎◌, Bool, true, false, List, [], length, get_or, map, refl, sym, ◌∙◌, ap, subst, inl, inr, arith}
use Rattle.std.specs.List.{range_with_len}
use Rattle.std.proofs.lemmas.Bool.{cases_eq, cases_lt}
use Rattle.std.proofs.lemmas.Bool.Decides.{nat_tests}
use Rattle.std.proofs.lemmas.List.{get_or-map, get_or_past, length-map}
use Rattle.std.proofs.lemmas.List.FromFn.{get_or-map-range_with_len, length-map-range_with_len}
use Rattle.tmr_base.specs.Parts.{PlainParts}
use Rattle.flat_net.specs.Net.{Net, IsValid}
use Rattle.graph.specs.Rows.{row, Stands}
use Rattle.graph.specs.Lists.{Leads, alone, longer}
use Rattle.graph.specs.Search.{Kept, IsSearched}
use Rattle.graph.proofs.Places.{leads_map}
use Rattle.graph.proofs.Decisions.{no_absurd}
use Rattle.graph.proofs.Orders.{open_ended}
use Rattle.feedback_cut.specs.Inner.{ReadsInside, inner_rows}
use Rattle.feedback_cut.specs.Registers.{is_register_at}
use Rattle.feedback_cut.specs.Components.{ReadsNode, PlainGroups, AreComponents, AreJoined}
use Rattle.feedback_cut.specs.Cut.{is_cut, ReadsUncut, LeadsUncut, ClosesRegister, CutsRegisters, OrdersUncut}
use Rattle.feedback_cut.specs.Private.SelfReads.{self_read, self_row, self_rows}
use Rattle.feedback_cut.proofs.InnerLaws.{inner_long, inner_pins, read_from, read_to}
use Rattle.feedback_cut.proofs.CutLaws.{cut_within}
use Rattle.feedback_cut.proofs.TableLoops.{Passes, no_loop}

-- a register that reads its own component
pub record ReadsSelf (n : Net) (of : List ℕ) (y x : ℕ) : Type 0 where
  pub node : x < length of
  pub register : is_register_at n y ≡ true
  pub same : get_or of x 0 ≡ get_or of y 0

module _ (n : Net) (of : List ℕ) where
  self_there : (y x : ℕ) → ReadsSelf n of y x → self_read n of y x ≡ y
  unfolding self_read
  self_there y x r = let a = r.node in let b = r.register in let c = r.same in grind (arith, nat_tests)

  self_past : (y x : ℕ) → length of ≤ x → self_read n of y x ≡ x
  unfolding self_read
  self_past y x l = grind (arith, nat_tests)

  self_table : (y x : ℕ) → is_register_at n y ≡ false → self_read n of y x ≡ x
  unfolding self_read
  self_table y x e = grind (arith, nat_tests)

  self_apart : (y x : ℕ) → get_or of x 0 ≢ get_or of y 0 → self_read n of y x ≡ x
  unfolding self_read
  self_apart y x ne = grind (arith, nat_tests)

  -- either that, and it reads itself there, or it reads what it did
  self_cases : (y x : ℕ) → (ReadsSelf n of y x × (self_read n of y x ≡ y)) ⊎ ((ReadsSelf n of y x → ⊥) × (self_read n of y x ≡ x))
  self_cases y x = go (cases_lt x (length of)) (is_register_at n y) refl (cases_eq (get_or of x 0) (get_or of y 0))
    where
      go : (x < length of) ⊎ (length of ≤ x) → (b : Bool) → is_register_at n y ≡ b → (get_or of x 0 ≡ get_or of y 0) ⊎ (get_or of x 0 ≡ get_or of y 0 → ⊥) → (ReadsSelf n of y x × (self_read n of y x ≡ y)) ⊎ ((ReadsSelf n of y x → ⊥) × (self_read n of y x ≡ x))
      go (inr l) b e c = inr (λ r. absurd (omega (arith, l, r.node)), self_past y x l)
      go (inl l) false e c = inr (λ r. absurd (no_absurd (sym (sym e ∙ r.register))), self_table y x e)
      go (inl l) true e (inr ne) = inr (λ r. ne r.same, self_apart y x ne)
      go (inl l) true e (inl s) = let r : ReadsSelf n of y x = record { node = l; register = e; same = s } in inl (r, self_there y x r)

module _ (n : Net) (of : List ℕ) (rows : List (List ℕ)) where
  pub self_long : length (self_rows n of rows) ≡ length rows
  self_long = length-map-range_with_len (self_row n of rows) 0 (length rows)

  self_at : (y : ℕ) → y < length rows → row (self_rows n of rows) y ≡ self_row n of rows y
  self_at y l = get_or-map-range_with_len (self_row n of rows) 0 (length rows) y y [] l (omega arith)

  self_places : (y : ℕ) → length (row (self_rows n of rows) y) ≡ length (row rows y)
  self_places y = go (cases_lt y (length rows))
    where
      go : (y < length rows) ⊎ (length rows ≤ y) → length (row (self_rows n of rows) y) ≡ length (row rows y)
      go (inl l) = ap length (self_at y l) ∙ length-map (row rows y) (self_read n of y)
      go (inr l) = ap length (get_or_past (self_rows n of rows) y [] (omega (arith, self_long, l))) ∙ sym (ap length (get_or_past rows y [] l))

  self_place : (y j : ℕ) → y < length rows → j < length (row rows y) → get_or (row (self_rows n of rows) y) j 0 ≡ self_read n of y (get_or (row rows y) j 0)
  self_place y j l m = ap (λ r. get_or r j 0) (self_at y l) ∙ get_or-map (self_read n of y) (row rows y) j 0 0 m

  -- one of the vertices, where a row has something
  row_vertex : (y j : ℕ) → j < length (row rows y) → y < length rows
  row_vertex y j l = go (cases_lt y (length rows))
    where
      go : (y < length rows) ⊎ (length rows ≤ y) → y < length rows
      go (inl m) = m
      go (inr m) = absurd (let none : length (row rows y) ≡ 0 = ap length (get_or_past rows y [] m) in omega arith)

module _ (n : Net) (parts : PlainParts) (valid : IsValid n) (g : PlainGroups) (are : AreComponents n parts g) (order : List ℕ) (cut : List (List Bool)) (s : IsSearched (self_rows n g.of (inner_rows n parts)) order cut) where
  abbrev rows : List (List ℕ)
  rows = inner_rows n parts

  abbrev selves : List (List ℕ)
  selves = self_rows n g.of (inner_rows n parts)

  long : length selves ≡ length n.nodes
  long = self_long n g.of rows ∙ inner_long n parts

  places : (y : ℕ) → length (row cut y) ≡ length (row rows y)
  places y = s.reads y ∙ self_places n g.of rows y

  -- nothing reads itself uncut
  no_self : (y : ℕ) → Kept selves cut y y → ⊥
  no_self y k = go (s.complete y k.vertex)
    where
      go : Stands order y → ⊥
      go st = sooner (s.after st.at y st.below (subst (Kept selves cut y) (sym st.is) k))
        where
          sooner : (j : ℕ) × (j < st.at) × (get_or order j 0 ≡ y) → ⊥
          sooner (j, l, e) = s.once.apart j st.at l st.below (e ∙ sym st.is)

  -- a pin of a register on a loop reads its component
  reads_self : (y j x : ℕ) → is_register_at n y ≡ true → ReadsInside n parts y j x → Leads (ReadsNode n parts) y x → ReadsSelf n g.of y x
  reads_self y j x register reads leads =
      let r = read_to n parts valid y j x reads in
      let vertex : x < length n.nodes = omega (arith, r.3, inner_long n parts) in
      let next : ReadsNode n parts x y = record { pin = j; reads = reads } in
      let joined : AreJoined n parts x y = record { there = longer x x y (alone x) next; back = leads } in
      record { node = omega (arith, are.nodes, vertex); register = register; same = (are.shared x y vertex r.0).1 joined }

  -- and a register that reads its component is on a loop there
  closes_self : (y j x : ℕ) → ReadsInside n parts y j x → ReadsSelf n g.of y x → ClosesRegister n parts y j
  closes_self y j x reads r =
      let t = read_to n parts valid y j x reads in
      let joined : AreJoined n parts x y = (are.shared x y (omega (arith, t.3, inner_long n parts)) t.0).0 r.same in
      record { register = r.register; read = x; reads = reads; leads = joined.back }

  -- what such a place has
  at_place : (y j x : ℕ) → ReadsInside n parts y j x → (j < length (row cut y)) × (get_or (row selves y) j 0 ≡ self_read n g.of y x) × (y < length selves) × (x < length selves)
  at_place y j x reads =
      let t = read_to n parts valid y j x reads in
      (omega (arith, places y, t.1), self_place n g.of rows y j (omega (arith, inner_long n parts, t.0)) t.1 ∙ ap (self_read n g.of y) t.2, omega (arith, long, t.0), omega (arith, long, inner_long n parts, t.3))

  cut_of_closes : (y j : ℕ) → ClosesRegister n parts y j → is_cut cut y j ≡ true
  cut_of_closes y j c = go (is_cut cut y j) refl
    where
      go : (b : Bool) → is_cut cut y j ≡ b → is_cut cut y j ≡ true
      go true e = e
      go false e =
          let p = at_place y j c.read c.reads in
          let self : self_read n g.of y c.read ≡ y = self_there n g.of y c.read (reads_self y j c.read c.register c.reads c.leads) in
          absurd (no_self y (record { place = j; within = p.0; uncut = e; is = p.1 ∙ self; vertex = p.2 }))

  kept_of_uncut : (x y : ℕ) → ReadsUncut n parts cut x y → Kept selves cut x y
  kept_of_uncut x y u = go (self_cases n g.of y x)
    where
      p : (u.pin < length (row cut y)) × (get_or (row selves y) u.pin 0 ≡ self_read n g.of y x) × (y < length selves) × (x < length selves)
      p = at_place y u.pin x u.reads

      go : (ReadsSelf n g.of y x × (self_read n g.of y x ≡ y)) ⊎ ((ReadsSelf n g.of y x → ⊥) × (self_read n g.of y x ≡ x)) → Kept selves cut x y
      go (inl (r, e)) = absurd (no_self y (record { place = u.pin; within = p.0; uncut = u.unvoted; is = p.1 ∙ e; vertex = p.2 }))
      go (inr (r, e)) = record { place = u.pin; within = p.0; uncut = u.unvoted; is = p.1 ∙ e; vertex = p.3 }

  -- what a place names that is no self-read is read there
  abbrev IsOwn : ℕ → ℕ → Type 0
  IsOwn y j = (get_or (row selves y) j 0 ≡ y) × ClosesRegister n parts y j

  abbrev IsRead : ℕ → ℕ → Type 0
  IsRead y j = ReadsInside n parts y j (get_or (row selves y) j 0) × (ClosesRegister n parts y j → ⊥)

  named : (y j : ℕ) → j < length (row cut y) → get_or (row selves y) j 0 < length selves → IsOwn y j ⊎ IsRead y j
  named y j l vertex = go (self_cases n g.of y (get_or (row rows y) j 0))
    where
      here : j < length (row rows y)
      here = omega (arith, places y, l)

      node : y < length rows
      node = row_vertex n g.of rows y j here

      is : get_or (row selves y) j 0 ≡ self_read n g.of y (get_or (row rows y) j 0)
      is = self_place n g.of rows y j node here

      go : (ReadsSelf n g.of y (get_or (row rows y) j 0) × (self_read n g.of y (get_or (row rows y) j 0) ≡ y)) ⊎ ((ReadsSelf n g.of y (get_or (row rows y) j 0) → ⊥) × (self_read n g.of y (get_or (row rows y) j 0) ≡ get_or (row rows y) j 0)) → IsOwn y j ⊎ IsRead y j
      go (inl (r, e)) = inl (is ∙ e, closes_self y j (get_or (row rows y) j 0) (read_from n parts y j here (omega (arith, are.nodes, inner_long n parts, r.node))) r)
      go (inr (r, e)) = inr (subst (ReadsInside n parts y j) (sym (is ∙ e)) reads, λ c. r (self c))
        where
          reads : ReadsInside n parts y j (get_or (row rows y) j 0)
          reads = read_from n parts y j here (omega (arith, is ∙ e, vertex, long, inner_long n parts))

          self : ClosesRegister n parts y j → ReadsSelf n g.of y (get_or (row rows y) j 0)
          self c =
              let t = read_to n parts valid y j c.read c.reads in
              subst (ReadsSelf n g.of y) (sym t.2) (reads_self y j c.read c.register c.reads c.leads)

  pass_of_kept : (x y : ℕ) → Kept selves cut x y → Passes n parts x y
  pass_of_kept x y k = go (named y k.place k.within (subst (λ z. z < length selves) (sym k.is) k.vertex))
    where
      go : IsOwn y k.place ⊎ IsRead y k.place → Passes n parts x y
      go (inl own) = absurd (no_absurd (sym (cut_of_closes y k.place own.1) ∙ k.uncut))
      go (inr read) = record { pin = k.place; reads = subst (ReadsInside n parts y k.place) k.is read.0; passes = read.1 }

  closes_of_cut : (y j : ℕ) → is_cut cut y j ≡ true → ClosesRegister n parts y j
  closes_of_cut y j t = go (named y j (cut_within cut y j t) (s.inside y j t))
    where
      go : IsOwn y j ⊎ IsRead y j → ClosesRegister n parts y j
      go (inl own) = own.1
      go (inr read) =
          absurd (no_loop n parts valid y (get_or (row selves y) j 0) (leads_map (Kept selves cut) (Passes n parts) pass_of_kept y (get_or (row selves y) j 0) (s.needed y j t))
          (record { pin = j; reads = read.0; passes = read.1 }))

  loops : (x y : ℕ) → LeadsUncut n parts cut x y → ReadsUncut n parts cut y x → ⊥
  loops x y l closes =
      let t = read_to n parts valid x closes.pin y closes.reads in
      open_ended selves order cut s x y (omega (arith, long, t.0)) (leads_map (ReadsUncut n parts cut) (Kept selves cut) kept_of_uncut x y l) (kept_of_uncut y x closes)

  inside : (y j : ℕ) → is_cut cut y j ≡ true → (x : ℕ) × ReadsInside n parts y j x
  inside y j t = let c = closes_of_cut y j t in (c.read, c.reads)

  pub cuts_registers : CutsRegisters n parts cut
  cuts_registers = record {
    loops = record {
      nodes = s.vertices ∙ long;
      pins = λ y l. places y ∙ inner_pins n parts y l;
      inside = inside;
      open_ended = loops;
    };
    exact = λ y j. (closes_of_cut y j, cut_of_closes y j);
  }

  pub orders_rest : OrdersUncut n parts cut order
  orders_rest = record {
    within = λ k l. omega (arith, long, s.within k l);
    complete = λ x l. s.complete x (omega (arith, long, l));
    once = s.once;
    few = omega (arith, long, s.few);
    after = λ k x l u. s.after k x l (kept_of_uncut x (get_or order k 0) u);
  }
