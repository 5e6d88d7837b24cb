-- What the search cuts is a cut of the design.
use Rattle.std.proofs.Common.{◌≡◌, ℕ, ◌<◌, ◌≤◌, ◌⊎◌, Bool, true, false, List, length, get_or, sym, ◌∙◌, subst, inl, inr, arith}
use Rattle.std.proofs.lemmas.Bool.{cases_lt}
use Rattle.std.proofs.lemmas.List.{get_or_past}
use Rattle.tmr_base.specs.Parts.{PlainParts}
use Rattle.flat_net.specs.Net.{Net, IsValid}
use Rattle.graph.specs.Rows.{row}
use Rattle.feedback_cut.specs.Inner.{ReadsInside, inner_rows}
use Rattle.feedback_cut.specs.Cut.{is_cut, ReadsUncut, LeadsUncut, CutMeets, OrdersUncut}
use Rattle.graph.specs.Search.{Kept, IsSearched}
use Rattle.graph.proofs.Places.{leads_map}
use Rattle.graph.proofs.Decisions.{no_absurd}
use Rattle.feedback_cut.proofs.InnerLaws.{inner_long, inner_pins, read_from, read_to}
use Rattle.graph.proofs.Orders.{open_ended}

-- what is cut is decided
pub cut_within : (cut : List (List Bool)) (y j : ℕ) → is_cut cut y j ≡ true → j < length (row cut y)
cut_within cut y j t = go (cases_lt j (length (row cut y)))
  where
    go : (j < length (row cut y)) ⊎ (length (row cut y) ≤ j) → j < length (row cut y)
    go (inl l) = l
    go (inr l) = absurd (no_absurd (sym t ∙ get_or_past (row cut y) j false l))

module _ (n : Net) (parts : PlainParts) (cut : List (List Bool)) (valid : IsValid n) (reads : (y : ℕ) → length (row cut y) ≡ length (row (inner_rows n parts) y)) where
  pub uncut_of_kept : (x y : ℕ) → Kept (inner_rows n parts) cut x y → ReadsUncut n parts cut x y
  uncut_of_kept x y k = record {
    pin = k.place;
    reads = subst (ReadsInside n parts y k.place) k.is (read_from n parts y k.place (omega (arith, reads y, k.within)) (subst (λ z. z < length (inner_rows n parts)) (sym k.is) k.vertex));
    unvoted = k.uncut;
  }

  pub kept_of_uncut : (x y : ℕ) → ReadsUncut n parts cut x y → Kept (inner_rows n parts) cut x y
  kept_of_uncut x y u =
      let r = read_to n parts valid y u.pin x u.reads in
      record { place = u.pin; within = omega (arith, reads y, r.1); uncut = u.unvoted; is = r.2; vertex = r.3 }

-- the rows of the search are a cut
pub cut_meets : (n : Net) (parts : PlainParts) (order : List ℕ) (cut : List (List Bool)) → IsValid n → IsSearched (inner_rows n parts) order cut → CutMeets n parts cut
cut_meets n parts order cut valid s = record {
  loops = record {
    nodes = s.vertices ∙ inner_long n parts;
    pins = λ y l. s.reads y ∙ inner_pins n parts y l;
    inside = λ y j t. (get_or (row (inner_rows n parts) y) j 0, read_from n parts y j (omega (arith, s.reads y, cut_within cut y j t)) (s.inside y j t));
    open_ended = λ x y l closes. loops x y l (kept_of_uncut n parts cut valid s.reads y x closes) closes;
  };
  needed = λ y j x t r. needed y j x t (read_to n parts valid y j x r).2;
}
  where
    loops : (x y : ℕ) → LeadsUncut n parts cut x y → Kept (inner_rows n parts) cut y x → ReadsUncut n parts cut y x → ⊥
    loops x y l k closes =
        let r = read_to n parts valid x closes.pin y closes.reads in
        open_ended (inner_rows n parts) order cut s x y (omega (arith, inner_long n parts, r.0)) (leads_map (ReadsUncut n parts cut) (Kept (inner_rows n parts) cut) (kept_of_uncut n parts cut valid s.reads) x y l) k

    needed : (y j x : ℕ) → is_cut cut y j ≡ true → get_or (row (inner_rows n parts) y) j 0 ≡ x → LeadsUncut n parts cut y x
    needed y j x t e = subst (LeadsUncut n parts cut y) e (leads_map (Kept (inner_rows n parts) cut) (ReadsUncut n parts cut) (uncut_of_kept n parts cut valid s.reads) y (get_or (row (inner_rows n parts) y) j 0) (s.needed y j t))

-- and their order is one of all nodes
pub orders_uncut : (n : Net) (parts : PlainParts) (order : List ℕ) (cut : List (List Bool)) → IsValid n → IsSearched (inner_rows n parts) order cut → OrdersUncut n parts cut order
orders_uncut n parts order cut valid s = record {
  within = λ k l. omega (arith, inner_long n parts, s.within k l);
  complete = λ x l. s.complete x (omega (arith, inner_long n parts, l));
  once = s.once;
  few = omega (arith, inner_long n parts, s.few);
  after = λ k x l u. s.after k x l (kept_of_uncut n parts cut valid s.reads x (get_or order k 0) u);
}
