-- The numbers of the search are the components of the design.
use Rattle.std.proofs.Common.{◌≡◌, ℕ, ◌<◌, ◌≤◌, Bool, true, false, List, length, get_or, sym, ◌∙◌, subst, arith}
use Rattle.tmr_base.specs.Parts.{PlainParts}
use Rattle.flat_net.specs.Net.{Net, IsValid}
use Rattle.graph.specs.Rows.{Follows}
use Rattle.graph.specs.Lists.{Leads, alone, longer}
use Rattle.feedback_cut.specs.Inner.{ReadsInside, inner_rows}
use Rattle.feedback_cut.specs.Private.Numbering.{IsNumbered}
use Rattle.feedback_cut.specs.Private.Loops.{ReadsOwn, AreLooped}
use Rattle.feedback_cut.specs.Components.{ReadsNode, ReadsWithin, AreComponents}
use Rattle.graph.proofs.Places.{leads_map, reader_within}
use Rattle.feedback_cut.proofs.InnerLaws.{inner_long, read_from, read_to}

-- numbers rise along lists of reads
rises : (rows : List (List ℕ)) (numbers : List ℕ) (groups : ℕ) → IsNumbered rows numbers groups → (x y : ℕ) → Leads (Follows rows) x y → get_or numbers x 0 ≤ get_or numbers y 0
rises rows numbers groups n _ _ (alone x) = omega arith
rises rows numbers groups n _ _ (longer x y z l next) = omega (arith, rises rows numbers groups n x y l, n.rising y z next.vertex (reader_within rows y z next) next)

module _ (n : Net) (parts : PlainParts) (valid : IsValid n) where
  node_of_follows : (x y : ℕ) → Follows (inner_rows n parts) x y → ReadsNode n parts x y
  node_of_follows x y f = record {
    pin = f.place;
    reads = subst (ReadsInside n parts y f.place) f.is (read_from n parts y f.place f.within (subst (λ z. z < length (inner_rows n parts)) (sym f.is) f.vertex));
  }

  follows_of_node : (x y : ℕ) → ReadsNode n parts x y → Follows (inner_rows n parts) x y
  follows_of_node x y u = let r = read_to n parts valid y u.pin x u.reads in record { place = u.pin; within = r.1; is = r.2; vertex = r.3 }

  pub are_components : (numbers : List ℕ) (groups count : ℕ) (loops : List Bool) → count ≡ length n.nodes → IsNumbered (inner_rows n parts) numbers groups → AreLooped (inner_rows n parts) numbers groups count loops → AreComponents n parts (record { of = numbers; loops = loops })
  are_components numbers groups count loops c m a = record {
    nodes = m.long ∙ inner_long n parts;
    below = λ x l. omega (arith, a.long, m.below x (vertex x l));
    used = λ k h. used k (m.used k (omega (arith, a.long, h)));
    shared = λ x y l o. (λ e. record { there = leads x y (m.joined x y (vertex x l) (vertex y o) e); back = leads y x (m.joined y x (vertex y o) (vertex x l) (sym e)) }, λ j. equal (get_or numbers x 0) (get_or numbers y 0) (rises (inner_rows n parts) numbers groups m x y (follows x y j.there)) (rises (inner_rows n parts) numbers groups m y x (follows y x j.back)));
    loops = λ k h. (λ t. within k (a.only k t), λ w. has k w);
  }
    where
      vertex : (x : ℕ) → x < length n.nodes → x < length (inner_rows n parts)
      vertex x l = omega (arith, inner_long n parts, l)

      node : (x : ℕ) → x < length (inner_rows n parts) → x < length n.nodes
      node x l = omega (arith, inner_long n parts, l)

      equal : (j k : ℕ) → j ≤ k → k ≤ j → j ≡ k
      equal j k a b = omega arith

      used : (k : ℕ) → (x : ℕ) × (x < length (inner_rows n parts)) × (get_or numbers x 0 ≡ k) → (x : ℕ) × (x < length n.nodes) × (get_or numbers x 0 ≡ k)
      used k (x, l, e) = (x, node x l, e)

      leads : (x y : ℕ) → Leads (Follows (inner_rows n parts)) x y → Leads (ReadsNode n parts) x y
      leads = leads_map (Follows (inner_rows n parts)) (ReadsNode n parts) node_of_follows

      follows : (x y : ℕ) → Leads (ReadsNode n parts) x y → Leads (Follows (inner_rows n parts)) x y
      follows = leads_map (ReadsNode n parts) (Follows (inner_rows n parts)) follows_of_node

      within : (k : ℕ) → (y : ℕ) × (y < count) × (get_or numbers y 0 ≡ k) × ReadsOwn (inner_rows n parts) numbers y → ReadsWithin n parts (record { of = numbers; loops = loops }) k
      within k (y, l, e, own) = record { read = own.read; reader = y; reads = node_of_follows own.read y own.follows; read_in = own.same ∙ e; reader_in = e }

      has : (k : ℕ) → ReadsWithin n parts (record { of = numbers; loops = loops }) k → get_or loops k false ≡ true
      has k w =
          let f : Follows (inner_rows n parts) w.read w.reader = follows_of_node w.read w.reader w.reads in
          let own : ReadsOwn (inner_rows n parts) numbers w.reader = record { read = w.read; follows = f; same = w.read_in ∙ sym w.reader_in } in
          subst (λ g. get_or loops g false ≡ true) w.reader_in (a.all w.reader (omega (arith, c, node w.reader (reader_within (inner_rows n parts) w.read w.reader f))) own)
