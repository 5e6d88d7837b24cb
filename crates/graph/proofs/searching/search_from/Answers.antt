use Rattle.std.proofs.Common.{◌≡◌, ◌≢◌, ◌<◌, [], true, false, length, get_or, rules, refl, sym, ◌∙◌, ap, subst, inl}
use Rattle.graph.specs.Rows.{row, IsLast}
use Rattle.graph.specs.Search.{IsSearched}
use Rattle.graph.specs.declared.searching.Mark.TheVariants.{New, Open, Done}
use Rattle.graph.proofs.Places.{mark_at}
use Rattle.graph.proofs.Decisions.{no_absurd}
use Rattle.graph.proofs.Walking.{begins, starts, starts_less, skips, skips_less, opens, opens_less, passes, passes_less, finishes, finishes_less, ends, ends_uncut, end_open}
use Rattle.graph.proofs.Noting.{begins as none_noted, stays, keeps, cuts}
use Rattle.graph.proofs.searching.search_from.Goals as goal

pub moves-init : goal.moves-init
moves-init c =
    let e = c.in_ok-walk.ensures in
    record {
      walk = begins c.args.graph.now c.args.roots c.count.result _ _ _ _ c.count.ensures e.marks e.cut e.path e.order;
      room = e.room;
      noted = none_noted c.args.graph.now c.args.roots c.count.result _ _ e.cut (search rules);
    }

pub returns-then-root-roots-clause-searched : goal.returns-then-root-roots-clause-searched
returns-then-root-roots-clause-searched c =
    let none : c.moves.walk.path.items ≡ [] = rw c.deref.ensures.value at (c.in_default.ensures.none refl) in
    λ whole. subst (IsSearched c.args.graph.now c.moves.walk.order.items) (sym c.new.ensures) (ends c.args.graph.now c.args.roots c.moves.root _ _ _ _ c.moves.invariant.walk none (search rules) whole)

pub returns-then-root-roots-clause-order : goal.returns-then-root-roots-clause-order
returns-then-root-roots-clause-order c =
    let none : c.moves.walk.path.items ≡ [] = rw c.deref.ensures.value at (c.in_default.ensures.none refl) in
    λ empty. ends_uncut c.args.graph.now c.args.roots c.moves.root _ _ _ _ c.moves.invariant.walk none (search rules) c.requires (c.moves.invariant.noted.none empty)

pub returns-then-root-roots-clause-cycle : goal.returns-then-root-roots-clause-cycle
returns-then-root-roots-clause-cycle c = c.moves.invariant.noted.some

pub moves-smaller-in_ok-open-in-New : goal.moves-smaller-in_ok-open-in-New
moves-smaller-in_ok-open-in-New c =
    let new : mark_at c.moves.walk.marks.items c.moves.root ≡ New = search rules in
    let e = c.in_ok-open-in-New.ensures in
    starts_less c.args.graph.now c.args.roots c.moves.root _ _ _ _ c.moves.invariant.walk _ _ new e.marks (ap (λ d. d.rows) e.cut)

pub moves-preserved-in_ok-open-in-New : goal.moves-preserved-in_ok-open-in-New
moves-preserved-in_ok-open-in-New c =
    let none : c.moves.walk.path.items ≡ [] = rw c.deref.ensures.value at (c.in_default.ensures.none refl) in
    let new : mark_at c.moves.walk.marks.items c.moves.root ≡ New = search rules in
    let e = c.in_ok-open-in-New.ensures in
    record { walk = starts c.args.graph.now c.args.roots c.moves.root _ _ _ _ c.moves.invariant.walk _ _ _ _ none (search rules) new e.marks (ap (λ d. d.rows) e.cut) e.path e.order; room = ap (λ d. d.room) e.cut ∙ c.moves.invariant.room; noted = stays c.args.graph.now c.args.roots _ _ _ (ap (λ d. d.rows) e.cut) c.moves.invariant.noted }

pub moves-smaller-in_default-mark_of : goal.moves-smaller-in_default-mark_of
moves-smaller-in_default-mark_of c =
    let more : c.moves.root ≢ c.args.roots = search rules in
    skips_less c.args.graph.now c.args.roots c.moves.root _ _ _ _ c.moves.invariant.walk more

pub moves-preserved-in_default-mark_of : goal.moves-preserved-in_default-mark_of
moves-preserved-in_default-mark_of c =
    let none : c.moves.walk.path.items ≡ [] = rw c.deref.ensures.value at (c.in_default.ensures.none refl) in
    let more : c.moves.root ≢ c.args.roots = search rules in
    let old : mark_at c.moves.walk.marks.items c.moves.root ≢ New = search rules in
    record { walk = skips c.args.graph.now c.args.roots c.moves.root _ _ _ _ c.moves.invariant.walk none more old; room = c.moves.invariant.room; noted = c.moves.invariant.noted }

pub moves-smaller-in_default-next_read : goal.moves-smaller-in_default-next_read
moves-smaller-in_default-next_read c =
    let last : IsLast c.moves.walk.path.items c.in-Some.top = search rules in
    let e = c.in_ok-finish.ensures in
    finishes_less c.args.graph.now c.args.roots c.moves.root _ _ _ _ c.in-Some.top (end_open c.args.graph.now c.args.roots c.moves.root _ _ _ _ c.moves.invariant.walk c.in-Some.top last) e.marks (ap (λ d. d.rows) e.cut)

pub moves-preserved-in_default-next_read : goal.moves-preserved-in_default-next_read
moves-preserved-in_default-next_read c =
    let e = c.in_ok-finish.ensures in
    record { walk = finishes c.args.graph.now c.args.roots c.moves.root _ _ _ _ c.moves.invariant.walk _ _ _ _ c.in-Some.top (search rules) e.marks (ap (λ d. d.rows) e.cut) e.path e.order; room = ap (λ d. d.room) e.cut ∙ c.moves.invariant.room; noted = stays c.args.graph.now c.args.roots _ _ _ (ap (λ d. d.rows) e.cut) c.moves.invariant.noted }

pub moves-smaller-in-Continue-branch-4 : goal.moves-smaller-in-Continue-branch-4
moves-smaller-in-Continue-branch-4 c =
    let last : IsLast c.moves.walk.path.items c.in-Some.top = search rules in
    let new : mark_at c.moves.walk.marks.items c.in-Some-next_read.y ≡ New = search rules in
    let next : (length (row c.moves.walk.cut.rows c.in-Some.top) < length (row c.args.graph.now c.in-Some.top)) × (get_or (row c.args.graph.now c.in-Some.top) (length (row c.moves.walk.cut.rows c.in-Some.top)) 0 ≡ c.in-Some-next_read.y) = search rules in
    let e = c.in_ok-descend-in-New-mark_of.ensures in
    opens_less c.args.graph.now c.args.roots c.moves.root _ _ _ _ c.moves.invariant.walk _ _ c.in-Some.top c.in-Some-next_read.y last next.0 next.1 new e.marks e.cut

pub moves-preserved-in-Continue-branch-4 : goal.moves-preserved-in-Continue-branch-4
moves-preserved-in-Continue-branch-4 c =
    let last : IsLast c.moves.walk.path.items c.in-Some.top = search rules in
    let new : mark_at c.moves.walk.marks.items c.in-Some-next_read.y ≡ New = search rules in
    let next : (length (row c.moves.walk.cut.rows c.in-Some.top) < length (row c.args.graph.now c.in-Some.top)) × (get_or (row c.args.graph.now c.in-Some.top) (length (row c.moves.walk.cut.rows c.in-Some.top)) 0 ≡ c.in-Some-next_read.y) = search rules in
    let e = c.in_ok-descend-in-New-mark_of.ensures in
    record { walk = opens c.args.graph.now c.args.roots c.moves.root _ _ _ _ c.moves.invariant.walk _ _ _ _ c.in-Some.top c.in-Some-next_read.y last next.0 next.1 new e.marks e.cut e.path e.order; room = e.room ∙ c.moves.invariant.room; noted = keeps c.args.graph.now c.args.roots c.moves.root _ _ _ _ _ c.moves.invariant.walk c.moves.invariant.noted _ c.in-Some.top last e.cut }

pub moves-smaller-in-Done : goal.moves-smaller-in-Done
moves-smaller-in-Done c =
    let last : IsLast c.moves.walk.path.items c.in-Some.top = search rules in
    let done : mark_at c.moves.walk.marks.items c.in-Some-next_read.y ≡ Done = search rules in
    let next : (length (row c.moves.walk.cut.rows c.in-Some.top) < length (row c.args.graph.now c.in-Some.top)) × (get_or (row c.args.graph.now c.in-Some.top) (length (row c.moves.walk.cut.rows c.in-Some.top)) 0 ≡ c.in-Some-next_read.y) = search rules in
    let e = c.decide.ensures in
    passes_less c.args.graph.now c.args.roots c.moves.root _ _ _ _ c.moves.invariant.walk _ _ c.in-Some.top c.in-Some-next_read.y false (record { top = last; more = next.0; reads = next.1; kept = λ _. inl done; cut_open = λ f. absurd (no_absurd (sym f)) }) e.marks e.cut

pub moves-preserved-in-Done : goal.moves-preserved-in-Done
moves-preserved-in-Done c =
    let last : IsLast c.moves.walk.path.items c.in-Some.top = search rules in
    let done : mark_at c.moves.walk.marks.items c.in-Some-next_read.y ≡ Done = search rules in
    let next : (length (row c.moves.walk.cut.rows c.in-Some.top) < length (row c.args.graph.now c.in-Some.top)) × (get_or (row c.args.graph.now c.in-Some.top) (length (row c.moves.walk.cut.rows c.in-Some.top)) 0 ≡ c.in-Some-next_read.y) = search rules in
    let e = c.decide.ensures in
    record { walk = passes c.args.graph.now c.args.roots c.moves.root _ _ _ _ c.moves.invariant.walk _ _ _ _ c.in-Some.top c.in-Some-next_read.y false (record { top = last; more = next.0; reads = next.1; kept = λ _. inl done; cut_open = λ f. absurd (no_absurd (sym f)) }) e.marks e.cut e.path e.order; room = e.room ∙ c.moves.invariant.room; noted = keeps c.args.graph.now c.args.roots c.moves.root _ _ _ _ _ c.moves.invariant.walk c.moves.invariant.noted _ c.in-Some.top last e.cut }

pub moves-smaller : goal.moves-smaller
moves-smaller c =
    let last : IsLast c.moves.walk.path.items c.in-Some.top = search rules in
    let is_open : mark_at c.moves.walk.marks.items c.in-Some-next_read.y ≡ Open = search rules in
    let next : (length (row c.moves.walk.cut.rows c.in-Some.top) < length (row c.args.graph.now c.in-Some.top)) × (get_or (row c.args.graph.now c.in-Some.top) (length (row c.moves.walk.cut.rows c.in-Some.top)) 0 ≡ c.in-Some-next_read.y) = search rules in
    let e = c.decide-in-Open.ensures in
    passes_less c.args.graph.now c.args.roots c.moves.root _ _ _ _ c.moves.invariant.walk _ _ c.in-Some.top c.in-Some-next_read.y true (record { top = last; more = next.0; reads = next.1; kept = λ f. absurd (no_absurd f); cut_open = λ _. is_open }) e.marks e.cut

pub moves-preserved : goal.moves-preserved
moves-preserved c =
    let last : IsLast c.moves.walk.path.items c.in-Some.top = search rules in
    let is_open : mark_at c.moves.walk.marks.items c.in-Some-next_read.y ≡ Open = search rules in
    let next : (length (row c.moves.walk.cut.rows c.in-Some.top) < length (row c.args.graph.now c.in-Some.top)) × (get_or (row c.args.graph.now c.in-Some.top) (length (row c.moves.walk.cut.rows c.in-Some.top)) 0 ≡ c.in-Some-next_read.y) = search rules in
    let e = c.decide-in-Open.ensures in
    record { walk = passes c.args.graph.now c.args.roots c.moves.root _ _ _ _ c.moves.invariant.walk _ _ _ _ c.in-Some.top c.in-Some-next_read.y true (record { top = last; more = next.0; reads = next.1; kept = λ f. absurd (no_absurd f); cut_open = λ _. is_open }) e.marks e.cut e.path e.order; room = e.room ∙ c.moves.invariant.room; noted = cuts c.args.graph.now c.args.roots c.moves.root _ _ _ _ _ c.moves.invariant.walk c.moves.invariant.noted _ _ c.in-Some.top c.in-Some-next_read.y last next.0 next.1 is_open c.in_ok-keep_first-in-Open.ensures.kept (search rules) }
