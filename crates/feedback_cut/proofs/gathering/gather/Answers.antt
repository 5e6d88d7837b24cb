use Rattle.std.proofs.Common.{◌≡◌, ◌≢◌, ◌<◌, ◌+◌, [], ◌∷◌, ◌++◌, length, set, refl, sym, ◌∙◌, ap, subst, rules}
use Rattle.graph.specs.Rows.{row}
use Rattle.feedback_cut.specs.Private.Gathering.{number_at}
use Rattle.feedback_cut.proofs.GatherLaws.{starts, skips, takes, ends, left, take_less}
use Rattle.feedback_cut.proofs.gathering.gather.Goals as goal

pub waiting-init : goal.waiting-init
waiting-init c =
    starts c.args.readers.now c.args.none c.args.group c.args.root c.args.numbers.now.items _ c.requires.root c.requires.long c.requires.fresh (c.in_ok-push.ensures.items ∙ ap (λ ws. ws ++ c.args.root ∷ []) c.new-waiting.ensures.items)

pub returns-in_default : goal.returns-in_default
returns-in_default c =
    let none : c.waiting.waiting.items ≡ [] = search rules in
    ends c.args.readers.now c.args.none c.args.group c.args.root c.args.numbers.now.items c.waiting.numbers.items c.waiting.waiting.items c.waiting.invariant none

pub waiting-preserved-then-number_of-none : goal.waiting-preserved-then-number_of-none
waiting-preserved-then-number_of-none c =
    let has : number_at c.args.none c.waiting.numbers.items c.in-Some.x ≢ c.args.none = search rules in
    skips c.args.readers.now c.args.none c.args.group c.args.root c.args.numbers.now.items c.waiting.numbers.items c.waiting.waiting.items c.pop.new.self.items c.in-Some.x c.waiting.invariant c.in-Some.ensures.items has

pub waiting-smaller : goal.waiting-smaller
waiting-smaller c =
    let fresh : number_at c.args.none c.waiting.numbers.items c.in-Some.x ≡ c.args.none = search rules in
    let items : c.extend_from_slice.new.self.items ≡ c.pop.new.self.items ++ row c.args.readers.now c.in-Some.x = c.in_ok-extend_from_slice.ensures.items ∙ ap (λ r. c.pop.new.self.items ++ r) c.row.ensures in
    let less : left c.args.none (set c.waiting.numbers.items c.in-Some.x c.args.group) c.args.readers.now + length c.extend_from_slice.new.self.items < left c.args.none c.waiting.numbers.items c.args.readers.now + length c.waiting.waiting.items = subst (λ ws. left c.args.none (set c.waiting.numbers.items c.in-Some.x c.args.group) c.args.readers.now + length ws < left c.args.none c.waiting.numbers.items c.args.readers.now + length c.waiting.waiting.items) (sym items) (take_less c.args.none c.args.group c.args.root c.args.numbers.now.items c.waiting.numbers.items c.args.readers.now c.waiting.waiting.items c.pop.new.self.items (set c.waiting.numbers.items c.in-Some.x c.args.group) c.in-Some.x c.waiting.invariant c.requires.group c.in-Some.ensures.items fresh refl) in
    less

pub waiting-preserved : goal.waiting-preserved
waiting-preserved c =
    let fresh : number_at c.args.none c.waiting.numbers.items c.in-Some.x ≡ c.args.none = search rules in
    rw (c.in_ok-extend_from_slice.ensures.items ∙ ap (λ r. c.pop.new.self.items ++ r) c.row.ensures)
    (takes c.args.readers.now c.args.none c.args.group c.args.root c.args.numbers.now.items c.waiting.numbers.items c.waiting.waiting.items c.pop.new.self.items _ c.in-Some.x c.requires.within c.requires.group c.waiting.invariant c.in-Some.ensures.items fresh refl)
