use Rattle.std.proofs.Common.{◌≡◌, ◌+◌, ◌∙◌, ℕ, List, [], ◌∷◌, ◌++◌, Vec, Global, length, sym, subst, ap, arith}
use Rattle.std.specs.Prelude.{All}
use Rattle.net_simulator.specs.Registers.{Holds}
use Rattle.net_simulator.specs.declared.registers.Held.{Held}
use Rattle.net_simulator.proofs.Lanes.{Known, none_known, none_held, no_register_more, one_register_more, one_held_more, all_known}
use Rattle.net_simulator.proofs.registers.registers_of.Goals.{then-is_register+in_ok-push, else-is_register}
use Rattle.net_simulator.proofs.registers.registers_of.Goals as goal

pub loop-i-init : goal.loop-i-init
loop-i-init c = record {
  held = none_held c.args.net.now.net c.new-registers.result.items c.new-registers.ensures.items;
  known = none_known c.args.net.now.net c.new-registers.result.items (length c.args.net.now.net.inputs + 0) (omega arith);
}

pub loop-i-preserved : goal.loop-i-preserved
loop-i-preserved c =
    let n = c.args.net.now.net in
    let x : ℕ = c.input_count-inputs.result + c.loop-i.i in
    let here : length n.inputs + c.loop-i.i ≡ x = omega arith in
    let next : x + 1 ≡ length n.inputs + (c.loop-i.i + 1) = omega arith in
    let known = subst (Known n c.loop-i.registers.items) here c.loop-i.invariant.known in
    elim c.if-is_register.branch [
      | then-is_register+in_ok-push w ↦
          let pushed : c.if-is_register.registers.items ≡ c.loop-i.registers.items ++ w.what_is_held.result ∷ [] = ap (λ (v : Vec Held Global). v.items) w.registers-is ∙ w.in_ok-push.ensures.items in
          record {
            held = one_held_more n c.loop-i.registers.items c.if-is_register.registers.items w.what_is_held.result c.loop-i.invariant.held w.what_is_held.ensures.holds pushed;
            known = subst (Known n c.if-is_register.registers.items) next (subst (λ (l : List Held). Known n l (x + 1)) (sym pushed) (one_register_more n c.loop-i.registers.items w.what_is_held.result x known w.what_is_held.ensures.net));
          }
      | else-is_register w ↦
          let same : c.if-is_register.registers.items ≡ c.loop-i.registers.items = ap (λ (v : Vec Held Global). v.items) w.registers-is in
          record {
            held = subst (λ (l : List Held). All (λ r. Holds n r) l) (sym same) c.loop-i.invariant.held;
            known = subst (Known n c.if-is_register.registers.items) next (subst (λ (l : List Held). Known n l (x + 1)) (sym same) (no_register_more n c.loop-i.registers.items x known (λ r. let yes = c.is_register.ensures.no r in absurd (cc))));
          }
    ]

pub returns : goal.returns
returns c = record {
  held = c.loop-i.invariant.held;
  complete = all_known c.args.net.now.net c.loop-i.registers.items _ (omega arith) c.loop-i.invariant.known;
}
