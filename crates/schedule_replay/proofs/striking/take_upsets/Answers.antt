use Rattle.std.proofs.Common.{◌≡◌, ◌+◌, ◌<◌, ◌≤◌, ◌∙◌, ℕ, List, Bool, length, refl, sym, ap, subst, arith}
use Rattle.std.proofs.lemmas.Option.{slice_get_within, get_or_from_slice_get}
use Rattle.tmr_base.specs.declared.ids.NetId.{NetId}
use Rattle.tmr_base.specs.declared.ids.Upset.{Upset}
use Rattle.schedule_replay.specs.Starts.{forced_to}
use Rattle.schedule_replay.proofs.Taking.{none_before, struck_more, all_struck, up_to_more, latest_more, nets_more, strike_range, struck_length}
use Rattle.certificate.specs.Cert.{role_of}
use Rattle.schedule_replay.specs.Outcome.{part_of_role}
use Rattle.schedule_replay.specs.Striking.{AreLatest}
use Rattle.schedule_replay.proofs.striking.take_upsets.Goals as goal

pub loop-j-init : goal.loop-j-init
loop-j-init c = record {
  next = refl;
  struck = λ x. ap (λ (fs : List (NetId × Bool)). forced_to fs x) c.clear.ensures.items ∙ none_before c.args.s.now.upsets c.args.t c.args.from x c.requires.taken;
  nets = λ i d h. absurd (let none = ap length c.clear.ensures.items in omega arith);
  before = λ j u l at. let b = c.requires.taken.before j u l at in omega arith;
  long = c.requires.lasts;
  latest = c.requires.latest;
}

pub strike-requires-clause-h : goal.strike-requires-clause-h
strike-requires-clause-h c =
    subst (λ (u : Upset). u.net.0 < c.args.c.now.hardened_inputs + length c.args.c.now.roles) (get_or_from_slice_get c.args.s.now.upsets c.loop-j.j c.upset-u.result c.upset-u.result c.upset-u.ensures) (c.requires.high c.loop-j.j c.upset-u.result (slice_get_within c.args.s.now.upsets c.loop-j.j c.upset-u.result c.upset-u.ensures))

pub strike-requires-clause-t : goal.strike-requires-clause-t
strike-requires-clause-t c =
    let plain = c.cycles.ensures.plain in
    let within = slice_get_within c.args.s.now.upsets c.loop-j.j c.upset-u.result c.upset-u.ensures in
    let below : c.upset-u.result.cycle < length c.args.s.now.rows = subst (λ (u : Upset). u.cycle < length c.args.s.now.rows) (get_or_from_slice_get c.args.s.now.upsets c.loop-j.j c.upset-u.result c.upset-u.result c.upset-u.ensures) (plain.in_range c.loop-j.j c.upset-u.result within) in
    let few : length c.args.s.now.rows ≤ 1048576 = plain.few_rows in
    omega arith

pub loop-j-preserved : goal.loop-j-preserved
loop-j-preserved c =
    let us : List Upset = c.args.s.now.upsets in
    let j : ℕ = c.loop-j.j in
    let u : Upset = c.upset-u.result in
    let cycle : u.cycle ≡ c.args.t = c.if-u-t.false in
    let high = subst (λ (u : Upset). u.net.0 < c.args.c.now.hardened_inputs + length c.args.c.now.roles) (get_or_from_slice_get us j u u c.upset-u.ensures) (c.requires.high j u (slice_get_within us j u c.upset-u.ensures)) in
    let same = c.strike.ensures in
    let range = strike_range c.args.c.now c.parts.ensures.cert u in
    record {
      next = refl;
      struck = λ x. struck_more us c.args.t j u c.loop-j.struck.items c.push.new.self.items x c.upset-u.ensures cycle c.in_ok-push.ensures.items (c.loop-j.invariant.struck x);
      nets = nets_more (c.args.c.now.hardened_inputs + length c.args.c.now.roles) c.loop-j.struck.items c.push.new.self.items (u.net, u.value) c.loop-j.invariant.nets high c.in_ok-push.ensures.items;
      before = up_to_more c.args.c.now us c.args.t j u c.upset-u.ensures cycle c.loop-j.lasts c.loop-j.invariant.long range c.loop-j.invariant.before c.loop-j.invariant.latest;
      long = ap length same ∙ (struck_length (part_of_role c.args.c.now (role_of c.args.c.now u.net.0)) (c.args.t + 1) c.loop-j.lasts ∙ c.loop-j.invariant.long);
      latest = subst (λ (ls : List ℕ). AreLatest c.args.c.now us (j + 1) ls) (sym same) (latest_more c.args.c.now us c.args.t j u c.upset-u.ensures cycle c.loop-j.lasts c.loop-j.invariant.long range c.loop-j.invariant.before c.loop-j.invariant.latest);
    }

pub returns-after-loop-j-clause-taken : goal.returns-after-loop-j-clause-taken
returns-after-loop-j-clause-taken c = record {
  before = λ j u l at. let b = c.loop-j.invariant.before j u (let n = c.loop-j.invariant.next in omega arith) at in omega arith;
  after = λ j u l at. absurd (let w = slice_get_within c.args.s.now.upsets j u at in let n = c.loop-j.invariant.next in omega arith);
}

pub returns-then-u-t-clause-struck : goal.returns-then-u-t-clause-struck
returns-then-u-t-clause-struck c = λ x.
    let later = c.requires.taken.after c.loop-j.j c.upset-u.result (omega arith) c.upset-u.ensures in
    all_struck c.args.s.now c.cycles.ensures.plain c.args.t c.loop-j.j c.upset-u.result c.loop-j.struck.items x c.upset-u.ensures (let apart = c.if-u-t.true in omega arith) (c.loop-j.invariant.struck x)
