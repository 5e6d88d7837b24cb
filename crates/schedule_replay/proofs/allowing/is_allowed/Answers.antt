use Rattle.std.proofs.Common.{refl, ◌≡◌, ◌+◌, ◌*◌, ◌<◌, ◌≤◌, ◌∙◌, ℕ, List, true, false, Option, Some, None, length, sym, subst, ap, arith}
use Rattle.std.specs.Prelude.{slice_set, IfSome}
use Rattle.std.proofs.lemmas.List.{length-set}
use Rattle.std.proofs.lemmas.Option.{slice_get_within, get_or_from_slice_get}
use Rattle.tmr_base.specs.Copies.{copy_number}
use Rattle.tmr_base.specs.declared.ids.PartId.{PartId}
use Rattle.tmr_base.specs.declared.ids.Upset.{Upset}
use Rattle.certificate.specs.Cert.{PlainCert, part_depth}
use Rattle.schedule_replay.specs.Allowing.{part_number, place_of, IsPart, is_near, AreLasts}
use Rattle.schedules.proofs.Domains.{copy_below}
use Rattle.schedule_replay.proofs.Apart.{near_refutes, lasts_more, apart_more, all_apart}
use Rattle.schedule_replay.proofs.allowing.is_allowed.Goals as goal

within : (k : PlainCert) (p : Option PartId) → IfSome p (λ p. p.0 < length k.depth) → IsPart k (part_number p)
within k None is = tt
within k (Some p) is = is

place_below : (k : PlainCert) (p : Option PartId) → IfSome p (λ p. p.0 < length k.depth) → place_of (part_number p) < length k.depth + 1
place_below k None is = omega arith
place_below k (Some p) is = omega arith

pub is_near-requires : goal.is_near-requires
is_near-requires c = let below = place_below c.args.c.now c.domain-p.result.0 c.domain-p.ensures.range in let place = c.place_of-place.ensures in omega arith

pub overflow_add-u : goal.overflow_add-u
overflow_add-u c =
    let plain = c.cycles-cycles.ensures.plain in
    let within = slice_get_within c.args.s.now.upsets c.loop-j.j c.upset-u.result c.upset-u.ensures in
    let same = get_or_from_slice_get c.args.s.now.upsets c.loop-j.j c.upset-u.result c.upset-u.result c.upset-u.ensures in
    let below : c.upset-u.result.cycle < length c.args.s.now.rows = subst (λ (u : Upset). u.cycle < length c.args.s.now.rows) same (plain.in_range c.loop-j.j c.upset-u.result within) in
    let few : length c.args.s.now.rows ≤ 1048576 = plain.few_rows in
    omega arith

pub returns-then-is_near : goal.returns-then-is_near
returns-then-is_near c =
    let k : PlainCert = c.args.c.now in
    let q : Option ℕ = part_number c.domain-p.result.0 in
    let copy = c.domain-p.result.1 in
    let cycle : ℕ = c.upset-u.result.cycle in
    let within_parts = within k c.domain-p.result.0 c.domain-p.ensures.range in
    let room : 3 * place_of q + copy_number copy < length c.loop-j.lasts.items = let below = copy_below copy in let place = place_below k c.domain-p.result.0 c.domain-p.ensures.range in omega arith in
    let near : is_near c.loop-j.lasts.items (place_of q) copy cycle (part_depth k q) ≡ true =
    ap (λ (ls : List ℕ). is_near ls (place_of q) copy cycle (part_depth k q)) (sym c.deref.ensures.value)
    ∙ (ap (λ (p : ℕ). is_near c.deref.result.now p copy cycle (part_depth k q)) (sym c.place_of-place.ensures)
    ∙ (ap (λ (d : ℕ). is_near c.deref.result.now c.place_of-place.result copy cycle d) (sym c.depth_of.ensures)
    ∙ (sym c.is_near.ensures ∙ c.if-is_near.true))) in
    (λ e. absurd (cc), λ allowed. absurd (near_refutes k c.args.s.now c.cycles-cycles.ensures.plain c.loop-j.j c.upset-u.result c.upset-u.ensures q copy c.domain-p.ensures.is_in c.loop-j.lasts.items room c.loop-j.invariant.lasts within_parts near allowed))

pub loop-j-preserved : goal.loop-j-preserved
loop-j-preserved c =
    let k : PlainCert = c.args.c.now in
    let q : Option ℕ = part_number c.domain-p.result.0 in
    let copy = c.domain-p.result.1 in
    let cycle : ℕ = c.upset-u.result.cycle in
    let room : 3 * place_of q + copy_number copy < length c.loop-j.lasts.items = let below = copy_below copy in let place = place_below k c.domain-p.result.0 c.domain-p.ensures.range in omega arith in
    let far : is_near c.loop-j.lasts.items (place_of q) copy cycle (part_depth k q) ≡ false =
    ap (λ (ls : List ℕ). is_near ls (place_of q) copy cycle (part_depth k q)) (sym c.deref.ensures.value)
    ∙ (ap (λ (p : ℕ). is_near c.deref.result.now p copy cycle (part_depth k q)) (sym c.place_of-place.ensures)
    ∙ (ap (λ (d : ℕ). is_near c.deref.result.now c.place_of-place.result copy cycle d) (sym c.depth_of.ensures)
    ∙ (sym c.is_near.ensures ∙ c.if-is_near.false))) in
    let number : 3 * place_of q + copy_number copy ≡ 3 * c.place_of-place.result + c.number.result = ap (λ (x : ℕ). 3 * place_of q + x) (sym c.number.ensures) ∙ ap (λ (x : ℕ). 3 * x + c.number.result) (sym c.place_of-place.ensures) in
    record {
      long = length-set c.loop-j.lasts.items (3 * c.place_of-place.result + c.number.result) (c.upset-u.result.cycle + 1) ∙ c.loop-j.invariant.long;
      lasts = subst (λ (x : ℕ). AreLasts k c.args.s.now.upsets (c.loop-j.j + 1) (slice_set c.loop-j.lasts.items x (c.upset-u.result.cycle + 1))) number
          (lasts_more k c.args.s.now c.cycles-cycles.ensures.plain c.loop-j.j c.upset-u.result c.upset-u.ensures q copy c.domain-p.ensures.is_in c.loop-j.lasts.items room c.loop-j.invariant.lasts);
      apart = apart_more k c.args.s.now c.cycles-cycles.ensures.plain c.loop-j.j c.upset-u.result c.upset-u.ensures q copy c.domain-p.ensures.is_in c.loop-j.lasts.items room c.loop-j.invariant.lasts c.loop-j.invariant.apart far;
    }

pub returns : goal.returns
returns c = (λ e. all_apart c.args.c.now c.args.s.now.upsets c.loop-j.j (omega arith) c.loop-j.invariant.apart, λ allowed. refl)
