-- Where the design masks and the schedule is allowed, nothing is wrong and nothing is late.
use Rattle.std.proofs.Common.{◌≡◌, ℕ, ◌+◌, ◌*◌, ◌<◌, ◌≤◌, inl, inr, Bool, false, List, [], length, slice_get, slice_index, Option, Some, refl, sym, ◌∙◌, ap, subst, arith}
use Rattle.std.specs.Prelude.{All, IsTrue}
use Rattle.std.proofs.lemmas.List.{length-map}
use Rattle.std.proofs.lemmas.Option.{get_or_from_slice_get}
use Rattle.tmr_base.specs.declared.ids.Upset.{Upset}
use Rattle.tmr_base.specs.Copies.{copy_number}
use Rattle.flat_net.specs.Net.{Net, net_count}
use Rattle.flat_net.proofs.Slots.{slice_get_there}
use Rattle.net_meaning.specs.Meaning.{value_at, IsScheduleOf, spread_row}
use Rattle.certificate.specs.Cert.{PlainCert, part_of}
use Rattle.certificate.specs.Schedules.{IsQuiet}
use Rattle.validator.specs.Masking.{IsMasked, TwoOf, Gives, Masks, FreeMasks}
use Rattle.schedule_replay.specs.Outcome.{PlainOutcome, IsOutcome, IsReplayOf, IsFreeReplay, is_wrong, late_at, output_at}
use Rattle.schedules.specs.Reading.{IsNodeOf}
use Rattle.schedules.specs.Schedule.{PlainSchedule, IsPlainSchedule}
use Rattle.schedule_replay.specs.Starts.{given_starts}
use Rattle.schedule_replay.proofs.MaskedLaws.{TwoAre, output_right, node_right, masked_outcome}
use Rattle.schedule_replay.proofs.Quiet.{quiet_is}
use Rattle.schedule_replay.proofs.Starting.{rows_fit, upsets_fit}

-- what an output gives is what is read at its place
given : (h : Net) (ft : List (List Bool)) (t j k : ℕ) (b : Bool) → j ≡ k → Gives h ft t j b → value_at ft t (slice_index h.outputs k) ≡ b
given h ft t j k b e (y, there, is) =
    let at : slice_get h.outputs k ≡ Some y = subst (λ (m : ℕ). slice_get h.outputs m ≡ Some y) e there in
    ap (value_at ft t) (get_or_from_slice_get h.outputs k y 0 at) ∙ is

two_are : (h : Net) (ft : List (List Bool)) (t i : ℕ) (b : Bool) → TwoOf (λ c. Gives h ft t (3 * i + copy_number c) b)
    → TwoAre b (value_at ft t (slice_index h.outputs (3 * i))) (value_at ft t (slice_index h.outputs (3 * i + 1))) (value_at ft t (slice_index h.outputs (3 * i + 2)))
two_are h ft t i b two = go two
  where
    none : 3 * i + 0 ≡ 3 * i
    none = omega arith

    first : Gives h ft t (3 * i + 0) b → value_at ft t (slice_index h.outputs (3 * i)) ≡ b
    first is = given h ft t (3 * i + 0) (3 * i) b none is

    second : Gives h ft t (3 * i + 1) b → value_at ft t (slice_index h.outputs (3 * i + 1)) ≡ b
    second is = given h ft t (3 * i + 1) (3 * i + 1) b refl is

    third : Gives h ft t (3 * i + 2) b → value_at ft t (slice_index h.outputs (3 * i + 2)) ≡ b
    third is = given h ft t (3 * i + 2) (3 * i + 2) b refl is

    go : TwoOf (λ c. Gives h ft t (3 * i + copy_number c) b) → TwoAre b (value_at ft t (slice_index h.outputs (3 * i))) (value_at ft t (slice_index h.outputs (3 * i + 1))) (value_at ft t (slice_index h.outputs (3 * i + 2)))
    go (inl (a, c)) = inl (first a, second c)
    go (inr (inl (a, c))) = inr (inl (first a, third c))
    go (inr (inr (a, c))) = inr (inr (second a, third c))

-- where each cycle is masked
pub unharmed : (n h : Net) (k : PlainCert) (s : List Upset) (tr ft : List (List Bool)) (cycles : ℕ) (o : PlainOutcome) → IsOutcome n h k s tr ft cycles o → ((t : ℕ) → t < cycles → IsMasked n h k tr s ft t) → (o.wrong ≡ 0) × (o.late ≡ 0)
unharmed n h k s tr ft cycles o is masked = masked_outcome n h tr ft k s cycles o is right quiet
  where
    right : (t i : ℕ) → t < cycles → i < length n.outputs → is_wrong (output_at n h tr ft t i) ≡ false
    right t i l m =
        let (x, there) = slice_get_there n.outputs i m in
        let same : slice_index n.outputs i ≡ x = get_or_from_slice_get n.outputs i x 0 there in
        let two = two_are h ft t i (value_at tr t x) ((masked t l).outputs i x there) in
        output_right n h tr ft t i (subst (λ (y : ℕ). TwoAre (value_at tr t y) (value_at ft t (slice_index h.outputs (3 * i))) (value_at ft t (slice_index h.outputs (3 * i + 1))) (value_at ft t (slice_index h.outputs (3 * i + 2)))) (sym same) two)

    quiet : (t i : ℕ) → t < cycles → i < length n.nodes → late_at k s tr ft t (length n.inputs + i) (part_of k (length n.inputs + i)) ≡ 0
    quiet t i l m = node_right k s tr ft t (length n.inputs + i) (part_of k (length n.inputs + i))
        (λ p e q c. (masked t l).copies (length n.inputs + i) (omega arith) (subst (λ (o : Option ℕ). IsQuiet s k o t) (sym e) (quiet_is k s p t q)) c)

-- by the masking theorem of version 1
pub plain_unharmed : (n h : Net) (k : PlainCert) (s : PlainSchedule) (o : PlainOutcome) → IsPlainSchedule s → s.inputs ≡ length n.inputs → All (λ u. IsNodeOf h u.net.0) s.upsets
    → Masks n h k → IsReplayOf n [] [] h [] [] k s o → IsTrue o.allowed → (o.wrong ≡ 0) × (o.late ≡ 0)
plain_unharmed n h k s o plain wide nodes masks is allowed =
    let tr = is.original.trace in
    let ft = is.hardened.trace in
    let outcome = is.outcome tr ft is.original.is_trace is.hardened.is_trace in
    let same = length-map s.rows spread_row in
    let free = upsets_fit s plain h (λ i d l. (nodes i d l).1) in
    let schedule : IsScheduleOf 1 h (length s.rows) s.upsets = record {
      cycles = λ u there. let l = free.cycles u there in omega (arith, same);
      nets = free.nets;
      nodes = λ one u there. subst (λ (v : Upset). length h.inputs ≤ v.net.0) there.2 (nodes there.0 u there.1).0;
      differ = free.differ;
    } in
    unharmed n h k s.upsets tr ft (length s.rows) o outcome (masks s.rows tr s.upsets ft (rows_fit s plain n wide) is.original.is_trace schedule (outcome.allowed.0 allowed) is.hardened.is_trace)

-- by that of both versions, where inputs are struck only in version 2
pub free_unharmed : (n : Net) (f : List Bool) (h : Net) (g : List Bool) (k : PlainCert) (s : PlainSchedule) (o : PlainOutcome) → IsPlainSchedule s → s.inputs ≡ length n.inputs → k.version ≡ 2 → All (λ u. u.net.0 < net_count h) s.upsets
    → FreeMasks n f h g k → IsFreeReplay n f h g k s o → IsTrue o.allowed → (o.wrong ≡ 0) × (o.late ≡ 0)
free_unharmed n f h g k s o plain wide version nets masks is allowed =
    let tr = is.original.trace in
    let ft = is.hardened.trace in
    let outcome = is.outcome tr ft is.original.is_trace is.hardened.is_trace in
    let same = length-map s.rows spread_row in
    let free = upsets_fit s plain h nets in
    let schedule : IsScheduleOf k.version h (length s.rows) s.upsets = record {
      cycles = λ u there. let l = free.cycles u there in omega (arith, same);
      nets = free.nets;
      nodes = λ one. absurd (omega arith);
      differ = free.differ;
    } in
    unharmed n h k s.upsets tr ft (length s.rows) o outcome (masks (given_starts k f s) s.rows tr s.upsets ft (rows_fit s plain n wide) is.original.is_trace schedule (outcome.allowed.0 allowed) is.hardened.is_trace)
