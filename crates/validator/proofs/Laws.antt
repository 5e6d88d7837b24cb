-- What the eight rules are enough for.
use Rattle.std.proofs.Common.{ℕ, Bool, List, [], length, refl}
use Rattle.tmr_base.specs.declared.ids.Upset.{Upset}
use Rattle.flat_net.specs.Net.{Net, IsValid}
use Rattle.flat_net.specs.Free.{AreMarks}
use Rattle.net_meaning.specs.Meaning.{IsSchedule, IsScheduleOf, spread}
use Rattle.certificate.specs.Cert.{PlainCert, Fits, IsCert}
use Rattle.certificate.specs.Rules.{AllHold, Corresponds, FreeCorresponds}
use Rattle.certificate.specs.Starts.{counted, spread_start}
use Rattle.validator.specs.Masking.{Masks, FreeMasks}
use Rattle.validator.proofs.Starts.{MarksFalse, nothing_marked, counted_marks, plain_is_free, node_bit_none, none_starts}
use Rattle.validator.proofs.Masked.{all_masked}

-- for all values of the marked registers
pub free_masks : (n : Net) (f : List Bool) (h : Net) (g : List Bool) (k : PlainCert) → IsValid n → IsValid h → Fits n h k → IsCert k → FreeCorresponds n f h g k → FreeMasks n f h g k
free_masks n f h g k valid_n valid_h fits is_cert all_hold w ins tr s ft rows is_trace is_schedule allowed is_fault_trace t l =
    all_masked n (counted k f) h (counted k g) k valid_n valid_h fits is_cert all_hold w ins tr s ft is_trace is_schedule allowed is_fault_trace t l

-- a schedule that names nodes alone is one of either version
any_version : (version : ℕ) (h : Net) (count : ℕ) (s : List Upset) → IsSchedule h count s → IsScheduleOf version h count s
any_version version h count s is = record { cycles = is.cycles; nets = is.nets; nodes = λ _. is.nodes refl; differ = is.differ }

-- where each marked register begins with false
unmarked_masks : (n : Net) (f : List Bool) (h : Net) (g : List Bool) (k : PlainCert) → IsValid n → IsValid h → MarksFalse n f → MarksFalse h g → Fits n h k → IsCert k → AllHold n f h g k → Masks n h k
unmarked_masks n f h g k valid_n valid_h marks_n marks_h fits is_cert all_hold ins tr s ft rows is_trace is_schedule allowed is_fault_trace t l =
    all_masked n f h g k valid_n valid_h fits is_cert all_hold [] ins tr s ft
    (plain_is_free n f [] ins [] tr marks_n (node_bit_none (length n.inputs)) is_trace)
    (any_version k.version h (length ins) s is_schedule) allowed
    (plain_is_free h g (spread_start k []) (spread ins) s ft marks_h (none_starts k (length h.inputs)) is_fault_trace) t l

pub masks : (n h : Net) (k : PlainCert) → IsValid n → IsValid h → Fits n h k → IsCert k → Corresponds n h k → Masks n h k
masks n h k valid_n valid_h fits is_cert corresponds = unmarked_masks n [] h [] k valid_n valid_h (nothing_marked n) (nothing_marked h) fits is_cert corresponds.1

-- and so they mask also what version 1 speaks of
pub masks_too : (n : Net) (f : List Bool) (h : Net) (g : List Bool) (k : PlainCert) → IsValid n → IsValid h → AreMarks n f → AreMarks h g → Fits n h k → IsCert k → FreeCorresponds n f h g k → Masks n h k
masks_too n f h g k valid_n valid_h marks_n marks_h fits is_cert all_hold =
    unmarked_masks n (counted k f) h (counted k g) k valid_n valid_h (counted_marks n f k marks_n.registers) (counted_marks h g k marks_h.registers) fits is_cert all_hold
