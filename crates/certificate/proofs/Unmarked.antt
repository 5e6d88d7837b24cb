-- Where the rules hold with marks, they hold without.
use Rattle.std.proofs.Common.{◌≡◌, ℕ, ◌+◌, ◌-◌, Bool, true, false, List, [], length, Option, Some, None, slice_get, refl, sym, ◌∙◌}
use Rattle.std.specs.Prelude.{nat_lt, if◌then◌else◌}
use Rattle.std.specs.Option.{unwrap_or}
use Rattle.tmr_base.specs.declared.copies.CopyNo.{CopyNo}
use Rattle.flat_net.specs.Net.{Net, Node, Table, Register, slot, node_of}
use Rattle.flat_net.specs.Free.{node_bit}
use Rattle.certificate.specs.Cert.{PlainCert}
use Rattle.certificate.specs.Rules.{CopiesRegister, Holds, AllHold}

none_marked : (start x : ℕ) → node_bit start [] x ≡ false
unfolding slot
none_marked start x = go (nat_lt x start)
  where
    go : (b : Bool) → unwrap_or (if b then None else slice_get [] (x - start)) false ≡ false
    go true = refl
    go false = refl

-- a register is copied with any two marks that are alike
other_marks : (k : PlainCert) (x h : Option Node) (free hfree also halso : Bool) (p : ℕ) (c : CopyNo) → halso ≡ also → CopiesRegister k x free h hfree p c → CopiesRegister k x also h halso p c
other_marks k None h free hfree also halso p c e r = r
other_marks k (Some (Table name cover pins)) h free hfree also halso p c e r = r
other_marks k (Some (Register name init pin)) None free hfree also halso p c e r = r
other_marks k (Some (Register name init pin)) (Some (Table hname cover pins)) free hfree also halso p c e r = r
other_marks k (Some (Register name init pin)) (Some (Register hname hinit hpin)) free hfree also halso p c e r = (r.0, e, r.2)

pub without_marks : (n h : Net) (f g : List Bool) (k : PlainCert) → AllHold n f h g k → AllHold n [] h [] k
without_marks n h f g k all r place =
    let rules : Holds n f h g k r place = all r place in
    record {
      inputs = rules.inputs;
      clocks = rules.clocks;
      tables = rules.tables;
      registers = λ is x c p role part.
          other_marks k (node_of n x) (node_of h (length h.inputs + place)) (node_bit (length n.inputs) f x) (node_bit (length h.inputs) g (length h.inputs + place)) (node_bit (length n.inputs) [] x) (node_bit (length h.inputs) [] (length h.inputs + place)) p c
          (none_marked (length h.inputs) (length h.inputs + place) ∙ sym (none_marked (length n.inputs) x)) (rules.registers is x c p role part);
      voters = rules.voters;
      labels = rules.labels;
      depths = rules.depths;
      outputs = rules.outputs;
    }
