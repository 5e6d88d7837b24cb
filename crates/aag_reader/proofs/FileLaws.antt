-- The sections of a file, one behind the other.
use Rattle.std.proofs.Common.{◌≡◌, ℕ, suc, ◌+◌, ◌<◌, ◌≤◌, List, [], ◌∷◌, ◌++◌, map, length, Option, Some, is_some, refl, sym, ap, subst, ◌∙◌, arith, append_assoc, length-append}
use Rattle.std.proofs.lemmas.Bool.{lt-ltb, le-ltb}
use Rattle.std.proofs.lemmas.List.{length-map}
use Rattle.aag_text.specs.declared.aig.Literal.{Literal}
use Rattle.aag_text.specs.declared.aig.Latch.{Latch}
use Rattle.aag_text.specs.declared.aig.Gate.{Gate}
use Rattle.aag_reader.specs.declared.fault.GraphFault.{GraphFault}
use Rattle.aag_reader.specs.declared.fault.GraphFault.TheVariants.{Line, Doubled, Undefined, Memory}
use Rattle.aag_text.specs.declared.aig.Header.{Header}
use Rattle.aag_text.specs.Lines.{lines_of, words_of, header_of, input_of, latch_of, output_of, gate_of, is_symbol, AreOf, AreSymbols, IsFile}
use Rattle.aag_reader.specs.BadLine.{due, is_formed, AreFormed, IsBad, IsFirstBadLine, NoLine, NoHeader, BadLine}
use Rattle.aag_reader.specs.Private.Sections.{Rest, HasNext, HasNoNext, IsStuck, HasSection, StopsIn, HasSymbols, StopsInSymbols, IsLineFault, HasFormed}

-- ---- which form is due

pub at_input : (h : Header) (k : ℕ) (line : List ℕ) → k < h.inputs → is_formed h k line ≡ is_some (input_of h.most (words_of line))
unfolding is_formed
at_input h k line lt = rw (lt-ltb k h.inputs lt) refl

pub at_latch : (h : Header) (k : ℕ) (line : List ℕ) → h.inputs ≤ k → k < h.inputs + h.latches → is_formed h k line ≡ is_some (latch_of h.most (words_of line))
unfolding is_formed
at_latch h k line le lt = rw (le-ltb k h.inputs le, lt-ltb k (h.inputs + h.latches) lt) refl

pub at_output : (h : Header) (k : ℕ) (line : List ℕ) → h.inputs + h.latches ≤ k → k < h.inputs + h.latches + h.outputs → is_formed h k line ≡ is_some (output_of h.most (words_of line))
unfolding is_formed
at_output h k line le lt = rw (le-ltb k h.inputs (omega (arith, le)), le-ltb k (h.inputs + h.latches) le, lt-ltb k (h.inputs + h.latches + h.outputs) lt) refl

pub at_gate : (h : Header) (k : ℕ) (line : List ℕ) → h.inputs + h.latches + h.outputs ≤ k → k < due h → is_formed h k line ≡ is_some (gate_of h.most (words_of line))
unfolding is_formed
at_gate h k line le lt = rw (le-ltb k h.inputs (omega (arith, le)), le-ltb k (h.inputs + h.latches) (omega (arith, le)), le-ltb k (h.inputs + h.latches + h.outputs) le, lt-ltb k (due h) lt) refl

pub at_symbol : (h : Header) (k : ℕ) (line : List ℕ) → due h ≤ k → is_formed h k line ≡ is_symbol h (words_of line)
unfolding is_formed
at_symbol h k line le = rw (le-ltb k h.inputs (omega (arith, le)), le-ltb k (h.inputs + h.latches) (omega (arith, le)), le-ltb k (h.inputs + h.latches + h.outputs) (omega (arith, le)), le-ltb k (due h) le) refl

-- symbols behind the definitions are of the form that is due
pub symbols_formed : (h : Header) (k : ℕ) (lines : List (List ℕ)) → due h ≤ k → AreSymbols h lines → AreFormed h k lines
symbols_formed h k [] le are = tt
symbols_formed h k (line ∷ lines) le are = (at_symbol h k line le ∙ are.0, symbols_formed h (suc k) lines (omega (arith, le)) are.1)

-- ---- sections

pub formed_join : (h : Header) (k n : ℕ) (xs ys : List (List ℕ)) → n ≡ k + length xs → AreFormed h k xs → AreFormed h n ys → AreFormed h k (xs ++ ys)
formed_join h k n [] ys e a b = let same : n ≡ k = omega (arith, e) in subst (λ (m : ℕ). AreFormed h m ys) same b
formed_join h k n (x ∷ xs) ys e a b = (a.0, formed_join h (suc k) n xs ys (omega (arith, e)) a.1 b)

formed_then : (h : Header) (k i n j : ℕ) (a b c : Rest) → n ≡ k + i → HasFormed h k i a b → HasFormed h n j b c → HasFormed h k (i + j) a c
formed_then h k i n j a b c e one two = record {
  before = one.before ++ two.before;
  lines = one.lines ∙ (ap (λ (r : List (List ℕ)). one.before ++ r) two.lines ∙ sym (append_assoc one.before two.before (lines_of c.bytes)));
  are = formed_join h k n one.before two.before (omega (arith, e, one.long)) one.are two.are;
  long = omega (arith, length-append one.before two.before, one.long, two.long);
  number = omega (arith, one.number, two.number);
}

module _ {A : Type 0} (form : List (List ℕ) → Option A) where
  pub as_long : (section : List (List ℕ)) (items : List A) → AreOf form section items → length section ≡ length items
  as_long section items are = sym (length-map section (λ line. form (words_of line))) ∙ (ap length are ∙ length-map items Some)

  pub head_is : (o : Option A) (x : A) (os ps : List (Option A)) → o ∷ os ≡ Some x ∷ ps → o ≡ Some x
  head_is o x os ps e = cc

  pub tail_is : (o p : Option A) (os ps : List (Option A)) → o ∷ os ≡ p ∷ ps → os ≡ ps
  tail_is o p os ps e = cc

  -- each line of a section is of the form that is due
  pub are_formed : (h : Header) (k : ℕ) (section : List (List ℕ)) (items : List A) → ((j : ℕ) (line : List ℕ) → k ≤ j → j < k + length items → is_formed h j line ≡ is_some (form (words_of line))) → AreOf form section items → AreFormed h k section
  are_formed h k [] items is are = tt
  are_formed h k (line ∷ section) [] is are = absurd (cc)
  are_formed h k (line ∷ section) (x ∷ items) is are =
      let here : form (words_of line) ≡ Some x = head_is (form (words_of line)) x (map (λ (l : List ℕ). form (words_of l)) section) (map Some items) are in
      (is k line (omega arith) (omega arith) ∙ ap is_some here, are_formed h (suc k) section items (λ j l le lt. is j l (omega (arith, le)) (omega (arith, lt))) (tail_is (form (words_of line)) (Some x) (map (λ (l : List ℕ). form (words_of l)) section) (map Some items) are))

  formed_section : (h : Header) (k count : ℕ) (a b : Rest) (items : List A) → ((j : ℕ) (line : List ℕ) → k ≤ j → j < k + count → is_formed h j line ≡ is_some (form (words_of line))) → HasSection form count a b items → HasFormed h k count a b
  formed_section h k count a b items is s = record {
    before = s.section;
    lines = s.lines;
    are = are_formed h k s.section items (λ j line le lt. is j line le (omega (arith, lt, s.long))) s.are;
    long = as_long s.section items s.are ∙ s.long;
    number = s.number;
  }

  bad_here : (h : Header) (k : ℕ) (rest : List (List ℕ)) → k < due h → ((line : List ℕ) → is_formed h k line ≡ is_some (form (words_of line))) → IsStuck form rest → IsBad h k rest
  bad_here h k [] lt is stuck = lt
  bad_here h k (line ∷ rest) lt is stuck = (is line ∙ ap is_some stuck, λ le. absurd (omega (arith, lt, le)))

  -- a section stops at a line that is not of its form
  section_bad : (bytes : List ℕ) (h : Header) (i count : ℕ) (start a b : Rest) (fault : GraphFault) → start ≡ record { line = 1; bytes = bytes } → HasNext header_of start a h → HasFormed h 0 i a b → i + count ≤ due h
      → ((j : ℕ) (line : List ℕ) → i ≤ j → j < i + count → is_formed h j line ≡ is_some (form (words_of line))) → StopsIn form count b fault → IsLineFault bytes fault
  section_bad bytes h i count start a b (Line number) e head so_far within is s =
      let long = as_long s.before s.items s.are in
      let first = ap (λ (r : Rest). r.line) e in
      BadLine h head.line (so_far.before ++ s.before) s.rest
      (ap (λ (r : Rest). lines_of r.bytes) (sym e) ∙ (head.lines ∙ ap (λ (r : List (List ℕ)). head.line ∷ r) (so_far.lines ∙ (ap (λ (r : List (List ℕ)). so_far.before ++ r) s.lines ∙ sym (append_assoc so_far.before s.before s.rest)))))
      head.is
      (formed_join h 0 i so_far.before s.before (omega (arith, so_far.long)) so_far.are (are_formed h i s.before s.items (λ j line le lt. is j line le (omega (arith, lt, s.short))) s.are))
      (bad_here h (length (so_far.before ++ s.before)) s.rest
      (omega (arith, length-append so_far.before s.before, so_far.long, long, s.short, within))
      (λ line. is (length (so_far.before ++ s.before)) line (omega (arith, length-append so_far.before s.before, so_far.long)) (omega (arith, length-append so_far.before s.before, so_far.long, long, s.short)))
      s.stuck)
      (omega (arith, s.is, so_far.number, head.number, first, length-append so_far.before s.before, so_far.long, long))
  section_bad bytes h i count start a b (Doubled v) e head so_far within is s = s
  section_bad bytes h i count start a b (Undefined v) e head so_far within is s = s
  section_bad bytes h i count start a b Memory e head so_far within is s = s

-- ---- the sections of a file, as they are read

module _ (bytes : List ℕ) (h : Header) (r0 r1 : Rest) (e : r0 ≡ record { line = 1; bytes = bytes }) (head : HasNext header_of r0 r1 h) where
  nothing_formed : HasFormed h 0 0 r1 r1
  nothing_formed = record { before = []; lines = refl; are = tt; long = refl; number = omega arith }

  pub inputs_bad : (fault : GraphFault) → StopsIn (input_of h.most) h.inputs r1 fault → IsLineFault bytes fault
  inputs_bad fault s = section_bad (input_of h.most) bytes h 0 h.inputs r0 r1 r1 fault e head nothing_formed (omega arith) (λ j line le lt. at_input h j line (omega (arith, lt))) s

  module _ (r2 : Rest) (inputs : List ℕ) (one : HasSection (input_of h.most) h.inputs r1 r2 inputs) where
    formed_inputs : HasFormed h 0 h.inputs r1 r2
    formed_inputs = formed_section (input_of h.most) h 0 h.inputs r1 r2 inputs (λ j line le lt. at_input h j line (omega (arith, lt))) one

    pub latches_bad : (fault : GraphFault) → StopsIn (latch_of h.most) h.latches r2 fault → IsLineFault bytes fault
    latches_bad fault s = section_bad (latch_of h.most) bytes h h.inputs h.latches r0 r1 r2 fault e head formed_inputs (omega arith) (λ j line le lt. at_latch h j line le lt) s

    module _ (r3 : Rest) (latches : List Latch) (two : HasSection (latch_of h.most) h.latches r2 r3 latches) where
      formed_latches : HasFormed h 0 (h.inputs + h.latches) r1 r3
      formed_latches = formed_then h 0 h.inputs h.inputs h.latches r1 r2 r3 (omega arith) formed_inputs (formed_section (latch_of h.most) h h.inputs h.latches r2 r3 latches (λ j line le lt. at_latch h j line le lt) two)

      pub outputs_bad : (fault : GraphFault) → StopsIn (output_of h.most) h.outputs r3 fault → IsLineFault bytes fault
      outputs_bad fault s = section_bad (output_of h.most) bytes h (h.inputs + h.latches) h.outputs r0 r1 r3 fault e head formed_latches (omega arith) (λ j line le lt. at_output h j line le lt) s

      module _ (r4 : Rest) (outputs : List Literal) (three : HasSection (output_of h.most) h.outputs r3 r4 outputs) where
        formed_outputs : HasFormed h 0 (h.inputs + h.latches + h.outputs) r1 r4
        formed_outputs = formed_then h 0 (h.inputs + h.latches) (h.inputs + h.latches) h.outputs r1 r3 r4 (omega arith) formed_latches (formed_section (output_of h.most) h (h.inputs + h.latches) h.outputs r3 r4 outputs (λ j line le lt. at_output h j line le lt) three)

        pub gates_bad : (fault : GraphFault) → StopsIn (gate_of h.most) h.gates r4 fault → IsLineFault bytes fault
        gates_bad fault s = section_bad (gate_of h.most) bytes h (h.inputs + h.latches + h.outputs) h.gates r0 r1 r4 fault e head formed_outputs (omega arith) (λ j line le lt. at_gate h j line le lt) s

        module _ (r5 : Rest) (gates : List Gate) (four : HasSection (gate_of h.most) h.gates r4 r5 gates) where
          formed_gates : HasFormed h 0 (due h) r1 r5
          formed_gates = formed_then h 0 (h.inputs + h.latches + h.outputs) (h.inputs + h.latches + h.outputs) h.gates r1 r4 r5 (omega arith) formed_outputs (formed_section (gate_of h.most) h (h.inputs + h.latches + h.outputs) h.gates r4 r5 gates (λ j line le lt. at_gate h j line le lt) four)

          pub symbols_bad : (fault : GraphFault) → StopsInSymbols h r5 fault → IsLineFault bytes fault
          symbols_bad (Line number) s =
              let first = ap (λ (r : Rest). r.line) e in
              let so_far = formed_gates in
              let long = length-append so_far.before s.before in
              BadLine h head.line (so_far.before ++ s.before) (s.line ∷ s.rest)
              (ap (λ (r : Rest). lines_of r.bytes) (sym e) ∙ (head.lines ∙ ap (λ (r : List (List ℕ)). head.line ∷ r) (so_far.lines ∙ (ap (λ (r : List (List ℕ)). so_far.before ++ r) s.lines ∙ sym (append_assoc so_far.before s.before (s.line ∷ s.rest))))))
              head.is
              (formed_join h 0 (due h) so_far.before s.before (omega (arith, so_far.long)) so_far.are (symbols_formed h (due h) s.before (omega arith) s.are))
              (at_symbol h (length (so_far.before ++ s.before)) s.line (omega (arith, long, so_far.long)) ∙ s.no_symbol, λ le. s.no_comment)
              (omega (arith, s.is, so_far.number, head.number, first, long, so_far.long))
          symbols_bad (Doubled v) s = s
          symbols_bad (Undefined v) s = s
          symbols_bad Memory s = s

          pub file_is : HasSymbols h r5 → IsFile bytes (record { inputs = inputs; latches = latches; outputs = outputs; gates = gates })
          file_is five = record {
            header = h;
            first = head.line;
            inputs = one.section;
            latches = two.section;
            outputs = three.section;
            gates = four.section;
            symbols = five.symbols;
            comment = five.comment;
            lines =
                ap (λ (r : Rest). lines_of r.bytes) (sym e)
                ∙ (head.lines ∙ ap (λ (r : List (List ℕ)). head.line ∷ r)
                (one.lines ∙ ap (λ (r : List (List ℕ)). one.section ++ r)
                (two.lines ∙ ap (λ (r : List (List ℕ)). two.section ++ r)
                (three.lines ∙ ap (λ (r : List (List ℕ)). three.section ++ r)
                (four.lines ∙ ap (λ (r : List (List ℕ)). four.section ++ r) five.lines)))));
            is_header = head.is;
            counts = record { inputs = one.long; latches = two.long; outputs = three.long; gates = four.long };
            are_inputs = one.are;
            are_latches = two.are;
            are_outputs = three.are;
            are_gates = four.are;
            are_symbols = five.are;
            ends = five.ends;
          }

-- ---- the header

stuck_bad : (bytes : List ℕ) (number : ℕ) (lines : List (List ℕ)) → lines_of bytes ≡ lines → number ≡ 1 → IsStuck header_of lines → IsFirstBadLine bytes number
stuck_bad bytes number [] is e stuck = NoLine is e
stuck_bad bytes number (line ∷ rest) is e stuck = NoHeader line rest is stuck e

pub header_bad : (bytes : List ℕ) (r0 : Rest) (fault : GraphFault) → r0 ≡ record { line = 1; bytes = bytes } → HasNoNext header_of r0 fault → IsLineFault bytes fault
header_bad bytes r0 (Line number) e none =
    let first = ap (λ (r : Rest). r.line) e in
    stuck_bad bytes number (lines_of r0.bytes) (ap (λ (r : Rest). lines_of r.bytes) (sym e)) (none.0 ∙ first) none.1
header_bad bytes r0 (Doubled v) e none = none
header_bad bytes r0 (Undefined v) e none = none
header_bad bytes r0 Memory e none = none

pub ruleset faults = (header_bad, inputs_bad, latches_bad, outputs_bad, gates_bad, symbols_bad)
