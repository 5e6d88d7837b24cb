-- One symbol more.
use Rattle.std.proofs.Common.{◌≡◌, ℕ, Bool, true, false, List, [], ◌∷◌, ◌++◌, refl, sym, ap, ◌∙◌, arith, append_assoc, length-append}
use Rattle.aag_reader.specs.declared.fault.GraphFault.{GraphFault}
use Rattle.aag_reader.specs.declared.fault.GraphFault.TheVariants.{Line, Doubled, Undefined, Memory}
use Rattle.aag_text.specs.declared.aig.Header.{Header}
use Rattle.aag_text.specs.Lines.{lines_of, words_of, is_symbol, AreSymbols}
use Rattle.aag_reader.specs.Private.Sections.{Rest, NextSymbol, IsNextSymbol, HasNoSymbol, ReadSymbols, HasSymbols, StopsInSymbols}

pub symbols_start : (h : Header) (old : Rest) → ReadSymbols h old old
symbols_start h old = record { symbols = []; lines = refl; are = tt; number = omega arith }

symbols_join : (h : Header) (xs : List (List ℕ)) (line : List ℕ) → AreSymbols h xs → is_symbol h (words_of line) ≡ true → AreSymbols h (xs ++ line ∷ [])
symbols_join h [] line are is = (is, tt)
symbols_join h (x ∷ xs) line are is = (are.0, symbols_join h xs line are.1 is)

one_more : (h : Header) (a b c : Rest) → ReadSymbols h a b → IsNextSymbol h b c → ReadSymbols h a c
one_more h a b c s next = record {
  symbols = s.symbols ++ next.line ∷ [];
  lines = s.lines ∙ (ap (λ (r : List (List ℕ)). s.symbols ++ r) next.lines ∙ sym (append_assoc s.symbols (next.line ∷ []) (lines_of c.bytes)));
  are = symbols_join h s.symbols next.line s.are next.is;
  number = omega (arith, next.number, s.number, length-append s.symbols (next.line ∷ []));
}

pub symbols_more : (h : Header) (a b c : Rest) (more : Bool) → ReadSymbols h a b → NextSymbol h b c more → more ≡ true → ReadSymbols h a c
symbols_more h a b c true s next e = one_more h a b c s next
symbols_more h a b c false s next e = absurd (cc)

pub symbols_end : (h : Header) (a b c : Rest) (more : Bool) → ReadSymbols h a b → NextSymbol h b c more → more ≡ false → HasSymbols h a
symbols_end h a b c true s next e = absurd (cc)
symbols_end h a b c false s next e = record { symbols = s.symbols; comment = lines_of b.bytes; lines = s.lines; are = s.are; ends = next }

pub symbols_stop : (h : Header) (a b : Rest) (fault : GraphFault) → ReadSymbols h a b → HasNoSymbol h b fault → StopsInSymbols h a fault
symbols_stop h a b (Line number) s none = record {
  before = s.symbols;
  line = none.line;
  rest = none.rest;
  lines = s.lines ∙ ap (λ (r : List (List ℕ)). s.symbols ++ r) none.lines;
  are = s.are;
  no_symbol = none.no_symbol;
  no_comment = none.no_comment;
  is = omega (arith, none.is, s.number);
}
symbols_stop h a b (Doubled v) s none = none
symbols_stop h a b (Undefined v) s none = none
symbols_stop h a b Memory s none = none

pub ruleset symbols = (symbols_start, symbols_more, symbols_end, symbols_stop)
