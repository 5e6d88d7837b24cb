-- A file, read section by section.
use Rattle.std.specs.Prelude.{◌≡◌, ℕ, ◌+◌, ◌<◌, List, [], ◌∷◌, ◌++◌, length, Bool, true, false, Option, Some, None}
pub use Rattle.text_lines.specs.Lines.{Rest}
use Rattle.aag_text.specs.declared.aig.Header.{Header}
use Rattle.aag_reader.specs.declared.fault.GraphFault.{GraphFault}
use Rattle.aag_reader.specs.declared.fault.GraphFault.TheVariants.{Line, Doubled, Undefined, Memory}
use Rattle.aag_text.specs.Lines.{lines_of, words_of, is_symbol, is_comment, AreOf, AreSymbols, IsEnd}
use Rattle.aag_reader.specs.BadLine.{AreFormed, IsFirstBadLine}

-- there is a next line, of these words
pub record HasWords (old new : Rest) (words : List (List ℕ)) : Type 0 where
  pub line : List ℕ
  pub lines : lines_of old.bytes ≡ line ∷ lines_of new.bytes
  pub are : words ≡ words_of line
  pub number : new.line ≡ old.line + 1

-- a fault, where there is no next line
abbrev pub HasNoWords : Rest → GraphFault → Type 0
HasNoWords old (Line number) = (number ≡ old.line) × (lines_of old.bytes ≡ [])
HasNoWords old (Doubled v) = ⊥
HasNoWords old (Undefined v) = ⊥
HasNoWords old Memory = Unit {0}

-- the next line is of this form
pub record HasNext {A : Type 0} (form : List (List ℕ) → Option A) (old new : Rest) (item : A) : Type 0 where
  pub line : List ℕ
  pub lines : lines_of old.bytes ≡ line ∷ lines_of new.bytes
  pub is : form (words_of line) ≡ Some item
  pub number : new.line ≡ old.line + 1

-- there is no line, or the first is not of this form
abbrev pub IsStuck : {A : Type 0} → (List (List ℕ) → Option A) → List (List ℕ) → Type 0
IsStuck form [] = Unit {0}
IsStuck form (line ∷ lines) = form (words_of line) ≡ None

-- a fault in the next line
abbrev pub HasNoNext : {A : Type 0} → (List (List ℕ) → Option A) → Rest → GraphFault → Type 0
HasNoNext form old (Line number) = (number ≡ old.line) × IsStuck form (lines_of old.bytes)
HasNoNext form old (Doubled v) = ⊥
HasNoNext form old (Undefined v) = ⊥
HasNoNext form old Memory = Unit {0}

-- the next lines are of this form, so many
pub record HasSection {A : Type 0} (form : List (List ℕ) → Option A) (count : ℕ) (old new : Rest) (items : List A) : Type 0 where
  pub section : List (List ℕ)
  pub lines : lines_of old.bytes ≡ section ++ lines_of new.bytes
  pub are : AreOf form section items
  pub long : length items ≡ count
  pub number : new.line ≡ old.line + count

-- among so many lines of this form, this one is the first that is not, or is missing
pub record StopsAt {A : Type 0} (form : List (List ℕ) → Option A) (count : ℕ) (old : Rest) (number : ℕ) : Type 0 where
  pub before : List (List ℕ)
  pub rest : List (List ℕ)
  pub items : List A
  pub lines : lines_of old.bytes ≡ before ++ rest
  pub are : AreOf form before items
  pub short : length items < count
  pub stuck : IsStuck form rest
  pub is : number ≡ old.line + length items

abbrev pub StopsIn : {A : Type 0} → (List (List ℕ) → Option A) → ℕ → Rest → GraphFault → Type 0
StopsIn form count old (Line number) = StopsAt form count old number
StopsIn form count old (Doubled v) = ⊥
StopsIn form count old (Undefined v) = ⊥
StopsIn form count old Memory = Unit {0}

-- the next line is a symbol; or else a comment is next, or nothing
pub record IsNextSymbol (h : Header) (old new : Rest) : Type 0 where
  pub line : List ℕ
  pub lines : lines_of old.bytes ≡ line ∷ lines_of new.bytes
  pub is : is_symbol h (words_of line) ≡ true
  pub number : new.line ≡ old.line + 1

abbrev pub NextSymbol : Header → Rest → Rest → Bool → Type 0
NextSymbol h old new true = IsNextSymbol h old new
NextSymbol h old new false = IsEnd (lines_of old.bytes)

-- the next line is no symbol, and no comment
pub record IsNoSymbol (h : Header) (old : Rest) (number : ℕ) : Type 0 where
  pub line : List ℕ
  pub rest : List (List ℕ)
  pub lines : lines_of old.bytes ≡ line ∷ rest
  pub no_symbol : is_symbol h (words_of line) ≡ false
  pub no_comment : is_comment line ≡ false
  pub is : number ≡ old.line

abbrev pub HasNoSymbol : Header → Rest → GraphFault → Type 0
HasNoSymbol h old (Line number) = IsNoSymbol h old number
HasNoSymbol h old (Doubled v) = ⊥
HasNoSymbol h old (Undefined v) = ⊥
HasNoSymbol h old Memory = Unit {0}

-- symbols were read
pub record ReadSymbols (h : Header) (old new : Rest) : Type 0 where
  pub symbols : List (List ℕ)
  pub lines : lines_of old.bytes ≡ symbols ++ lines_of new.bytes
  pub are : AreSymbols h symbols
  pub number : new.line ≡ old.line + length symbols

-- symbols up to a comment or the end
pub record HasSymbols (h : Header) (old : Rest) : Type 0 where
  pub symbols : List (List ℕ)
  pub comment : List (List ℕ)
  pub lines : lines_of old.bytes ≡ symbols ++ comment
  pub are : AreSymbols h symbols
  pub ends : IsEnd comment

-- behind symbols a line that is none, and no comment
pub record StopsAtSymbol (h : Header) (old : Rest) (number : ℕ) : Type 0 where
  pub before : List (List ℕ)
  pub line : List ℕ
  pub rest : List (List ℕ)
  pub lines : lines_of old.bytes ≡ before ++ line ∷ rest
  pub are : AreSymbols h before
  pub no_symbol : is_symbol h (words_of line) ≡ false
  pub no_comment : is_comment line ≡ false
  pub is : number ≡ old.line + length before

abbrev pub StopsInSymbols : Header → Rest → GraphFault → Type 0
StopsInSymbols h old (Line number) = StopsAtSymbol h old number
StopsInSymbols h old (Doubled v) = ⊥
StopsInSymbols h old (Undefined v) = ⊥
StopsInSymbols h old Memory = Unit {0}

-- a fault of lines
abbrev pub IsLineFault : List ℕ → GraphFault → Type 0
IsLineFault bytes (Line number) = IsFirstBadLine bytes number
IsLineFault bytes (Doubled v) = ⊥
IsLineFault bytes (Undefined v) = ⊥
IsLineFault bytes Memory = Unit {0}

-- so many lines were read, each of its form, where the first of them is line k behind the header
pub record HasFormed (h : Header) (k count : ℕ) (old new : Rest) : Type 0 where
  pub before : List (List ℕ)
  pub lines : lines_of old.bytes ≡ before ++ lines_of new.bytes
  pub are : AreFormed h k before
  pub long : length before ≡ count
  pub number : new.line ≡ old.line + count
