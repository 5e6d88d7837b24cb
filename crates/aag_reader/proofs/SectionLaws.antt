-- One line more of a section.
use Rattle.std.proofs.Common.{◌≡◌, ℕ, ◌+◌, ◌<◌, List, [], ◌∷◌, ◌++◌, map, Option, Some, None, refl, sym, ap, subst, ◌∙◌, arith, append_assoc, length-append}
use Rattle.aag_reader.specs.declared.fault.GraphFault.{GraphFault}
use Rattle.aag_reader.specs.declared.fault.GraphFault.TheVariants.{Line, Doubled, Undefined, Memory}
use Rattle.aag_text.specs.Lines.{lines_of, words_of}
use Rattle.aag_reader.specs.Private.Sections.{Rest, HasWords, HasNoWords, HasNext, HasNoNext, IsStuck, HasSection, StopsIn}

pub has_words : (old new : Rest) (line : List ℕ) (words : List (List ℕ)) → lines_of old.bytes ≡ line ∷ lines_of new.bytes → words ≡ words_of line → new.line ≡ old.line + 1 → HasWords old new words
has_words old new line words lines are number = record { line = line; lines = lines; are = are; number = number }

module _ {A : Type 0} (form : List (List ℕ) → Option A) where
  -- the next line is of the form
  pub next_is : (old new : Rest) (words : List (List ℕ)) (item : A) → HasWords old new words → form words ≡ Some item → HasNext form old new item
  next_is old new words item has is = record { line = has.line; lines = has.lines; is = ap form (sym has.are) ∙ is; number = has.number }

  stuck_none : (lines : List (List ℕ)) → lines ≡ [] → IsStuck form lines
  stuck_none lines e = subst (IsStuck form) (sym e) tt

  -- it is not
  pub next_is_none : (old new : Rest) (words : List (List ℕ)) → HasWords old new words → form words ≡ None → HasNoNext form old (Line old.line)
  next_is_none old new words has is = (refl, subst (IsStuck form) (sym has.lines) (ap form (sym has.are) ∙ is))

  -- there is none
  pub none_next : (old : Rest) (fault : GraphFault) → HasNoWords old fault → HasNoNext form old fault
  none_next old (Line number) none = (none.0, stuck_none _ none.1)
  none_next old (Doubled v) none = none
  none_next old (Undefined v) none = none
  none_next old Memory none = none

  pub section_starts : (old : Rest) → HasSection form 0 old old []
  section_starts old = record { section = []; lines = refl; are = refl; long = refl; number = omega arith }

  map_join : {B C : Type 0} (f : B → C) (xs : List B) (x : B) → map f (xs ++ x ∷ []) ≡ map f xs ++ f x ∷ []
  map_join f [] x = refl
  map_join f (y ∷ xs) x = ap (λ (r : List _). f y ∷ r) (map_join f xs x)

  -- one line more
  pub section_more : (count : ℕ) (a b c : Rest) (items : List A) (item : A) → HasSection form count a b items → HasNext form b c item → HasSection form (count + 1) a c (items ++ item ∷ [])
  section_more count a b c items item s next = record {
    section = s.section ++ next.line ∷ [];
    lines = s.lines ∙ (ap (λ (r : List (List ℕ)). s.section ++ r) next.lines ∙ sym (append_assoc s.section (next.line ∷ []) (lines_of c.bytes)));
    are =
        map_join (λ line. form (words_of line)) s.section next.line
        ∙ (ap (λ (r : List (Option A)). r ++ form (words_of next.line) ∷ []) s.are
        ∙ (ap (λ (o : Option A). map Some items ++ o ∷ []) next.is ∙ sym (map_join Some items item)));
    long = omega (arith, length-append items (item ∷ []), s.long);
    number = omega (arith, next.number, s.number);
  }

  -- the next line is none of the section
  pub section_stops : (i count : ℕ) (a b : Rest) (items : List A) (fault : GraphFault) → i < count → HasSection form i a b items → HasNoNext form b fault → StopsIn form count a fault
  section_stops i count a b items (Line number) less s none = record {
    before = s.section;
    rest = lines_of b.bytes;
    items = items;
    lines = s.lines;
    are = s.are;
    short = omega (arith, less, s.long);
    stuck = none.1;
    is = omega (arith, none.0, s.number, s.long);
  }
  section_stops i count a b items (Doubled v) less s none = none
  section_stops i count a b items (Undefined v) less s none = none
  section_stops i count a b items Memory less s none = none

pub ruleset sections = (section_starts, section_more, section_stops)
