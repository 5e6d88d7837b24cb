-- Statements that are not bad give what a library keeps.
use Rattle.std.proofs.Common.{◌≡◌, ◌≢◌, ℕ, ◌<◌, ◌==◌, Bool, true, false, cond, List, [], ◌∷◌, ◌++◌, length, map, get_or, refl, sym, ◌∙◌, ap, subst, arith, append_assoc, append-nil, Option, Some, None, option_map, Ok}
use Rattle.std.specs.Prelude.{All}
use Rattle.std.specs.Str.{bytes_eq}
use Rattle.std.proofs.lemmas.List.{map-append, length-map}
use Rattle.std.proofs.lemmas.List.Quantifiers.{all_pairs_push}
use Rattle.std.proofs.lemmas.List.Elements.{All-push, All-append, All-head, All-tail, All-cons, All-nil}
use Rattle.std.proofs.lemmas.List.Folds.{list_any_at}
use Rattle.std.proofs.lemmas.Slice.Eq.{bytes_eq-Decides}
use Rattle.blif_text.specs.declared.fault.TextKind.{TextKind}
use Rattle.blif_text.specs.declared.statements.word.Word.{Word}
use Rattle.blif_text.specs.declared.statements.word.Word.TheVariants.{Model, Inputs, Outputs, Clock, Names, Latch, Subckt, End, Unknown, Row}
use Rattle.blif_text.specs.Text.{Statement, statement, spoken}
use Rattle.blif_text.specs.Kind.{Marks, is_among, model_kind, port_kind, ports_kind, when, ◌or_else◌, kind_at, kind_here}
use Rattle.blif_text.specs.Models.{PlainModel, PlainElement, appearing, first_token, table, register, instance}
use Rattle.blif_text.specs.Library.{Differ, FitsPins, IsModel, IsLibrary, name_of}
use Rattle.blif_text.specs.Private.Progress.{Progress, OpenModel, OpenTable, nothing, fresh, here_in, kind_in, after, all_models, all_elements, ended, ended_model, more_of, with_table, with_row}
use Rattle.blif_text.specs.Private.Stands.{Takes}
use Rattle.blif_text.specs.Private.Sound.{IsSound}

-- Names that differ.

not_there : (names : List (List ℕ)) (name : List ℕ) (k : ℕ) (d : List ℕ) → k < length names → is_among names name ≡ false → get_or names k d ≢ name
not_there names name k d within none same =
    let there : is_among names name ≡ true = list_any_at (bytes_eq name) names k d within ((bytes_eq-Decides name (get_or names k d)).1 (sym same)) in
    let wrong : true ≡ false = sym there ∙ none in
    cc

differ-one : (names : List (List ℕ)) (name : List ℕ) → Differ names → is_among names name ≡ false → Differ (names ++ name ∷ [])
differ-one names name d none = all_pairs_push (λ a b. a ≢ b) names name d (λ k e within. not_there names name k e within none)

first_none : (a b : Option TextKind) → a or_else b ≡ None → (a ≡ None) × (b ≡ None)
first_none None b h = (refl, h)
first_none (Some k) b h = absurd cc

when_none : (b : Bool) (k : TextKind) → when b k ≡ None → b ≡ false
when_none true k h = absurd cc
when_none false k h = refl

differ-port : (names : List (List ℕ)) (name : List ℕ) → Differ names → port_kind names name ≡ None → Differ (names ++ name ∷ [])
unfolding port_kind
differ-port names name d good = differ-one names name d (when_none _ _ (first_none _ _ good).1)

differ-ports : (names more : List (List ℕ)) → Differ names → ports_kind names more ≡ None → Differ (names ++ more)
unfolding ports_kind
differ-ports names [] d good = subst Differ (sym (append-nil names)) d
differ-ports names (name ∷ more) d good =
    let both = first_none _ _ good in
    subst Differ (append_assoc names (name ∷ []) more) (differ-ports (names ++ name ∷ []) more (differ-port names name d both.0) both.1)

differ-appearing : (names more : List (List ℕ)) → Differ names → Differ (appearing names more)
unfolding appearing
differ-appearing names [] d = d
differ-appearing names (name ∷ more) d = differ-appearing (cond (is_among names name) names (names ++ name ∷ [])) more (go (is_among names name) refl)
  where
    go : (b : Bool) → is_among names name ≡ b → Differ (cond b names (names ++ name ∷ []))
    go true e = d
    go false e = differ-one names name d e

differ-none : Differ []
differ-none = λ i j d below within. absurd (omega (arith, within))

named : (names args : List (List ℕ)) → Differ names → model_kind names args ≡ None → Differ (names ++ args)
unfolding model_kind
named names [] d good = absurd cc
named names (x ∷ []) d good = differ-one names x d (when_none _ _ (first_none _ _ good).1)
named names (x ∷ y ∷ args) d good = absurd cc

named_one : (names args : List (List ℕ)) → model_kind names args ≡ None → first_token args ∷ [] ≡ args
unfolding model_kind
named_one names [] good = absurd cc
named_one names (x ∷ []) good = refl
named_one names (x ∷ y ∷ args) good = absurd cc

-- Models.

all_front : {X : Type 0} (P : X → Type 0) (xs ys : List X) → All P (xs ++ ys) → All P xs
all_front P [] ys h = All-nil P
all_front P (x ∷ xs) ys h = All-cons P x xs (All-head P x (xs ++ ys) h) (all_front P xs ys (All-tail P x (xs ++ ys) h))

all_last : {X : Type 0} (P : X → Type 0) (xs : List X) (y : X) → All P (xs ++ y ∷ []) → P y
all_last P [] y h = All-head P y [] h
all_last P (x ∷ xs) y h = all_last P xs y (All-tail P x (xs ++ y ∷ []) h)

-- Covers.

fits_table : (tokens : List (List ℕ)) (rows : List Marks) → FitsPins (table tokens rows)
unfolding table
fits_table tokens rows = refl

fits_one : (e : PlainElement) → FitsPins e → All FitsPins (e ∷ [])
fits_one e h = All-cons FitsPins e [] h (All-nil FitsPins)

fits_register : (args : List (List ℕ)) → All FitsPins (register args)
unfolding register
fits_register [] = All-nil FitsPins
fits_register (a ∷ []) = All-nil FitsPins
fits_register (a ∷ b ∷ []) = fits_one _ tt
fits_register (a ∷ b ∷ c ∷ []) = fits_one _ tt
fits_register (a ∷ b ∷ c ∷ d ∷ []) = fits_one _ tt
fits_register (a ∷ b ∷ c ∷ d ∷ e ∷ []) = fits_one _ tt
fits_register (a ∷ b ∷ c ∷ d ∷ e ∷ f ∷ args) = All-nil FitsPins

fits_instance : (args : List (List ℕ)) → All FitsPins (instance args)
unfolding instance
fits_instance [] = All-nil FitsPins
fits_instance (a ∷ args) = fits_one _ tt

fits_row : (es : List PlainElement) (t : Option OpenTable) (tokens : List (List ℕ)) → All FitsPins (with_table es t) → All FitsPins (with_table es (option_map (with_row tokens) t))
fits_row es None tokens h = h
fits_row es (Some t) tokens h = All-push FitsPins es _ (all_front FitsPins es _ h) (fits_table _ _)

progress : List PlainModel → List (List ℕ) → Option OpenModel → Progress
progress models names open_model = record { models = models; names = names; open_model = open_model }

-- the open model with more in it is a model
Stays : Word → ℕ → List ℕ → List (List ℕ) → List (List ℕ) → OpenModel → Type 0
Stays w line first args names m =
    let s : Statement = record { line = line; word = w; first = first; arguments = args } in
    kind_here w names (here_in m) s ≡ None → IsModel (ended_model m) → IsModel (ended_model (more_of w s m))

stays : (w : Word) (line : ℕ) (first : List ℕ) (args names : List (List ℕ)) (m : OpenModel) → Stays w line first args names m
unfolding Stays
stays Inputs line first args names m good h = record { inputs = differ-appearing m.ports args h.inputs; outputs = h.outputs; covers = h.covers }
stays Clock line first args names m good h = record { inputs = differ-appearing m.ports args h.inputs; outputs = h.outputs; covers = h.covers }
stays Outputs line first args names m good h = record { inputs = h.inputs; outputs = differ-ports m.outputs args h.outputs good; covers = h.covers }
stays Names line first args names m good h = record { inputs = h.inputs; outputs = h.outputs; covers = All-push FitsPins (all_elements m) (table args []) h.covers (fits_table args []) }
stays Latch line first args names m good h = record { inputs = h.inputs; outputs = h.outputs; covers = All-append FitsPins (all_elements m) (register args) h.covers (fits_register args) }
stays Subckt line first args names m good h = record { inputs = h.inputs; outputs = h.outputs; covers = All-append FitsPins (all_elements m) (instance args) h.covers (fits_instance args) }
stays Row line first args names m good h = record { inputs = h.inputs; outputs = h.outputs; covers = fits_row m.elements m.table (first ∷ args) h.covers }
stays Model line first args names m good h = h
stays End line first args names m good h = h
stays Unknown line first args names m good h = h

keeps_name : (w : Word) (s : Statement) (m : OpenModel) → (more_of w s m).name ≡ m.name
keeps_name Inputs s m = refl
keeps_name Clock s m = refl
keeps_name Outputs s m = refl
keeps_name Names s m = refl
keeps_name Latch s m = refl
keeps_name Subckt s m = refl
keeps_name Row s m = refl
keeps_name Model s m = refl
keeps_name End s m = refl
keeps_name Unknown s m = refl

-- one more statement of the open model
sound_within : (w : Word) (line : ℕ) (first : List ℕ) (args : List (List ℕ)) (ms : List PlainModel) (names : List (List ℕ)) (m : OpenModel)
    → let s : Statement = record { line = line; word = w; first = first; arguments = args } in
    kind_here w names (here_in m) s ≡ None → IsSound (progress ms names (Some m)) → IsSound (progress ms names (Some (more_of w s m)))
unfolding progress Stays
sound_within w line first args ms names m good h =
    let s : Statement = record { line = line; word = w; first = first; arguments = args } in
    record {
      names = h.names;
      listed = map-append name_of ms (ended_model (more_of w s m) ∷ [])
          ∙ ap (λ n. map name_of ms ++ n ∷ []) (keeps_name w s m)
          ∙ sym (map-append name_of ms (ended_model m ∷ []))
          ∙ h.listed;
      each = All-push IsModel ms (ended_model (more_of w s m)) (all_front IsModel ms (ended_model m ∷ []) h.each)
          (stays w line first args names m good (all_last IsModel ms (ended_model m) h.each));
    }

sound_model : (line : ℕ) (first : List ℕ) (args : List (List ℕ)) (ms : List PlainModel) (names : List (List ℕ)) (o : Option OpenModel)
    → model_kind names args ≡ None → IsSound (progress ms names o)
    → IsSound (progress (ms ++ ended o) (names ++ args) (Some (fresh (first_token args))))
unfolding progress
sound_model line first args ms names o good h = record {
  names = named names args h.names good;
  listed = map-append name_of (ms ++ ended o) (ended_model (fresh (first_token args)) ∷ [])
      ∙ ap (λ ns. ns ++ first_token args ∷ []) h.listed
      ∙ ap (λ xs. names ++ xs) (named_one names args good);
  each = All-push IsModel (ms ++ ended o) (ended_model (fresh (first_token args))) h.each (record { inputs = differ-none; outputs = differ-none; covers = All-nil FitsPins });
}

sound_end : (ms : List PlainModel) (names : List (List ℕ)) (o : Option OpenModel) → IsSound (progress ms names o) → IsSound (progress (ms ++ ended o) names None)
unfolding progress
sound_end ms names o h = record {
  names = h.names;
  listed = ap (map name_of) (append-nil (ms ++ ended o)) ∙ h.listed;
  each = subst (All IsModel) (sym (append-nil (ms ++ ended o))) h.each;
}

sound_step : (w : Word) (line : ℕ) (first : List ℕ) (args : List (List ℕ)) (ms : List PlainModel) (names : List (List ℕ)) (o : Option OpenModel)
    → let s : Statement = record { line = line; word = w; first = first; arguments = args } in
    kind_at names (option_map here_in o) s ≡ None → IsSound (progress ms names o) → IsSound (after (progress ms names o) s)
unfolding progress kind_at
sound_step Model line first args ms names None good h = sound_model line first args ms names None good h
sound_step Model line first args ms names (Some m) good h = sound_model line first args ms names (Some m) good h
sound_step End line first args ms names o good h = sound_end ms names o h
sound_step Inputs line first args ms names None good h = absurd cc
sound_step Clock line first args ms names None good h = absurd cc
sound_step Outputs line first args ms names None good h = absurd cc
sound_step Names line first args ms names None good h = absurd cc
sound_step Latch line first args ms names None good h = absurd cc
sound_step Subckt line first args ms names None good h = absurd cc
sound_step Unknown line first args ms names None good h = absurd cc
sound_step Row line first args ms names None good h = absurd cc
sound_step Inputs line first args ms names (Some m) good h = sound_within Inputs line first args ms names m good h
sound_step Clock line first args ms names (Some m) good h = sound_within Clock line first args ms names m good h
sound_step Outputs line first args ms names (Some m) good h = sound_within Outputs line first args ms names m good h
sound_step Names line first args ms names (Some m) good h = sound_within Names line first args ms names m good h
sound_step Latch line first args ms names (Some m) good h = sound_within Latch line first args ms names m good h
sound_step Subckt line first args ms names (Some m) good h = sound_within Subckt line first args ms names m good h
sound_step Unknown line first args ms names (Some m) good h = sound_within Unknown line first args ms names m good h
sound_step Row line first args ms names (Some m) good h = sound_within Row line first args ms names m good h

-- what is kept after one more statement that is not bad
pub sound-after : (p : Progress) (s : Statement) → kind_in p s ≡ None → IsSound p → IsSound (after p s)
unfolding progress
sound-after p s good h = sound_step s.word s.line s.first s.arguments p.models p.names p.open_model good h

-- nothing is read yet
pub sound-nothing : IsSound nothing
sound-nothing = record { names = differ-none; listed = refl; each = All-nil IsModel }

-- what is kept after the statement of a line, if there is one
pub taken_sound : (line : ℕ) (ts : List (List ℕ)) (q r : Progress) → Takes (spoken line ts) q r (Ok tt) → IsSound q → IsSound r
unfolding spoken
taken_sound line [] q r t h = subst IsSound (sym t.1) h
taken_sound line (first ∷ args) q r t h = subst IsSound (sym t.1) (sound-after q (statement line first args) t.0 h)

-- what is kept where some model was named is a library
pub sound_library : (q : Progress) (ms : List PlainModel) (empty : Bool) → IsSound q → length ms < 4294967296 → ms ≡ all_models q → empty ≡ (length q.names == 0) → empty ≡ false → IsLibrary ms
sound_library q ms empty h fewer e is some = subst IsLibrary (sym e) (record {
  some = omega (arith, long);
  few = omega (arith, ap length e, fewer);
  models = record { names = subst Differ (sym h.listed) h.names; each = h.each };
})
  where
    counted : length (all_models q) ≡ length q.names
    counted = sym (length-map (all_models q) name_of) ∙ ap length h.listed

    not_none : (length q.names == 0) ≡ false
    not_none = sym is ∙ some

    long : 0 < length (all_models q)
    long = grind (arith, counted, not_none)
