-- What `guard` leaves in its file.
use Rattle.std.proofs.Common.{◌≡◌, ◌≢◌, ℕ, Bool, List, [], ◌∷◌, Option, Some, None, refl, sym, ap, subst, ◌∙◌}
use Rattle.std.specs.Prelude.{IfSome, IsSomeAnd}
use Rattle.std.specs.FinMap.{get, insert}
use Rattle.flat_net.specs.Net.{Net}
use Rattle.hierarchy.specs.Drafted.{open_marks}
use Rattle.library_faults.specs.Flat.{flat_model}
use Rattle.hierarchy.specs.Flatten.{IsFlat}
use Rattle.hierarchy.proofs.Marks.{marks_counted}
use Rattle.blif_writer.specs.NetOf.{IsNetOf, IsFreeNetOf}
use Rattle.blif_writer.specs.Text.{flat_text}
use Rattle.dwc.specs.Guard.{guard_net}
use Rattle.limits.specs.Most.{most_hardened}
use Rattle.tmr_outside.specs.Contents.{Contents}
use Rattle.tmr_outside.specs.Seen.{FilesSeen}
use Rattle.tmr_outside.proofs.ContentsLemmas.{get-insert_other, get-insert_same}
use Rattle.tmr_words.specs.Line.{Command, Guarding, Guard, CheckGuard}
use Rattle.tmr_top.specs.Loads.{original_file, hardened_file}
use Rattle.tmr_top.specs.Designs.{HoldsDesign}
use Rattle.tmr_texts.specs.Texts.{guarded_line}
use Rattle.tmr_top.specs.Causes.{Where, Succeeds}
use Rattle.tmr_top.specs.Saves.{with_texts, IsDone, Completes}
use Rattle.tmr_top.specs.HardenedFiles.{LeavesGuarded}

-- a text that gives a design gives its marks too
free_read : (bytes : List ℕ) (limit : ℕ) (n : Net) (count : ℕ) (is : IsNetOf bytes limit n count) → IsFreeNetOf bytes limit n (open_marks (flat_model is.library))
free_read bytes limit n count is = record {
  library = is.library;
  reads = is.reads;
  flat = record {
    flat = subst (λ (k : ℕ). IsFlat is.library limit n k) (is.flat.open_are ∙ sym (marks_counted (flat_model is.library))) is.flat;
    marks_are = refl;
  };
}

module _ (w : Guarding) (held now : Contents) (text : List ℕ) (is : IsDone (Guard w) held (Some now) text) where
  abbrev design : List ℕ
  design = flat_text (guard_net is.outcome.original)

  abbrev marks : List Bool
  marks = open_marks (flat_model is.outcome.read.library)

  saved : now ≡ insert held w.guarded design
  saved =
      let same : now ≡ with_texts held (w.guarded ∷ []) is.saved = let e = is.whole in cc in
      same ∙ ap (with_texts held (w.guarded ∷ [])) is.outcome.saves

  guarded_there : get now w.guarded ≡ Some design
  guarded_there = ap (λ (m : Contents). get m w.guarded) saved ∙ get-insert_same held w.guarded design

  guarded_read : HoldsDesign now (hardened_file w.limits w.guarded) (guard_net is.outcome.original) marks
  guarded_read = record {
    bytes = design;
    there = guarded_there;
    short = is.outcome.keeps;
    fact = free_read design (most_hardened w.limits) (guard_net is.outcome.original) 0 is.outcome.read;
  }

  module _ (other : w.original ≢ w.guarded) where
    original_there : get now w.original ≡ Some is.outcome.holds.bytes
    original_there = ap (λ (m : Contents). get m w.original) saved ∙ (get-insert_other held w.guarded design w.original other ∙ is.outcome.holds.there)

    original_read : HoldsDesign now (original_file w.limits w.original) is.outcome.original is.outcome.free
    original_read = record { bytes = is.outcome.holds.bytes; there = original_there; short = is.outcome.holds.short; fact = is.outcome.holds.fact }

    checks : Succeeds (CheckGuard w) now
    checks = record {
      fine = (
        record { bytes = original_read.bytes; there = original_read.there; short = original_read.short; fact = tt },
        (record { bytes = design; there = guarded_there; short = is.outcome.keeps; fact = tt }, tt),
      );
      saved = [];
      text = guarded_line;
      outcome = (
        record {
          files = record {
            original = is.outcome.original;
            free = is.outcome.free;
            original_read = original_read;
            guarded = guard_net is.outcome.original;
            guarded_free = marks;
            guarded_read = guarded_read;
          };
          is = refl;
          guards = is.outcome.guards;
          says = refl;
        },
        refl,
      );
    }

  whole : LeavesGuarded w held now
  whole = record {
    original = is.outcome.original;
    free = is.outcome.free;
    original_held = is.outcome.holds;
    marks = marks;
    guarded_read = guarded_read;
    checks = checks;
  }

-- the same, whatever is told
leaves_guarded : (w : Guarding) (held now : Option Contents) → IfSome held (λ h. Completes (Guard w) h now) → IfSome held (λ h. IsSomeAnd now (LeavesGuarded w h))
leaves_guarded w None now is = tt
leaves_guarded w (Some h) None is = let e = is.is_done.whole in absurd cc
leaves_guarded w (Some h) (Some m) is = whole w h m is.text is.is_done

-- the same, where the words mean a guarding
pub guards : (line : Option Command) (w : Guarding) (old new : FilesSeen) → line ≡ Some (Guard w) → Where line old (λ c held. Completes c held new.contents) → IfSome old.contents (λ h. IsSomeAnd new.contents (LeavesGuarded w h))
guards line w old new is done = leaves_guarded w old.contents new.contents (subst (λ (l : Option Command). Where l old (λ c held. Completes c held new.contents)) is done)
