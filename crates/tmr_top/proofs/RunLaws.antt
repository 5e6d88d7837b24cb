-- Lines of words, from what their command comes to.
use Rattle.std.proofs.Common.{◌≡◌, ◌≢◌, ◌⊎◌, ℕ, List, Option, Some, None, inl, inr, refl, sym, ◌∙◌}
use Rattle.tmr_outside.specs.Counts.{Rose}
use Rattle.tmr_outside.specs.Seen.{FilesSeen, SinkSeen, IsTold}
use Rattle.tmr_top.specs.declared.status.Status.{Status}
use Rattle.tmr_top.specs.declared.status.Status.TheVariants as status
use Rattle.tmr_words.specs.Line.{Command}
use Rattle.tmr_top.specs.Changes.{NoneFailed}
use Rattle.tmr_texts.specs.Texts.{usage_text, memory_text}
use Rattle.tmr_top.specs.Private.Works.{LeavesLine}
use Rattle.tmr_top.specs.Runs.{Acts, Ends, Prints, Ran}
use Rattle.tmr_top.proofs.ChangeLaws.{changes_none}

pub usage_acts : (line : Option Command) (seen : FilesSeen) (text : List ℕ) → line ≡ None → text ≡ usage_text → Acts line seen seen status.Usage text
usage_acts None seen text e says = (refl, inl (refl, says))
usage_acts (Some c) seen text e says = absurd cc

-- where nothing happened
pub nothing_left : (line : Option Command) (seen : FilesSeen) → LeavesLine line seen seen
nothing_left None seen = refl
nothing_left (Some c) seen = inl refl

pub memory_acts : (line : Option Command) (old new : FilesSeen) (text : List ℕ) → text ≡ memory_text → LeavesLine line old new → Acts line old new status.Memory text
memory_acts None old new text says leaves = (leaves, inr (refl, says))
memory_acts (Some c) old new text says leaves = (says, leaves)

pub ran : (line : Option Command) (old new : FilesSeen) (out put : SinkSeen) (decided answered : Status) (text : List ℕ) → Acts line old new decided text → (IsTold old → decided ≢ status.Fault → decided ≢ status.Memory → NoneFailed old new) → Ends text out put decided answered → Ran line old new out put answered
ran line old new out put decided answered text acts unfailed ends = record { decided = decided; text = text; acts = acts; unfailed = unfailed; ends = ends }

-- a status that is neither Fault nor Memory is the one that was decided
pub same_status : (decided answered : Status) (rose : Type 0) → (answered ≡ decided) ⊎ (answered ≡ status.Memory) ⊎ ((answered ≡ status.Fault) × (decided ≡ status.Done) × rose) → answered ≢ status.Fault → answered ≢ status.Memory → answered ≡ decided
same_status decided answered rose (inl e) fault memory = e
same_status decided answered rose (inr (inl e)) fault memory = absurd (memory e)
same_status decided answered rose (inr (inr e)) fault memory = absurd (fault e.0)

-- what is put of a status that is answered Done
pub prints : (P : List ℕ → Type 0) (text : List ℕ) (out put : SinkSeen) (decided answered : Status) → Ends text out put decided answered → (decided ≡ status.Done → P text) → answered ≡ status.Done → Prints P out put
prints P text out put decided answered ends fact done = record {
  text = text;
  fact = fact (sym (same_status decided answered (Rose out.put_count put.put_count) ends.same (λ f. cc) (λ m. cc)) ∙ done);
  whole = ends.done done;
}

-- NotAccepted is answered only where it was decided
pub still_agrees : (text : List ℕ) (out put : SinkSeen) (decided answered : Status) → Ends text out put decided answered → decided ≢ status.NotAccepted → answered ≢ status.NotAccepted
still_agrees text out put decided answered ends agrees e =
    agrees (sym (same_status decided answered (Rose out.put_count put.put_count) ends.same (λ f. cc) (λ m. cc)) ∙ e)

pub ruleset lines = (usage_acts, nothing_left, changes_none)

pub ruleset runs = (memory_acts, ran, prints, still_agrees)
