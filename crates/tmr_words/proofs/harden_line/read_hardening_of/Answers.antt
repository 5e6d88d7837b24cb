use Rattle.std.proofs.Common.{List, ℕ, ◌∙◌, sym, ap}
use Rattle.std.specs.Borrow.{Bor}
use Rattle.tmr_words.specs.Private.WordsRead.{words_in}
use Rattle.tmr_words.specs.FileWords.{read_words}
use Rattle.tmr_words.specs.Line.{said, positive_number, version_number, hardening_with}
use Rattle.tmr_words.proofs.LineLaws.{all_said}
use Rattle.tmr_words.proofs.harden_line.read_hardening_of.Goals as goal

pub returns-in-Some-said_number : goal.returns-in-Some-said_number
returns-in-Some-said_number c =
    c.hardening_words.ensures
    ∙ (ap (λ (ws : List (Bor (List ℕ))). hardening_with c.args.limits c.args.form c.in-Some.size c.in-Some-said_version.version c.in-Some-said_number.most (read_words ws)) c.as_slice-in-Some-said_number.ensures.value
    ∙ sym (all_said c.args.limits c.args.form (words_in c.args.words.now) c.in-Some.size c.in-Some-said_version.version c.in-Some-said_number.most
    (ap (λ (ws : List (Bor (List ℕ))). said positive_number 64 (read_words ws)) (sym c.as_slice.ensures.value) ∙ sym c.in-Some.ensures.said)
    (ap (λ (ws : List (Bor (List ℕ))). said version_number 1 (read_words ws)) (sym c.as_slice-in-Some.ensures.value) ∙ sym c.in-Some-said_version.ensures.said)
    (ap (λ (ws : List (Bor (List ℕ))). said positive_number 4294967295 (read_words ws)) (sym c.as_slice-in-Some-said_version.ensures.value) ∙ sym c.in-Some-said_number.ensures.said)))
