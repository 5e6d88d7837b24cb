use Rattle.tmr_top.proofs.HardenLaws.{hardened_from, limits_kept}
use Rattle.tmr_top.proofs.commands.harden.texts_keep_limits.Goals as goal

pub returns-clause-limits : goal.returns-clause-limits
returns-clause-limits c = λ a.
    limits_kept _ _ _ _ _ (hardened_from _ _ _ _ _ _ _ _ _ a.valid a.certified c.args.words.now.sized a.bounded.form) c.requires
    (c.hardened_texts_are_short.ensures.original _ c.checked_nodes-original.ensures.valid)
    (c.hardened_texts_are_short.ensures.within _ c.checked_nodes-original.ensures.valid)

pub returns-clause-short : goal.returns-clause-short
returns-clause-short c = λ a.
    c.hardened_texts_are_short.ensures.short _ c.checked_nodes-original.ensures.valid _ _ (hardened_from _ _ _ _ _ _ _ _ _ a.valid a.certified c.args.words.now.sized a.bounded.form)
