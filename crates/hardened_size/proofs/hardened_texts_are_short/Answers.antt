use Rattle.hardened_size.proofs.hardened_texts_are_short.Goals as goal
use Rattle.hardened_size.proofs.Law.{texts_are_short, texts_keep_limits, text_keeps_limit}

pub returns-clause-short : goal.returns-clause-short
returns-clause-short c = texts_are_short

pub returns-clause-within : goal.returns-clause-within
returns-clause-within c = texts_keep_limits

pub returns-clause-original : goal.returns-clause-original
returns-clause-original c = text_keeps_limit
