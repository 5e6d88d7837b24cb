use Rattle.std.proofs.Common.{refl, inr}
use Rattle.schedules.proofs.Documents.{document_of_text, no_document}
use Rattle.schedules.proofs.document.read_document.Goals as goal

pub returns-in-Ok-clause-ok : goal.returns-in-Ok-clause-ok
returns-in-Ok-clause-ok c = document_of_text _ _ c.in-Ok.ensures.ok.0 c.in-Ok.ensures.ok.1

pub returns-else-is_memory-clause-not_toml : goal.returns-else-is_memory-clause-not_toml
returns-else-is_memory-clause-not_toml c = inr (refl, no_document _ (λ text. c.in-Err.ensures.refused (λ memory. cc (c.if-is_memory.ensures.1 memory)) text))
