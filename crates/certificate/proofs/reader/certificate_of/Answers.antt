use Rattle.std.proofs.Common.{[]}
use Rattle.certificate.proofs.reader.certificate_of.Goals as goal

pub of_version-requires : goal.of_version-requires
of_version-requires c = rw (c.input_count.ensures.count, c.input_count-2.ensures.count) (c.requires (record { line = 0; bytes = [] }))
