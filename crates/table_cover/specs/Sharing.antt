-- What a cover keeps.
use Rattle.std.specs.Prelude.{ℕ, true, []}
use Rattle.table_cover.specs.Cover.{PlainCover}
use Rattle.table_cover.specs.declared.cover.Form.{Form}
use Rattle.table_cover.specs.declared.cover.Form.TheVariants.{Bare, Held}

-- a cover of this width without rows
abbrev pub bare_cover : ℕ → PlainCover
bare_cover width = record { width = width; is_on = true; rows = [] }

abbrev pub cover_of : Form → PlainCover
cover_of (Bare width) = bare_cover width
cover_of (Held rows) = rows.value
