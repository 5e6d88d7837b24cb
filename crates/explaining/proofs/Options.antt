-- What is told of an Option's value.
use Rattle.std.proofs.Common.{Option, Some, None}
use Rattle.std.specs.Prelude.{IfSome, IfNone}

pub if_some : {A : Type 0} (P Q : A → Type 0) (o : Option A) → ((a : A) → P a → Q a) → IfSome o P → IfSome o Q
if_some P Q None f h = tt
if_some P Q (Some a) f h = f a h

pub if_none : {A : Type 0} (P Q : Type 0) (o : Option A) → (P → Q) → IfNone o P → IfNone o Q
if_none P Q None f h = f h
if_none P Q (Some a) f h = tt
