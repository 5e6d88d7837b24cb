-- The first entry of a list that passes a test, which is also given the entries before it.
use Rattle.std.specs.Prelude.{◌≡◌, Bool, true, false, List, ◌∷◌, ◌++◌}

-- no entry passes the test
pub record HasNone {A : Type 0} (test : List A → A → Bool) (xs : List A) : Type 0 where
  pub none : (before : List A) (x : A) (after : List A) → xs ≡ before ++ x ∷ after → test before x ≡ false

-- x passes the test, and no entry before it does
pub record IsFirst {A : Type 0} (test : List A → A → Bool) (xs : List A) (x : A) : Type 0 where
  pub before : List A
  pub after : List A
  pub split : xs ≡ before ++ x ∷ after
  pub earlier : HasNone test before
  pub passes : test before x ≡ true
