-- What a reading call answers.
use Rattle.std.specs.Prelude.{◌≡◌, Result, Ok, Err}
use Rattle.schedules.specs.declared.fault.ScheduleFault.{ScheduleFault}
use Rattle.schedules.specs.declared.fault.ScheduleFault.TheVariants.{NotToml, Top, TooMany, Row, Entry, UnknownNet, Range, Doubled, Start, Memory}

-- the fault is the one that reading gives, unless memory ran out
abbrev pub Fails : {Y : Type 0} → ScheduleFault → Result Y ScheduleFault → Type 0
Fails NotToml read = read ≡ Err NotToml
Fails Top read = read ≡ Err Top
Fails TooMany read = read ≡ Err TooMany
Fails (Row t) read = read ≡ Err (Row t)
Fails (Entry j) read = read ≡ Err (Entry j)
Fails (UnknownNet j) read = read ≡ Err (UnknownNet j)
Fails (Range j) read = read ≡ Err (Range j)
Fails (Doubled j) read = read ≡ Err (Doubled j)
Fails Start read = read ≡ Err Start
Fails Memory read = Unit {0}

-- what a call returned, seen by view, is what reading gives, unless memory ran out
abbrev pub Gives : {X Y : Type 0} → (X → Y) → Result X ScheduleFault → Result Y ScheduleFault → Type 0
Gives view (Ok x) read = read ≡ Ok (view x)
Gives view (Err e) read = Fails e read
