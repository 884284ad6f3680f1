-- What stands behind the lock of an appender.
use Rattle.std.specs.Prelude.{◌≡◌, Bool, IfSome, IsTrue}
use Rattle.std.specs.Arc.{arc_value}
use Rattle.log4rs_append.specs.PlainFile.{IsShut}
use Rattle.log4rs_append.specs.Sink.{Sink}
use Rattle.log4rs_append.specs.declared.locked.Guarded.{Guarded}
use Rattle.log4rs_append.specs.declared.locked.Locked.{Locked}

-- the appender
abbrev pub appender_of : {A : Type 0} → Guarded A → A
appender_of k = k.appender

-- whether it is retired
abbrev pub is_retired : {A : Type 0} → Guarded A → Bool
is_retired k = k.is_retired

-- no file is open of those that a sink shows
abbrev pub ShowsShut : Sink → Type 0
ShowsShut sink =
    IfSome sink.rolled (λ file. IsShut file.disk) × IfSome sink.plain (λ file. IsShut file.disk)

-- a retired appender has its file closed; false of one that is retired over an open file
abbrev pub IsShutIfRetired : {A : Type 0} → (A → Sink) → Guarded A → Type 0
IsShutIfRetired sink k = IsTrue (is_retired k) → ShowsShut (sink (appender_of k))

-- that stays so
abbrev pub StaysShut : {A : Type 0} → (A → Sink) → Guarded A → Guarded A → Type 0
StaysShut sink before now = IsShutIfRetired sink before → IsShutIfRetired sink now

-- the appender that a lock was made with
abbrev pub began_as : {A : Type 0} → Locked A → A
began_as lock = (arc_value lock.kept).began.value

-- two locks were made with the same appender
abbrev pub AreShares : {A : Type 0} → Locked A → Locked A → Type 0
AreShares one other = began_as other ≡ began_as one
