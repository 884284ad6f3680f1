-- The store that is stopped.
use Rattle.std.specs.Prelude.{ℕ}
use Rattle.log4rs_rolling.specs.declared.store.Store as Store
use Rattle.log4rs_restarts.specs.Stops.{Start, start_of}
use Rattle.log4rs_restarts.specs.declared.stopping.Stopping.{Stopping}

-- the store whose operations are refused after so many
abbrev pub inner_of : {S : Type 0} {store : Store.Ghosts S} → Stopping S store → S
inner_of stopping = stopping.inner

-- how its run began
abbrev pub start_in : {S : Type 0} {store : Store.Ghosts S} → Stopping S store → Start
start_in {store = store} stopping = start_of stopping.limit (store.disk stopping.begun.value)

-- how many operations it let through
abbrev pub passed_in : {S : Type 0} {store : Store.Ghosts S} → Stopping S store → ℕ
passed_in stopping = stopping.passed

-- how many operations it refused because so many were let through
abbrev pub stopped_in : {S : Type 0} {store : Store.Ghosts S} → Stopping S store → ℕ
stopped_in stopping = stopping.stopped
