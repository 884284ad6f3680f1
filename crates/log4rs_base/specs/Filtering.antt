-- Decisions of filters.
use Rattle.std.specs.Prelude.{Bool, true, false, List, [], ◌∷◌, map, if◌then◌else◌}
use Rattle.log4rs_base.specs.declared.record.Record.{Record}
use Rattle.log4rs_base.specs.declared.filter.FilterOf.{FilterOf}
use Rattle.log4rs_base.specs.declared.filter.FilterOf.TheVariants.{Threshold, Custom}
use Rattle.log.specs.Level.{allows}
use Rattle.log.specs.declared.level.Level.{Level}
use Rattle.log.specs.declared.level.LevelFilter.{LevelFilter}
use Rattle.log4rs_base.specs.declared.filter.Response.{Response}
use Rattle.log4rs_base.specs.declared.filter.Response.TheVariants.{Accept, Neutral, Reject}

-- a threshold rejects levels that are more verbose than its own
abbrev pub threshold_answer : LevelFilter → Level → Response
threshold_answer limit level = if allows limit level then Neutral else Reject

-- the first decision that is not neutral counts; without one, the record passes
abbrev pub decided : List Response → Bool
decided [] = true
decided (Accept ∷ _) = true
decided (Reject ∷ _) = false
decided (Neutral ∷ rest) = decided rest

abbrev pub passes : {F : Type 0} → (F → Response) → List F → Bool
passes answer filters = decided (map answer filters)

-- the decision of the filter in one of any kind
abbrev pub answer_of : {C : Type 0} → (C → Record → Response) → FilterOf C → Record → Response
answer_of custom (Threshold t) r = threshold_answer t.level r.level
answer_of custom (Custom c) r = custom c r
