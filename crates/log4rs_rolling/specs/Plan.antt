-- What is planned for the operations of a store or a console in memory.
use Rattle.std.specs.Prelude.{ℕ, List, [], ◌∷◌, min, max}
use Rattle.log4rs_rolling.specs.declared.store.Planned.{Planned}
use Rattle.log4rs_rolling.specs.declared.store.Planned.TheVariants.{Do, Refuse, Take}

-- what is planned for the next operation: past the plan's end each is done
abbrev pub planned : List Planned → Planned
planned [] = Do
planned (p ∷ ps) = p

-- how many of so many bytes a write takes that is not refused
abbrev pub taken : Planned → ℕ → ℕ
taken (Take most) n = min n (max most 1)
taken Do n = n
taken Refuse n = n
