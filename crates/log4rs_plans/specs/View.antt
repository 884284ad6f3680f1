-- Plans as values.
use Rattle.std.specs.Prelude.{◌≡◌, List, map, Result, Ok, Err, Vec, string_bytes}
use Rattle.std.specs.declared.alloc.Global.{Global}
use Rattle.log4rs_base.specs.Text.{Text}
use Rattle.log4rs_settings.specs.Loggers.{loggers_view, root_view}
use Rattle.log4rs_settings.specs.Part.{Part, part_of}
use Rattle.log4rs_settings.specs.Plan.{appender_of}
use Rattle.log4rs_settings.specs.declared.part.PartError.{PartError}
use Rattle.log4rs_settings.specs.declared.part.PartError.TheVariants as part
use Rattle.log4rs_settings.specs.declared.part.PartFault.{PartFault}
use Rattle.log4rs_plans.specs.Plans.{Asked, Plans}
use Rattle.log4rs_plans.specs.declared.asked.Asked.{Asked as AskedValue}
use Rattle.log4rs_plans.specs.declared.asked.Plans.{Plans as PlansValue}

-- a plan, seen by `see`, or its fault with the place and the value
abbrev pub told : {T A : Type 0} → (T → A) → Result T PartFault → Result A Part
told see (Ok plan) = Ok (see plan)
told see (Err fault) = Err (part_of fault)

-- what was read, or its fault, but no want of memory
abbrev pub IsTold : {T : Type 0} → Result T PartError → Result T PartFault → Type 0
IsTold (Ok plan) result = result ≡ Ok plan
IsTold (Err (part.Fault fault)) result = result ≡ Err fault
IsTold (Err part.Memory) result = ⊥

-- what an appender asks for, by its name
abbrev pub asked_view : AskedValue → Text × Asked
asked_view a = (
  string_bytes a.name,
  record {
    filters = map (told (λ plan. plan)) a.filters.items;
    plan = told appender_of a.plan;
  },
)

abbrev pub each_asked : Vec AskedValue Global → List (Text × Asked)
each_asked appenders = map asked_view appenders.items

abbrev pub plans_view : PlansValue → Plans
plans_view p = record {
  rate = p.rate;
  root = root_view p.root;
  appenders = each_asked p.appenders;
  loggers = loggers_view p.loggers;
}
