-- What contracts see of doors that tell their steps.
use Rattle.std.specs.Prelude.{List}
use Rattle.log4rs_threads.specs.Steps.{Step}
use Rattle.log4rs_threads.specs.declared.noted_doors.NotedDoors.{NotedDoors}

-- the doors inside
abbrev pub inner_of : {D : Type 0} → NotedDoors D → D
inner_of doors = doors.inner

-- the steps that were made on them, in order
abbrev pub steps_on : {D : Type 0} → NotedDoors D → List Step
steps_on doors = doors.steps.steps
