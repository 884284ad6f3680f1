use Rattle.std.proofs.Common.{◌≡◌, ℕ, [], ◌++◌}
use Rattle.log4rs_threads.specs.Held.{Holds}
use Rattle.log4rs_threads.specs.Running.{shapes_in, texts_at}
use Rattle.log4rs_threads.specs.Shapes.{appender_at, first_faults}
use Rattle.log4rs_threads.proofs.schedule.world.World.new.Given as goal

-- those so far are built, without faults, and their sinks are empty
abbrev pub invariant-loop-shape : goal.invariant-loop-shape
invariant-loop-shape l = record {
  order : l.fn.shapes.items ≡ l.yielded ++ l.shape-iterator.rest.items;
  given : shapes_in l.all.items ≡ l.yielded;
  empty : (s p : ℕ) → Holds (appender_at (shapes_in l.all.items) s p) [] (texts_at l.all.items s p);
  faultless : first_faults l.yielded ≡ [];
}
