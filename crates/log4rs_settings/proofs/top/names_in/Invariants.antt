use Rattle.std.proofs.Common.{◌≡◌, ◌++◌, Ok}
use Rattle.log4rs_settings.specs.View.{items_view}
use Rattle.log4rs_settings.specs.Part.{each_item}
use Rattle.log4rs_settings.specs.Loggers.{names_view, read_name}
use Rattle.log4rs_settings.proofs.top.names_in.Given as goal

abbrev pub invariant-loop-tree : goal.invariant-loop-tree
invariant-loop-tree l = (l.fn.trees.items ≡ l.yielded ++ l.tree-iterator.rest.items) × (each_item read_name 0 (items_view l.yielded) ≡ Ok (names_view l.names))
