-- Which threads work beside a program.
use Rattle.std.specs.Prelude.{Option}
use Rattle.std.specs.declared.thread.JoinHandle.{JoinHandle}
use Rattle.log4rs_threads.specs.declared.workers.WorkersOf.{WorkersOf}

-- the one that makes steps, where there is one
abbrev pub stepping_of : {A F H W : Type 0} → WorkersOf A F H W → Option (JoinHandle Unit)
stepping_of workers = workers.stepping

-- the one that reads the configuration again, where there is one
abbrev pub rereading_of : {A F H W : Type 0} → WorkersOf A F H W → Option (JoinHandle Unit)
rereading_of workers = workers.rereading
