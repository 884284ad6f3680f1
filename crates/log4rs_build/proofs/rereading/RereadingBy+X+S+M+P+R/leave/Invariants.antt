use Rattle.std.proofs.Common.{◌≡◌}
use Rattle.log4rs_build.specs.Rereading.{reader_of}
use Rattle.log4rs_build.proofs.rereading.RereadingBy+X+S+M+P+R.leave.Given as goal

abbrev pub invariant-loop-leaver : goal.invariant-loop-leaver
invariant-loop-leaver g l = reader_of l.self ≡ reader_of l.fn.self
