use Rattle.log4rs_build.proofs.Histories.{only_tried, tried_then, untried}
use Rattle.log4rs_build.proofs.rereading.RereadingBy+X+S+M+P+R.retry.Goals as goal

pub returns-then-is_empty-clause-tries : goal.returns-then-is_empty-clause-tries
returns-then-is_empty-clause-tries g c = untried _

pub returns-in-Ok-Some-clause-tries : goal.returns-in-Ok-Some-clause-tries
returns-in-Ok-Some-clause-tries g c = tried_then _ _ _ c.build_again.ensures.replies c.put_again.ensures.ends

pub returns-in-Err-Memory-clause-tries : goal.returns-in-Err-Memory-clause-tries
returns-in-Err-Memory-clause-tries g c = only_tried _ _ c.build_again.ensures.replies
