use Rattle.log4rs_build.specs.Raw.{asked_by}
use Rattle.log4rs_build.proofs.config_file.load_file.Goals as goal

pub returns-clause-ok : goal.returns-clause-ok
returns-clause-ok g c = record {
  top = asked_by c.in_ok-asked.asked;
  begins = rw c.in_ok-load_asked.ensures.reloader c.in_ok-asked.ensures.ok;
  loaded = c.in_ok-load_asked.ensures.loaded;
}

pub returns-clause-rolls : goal.returns-clause-rolls
returns-clause-rolls g c = (asked_by c.in_ok-asked.asked, rw c.in_ok-load_asked.ensures.reloader c.in_ok-asked.ensures.ok, c.in_ok-load_asked.ensures.rolls)
