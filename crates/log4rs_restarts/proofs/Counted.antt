-- A report with other counts tells the same of openings and acts.
use Rattle.std.proofs.Common.{ℕ, List, Option, Result, Ok, Err}
use Rattle.log4rs_rolling.specs.Disk.{Disk}
use Rattle.log4rs_rolling.specs.Appends.{Reading}
use Rattle.log4rs_rolling.specs.Keeping.{Keeping}
use Rattle.log4rs_restarts.specs.Acts.{BuiltIn}
use Rattle.log4rs_restarts.specs.ActsDone.{RunBy}
use Rattle.log4rs_restarts.specs.Reports.{Reports}
use Rattle.log4rs_restarts.specs.declared.run.Act.{Act}
use Rattle.log4rs_restarts.specs.declared.run.OpeningError.{OpeningError}
use Rattle.log4rs_restarts.specs.declared.run.RunReport.{RunReport}

-- the same report with these counts
abbrev pub with_counts : RunReport → ℕ → ℕ → RunReport
with_counts report passed stopped = record {
  opening = report.opening;
  outcomes = report.outcomes;
  answers = report.answers;
  passed = passed;
  stopped = stopped;
}

pub reports_counted : (Refused : Type 0) (reading : Option Reading) (acts : List Act) (before after : ℕ) (report : RunReport) (p s : ℕ) → Reports Refused reading acts before after report → Reports Refused reading acts before after (with_counts report p s)
reports_counted Refused reading acts before after report p s is = record {
  count = is.count;
  later = is.later;
  opening = is.opening;
  outcomes = is.outcomes;
  number = is.number;
  kinds = is.kinds;
  answers = is.answers;
}

-- as the report says whether the file was opened
by_counted : (r : Result Unit OpeningError) (Starts : BuiltIn → Type 0) (reading : Option Reading) (keeping : Keeping) (path : List ℕ) (acts : List Act) (report : RunReport) (d0 d1 : Disk) (p s : ℕ)
    → RunBy r Starts reading keeping path acts report d0 d1 → RunBy r Starts reading keeping path acts (with_counts report p s) d0 d1
by_counted (Ok u) Starts reading keeping path acts report d0 d1 p s is = record {
  first = is.first;
  last = is.last;
  begins = is.begins;
  opened = is.opened;
  cost = is.cost;
  done = is.done;
  closed = is.closed;
}
by_counted (Err e) Starts reading keeping path acts report d0 d1 p s is = record {
  left = is.left;
  tried = is.tried;
  cost = is.cost;
  cause = is.cause;
  closed = is.closed;
  outcomes = is.outcomes;
  answers = is.answers;
}

pub did_counted : (Starts : BuiltIn → Type 0) (reading : Option Reading) (keeping : Keeping) (path : List ℕ) (acts : List Act) (report : RunReport) (d0 d1 : Disk) (p s : ℕ)
    → RunBy report.opening Starts reading keeping path acts report d0 d1 → RunBy report.opening Starts reading keeping path acts (with_counts report p s) d0 d1
did_counted Starts reading keeping path acts report d0 d1 p s is = by_counted report.opening Starts reading keeping path acts report d0 d1 p s is
