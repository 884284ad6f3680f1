-- What clauses see of a publisher and of its readers.
use Rattle.std.specs.Prelude.{List}
use Rattle.logbook.specs.Pages.{Book}
use Rattle.log4rs_base.specs.Text.{Text}
use Rattle.log4rs_config.specs.Settings.{Settings}

-- the names of the opening's appenders, what was published since, in order, and in which history
pub record Issued : Type 0 where
  pub names : List Text
  pub swaps : List Settings
  pub book : Book

-- the same of a reader: the swaps that it saw, and those that it was told of
pub record Known : Type 0 where
  pub names : List Text
  pub seen : List Settings
  pub told : List Settings
  pub book : Book
