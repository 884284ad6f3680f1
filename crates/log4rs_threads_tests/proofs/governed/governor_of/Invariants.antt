use Rattle.log4rs_threads_tests.proofs.governed.governor_of.Given as goal

abbrev pub ghosts-governor_from : goal.ghosts-governor_from
ghosts-governor_from g = record { name = g.blank.name; parts = g.blank.parts }
