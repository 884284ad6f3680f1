use Rattle.log4rs_config.proofs.search.nearest_uncounted.Given as goal

abbrev pub ghosts-nearest_from : goal.ghosts-nearest_from
ghosts-nearest_from g a = record { name = a.blank.name; parts = a.blank.parts }
