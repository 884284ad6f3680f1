use Rattle.log4rs.proofs.loggers.init_raw_config.Goals as goal

pub returns-clause-ok : goal.returns-clause-ok
returns-clause-ok g c =
    let created : _ = c.in_ok-config.ensures.created in
    (c.in_ok-config.config, created, created.settings)
