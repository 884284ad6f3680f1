-- What a core is made of.
use Rattle.log4rs_config.specs.declared.logging.CoreOf.{CoreOf}
use Rattle.log4rs_config.specs.declared.runtime.config.ConfigOf.{ConfigOf}

-- its configuration
abbrev pub config_of : {A F : Type 0} → CoreOf A F → ConfigOf A F
config_of core = core.config
