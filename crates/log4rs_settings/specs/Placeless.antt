-- Errors without what is told of a text that is not of its format, as the trees of texts have them.
use Rattle.std.specs.Prelude.{None}
use Rattle.log4rs_settings.specs.declared.syntax.SyntaxFault.TheVariants.{Malformed}
use Rattle.log4rs_settings.specs.declared.text.TextError.{TextError}
use Rattle.log4rs_settings.specs.declared.text.TextError.TheVariants.{Syntax, FloatRefused}
use Rattle.log4rs_settings.specs.declared.text.TextError.TheVariants.{DateTimeRefused, Memory}

-- a text is not of its format, for whatever fault and at whatever place
abbrev pub not_of_format : TextError
not_of_format = Syntax (record { fault = Malformed; place = None })

abbrev pub placeless : TextError → TextError
placeless (Syntax error) = not_of_format
placeless FloatRefused = FloatRefused
placeless DateTimeRefused = DateTimeRefused
placeless Memory = Memory
