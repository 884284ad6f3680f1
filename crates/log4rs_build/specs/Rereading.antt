-- What reads the configuration of a file again.
use Rattle.std.specs.Prelude.{ℕ, Option}
use Rattle.log4rs_build.specs.declared.rereading.Rereading.{Rereading}
use Rattle.log4rs_settings.specs.Reload.{ReloaderState, state_of}

-- the rate of the text that was taken over last, in milliseconds
abbrev pub rate_of : {X S M D B : Type 0} → Rereading X S M D B → Option ℕ
rate_of rereading = rereading.rate

-- what it keeps of the text that was read last
abbrev pub reader_of : {X S M D B : Type 0} → Rereading X S M D B → ReloaderState
reader_of rereading = state_of rereading.reloader
