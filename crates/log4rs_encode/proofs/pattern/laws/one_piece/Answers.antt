use Rattle.std.proofs.Common.{arith}
use Rattle.std.proofs.lemmas.Bool.Decides.{nat_tests}
use Rattle.log4rs_encode.proofs.Exists.{spells_exists}
use Rattle.log4rs_encode.proofs.Progress.{spells_consumes}
use Rattle.log4rs_encode.proofs.Unique.{spells_unique}
use Rattle.log4rs_encode.proofs.Steps.{closes}
use Rattle.log4rs_encode.proofs.pattern.laws.one_piece.Goals as goal

pub returns-clause-some : goal.returns-clause-some
returns-clause-some c levels d cs h open_end =
    spells_exists levels h d cs (λ inside. let apart = open_end inside in grind (arith, nat_tests, apart))

pub returns-clause-one : goal.returns-clause-one
returns-clause-one c levels cs p q r s h a b = spells_unique levels h cs p q r s a b

pub returns-clause-none : goal.returns-clause-none
returns-clause-none c levels cs p rest h a = closes levels h cs p rest a

pub returns-clause-shorter : goal.returns-clause-shorter
returns-clause-shorter c levels cs p rest h = spells_consumes levels cs p rest h
