use Rattle.std.proofs.Common.{◌≡◌, true, false, refl}
use Rattle.log4rs_build.proofs.Sharing.{lock_as}
use Rattle.log4rs_build.proofs.in_force.KeepingAppenderBuildAppender.build.Goals as goal

pub returns-in_ok-filtered-in-Ok-Some-clause-built : goal.returns-in_ok-filtered-in-Ok-Some-clause-built
returns-in_ok-filtered-in-Ok-Some-clause-built g c =
    let kept = rw (c.in-Ok-Some.field-0-is, c.as_slice-in_force.ensures.value) at c.in-Ok-Some.ensures.kept in
    let lock = rw (c.in-Ok-Some.field-0-is, c.as_slice-in_force.ensures.value) at c.in-Ok-Some.ensures.lock in
    let made = c.in_ok-filtered-in-Ok-Some.ensures in
    record {
      kept = λ _. record { named = made.named; filters = made.filters; lock = lock_as _ _ _ _ made.lock lock };
      anew = λ no. absurd (no (kept.0 refl));
      stays = refl;
    }

pub returns-in-Ok-None-clause-built : goal.returns-in-Ok-None-clause-built
returns-in-Ok-None-clause-built g c =
    let kept = rw (c.in-Ok-None.field-0-is, c.as_slice-in_force.ensures.value) at c.in-Ok-None.ensures.kept in
    record {
      kept = λ k. let no : false ≡ true = kept.1 k in cc;
      anew = λ _. c.build_locked.ensures.built;
      stays = refl;
    }

pub returns-in-Err-clause-built : goal.returns-in-Err-clause-built
returns-in-Err-clause-built g c = record { kept = λ _. tt; anew = λ _. tt; stays = refl }
