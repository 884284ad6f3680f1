use Rattle.log4rs_build.proofs.Creating.{ok_with}
use Rattle.log4rs_build.proofs.deserializers.DeserializersWith.create_anew.Goals as goal

pub returns-clause-built : goal.returns-clause-built
returns-clause-built g c =
    ok_with c.create_lossy.result c.create_lossy.ensures.built (λ made is. record {
      appenders = is.appenders;
      built = (c.refill.new.self, c.in_ok-refill.ensures.ok, c.in_ok-refill.ensures.makers, is.built);
      behind = is.behind;
      settings = is.settings;
      reported = is.reported;
    })
