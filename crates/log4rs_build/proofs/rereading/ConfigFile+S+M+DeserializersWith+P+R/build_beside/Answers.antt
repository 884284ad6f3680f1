use Rattle.std.proofs.Common.{refl}
use Rattle.log4rs_build.proofs.rereading.ConfigFile+S+M+DeserializersWith+P+R.build_beside.Goals as goal

pub returns-clause-loaded : goal.returns-clause-loaded
returns-clause-loaded g c = record {
  before = record { parts = c.take.result; in_force = c.args.still };
  after = c.build-built.new.builder;
  handed = c.take.ensures;
  stand = refl;
  left = refl;
  loaded = c.in_ok-built.ensures.built;
}
