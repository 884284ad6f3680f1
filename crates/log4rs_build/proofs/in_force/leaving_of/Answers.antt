use Rattle.std.proofs.Common.{map, string_bytes, rules}
use Rattle.log4rs_build.specs.Keeping.{planned}
use Rattle.log4rs_build.specs.Leaving.{IsLeftAlone}
use Rattle.log4rs_plans.specs.Effective.{planned_of}
use Rattle.log4rs_build.proofs.Retaining.{left_exactly}
use Rattle.log4rs_build.proofs.in_force.leaving_of.Goals as goal

pub returns : goal.returns
returns g c = λ one. left_exactly _ (λ shared. IsLeftAlone (map planned_of c.args.asked.now) (map planned c.args.in_force.now) (string_bytes shared.name)) _ (λ x b f' k. (λ e. search rules, λ e. search rules, search rules)) c.args.present.items c.retain.new.self.items c.retain.ensures.filtered one
