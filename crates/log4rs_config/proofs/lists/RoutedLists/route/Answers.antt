use Rattle.log4rs_config.specs.Name.{path_of}
use Rattle.log4rs_config.proofs.lists.RoutedLists.route.Goals as goal

pub returns : goal.returns
returns c =
    let agreed = c.self.invariant.1.agrees c.self.invariant.0 in
    let path = path_of c.args.target.now in
    record {
      level = rw (c.route.ensures.level, ← c.self.view_is) (agreed.level path);
      places = rw (c.route.ensures.places, ← c.self.view_is) (agreed.places path);
      within = rw (c.route.ensures.places, ← c.self.view_is) (agreed.within path);
    }
