use Rattle.log4rs_config.proofs.routes.Routes.route_among.Goals as goal

pub nearest_uncounted-found-requires : goal.nearest_uncounted-found-requires
nearest_uncounted-found-requires c = record { indexed = rw c.deref.ensures.value c.args.self.now.indexed }
