use denote.Exit.{no}
use denote.Param.Send.{arg_send, arg_sync, copied_send, param_send, param_sync}
use Rattle.std.proofs.Common.{option_map}
use Rattle.log4rs_build.specs.Rereading.{reader_of}
use Rattle.log4rs_base.proofs.filter.FilterOf.TheSendSync as filter
use Rattle.log4rs_build.proofs.rereading.Rereading.TheSendSync as rereading
use Rattle.log4rs_parts.proofs.refill.Once.TheSendSync as once
use Rattle.log4rs_build.proofs.deserializers.DeserializersWith.TheSendSync as deserializers
use Rattle.log4rs_parts.proofs.handed.Handed.TheSendSync as handed
use Rattle.log4rs_threads.proofs.report.NoHandler.TheSendSync as handler
use Rattle.log4rs_build.proofs.Crossing.{plain-send}
use Rattle.log4rs_parts.proofs.handed.Absent.TheSendSync as absent
use Rattle.log4rs_command.proofs.file_run.begin.Goals as goal

pub start-requires-send-A : goal.start-requires-send-A
start-requires-send-A g c κs within =
    param_send 0 _ (arg_send _ no _ (plain-send _ g.M.Made.Store (param_send _ _ c.type_bounds.send-M-Made)))

pub start-requires-send-F : goal.start-requires-send-F
start-requires-send-F g c κs within = param_send 1 _ (arg_send _ no _ (filter.the_send _ absent.the_send))

pub start-requires-sync-F : goal.start-requires-sync-F
start-requires-sync-F g c κs within = param_sync 1 _ (arg_sync _ no _ (filter.the_sync _ absent.the_sync))

pub start-requires-send-H : goal.start-requires-send-H
start-requires-send-H g c κs within = param_send 2 _ (arg_send _ no _ handler.the_send)

pub start-requires-sync-H : goal.start-requires-sync-H
start-requires-sync-H g c κs within = param_sync 2 _ (arg_sync _ no _ handler.the_sync)

pub start-requires-send-D : goal.start-requires-send-D
start-requires-send-D g c κs within =
    let given = c.type_bounds in
    let made = plain-send _ g.M.Made.Store (param_send _ _ given.send-M-Made) in
    param_send 4 _ (arg_send _ no _ (rereading.the_send _ _ _ _ _ (copied_send _ _ given.send-X) (param_send _ _ given.send-S) (param_send _ _ given.send-M)
    (deserializers.the_send _ _ (handed.the_send _ _ _ _ absent.the_send absent.the_send absent.the_send absent.the_send) once.the_send) made))

pub returns : goal.returns
returns g c =
    let loads = c.in_ok-begun.ensures.ok in
    record { top = loads.4.top; after = loads.1; again = option_map reader_of c.in_ok-begun.begun.rereading; begins = loads.4.begins }
