-- The appenders of a configuration in a file may go to another thread.
use denote.RattleType.{RattleType}
use denote.Param.Send.{IsSend}
use Rattle.log4rs_append.proofs.any.AppenderOf.TheSendSync as appender
use Rattle.log4rs_append.specs.contracts.any.AppenderOf as AppenderOf
use Rattle.log4rs_rolling.specs.declared.store.Store as store
use Rattle.log4rs_encode.proofs.Crossing.{encoder-send}
use Rattle.log4rs_encode.specs.contracts.encoder.EncoderOf as EncoderOf
use Rattle.log4rs_parts.proofs.handed.Absent.TheSendSync as absent
use Rattle.log4rs_parts.specs.contracts.handed.Absent as Absent
use Rattle.log4rs_rolling.proofs.policy.CompoundPolicyOf.TheSendSync as policy
use Rattle.log4rs_rolling.proofs.roll.AnyRoller.TheSendSync as roller
use Rattle.log4rs_rolling.proofs.trigger.AnyTriggerOf.TheSendSync as trigger
use Rattle.log4rs_rolling.specs.contracts.policy.CompoundPolicyOf as Compound
use Rattle.log4rs_rolling.specs.contracts.policy.CompoundPolicyOfKeep.TheImpl as kept
use Rattle.log4rs_rolling.specs.contracts.roll.AnyRoller as AnyRoller
use Rattle.log4rs_rolling.specs.contracts.roll.AnyRollerRoll.TheImpl as rolled
use Rattle.log4rs_rolling.specs.contracts.trigger.AnyTriggerOf as AnyTrigger
use Rattle.log4rs_rolling.specs.declared.policy.Keep as keep

abbrev Policy : RattleType
Policy = Compound.the_row (AnyTrigger.the_row Absent.the_row) AnyRoller.the_row

policy-send : IsSend Policy
policy-send = policy.the_send _ _ (trigger.the_send _ absent.the_send) roller.the_send

-- with nothing of the caller's, over stores of a type
module _ (Z : RattleType) (g : store.Ghosts Z.Denot) where
  abbrev keeping : keep.Ghosts Policy.Denot Z.Denot
  keeping = kept.ghosts Z (AnyTrigger.the_row Absent.the_row) AnyRoller.the_row g kept.no_dict (rolled.ghosts Z g rolled.no_dict) kept.no_dict

  abbrev Plain : RattleType
  Plain = AppenderOf.the_row Z Policy (EncoderOf.the_row Absent.the_row) Absent.the_row g keeping

  pub plain-send : IsSend Z → IsSend Plain
  plain-send z = appender.the_send Z Policy _ Absent.the_row g keeping z policy-send (encoder-send _ absent.the_send) absent.the_send
