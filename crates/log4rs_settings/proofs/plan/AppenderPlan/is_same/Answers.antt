use Rattle.std.proofs.Common.{rules, ◌≡◌, ◌↔◌, ◌&&◌, ℕ, List, Bool, String, Global, string_bytes, IsTrue}
use mathlib.Core.Bool.{beq}
use Rattle.std.specs.String.{string_eq}
use Rattle.log4rs_settings.specs.Plan.{appender_of, roller_of, encoder_of, rolling_file}
use Rattle.log4rs_settings.specs.Plan.{EncoderPlan as Encoder, PolicyPlan as Policy}
use Rattle.log4rs_settings.specs.contracts.plan.EncoderPlanPartialEq.TheImpl as encoders
use Rattle.log4rs_settings.specs.contracts.plan.TriggerPlanPartialEq.TheImpl as triggers
use Rattle.log4rs_settings.specs.contracts.plan.RollerPlanPartialEq.TheImpl as rollers
use Rattle.log4rs_settings.specs.declared.plan.EncoderPlan.{EncoderPlan}
use Rattle.log4rs_settings.specs.declared.plan.RollerPlan.{RollerPlan}
use Rattle.log4rs_settings.specs.declared.plan.TriggerPlan.{TriggerPlan}
use Rattle.log4rs_settings.specs.contracts.plan.AppenderPlanPartialEq.TheImpl.{ghosts}
use Rattle.log4rs_settings.specs.declared.plan.AppenderPlan.{AppenderPlan}
use Rattle.log4rs_settings.specs.declared.plan.AppenderPlan.TheVariants.{Console, File, RollingFile, HandedIn}
use Rattle.log4rs_settings.proofs.plan.AppenderPlan.is_same.Goals as goal

-- two parts that are the same make one whole that is the same, and so do four
both : {p q : Policy} (trigger roller : Bool) → IsTrue trigger ↔ (p.trigger ≡ q.trigger) → IsTrue roller ↔ (p.roller ≡ q.roller)
    → IsTrue (trigger && roller) ↔ (p ≡ q)
both trigger roller is has = search rules

four : {p p2 : List ℕ} {a a2 : Bool} {e e2 : Encoder} {q q2 : Policy} (path append encoder policy : Bool)
    → IsTrue path ↔ (p ≡ p2) → IsTrue append ↔ (a ≡ a2) → IsTrue encoder ↔ (e ≡ e2) → IsTrue policy ↔ (q ≡ q2)
    → IsTrue (path && (append && (encoder && policy))) ↔ (rolling_file p a e q ≡ rolling_file p2 a2 e2 q2)
four path append encoder policy is so goes on = search rules

same_trigger : (a b : TriggerPlan) → IsTrue (triggers.ghosts.eq a b) ↔ (a ≡ b)
same_trigger a b = search rules

same_roller : (a b : RollerPlan) → IsTrue (rollers.ghosts.eq a b) ↔ (roller_of a ≡ roller_of b)
same_roller a b = search rules

same_encoder : (a b : EncoderPlan) → IsTrue (encoders.ghosts.eq a b) ↔ (encoder_of a ≡ encoder_of b)
same_encoder a b = search rules

same_text : (a b : String Global) → IsTrue (string_eq a b) ↔ (string_bytes a ≡ string_bytes b)
same_text a b = search rules

same_truth : (a b : Bool) → IsTrue (beq a b) ↔ (a ≡ b)
same_truth a b = search rules

same : (a b : AppenderPlan) → IsTrue (ghosts.eq a b) ↔ (appender_of a ≡ appender_of b)
same (Console t y e) (Console t2 y2 e2) = search rules
same (Console t y e) (File p2 a2 e2) = search rules
same (Console t y e) (RollingFile p2 a2 e2 q2) = search rules
same (Console t y e) HandedIn = search rules
same (File p a e) (Console t2 y2 e2) = search rules
same (File p a e) (File p2 a2 e2) = search rules
same (File p a e) (RollingFile p2 a2 e2 q2) = search rules
same (File p a e) HandedIn = search rules
same (RollingFile p a e q) (Console t2 y2 e2) = search rules
same (RollingFile p a e q) (File p2 a2 e2) = search rules
same (RollingFile p a e q) (RollingFile p2 a2 e2 q2) =
    four _ _ _ _ (same_text p p2) (same_truth a a2) (same_encoder e e2) (both _ _ (same_trigger q.trigger q2.trigger) (same_roller q.roller q2.roller))
same (RollingFile p a e q) HandedIn = search rules
same HandedIn (Console t2 y2 e2) = search rules
same HandedIn (File p2 a2 e2) = search rules
same HandedIn (RollingFile p2 a2 e2 q2) = search rules
same HandedIn HandedIn = search rules

pub returns : goal.returns
returns c = rw c.eq.ensures (same c.args.self.now c.args.other.now)
