use Rattle.std.proofs.Common.{◌≡◌, ℕ, List, [], ◌∷◌, ◌++◌, None, Some, true, false, ap, append_assoc, append-nil, arith, codes, rules, string_bytes, sym, ◌∙◌, Bor}
use Rattle.log4rs_base.specs.Text.{Text}
use Rattle.log4rs_settings.specs.Plan.{AppenderPlan, appender_of}
use Rattle.log4rs_settings.specs.declared.plan.AppenderPlan.{AppenderPlan as AppenderValue}
use Rattle.log4rs_plans.specs.Background.{rolls_in_background}
use Rattle.log4rs_plans.specs.Effective.{path_of}
use Rattle.log4rs_plans.specs.Written.{files_of, plain, waiting_path}
use Rattle.log4rs_plans.proofs.Listing.{one_more_place}
use Rattle.log4rs_plans.proofs.written_files.Written.files.Goals.{in-Some+in_ok-add_file+then-rolls_in_background+in_ok-waiting+in_ok-add_file-2, in-Some+in_ok-add_file+else-rolls_in_background, in_default}
use Rattle.log4rs_plans.proofs.written_files.Written.files.Goals as goal

-- the files of an appender: none, its own, and its own and that which waits
no_file : (before : List (ℕ × Text)) (appender : ℕ) (plan : AppenderPlan) → path_of plan ≡ None → before ≡ before ++ files_of appender plan
no_file before appender plan is = rw is (sym (append-nil before))

one_file : (before after : List (ℕ × Text)) (appender : ℕ) (plan : AppenderPlan) (path : Text)
    → path_of plan ≡ Some path → rolls_in_background plan ≡ false → after ≡ before ++ (appender, plain path) ∷ [] → after ≡ before ++ files_of appender plan
one_file before after appender plan path is rolls one = rw (is, rolls) one

two_files : (before between after : List (ℕ × Text)) (appender : ℕ) (plan : AppenderPlan) (path waiting : Text)
    → path_of plan ≡ Some path → rolls_in_background plan ≡ true → waiting ≡ waiting_path path
    → between ≡ before ++ (appender, plain path) ∷ [] → after ≡ between ++ (appender, plain waiting) ∷ []
    → after ≡ before ++ files_of appender plan
two_files before between after appender plan path waiting is rolls waits one other =
    rw (is, rolls, ← waits) (other ∙ ap (λ l. l ++ (appender, plain waiting) ∷ []) one ∙ append_assoc before ((appender, plain path) ∷ []) ((appender, plain waiting) ∷ []))

pub loop-appender-preserved : goal.loop-appender-preserved
loop-appender-preserved c =
    let plans = c.args.self.now.plans.now in
    let at = c.loop-appender.appender in
    let same = ap (λ (plan : Bor AppenderValue). files_of at (appender_of plan.now)) (sym c.index-self-appender.is) in
    elim c.match-path_of.branch [
      | in-Some+in_ok-add_file+then-rolls_in_background+in_ok-waiting+in_ok-add_file-2 w ↦
          let waits : string_bytes w.in_ok-waiting.waiting ≡ w.in-Some.path.now ++ codes ".rolling" = search rules in
          one_more_place _ _ plans at _ [] _ _ _ (omega arith) c.index-self-appender.is c.loop-appender.invariant
          (rw w.files-is (two_files _ _ _ at _ _ _ (sym w.in-Some.ensures) (sym w.rolls_in_background.ensures ∙ w.if-rolls_in_background.true) (w.deref.ensures ∙ waits) w.in_ok-add_file.ensures w.in_ok-add_file-2.ensures)) same
      | in-Some+in_ok-add_file+else-rolls_in_background w ↦
          one_more_place _ _ plans at _ [] _ _ _ (omega arith) c.index-self-appender.is c.loop-appender.invariant
          (rw w.files-is (one_file _ _ at _ _ (sym w.in-Some.ensures) (sym w.rolls_in_background.ensures ∙ w.if-rolls_in_background.false) w.in_ok-add_file.ensures)) same
      | in_default w ↦
          one_more_place _ _ plans at _ [] _ _ _ (omega arith) c.index-self-appender.is c.loop-appender.invariant
          (rw w.files-is (no_file _ at _ (sym w.in_default.ensures))) same
    ]
