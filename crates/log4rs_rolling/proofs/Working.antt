-- What a step and a drive do, also where a call that changes nothing comes behind them.
use Rattle.std.proofs.Common.{rules, ◌≡◌, ◌<◌, ◌≤◌, ◌*◌, ◌↔◌, ◌∙◌, ℕ, zero, suc, List, [], ◌∷◌, ◌++◌, Option, Some, None, Bool, true, false, Result, Ok, Err, refl, subst, IsTrue, OnOk, IfOk, length, arith, string_bytes}
use Rattle.std.specs.Option.{IsSome}
use Rattle.log4rs_rolling.specs.Change.{Change, replay}
use Rattle.log4rs_rolling.specs.Disk.{Disk, Calls, files_of}
use Rattle.log4rs_base.specs.declared.error.LogError.{LogError}
use Rattle.log4rs_rolling.proofs.Calls.{calls_map}
use Rattle.log4rs_rolling.specs.Keeping.{Keeping, LeavesOpen, Stands}
use Rattle.log4rs_rolling.specs.Moves.{MovedAll, MovedFirst, MovedPartly, archive_names, each_to_the_older}
use Rattle.log4rs_rolling.specs.Roller.{archive_name, rest_by, rest_of}
use Rattle.log4rs_rolling.specs.Segments.{Segments, Shows}
use Rattle.log4rs_rolling.specs.SegmentGrowth.{ShowsAtLast}
use Rattle.log4rs_rolling.specs.SegmentsShown.{ShowsIn}
use Rattle.log4rs_rolling.specs.Window.{around}
use Rattle.log4rs_rolling.specs.Background.{Driven, MadeStep, Stepped, step_cost}
use Rattle.log4rs_rolling.specs.Costs.{Makes}
use Rattle.log4rs_rolling.specs.declared.fixed_window.FixedWindowRoller.{FixedWindowRoller}
use Rattle.log4rs_rolling.specs.declared.fixed_window.Job.{Job}
use Rattle.log4rs_rolling.proofs.Appending.{earlier_fault}
use Rattle.log4rs_rolling.proofs.Costing.{costs_then}
use Rattle.log4rs_rolling.proofs.Moving.{on_err_map, on_ok_map}
use Rattle.log4rs_rolling.proofs.Parts.{if_map}
use Rattle.log4rs_rolling.proofs.Quiet.{nothing_more}
use Rattle.log4rs_rolling.proofs.Stepping.{rest_none, stepped_join, stepped_none}

-- The moves that are left to a job

some_left : (name : ℕ → List ℕ) (base n : ℕ) (waiting : List ℕ) → 0 < n → each_to_the_older (archive_names name base n ++ waiting ∷ []) ≡ [] → ⊥
some_left name base zero waiting some none = omega (arith, some)
some_left name base (suc zero) waiting some none = cc
some_left name base (suc (suc n)) waiting some none = cc

pub no_rest : (roller : FixedWindowRoller) → rest_by roller ≡ [] → roller.job ≡ None
no_rest roller none = by roller.job refl where
  by : (job : Option Job) → roller.job ≡ job → roller.job ≡ None
  by None is = is
  by (Some job) is =
      absurd (some_left (archive_name roller) roller.base job.left (string_bytes job.waiting) (roller.in_steps job is).2
      (subst (λ (j : Option Job). rest_of (archive_name roller) roller.base j ≡ []) is none))

some_none : (job : Option Job) → IsSome job → job ≡ None → ⊥
some_none job some none = absurd (search rules)

pub more_left : (r : Result Bool LogError) (roller : FixedWindowRoller) (X : Bool → Type 0)
    → IfOk r (λ more. (IsTrue more → X more × IsSome roller.job) × (more ≡ false → roller.job ≡ None)) → IfOk r (λ more. IsTrue more ↔ ¬ (rest_by roller ≡ []))
more_left (Ok more) roller X is = by more refl where
  by : (b : Bool) → more ≡ b → IsTrue more ↔ ¬ (rest_by roller ≡ [])
  by true so = (λ yes none. some_none roller.job (is.0 yes).1 (no_rest roller none), λ some. so)
  by false so = (λ yes. absurd (search rules), λ some. absurd (some (rest_none (archive_name roller) roller.base roller.job (is.1 so))))
more_left (Err e) roller X is = tt

-- where no move is left, a step changes nothing
pub no_step : (k0 k1 : Keeping) (r : Result Bool LogError) (d0 d1 : Disk) → MadeStep k0 k1 r d0 d1 → k0.rest ≡ [] → Calls d0 d1 (λ added. added ≡ [])
no_step k0 k1 r d0 d1 made none =
    let P : List (List ℕ × List ℕ) → List Change → Type 0 = λ rest added. MovedFirst (files_of d0) rest k1.rest added in
    let moved : Calls d0 d1 (P k0.rest) = subst (λ (x : Result Bool LogError). OnOk x (Calls d0 d1 (P k0.rest))) (made.none none) made.moved in
    calls_map d0 d1 (P k0.rest) (λ added. added ≡ []) moved (λ added tells told first. (subst (λ (rest : List (List ℕ × List ℕ)). P rest added) none first).1)

-- Where nothing comes behind

shown_then : (k : Keeping) (path : List ℕ) (d0 d1 d2 : Disk) → ShowsAtLast k path d0 d1 → Calls d1 d2 (λ added. added ≡ []) → ShowsAtLast k path d0 d2
shown_then k path d0 d1 d2 shown nothing =
    let P : Disk → List (List ℕ) → Type 0 = λ d older. let w = around older (k.waiting path) path in
    IsSome (k.moves path) → Stands w (k.vacant path) d0
    → Calls d0 d (λ added. (segments : Segments) → ShowsIn segments w (k.vacant path) (files_of d0) → Shows segments older path (replay (files_of d0) added)) in
    if_map k.archives (P d1) (P d2) shown (λ older was. λ known stands.
    let w = around older (k.waiting path) path in
    nothing_more (λ added. (segments : Segments) → ShowsIn segments w (k.vacant path) (files_of d0) → Shows segments older path (replay (files_of d0) added)) d0 d1 d2 (was known stands) nothing)

pub stepped_then : (k0 k1 : Keeping) (r : Result Bool LogError) (d0 d1 d2 : Disk) → Stepped k0 k1 r d0 d1 → Calls d1 d2 (λ added. added ≡ []) → LeavesOpen d1 d2 → d2.refusals ≡ d1.refusals
    → Makes 0 d1 d2 → Stepped k0 k1 r d0 d2
stepped_then k0 k1 r d0 d1 d2 first nothing left same none = record {
  steps = stepped_join k0 k1 k1 d0 d1 d2 first.steps (stepped_none k1 k1 d1 d2 refl nothing left);
  made = λ built. let made = first.made built in record {
    moved = on_ok_map r (λ (moved : Calls d0 d1 (MovedFirst (files_of d0) k0.rest k1.rest)). nothing_more (MovedFirst (files_of d0) k0.rest k1.rest) d0 d1 d2 moved nothing) made.moved;
    more = made.more;
    err = on_err_map r (λ (e : (k1.rest ≡ k0.rest) × Calls d0 d1 (λ added. added ≡ [])). (e.0, nothing_more (λ added. added ≡ []) d0 d1 d2 e.1 nothing)) made.err;
    none = made.none;
    once = nothing_more (λ added. length added ≤ 1) d0 d1 d2 made.once nothing;
    unrefused = on_ok_map r (λ (e : d1.refusals ≡ d0.refusals). same ∙ e) made.unrefused;
    fault = earlier_fault r d0.refusals d1.refusals d2.refusals nothing.refusals made.fault;
    cost = costs_then (step_cost k0.rest) r d0 d1 d2 made.cost none;
  };
}

pub driven_then : (k0 k1 : Keeping) (r : Result Unit LogError) (d0 d1 d2 : Disk) → Driven k0 k1 r d0 d1 → Calls d1 d2 (λ added. added ≡ []) → LeavesOpen d1 d2 → d2.refusals ≡ d1.refusals
    → Makes 0 d1 d2 → Driven k0 k1 r d0 d2
driven_then k0 k1 r d0 d1 d2 first nothing left same none = record {
  steps = stepped_join k0 k1 k1 d0 d1 d2 first.steps (stepped_none k1 k1 d1 d2 refl nothing left);
  made = λ built. let made = first.made built in record {
    moved = on_ok_map r (λ (moved : Calls d0 d1 (MovedAll (files_of d0) k0.rest)). nothing_more (MovedAll (files_of d0) k0.rest) d0 d1 d2 moved nothing) made.moved;
    done = made.done;
    ended = made.ended;
    shown = λ path. on_ok_map r (λ (shown : ShowsAtLast k0 path d0 d1). shown_then k0 path d0 d1 d2 shown nothing) (made.shown path);
    err = on_err_map r (λ (moved : Calls d0 d1 (MovedPartly (files_of d0) k0.rest)). nothing_more (MovedPartly (files_of d0) k0.rest) d0 d1 d2 moved nothing) made.err;
    unrefused = on_ok_map r (λ (e : d1.refusals ≡ d0.refusals). same ∙ e) made.unrefused;
    fault = earlier_fault r d0.refusals d1.refusals d2.refusals nothing.refusals made.fault;
    cost = costs_then (3 * length k0.rest) r d0 d1 d2 made.cost none;
  };
}
