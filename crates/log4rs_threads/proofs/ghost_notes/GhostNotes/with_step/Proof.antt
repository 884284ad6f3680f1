-- `with_step` makes a value of no bytes. The steps that it carries are named here: those of the first reference, and what the second shows.
use Rattle.std.proofs.Common.{[], ◌∷◌, ◌++◌, refl}
use Rattle.std.proofs.raw_atomic.Walks.{proved}
use denote.Builtin.{RefOf}
use denote.Exit.{yes}
use denote.Ref.{shr_vals, shr_Tells}
use denote.Shadow.{makes_shadow}
use denote.Signature.{Slot, named_lft, plain}
use denote.Steps.{nothing}
use denote.Triple.Entry.{alive}
use denote.Triple.Walked.{Stays, stay_dropped, walk_of, says, Goes-dropped, ends_at}
use denote.RattleType.{owns}
use denote.Signature.{types_at}
use mir.Syntax.{named}
use mir.Val.{Val, vstruct, vcons, vnil}
use types.ByLocal.{alloc_all, pass_all, free_all, look_at, get, sets}
use types.Kit.{‵, raw, ◌⊛◌, ◌$◌, ◌∵◌, !, qed, done, move, keep, use0, split, join, fjoin, suffices}
use types.Part.{agg}
use types.Run.{enter, no_more, and_then, returns}
use Rattle.log4rs_threads.specs.GhostNotes.{step_made}
use Rattle.log4rs_threads.specs.contracts.ghost_notes.Made.{the_row as made_row}
use Rattle.log4rs_threads.specs.contracts.ghost_notes.GhostNotes.{the_row as notes_row}
use Rattle.log4rs_threads.specs.contracts.ghost_notes.GhostNotes.with_step as f
use Rattle.log4rs_threads.proofs.ghost_notes.GhostNotes.with_step.Statement.{statement}
use Rattle.log4rs_threads.proofs.ghost_notes.GhostNotes.with_step.Code as code

abbrev self_ref : Slot 4
self_ref = RefOf (0 ∷ []) tt (plain (λ κs. notes_row)) (λ κs. tt)

abbrev made_ref : Slot 4
made_ref = RefOf (1 ∷ []) tt (plain (λ κs. made_row (named_lft 4 2 tt κs) (named_lft 4 3 tt κs))) (λ κs. tt)

-- both references are given up
abbrev stayed : Stays f.ended.signature.params f.ended.kept
stayed = (stay_dropped self_ref yes, (stay_dropped made_ref yes, tt))

-- the machine value: a struct of a marker, which has no fields
abbrev made : Val
made = vstruct (vcons (vstruct vnil) vnil)

pub with_step_spec : {M : Type 1} → statement M
with_step_spec 𝓤 𝓛 𝓜 𝓡 wired =
    let c = f.clauses 𝓛 𝓜.mem 𝓡.returns in
    proved 𝓛 f.ended stayed c 𝓜 𝓡 (Goes-dropped 𝓛 4 self_ref yes (λ κs x w. refl), (Goes-dropped 𝓛 4 made_ref yes (λ κs x w. refl), tt))
    f.Key.name code.function (code.unfolded 𝓤 𝓛.H 𝓜 𝓡 wired)
    (λ κs. (shr_vals, (shr_vals, tt)))
    (λ κs. (shr_Tells (named 0) κs.0 notes_row, (shr_Tells (named 1) κs.1.0 (made_row (named_lft 4 2 tt κs) (named_lft 4 3 tt κs)), tt)))
    (λ κs qs bounds a _ are.
    let y : (walk_of 𝓛 f.ended stayed c).Ghost = ((κs, qs, bounds, a, (shr_vals a.0, (shr_vals a.1.0, tt))), tt) in
    let notes : notes_row.Denot = record { marker = record {}; steps = a.0.now.steps ++ step_made a.1.0.now ∷ []; faults = a.0.now.faults } in
    let owned = notes_row.own_val notes (made ∷ []) in
    qed 𝓛 ((raw (alive 𝓛 f.signature κs qs) ⊛ ‵ (owns (types_at f.signature.params κs) a y.0.4)) ∷ raw ((c κs a).requires tt) ∷ []) ∵
    split ! $ keep ! (0 ∷ []) $
    -- [the tokens]
    enter ! _ _ _ _ _ $ alloc_all ! (λ l. pass_all ! refl ((tt, tt), ((tt, tt), tt)) $
    sets ! (agg ! (no_more !)) refl (tt, tt) $
    sets ! (agg ! (and_then ! (get ! refl) (no_more !))) refl (tt, (tt, tt)) $
    returns ! (look_at ! 0 refl) $ free_all ! refl $
    use0 𝓛 (‵ owned) (makes_shadow 𝓛 owned ((λ vss. (tt, ((λ uss. (tt, tt)), tt))), tt) (((vstruct vnil ∷ [], tt), (refl, ((tt, (refl, tt)), tt))), tt)) $
    suffices ! _ (ends_at 𝓛 f.ended stayed c y made notes (tt, (tt, tt)) (tt, (tt, tt))) $ says ! (refl, refl) $
    -- [nothing of both references; the value; the tokens]
    nothing ! $ nothing ! $ fjoin ! $ nothing ! $ fjoin ! $
    join ! $ move ! (1 ∷ 0 ∷ []) $ join ! $ done !))
