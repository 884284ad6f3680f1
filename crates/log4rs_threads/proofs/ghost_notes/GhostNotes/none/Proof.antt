-- `none` makes a value of no bytes, which carries no steps and no faults.
use Rattle.std.proofs.Common.{[], ◌∷◌, refl}
use Rattle.std.proofs.raw_atomic.Walks.{proved}
use denote.Shadow.{makes_shadow}
use denote.Steps.{nothing}
use denote.Triple.Entry.{alive}
use denote.Triple.Walked.{Stays, walk_of, says, ends_at}
use denote.RattleType.{owns}
use denote.Signature.{types_at}
use mir.Val.{Val, vstruct, vcons, vnil}
use types.ByLocal.{alloc_all, pass_all, free_all, look_at, get, sets}
use types.Kit.{‵, raw, ◌⊛◌, ◌$◌, ◌∵◌, !, qed, done, move, keep, use0, split, join, suffices}
use types.Part.{agg}
use types.Run.{enter, no_more, and_then, returns}
use Rattle.log4rs_threads.specs.contracts.ghost_notes.GhostNotes.{the_row as notes_row}
use Rattle.log4rs_threads.specs.contracts.ghost_notes.GhostNotes.none as f
use Rattle.log4rs_threads.proofs.ghost_notes.GhostNotes.none.Statement.{statement}
use Rattle.log4rs_threads.proofs.ghost_notes.GhostNotes.none.Code as code

abbrev stayed : Stays f.ended.signature.params f.ended.kept
stayed = tt

-- the machine value: a struct of a marker, which has no fields
abbrev made : Val
made = vstruct (vcons (vstruct vnil) vnil)

pub none_spec : {M : Type 1} → statement M
none_spec 𝓤 𝓛 𝓜 𝓡 wired =
    let c = f.clauses 𝓛 𝓜.mem 𝓡.returns in
    proved 𝓛 f.ended stayed c 𝓜 𝓡 tt
    f.Key.name code.function (code.unfolded 𝓤 𝓛.H 𝓜 𝓡 wired)
    (λ κs. tt)
    (λ κs. tt)
    (λ κs qs bounds a _ are.
    let y : (walk_of 𝓛 f.ended stayed c).Ghost = ((κs, qs, bounds, a, tt), tt) in
    let notes : notes_row.Denot = record { marker = record {}; steps = []; faults = [] } in
    let owned = notes_row.own_val notes (made ∷ []) in
    qed 𝓛 ((raw (alive 𝓛 f.signature κs qs) ⊛ ‵ (owns (types_at f.signature.params κs) a y.0.4)) ∷ raw ((c κs a).requires tt) ∷ []) ∵
    split ! $ keep ! (0 ∷ []) $
    -- [the tokens]
    enter ! _ _ _ _ _ $ alloc_all ! (λ l. pass_all ! refl tt $
    sets ! (agg ! (no_more !)) refl (tt, tt) $
    sets ! (agg ! (and_then ! (get ! refl) (no_more !))) refl (tt, (tt, tt)) $
    returns ! (look_at ! 0 refl) $ free_all ! refl $
    use0 𝓛 (‵ owned) (makes_shadow 𝓛 owned ((λ vss. (tt, ((λ uss. (tt, tt)), tt))), tt) (((vstruct vnil ∷ [], tt), (refl, ((tt, (refl, tt)), tt))), tt)) $
    suffices ! _ (ends_at 𝓛 f.ended stayed c y made notes tt tt) $ says ! (refl, refl) $
    -- [the value; the tokens]
    nothing ! $
    join ! $ move ! (1 ∷ 0 ∷ []) $ join ! $ done !))
