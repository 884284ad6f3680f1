-- `of` makes a value of no bytes. The value that it carries is named here, and is what the reference shows.
use Rattle.std.proofs.Common.{[], ◌∷◌, refl}
use Rattle.std.proofs.raw_atomic.Walks.{proved}
use denote.Builtin.{RefOf}
use denote.Exit.{yes}
use denote.Param.{param, layouts}
use denote.RattleType.{RattleType, owns}
use denote.Ref.{shr_vals, shr_Tells}
use denote.Shadow.{makes_shadow}
use denote.Signature.{Slot, plain, types_at}
use denote.Steps.{nothing}
use denote.Triple.Entry.{alive}
use denote.Triple.Walked.{Stays, stay_dropped, walk_of, says, Goes-dropped, ends_at}
use mir.MapTy.{inst_fn}
use mir.Syntax.{Args, a_type, named}
use mir.Val.{Val, vstruct, vcons, vnil}
use types.ByLocal.{alloc_all, pass_all, free_all, look_at, get, sets}
use types.Kit.{‵, raw, ◌⊛◌, ◌$◌, ◌∵◌, !, qed, done, move, keep, use0, split, join, fjoin, suffices}
use types.Part.{agg}
use types.Run.{enter, no_more, and_then, returns}
use Rattle.log4rs_base.specs.contracts.carried.Carried.{the_row as carried_row}
use Rattle.log4rs_base.specs.contracts.carried.Carried.of as f
use Rattle.log4rs_base.proofs.carried.Carried.of.Statement.{statement}
use Rattle.log4rs_base.proofs.carried.Carried.of.Code as code

-- the machine value: a struct of a marker, which has no fields
abbrev made : Val
made = vstruct (vcons (vstruct vnil) vnil)

module _ (T : RattleType) where
  abbrev args : Args
  args = layouts (a_type ∷ []) (T, tt)

  abbrev value_ref : Slot 2
  value_ref = RefOf (0 ∷ []) tt (plain (λ κs. param 0 T)) (λ κs. tt)

  -- the reference is given up
  abbrev stayed : Stays (f.ended T).signature.params (f.ended T).kept
  stayed = (stay_dropped value_ref yes, tt)

pub of_spec : {M : Type 1} → statement M
of_spec 𝓤 𝓛 𝓜 𝓡 wired T LT =
    let c = f.clauses T 𝓛 𝓜.mem 𝓡.returns in
    proved 𝓛 (f.ended T) (stayed T) c 𝓜 𝓡 (Goes-dropped 𝓛 2 (value_ref T) yes (λ κs x w. refl), tt)
    (f.Key.name (args T)) (inst_fn (args T) code.function) (code.unfolded 𝓤 𝓛.H 𝓜 𝓡 wired (T, tt))
    (λ κs. (shr_vals, tt))
    (λ κs. (shr_Tells (named 0) κs.0 (param 0 T), tt))
    (λ κs qs bounds a _ are.
    let y : (walk_of 𝓛 (f.ended T) (stayed T) c).Ghost = ((κs, qs, bounds, a, (shr_vals a.0, tt)), tt) in
    let row = carried_row (param 0 T) in
    let carried : row.Denot = record { marker = record {}; value = a.0.now } in
    let owned = row.own_val carried (made ∷ []) in
    qed 𝓛 ((raw (alive 𝓛 (f.ended T).signature κs qs) ⊛ ‵ (owns (types_at (f.ended T).signature.params κs) a y.0.4)) ∷ raw ((c κs a).requires tt) ∷ []) ∵
    split ! $ keep ! (0 ∷ []) $
    -- [the tokens]
    enter ! _ _ _ _ _ $ alloc_all ! (λ l. pass_all ! refl ((tt, tt), tt) $
    sets ! (agg ! (no_more !)) refl (tt, tt) $
    sets ! (agg ! (and_then ! (get ! refl) (no_more !))) refl (tt, (tt, tt)) $
    returns ! (look_at ! 0 refl) $ free_all ! refl $
    use0 𝓛 (‵ owned) (makes_shadow 𝓛 owned ((λ vss. (tt, ((λ uss. (tt, tt)), tt))), tt) (((vstruct vnil ∷ [], tt), (refl, ((tt, (refl, tt)), tt))), tt)) $
    suffices ! _ (ends_at 𝓛 (f.ended T) (stayed T) c y made carried (tt, tt) (tt, tt)) $ says ! refl $
    -- [nothing of the reference; the value; the tokens]
    nothing ! $ nothing ! $ fjoin ! $
    join ! $ move ! (1 ∷ 0 ∷ []) $ join ! $ done !))
