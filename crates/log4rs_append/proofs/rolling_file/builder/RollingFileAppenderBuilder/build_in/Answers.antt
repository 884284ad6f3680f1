use Rattle.std.proofs.Common.{rules, Bool, Option, ◌≡◌, [], ap, sym, subst, refl, List, ℕ, ◌∙◌, string_bytes}
use Rattle.log4rs_rolling.specs.Disk.{Disk, Calls}
use Rattle.log4rs_base.specs.Names.{expanded_names}
use Rattle.log4rs_append.specs.Rolling.{begun_empty, since_bytes, store_of, policy_of, path_of, encoder_of}
use Rattle.log4rs_append.specs.Sink.{Reading, bytes_of, plain_reading}
use Rattle.log4rs_append.proofs.Beginning.{if_err, if_ok, if_ok_two, if_ok_when, begins_asked, made_then_nothing, made_then_opened, made_then_tried, of_store, tried_nothing}
use Rattle.log4rs_rolling.specs.AtOpening.{AskedThenOpened, AskedThenTried, RollsAtOnce}
use Rattle.log4rs_append.proofs.rolling_file.builder.RollingFileAppenderBuilder.build_in.Goals as goal

pub returns-clause-encoder : goal.returns-clause-encoder
returns-clause-encoder g c = if_ok c.open.result _ _ (λ a begun. rw begun.encoder (search rules)) c.open.ensures.begun

pub returns-clause-policy : goal.returns-clause-policy
returns-clause-policy g c =
    let k0 = g.P.Keep.keeping c.args.policy in
    let RollsThen : List ℕ → Type 0 = λ p. RollsAtOnce k0 p in
    if_ok_two c.open.result _ _ _ (λ a beside same. (beside, λ once. same (subst RollsThen (sym c.in-Ok.ensures) once))) c.open.ensures.beside
    (if_ok_when c.open.result (RollsAtOnce k0 (string_bytes c.in-Ok.path)) _ c.open.ensures.policy)

pub returns-clause-asked : goal.returns-clause-asked
returns-clause-asked g c =
    let disk = g.S.Store.disk in
    let keeping = g.P.Keep.keeping in
    let k0 = keeping c.args.policy in
    let append = c.args.self.append in
    let d0 = disk c.args.store in
    let d1 = disk c.make_parent.new.store in
    if_ok c.open.result _ _
    (λ a asked. subst (λ (p : List ℕ). AskedThenOpened k0 (keeping (policy_of a)) p append d0 (disk (store_of a))) c.in-Ok.ensures
    (made_then_opened k0 (keeping (policy_of a)) (string_bytes c.in-Ok.path) append d0 d1 (disk (store_of a)) c.in_default-make_parent.ensures.ok c.make_parent.ensures.calls c.make_parent.ensures.opened asked))
    c.open.ensures.asked

pub returns-clause-begun : goal.returns-clause-begun
returns-clause-begun g c =
    let disk = g.S.Store.disk in
    if_ok c.open.result _ _
    (λ a begun. record {
      path = begun.path ∙ c.in-Ok.ensures;
      mode = begun.mode;
      settings = begun.settings;
      opening = subst (λ (d : Disk). Calls (disk c.args.store) d (λ added. added ≡ [])) (ap disk (sym begun.opening)) c.make_parent.ensures.calls;
    })
    c.open.ensures.begun

pub returns-clause-texts : goal.returns-clause-texts
returns-clause-texts g c =
    let disk = g.S.Store.disk in
    let keeping = g.P.Keep.keeping in
    let k0 = keeping c.args.policy in
    let path = string_bytes c.in-Ok.path in
    let d0 = disk c.args.store in
    let d1 = disk c.make_parent.new.store in
    let Begins : Option Reading → Bool → Disk → Disk → List ℕ → Type 0 = λ reading built now o p. bytes_of reading (since_bytes built p o now) ≡ bytes_of reading (begun_empty k0.is_built_in d0) in
    if_ok_two c.open.result _ _ _
    (λ a begun asked.
    let reading = plain_reading (g.M.Made.Encode.rendering (encoder_of a)) in
    let built = (keeping (policy_of a)).is_built_in in
    subst (λ (o : Disk). Begins reading built (disk (store_of a)) o (path_of a)) (ap disk (sym begun.opening))
    (subst (λ (p : List ℕ). Begins reading built (disk (store_of a)) d1 p) (sym begun.path)
    (begins_asked reading k0.is_built_in built path k0 (keeping (policy_of a)) c.args.self.append d1 d0 (disk (store_of a))
    refl asked.stepped.names.is_built_in asked c.make_parent.ensures.calls.tells)))
    c.open.ensures.begun c.open.ensures.asked

pub returns-clause-tried : goal.returns-clause-tried
returns-clause-tried g c =
    let disk = g.S.Store.disk in
    let k = g.P.Keep.keeping c.args.policy in
    let append = c.args.self.append in
    let d0 = disk c.args.store in
    if_err c.open.result _ _
    (λ failed tried. subst (λ (p : List ℕ). AskedThenTried k p append d0 (disk failed.0)) c.in-Ok.ensures
    (made_then_tried k (string_bytes c.in-Ok.path) append d0 (disk c.make_parent.new.store) (disk failed.0) c.make_parent.ensures.calls c.make_parent.ensures.opened tried))
    c.open.ensures.tried

pub returns-clause-fault : goal.returns-clause-fault
returns-clause-fault g c = λ built.
    let disk = g.S.Store.disk in
    if_err c.open.result _ _ (λ failed fault. of_store failed.1 (disk c.make_parent.new.store).refusals (disk failed.0).refusals fault.0) (c.open.ensures.fault built)

pub returns-in-Err-clause-tried : goal.returns-in-Err-clause-tried
returns-in-Err-clause-tried g c =
    let disk = g.S.Store.disk in
    let k = g.P.Keep.keeping c.args.policy in
    made_then_nothing k (expanded_names c.args.env.now c.args.path.now) c.args.self.append (disk c.args.store) (disk c.make_parent.new.store) c.make_parent.ensures.calls c.make_parent.ensures.opened

pub returns-in_default-make-clause-tried : goal.returns-in_default-make-clause-tried
returns-in_default-make-clause-tried g c =
    let k = g.P.Keep.keeping c.args.policy in
    let disk = g.S.Store.disk c.args.store in
    tried_nothing k (expanded_names c.args.env.now c.args.path.now) c.args.self.append disk

pub returns-in_default-clause-tried : goal.returns-in_default-clause-tried
returns-in_default-clause-tried g c =
    let k = g.P.Keep.keeping c.args.policy in
    let disk = g.S.Store.disk c.args.store in
    tried_nothing k (expanded_names c.args.env.now c.args.path.now) c.args.self.append disk
