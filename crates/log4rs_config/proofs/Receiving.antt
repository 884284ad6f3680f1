-- Sinks receive what was delivered.
use Rattle.std.proofs.Common.{◌≡◌, ℕ, ◌<◌, ◌==◌, Bool, true, false, cond, IsTrue, List, [], ◌∷◌, ◌++◌, length, map, set, get_or, replicate, count_by, Result, Ok, Err, is_ok, refl, sym, ap, ◌∙◌, subst, append_assoc, arith, ◌≢◌, eqb-true}
use Rattle.std.proofs.lemmas.Bool.{eqb-false}
use Rattle.std.specs.List.{flat_map, list_all}
use Rattle.std.proofs.lemmas.List.{append-nil, get_or-set_same, get_or-set_other, length-set}
use Rattle.std.proofs.lemmas.List.Sums.{sum_by-cons}
use Rattle.std.proofs.Math.ListN.{replicate-append-replicate}
use Rattle.log4rs_base.specs.declared.record.Record.{Record}
use Rattle.log4rs_base.specs.declared.record.Context.{Context}
use Rattle.log4rs_base.specs.declared.record.Entry.{Entry}
use Rattle.log4rs_config.specs.declared.delivery.CoreError.{CoreError}
use Rattle.log4rs_base.specs.Text.{Text}
use Rattle.log4rs_append.specs.Sink.{Reading, Sink, untold, Texts, Untold, Items, Bytes, Gains}
use Rattle.log4rs_config.specs.Destinations.{Outcome, AppendedAt}
use Rattle.log4rs_config.specs.Delivery.{DeliveredBy}
use Rattle.log4rs_config.specs.Answer.{faults}
use Rattle.log4rs_config.specs.Routing.{Deliveries}
use Rattle.log4rs_config.specs.Answers.{AreAnswers}
use Rattle.log4rs_config.specs.Received.{texts_at, texts_in, HasReceived, HaveReceived}

joined-append : (xs ys : List Text) → flat_map (λ (t : Text). t) (xs ++ ys) ≡ flat_map (λ (t : Text). t) xs ++ flat_map (λ (t : Text). t) ys
joined-append [] ys = refl
joined-append (x ∷ xs) ys = ap (λ (r : List ℕ). x ++ r) (joined-append xs ys) ∙ sym (append_assoc x (flat_map (λ (t : Text). t) xs) (flat_map (λ (t : Text). t) ys))

-- nothing
received_none : (before after : Texts) → after ≡ before → HasReceived (λ _. []) before after
received_none Untold after e = tt
received_none (Items read held) after e = e ∙ ap (λ (x : List Text). Items read x) (sym (append-nil held))
received_none (Bytes read held) after e = e ∙ ap (λ (x : List ℕ). Bytes read x) (sym (append-nil held))

-- one text
received_one : (r : Record) (c : Context) (u : Unit {0}) (before after : Texts) → Gains r c (Ok u) before after → HasReceived (λ read. read r c ∷ []) before after
received_one r c u Untold after e = tt
received_one r c u (Items read held) after e = e
received_one r c u (Bytes read held) after e = e ∙ ap (λ (x : List ℕ). Bytes read (held ++ x)) (sym (append-nil (read r c)))

-- some texts, then others
received-append : (xs ys : Reading → List Text) (before between after : Texts)
    → HasReceived xs before between → HasReceived ys between after → HasReceived (λ read. xs read ++ ys read) before after
received-append xs ys Untold between after p q = tt
received-append xs ys (Items read held) between after p q =
    let q' : after ≡ Items read ((held ++ xs read) ++ ys read) = subst (λ (s : Texts). HasReceived ys s after) p q in
    q' ∙ ap (λ (x : List Text). Items read x) (append_assoc held (xs read) (ys read))
received-append xs ys (Bytes read held) between after p q =
    let q' : after ≡ Bytes read ((held ++ flat_map (λ (t : Text). t) (xs read)) ++ flat_map (λ (t : Text). t) (ys read)) = subst (λ (s : Texts). HasReceived ys s after) p q in
    q' ∙ ap (λ (x : List ℕ). Bytes read x) (append_assoc held (flat_map (λ (t : Text). t) (xs read)) (flat_map (λ (t : Text). t) (ys read)) ∙ ap (λ (x : List ℕ). held ++ x) (sym (joined-append (xs read) (ys read))))

-- how often a place is among these
abbrev times : ℕ → List ℕ → ℕ
times at places = count_by (λ p. p == at) places

-- one append, seen at a place
received_at : (r : Record) (c : Context) (u : Unit {0}) (p at : ℕ) (before between : List Sink) (b : Bool) → (p == at) ≡ b → at < length before
    → AppendedAt r c p (Ok u) before between
    → HasReceived (λ read. replicate (cond b 1 0) (read r c)) (texts_in before at) (texts_in between at)
received_at r c u p at before between true e h (sink, appends, is) =
    let same : p ≡ at = eqb-true p at e in
    let there : texts_in between at ≡ sink.texts =
    ap (λ (x : List Sink). texts_in x at) is
    ∙ ap (λ (s : Sink). s.texts) (ap (λ (x : ℕ). get_or (set before x sink) at untold) same ∙ get_or-set_same before at sink untold h) in
    let gains : Gains r c (Ok u) (texts_in before at) sink.texts = subst (λ (x : ℕ). Gains r c (Ok u) (texts_in before x) sink.texts) same appends.gains in
    subst (λ (x : Texts). HasReceived (λ read. replicate 1 (read r c)) (texts_in before at) x) (sym there) (received_one r c u (texts_in before at) sink.texts gains)
received_at r c u p at before between false e h (sink, appends, is) =
    let other : at ≢ p = λ q. eqb-false p at e (sym q) in
    received_none (texts_in before at) (texts_in between at)
    (ap (λ (x : List Sink). texts_in x at) is ∙ ap (λ (s : Sink). s.texts) (get_or-set_other before p at sink untold other))

-- the same texts
received_same : (xs ys : Reading → List Text) (before after : Texts) → ((read : Reading) → xs read ≡ ys read) → HasReceived xs before after → HasReceived ys before after
received_same xs ys Untold after e p = tt
received_same xs ys (Items read held) after e p = p ∙ ap (λ (x : List Text). Items read (held ++ x)) (e read)
received_same xs ys (Bytes read held) after e p = p ∙ ap (λ (x : List Text). Bytes read (held ++ flat_map (λ (t : Text). t) x)) (e read)

-- the places of deliveries
abbrev places_of : List (ℕ × Outcome) → List ℕ
places_of made = map (λ d. d.0) made

-- there are as many sinks as before
long_all : (r : Record) (c : Context) (made : List (ℕ × Outcome)) (before after : List Sink) → DeliveredBy (AppendedAt r c) made before after → length after ≡ length before
long_all r c [] before after p = ap length p
long_all r c ((q, o) ∷ made) before after (between, step, rest) =
    long_all r c made between after rest ∙ (ap length step.2 ∙ length-set before q step.0)

-- a run without failures
received_all : (r : Record) (c : Context) (made : List (ℕ × Outcome)) (before after : List Sink) (at : ℕ) → at < length before
    → faults made ≡ [] → DeliveredBy (AppendedAt r c) made before after
    → HasReceived (λ read. replicate (times at (places_of made)) (read r c)) (texts_in before at) (texts_in after at)
received_all r c [] before after at h f p = received_none (texts_in before at) (texts_in after at) (ap (λ (x : List Sink). texts_in x at) p)
received_all r c ((q, Err e) ∷ made) before after at h f p = cc
received_all r c ((q, Ok u) ∷ made) before after at h f (between, step, rest) =
    let long : length between ≡ length before = ap length step.2 ∙ length-set before q step.0 in
    let more = received_all r c made between after at (omega arith) f rest in
    let first = received_at r c u q at before between (q == at) refl h step in
    let both = received-append (λ read. replicate (cond (q == at) 1 0) (read r c)) (λ read. replicate (times at (places_of made)) (read r c))
    (texts_in before at) (texts_in between at) (texts_in after at) first more in
    received_same (λ read. replicate (cond (q == at) 1 0) (read r c) ++ replicate (times at (places_of made)) (read r c)) (λ read. replicate (times at (q ∷ places_of made)) (read r c))
    (texts_in before at) (texts_in after at) (λ read. replicate-append-replicate (cond (q == at) 1 0) (times at (places_of made)) (read r c)
    ∙ ap (λ (n : ℕ). replicate n (read r c)) (sym (sum_by-cons (λ (x : ℕ). cond (x == at) 1 0) q (places_of made)))) both

-- answers without errors, at one place
received_each : (d : Deliveries) (entries : List Entry) (answers : List (Result Unit CoreError)) (before after : List Sink)
    → IsTrue (list_all is_ok answers) → AreAnswers d entries answers before after
    → (at : ℕ) → at < length before → HasReceived (texts_at d entries at) (texts_in before at) (texts_in after at)
received_each d [] [] before after ok p at h = received_none (texts_in before at) (texts_in after at) (ap (λ (x : List Sink). texts_in x at) p)
received_each d [] (a ∷ answers) before after ok p at h = absurd p
received_each d (e ∷ entries) [] before after ok p at h = absurd p
received_each d (e ∷ entries) (Err x ∷ answers) before after ok p at h = cc
received_each d (e ∷ entries) (Ok u ∷ answers) before after ok (between, (made, are, none), rest) at h =
    let long : length between ≡ length before = long_all e.logged e.context made before between are.delivered in
    let first = subst (λ (ps : List ℕ). HasReceived (λ read. replicate (times at ps) (read e.logged e.context)) (texts_in before at) (texts_in between at)) are.at_places
    (received_all e.logged e.context made before between at h (sym none) are.delivered) in
    let more = received_each d entries answers between after ok rest at (omega arith) in
    received-append (λ read. replicate (times at (d e.logged)) (read e.logged e.context)) (texts_at d entries at)
    (texts_in before at) (texts_in between at) (texts_in after at) first more

-- there are as many sinks as before
as_many : (d : Deliveries) (entries : List Entry) (answers : List (Result Unit CoreError)) (before after : List Sink)
    → IsTrue (list_all is_ok answers) → AreAnswers d entries answers before after → length after ≡ length before
as_many d [] [] before after ok p = ap length p
as_many d [] (a ∷ answers) before after ok p = absurd p
as_many d (e ∷ entries) [] before after ok p = absurd p
as_many d (e ∷ entries) (Err x ∷ answers) before after ok p = cc
as_many d (e ∷ entries) (Ok u ∷ answers) before after ok (between, (made, are, none), rest) =
    as_many d entries answers between after ok rest ∙ long_all e.logged e.context made before between are.delivered

-- answers without errors
pub received_of_answers : (d : Deliveries) (entries : List Entry) (answers : List (Result Unit CoreError)) (before after : List Sink)
    → IsTrue (list_all is_ok answers) → AreAnswers d entries answers before after → HaveReceived d entries before after
received_of_answers d entries answers before after ok p =
    record { received = received_each d entries answers before after ok p; as_many = as_many d entries answers before after ok p }
