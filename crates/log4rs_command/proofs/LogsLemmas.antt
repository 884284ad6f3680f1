-- What a run logs, line by line.
use Rattle.std.proofs.Common.{◌≡◌, ◌≢◌, ℕ, ◌+◌, ◌≤◌, Bool, true, false, ◌&&◌, ◌==◌, inl, inr, List, [], ◌∷◌, ◌++◌, length, Result, Ok, Err, string_bytes, refl, sym, ap, subst, ◌∙◌, arith, length-append}
use Rattle.std.specs.Prelude.{is_ok}
use Rattle.std.specs.List.{list_all}
use Rattle.std.proofs.Math.Bool.{and-true}
use Rattle.std.proofs.lemmas.Bool.{ne_eqb, eq-eqb, eqb-true}
use Rattle.std.proofs.lemmas.List.Folds.{list_all-append}
use Rattle.std.proofs.lemmas.List.Elements.{All-nil, All-cons, All-append}
use Rattle.log4rs_base.specs.Text.{Text}
use Rattle.log4rs_base.specs.declared.record.Entry.{Entry}
use Rattle.log4rs_base.specs.declared.record.Record.{Record}
use Rattle.log4rs_append.specs.Sink.{Sink}
use Rattle.log4rs_config.specs.Name.{path_of}
use Rattle.log4rs_config.specs.Routing.{Deliveries, deliveries, let_through, level_at, places_at}
use Rattle.log4rs_config.specs.Settings.{Settings}
use Rattle.log4rs_config.specs.Answer.{IsAnswer}
use Rattle.log4rs_config.specs.Answers.{AreAnswers}
use Rattle.log4rs_config.specs.declared.delivery.CoreError.{CoreError}
use Rattle.log4rs_config.specs.declared.delivery.CoreError.TheVariants.{Memory, Appenders}
use Rattle.log4rs_command.specs.Entry.{AreEntries, IsEntry}
use Rattle.log4rs_command.specs.Line.{IsNoLine}
use Rattle.log4rs_command.specs.Logs.{Logs}
use Rattle.log4rs_command.specs.Seen.{both_seen}
use Rattle.log4rs_command.specs.declared.seen.Seen.{Seen}

abbrev Answer : Type 0
Answer = Result Unit CoreError

-- memory was found for the record
abbrev WasFound : Answer → Type 0
WasFound answer = answer ≢ Err Memory

abbrev pub is_memory : Answer → Bool
is_memory (Ok _) = false
is_memory (Err Memory) = true
is_memory (Err (Appenders _)) = false

pub was_found : (answer : Answer) → is_memory answer ≡ false → WasFound answer
was_found answer other e = let clash : false ≡ true = sym other ∙ ap is_memory e in cc

AreEntries-short : (lines : List Text) (entries : List Entry) → AreEntries lines entries → length entries ≤ length lines
AreEntries-short [] [] are = omega arith
AreEntries-short [] (e ∷ entries) are = absurd are
AreEntries-short (line ∷ lines) [] are = omega arith
AreEntries-short (line ∷ lines) (e ∷ entries) (inl are) = omega (arith, AreEntries-short lines (e ∷ entries) are.1)
AreEntries-short (line ∷ lines) (e ∷ entries) (inr are) = omega (arith, AreEntries-short lines entries are.1)

-- a malformed line before the others
skipped : (line : Text) (lines : List Text) (entries : List Entry) → IsNoLine line → AreEntries lines entries → AreEntries (line ∷ lines) entries
skipped line lines [] none are = (none, are)
skipped line lines (e ∷ entries) none are = inl (none, are)

AreEntries-append : (lines more : List Text) (entries others : List Entry) → AreEntries lines entries → AreEntries more others
    → AreEntries (lines ++ more) (entries ++ others)
AreEntries-append [] more [] others are then = then
AreEntries-append [] more (e ∷ entries) others are then = absurd are
AreEntries-append (line ∷ lines) more [] others are then = skipped line (lines ++ more) others are.0 (AreEntries-append lines more [] others are.1 then)
AreEntries-append (line ∷ lines) more (e ∷ entries) others (inl are) then = inl (are.0, AreEntries-append lines more (e ∷ entries) others are.1 then)
AreEntries-append (line ∷ lines) more (e ∷ entries) others (inr are) then = inr (are.0, AreEntries-append lines more entries others are.1 then)

AreAnswers-append : (d : Deliveries) (entries others : List Entry) (answers results : List Answer) (before between after : List Sink)
    → AreAnswers d entries answers before between → AreAnswers d others results between after
    → AreAnswers d (entries ++ others) (answers ++ results) before after
AreAnswers-append d [] others [] results before between after are then = subst (λ l. AreAnswers d others results l after) are then
AreAnswers-append d [] others (a ∷ answers) results before between after are then = absurd are
AreAnswers-append d (e ∷ entries) others [] results before between after are then = absurd are
AreAnswers-append d (e ∷ entries) others (a ∷ answers) results before between after are then =
    (are.0, are.1, AreAnswers-append d entries others answers results are.0 between after are.2 then)

-- other deliveries that agree
AreAnswers-agree : (d d' : Deliveries) (entries : List Entry) (answers : List Answer) (before after : List Sink) → ((r : Record) → d' r ≡ d r)
    → AreAnswers d' entries answers before after → AreAnswers d entries answers before after
AreAnswers-agree d d' [] [] before after same are = are
AreAnswers-agree d d' [] (a ∷ answers) before after same are = absurd are
AreAnswers-agree d d' (e ∷ entries) [] before after same are = absurd are
AreAnswers-agree d d' (e ∷ entries) (a ∷ answers) before after same are =
    (are.0, subst (λ places. IsAnswer e.logged e.context places a before are.0) (same e.logged) are.1, AreAnswers-agree d d' entries answers are.0 after same are.2)

both : (s t u : Bool) → (s ≡ true → t ≡ true → u ≡ true) → (s ≡ false → u ≡ false) → (t ≡ false → u ≡ false) → u ≡ (s && t)
both true true u third first second = third refl refl
both true false u third first second = second refl
both false true u third first second = first refl
both false false u third first second = first refl

-- both numbers agree just where their sums do, if none is too large
sums : (a b m n : ℕ) → a ≤ b → m ≤ n → (a + m == b + n) ≡ (a == b && m == n)
sums a b m n first second = both (a == b) (m == n) (a + m == b + n)
    (λ p q. let e = eqb-true a b p in let f = eqb-true m n q in eq-eqb (a + m) (b + n) (omega arith))
    (λ p. ne_eqb (a + m) (b + n) (λ e. let k : a ≡ b = omega arith in let t = eq-eqb a b k in cc))
    (λ q. ne_eqb (a + m) (b + n) (λ e. let k : m ≡ n = omega arith in let t = eq-eqb m n k in cc))

-- no line
pub Logs-none : (d : Deliveries) (sinks : List Sink) → Logs d [] sinks sinks (record { all_read = true; all_logged = true })
Logs-none d sinks = record { entries = []; answers = []; of_lines = tt; answered = refl; found = All-nil WasFound; all_read = refl; all_logged = refl }

-- a malformed line
pub Logs-malformed : (d : Deliveries) (line : Text) (sinks : List Sink) → IsNoLine line
    → Logs d (line ∷ []) sinks sinks (record { all_read = false; all_logged = true })
Logs-malformed d line sinks none =
    record { entries = []; answers = []; of_lines = (none, tt); answered = refl; found = All-nil WasFound; all_read = refl; all_logged = refl }

-- a line whose record was logged
pub Logs-one : (d : Deliveries) (line : Text) (entry : Entry) (answer : Answer) (before after : List Sink) (well : Bool) → IsEntry line entry
    → IsAnswer entry.logged entry.context (d entry.logged) answer before after → WasFound answer → well ≡ is_ok answer
    → Logs d (line ∷ []) before after (record { all_read = true; all_logged = well })
Logs-one d line entry answer before after well is answered found e = record {
  entries = entry ∷ [];
  answers = answer ∷ [];
  of_lines = inr (is, tt);
  answered = (after, answered, refl);
  found = All-cons WasFound answer [] found (All-nil WasFound);
  all_read = refl;
  all_logged = e ∙ sym (and-true (is_ok answer));
}

-- some lines, and then more
pub Logs-append : (d d' : Deliveries) (lines more : List Text) (before between after : List Sink) (s s' all : Seen) → ((r : Record) → d' r ≡ d r)
    → all ≡ both_seen s s' → Logs d lines before between s → Logs d' more between after s' → Logs d (lines ++ more) before after all
Logs-append d d' lines more before between after s s' all same is p q =
    let counts = sums (length p.entries) (length lines) (length q.entries) (length more) (AreEntries-short lines p.entries p.of_lines) (AreEntries-short more q.entries q.of_lines) in
    let read : (s.all_read && s'.all_read) ≡ (length (p.entries ++ q.entries) == length (lines ++ more)) =
    cc (p.all_read, q.all_read, length-append p.entries q.entries, length-append lines more, counts) in
    let logged : (s.all_logged && s'.all_logged) ≡ list_all is_ok (p.answers ++ q.answers) =
    cc (p.all_logged, q.all_logged, list_all-append is_ok p.answers q.answers) in
    record {
      entries = p.entries ++ q.entries;
      answers = p.answers ++ q.answers;
      of_lines = AreEntries-append lines more p.entries q.entries p.of_lines q.of_lines;
      answered = AreAnswers-append d p.entries q.entries p.answers q.answers before between after p.answered
          (AreAnswers-agree d d' q.entries q.answers between after same q.answered);
      found = All-append WasFound p.answers q.answers p.found q.found;
      all_read = ap (λ t. t.all_read) is ∙ read;
      all_logged = ap (λ t. t.all_logged) is ∙ logged;
    }

-- settings and filters that agree deliver alike
pub deliveries-same : (s s' : Settings) (a a' : Record → List Bool) → s' ≡ s → ((r : Record) → a' r ≡ a r) → (r : Record) → deliveries s' a' r ≡ deliveries s a r
deliveries-same s s' a a' e same r =
    ap (λ t. deliveries t a' r) e
    ∙ ap (λ l. let_through (level_at s (path_of (string_bytes r.target))) (places_at s (path_of (string_bytes r.target))) l r.level) (same r)
