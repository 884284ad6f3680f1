-- What a run prints.
use Rattle.std.proofs.Common.{◌≡◌, ℕ, ◌+◌, ◌<◌, Bool, true, List, [], ◌∷◌, ◌++◌, map, take, length, get_or, Option, None, Some, IfSome, String, Global, string_bytes, sym, ap, subst, ◌∙◌, append_assoc}
use Rattle.std.specs.Io.KnownBytes.{Appends}
use Rattle.std.specs.List.{concat}
use Rattle.std.specs.Str.{chars}
use Rattle.std.proofs.lemmas.List.{append-nil, map-append, take_more}
use Rattle.log4rs_base.specs.Text.{Text}
use Rattle.log4rs_base.specs.declared.record.Record.{Record}
use Rattle.log4rs_append.specs.Sink.{Sink}
use Rattle.log4rs_config.specs.Faults.{faults}
use Rattle.log4rs_config.specs.Routing.{deliveries}
use Rattle.log4rs_config.specs.Settings.{Settings}
use Rattle.log4rs_command.specs.Arguments.{Setting}
use Rattle.log4rs_command.specs.Input.{lines_of}
use Rattle.log4rs_command.specs.Logs.{Logs}
use Rattle.log4rs_command.specs.Prints.{Prints}
use Rattle.log4rs_command.specs.Seen.{is_all_well}
use Rattle.log4rs_command.specs.Settings.{configured}
use Rattle.log4rs_command.specs.Sinks.{IsEmptySink, held_in}
use Rattle.log4rs_command.specs.declared.seen.Seen.{Seen}

Appends-more : (old between new : Option (List ℕ)) (bs cs : List ℕ) → Appends old between bs → Appends between new cs → Appends old new (bs ++ cs)
Appends-more None between new bs cs first second = tt
Appends-more (Some xs) None new bs cs first second = absurd first
Appends-more (Some xs) (Some ys) None bs cs first second = absurd second
Appends-more (Some xs) (Some ys) (Some zs) bs cs first second = second ∙ ap (λ l. l ++ cs) first ∙ append_assoc xs bs cs

concat-snoc : (xs : List (List ℕ)) (y : List ℕ) → concat (xs ++ (y ∷ [])) ≡ concat xs ++ y
concat-snoc [] y = append-nil y
concat-snoc (x ∷ xs) y = ap (λ l. x ++ l) (concat-snoc xs y) ∙ sym (append_assoc x (concat xs) y)

abbrev texts_of : List (String Global) → List Text
texts_of texts = map (λ text. string_bytes text) texts

-- one more text was printed
pub prints_more : (old between new : Option (List ℕ)) (texts : List (String Global)) (i : ℕ) (text : String Global) (bytes : List ℕ)
    → i < length texts → text ≡ get_or texts i text → bytes ≡ string_bytes text
    → Appends old between (concat (texts_of (take i texts))) → Appends between new bytes → Appends old new (concat (texts_of (take (i + 1) texts)))
prints_more old between new texts i text bytes inside at is first second =
    let more : texts_of (take (i + 1) texts) ≡ texts_of (take i texts) ++ (bytes ∷ []) =
    ap texts_of (take_more texts i text inside) ∙ map-append (λ t. string_bytes t) (take i texts) (get_or texts i text ∷ [])
    ∙ ap (λ t. texts_of (take i texts) ++ (string_bytes t ∷ [])) (sym at) ∙ ap (λ b. texts_of (take i texts) ++ (b ∷ [])) (sym is) in
    let whole : concat (texts_of (take (i + 1) texts)) ≡ concat (texts_of (take i texts)) ++ bytes = ap concat more ∙ concat-snoc (texts_of (take i texts)) bytes in
    subst (λ l. Appends old new l) (sym whole) (Appends-more old between new (concat (texts_of (take i texts))) bytes first second)

-- a run by a pattern, by its steps
pub prints_of : (input before after : Option (List ℕ)) (pattern : Text) (settings : List Setting) (s : Settings) (admits : Record → List Bool)
    (first final : List Sink) (empty : Sink) (lines : List Text) (seen : Seen) (well : Bool)
    → faults (configured settings) ≡ [] → s ≡ configured settings → ((r : Record) → admits r ≡ true ∷ [])
    → first ≡ empty ∷ [] → IsEmptySink (chars pattern) empty → IfSome input (λ bytes. lines ≡ lines_of bytes) → Logs (deliveries s admits) lines first final seen
    → well ≡ is_all_well seen → IfSome (held_in final) (λ held. Appends before after (concat held))
    → Prints pattern settings input before after well
prints_of input before after pattern settings s admits first final empty lines seen well faultless same admitted one is_empty of_input logs is_well prints =
    let there = subst (λ t. Logs (deliveries t admits) lines first final seen) same logs in
    record {
      faultless = faultless;
      admits = admits;
      admitted = admitted;
      lines = lines;
      of_input = of_input;
      empty = empty;
      is_empty = is_empty;
      sinks = final;
      seen = seen;
      logs = subst (λ sinks. Logs (deliveries (configured settings) admits) lines sinks final seen) one there;
      well = is_well;
      prints = prints;
    }
