-- Lines whose records are logged one after another.
use Rattle.std.proofs.Common.{◌≡◌, Bool, true, false, ◌&&◌, inl, inr, List, [], ◌∷◌, ◌++◌, Ok, Err, Option, None, Some, string_bytes, refl, sym, ap, subst, ◌∙◌}
use Rattle.std.specs.Prelude.{Result, IfOk}
use Rattle.std.proofs.Math.Bool.{and-true}
use Rattle.log4rs_base.specs.Text.{Text}
use Rattle.log4rs_base.specs.declared.record.Context.{Context}
use Rattle.log4rs_base.specs.declared.record.Record.{Record}
use Rattle.log4rs_command.specs.Arguments.{Plain}
use Rattle.log4rs_command.specs.EachLine.{seen_of, LogsLine, LogsLines}
use Rattle.log4rs_command.specs.RunLines.{AreLines, AreRead}
use Rattle.log4rs_command.specs.Seen.{both_seen}
use Rattle.log4rs_command.specs.declared.seen.Seen.{Seen}

pub if_ok : {T E : Type 0} {P Q : T → Type 0} (r : Result T E) → ((v : T) → P v → Q v) → IfOk r P → IfOk r Q
if_ok (Ok v) more p = more v p
if_ok (Err e) more p = tt

and_assoc : (a b c : Bool) → ((a && b) && c) ≡ (a && (b && c))
and_assoc true b c = refl
and_assoc false b c = refl

same_seen : (a b c d : Bool) → a ≡ c → b ≡ d → seen_of a b ≡ seen_of c d
same_seen a b c d p q = ap (λ x. seen_of x b) p ∙ ap (λ x. seen_of c x) q

-- what is seen of no line adds nothing on either side
both_nothing : (one : Seen) → both_seen (seen_of true true) one ≡ both_seen one (seen_of true true)
both_nothing one = same_seen _ _ _ _ (sym (and-true one.all_read)) (sym (and-true one.all_logged))

both_assoc : (a b c : Seen) → both_seen (both_seen a b) c ≡ both_seen a (both_seen b c)
both_assoc a b c = same_seen _ _ _ _ (and_assoc a.all_read b.all_read c.all_read) (and_assoc a.all_logged b.all_logged c.all_logged)

-- no line
pub LogsLines-none : {S : Type 0} (Logged : S → Record → Context → Bool → S → Type 0) (given : Option Plain) (s : S) → LogsLines Logged given [] s s (seen_of true true)
LogsLines-none Logged given s = (refl, refl)

-- some lines, and one more
pub LogsLines-more : {S : Type 0} (Logged : S → Record → Context → Bool → S → Type 0) (given : Option Plain) (lines : List Text) (line : Text) (before between after : S)
    (some one all : Seen) → all ≡ both_seen some one → LogsLines Logged given lines before between some → LogsLine Logged given line between after one
    → LogsLines Logged given (lines ++ line ∷ []) before after all
LogsLines-more Logged given [] line before between after some one all is none last =
    let there = subst (λ s. LogsLine Logged given line s after one) none.0 last in
    (after, one, seen_of true true, there, (refl, refl), is ∙ ap (λ t. both_seen t one) none.1 ∙ both_nothing one)
LogsLines-more Logged given (first ∷ lines) line before between after some one all is p last =
    let rest = LogsLines-more Logged given lines line p.0 between after p.2 one (both_seen p.2 one) refl p.4 last in
    (p.0, p.1, both_seen p.2 one, p.3, rest, is ∙ ap (λ t. both_seen t one) p.5 ∙ both_assoc p.1 p.2 one)

-- whether one line and the others are well formed
read_on : {S : Type 0} (Logged : S → Record → Context → Bool → S → Type 0) (line : Text) (lines : List Text) (before between : S) (first rest seen : Seen)
    → LogsLine Logged None line before between first → seen ≡ both_seen first rest → AreLines lines rest.all_read → AreLines (line ∷ lines) seen.all_read
read_on Logged line lines before between first rest seen (inl p) is others =
    inr (p.0, ap (λ t. t.all_read) is ∙ ap (λ t. t.all_read && rest.all_read) p.2, (rest.all_read, others))
read_on Logged line lines before between first rest seen (inr p) is others =
    let same : seen.all_read ≡ rest.all_read = ap (λ t. t.all_read) is ∙ ap (λ t. t.all_read && rest.all_read) p.4 in
    inl ((p.0.logged.level, string_bytes p.0.logged.target, string_bytes p.0.logged.message, p.2.0.says), subst (λ b. AreLines lines b) (sym same) others)

-- one line is read where a level and a target are given
first_read : {S : Type 0} (Logged : S → Record → Context → Bool → S → Type 0) (plain : Plain) (line : Text) (before between : S) (first : Seen)
    → LogsLine Logged (Some plain) line before between first → first.all_read ≡ true
first_read Logged plain line before between first (inl p) = absurd p.0
first_read Logged plain line before between first (inr p) = ap (λ t. t.all_read) p.4

-- whether each line is well formed, or becomes a record
pub lines_read : {S : Type 0} (Logged : S → Record → Context → Bool → S → Type 0) (given : Option Plain) (lines : List Text) (before after : S) (seen : Seen)
    → LogsLines Logged given lines before after seen → AreRead given lines seen.all_read
lines_read Logged None [] before after seen p = ap (λ t. t.all_read) p.1
lines_read Logged None (line ∷ lines) before after seen p =
    read_on Logged line lines before p.0 p.1 p.2 seen p.3 p.5 (lines_read Logged None lines p.0 after p.2 p.4)
lines_read Logged (Some plain) [] before after seen p = ap (λ t. t.all_read) p.1
lines_read Logged (Some plain) (line ∷ lines) before after seen p =
    ap (λ t. t.all_read) p.5 ∙ ap (λ b. b && p.2.all_read) (first_read Logged plain line before p.0 p.1 p.3)
    ∙ lines_read Logged (Some plain) lines p.0 after p.2 p.4
