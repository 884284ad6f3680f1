-- Steps through a format: text up to a `%`, and a directive behind it.
use Rattle.std.proofs.Common.{◌≡◌, ◌≢◌, ◌∙◌, ◌<◌, ◌++◌, ◌==◌, ℕ, zero, suc, List, [], ◌∷◌, length, map, drop, get_or, false, Some, None, Option, option_map, String, string_bytes, refl, sym, ap, arith, append_assoc, append-nil}
use Rattle.std.proofs.lemmas.Bool.Decides.{nat_tests}
use Rattle.std.proofs.lemmas.Grind.{flat_map-append}
use Rattle.std.specs.List.{flat_map}
use Rattle.log4rs_base.specs.Clock.{ClockFields}
use Rattle.log4rs_base.specs.DateFormat.{Item, literal, of_directive, Found, found_at, directives, items_from, format_items, item_text, prepend}
use Rattle.log4rs_base.specs.PartView.{part_items, parts_items}
use Rattle.log4rs_base.specs.declared.dates.format.Part.{Part}
use Rattle.log4rs_base.specs.declared.dates.format.Part.TheVariants as parts
use Rattle.log4rs_base.specs.declared.dates.format.Part.TheVariants.{Literal}
use Rattle.log4rs_base.specs.declared.dates.directive.Directive.{Directive}
use Rattle.std.specs.declared.alloc.Global.{Global}

-- the items, if there are any, behind others
abbrev pub after : List Item → Option (List Item) → Option (List Item)
after front items = option_map (λ more. front ++ more) items

-- bytes that are read already are passed over
items_from-drop : (k : ℕ) (xs : List ℕ) → items_from k xs ≡ items_from 0 (drop k xs)
unfolding items_from
items_from-drop zero xs = refl
items_from-drop (suc k) [] = refl
items_from-drop (suc k) (b ∷ xs) = items_from-drop k xs

not_percent : (b : ℕ) → b ≢ 37 → (b == 37) ≡ false
not_percent b h = grind (arith, nat_tests)

after_prepend : (item : Item) (items : Option (List Item)) → prepend item items ≡ after (item ∷ []) items
after_prepend item None = refl
after_prepend item (Some more) = refl

after_nothing : (items : Option (List Item)) → items ≡ after [] items
after_nothing None = refl
after_nothing (Some more) = refl

after_after : (a b : List Item) (items : Option (List Item)) → after a (after b items) ≡ after (a ++ b) items
after_after a b None = refl
after_after a b (Some more) = ap Some (sym (append_assoc a b more))

-- text with no `%` prints itself
format_items-literal : (front rest : List ℕ) → ((i : ℕ) → i < length front → get_or front i 0 ≢ 37)
    → format_items (front ++ rest) ≡ after (map literal front) (format_items rest)
unfolding items_from
format_items-literal [] rest plain = after_nothing (format_items rest)
format_items-literal (b ∷ front) rest plain =
    rw (not_percent b (plain 0 (omega arith)))
    (after_prepend (literal b) (items_from 0 (front ++ rest))
    ∙ ap (after (literal b ∷ [])) (format_items-literal front rest (λ i h. plain (suc i) (omega arith)))
    ∙ after_after (literal b ∷ []) (map literal front) (format_items rest))

-- a format with no `%`
format_items-plain : (rest : List ℕ) → ((i : ℕ) → i < length rest → get_or rest i 0 ≢ 37) → format_items rest ≡ Some (map literal rest)
unfolding items_from
format_items-plain [] plain = refl
format_items-plain (b ∷ rest) plain =
    rw (not_percent b (plain 0 (omega arith)))
    (after_prepend (literal b) (items_from 0 rest) ∙ ap (after (literal b ∷ [])) (format_items-plain rest (λ i h. plain (suc i) (omega arith))))

-- a directive behind a `%`, and a `%` before no directive
format_items-directive : (rest : List ℕ) (f : Found) → found_at directives rest ≡ Some f
    → format_items (37 ∷ rest) ≡ after (of_directive f.directive ∷ []) (format_items (drop f.name_length rest))
unfolding items_from
format_items-directive rest f e =
    rw e (after_prepend (of_directive f.directive) (items_from f.name_length rest) ∙ ap (after (of_directive f.directive ∷ [])) (items_from-drop f.name_length rest))

format_items-refused : (rest : List ℕ) → found_at directives rest ≡ None → format_items (37 ∷ rest) ≡ None
unfolding items_from
format_items-refused rest e = rw e refl

-- one turn of a walk: some text, a `%` and a directive, with what is read already
pub turn : (whole text front back : List ℕ) (old : List Item) (f : Found) → format_items whole ≡ after old (format_items text) → text ≡ front ++ 37 ∷ back
    → ((i : ℕ) → i < length front → get_or front i 0 ≢ 37) → found_at directives back ≡ Some f
    → format_items whole ≡ after (old ++ map literal front ++ of_directive f.directive ∷ []) (format_items (drop f.name_length back))
turn whole text front back old f so_far e plain named =
    so_far ∙ ap (λ t. after old (format_items t)) e ∙ ap (after old) (format_items-literal front (37 ∷ back) plain)
    ∙ ap (λ t. after old (after (map literal front) t)) (format_items-directive back f named)
    ∙ after_after old (map literal front) _ ∙ after_after (old ++ map literal front) (of_directive f.directive ∷ []) _

pub bad_turn : (whole text front back : List ℕ) (old : List Item) → format_items whole ≡ after old (format_items text) → text ≡ front ++ 37 ∷ back
    → ((i : ℕ) → i < length front → get_or front i 0 ≢ 37) → found_at directives back ≡ None → format_items whole ≡ None
bad_turn whole text front back old so_far e plain named =
    so_far ∙ ap (λ t. after old (format_items t)) e ∙ ap (after old) (format_items-literal front (37 ∷ back) plain)
    ∙ ap (λ t. after old (after (map literal front) t)) (format_items-refused back named)

pub last_turn : (whole rest : List ℕ) (old : List Item) → format_items whole ≡ after old (format_items rest)
    → ((i : ℕ) → i < length rest → get_or rest i 0 ≢ 37) → format_items whole ≡ Some (old ++ map literal rest)
last_turn whole rest old so_far plain = so_far ∙ ap (after old) (format_items-plain rest plain)

-- one part more
pub parts_more : (ps : List Part) (p : Part) → parts_items (ps ++ p ∷ []) ≡ parts_items ps ++ part_items p
parts_more ps p = flat_map-append part_items ps (p ∷ []) ∙ ap (λ (w : List Item). parts_items ps ++ w) (append-nil (part_items p))

-- literal text prints itself
pub flat_map-literals : (c : ClockFields) (bs : List ℕ) → flat_map (item_text c) (map literal bs) ≡ bs
flat_map-literals c [] = refl
flat_map-literals c (b ∷ bs) = ap (λ (w : List ℕ). b ∷ w) (flat_map-literals c bs)

-- a text and a directive more
pub parts_turned : (old mid new : List Part) (t : String Global) (front : List ℕ) (d : Directive) → string_bytes t ≡ front
    → mid ≡ old ++ Literal t ∷ [] → new ≡ mid ++ parts.Directive d ∷ [] → parts_items new ≡ parts_items old ++ map literal front ++ of_directive d ∷ []
parts_turned old mid new t front d is e f =
    ap parts_items f ∙ parts_more mid (parts.Directive d)
    ∙ ap (λ (w : List Item). w ++ of_directive d ∷ []) (ap parts_items e ∙ parts_more old (Literal t) ∙ ap (λ (bs : List ℕ). parts_items old ++ map literal bs) is)

-- the last text
pub parts_ended : (old new : List Part) (t : String Global) (rest : List ℕ) → string_bytes t ≡ rest → new ≡ old ++ Literal t ∷ []
    → parts_items new ≡ parts_items old ++ map literal rest
parts_ended old new t rest is e = ap parts_items e ∙ parts_more old (Literal t) ∙ ap (λ (bs : List ℕ). parts_items old ++ map literal bs) is
