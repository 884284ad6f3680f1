-- Walks along a path find its governor.
use Rattle.std.proofs.Common.{◌≡◌, ℕ, ◌<◌, Bool, true, false, cond, List, [], ◌∷◌, ◌++◌, Option, Some, None, IsTrue, reverse, map, length, find, refl, sym, ap, ◌∙◌, subst, append_assoc, position, All, ◌&&◌, ◌||◌, ◌+◌, not, if◌then◌else◌, arith, rules, drop, drop-cons, add-one, slice_get, nat_lt, get_or, suc}
use Rattle.std.specs.Bool.{Decides, one_answer}
use Rattle.std.specs.Option.{option_or, option_map_or}
use Rattle.std.specs.List.{list_all, position_or_len}
use Rattle.std.specs.Str.{bytes_eq}
use Rattle.std.specs.Cmp.Lexicographic.{pointwise}
use Rattle.std.proofs.lemmas.List.{append-nil, reverse-reverse, reverse-append, map-append}
use Rattle.std.proofs.lemmas.Slice.Eq.{bytes_eq-Decides, slice_eq-Decides}
use Rattle.std.proofs.lemmas.Bool.Decides.{Decides-ltb}
use Rattle.std.proofs.lemmas.List.Elements.{All-cons}
use Rattle.log4rs_base.specs.Text.{Text}
use Rattle.log4rs_config.specs.Name.{components, path_of}
use Rattle.log4rs_config.specs.Settings.{Settings, LoggerSetting, IsAccepted, is_among}
use Rattle.log4rs_config.specs.Routing.{is_at, governing, governor, appender_list, places, places_at}
use Rattle.log4rs_config.specs.Walk.{index_of, chained}
use Rattle.log4rs_config.specs.Walk.{walk, longest}

first_true : (a b : Bool) → IsTrue (a && b) → IsTrue a
first_true true b h = refl
first_true false b h = h

second_true : (a b : Bool) → IsTrue (a && b) → IsTrue b
second_true true b h = h
second_true false b h = cc

both_true : (a b : Bool) → IsTrue a → IsTrue b → IsTrue (a && b)
both_true true b h k = k
both_true false b h k = h

append-all : {X : Type 0} (q : X → Bool) (xs ys : List X) → IsTrue (list_all q xs) → IsTrue (list_all q ys) → IsTrue (list_all q (xs ++ ys))
append-all q [] ys h k = k
append-all q (x ∷ xs) ys h k = both_true (q x) (list_all q (xs ++ ys)) (first_true (q x) (list_all q xs) h) (append-all q xs ys (second_true (q x) (list_all q xs) h) k)

known_append : (s : Settings) (more own : List Text) (additive : Bool) → IsTrue (list_all (is_among s.appenders) own) → IsTrue (list_all (is_among s.appenders) more)
    → IsTrue (list_all (is_among s.appenders) (own ++ (if additive then more else [])))
known_append s more own true h k = append-all (is_among s.appenders) own more h k
known_append s more own false h k = append-all (is_among s.appenders) own [] h refl

place_or : (names : List Text) (name : Text) (b : Bool) → IsTrue (b || is_among names name) → (IsTrue (is_among names name) → position_or_len (bytes_eq name) names < length names)
    → cond (not b) (1 + position_or_len (bytes_eq name) names) 0 < suc (length names)
place_or names name true h k = omega arith
place_or names name false h k = let l = k h in omega arith

-- the first component goes in front of the path
reverse-first : (c : Text) (cs above : List Text) → reverse (c ∷ cs) ++ above ≡ reverse cs ++ (c ∷ above)
reverse-first c cs above =
    ap (λ (x : List Text). x ++ above) (reverse-append (c ∷ []) cs) ∙ append_assoc (reverse cs) (c ∷ []) above

-- a walk computes what is defined from the path upwards
pub walk-up : {A : Type 0} (step : Option ℕ → A → A) (P : List Text → Option ℕ) (F : List Text → A)
    → ((part : Text) (above : List Text) → F (part ∷ above) ≡ step (P (part ∷ above)) (F above))
    → (above parts : List Text) (at : List Text → Option ℕ) → ((more : List Text) → at more ≡ P (reverse more ++ above))
    → walk step at (F above) parts ≡ F (reverse parts ++ above)
walk-up {A} step P F h above [] at e = refl
walk-up {A} step P F h above (part ∷ parts) at e =
    ap (λ (x : A). walk step (λ more. at (part ∷ more)) x parts) (ap (λ (o : Option ℕ). step o (F above)) (e (part ∷ [])) ∙ sym (h part above))
    ∙ (walk-up step P F h (part ∷ above) parts (λ more. at (part ∷ more)) (λ more. e (part ∷ more) ∙ ap P (reverse-first part more above))
    ∙ ap F (sym (reverse-first part parts above)))

-- a logger is at a path where that is its name's
pub is_at-Decides : (path : List Text) (logger : LoggerSetting) → Decides (is_at path logger) (path_of logger.name ≡ path)
is_at-Decides path logger = slice_eq-Decides bytes_eq-Decides (path_of logger.name) path (is_at path logger) refl

-- components are compared from either end
either_end : (parts : List Text) (logger : LoggerSetting) → pointwise bytes_eq (components logger.name) parts ≡ is_at (reverse parts ++ []) logger
either_end parts logger =
    let there = slice_eq-Decides bytes_eq-Decides (components logger.name) parts (pointwise bytes_eq (components logger.name) parts) refl in
    let up = is_at-Decides (reverse parts ++ []) logger in
    one_answer (pointwise bytes_eq (components logger.name) parts) (is_at (reverse parts ++ []) logger)
    there (
      (λ t. sym (reverse-reverse (components logger.name)) ∙ (ap reverse (up.0 t ∙ append-nil (reverse parts)) ∙ reverse-reverse parts)),
      (λ e. up.1 (ap reverse e ∙ sym (append-nil (reverse parts)))),
    )

same_tests : {X : Type 0} (p q : X → Bool) (xs : List X) → ((x : X) → p x ≡ q x) → position p xs ≡ position q xs
same_tests {X} p q xs h = ap (λ (t : X → Bool). position t xs) (let e : p ≡ q = (λ i x. h x i) in e)

-- what has the loggers at their components, finds the governor
pub longest-is : (loggers : List LoggerSetting) (at : List Text → Option ℕ) → ((parts : List Text) → at parts ≡ index_of loggers parts)
    → (path : List Text) → longest at None (reverse path) ≡ governor loggers path
longest-is loggers at h path =
    walk-up option_or (λ p. position (is_at p) loggers) (governor loggers) (λ part above. refl) [] (reverse path) at
    (λ more. h more ∙ same_tests (λ l. pointwise bytes_eq (components l.name) more) (is_at (reverse more ++ [])) loggers (either_end more))
    ∙ ap (governor loggers) (append-nil (reverse (reverse path)) ∙ reverse-reverse path)

found_or : {X : Type 0} (p : X → Bool) (y x : X) (b : Bool) (r : Option X) → p y ≡ b → cond b (Some y) r ≡ Some x → (r ≡ Some x → p x ≡ true) → p x ≡ true
found_or {X} p y x true r t e k = subst (λ (z : X). p z ≡ true) (ap (λ (o : Option X). option_map_or (λ (z : X). z) o y) e) t
found_or p y x false r t e k = k e

-- what is found passes the test
pub find-passes : {X : Type 0} (p : X → Bool) (xs : List X) (x : X) → find p xs ≡ Some x → p x ≡ true
find-passes p [] x e = cc
find-passes p (y ∷ ys) x e = found_or p y x (p y) (find p ys) refl e (λ (f : find p ys ≡ Some x). find-passes p ys x f)

found_all : {X : Type 0} (q : X → Bool) (y x : X) (b : Bool) (r : Option X) (rest : Bool) → IsTrue (q y && rest) → cond b (Some y) r ≡ Some x → (IsTrue rest → r ≡ Some x → IsTrue (q x)) → IsTrue (q x)
found_all {X} q y x true r rest a e k = subst (λ (z : X). IsTrue (q z)) (ap (λ (o : Option X). option_map_or (λ (z : X). z) o y) e) (first_true (q y) rest a)
found_all q y x false r rest a e k = k (second_true (q y) rest a) e

-- what all elements pass, the one that is found passes
pub find-all : {X : Type 0} (p q : X → Bool) (xs : List X) (x : X) → IsTrue (list_all q xs) → find p xs ≡ Some x → IsTrue (q x)
find-all p q [] x a e = cc
find-all p q (y ∷ ys) x a e = found_all q y x (p y) (find p ys) (list_all q ys) a e (λ (b : IsTrue (list_all q ys)) (f : find p ys ≡ Some x). find-all p q ys x b f)

list_step : (s : Settings) (part : Text) (above : List Text) (o : Option LoggerSetting) → find (is_at (part ∷ above)) s.loggers ≡ o
    → appender_list s above ≡ option_map_or (λ logger. appender_list s (path_of logger.name)) (governing s.loggers above) s.root.appenders
    → option_map_or (λ logger. logger.appenders ++ (if logger.additive then appender_list s above else [])) o (appender_list s above)
    ≡ option_map_or (λ logger. appender_list s (path_of logger.name)) (option_or o (governing s.loggers above)) s.root.appenders
list_step s part above None e h = h
list_step s part above (Some logger) e h =
    sym (ap (appender_list s) ((is_at-Decides (part ∷ above) logger).0 (find-passes (is_at (part ∷ above)) s.loggers logger e))
    ∙ ap (λ (o : Option LoggerSetting). option_map_or (λ (l : LoggerSetting). l.appenders ++ (if l.additive then appender_list s above else [])) o (appender_list s above)) e)

-- a path has the list of the logger that governs it
pub list-of-governing : (s : Settings) (path : List Text)
    → appender_list s path ≡ option_map_or (λ logger. appender_list s (path_of logger.name)) (governing s.loggers path) s.root.appenders
list-of-governing s [] = refl
list-of-governing s (part ∷ above) = list_step s part above (find (is_at (part ∷ above)) s.loggers) refl (list-of-governing s above)

known_step : (s : Settings) (part : Text) (above : List Text) (o : Option LoggerSetting) → find (is_at (part ∷ above)) s.loggers ≡ o
    → IsAccepted s → IsTrue (list_all (is_among s.appenders) (appender_list s above))
    → IsTrue (list_all (is_among s.appenders) (option_map_or (λ logger. logger.appenders ++ (if logger.additive then appender_list s above else [])) o (appender_list s above)))
known_step s part above None e a h = h
known_step s part above (Some logger) e a h =
    let own = find-all (is_at (part ∷ above)) (λ l. list_all (is_among s.appenders) l.appenders) s.loggers logger a.loggers_known e in
    known_append s (appender_list s above) logger.appenders logger.additive own h

-- the appenders of an accepted configuration's lists exist
pub list-known : (s : Settings) (path : List Text) → IsAccepted s → IsTrue (list_all (is_among s.appenders) (appender_list s path))
list-known s [] a = a.root_known
list-known s (part ∷ above) a = known_step s part above (find (is_at (part ∷ above)) s.loggers) refl a (list-known s above a)

-- a name that is there has a place
place-within : (names : List Text) (name : Text) → IsTrue (is_among names name) → position_or_len (bytes_eq name) names < length names
place-within [] name h = cc
place-within (n ∷ names) name h = place_or names name (bytes_eq name n) h (λ (k : IsTrue (is_among names name)). place-within names name k)

pub places-within : (names wanted : List Text) → IsTrue (list_all (is_among names) wanted) → All (λ at. at < length names) (places names wanted)
places-within names [] h = search rules
places-within names (name ∷ wanted) h =
    All-cons (λ (at : ℕ). at < length names) (position_or_len (bytes_eq name) names) (places names wanted)
    (place-within names name (first_true (is_among names name) (list_all (is_among names) wanted) h))
    (places-within names wanted (second_true (is_among names name) (list_all (is_among names) wanted) h))

below_next : (n m : ℕ) → nat_lt (suc n) (suc m) ≡ nat_lt n m
below_next n m =
    one_answer (nat_lt (suc n) (suc m)) (nat_lt n m) (Decides-ltb (suc n) (suc m))
    ((λ (t : nat_lt n m ≡ true). let l = (Decides-ltb n m).0 t in omega arith), (λ (t : suc n < suc m). (Decides-ltb n m).1 (omega arith)))

one_further : (n : ℕ) (t : Bool) → cond t (Some (suc n)) None ≡ option_map_or (λ i. Some (suc i)) (cond t (Some n) None) None
one_further n true = refl
one_further n false = refl

position_step : (n m k : ℕ) (b : Bool) → k ≡ suc n → cond (nat_lt (cond (not b) k 0) (suc m)) (Some (cond (not b) k 0)) None ≡ cond b (Some 0) (option_map_or (λ i. Some (suc i)) (cond (nat_lt n m) (Some n) None) None)
position_step n m k true e = ap (λ (t : Bool). cond t (Some 0) None) ((Decides-ltb 0 (suc m)).1 (omega arith))
position_step n m k false e =
    ap (λ (j : ℕ). cond (nat_lt j (suc m)) (Some j) None) e ∙ (ap (λ (t : Bool). cond t (Some (suc n)) None) (below_next n m) ∙ one_further n (nat_lt n m))

found_at : {X Y : Type 0} (b : Bool) (f : X → Y) (d : Y) (x : X) (xs : List X) (o : Option ℕ) (r : Option X)
    → option_map_or (λ i. Some (get_or (map f xs) i d)) o None ≡ option_map_or (λ z. Some (f z)) r None
    → option_map_or (λ i. Some (get_or (map f (x ∷ xs)) i d)) (cond b (Some 0) (option_map_or (λ i. Some (suc i)) o None)) None ≡ option_map_or (λ z. Some (f z)) (cond b (Some x) r) None
found_at true f d x xs o r h = refl
found_at false f d x xs None r h = h
found_at false f d x xs (Some i) r h = h

-- what stands at the place that is found is what is found
pub find-position : {X Y : Type 0} (p : X → Bool) (f : X → Y) (d : Y) (xs : List X) → option_map_or (λ i. Some (get_or (map f xs) i d)) (position p xs) None ≡ option_map_or (λ x. Some (f x)) (find p xs) None
find-position p f d [] = refl
find-position {X} {Y} p f d (x ∷ xs) =
    ap (λ (o : Option ℕ). option_map_or (λ (i : ℕ). Some (get_or (map f (x ∷ xs)) i d)) o None)
    (position_step (position_or_len p xs) (length xs) (1 + position_or_len p xs) (p x) (omega arith))
    ∙ found_at (p x) f d x xs (position p xs) (find p xs) (find-position p f d xs)

either_found : {X Y : Type 0} (f : X → Y) (get : ℕ → Y) (d : Y) (o o' : Option ℕ) (r r' : Option X)
    → option_map_or (λ i. Some (get i)) o None ≡ option_map_or (λ z. Some (f z)) r None
    → option_map_or get o' d ≡ option_map_or f r' d
    → option_map_or get (option_or o o') d ≡ option_map_or f (option_or r r') d
either_found f get d None o' None r' h k = k
either_found f get d None o' (Some x) r' h k = cc
either_found f get d (Some i) o' None r' h k = cc
either_found {X} {Y} f get d (Some i) o' (Some x) r' h k = ap (λ (o : Option Y). option_map_or (λ (z : Y). z) o d) h

-- what stands at the governor's place is what the governing logger has
pub governor-is : {Y : Type 0} (f : LoggerSetting → Y) (d : Y) (loggers : List LoggerSetting) (path : List Text)
    → option_map_or (λ i. get_or (map f loggers) i d) (governor loggers path) d ≡ option_map_or f (governing loggers path) d
governor-is f d loggers [] = refl
governor-is {Y} f d loggers (part ∷ above) =
    either_found f (λ i. get_or (map f loggers) i d) d (position (is_at (part ∷ above)) loggers) (governor loggers above) (find (is_at (part ∷ above)) loggers) (governing loggers above)
    (find-position (is_at (part ∷ above)) f d loggers) (governor-is f d loggers above)

pub first_of : {X : Type 0} (p : X → Bool) (x : X) (xs : List X) → position p (x ∷ xs) ≡ cond (p x) (Some 0) (option_map_or (λ i. Some (suc i)) (position p xs) None)
first_of p x xs = position_step (position_or_len p xs) (length xs) (1 + position_or_len p xs) (p x) (omega arith)

there_step : {X : Type 0} (x : X) (xs : List X) (b : Bool) (o : Option ℕ) (r : Option X) → option_map_or (λ i. slice_get xs i) o None ≡ r
    → option_map_or (λ i. slice_get (x ∷ xs) i) (cond b (Some 0) (option_map_or (λ i. Some (suc i)) o None)) None ≡ cond b (Some x) r
there_step x xs true o r h = refl
there_step x xs false None r h = h
there_step x xs false (Some i) r h = h

-- the element at the place that is found
pub found-there : {X : Type 0} (p : X → Bool) (xs : List X) → option_map_or (λ i. slice_get xs i) (position p xs) None ≡ find p xs
found-there p [] = refl
found-there {X} p (x ∷ xs) =
    ap (λ (o : Option ℕ). option_map_or (λ (i : ℕ). slice_get (x ∷ xs) i) o None) (first_of p x xs) ∙ there_step x xs (p x) (position p xs) (find p xs) (found-there p xs)

own_places : (names own above : List Text) (additive : Bool) → places names (own ++ (if additive then above else [])) ≡ places names own ++ (if additive then places names above else [])
own_places names own above true = map-append (λ (n : Text). position_or_len (bytes_eq n) names) own above
own_places names own above false = map-append (λ (n : Text). position_or_len (bytes_eq n) names) own []

chosen_places : (names above : List Text) (r : Option LoggerSetting)
    → places names (option_map_or (λ l. l.appenders ++ (if l.additive then above else [])) r above) ≡ option_map_or (λ l. places names l.appenders ++ (if l.additive then places names above else [])) r (places names above)
chosen_places names above None = refl
chosen_places names above (Some l) = own_places names l.appenders above l.additive

chained_step : (names above : List Text) (loggers : List LoggerSetting) (o : Option ℕ) (r : Option LoggerSetting) → option_map_or (λ i. slice_get loggers i) o None ≡ r
    → places names (option_map_or (λ l. l.appenders ++ (if l.additive then above else [])) r above) ≡ chained names loggers o (places names above)
chained_step names above loggers None r h = ap (λ (x : Option LoggerSetting). places names (option_map_or (λ (l : LoggerSetting). l.appenders ++ (if l.additive then above else [])) x above)) (sym h)
chained_step names above loggers (Some i) r h =
    ap (λ (x : Option LoggerSetting). places names (option_map_or (λ (l : LoggerSetting). l.appenders ++ (if l.additive then above else [])) x above)) (sym h)
    ∙ chosen_places names above (slice_get loggers i)

-- the definition of a list, step by step
list-chained : (s : Settings) (part : Text) (above : List Text)
    → places s.appenders (appender_list s (part ∷ above)) ≡ chained s.appenders s.loggers (position (is_at (part ∷ above)) s.loggers) (places s.appenders (appender_list s above))
list-chained s part above =
    chained_step s.appenders (appender_list s above) s.loggers (position (is_at (part ∷ above)) s.loggers) (find (is_at (part ∷ above)) s.loggers) (found-there (is_at (part ∷ above)) s.loggers)

-- a walk along a name gathers its list
pub gathered : (s : Settings) (at : List Text → Option ℕ) (name : Text) → ((parts : List Text) → at parts ≡ index_of s.loggers parts)
    → walk (chained s.appenders s.loggers) at (places s.appenders s.root.appenders) (components name) ≡ places_at s (path_of name)
gathered s at name h =
    walk-up (chained s.appenders s.loggers) (λ p. position (is_at p) s.loggers) (λ path. places s.appenders (appender_list s path)) (list-chained s) [] (components name) at
    (λ more. h more ∙ same_tests (λ l. pointwise bytes_eq (components l.name) more) (is_at (reverse more ++ [])) s.loggers (either_end more))
    ∙ ap (λ (path : List Text). places s.appenders (appender_list s path)) (append-nil (reverse (components name)))

-- the place of a name, one name further
pub place-next : {X : Type 0} (name : X → Text) (xs : List X) (i whole : ℕ) (x : X) (n : Text) (b : Bool) → i < length xs → x ≡ get_or xs i x → bytes_eq n (name x) ≡ b
    → whole ≡ i + position_or_len (bytes_eq n) (map name (drop i xs)) → whole ≡ i + cond (not b) (1 + position_or_len (bytes_eq n) (map name (drop (i + 1) xs))) 0
place-next {X} name xs i whole x n b h e t w =
    let cut : drop i xs ≡ x ∷ drop (i + 1) xs = rw add-one (drop-cons xs i x h) ∙ ap (λ (y : X). y ∷ drop (i + 1) xs) (sym e) in
    w ∙ (ap (λ (l : List X). i + position_or_len (bytes_eq n) (map name l)) cut
    ∙ ap (λ (c : Bool). i + cond (not c) (1 + position_or_len (bytes_eq n) (map name (drop (i + 1) xs))) 0) t)
