-- Settings, by their parts.
use Rattle.std.proofs.Common.{◌≡◌, ℕ, ◌+◌, ◌<◌, ◌≤◌, List, [], ◌∷◌, ◌++◌, map, take, drop, length, get_or, All, Option, Some, None, String, Global, string_bytes, refl, sym, ap, subst, ◌∙◌, codes, arith}
use Rattle.std.specs.List.{AllZip}
use Rattle.std.proofs.lemmas.List.{get_or-map, length-map, map-append, take_more}
use Rattle.log.specs.Level.{parse_filter, parse_level}
use Rattle.log4rs_command.specs.Arguments.{Setting, IsSetting, IsNoSetting, AreArguments, AreNumbers, ArePlain, Plain, by_pattern, by_file, by_threads, equals_sign, setting_of, asked_settings}
use Rattle.log4rs_command.specs.declared.arguments.Setting as source
use Rattle.log4rs_command.proofs.Splits.{IsNot, SplitsLast, unsplit, last_unique}
use Rattle.log4rs_command.proofs.Zips.{AllZip-snoc, AllZip-partner}

pub no_setting-no_name : (arg : List ℕ) → All (IsNot equals_sign) arg → IsNoSetting arg
no_setting-no_name arg none setting h = unsplit equals_sign arg setting.name h.word none h.parts

pub no_setting-no_level : (arg name word : List ℕ) → SplitsLast equals_sign arg name word → parse_filter word ≡ None → IsNoSetting arg
no_setting-no_level arg name word split unnamed setting h =
    let same = last_unique equals_sign name setting.name word h.word split.1 h.word_begins (sym split.0 ∙ h.parts) in
    let named : parse_filter word ≡ Some setting.level = ap parse_filter same.1 ∙ h.names in
    cc

abbrev texts : List (String Global) → List (List ℕ)
texts args = map (λ arg. string_bytes arg) args

-- one more argument, and its setting
pub AreSettings-more : (args : List (String Global)) (i : ℕ) (arg : String Global) (held items : List source.Setting) (setting : source.Setting)
    → i < length args → arg ≡ get_or args i arg → AllZip IsSetting (texts (take i args)) (asked_settings held)
    → IsSetting (string_bytes arg) (setting_of setting) → items ≡ held ++ (setting ∷ [])
    → AllZip IsSetting (texts (take (i + 1) args)) (asked_settings items)
AreSettings-more args i arg held items setting inside at settings is grown =
    let front : texts (take (i + 1) args) ≡ texts (take i args) ++ (string_bytes arg ∷ []) =
    ap texts (take_more args i arg inside) ∙ map-append (λ a. string_bytes a) (take i args) (get_or args i arg ∷ [])
    ∙ ap (λ a. texts (take i args) ++ (string_bytes a ∷ [])) (sym at) in
    let back : asked_settings items ≡ asked_settings held ++ (setting_of setting ∷ []) = ap asked_settings grown ∙ map-append setting_of held (setting ∷ []) in
    subst (λ l. AllZip IsSetting l (asked_settings items)) (sym front)
    (subst (λ l. AllZip IsSetting (texts (take i args) ++ (string_bytes arg ∷ [])) l) (sym back)
    (AllZip-snoc IsSetting (texts (take i args)) (asked_settings held) (string_bytes arg) (setting_of setting) settings is))

-- an argument that is no setting
pub AreSettings-none : (args : List (String Global)) (i : ℕ) (arg : String Global) → i < length args → arg ≡ get_or args i arg → IsNoSetting (string_bytes arg)
    → (settings : List Setting) → ¬ AllZip IsSetting (texts args) settings
AreSettings-none args i arg inside at none settings are =
    let partner = AllZip-partner IsSetting (texts args) settings i (string_bytes arg) (simp length-map inside) are in
    let same : get_or (texts args) i (string_bytes arg) ≡ string_bytes arg = get_or-map (λ a. string_bytes a) args i arg (string_bytes arg) inside ∙ ap (λ a. string_bytes a) (sym at) in
    none partner.0 (subst (λ l. IsSetting l partner.0) same partner.1)

pub AreArguments-parts : (args : List (String Global)) (command pattern : String Global) (settings : List Setting) → 2 ≤ length args
    → command ≡ get_or args 0 command → pattern ≡ get_or args 1 pattern → string_bytes command ≡ codes "pattern"
    → AllZip IsSetting (texts (drop 2 args)) settings → AreArguments (texts args) (by_pattern (string_bytes pattern) settings)
AreArguments-parts [] command pattern settings long first second is are = absurd (omega arith)
AreArguments-parts (x ∷ []) command pattern settings long first second is are = absurd (omega arith)
AreArguments-parts (x ∷ y ∷ rest) command pattern settings long first second is are =
    (ap (λ a. string_bytes a) (sym first) ∙ is, ap (λ a. string_bytes a) (sym second), are)

pub AreArguments-file : (args : List (String Global)) (command path : String Global) (plain : Option Plain) → 2 ≤ length args → command ≡ get_or args 0 command
    → path ≡ get_or args 1 path → string_bytes command ≡ codes "file" → ArePlain (texts (drop 2 args)) plain → AreArguments (texts args) (by_file (string_bytes path) plain)
AreArguments-file [] command path plain long first second is are = absurd (omega arith)
AreArguments-file (x ∷ []) command path plain long first second is are = absurd (omega arith)
AreArguments-file (x ∷ y ∷ rest) command path plain long first second is are =
    (ap (λ a. string_bytes a) (sym first) ∙ is, ap (λ a. string_bytes a) (sym second), are)

-- the arguments behind `--plain`
pub ArePlain-parts : (args : List (String Global)) (option word target : String Global) (plain : Plain) → length args ≡ 3
    → option ≡ get_or args 0 option → word ≡ get_or args 1 word → target ≡ get_or args 2 target → string_bytes option ≡ codes "--plain"
    → parse_level (string_bytes word) ≡ Some plain.level → string_bytes target ≡ plain.target → ArePlain (texts args) (Some plain)
ArePlain-parts [] option word target plain three first second third is named there = absurd (omega (arith, three))
ArePlain-parts (x ∷ []) option word target plain three first second third is named there = absurd (omega (arith, three))
ArePlain-parts (x ∷ y ∷ []) option word target plain three first second third is named there = absurd (omega (arith, three))
ArePlain-parts (x ∷ y ∷ z ∷ []) option word target plain three first second third is named there =
    (ap (λ a. string_bytes a) (sym first) ∙ is, ap (λ a. parse_level (string_bytes a)) (sym second) ∙ named, ap (λ a. string_bytes a) (sym third) ∙ there)
ArePlain-parts (x ∷ y ∷ z ∷ u ∷ rest) option word target plain three first second third is named there = absurd (omega (arith, three))

pub AreArguments-threads : (args : List (String Global)) (command first : String Global) (threads count : ℕ) → 2 ≤ length args → command ≡ get_or args 0 command
    → first ≡ get_or args 1 first → string_bytes command ≡ codes "threads" → AreNumbers (string_bytes first) (texts (drop 2 args)) threads count
    → AreArguments (texts args) (by_threads threads count)
AreArguments-threads [] command first threads count long front second is are = absurd (omega arith)
AreArguments-threads (x ∷ []) command first threads count long front second is are = absurd (omega arith)
AreArguments-threads (x ∷ y ∷ rest) command first threads count long front second is are =
    (ap (λ a. string_bytes a) (sym front) ∙ is, subst (λ l. AreNumbers l (texts rest) threads count) (ap (λ a. string_bytes a) second) are)
