-- The members of an object, by their keys.
use Rattle.std.specs.Prelude.{ℕ, List, Bool, Option, Some, None, if◌then◌else◌}
use Rattle.std.specs.Ordering.{nat_cmp, is_eq, match_ordering}
use Rattle.std.specs.Cmp.Lexicographic.{slice_cmp}
use Rattle.log4rs_settings.specs.Data.{Data, Members, no_members, member}

-- the value at a key
abbrev pub get_member : List ℕ → Members → Option Data
get_member k no_members = None
get_member k (member l d ms) =
    match_ordering (slice_cmp nat_cmp k l) (get_member k ms) (Some d) (get_member k ms)

-- the two keys have the same bytes
abbrev pub same_key : List ℕ → List ℕ → Bool
same_key k l = is_eq (slice_cmp nat_cmp k l)

-- the members of other keys
abbrev pub without : List ℕ → Members → Members
without k no_members = no_members
without k (member l d ms) = if same_key k l then ms else member l d (without k ms)
