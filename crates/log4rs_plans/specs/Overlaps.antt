-- What overlaps in the files and the windows of archives of a configuration.
use Rattle.std.specs.Prelude.{ℕ, ◌+◌, max, min, nat_lt, ◌==◌, Bool, false, not, ◌&&◌, List, ◌++◌, slice_get, take, unwrap_or}
use Rattle.std.specs.Str.{bytes_eq}
use Rattle.log4rs_base.specs.Text.{Text}
use Rattle.log4rs_plans.specs.Places.{each_at, if_so}
use Rattle.log4rs_plans.specs.Written.{File, Window}
use Rattle.log4rs_plans.specs.declared.warnings.Warning.{Warning}
use Rattle.log4rs_plans.specs.declared.warnings.Warning.TheVariants.{OwnConfiguration, OwnArchive, OneFile, OtherArchive, OnePattern}

-- whether two windows have one pattern, and an index in common
abbrev pub shares : Window → Window → Bool
shares one other =
    bytes_eq one.pattern other.pattern
    && nat_lt (max one.base other.base) (min (one.base + one.count) (other.base + other.count))

-- whether a file has the name of an archive in the window at a place
abbrev pub is_archive : File → ℕ → Bool
is_archive file at = unwrap_or (slice_get file.is_archive at) false

-- a file at a place that is the configuration's
abbrev pub own_configuration : Text → ℕ → File → List Warning
own_configuration configuration place file =
    if_so (bytes_eq file.path configuration) (OwnConfiguration place)

-- the archives of its own appender of which a file at a place has the name, and those of others
abbrev pub own_archives : List Window → ℕ → File → List Warning
own_archives windows place file =
    each_at (λ at window. if_so (is_archive file at && file.appender == window.appender)
    (OwnArchive place)) windows

abbrev pub other_archives : List Window → ℕ → File → List Warning
other_archives windows place file =
    each_at (λ at window. if_so (is_archive file at && not (file.appender == window.appender))
    (OtherArchive place at)) windows

-- the files in front of a file at a place that have its path, and the windows in front of one that
-- share archives with it
abbrev pub one_file : List File → ℕ → File → List Warning
one_file earlier place file =
    each_at (λ at other. if_so (bytes_eq other.path file.path) (OneFile at place)) earlier

abbrev pub one_pattern : List Window → ℕ → Window → List Warning
one_pattern earlier place window =
    each_at (λ at other. if_so (shares other window) (OnePattern at place)) earlier

-- what overlaps: files that are the configuration's, files with their own archives and with each
-- other, files with the archives of other appenders, and windows with each other
abbrev pub overlaps_in : Text → List File → List Window → List Warning
overlaps_in configuration files windows =
    each_at (own_configuration configuration) files
    ++ each_at (λ at file. own_archives windows at file ++ one_file (take at files) at file) files
    ++ each_at (other_archives windows) files
    ++ each_at (λ at window. one_pattern (take at windows) at window) windows
