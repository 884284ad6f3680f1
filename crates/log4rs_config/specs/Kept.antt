-- Rolled files, and appenders without a delivery, after deliveries.
use Rattle.std.specs.Prelude.{◌≡◌, ◌≢◌, ℕ, List, Option, All, slice_index_or}
use Rattle.log4rs_append.specs.RolledFile.{RolledFile, GoesOn, OnRolledFile}
use Rattle.log4rs_append.specs.Sink.{Sink, untold}

-- the rolled file of the sink at a place, if it shows one
abbrev pub rolled_at : List Sink → ℕ → Option RolledFile
rolled_at sinks at = (slice_index_or sinks at untold).rolled

-- each rolled file is the same file, and went on
abbrev pub RolledFilesGoOn : List Sink → List Sink → Type 0
RolledFilesGoOn before after =
    (at : ℕ) → OnRolledFile GoesOn (rolled_at before at) (rolled_at after at)

-- nothing is delivered at a place
abbrev pub IsLeftOut : ℕ → List ℕ → Type 0
IsLeftOut at places = All (λ place. place ≢ at) places

-- the sink at a place is what it was
abbrev pub SinkStays : ℕ → List Sink → List Sink → Type 0
SinkStays at before after = slice_index_or after at untold ≡ slice_index_or before at untold

-- each sink whose place is not among these is unchanged
abbrev pub OthersAreLeft : List ℕ → List Sink → List Sink → Type 0
OthersAreLeft places before after = (at : ℕ) → IsLeftOut at places → SinkStays at before after
