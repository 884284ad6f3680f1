-- A store in memory, as contracts see it.
use Rattle.std.specs.Prelude.{◌≡◌, ◌≢◌, ℕ, ◌-◌, nat_eq, List, [], ◌∷◌, ◌++◌, drop, Option, Some, None, Bool}
use Rattle.std.specs.Prelude.{true, false, map, string_bytes, String, Vec, if◌then◌else◌}
use Rattle.std.specs.Prelude.{Result, IsErr, IsErrOf}
use Rattle.std.specs.Option.{option_map}
use Rattle.std.specs.BTreeMap.{get_by_text, BTreeMap}
use Rattle.std.specs.declared.alloc.Global.{Global}
use Rattle.log4rs_rolling.specs.Change.{Change, Files, opened, wrote, renamed, copied, removed}
use Rattle.log4rs_rolling.specs.Disk.{Disk, one_more, denials_by}
use Rattle.log4rs_rolling.specs.Plan.{planned}
use Rattle.log4rs_rolling.specs.declared.store.Planned.{Planned}
use Rattle.log4rs_rolling.specs.declared.store.Planned.TheVariants.{Refuse}
use Rattle.log4rs_rolling.specs.declared.store.effect.Effect.{Effect}
use Rattle.log4rs_rolling.specs.declared.store.effect.Effect.TheVariants.{Opened, Wrote, Renamed, Copied}
use Rattle.log4rs_rolling.specs.declared.store.effect.Effect.TheVariants.{Removed}
use Rattle.log4rs_rolling.specs.declared.store.mem.MemStore.{MemStore}
use Rattle.log4rs_rolling.specs.declared.store.StoreError.{StoreError}
use Rattle.log4rs_rolling.specs.declared.store.StoreError.TheVariants.{Refused}

-- an effect by its bytes
abbrev pub change_of : Effect → Change
change_of (Opened path how) = opened (string_bytes path) how
change_of (Wrote path bytes) = wrote (string_bytes path) bytes.items
change_of (Renamed from to) = renamed (string_bytes from) (string_bytes to)
change_of (Copied from to) = copied (string_bytes from) (string_bytes to)
change_of (Removed path) = removed (string_bytes path)

-- the files of a map
abbrev pub files_in : BTreeMap (String Global) (Vec ℕ Global) → Files
files_in files path = option_map (λ bytes. bytes.items) (get_by_text files path)

-- what the store has been through
abbrev pub disk_of : MemStore → Disk
disk_of store =
    record {
      tells = true;
      start = record { files = files_in store.start; mark = [] };
      changes = map change_of store.effects.items;
      refusals = store.refusals;
      denials = store.denials;
      operations = store.operations;
      opened = option_map string_bytes store.opened;
    }

-- after an operation that changed nothing, with this file open
abbrev pub asked : Disk → Option (List ℕ) → Disk
asked disk path = record disk { operations = one_more disk.operations; opened = path }

-- after an operation that changed something, with this file open
abbrev pub changed : Disk → Change → Option (List ℕ) → Disk
changed disk change path = record (asked disk path) { changes = disk.changes ++ change ∷ [] }

-- with one more refusal, by this error
abbrev pub with_refusal : Disk → StoreError → Disk
with_refusal disk error =
    record disk { refusals = one_more disk.refusals; denials = denials_by error disk.denials }

-- after a refusal by this error, with this file open
abbrev pub refused : Disk → Option (List ℕ) → StoreError → Disk
refused disk path error = with_refusal (asked disk path) error

-- how many operations were refused for want of memory
abbrev pub shortages_of : MemStore → ℕ
shortages_of store = store.shortages

-- what is planned for the operations to come
pub record Plan : Type 0 where
  -- the next operations, one after another
  pub operations : List Planned
  -- after how many further operations all are refused
  pub left : Option ℕ

abbrev pub plan_of : MemStore → Plan
plan_of store = record { operations = drop store.next store.plan.items; left = store.left }

-- nothing is planned: each operation is done
abbrev pub no_plan : Plan
no_plan = record { operations = []; left = None }

-- whether all operations are refused
abbrev pub is_stopped : Option ℕ → Bool
is_stopped None = false
is_stopped (Some left) = nat_eq left 0

-- what is planned for the next operation
abbrev pub next_planned : Plan → Planned
next_planned plan = if is_stopped plan.left then Refuse else planned plan.operations

-- the plan after one operation
abbrev pub after_one : Plan → Plan
after_one plan =
    record {
      operations = drop 1 plan.operations;
      left = option_map (λ left. left - 1) plan.left;
    }

-- an operation that allocates nothing: it takes its turn in the plan, and is refused if the plan
-- says so
pub record Turns {A : Type 0} (old new : MemStore) (result : Result A StoreError) : Type 0 where
  pub plan : plan_of new ≡ after_one (plan_of old)
  pub refused : next_planned (plan_of old) ≡ Refuse → IsErr result
  pub enough : shortages_of new ≡ shortages_of old

-- an operation that may allocate: it takes its turn in the plan, and is refused if the plan says
-- so; if it is refused otherwise, an allocation failed, which is counted
pub record TakesTurn {A : Type 0} (old new : MemStore) (result : Result A StoreError) : Type 0 where
  pub plan : plan_of new ≡ after_one (plan_of old)
  pub refused : next_planned (plan_of old) ≡ Refuse → IsErr result
  pub short : IsErrOf result Refused → next_planned (plan_of old) ≢ Refuse
      → shortages_of new ≡ one_more (shortages_of old)
  pub enough : (IsErrOf result Refused → next_planned (plan_of old) ≡ Refuse)
      → shortages_of new ≡ shortages_of old
