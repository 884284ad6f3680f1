use Rattle.std.proofs.Common.{ℕ, List, [], ◌∷◌, codes}
use Rattle.log4rs_settings.specs.MakersView.{kinds}
use Rattle.log4rs_settings.specs.declared.makers.Maker.{Maker}
use Rattle.log4rs_settings.specs.declared.makers.Maker.TheVariants.{Console, File, RollingFile, Compound, Size, Time, OnStartUp, Delete, FixedWindow, Pattern, Json, Threshold}
use Rattle.log4rs_settings.proofs.Inserted.{then_kind}
use Rattle.log4rs_settings.proofs.makers.Makers.new.Goals as goal

pub returns : goal.returns
returns c =
    let to_console : List (List ℕ × Maker) = (codes "console", Console) ∷ [] in
    let console = then_kind (codes "console") Console [] (kinds c.empty-makers.result) (kinds c.insert.new.self) c.in_ok-insert.ensures.ok c.empty-makers.ensures in
    let to_file : List (List ℕ × Maker) = (codes "file", File) ∷ to_console in
    let file = then_kind (codes "file") File to_console (kinds c.insert.new.self) (kinds c.insert-2.new.self) c.in_ok-insert-2.ensures.ok console in
    let to_rolling_file : List (List ℕ × Maker) = (codes "rolling_file", RollingFile) ∷ to_file in
    let rolling_file = then_kind (codes "rolling_file") RollingFile to_file (kinds c.insert-2.new.self) (kinds c.insert-3.new.self) c.in_ok-insert-3.ensures.ok file in
    let to_compound : List (List ℕ × Maker) = (codes "compound", Compound) ∷ to_rolling_file in
    let compound = then_kind (codes "compound") Compound to_rolling_file (kinds c.insert-3.new.self) (kinds c.insert-4.new.self) c.in_ok-insert-4.ensures.ok rolling_file in
    let to_size : List (List ℕ × Maker) = (codes "size", Size) ∷ to_compound in
    let size = then_kind (codes "size") Size to_compound (kinds c.insert-4.new.self) (kinds c.insert-5.new.self) c.in_ok-insert-5.ensures.ok compound in
    let to_time : List (List ℕ × Maker) = (codes "time", Time) ∷ to_size in
    let time = then_kind (codes "time") Time to_size (kinds c.insert-5.new.self) (kinds c.insert-6.new.self) c.in_ok-insert-6.ensures.ok size in
    let to_onstartup : List (List ℕ × Maker) = (codes "onstartup", OnStartUp) ∷ to_time in
    let onstartup = then_kind (codes "onstartup") OnStartUp to_time (kinds c.insert-6.new.self) (kinds c.insert-7.new.self) c.in_ok-insert-7.ensures.ok time in
    let to_delete : List (List ℕ × Maker) = (codes "delete", Delete) ∷ to_onstartup in
    let delete = then_kind (codes "delete") Delete to_onstartup (kinds c.insert-7.new.self) (kinds c.insert-8.new.self) c.in_ok-insert-8.ensures.ok onstartup in
    let to_fixed_window : List (List ℕ × Maker) = (codes "fixed_window", FixedWindow) ∷ to_delete in
    let fixed_window = then_kind (codes "fixed_window") FixedWindow to_delete (kinds c.insert-8.new.self) (kinds c.insert-9.new.self) c.in_ok-insert-9.ensures.ok delete in
    let to_pattern : List (List ℕ × Maker) = (codes "pattern", Pattern) ∷ to_fixed_window in
    let pattern = then_kind (codes "pattern") Pattern to_fixed_window (kinds c.insert-9.new.self) (kinds c.insert-10.new.self) c.in_ok-insert-10.ensures.ok fixed_window in
    let to_json : List (List ℕ × Maker) = (codes "json", Json) ∷ to_pattern in
    let json = then_kind (codes "json") Json to_pattern (kinds c.insert-10.new.self) (kinds c.insert-11.new.self) c.in_ok-insert-11.ensures.ok pattern in
    then_kind (codes "threshold") Threshold to_json (kinds c.insert-11.new.self) (kinds c.insert-12.new.self) c.in_ok-insert-12.ensures.ok json
