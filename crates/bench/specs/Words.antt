-- The words that name workloads.
use Rattle.std.specs.Prelude.{ℕ, List, codes}
use Rattle.bench.specs.declared.workload.Workload.{Workload}
use Rattle.bench.specs.declared.workload.Workload.TheVariants.{Pattern, PatternDate}
use Rattle.bench.specs.declared.workload.Workload.TheVariants.{PatternSimple, PatternWidth}
use Rattle.bench.specs.declared.workload.Workload.TheVariants.{Json, Route, RouteMany, LogMemory, File}
use Rattle.bench.specs.declared.workload.Workload.TheVariants.{Rolling, RollingBackground}
use Rattle.bench.specs.declared.workload.Workload.TheVariants.{Facade, FacadeNumber, FacadeDate}
use Rattle.bench.specs.declared.workload.Workload.TheVariants.{FacadeLong, FacadeOff}
use Rattle.bench.specs.declared.together.Together.{Together}
use Rattle.bench.specs.declared.together.Together.TheVariants.{Memory, Files, FacadeFiles}
use Rattle.bench.specs.declared.together.Together.TheVariants.{File as OneFile, Facade as OneFacade}

-- the word that names a workload
abbrev pub word_of : Workload → List ℕ
word_of Pattern = codes "pattern"
word_of PatternDate = codes "pattern-date"
word_of PatternSimple = codes "pattern-simple"
word_of PatternWidth = codes "pattern-width"
word_of Json = codes "json"
word_of Route = codes "route"
word_of RouteMany = codes "route-many"
word_of LogMemory = codes "log-memory"
word_of File = codes "file"
word_of Facade = codes "facade"
word_of FacadeNumber = codes "facade-number"
word_of FacadeDate = codes "facade-date"
word_of FacadeLong = codes "facade-long"
word_of FacadeOff = codes "facade-off"
word_of Rolling = codes "rolling"
word_of RollingBackground = codes "rolling-background"

-- the word that names a workload of threads
abbrev pub word_together : Together → List ℕ
word_together Memory = codes "threads"
word_together OneFile = codes "threads-file"
word_together Files = codes "threads-files"
word_together OneFacade = codes "threads-facade"
word_together FacadeFiles = codes "threads-facade-files"
