-- What contracts see of a source that tells its answers.
use Rattle.std.specs.Prelude.{List}
use Rattle.log4rs_settings.specs.Answers.{Answer}
use Rattle.log4rs_settings.specs.declared.source.NotedSource.{NotedSource}

-- the source inside
abbrev pub inner_of : {S : Type 0} → NotedSource S → S
inner_of source = source.inner

-- what it answered, in order
abbrev pub answers_of : {S : Type 0} → NotedSource S → List Answer
answers_of source = source.answers.answers
