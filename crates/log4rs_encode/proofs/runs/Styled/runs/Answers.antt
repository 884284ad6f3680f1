use Rattle.std.proofs.Common.{string_bytes, subst}
use Rattle.log4rs_encode.specs.Runs.{IsJoined, AreWhole}
use Rattle.log4rs_encode.proofs.Stylings.{IsJoined-runs, AreWhole-runs}
use Rattle.log4rs_encode.proofs.runs.Styled.runs.Goals as goal

pub returns-clause-joined : goal.returns-clause-joined
returns-clause-joined c = subst IsJoined c.self.view_is (IsJoined-runs c.self.inside.styles.items (string_bytes c.self.inside.text))

pub returns-clause-whole : goal.returns-clause-whole
returns-clause-whole c = subst AreWhole c.self.view_is (AreWhole-runs c.self.inside.styles.items c.self.inside.text)
