use Rattle.std.proofs.Common.{List}
use Rattle.ballots.specs.declared.value.Value.{Value}
use Rattle.published.proofs.Begins.{looks}
use Rattle.published.proofs.reader.read.Goals as goal

pub enter_as-requires : goal.enter_as-requires
enter_as-requires g c x = looks (λ (values : List Value). values) _ _ x
