use Rattle.std.proofs.Common.{List}
use Rattle.ballots.specs.declared.value.Value.{Value}
use Rattle.published.proofs.Begins.{admits}
use Rattle.published.proofs.store.StoreOver+StateCopy+A+J+J+Published.place.Goals as goal

pub reader-requires : goal.reader-requires
reader-requires g c = admits (λ (values : List Value). values)
