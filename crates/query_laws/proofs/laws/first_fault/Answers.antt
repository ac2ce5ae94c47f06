use Rattle.query_laws.proofs.Faults.{refused, refusing}
use Rattle.query_laws.proofs.laws.first_fault.Goals as goal

pub returns : goal.returns
returns c = λ level text code. (refused level text code, refusing level text code)
