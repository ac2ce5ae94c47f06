-- What takes work.
use Rattle.std.proofs.Common.{ap, Err}
use Rattle.values.specs.declared.fault.ValueFault.{ValueFault}
use Rattle.values.specs.declared.fault.ValueFault.TheVariants as fault
use Rattle.query_meaning.specs.Running.{M, Run, and_then, ◌>>=◌}
use Rattle.evaluation.specs.Gives.{Fails, GivesIn}

-- what fails before more is done
pub fails_first : {A B : Type 0} (P : A → Run → Type 0) (m : M A) (f : A → M B) (old new : Run) (e : ValueFault) → GivesIn P m old (Err e) new → Fails ((m >>= f) old) e
fails_first P m f old new fault.Memory failed = tt
fails_first P m f old new (fault.Code code) failed = ap (λ o. and_then o f) failed
