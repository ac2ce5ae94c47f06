-- What gives the same as something else.
use Rattle.std.proofs.Common.{◌≡◌, ◌∙◌, Result, Ok, Err}
use Rattle.values.specs.declared.fault.ValueFault.{ValueFault}
use Rattle.values.specs.declared.fault.ValueFault.TheVariants as fault
use Rattle.query_meaning.specs.Running.{M, Run}
use Rattle.evaluation.specs.Gives.{Grows, GivesIn}
use Rattle.evaluation.proofs.Each.{grows_refl, grows_then}

module _ {A : Type 0} (P : A → Run → Type 0) (m n : M A) (old : Run) where
  -- from where one part has come
  pub gives_from : (mid new : Run) (r : Result A ValueFault) → m old ≡ n mid → Grows old mid → GivesIn P n mid r new → GivesIn P m old r new
  gives_from mid new (Ok a) same grown g = (same ∙ g.0, (grows_then old mid new grown g.1.0, g.1.1))
  gives_from mid new (Err fault.Memory) same grown g = tt
  gives_from mid new (Err (fault.Code code)) same grown g = same ∙ g

  -- what comes to the same
  pub gives_same : (new : Run) (r : Result A ValueFault) → m old ≡ n old → GivesIn P n old r new → GivesIn P m old r new
  gives_same new r same g = gives_from old new r same (grows_refl old) g
