-- What is asked of a function value for the operators between sets of nodes.
use Rattle.std.specs.Prelude.{List, Result}
use denote.Ref.{Bor, MutBor}
use Rattle.values.specs.declared.atom.Item.{Item}
use Rattle.values.specs.declared.fault.ValueFault.{ValueFault}
use Rattle.query_meaning.specs.Running.{Run}
use Rattle.evaluation.specs.Gives.{Gives, Stand}
use Rattle.query_control.specs.Operations.{set_operated}
use Rattle.query_control.specs.declared.chain.SetOperator.{SetOperator}

abbrev pub SetsPre : Type 1
SetsPre = MutBor Run → SetOperator → Bor (List Item) → Bor (List Item) → Type 0

abbrev pub SetsPost : Type 1
SetsPost = MutBor Run → SetOperator → Bor (List Item) → Bor (List Item) → Result (List Item) ValueFault → MutBor Run → Type 0

-- it may be called with items whose nodes stand, and gives what the operator means
pub record ComputesSets (pre : SetsPre) (post : SetsPost) : Type 0 where
  pub callable : (run : MutBor Run) (op : SetOperator) (left right : Bor (List Item)) → Stand left.now run.now → Stand right.now run.now → pre run op left right
  pub means : (old new : MutBor Run) (op : SetOperator) (left right : Bor (List Item)) (r : Result (List Item) ValueFault) → Stand left.now old.now → Stand right.now old.now
      → post old op left right r new → Gives (set_operated op left.now right.now) old.now r new.now
