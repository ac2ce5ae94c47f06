-- What is asked of a function value that evaluates the parts of an expression.
use Rattle.std.specs.Prelude.{◌≡◌, ◌<◌, ℕ, length, slice_index_or, List, Result}
use Rattle.std.specs.List.{All}
use denote.Ref.{Bor, MutBor}
use Rattle.query_grammar.specs.declared.ast.Expr.{Expr}
use Rattle.values.specs.declared.atom.Item.{Item}
use Rattle.values.specs.declared.fault.ValueFault.{ValueFault}
use Rattle.query_meaning.specs.Running.{Run}
use Rattle.query_meaning.specs.Environment.{Environment}
use Rattle.query_meaning.specs.Meaning.{mean}
use Rattle.evaluation.specs.Gives.{Gives, IsReady}

abbrev pub Pre : Type 1
Pre = MutBor Run → Bor Expr → Bor Environment → Type 0

abbrev pub Post : Type 1
Post = MutBor Run → Bor Expr → Bor Environment → Result (List Item) ValueFault → MutBor Run → Type 0

-- it may be called with this expression
pub record IsCallable (pre : Pre) (x : Expr) : Type 0 where
  pub call : (run : MutBor Run) (lent : Bor Expr) (env : Bor Environment) → lent.now ≡ x → IsReady env.now run.now → pre run lent env

-- what it gives of any expression is what that means
abbrev pub GivesMeaning : Post → Type 0
GivesMeaning post = (old new : MutBor Run) (x : Bor Expr) (env : Bor Environment) (r : Result (List Item) ValueFault) → IsReady env.now old.now → post old x env r new
    → Gives (mean x.now env.now) old.now r new.now

-- it evaluates each of these
pub record Evaluates (pre : Pre) (post : Post) (xs : List Expr) : Type 0 where
  pub callable : All (IsCallable pre) xs
  pub means : GivesMeaning post

-- the same of the expressions in each of a list of parts
pub record EvaluatesEach {A : Type 0} (pre : Pre) (post : Post) (of : A → Expr) (parts : List A) : Type 0 where
  pub callable : (k : ℕ) (d : A) → k < length parts → IsCallable pre (of (slice_index_or parts k d))
  pub means : GivesMeaning post
