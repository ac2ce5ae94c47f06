-- What a function that evaluates ensures.
use Rattle.std.specs.Prelude.{◌≡◌, ◌==◌, ◌-◌, true, false, ℕ, List, Result, Ok, Err, IsOk, IsSome}
use Rattle.std.specs.Option.{ForSome}
use Rattle.std.specs.List.{All}
use Rattle.data_model.specs.Trees.{find}
use Rattle.fault_codes.specs.declared.code.Code.{Code}
use Rattle.fault_codes.specs.declared.code.Code.TheVariants.{PXQ0002}
use Rattle.values.specs.declared.fault.ValueFault.{ValueFault}
use Rattle.values.specs.declared.fault.ValueFault.TheVariants as fault
use Rattle.values.specs.declared.atom.Item.{Item}
use Rattle.values.specs.Items.{IsThere, AreThere}
use Rattle.query_meaning.specs.Running.{M, Run, trees_of}
use Rattle.query_meaning.specs.Environment.{Environment}

-- no node is lost
pub record Grows (old new : Run) : Type 0 where
  pub kept : (i : ℕ) → IsSome (find i (trees_of old)) → IsSome (find i (trees_of new))

-- the nodes among the items stand in the trees
abbrev pub Stand : List Item → Run → Type 0
Stand items run = AreThere (trees_of run) items

-- nothing is asked of what is come to
abbrev pub Any : {A : Type 0} → A → Run → Type 0
Any a run = Unit {0}

-- the code, where it isn't want of memory, which says nothing
abbrev pub Fails : {A : Type 0} → Result A Code → ValueFault → Type 0
Fails outcome fault.Memory = Unit {0}
Fails outcome (fault.Code code) = outcome ≡ Err code

-- want of memory is answered only where there is no code to answer
abbrev pub Judged : {A B : Type 0} → Result A Code → Result B ValueFault → Type 0
Judged outcome (Ok b) = Unit {0}
Judged outcome (Err fault.Memory) = IsOk outcome
Judged outcome (Err (fault.Code code)) = Unit {0}

-- what is come to, and in which run; no node is lost, and P holds of what is come to
abbrev pub GivesIn : {A : Type 0} → (A → Run → Type 0) → M A → Run → Result A ValueFault → Run → Type 0
GivesIn P m old (Ok a) new = (m old ≡ Ok (a, new)) × (Grows old new × P a new)
GivesIn P m old (Err f) new = Fails (m old) f

-- the same of items, which stand
abbrev pub Gives : M (List Item) → Run → Result (List Item) ValueFault → Run → Type 0
Gives m old result new = GivesIn Stand m old result new

-- what needs no run and changes none
abbrev pub Says : {A : Type 0} → Result A Code → Result A ValueFault → Type 0
Says outcome (Ok a) = outcome ≡ Ok a
Says outcome (Err f) = Fails outcome f

-- a turn is taken, if one is left; else nothing changes
abbrev pub Turns : Result (Unit {0}) ValueFault → Run → Run → Type 0
Turns (Ok u) old new = (new ≡ record old { turns = old.turns - 1 }) × ((old.turns == 0) ≡ false)
Turns (Err f) old new = (f ≡ fault.Code PXQ0002) × ((old.turns == 0) ≡ true) × (new ≡ old)

-- the nodes of the environment stand in the trees
pub record IsReady (env : Environment) (run : Run) : Type 0 where
  pub focus : ForSome env.focus (λ f. IsThere (trees_of run) f.item)
  pub variables : All (λ b. Stand b.items run) env.variables
