-- The clauses of a FLWOR expression, by what they mean or with the expressions in them, and the variables that they bind.
use Rattle.std.specs.Prelude.{◌≡◌, Bool, true, false, ℕ, ◌+◌, List, ◌∷◌, [], pos, Option, None, Some, Result, Ok, Err}
use Rattle.values.specs.declared.atom.Atom.TheVariants as atom
use Rattle.values.specs.declared.atom.Item.{Item}
use Rattle.values.specs.declared.fault.ValueFault.{ValueFault}
use Rattle.query_grammar.specs.declared.ast.Clause.{Clause}
use Rattle.query_grammar.specs.declared.ast.Clause.TheVariants as clause
use Rattle.query_meaning.specs.Running.{M, Run, turn, each}
use Rattle.query_meaning.specs.Environment.{Bound, Environment}
use Rattle.evaluation.specs.Bindings.{binding_of}
use Rattle.evaluation.specs.Gives.{Fails, GivesIn}
use Rattle.evaluation.specs.Rebound.{rebound}
use Rattle.query_meaning.specs.Sequences.{Meaning, one, tuples}

-- what the parts of a part mean
abbrev pub clause_of : {A : Type 0} → (A → Meaning) → Clause A → Clause Meaning
clause_of f (clause.For b) = clause.For (binding_of f b)
clause_of f (clause.ForAt b at) = clause.ForAt (binding_of f b) at
clause_of f (clause.Let b) = clause.Let (binding_of f b)

-- the expression in it
abbrev pub source_of : {A : Type 0} → Clause A → A
source_of (clause.For b) = b.source
source_of (clause.ForAt b at) = b.source
source_of (clause.Let b) = b.source

-- what is evaluated with these variables
abbrev pub with_variables : List Bound → Environment → Environment
with_variables bs env = record env { variables = bs }

-- one variable more, where there is one for the position that follows that index
abbrev pub and_position : Option (List ℕ) → (index : ℕ) → List Bound → List Bound
and_position None i bs = bs
and_position (Some at) i bs = record { variable = at; items = one (atom.Integer (pos (i + 1))) } ∷ bs

-- one variable more, with one item
abbrev pub bound : (variable : List ℕ) → Item → List Bound → List Bound
bound x item bs = record { variable = x; items = item ∷ [] } ∷ bs

-- variables that, with other items for the one that was bound last, are that variable bound after those others
abbrev pub Rebinds : (variable : List ℕ) → (others : List Bound) → List Bound → Type 0
Rebinds x others bs = (items : List Item) → rebound items bs ≡ record { variable = x; items = items } ∷ others

-- the same where no position is bound after it
abbrev pub RebindsAt : (variable : List ℕ) → Option (List ℕ) → (others : List Bound) → List Bound → Type 0
RebindsAt x None others bs = Rebinds x others bs
RebindsAt x (Some at) others bs = Unit {0}

-- one item of a `for` clause with its position, which follows that index, before the other clauses
abbrev pub for_one : {S : Type 0} → (variable : List ℕ) → (at : Option (List ℕ)) → List (Clause Meaning) → (Environment → S → M S) → Environment → (index : ℕ) → S → Item → M S
for_one x at cs k env i s item = turn (tuples cs k (with_variables (and_position at i (record { variable = x; items = item ∷ [] } ∷ env.variables)) env) s)

-- each of them
abbrev pub for_each : {S : Type 0} → (variable : List ℕ) → (at : Option (List ℕ)) → List (Clause Meaning) → (Environment → S → M S) → Environment → List Item → S → M S
for_each x at cs k env items s = each (λ i s item. for_one x at cs k env i s item) 0 items s

-- all of it is done, or nothing
abbrev pub TakesEach : {S : Type 0} → (S → Run → Type 0) → M S → (given : S) → Run → Result Bool ValueFault → (left : S) → Run → Type 0
TakesEach P m given old (Ok true) left new = GivesIn P m old (Ok left) new
TakesEach P m given old (Ok false) left new = (new ≡ old) × (left ≡ given)
TakesEach P m given old (Err f) left new = Fails (m old) f
