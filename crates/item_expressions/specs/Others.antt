-- The item of a variable that many are compared with, and tests of `where`.
use Rattle.std.specs.Prelude.{◌≡◌, ℕ, ◌+◌, ◌<◌, ◌^◌, List, [], ◌∷◌, Option, None, Some}
use Rattle.data_model.specs.Trees.{Trees}
use Rattle.query_grammar.specs.declared.ast.Expr.{Expr}
use Rattle.query_meaning.specs.Environment.{Bound, looked_at, value_in}
use Rattle.read_items.specs.Read.{IsRead}
use Rattle.item_expressions.specs.Subjects.{IsVariable}
use Rattle.item_expressions.specs.declared.item_test.ItemTest.{ItemTest}
use Rattle.item_expressions.specs.declared.item_test.ItemTest.TheVariants as of
use Rattle.item_expressions.specs.declared.variable_comparison.OtherItem.{OtherItem}

-- the variable of that name has that item alone, and so many variables are looked at for it
pub record IsOtherItem (ts : Trees) (name : List ℕ) (others : List Bound) (o : OtherItem) : Type 0 where
  pub found : value_in name others ≡ Some (o.item.item.now ∷ [])
  pub looked : o.looked ≡ looked_at name others
  pub few : o.looked + 1 < 2 ^ 64
  pub read : IsRead ts o.item

-- the test is that expression, of a variable that is bound after those others
abbrev pub IsTest : Trees → Option Expr → (variable : List ℕ) → (others : List Bound) → ItemTest → Type 0
IsTest ts test v others of.Holds = test ≡ None
IsTest ts test v others (of.Compared m) = (Some m.now.expression ≡ test) × IsVariable v m.now.subject
IsTest ts test v others (of.Joined m o) = (Some m.now.expression ≡ test) × ((m.now.variable ≡ v) × IsOtherItem ts m.now.other others o)
IsTest ts test v others (of.Told f) = (Some f.now.expression ≡ test) × IsVariable v f.now.subject

-- what it compares with stands in the trees
abbrev pub CanTest : Trees → ItemTest → Type 0
CanTest ts of.Holds = Unit {0}
CanTest ts (of.Compared m) = Unit {0}
CanTest ts (of.Told f) = Unit {0}
CanTest ts (of.Joined m o) = IsRead ts o.item × (o.looked + 1 < 2 ^ 64)
