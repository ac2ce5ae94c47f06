-- What the code asks of the parts of an expression.
use Rattle.std.specs.Prelude.{◌≡◌, ◌⊎◌, ◌+◌, ℕ, suc, Bool, true, false, ◌&&◌, ◌||◌, ◌-◌, nat_le, nat_lt, if◌then◌else◌, List, [], ◌∷◌, length, map, take, drop, Option, Some, None}
use Rattle.std.specs.List.{list_any}
use Rattle.query_grammar.specs.declared.ast.Expr.{Expr, out-Expr}
use Rattle.query_grammar.specs.declared.ast.Expr.TheOpen.{Expr-F}
use Rattle.static_checks.specs.Parts.{parts_alone}
use Rattle.static_checks.specs.Categories.{Form, Judged, categories, is_faulty, is_updating, is_simple, judged}
use Rattle.static_checks.specs.declared.categories.Category.{Category}
use Rattle.static_checks.specs.declared.categories.Category.TheVariants.{Updating, Vacuous, Simple}
use Rattle.static_checks.specs.declared.categories.Own.{Own}
use Rattle.static_checks.specs.declared.categories.Own.TheVariants.{Updates, OfResults, GivesItems}
use Rattle.static_checks.specs.declared.judging.Found.{Found}

-- the parts without the variables that are bound for them
abbrev pub children : Expr → List Expr
children x = parts_alone (out-Expr x)

-- it has three parts at the most, none of them in a list
abbrev pub has_few : {A : Type 0} → Expr-F A → Bool
has_few (Expr-F.Sequence xs) = false
has_few (Expr-F.Call f xs) = false
has_few (Expr-F.Step axis t xs) = false
has_few (Expr-F.Filter x xs) = false
has_few (Expr-F.Path x xs) = false
has_few (Expr-F.Chain x os) = false
has_few (Expr-F.Quantified q bs x) = false
has_few (Expr-F.Flwor cs where? ks x) = false
has_few (Expr-F.Copy bs x y) = false
has_few _ = true

-- which parts of an expression are the inner ones: those from one index on, up to another
abbrev pub IsInner : {A : Type 0} → Form A → (from to : ℕ) → Type 0
IsInner f from to = ((f.inner ≡ []) × (to ≡ 0)) ⊎ ((from ≡ length f.before) × (to ≡ length f.before + length f.inner))

abbrev pub is_inner : (from to index : ℕ) → Bool
is_inner from to i = nat_le from i && nat_lt i to

abbrev pub nothing : Found
nothing = record { updates = false; simple = false }

abbrev pub seen : Found → Category → Found
seen found c = record { updates = found.updates || is_updating c; simple = found.simple || is_simple c }

-- the parts from an index on, up to another
abbrev pub between : (from to : ℕ) → List Expr → List Expr
between from to xs = take (to - from) (drop from xs)

-- what the categories of parts come to
abbrev pub found_in : List Expr → Found
found_in xs = record { updates = list_any is_updating (categories (map judged xs)); simple = list_any is_simple (categories (map judged xs)) }

-- a part of that category, inner or not
abbrev pub taken : Found → Category → (inner : Bool) → Option Found
taken found c true = Some (seen found c)
taken found c false = if is_updating c then None else Some found

-- the parts from an index on, one after the other
abbrev pub walk : (from to index : ℕ) → List Judged → Found → Option Found
walk from to i [] found = Some found
walk from to i (j ∷ js) found =
    if is_faulty j then None
    else (if is_inner from to i then walk from to (suc i) js (seen found j.category)
    else (if is_updating j.category then None else walk from to (suc i) js found))

-- the category, if there is no fault
abbrev pub placed : Judged → Option Category
placed j = if is_faulty j then None else Some j.category

abbrev pub concluded : Own → Option Found → Option Category
concluded own None = None
concluded Updates (Some found) = Some Updating
concluded OfResults (Some found) = if found.updates && found.simple then None else Some (if found.updates then Updating else (if found.simple then Simple else Vacuous))
concluded GivesItems (Some found) = if found.simple then None else Some Simple
