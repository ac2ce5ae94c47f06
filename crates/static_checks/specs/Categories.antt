-- Categories, and where an updating expression may stand (XQuery Update Facility 1.0, sections 2.1, 2.4.6 and 2.5). Parts are judged before the
-- whole, and what the whole asks from the left; the first fault counts (our own choice).
use Rattle.std.specs.Prelude.{Bool, true, false, ◌||◌, ◌&&◌, if◌then◌else◌, List, [], ◌∷◌, ◌++◌, map, option_to_list, Option, Some, None, is_some}
use Rattle.std.specs.List.{list_any}
use Rattle.fault_codes.specs.declared.code.Code.{Code}
use Rattle.fault_codes.specs.declared.code.Code.TheVariants.{XUST0001, XUST0002}
use Rattle.query_grammar.specs.declared.ast.Expr.{Expr, fold-Expr}
use Rattle.query_grammar.specs.declared.ast.Expr.TheOpen.{Expr-F}
use Rattle.static_checks.specs.Parts.{source_of, sources, keys, parts_alone}
use Rattle.static_checks.specs.declared.categories.Category.{Category}
use Rattle.static_checks.specs.declared.categories.Category.TheVariants.{Updating, Vacuous, Simple}
use Rattle.static_checks.specs.declared.categories.Own.{Own}
use Rattle.static_checks.specs.declared.categories.Own.TheVariants.{Updates, OfResults, GivesItems}

abbrev pub is_updating : Category → Bool
is_updating Updating = true
is_updating _ = false

abbrev pub is_simple : Category → Bool
is_simple Simple = true
is_simple _ = false

-- several expressions whose values and updates are put together
abbrev pub joined : List Category → Category
joined cs = if list_any is_updating cs then Updating else (if list_any is_simple cs then Simple else Vacuous)

-- an updating one stands beside a simple one
abbrev pub is_mixed : List Category → Bool
is_mixed cs = list_any is_updating cs && list_any is_simple cs

-- The parts of an expression, by whether an updating one may stand there: not before and not after the inner ones. The inner ones are the
-- operands of a comma, branches, and what follows `return`, of which the whole is made; and what a copy is changed by.
pub record Form (A : Type 0) : Type 0 where
  pub own : Own
  pub before : List A
  pub inner : List A
  pub after : List A

abbrev pub outside : {A : Type 0} → Own → List A → Form A
outside own xs = record { own = own; before = xs; inner = []; after = [] }

abbrev pub form_of : {A : Type 0} → Expr-F A → Form A
form_of (Expr-F.Sequence xs) = record { own = OfResults; before = []; inner = xs; after = [] }
form_of (Expr-F.If x y z) = record { own = OfResults; before = x ∷ []; inner = y ∷ z ∷ []; after = [] }
form_of (Expr-F.Flwor cs where? ks x) = record { own = OfResults; before = map source_of cs ++ (option_to_list where? ++ keys ks); inner = x ∷ []; after = [] }
form_of (Expr-F.Insert x place y) = outside Updates (x ∷ y ∷ [])
form_of (Expr-F.Delete x) = outside Updates (x ∷ [])
form_of (Expr-F.ReplaceNode x y) = outside Updates (x ∷ y ∷ [])
form_of (Expr-F.ReplaceValue x y) = outside Updates (x ∷ y ∷ [])
form_of (Expr-F.Rename x y) = outside Updates (x ∷ y ∷ [])
form_of (Expr-F.Copy bs x y) = record { own = GivesItems; before = sources bs; inner = x ∷ []; after = y ∷ [] }
form_of x = outside GivesItems (parts_alone x)

-- an expression's category, and the code of the first fault of this pass in it
pub record Judged : Type 0 where
  pub category : Category
  pub fault : Option Code

abbrev pub is_faulty : Judged → Bool
is_faulty j = is_some j.fault

-- it may not stand where no updating expression may
abbrev pub may_not_stand : Judged → Bool
may_not_stand j = is_updating j.category || is_faulty j

abbrev pub categories : List Judged → List Category
categories js = map (λ (j : Judged). j.category) js

-- the category of an expression whose inner parts have these
abbrev pub category_of : Own → List Category → Category
category_of Updates cs = Updating
category_of OfResults cs = joined cs
category_of GivesItems cs = Simple

abbrev pub or_else : Option Code → Option Code → Option Code
or_else (Some code) other = Some code
or_else None other = other

abbrev pub first_fault : List Judged → Option Code
first_fault [] = None
first_fault (j ∷ js) = or_else j.fault (first_fault js)

abbrev pub when : Bool → Code → Option Code
when b code = if b then Some code else None

-- what the inner parts may not be: an updating one beside a simple one; and a copy, which alone gives items and has an inner part, may not be
-- changed by a simple one
abbrev pub inner_fault : Own → List Category → Option Code
inner_fault OfResults cs = when (is_mixed cs) XUST0001
inner_fault GivesItems cs = when (list_any is_simple cs) XUST0002
inner_fault Updates cs = None

-- what the whole asks of its parts
abbrev pub own_fault : Form Judged → Option Code
own_fault f =
    or_else (when (list_any is_updating (categories f.before)) XUST0001)
    (or_else (inner_fault f.own (categories f.inner))
    (when (list_any is_updating (categories f.after)) XUST0001))

abbrev pub judged_form : Form Judged → Judged
judged_form f = record {
  category = category_of f.own (categories f.inner);
  fault = or_else (first_fault (f.before ++ (f.inner ++ f.after))) (own_fault f);
}

unfoldable pub judged : Expr → Judged
judged = fold-Expr Judged (λ x. judged_form (form_of x))
