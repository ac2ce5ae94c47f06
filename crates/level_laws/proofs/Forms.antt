-- No copy is made in an expression of another form where none is made in its parts: form by form.
use Rattle.std.proofs.Common.{◌≡◌, ◌||◌, ℕ, false, List, [], ◌∷◌, ◌++◌, map, Option, Some, None, option_to_list, refl, ap, ap₂, ◌∙◌, rules}
use Rattle.std.proofs.lemmas.List.Elements.{All-nil, All-cons, All-head, All-tail, All-append, All-map}
use Rattle.std.specs.List.{All, list_any}
use Rattle.data_model.specs.declared.axis.Axis.{Axis}
use Rattle.query_grammar.specs.declared.ast.Binding.{Binding}
use Rattle.query_grammar.specs.declared.ast.Clause.{Clause}
use Rattle.query_grammar.specs.declared.ast.Expr.{Expr, out-Expr}
use Rattle.query_grammar.specs.declared.ast.Expr.TheOpen.{Expr-F}
use Rattle.query_grammar.specs.declared.ast.Expr.TheVariants as e
use Rattle.query_grammar.specs.declared.ast.Expr.TheViews.{the_lemmas}
use Rattle.query_grammar.specs.declared.functions.Function.{Function}
use Rattle.query_grammar.specs.declared.ast.Name.{Name}
use Rattle.query_grammar.specs.declared.ast.Name.TheVariants as name
use Rattle.query_grammar.specs.declared.ast.NodeTest.{NodeTest}
use Rattle.query_grammar.specs.declared.ast.Operation.{Operation}
use Rattle.query_grammar.specs.declared.ast.Place.{Place}
use Rattle.query_grammar.specs.declared.ast.Quantifier.{Quantifier}
use Rattle.query_grammar.specs.declared.ast.Sign.{Sign}
use Rattle.query_grammar.specs.declared.ast.SortKey.{SortKey}
use Rattle.static_checks.specs.Parts.{parts_alone, keys, operands, source_of, sources}
use Rattle.static_checks.proofs.Folds.{parts_under, parts_of_bindings, parts_of_clauses}
use Rattle.level_laws.specs.Copied.{is_copy, has_copy}
use Rattle.level_laws.proofs.Within.{copy_out}

-- no copy is made in it
abbrev pub Plain : Expr → Type 0
Plain x = has_copy x ≡ false

none_of : (xs : List Expr) → All Plain xs → list_any has_copy xs ≡ false
none_of [] all = refl
none_of (x ∷ xs) all = ap₂ (λ a b. a || b) (All-head Plain x xs all) (none_of xs (All-tail Plain x xs all))

-- by the form, of such parts
by_form : (x : Expr) (f : Expr-F Expr) (xs : List Expr) → out-Expr x ≡ f → parts_alone f ≡ xs → is_copy f ≡ false → All Plain xs → Plain x
by_form x f xs is are other parts =
    copy_out x ∙ ap₂ (λ a b. a || b) (ap (λ y. is_copy y) is ∙ other) (ap (λ y. list_any has_copy (parts_alone y)) is ∙ ap (list_any has_copy) are ∙ none_of xs parts)

none : All Plain []
none = All-nil Plain

pub plain_and : (x : Expr) (xs : List Expr) → Plain x → All Plain xs → All Plain (x ∷ xs)
plain_and x xs h all = All-cons Plain x xs h all

pub one : (x : Expr) → Plain x → All Plain (x ∷ [])
one x h = plain_and x [] h none

two : (x y : Expr) → Plain x → Plain y → All Plain (x ∷ y ∷ [])
two x y h g = plain_and x (y ∷ []) h (one y g)

pub integer : (n : ℕ) → Plain (e.Integer n)
integer n = by_form (e.Integer n) (Expr-F.Integer n) [] (search (rules, the_lemmas)) refl refl none

pub string : (s : List ℕ) → Plain (e.String s)
string s = by_form (e.String s) (Expr-F.String s) [] (search (rules, the_lemmas)) refl refl none

pub variable : (x : List ℕ) → Plain (e.Variable x)
variable x = by_form (e.Variable x) (Expr-F.Variable x) [] (search (rules, the_lemmas)) refl refl none

pub context : Plain e.Context
context = by_form e.Context Expr-F.Context [] (search (rules, the_lemmas)) refl refl none

pub sequence : (xs : List Expr) → All Plain xs → Plain (e.Sequence xs)
sequence xs all = by_form (e.Sequence xs) (Expr-F.Sequence xs) xs (search (rules, the_lemmas)) (parts_under [] xs) refl all

pub call : (f : Option Function) (xs : List Expr) → All Plain xs → Plain (e.Call f xs)
call f xs all = by_form (e.Call f xs) (Expr-F.Call f xs) xs (search (rules, the_lemmas)) (parts_under [] xs) refl all

-- Constructors.

pub document : (x : Expr) → Plain x → Plain (e.Document x)
document x h = by_form (e.Document x) (Expr-F.Document x) (x ∷ []) (search (rules, the_lemmas)) refl refl (one x h)

pub text : (x : Expr) → Plain x → Plain (e.Text x)
text x h = by_form (e.Text x) (Expr-F.Text x) (x ∷ []) (search (rules, the_lemmas)) refl refl (one x h)

pub comment : (x : Expr) → Plain x → Plain (e.Comment x)
comment x h = by_form (e.Comment x) (Expr-F.Comment x) (x ∷ []) (search (rules, the_lemmas)) refl refl (one x h)

-- a name that is computed is so by such an expression
abbrev pub PlainName : Name Expr → Type 0
PlainName (name.Written text) = Unit {0}
PlainName (name.Computed x) = Plain x

pub element : (n : Name Expr) (x : Expr) → PlainName n → Plain x → Plain (e.Element n x)
element (name.Written text) x h g =
    by_form (e.Element (name.Written text) x) (Expr-F.Element (name.Written text) x) (x ∷ []) (search (rules, the_lemmas)) refl refl (one x g)
element (name.Computed y) x h g =
    by_form (e.Element (name.Computed y) x) (Expr-F.Element (name.Computed y) x) (y ∷ x ∷ []) (search (rules, the_lemmas)) refl refl (two y x h g)

pub attribute : (n : Name Expr) (x : Expr) → PlainName n → Plain x → Plain (e.Attribute n x)
attribute (name.Written text) x h g =
    by_form (e.Attribute (name.Written text) x) (Expr-F.Attribute (name.Written text) x) (x ∷ []) (search (rules, the_lemmas)) refl refl (one x g)
attribute (name.Computed y) x h g =
    by_form (e.Attribute (name.Computed y) x) (Expr-F.Attribute (name.Computed y) x) (y ∷ x ∷ []) (search (rules, the_lemmas)) refl refl (two y x h g)

pub instruction : (n : Name Expr) (x : Expr) → PlainName n → Plain x → Plain (e.Instruction n x)
instruction (name.Written text) x h g =
    by_form (e.Instruction (name.Written text) x) (Expr-F.Instruction (name.Written text) x) (x ∷ []) (search (rules, the_lemmas)) refl refl (one x g)
instruction (name.Computed y) x h g =
    by_form (e.Instruction (name.Computed y) x) (Expr-F.Instruction (name.Computed y) x) (y ∷ x ∷ []) (search (rules, the_lemmas)) refl refl (two y x h g)

-- Paths and operators.

pub step : (axis : Axis) (t : NodeTest) (xs : List Expr) → All Plain xs → Plain (e.Step axis t xs)
step axis t xs all = by_form (e.Step axis t xs) (Expr-F.Step axis t xs) xs (search (rules, the_lemmas)) (parts_under [] xs) refl all

pub filter : (x : Expr) (xs : List Expr) → Plain x → All Plain xs → Plain (e.Filter x xs)
filter x xs h all = by_form (e.Filter x xs) (Expr-F.Filter x xs) (x ∷ xs) (search (rules, the_lemmas)) (parts_under [] (x ∷ xs)) refl (plain_and x xs h all)

pub path : (x : Expr) (xs : List Expr) → Plain x → All Plain xs → Plain (e.Path x xs)
path x xs h all = by_form (e.Path x xs) (Expr-F.Path x xs) (x ∷ xs) (search (rules, the_lemmas)) (parts_under [] (x ∷ xs)) refl (plain_and x xs h all)

pub signed : (signs : List Sign) (x : Expr) → Plain x → Plain (e.Signed signs x)
signed signs x h = by_form (e.Signed signs x) (Expr-F.Signed signs x) (x ∷ []) (search (rules, the_lemmas)) refl refl (one x h)

abbrev pub PlainOperation : Operation Expr → Type 0
PlainOperation o = Plain o.operand

pub chain : (x : Expr) (os : List (Operation Expr)) → Plain x → All PlainOperation os → Plain (e.Chain x os)
chain x os h all =
    by_form (e.Chain x os) (Expr-F.Chain x os) (x ∷ operands os) (search (rules, the_lemmas)) (parts_under [] (x ∷ operands os)) refl
    (plain_and x (operands os) h (All-map Plain (λ o. o.operand) os all))

-- What binds variables.

pub if_ : (c x y : Expr) → Plain c → Plain x → Plain y → Plain (e.If c x y)
if_ c x y h g i = by_form (e.If c x y) (Expr-F.If c x y) (c ∷ x ∷ y ∷ []) (search (rules, the_lemmas)) refl refl (plain_and c (x ∷ y ∷ []) h (two x y g i))

abbrev pub PlainBinding : Binding Expr → Type 0
PlainBinding b = Plain b.source

abbrev pub PlainClause : Clause Expr → Type 0
PlainClause c = Plain (source_of c)

pub quantified : (q : Quantifier) (bs : List (Binding Expr)) (x : Expr) → All PlainBinding bs → Plain x → Plain (e.Quantified q bs x)
quantified q bs x all h =
    by_form (e.Quantified q bs x) (Expr-F.Quantified q bs x) (sources bs ++ x ∷ []) (search (rules, the_lemmas)) (parts_of_bindings [] bs (x ∷ [])) refl
    (All-append Plain (sources bs) (x ∷ []) (All-map Plain (λ b. b.source) bs all) (one x h))

abbrev pub PlainTest : Option Expr → Type 0
PlainTest None = Unit {0}
PlainTest (Some x) = Plain x

tested : (o : Option Expr) → PlainTest o → All Plain (option_to_list o)
tested None h = none
tested (Some x) h = one x h

abbrev pub PlainKey : SortKey Expr → Type 0
PlainKey s = Plain s.key

module _ (cs : List (Clause Expr)) (o : Option Expr) (ks : List (SortKey Expr)) (x : Expr)
    (clauses : All PlainClause cs) (where_ : PlainTest o) (sorted : All PlainKey ks) (result : Plain x) where
  abbrev others : List Expr
  others = option_to_list o ++ keys ks ++ x ∷ []

  parts : All Plain (map source_of cs ++ others)
  parts = All-append Plain (map source_of cs) others (All-map Plain source_of cs clauses)
      (All-append Plain (option_to_list o ++ keys ks) (x ∷ []) (All-append Plain (option_to_list o) (keys ks) (tested o where_) (All-map Plain (λ s. s.key) ks sorted)) (one x result))

  of_flwor : out-Expr (e.Flwor cs o ks x) ≡ Expr-F.Flwor cs o ks x → Plain (e.Flwor cs o ks x)
  of_flwor is = by_form (e.Flwor cs o ks x) (Expr-F.Flwor cs o ks x) (map source_of cs ++ others) is (parts_of_clauses [] cs others) refl parts

pub flwor : (cs : List (Clause Expr)) (o : Option Expr) (ks : List (SortKey Expr)) (x : Expr)
    → All PlainClause cs → PlainTest o → All PlainKey ks → Plain x → Plain (e.Flwor cs o ks x)
flwor cs None ks x clauses where_ sorted result = of_flwor cs None ks x clauses where_ sorted result (search (rules, the_lemmas))
flwor cs (Some y) ks x clauses where_ sorted result = of_flwor cs (Some y) ks x clauses where_ sorted result (search (rules, the_lemmas))

-- Updates.

pub insert : (x : Expr) (place : Place) (y : Expr) → Plain x → Plain y → Plain (e.Insert x place y)
insert x place y h g = by_form (e.Insert x place y) (Expr-F.Insert x place y) (x ∷ y ∷ []) (search (rules, the_lemmas)) refl refl (two x y h g)

pub delete : (x : Expr) → Plain x → Plain (e.Delete x)
delete x h = by_form (e.Delete x) (Expr-F.Delete x) (x ∷ []) (search (rules, the_lemmas)) refl refl (one x h)

pub replace_node : (x y : Expr) → Plain x → Plain y → Plain (e.ReplaceNode x y)
replace_node x y h g = by_form (e.ReplaceNode x y) (Expr-F.ReplaceNode x y) (x ∷ y ∷ []) (search (rules, the_lemmas)) refl refl (two x y h g)

pub replace_value : (x y : Expr) → Plain x → Plain y → Plain (e.ReplaceValue x y)
replace_value x y h g = by_form (e.ReplaceValue x y) (Expr-F.ReplaceValue x y) (x ∷ y ∷ []) (search (rules, the_lemmas)) refl refl (two x y h g)

pub rename : (x y : Expr) → Plain x → Plain y → Plain (e.Rename x y)
rename x y h g = by_form (e.Rename x y) (Expr-F.Rename x y) (x ∷ y ∷ []) (search (rules, the_lemmas)) refl refl (two x y h g)
