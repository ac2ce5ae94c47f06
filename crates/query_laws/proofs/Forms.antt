-- An expression says well throughout where it says well itself, and its parts do throughout: form by form.
use Rattle.std.proofs.Common.{◌≡◌, ◌≤◌, ℕ, true, List, [], ◌∷◌, ◌++◌, length, map, slice_get, Option, Some, None, option_to_list, refl, subst, sym, ap, ◌∙◌, rules}
use Rattle.std.proofs.lemmas.List.Elements.{All-nil, All-cons, All-append, All-map}
use Rattle.std.proofs.lemmas.Option.{get_or_from_slice_get, slice_get_within}
use Rattle.std.specs.List.{All}
use Rattle.data_model.specs.declared.axis.Axis.{Axis}
use Rattle.document_names.specs.Characters.{is_name}
use Rattle.query_tokens.specs.Limits.{max_integer}
use Rattle.query_grammar.specs.declared.ast.Binding.{Binding}
use Rattle.query_grammar.specs.declared.ast.Clause.{Clause}
use Rattle.query_grammar.specs.declared.ast.Expr.{Expr, out-Expr}
use Rattle.query_grammar.specs.declared.ast.Expr.TheOpen.{Expr-F}
use Rattle.query_grammar.specs.declared.ast.Expr.TheVariants as e
use Rattle.query_grammar.specs.declared.ast.Expr.TheViews.{the_lemmas}
use Rattle.query_grammar.specs.declared.functions.Function.{Function}
use Rattle.query_grammar.specs.declared.ast.Name.{Name}
use Rattle.query_grammar.specs.declared.ast.Name.TheVariants as name
use Rattle.query_grammar.specs.declared.ast.NodeTest.{NodeTest}
use Rattle.query_grammar.specs.declared.ast.Operation.{Operation}
use Rattle.query_grammar.specs.declared.ast.Place.{Place}
use Rattle.query_grammar.specs.declared.ast.Quantifier.{Quantifier}
use Rattle.query_grammar.specs.declared.ast.Sign.{Sign}
use Rattle.query_grammar.specs.declared.ast.SortKey.{SortKey}
use Rattle.static_checks.specs.Inside.{children}
use Rattle.static_checks.specs.Parts.{parts_alone, keys, operands, source_of, sources, under, variables_of}
use Rattle.static_checks.proofs.Folds.{parts_under, parts_of_bindings, parts_of_both, parts_of_clauses}
use Rattle.query_laws.specs.Saying.{TakesSoMany, TestSaysName, BindsName, ClauseBindsNames, SaysWell}
use Rattle.query_laws.specs.Standing.{StandsIn, Itself, InPart}
use Rattle.query_laws.specs.Written.{IsXmlString}

-- whatever stands in it says well
abbrev pub Well : Expr → Type 0
Well x = (inner : Expr) → StandsIn inner x → SaysWell (out-Expr inner)

element : {A : Type 0} (P : A → Type 0) (xs : List A) (k : ℕ) (y : A) → slice_get xs k ≡ Some y → All P xs → P y
element P xs k y h all = subst P (get_or_from_slice_get xs k y y h) (all k y (slice_get_within xs k y h))

well_within : (inner x : Expr) → StandsIn inner x → SaysWell (out-Expr x) → All Well (children x) → SaysWell (out-Expr inner)
well_within inner _ Itself here parts = here
well_within inner x (InPart _ part k there within) here parts = element Well (children x) k part there parts inner within

well_of : (x : Expr) → SaysWell (out-Expr x) → All Well (children x) → Well x
well_of x here parts inner within = well_within inner x within here parts

-- by the form, of such parts
by_form : (x : Expr) (f : Expr-F Expr) (xs : List Expr) → out-Expr x ≡ f → parts_alone f ≡ xs → SaysWell f → All Well xs → Well x
by_form x f xs is are here parts = well_of x (subst SaysWell (sym is) here) (subst (All Well) (sym (ap (λ g. parts_alone g) is ∙ are)) parts)

none : All Well []
none = All-nil Well

pub well_and : (x : Expr) (xs : List Expr) → Well x → All Well xs → All Well (x ∷ xs)
well_and x xs h all = All-cons Well x xs h all

pub one : (x : Expr) → Well x → All Well (x ∷ [])
one x h = well_and x [] h none

two : (x y : Expr) → Well x → Well y → All Well (x ∷ y ∷ [])
two x y h g = well_and x (y ∷ []) h (one y g)

pub integer : (n : ℕ) → n ≤ max_integer → Well (e.Integer n)
integer n h = by_form (e.Integer n) (Expr-F.Integer n) [] (search (rules, the_lemmas)) refl h none

pub string : (s : List ℕ) → IsXmlString s → Well (e.String s)
string s h = by_form (e.String s) (Expr-F.String s) [] (search (rules, the_lemmas)) refl h none

pub variable : (x : List ℕ) → is_name x ≡ true → Well (e.Variable x)
variable x h = by_form (e.Variable x) (Expr-F.Variable x) [] (search (rules, the_lemmas)) refl h none

pub context : Well e.Context
context = by_form e.Context Expr-F.Context [] (search (rules, the_lemmas)) refl tt none

pub sequence : (xs : List Expr) → All Well xs → Well (e.Sequence xs)
sequence xs all = by_form (e.Sequence xs) (Expr-F.Sequence xs) xs (search (rules, the_lemmas)) (parts_under [] xs) tt all

pub call : (f : Option Function) (xs : List Expr) → TakesSoMany f (length xs) → All Well xs → Well (e.Call f xs)
call f xs h all = by_form (e.Call f xs) (Expr-F.Call f xs) xs (search (rules, the_lemmas)) (parts_under [] xs) h all

-- Constructors.

pub document : (x : Expr) → Well x → Well (e.Document x)
document x h = by_form (e.Document x) (Expr-F.Document x) (x ∷ []) (search (rules, the_lemmas)) refl tt (one x h)

pub text : (x : Expr) → Well x → Well (e.Text x)
text x h = by_form (e.Text x) (Expr-F.Text x) (x ∷ []) (search (rules, the_lemmas)) refl tt (one x h)

pub comment : (x : Expr) → Well x → Well (e.Comment x)
comment x h = by_form (e.Comment x) (Expr-F.Comment x) (x ∷ []) (search (rules, the_lemmas)) refl tt (one x h)

-- a name that is written is a name, and one that is computed is so by what says well
abbrev pub WellNamed : Name Expr → Type 0
WellNamed (name.Written text) = is_name text ≡ true
WellNamed (name.Computed x) = Well x

pub element_of : (n : Name Expr) (x : Expr) → WellNamed n → Well x → Well (e.Element n x)
element_of (name.Written text) x h g =
    by_form (e.Element (name.Written text) x) (Expr-F.Element (name.Written text) x) (x ∷ []) (search (rules, the_lemmas)) refl h (one x g)
element_of (name.Computed y) x h g =
    by_form (e.Element (name.Computed y) x) (Expr-F.Element (name.Computed y) x) (y ∷ x ∷ []) (search (rules, the_lemmas)) refl tt (two y x h g)

pub attribute : (n : Name Expr) (x : Expr) → WellNamed n → Well x → Well (e.Attribute n x)
attribute (name.Written text) x h g =
    by_form (e.Attribute (name.Written text) x) (Expr-F.Attribute (name.Written text) x) (x ∷ []) (search (rules, the_lemmas)) refl h (one x g)
attribute (name.Computed y) x h g =
    by_form (e.Attribute (name.Computed y) x) (Expr-F.Attribute (name.Computed y) x) (y ∷ x ∷ []) (search (rules, the_lemmas)) refl tt (two y x h g)

pub instruction : (n : Name Expr) (x : Expr) → WellNamed n → Well x → Well (e.Instruction n x)
instruction (name.Written text) x h g =
    by_form (e.Instruction (name.Written text) x) (Expr-F.Instruction (name.Written text) x) (x ∷ []) (search (rules, the_lemmas)) refl h (one x g)
instruction (name.Computed y) x h g =
    by_form (e.Instruction (name.Computed y) x) (Expr-F.Instruction (name.Computed y) x) (y ∷ x ∷ []) (search (rules, the_lemmas)) refl tt (two y x h g)

-- Paths and operators.

pub step : (axis : Axis) (t : NodeTest) (xs : List Expr) → TestSaysName t → All Well xs → Well (e.Step axis t xs)
step axis t xs h all = by_form (e.Step axis t xs) (Expr-F.Step axis t xs) xs (search (rules, the_lemmas)) (parts_under [] xs) h all

pub filter : (x : Expr) (xs : List Expr) → Well x → All Well xs → Well (e.Filter x xs)
filter x xs h all = by_form (e.Filter x xs) (Expr-F.Filter x xs) (x ∷ xs) (search (rules, the_lemmas)) (parts_under [] (x ∷ xs)) tt (well_and x xs h all)

pub path : (x : Expr) (xs : List Expr) → Well x → All Well xs → Well (e.Path x xs)
path x xs h all = by_form (e.Path x xs) (Expr-F.Path x xs) (x ∷ xs) (search (rules, the_lemmas)) (parts_under [] (x ∷ xs)) tt (well_and x xs h all)

pub signed : (signs : List Sign) (x : Expr) → Well x → Well (e.Signed signs x)
signed signs x h = by_form (e.Signed signs x) (Expr-F.Signed signs x) (x ∷ []) (search (rules, the_lemmas)) refl tt (one x h)

abbrev pub WellOperated : Operation Expr → Type 0
WellOperated o = Well o.operand

pub chain : (x : Expr) (os : List (Operation Expr)) → Well x → All WellOperated os → Well (e.Chain x os)
chain x os h all =
    by_form (e.Chain x os) (Expr-F.Chain x os) (x ∷ operands os) (search (rules, the_lemmas)) (parts_under [] (x ∷ operands os)) tt
    (well_and x (operands os) h (All-map Well (λ o. o.operand) os all))

-- What binds variables.

pub if_ : (c x y : Expr) → Well c → Well x → Well y → Well (e.If c x y)
if_ c x y h g i = by_form (e.If c x y) (Expr-F.If c x y) (c ∷ x ∷ y ∷ []) (search (rules, the_lemmas)) refl tt (well_and c (x ∷ y ∷ []) h (two x y g i))

-- a name is bound, and to what says well
pub record WellBound (b : Binding Expr) : Type 0 where
  pub binds : BindsName b
  pub source : Well b.source

pub record WellClause (c : Clause Expr) : Type 0 where
  pub binds : ClauseBindsNames c
  pub source : Well (source_of c)

bound : (bs : List (Binding Expr)) → All WellBound bs → All BindsName bs
bound bs all = λ k b within. (all k b within).binds

sources_of : (bs : List (Binding Expr)) → All WellBound bs → All Well (sources bs)
sources_of bs all = All-map Well (λ b. b.source) bs (λ k b within. (all k b within).source)

pub quantified : (q : Quantifier) (bs : List (Binding Expr)) (x : Expr) → All WellBound bs → Well x → Well (e.Quantified q bs x)
quantified q bs x all h =
    by_form (e.Quantified q bs x) (Expr-F.Quantified q bs x) (sources bs ++ x ∷ []) (search (rules, the_lemmas)) (parts_of_bindings [] bs (x ∷ [])) (bound bs all)
    (All-append Well (sources bs) (x ∷ []) (sources_of bs all) (one x h))

pub copy : (bs : List (Binding Expr)) (x y : Expr) → All WellBound bs → Well x → Well y → Well (e.Copy bs x y)
copy bs x y all h g =
    by_form (e.Copy bs x y) (Expr-F.Copy bs x y) (sources bs ++ x ∷ y ∷ []) (search (rules, the_lemmas))
    (parts_of_both (under [] (sources bs)) (under (variables_of bs) (x ∷ y ∷ [])) ∙ ap (λ xs. xs ++ x ∷ y ∷ []) (parts_under [] (sources bs))) (bound bs all)
    (All-append Well (sources bs) (x ∷ y ∷ []) (sources_of bs all) (two x y h g))

abbrev pub WellTested : Option Expr → Type 0
WellTested None = Unit {0}
WellTested (Some x) = Well x

tested : (o : Option Expr) → WellTested o → All Well (option_to_list o)
tested None h = none
tested (Some x) h = one x h

abbrev pub WellSorted : SortKey Expr → Type 0
WellSorted s = Well s.key

module _ (cs : List (Clause Expr)) (o : Option Expr) (ks : List (SortKey Expr)) (x : Expr)
    (clauses : All WellClause cs) (where_ : WellTested o) (sorted : All WellSorted ks) (result : Well x) where
  abbrev others : List Expr
  others = option_to_list o ++ keys ks ++ x ∷ []

  wells : All Well (map source_of cs ++ others)
  wells = All-append Well (map source_of cs) others (All-map Well source_of cs (λ k c within. (clauses k c within).source))
      (All-append Well (option_to_list o ++ keys ks) (x ∷ []) (All-append Well (option_to_list o) (keys ks) (tested o where_) (All-map Well (λ s. s.key) ks sorted)) (one x result))

  of_flwor : out-Expr (e.Flwor cs o ks x) ≡ Expr-F.Flwor cs o ks x → Well (e.Flwor cs o ks x)
  of_flwor is = by_form (e.Flwor cs o ks x) (Expr-F.Flwor cs o ks x) (map source_of cs ++ others) is (parts_of_clauses [] cs others) (λ k c within. (clauses k c within).binds) wells

pub flwor : (cs : List (Clause Expr)) (o : Option Expr) (ks : List (SortKey Expr)) (x : Expr)
    → All WellClause cs → WellTested o → All WellSorted ks → Well x → Well (e.Flwor cs o ks x)
flwor cs None ks x clauses where_ sorted result = of_flwor cs None ks x clauses where_ sorted result (search (rules, the_lemmas))
flwor cs (Some y) ks x clauses where_ sorted result = of_flwor cs (Some y) ks x clauses where_ sorted result (search (rules, the_lemmas))

-- Updates.

pub insert : (x : Expr) (place : Place) (y : Expr) → Well x → Well y → Well (e.Insert x place y)
insert x place y h g = by_form (e.Insert x place y) (Expr-F.Insert x place y) (x ∷ y ∷ []) (search (rules, the_lemmas)) refl tt (two x y h g)

pub delete : (x : Expr) → Well x → Well (e.Delete x)
delete x h = by_form (e.Delete x) (Expr-F.Delete x) (x ∷ []) (search (rules, the_lemmas)) refl tt (one x h)

pub replace_node : (x y : Expr) → Well x → Well y → Well (e.ReplaceNode x y)
replace_node x y h g = by_form (e.ReplaceNode x y) (Expr-F.ReplaceNode x y) (x ∷ y ∷ []) (search (rules, the_lemmas)) refl tt (two x y h g)

pub replace_value : (x y : Expr) → Well x → Well y → Well (e.ReplaceValue x y)
replace_value x y h g = by_form (e.ReplaceValue x y) (Expr-F.ReplaceValue x y) (x ∷ y ∷ []) (search (rules, the_lemmas)) refl tt (two x y h g)

pub rename : (x y : Expr) → Well x → Well y → Well (e.Rename x y)
rename x y h g = by_form (e.Rename x y) (Expr-F.Rename x y) (x ∷ y ∷ []) (search (rules, the_lemmas)) refl tt (two x y h g)
