-- Parts of expressions, and folds over them.
use Rattle.std.proofs.Common.{◌≡◌, ℕ, zero, suc, ◌<◌, ◌≤◌, ◌-◌, List, [], ◌∷◌, ◌++◌, map, length, slice_get, option_map, Option, option_to_list, ap₂, refl, ap, sym, ◌∙◌, arith, rules, Bool, true, false, ◌||◌, drop, Some, None}
use Rattle.std.proofs.lemmas.List.{length-map}
use Rattle.std.proofs.lemmas.Option.{none-some, same_Some, slice_get-map}
use Rattle.query_grammar.specs.declared.ast.Binding.{Binding}
use Rattle.query_grammar.specs.declared.ast.Clause.{Clause}
use Rattle.query_grammar.specs.declared.ast.Expr.{Expr}
use Rattle.query_grammar.specs.declared.ast.Expr.TheVariants as e
use Rattle.query_grammar.specs.declared.ast.Expr.TheViews.{the_lemmas}
use Rattle.query_grammar.specs.declared.functions.Function.{Function}
use Rattle.query_grammar.specs.declared.ast.Operation.{Operation}
use Rattle.query_grammar.specs.declared.ast.SortKey.{SortKey}
use Rattle.query_grammar.specs.declared.ast.Quantifier.{Quantifier}
use Rattle.query_grammar.specs.declared.ast.NodeTest.{NodeTest}
use Rattle.data_model.specs.declared.axis.Axis.{Axis}
use Rattle.static_checks.specs.Inside.{children}
use Rattle.static_checks.specs.Parts.{Part, keys, operands, Scope, under, clauses_then, bindings_then, source_of, sources, variables_of, bound_by}

-- an element of two lists, one after the other
pub get_left : {A : Type 0} (xs ys : List A) (k : ℕ) → k < length xs → slice_get (xs ++ ys) k ≡ slice_get xs k
get_left [] ys k h = absurd (omega (arith, h))
get_left (x ∷ xs) ys zero h = refl
get_left (x ∷ xs) ys (suc k) h = get_left xs ys k (omega (arith, h))

pub get_right : {A : Type 0} (xs ys : List A) (k : ℕ) → length xs ≤ k → slice_get (xs ++ ys) k ≡ slice_get ys (k - length xs)
get_right [] ys k h = ap (slice_get ys) (omega arith)
get_right (x ∷ xs) ys zero h = absurd (omega (arith, h))
get_right (x ∷ xs) ys (suc k) h = get_right xs ys k (omega (arith, h)) ∙ ap (slice_get ys) (omega arith)

-- the element of a mapped list
pub get_mapped : {A B : Type 0} (f : A → B) (xs : List A) (k : ℕ) → slice_get (map f xs) k ≡ option_map f (slice_get xs k)
get_mapped f xs k = slice_get-map f xs k

-- the parts without the variables
pub parts_under : {A : Type 0} (bound : List (List ℕ)) (xs : List A) → map (λ (p : Part A). p.part) (under bound xs) ≡ xs
parts_under bound [] = refl
parts_under bound (x ∷ xs) = ap (λ ys. x ∷ ys) (parts_under bound xs)

pub length_mapped : {A B : Type 0} (f : A → B) (xs : List A) → length (map f xs) ≡ length xs
length_mapped f xs = length-map xs f

-- the same, where the length is known by another name
pub get_after : {A : Type 0} (xs ys : List A) (n k : ℕ) → n ≡ length xs → n ≤ k → slice_get ys (k - n) ≡ slice_get (xs ++ ys) k
get_after xs ys n k same h = ap (λ i. slice_get ys (k - i)) same ∙ sym (get_right xs ys k (omega (arith, same, h)))

-- the same of clauses and of bindings
pub parts_of_clauses : {A : Type 0} (bound : Scope) (cs : List (Clause A)) (others : List A) → map (λ (p : Part A). p.part) (clauses_then bound cs others) ≡ map source_of cs ++ others
parts_of_clauses bound [] others = parts_under bound others
parts_of_clauses bound (c ∷ cs) others = ap (λ ys. source_of c ∷ ys) (parts_of_clauses (bound_by c ++ bound) cs others)

pub parts_of_bindings : {A : Type 0} (bound : Scope) (bs : List (Binding A)) (others : List A) → map (λ (p : Part A). p.part) (bindings_then bound bs others) ≡ sources bs ++ others
parts_of_bindings bound [] others = parts_under bound others
parts_of_bindings bound (b ∷ bs) others = ap (λ ys. b.source ∷ ys) (parts_of_bindings (b.variable ∷ bound) bs others)

-- the parts of two lists
pub parts_of_both : {A : Type 0} (ps qs : List (Part A)) → map (λ (p : Part A). p.part) (ps ++ qs) ≡ map (λ (p : Part A). p.part) ps ++ map (λ (p : Part A). p.part) qs
parts_of_both [] qs = refl
parts_of_both (p ∷ ps) qs = ap (λ ys. p.part ∷ ys) (parts_of_both ps qs)

-- a part, where the parts are known
pub part_at : {A : Type 0} (o : Option A) (xs ys : List A) (k : ℕ) → o ≡ slice_get xs k → ys ≡ xs → o ≡ slice_get ys k
part_at o xs ys k found same = found ∙ ap (λ zs. slice_get zs k) (sym same)

-- the parts of the forms that have lists of them
pub of_sequence : (xs : List Expr) → children (e.Sequence xs) ≡ xs
of_sequence xs = search (rules, the_lemmas, parts_under [] xs)

pub of_call : (f : Option Function) (xs : List Expr) → children (e.Call f xs) ≡ xs
of_call f xs = search (rules, the_lemmas, parts_under [] xs)

pub of_step : (axis : Axis) (test : NodeTest) (xs : List Expr) → children (e.Step axis test xs) ≡ xs
of_step axis test xs = search (rules, the_lemmas, parts_under [] xs)

pub of_filter : (x : Expr) (xs : List Expr) → children (e.Filter x xs) ≡ x ∷ xs
of_filter x xs = search (rules, the_lemmas, parts_under [] (x ∷ xs))

pub of_path : (x : Expr) (xs : List Expr) → children (e.Path x xs) ≡ x ∷ xs
of_path x xs = search (rules, the_lemmas, parts_under [] (x ∷ xs))

pub of_chain : (x : Expr) (os : List (Operation Expr)) → children (e.Chain x os) ≡ x ∷ operands os
of_chain x os = search (rules, the_lemmas, parts_under [] (x ∷ operands os))

pub of_quantified : (q : Quantifier) (bs : List (Binding Expr)) (x : Expr) → children (e.Quantified q bs x) ≡ sources bs ++ x ∷ []
of_quantified q bs x = search (rules, the_lemmas, parts_of_bindings [] bs (x ∷ []))

pub of_flwor : (cs : List (Clause Expr)) (o : Option Expr) (ks : List (SortKey Expr)) (x : Expr)
    → children (e.Flwor cs o ks x) ≡ map source_of cs ++ (option_to_list o ++ keys ks ++ x ∷ [])
of_flwor cs o ks x = search (rules, the_lemmas, parts_of_clauses [] cs (option_to_list o ++ keys ks ++ x ∷ []))

copied : (bs : List (Binding Expr)) (x y : Expr) → map (λ (p : Part Expr). p.part) (under [] (sources bs) ++ under (variables_of bs) (x ∷ y ∷ [])) ≡ sources bs ++ x ∷ y ∷ []
copied bs x y = parts_of_both (under [] (sources bs)) (under (variables_of bs) (x ∷ y ∷ []))
    ∙ ap₂ (λ us vs. us ++ vs) (parts_under [] (sources bs)) (parts_under (variables_of bs) (x ∷ y ∷ []))

pub of_copy : (bs : List (Binding Expr)) (x y : Expr) → children (e.Copy bs x y) ≡ sources bs ++ x ∷ y ∷ []
of_copy bs x y = search (rules, the_lemmas, copied bs x y)

-- the list from an index on
pub dropped : {A : Type 0} (xs : List A) (k : ℕ) (y : A) → slice_get xs k ≡ Some y → drop k xs ≡ y ∷ drop (suc k) xs
dropped [] k y h = absurd (none-some y h)
dropped (x ∷ xs) zero y h = ap (λ z. z ∷ xs) (same_Some x y h)
dropped (x ∷ xs) (suc k) y h = dropped xs k y h

pub ended : {A : Type 0} (xs : List A) (k : ℕ) → None ≡ slice_get xs k → drop k xs ≡ []
ended [] zero h = refl
ended [] (suc k) h = refl
ended (x ∷ xs) zero h = absurd (none-some x h)
ended (x ∷ xs) (suc k) h = ended xs k h

pub or_more : (a b c : Bool) → (a || b) || c ≡ a || (b || c)
or_more true b c = refl
or_more false b c = refl
