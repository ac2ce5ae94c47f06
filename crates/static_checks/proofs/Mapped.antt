-- The parts of one layer of an expression, under a function.
use Rattle.std.proofs.Common.{◌≡◌, ℕ, List, [], ◌∷◌, ◌++◌, map, Option, Some, None, option_to_list, option_map, refl, ap, ap₂, sym, ◌∙◌}
use Rattle.query_grammar.specs.declared.ast.Expr.{map-Expr}
use Rattle.query_grammar.specs.declared.ast.Expr.TheOpen.{Expr-F}
use Rattle.query_grammar.specs.declared.ast.Binding.{Binding}
use Rattle.query_grammar.specs.declared.ast.Clause.{Clause}
use Rattle.query_grammar.specs.declared.ast.Clause.TheVariants as clause
use Rattle.query_grammar.specs.declared.ast.Name.TheVariants as name
use Rattle.query_grammar.specs.declared.ast.SortKey.{SortKey}
use Rattle.static_checks.specs.Parts.{Part, Scope, parts, under, clauses_then, bindings_then, source_of, sources, variables_of, bound_by, keys}

-- the function on the part
abbrev pub mapped : {A B : Type 0} → (A → B) → Part A → Part B
mapped f p = record { bound = p.bound; part = f p.part }

under_mapped : {A B : Type 0} (f : A → B) (bound : Scope) (xs : List A) → under bound (map f xs) ≡ map (mapped f) (under bound xs)
under_mapped f bound [] = refl
under_mapped f bound (x ∷ xs) = ap (λ ys. record { bound = bound; part = f x } ∷ ys) (under_mapped f bound xs)

-- what stands inside each of a list
pub each_mapped : {A B S T : Type 0} (f : A → B) (g : S → T) (a : S → A) (b : T → B) → ((s : S) → b (g s) ≡ f (a s)) → (ss : List S) → map b (map g ss) ≡ map f (map a ss)
each_mapped f g a b same [] = refl
each_mapped f g a b same (s ∷ ss) = ap₂ (λ y ys. y ∷ ys) (same s) (each_mapped f g a b same ss)

under_each : {A B S T : Type 0} (f : A → B) (g : S → T) (a : S → A) (b : T → B) → ((s : S) → b (g s) ≡ f (a s)) → (bound : Scope) (ss : List S)
    → under bound (map b (map g ss)) ≡ map (mapped f) (under bound (map a ss))
under_each f g a b same bound ss = ap (under bound) (each_mapped f g a b same ss) ∙ under_mapped f bound (map a ss)

pub map_both : {A B : Type 0} (f : A → B) (xs ys : List A) → map f (xs ++ ys) ≡ map f xs ++ map f ys
map_both f [] ys = refl
map_both f (x ∷ xs) ys = ap (λ zs. f x ∷ zs) (map_both f xs ys)

-- where the function leaves what clauses bind, and is applied to what they bind to
clauses_mapped : {A B : Type 0} (f : A → B) (g : Clause A → Clause B) → ((c : Clause A) → bound_by (g c) ≡ bound_by c) → ((c : Clause A) → source_of (g c) ≡ f (source_of c))
    → (bound : Scope) (cs : List (Clause A)) (others : List A) → clauses_then bound (map g cs) (map f others) ≡ map (mapped f) (clauses_then bound cs others)
clauses_mapped f g binds is bound [] others = under_mapped f bound others
clauses_mapped f g binds is bound (c ∷ cs) others =
    ap₂ (λ s ps. record { bound = bound; part = s } ∷ ps) (is c)
    (ap (λ b. clauses_then (b ++ bound) (map g cs) (map f others)) (binds c) ∙ clauses_mapped f g binds is (bound_by c ++ bound) cs others)

-- the function on a clause, by its binding
module _ {A B : Type 0} (f : A → B) (g : Clause A → Clause B) (h : Binding A → Binding B)
    (variable : (b : Binding A) → (h b).variable ≡ b.variable) (source : (b : Binding A) → (h b).source ≡ f b.source)
    (on_for : (b : Binding A) → g (clause.For b) ≡ clause.For (h b)) (on_at : (b : Binding A) (at : List ℕ) → g (clause.ForAt b at) ≡ clause.ForAt (h b) at)
    (on_let : (b : Binding A) → g (clause.Let b) ≡ clause.Let (h b)) where
  clause_binds : (c : Clause A) → bound_by (g c) ≡ bound_by c
  clause_binds (clause.For b) = ap bound_by (on_for b) ∙ ap (λ v. v ∷ []) (variable b)
  clause_binds (clause.ForAt b at) = ap bound_by (on_at b at) ∙ ap (λ v. at ∷ v ∷ []) (variable b)
  clause_binds (clause.Let b) = ap bound_by (on_let b) ∙ ap (λ v. v ∷ []) (variable b)

  pub clause_is : (c : Clause A) → source_of (g c) ≡ f (source_of c)
  clause_is (clause.For b) = ap source_of (on_for b) ∙ source b
  clause_is (clause.ForAt b at) = ap source_of (on_at b at) ∙ source b
  clause_is (clause.Let b) = ap source_of (on_let b) ∙ source b

  flwor_clauses_mapped : (cs : List (Clause A)) (others : List A) → clauses_then [] (map g cs) (map f others) ≡ map (mapped f) (clauses_then [] cs others)
  flwor_clauses_mapped cs others = clauses_mapped f g clause_binds clause_is [] cs others

bindings_mapped : {A B : Type 0} (f : A → B) (g : Binding A → Binding B) → ((b : Binding A) → (g b).variable ≡ b.variable) → ((b : Binding A) → (g b).source ≡ f b.source)
    → (bound : Scope) (bs : List (Binding A)) (others : List A) → bindings_then bound (map g bs) (map f others) ≡ map (mapped f) (bindings_then bound bs others)
bindings_mapped f g binds is bound [] others = under_mapped f bound others
bindings_mapped f g binds is bound (b ∷ bs) others =
    ap₂ (λ s ps. record { bound = bound; part = s } ∷ ps) (is b)
    (ap (λ v. bindings_then (v ∷ bound) (map g bs) (map f others)) (binds b) ∙ bindings_mapped f g binds is (b.variable ∷ bound) bs others)

variables_mapped : {A B : Type 0} (g : Binding A → Binding B) → ((b : Binding A) → (g b).variable ≡ b.variable) → (bs : List (Binding A)) → variables_of (map g bs) ≡ variables_of bs
variables_mapped g binds [] = refl
variables_mapped g binds (b ∷ bs) = ap₂ (λ vs v. vs ++ v ∷ []) (variables_mapped g binds bs) (binds b)

-- what stands after the clauses
others_mapped : {A B : Type 0} (f : A → B) (g : SortKey A → SortKey B) → ((k : SortKey A) → (g k).key ≡ f k.key) → (o : Option A) (ks : List (SortKey A)) (x : A)
    → option_to_list (option_map f o) ++ keys (map g ks) ++ f x ∷ [] ≡ map f (option_to_list o ++ keys ks ++ x ∷ [])
others_mapped f g is None ks x = ap (λ ys. ys ++ f x ∷ []) (each_mapped f g (λ k. k.key) (λ k. k.key) is ks) ∙ sym (map_both f (keys ks) (x ∷ []))
others_mapped f g is (Some y) ks x = ap (λ ys. f y ∷ ys ++ f x ∷ []) (each_mapped f g (λ k. k.key) (λ k. k.key) is ks) ∙ ap (λ ys. f y ∷ ys) (sym (map_both f (keys ks) (x ∷ [])))

copied_mapped : {A B : Type 0} (f : A → B) (g : Binding A → Binding B) → ((b : Binding A) → (g b).variable ≡ b.variable) → ((b : Binding A) → (g b).source ≡ f b.source)
    → (bs : List (Binding A)) (x y : A) → under [] (sources (map g bs)) ++ under (variables_of (map g bs)) (f x ∷ f y ∷ [])
    ≡ map (mapped f) (under [] (sources bs) ++ under (variables_of bs) (x ∷ y ∷ []))
copied_mapped f g binds is bs x y =
    ap₂ (λ ps vs. ps ++ under vs (f x ∷ f y ∷ [])) (under_each f g (λ b. b.source) (λ b. b.source) is [] bs) (variables_mapped g binds bs)
    ∙ sym (map_both (mapped f) (under [] (sources bs)) (under (variables_of bs) (x ∷ y ∷ [])))

pub parts_mapped : {A B : Type 0} (f : A → B) (x : Expr-F A) → parts (map-Expr A B f x) ≡ map (mapped f) (parts x)
parts_mapped f (Expr-F.Sequence xs) = under_mapped f [] xs
parts_mapped f (Expr-F.Call g xs) = under_mapped f [] xs
parts_mapped f (Expr-F.Element (name.Written n) x) = refl
parts_mapped f (Expr-F.Element (name.Computed n) x) = refl
parts_mapped f (Expr-F.Attribute (name.Written n) x) = refl
parts_mapped f (Expr-F.Attribute (name.Computed n) x) = refl
parts_mapped f (Expr-F.Instruction (name.Written n) x) = refl
parts_mapped f (Expr-F.Instruction (name.Computed n) x) = refl
parts_mapped f (Expr-F.Step axis t xs) = under_mapped f [] xs
parts_mapped f (Expr-F.Filter x xs) = under_mapped f [] (x ∷ xs)
parts_mapped f (Expr-F.Path x xs) = under_mapped f [] (x ∷ xs)
parts_mapped f (Expr-F.Chain x os) = ap (λ ps. record { bound = []; part = f x } ∷ ps) (under_each f _ (λ o. o.operand) (λ o. o.operand) (λ o. refl) [] os)
parts_mapped f (Expr-F.Quantified q bs x) = bindings_mapped f _ (λ b. refl) (λ b. refl) [] bs (x ∷ [])
parts_mapped f (Expr-F.Flwor cs None ks x) =
    ap (clauses_then [] (map _ cs)) (others_mapped f _ (λ k. refl) None ks x)
    ∙ flwor_clauses_mapped f _ _ (λ b. refl) (λ b. refl) (λ b. refl) (λ b at. refl) (λ b. refl) cs (option_to_list None ++ keys ks ++ x ∷ [])
parts_mapped f (Expr-F.Flwor cs (Some o) ks x) =
    ap (clauses_then [] (map _ cs)) (others_mapped f _ (λ k. refl) (Some o) ks x)
    ∙ flwor_clauses_mapped f _ _ (λ b. refl) (λ b. refl) (λ b. refl) (λ b at. refl) (λ b. refl) cs (option_to_list (Some o) ++ keys ks ++ x ∷ [])
parts_mapped f (Expr-F.Copy bs x y) = copied_mapped f _ (λ b. refl) (λ b. refl) bs x y
parts_mapped f (Expr-F.Integer n) = refl
parts_mapped f (Expr-F.String n) = refl
parts_mapped f (Expr-F.Variable n) = refl
parts_mapped f Expr-F.Context = refl
parts_mapped f (Expr-F.Document x) = refl
parts_mapped f (Expr-F.Text x) = refl
parts_mapped f (Expr-F.Comment x) = refl
parts_mapped f (Expr-F.Signed s x) = refl
parts_mapped f (Expr-F.If x y z) = refl
parts_mapped f (Expr-F.Insert x p y) = refl
parts_mapped f (Expr-F.Delete x) = refl
parts_mapped f (Expr-F.ReplaceNode x y) = refl
parts_mapped f (Expr-F.ReplaceValue x y) = refl
parts_mapped f (Expr-F.Rename x y) = refl
