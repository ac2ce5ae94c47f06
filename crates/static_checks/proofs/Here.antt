-- What the passes ask of a form stays the same under a function on its parts.
use Rattle.std.proofs.Common.{◌≡◌, ◌||◌, ℕ, Bool, List, [], ◌∷◌, map, refl, ap, ap₂, ◌∙◌}
use Rattle.std.specs.List.{list_any}
use Rattle.query_grammar.specs.declared.ast.Expr.{Expr, map-Expr, out-Expr}
use Rattle.query_grammar.specs.declared.ast.Expr.TheOpen.{Expr-F}
use Rattle.std.specs.Str.{bytes_eq}
use Rattle.query_grammar.specs.declared.ast.Binding.{Binding}
use Rattle.query_grammar.specs.declared.ast.Clause.{Clause}
use Rattle.query_grammar.specs.declared.ast.Clause.TheVariants as clause
use Rattle.static_checks.specs.Variables.{binds_twice, has_twice_bound, binds_a_name_twice}
use Rattle.static_checks.specs.Functions.{is_unknown_call, has_unknown_call}
use Rattle.static_checks.specs.Inside.{children}
use Rattle.static_checks.proofs.Passes.{somewhere_out}

unknown_mapped : (f : Expr → Bool) (x : Expr-F Expr) → is_unknown_call (map-Expr Expr Bool f x) ≡ is_unknown_call x
unknown_mapped f (Expr-F.Call g xs) = refl
unknown_mapped f (Expr-F.Integer n) = refl
unknown_mapped f (Expr-F.String n) = refl
unknown_mapped f (Expr-F.Variable n) = refl
unknown_mapped f Expr-F.Context = refl
unknown_mapped f (Expr-F.Sequence xs) = refl
unknown_mapped f (Expr-F.Document x) = refl
unknown_mapped f (Expr-F.Element n x) = refl
unknown_mapped f (Expr-F.Attribute n x) = refl
unknown_mapped f (Expr-F.Text x) = refl
unknown_mapped f (Expr-F.Comment x) = refl
unknown_mapped f (Expr-F.Instruction n x) = refl
unknown_mapped f (Expr-F.Step a t xs) = refl
unknown_mapped f (Expr-F.Filter x xs) = refl
unknown_mapped f (Expr-F.Path x xs) = refl
unknown_mapped f (Expr-F.Signed s x) = refl
unknown_mapped f (Expr-F.Chain x os) = refl
unknown_mapped f (Expr-F.If x y z) = refl
unknown_mapped f (Expr-F.Quantified q bs x) = refl
unknown_mapped f (Expr-F.Flwor cs o ks x) = refl
unknown_mapped f (Expr-F.Insert x p y) = refl
unknown_mapped f (Expr-F.Delete x) = refl
unknown_mapped f (Expr-F.ReplaceNode x y) = refl
unknown_mapped f (Expr-F.ReplaceValue x y) = refl
unknown_mapped f (Expr-F.Rename x y) = refl
unknown_mapped f (Expr-F.Copy bs x y) = refl

-- an unknown function is called here or in a part
pub unknown_out : (x : Expr) → has_unknown_call x ≡ is_unknown_call (out-Expr x) || list_any has_unknown_call (children x)
unfolding has_unknown_call
unknown_out x = somewhere_out is_unknown_call is_unknown_call unknown_mapped x

-- a clause under the function
module _ (f : Expr → Bool) (g : Clause Expr → Clause Bool) (h : Binding Expr → Binding Bool) (variable : (b : Binding Expr) → (h b).variable ≡ b.variable)
    (on_for : (b : Binding Expr) → g (clause.For b) ≡ clause.For (h b)) (on_at : (b : Binding Expr) (at : List ℕ) → g (clause.ForAt b at) ≡ clause.ForAt (h b) at)
    (on_let : (b : Binding Expr) → g (clause.Let b) ≡ clause.Let (h b)) where
  clause_twice : (c : Clause Expr) → binds_twice (g c) ≡ binds_twice c
  clause_twice (clause.For b) = ap binds_twice (on_for b)
  clause_twice (clause.ForAt b at) = ap binds_twice (on_at b at) ∙ ap (λ v. bytes_eq v at) (variable b)
  clause_twice (clause.Let b) = ap binds_twice (on_let b)

  clauses_twice : (cs : List (Clause Expr)) → list_any binds_twice (map g cs) ≡ list_any binds_twice cs
  clauses_twice [] = refl
  clauses_twice (c ∷ cs) = ap₂ (λ a b. a || b) (clause_twice c) (clauses_twice cs)

twice_mapped : (f : Expr → Bool) (x : Expr-F Expr) → has_twice_bound (map-Expr Expr Bool f x) ≡ has_twice_bound x
twice_mapped f (Expr-F.Flwor cs o ks x) = clauses_twice f _ _ (λ b. refl) (λ b. refl) (λ b at. refl) (λ b. refl) cs
twice_mapped f (Expr-F.Integer n) = refl
twice_mapped f (Expr-F.String n) = refl
twice_mapped f (Expr-F.Variable n) = refl
twice_mapped f Expr-F.Context = refl
twice_mapped f (Expr-F.Sequence xs) = refl
twice_mapped f (Expr-F.Call g xs) = refl
twice_mapped f (Expr-F.Document x) = refl
twice_mapped f (Expr-F.Element n x) = refl
twice_mapped f (Expr-F.Attribute n x) = refl
twice_mapped f (Expr-F.Text x) = refl
twice_mapped f (Expr-F.Comment x) = refl
twice_mapped f (Expr-F.Instruction n x) = refl
twice_mapped f (Expr-F.Step a t xs) = refl
twice_mapped f (Expr-F.Filter x xs) = refl
twice_mapped f (Expr-F.Path x xs) = refl
twice_mapped f (Expr-F.Signed s x) = refl
twice_mapped f (Expr-F.Chain x os) = refl
twice_mapped f (Expr-F.If x y z) = refl
twice_mapped f (Expr-F.Quantified q bs x) = refl
twice_mapped f (Expr-F.Insert x p y) = refl
twice_mapped f (Expr-F.Delete x) = refl
twice_mapped f (Expr-F.ReplaceNode x y) = refl
twice_mapped f (Expr-F.ReplaceValue x y) = refl
twice_mapped f (Expr-F.Rename x y) = refl
twice_mapped f (Expr-F.Copy bs x y) = refl

-- a name is bound twice here or in a part
pub twice_out : (x : Expr) → binds_a_name_twice x ≡ has_twice_bound (out-Expr x) || list_any binds_a_name_twice (children x)
unfolding binds_a_name_twice
twice_out x = somewhere_out has_twice_bound has_twice_bound twice_mapped x
