-- The parts of a form, as those before, inside and after.
use Rattle.std.proofs.Common.{◌≡◌, ℕ, List, [], ◌∷◌, ◌++◌, map, Some, None, option_to_list, refl, ap, ap₂, sym, ◌∙◌}
use Rattle.query_grammar.specs.declared.ast.Expr.{Expr, map-Expr, out-Expr}
use Rattle.query_grammar.specs.declared.ast.Expr.TheFolds.{fold_out-Expr}
use Rattle.query_grammar.specs.declared.ast.Expr.TheOpen.{Expr-F}
use Rattle.query_grammar.specs.declared.ast.Binding.{Binding}
use Rattle.query_grammar.specs.declared.ast.Clause.{Clause}
use Rattle.query_grammar.specs.declared.ast.Clause.TheVariants as clause
use Rattle.query_grammar.specs.declared.ast.SortKey.{SortKey}
use Rattle.static_checks.specs.Categories.{Form, outside, form_of, Judged, judged_form, judged}
use Rattle.static_checks.specs.Inside.{children}
use Rattle.static_checks.specs.Parts.{parts, parts_alone, under, source_of, sources, variables_of, keys}
use Rattle.static_checks.specs.declared.categories.Own.TheVariants.{OfResults, GivesItems}
use Rattle.static_checks.proofs.Folds.{parts_under, parts_of_clauses, parts_of_both}
use Rattle.static_checks.proofs.Mapped.{parts_mapped, each_mapped, map_both, clause_is}
use Rattle.static_checks.proofs.Passes.{results}

-- the function on each part of a form
abbrev pub map_form : {A B : Type 0} → (A → B) → Form A → Form B
map_form f x = record { own = x.own; before = map f x.before; inner = map f x.inner; after = map f x.after }

alone_mapped : {A B : Type 0} (f : A → B) (x : Expr-F A) → parts_alone (map-Expr A B f x) ≡ map f (parts_alone x)
alone_mapped f x = ap (map (λ p. p.part)) (parts_mapped f x) ∙ results f (parts x)

-- what stands before the result of a FLWOR expression
module _ {A B : Type 0} (f : A → B) (g : Clause A → Clause B) (h : Binding A → Binding B) (k : SortKey A → SortKey B)
    (variable : (b : Binding A) → (h b).variable ≡ b.variable) (source : (b : Binding A) → (h b).source ≡ f b.source)
    (on_for : (b : Binding A) → g (clause.For b) ≡ clause.For (h b)) (on_at : (b : Binding A) (at : List ℕ) → g (clause.ForAt b at) ≡ clause.ForAt (h b) at)
    (on_let : (b : Binding A) → g (clause.Let b) ≡ clause.Let (h b)) (on_key : (s : SortKey A) → (k s).key ≡ f s.key) where
  clauses_and : (cs : List (Clause A)) (xs : List B) (ys : List A) → xs ≡ map f ys → map source_of (map g cs) ++ xs ≡ map f (map source_of cs ++ ys)
  clauses_and cs xs ys same =
      ap₂ (λ us vs. us ++ vs) (each_mapped f g source_of source_of (clause_is f g h variable source on_for on_at on_let) cs) same
      ∙ sym (map_both f (map source_of cs) ys)

  without_where : (cs : List (Clause A)) (ks : List (SortKey A)) → map source_of (map g cs) ++ ([] ++ keys (map k ks)) ≡ map f (map source_of cs ++ ([] ++ keys ks))
  without_where cs ks = clauses_and cs (keys (map k ks)) (keys ks) (each_mapped f k (λ s. s.key) (λ s. s.key) on_key ks)

  with_where : (cs : List (Clause A)) (o : A) (ks : List (SortKey A)) → map source_of (map g cs) ++ (f o ∷ [] ++ keys (map k ks)) ≡ map f (map source_of cs ++ (o ∷ [] ++ keys ks))
  with_where cs o ks = clauses_and cs (f o ∷ keys (map k ks)) (o ∷ keys ks) (ap (λ xs. f o ∷ xs) (each_mapped f k (λ s. s.key) (λ s. s.key) on_key ks))

pub form_mapped : {A B : Type 0} (f : A → B) (x : Expr-F A) → form_of (map-Expr A B f x) ≡ map_form f (form_of x)
form_mapped f (Expr-F.Sequence xs) = refl
form_mapped f (Expr-F.If x y z) = refl
form_mapped f (Expr-F.Flwor cs None ks x) = ap (λ xs. record { own = OfResults; before = xs; inner = f x ∷ []; after = [] })
    (without_where f _ _ _ (λ b. refl) (λ b. refl) (λ b. refl) (λ b at. refl) (λ b. refl) (λ s. refl) cs ks)
form_mapped f (Expr-F.Flwor cs (Some o) ks x) = ap (λ xs. record { own = OfResults; before = xs; inner = f x ∷ []; after = [] })
    (with_where f _ _ _ (λ b. refl) (λ b. refl) (λ b. refl) (λ b at. refl) (λ b. refl) (λ s. refl) cs o ks)
form_mapped f (Expr-F.Insert x p y) = refl
form_mapped f (Expr-F.Delete x) = refl
form_mapped f (Expr-F.ReplaceNode x y) = refl
form_mapped f (Expr-F.ReplaceValue x y) = refl
form_mapped f (Expr-F.Rename x y) = refl
form_mapped f (Expr-F.Copy bs x y) = ap (λ xs. record { own = GivesItems; before = xs; inner = f x ∷ []; after = f y ∷ [] })
    (each_mapped f _ (λ b. b.source) (λ b. b.source) (λ b. refl) bs)
form_mapped f (Expr-F.Integer n) = ap (outside GivesItems) (alone_mapped f (Expr-F.Integer n))
form_mapped f (Expr-F.String n) = ap (outside GivesItems) (alone_mapped f (Expr-F.String n))
form_mapped f (Expr-F.Variable n) = ap (outside GivesItems) (alone_mapped f (Expr-F.Variable n))
form_mapped f Expr-F.Context = ap (outside GivesItems) (alone_mapped f Expr-F.Context)
form_mapped f (Expr-F.Call g xs) = ap (outside GivesItems) (alone_mapped f (Expr-F.Call g xs))
form_mapped f (Expr-F.Document x) = ap (outside GivesItems) (alone_mapped f (Expr-F.Document x))
form_mapped f (Expr-F.Element n x) = ap (outside GivesItems) (alone_mapped f (Expr-F.Element n x))
form_mapped f (Expr-F.Attribute n x) = ap (outside GivesItems) (alone_mapped f (Expr-F.Attribute n x))
form_mapped f (Expr-F.Text x) = ap (outside GivesItems) (alone_mapped f (Expr-F.Text x))
form_mapped f (Expr-F.Comment x) = ap (outside GivesItems) (alone_mapped f (Expr-F.Comment x))
form_mapped f (Expr-F.Instruction n x) = ap (outside GivesItems) (alone_mapped f (Expr-F.Instruction n x))
form_mapped f (Expr-F.Step a t xs) = ap (outside GivesItems) (alone_mapped f (Expr-F.Step a t xs))
form_mapped f (Expr-F.Filter x xs) = ap (outside GivesItems) (alone_mapped f (Expr-F.Filter x xs))
form_mapped f (Expr-F.Path x xs) = ap (outside GivesItems) (alone_mapped f (Expr-F.Path x xs))
form_mapped f (Expr-F.Signed s x) = ap (outside GivesItems) (alone_mapped f (Expr-F.Signed s x))
form_mapped f (Expr-F.Chain x os) = ap (outside GivesItems) (alone_mapped f (Expr-F.Chain x os))
form_mapped f (Expr-F.Quantified q bs x) = ap (outside GivesItems) (alone_mapped f (Expr-F.Quantified q bs x))

past_end : {A : Type 0} (xs : List A) → xs ≡ xs ++ []
past_end [] = refl
past_end (x ∷ xs) = ap (λ ys. x ∷ ys) (past_end xs)

regroup : {A : Type 0} (xs ys zs : List A) → xs ++ (ys ++ zs) ≡ (xs ++ ys) ++ zs
regroup [] ys zs = refl
regroup (x ∷ xs) ys zs = ap (λ us. x ∷ us) (regroup xs ys zs)

-- the parts in their order
pub in_order : {A : Type 0} (x : Expr-F A) → parts_alone x ≡ (form_of x).before ++ ((form_of x).inner ++ (form_of x).after)
in_order (Expr-F.Sequence xs) = parts_under [] xs ∙ past_end xs
in_order (Expr-F.If x y z) = refl
in_order (Expr-F.Flwor cs o ks x) = parts_of_clauses [] cs (option_to_list o ++ keys ks ++ x ∷ []) ∙ regroup (map source_of cs) (option_to_list o ++ keys ks) (x ∷ [])
in_order (Expr-F.Insert x p y) = refl
in_order (Expr-F.Delete x) = refl
in_order (Expr-F.ReplaceNode x y) = refl
in_order (Expr-F.ReplaceValue x y) = refl
in_order (Expr-F.Rename x y) = refl
in_order (Expr-F.Copy bs x y) = parts_of_both (under [] (sources bs)) (under (variables_of bs) (x ∷ y ∷ []))
    ∙ ap (λ xs. xs ++ x ∷ y ∷ []) (parts_under [] (sources bs))
in_order (Expr-F.Integer n) = past_end (parts_alone (Expr-F.Integer n))
in_order (Expr-F.String n) = past_end (parts_alone (Expr-F.String n))
in_order (Expr-F.Variable n) = past_end (parts_alone (Expr-F.Variable n))
in_order Expr-F.Context = past_end (parts_alone Expr-F.Context)
in_order (Expr-F.Call g xs) = past_end (parts_alone (Expr-F.Call g xs))
in_order (Expr-F.Document x) = past_end (parts_alone (Expr-F.Document x))
in_order (Expr-F.Element n x) = past_end (parts_alone (Expr-F.Element n x))
in_order (Expr-F.Attribute n x) = past_end (parts_alone (Expr-F.Attribute n x))
in_order (Expr-F.Text x) = past_end (parts_alone (Expr-F.Text x))
in_order (Expr-F.Comment x) = past_end (parts_alone (Expr-F.Comment x))
in_order (Expr-F.Instruction n x) = past_end (parts_alone (Expr-F.Instruction n x))
in_order (Expr-F.Step a t xs) = past_end (parts_alone (Expr-F.Step a t xs))
in_order (Expr-F.Filter x xs) = past_end (parts_alone (Expr-F.Filter x xs))
in_order (Expr-F.Path x xs) = past_end (parts_alone (Expr-F.Path x xs))
in_order (Expr-F.Signed s x) = past_end (parts_alone (Expr-F.Signed s x))
in_order (Expr-F.Chain x os) = past_end (parts_alone (Expr-F.Chain x os))
in_order (Expr-F.Quantified q bs x) = past_end (parts_alone (Expr-F.Quantified q bs x))

-- the form of an expression
abbrev pub form : Expr → Form Expr
form x = form_of (out-Expr x)

-- an expression is judged by its parts
pub judged_out : (x : Expr) → judged x ≡ judged_form (map_form judged (form x))
unfolding judged
judged_out x = fold_out-Expr Judged (λ y. judged_form (form_of y)) x ∙ ap judged_form (form_mapped judged (out-Expr x))

pub children_in_order : (x : Expr) → children x ≡ (form x).before ++ ((form x).inner ++ (form x).after)
children_in_order x = in_order (out-Expr x)

-- the parts as they are judged
pub judged_in_order : (x : Expr) → map judged (children x) ≡ map judged (form x).before ++ (map judged (form x).inner ++ map judged (form x).after)
judged_in_order x = ap (map judged) (children_in_order x) ∙ map_both judged (form x).before ((form x).inner ++ (form x).after)
    ∙ ap (λ js. map judged (form x).before ++ js) (map_both judged (form x).inner (form x).after)
