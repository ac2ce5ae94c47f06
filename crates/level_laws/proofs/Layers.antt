-- Two rules for what expressions come to by their parts come to the same where they agree, on all layers or on those that are no copy.
use Rattle.std.proofs.Common.{◌≡◌, ℕ, false, List, [], ◌∷◌, ◌++◌, map, Some, None, refl, ap, ap₂, subst, sym, ◌∙◌}
use Rattle.std.proofs.lemmas.List.Elements.{All-nil, All-cons, All-head, All-tail}
use Rattle.std.specs.List.{All}
use Rattle.query_grammar.specs.declared.ast.Binding.{Binding}
use Rattle.query_grammar.specs.declared.ast.Clause.{Clause}
use Rattle.query_grammar.specs.declared.ast.Clause.TheVariants as clause
use Rattle.query_grammar.specs.declared.ast.Expr.{Expr, map-Expr, fold-Expr, out-Expr}
use Rattle.query_grammar.specs.declared.ast.Expr.TheFolds.{fold_out-Expr}
use Rattle.query_grammar.specs.declared.ast.Expr.TheOpen.{Expr-F}
use Rattle.query_grammar.specs.declared.ast.Name.TheVariants.{Written, Computed}
use Rattle.query_grammar.specs.declared.ast.Operation.{Operation}
use Rattle.query_grammar.specs.declared.ast.SortKey.{SortKey}
use Rattle.static_checks.specs.Inside.{children}
use Rattle.static_checks.specs.Parts.{Part, parts_alone, source_of, sources, operands, keys, under, variables_of}
use Rattle.static_checks.proofs.Folds.{parts_under, parts_of_bindings, parts_of_clauses, parts_of_both}
use Rattle.level_laws.specs.Copied.{is_copy, has_copy}
use Rattle.level_laws.proofs.Within.{copy_mapped, every, without}

module _ {A B : Type 0} (f g : A → B) where
  -- they give the same there
  abbrev Same : A → Type 0
  Same a = f a ≡ g a

  abbrev AreSame : List A → Type 0
  AreSame xs = All Same xs

  head : (x : A) (xs : List A) → AreSame (x ∷ xs) → Same x
  head x xs all = All-head Same x xs all

  tail : (x : A) (xs : List A) → AreSame (x ∷ xs) → AreSame xs
  tail x xs all = All-tail Same x xs all

  first_of : (xs ys : List A) → AreSame (xs ++ ys) → AreSame xs
  first_of [] ys all = All-nil Same
  first_of (x ∷ xs) ys all = All-cons Same x xs (head x (xs ++ ys) all) (first_of xs ys (tail x (xs ++ ys) all))

  rest_of : (xs ys : List A) → AreSame (xs ++ ys) → AreSame ys
  rest_of [] ys all = all
  rest_of (x ∷ xs) ys all = rest_of xs ys (tail x (xs ++ ys) all)

  same_all : (xs : List A) → AreSame xs → map f xs ≡ map g xs
  same_all [] all = refl
  same_all (x ∷ xs) all = ap₂ (λ y ys. y ∷ ys) (head x xs all) (same_all xs (tail x xs all))

  -- what stands inside each of a list
  same_each : {S T : Type 0} (u v : S → T) (part : S → A) → ((s : S) → Same (part s) → u s ≡ v s) → (ss : List S) → AreSame (map part ss) → map u ss ≡ map v ss
  same_each u v part same [] all = refl
  same_each u v part same (s ∷ ss) all = ap₂ (λ y ys. y ∷ ys) (same s (head (part s) (map part ss) all)) (same_each u v part same ss (tail (part s) (map part ss) all))

  -- a binding, a clause and a key of such an expression
  abbrev bound_to : Binding A → B → Binding B
  bound_to b x = record { variable = b.variable; source = x }

  same_binding : (b : Binding A) → Same b.source → bound_to b (f b.source) ≡ bound_to b (g b.source)
  same_binding b is = ap (bound_to b) is

  same_for : (b : Binding A) → Same b.source → clause.For (bound_to b (f b.source)) ≡ clause.For (bound_to b (g b.source))
  same_for b is = ap (λ x. clause.For (bound_to b x)) is

  same_at : (b : Binding A) (at : List ℕ) → Same b.source → clause.ForAt (bound_to b (f b.source)) at ≡ clause.ForAt (bound_to b (g b.source)) at
  same_at b at is = ap (λ x. clause.ForAt (bound_to b x) at) is

  same_let : (b : Binding A) → Same b.source → clause.Let (bound_to b (f b.source)) ≡ clause.Let (bound_to b (g b.source))
  same_let b is = ap (λ x. clause.Let (bound_to b x)) is

  abbrev sorted_by : SortKey A → B → SortKey B
  sorted_by s x = record { key = x; is_descending = s.is_descending }

  same_key : (s : SortKey A) → Same s.key → sorted_by s (f s.key) ≡ sorted_by s (g s.key)
  same_key s is = ap (sorted_by s) is

  -- the same of clauses, by their bindings
  same_clauses : (u v : Clause A → Clause B) → ((b : Binding A) → Same b.source → u (clause.For b) ≡ v (clause.For b)) → ((b : Binding A) (at : List ℕ) → Same b.source → u (clause.ForAt b at) ≡ v (clause.ForAt b at))
      → ((b : Binding A) → Same b.source → u (clause.Let b) ≡ v (clause.Let b)) → (cs : List (Clause A)) → AreSame (map source_of cs) → map u cs ≡ map v cs
  same_clauses u v for at let_ = same_each u v source_of is
    where
      is : (c : Clause A) → Same (source_of c) → u c ≡ v c
      is (clause.For b) = for b
      is (clause.ForAt b x) = at b x
      is (clause.Let b) = let_ b

  abbrev Alike : (x : Expr-F A) → Type 0
  Alike x = map-Expr A B f x ≡ map-Expr A B g x

  -- one part, or two
  one : (x : A) → AreSame (x ∷ []) → Same x
  one x all = head x [] all

  two : (x y : A) → AreSame (x ∷ y ∷ []) → Same x × Same y
  two x y all = (head x (y ∷ []) all, one y (tail x (y ∷ []) all))

  -- a list of them, and one and a list
  list : (xs : List A) → AreSame (map (λ (p : Part A). p.part) (under [] xs)) → map f xs ≡ map g xs
  list xs all = same_all xs (subst AreSame (parts_under [] xs) all)

  one_and_list : (x : A) (xs : List A) → AreSame (map (λ (p : Part A). p.part) (under [] (x ∷ xs))) → Same x × AreSame xs
  one_and_list x xs all = let is = subst AreSame (parts_under [] (x ∷ xs)) all in (head x xs is, tail x xs is)

  bindings_and : (bs : List (Binding A)) (xs : List A) → AreSame (sources bs ++ xs) → AreSame (sources bs) × AreSame xs
  bindings_and bs xs all = (first_of (sources bs) xs all, rest_of (sources bs) xs all)

  copied : (bs : List (Binding A)) (x y : A) → AreSame (parts_alone (Expr-F.Copy bs x y)) → AreSame (sources bs ++ x ∷ y ∷ [])
  copied bs x y all = subst AreSame
      (parts_of_both (under [] (sources bs)) (under (variables_of bs) (x ∷ y ∷ [])) ∙ ap (λ xs. xs ++ x ∷ y ∷ []) (parts_under [] (sources bs))) all

  -- where they give the same on each part, they do on the whole
  pub layer : (x : Expr-F A) → AreSame (parts_alone x) → Alike x
  layer (Expr-F.Integer n) all = refl
  layer (Expr-F.String text) all = refl
  layer (Expr-F.Variable x) all = refl
  layer Expr-F.Context all = refl
  layer (Expr-F.Sequence xs) all = ap Expr-F.Sequence (list xs all)
  layer (Expr-F.Call called xs) all = ap (Expr-F.Call called) (list xs all)
  layer (Expr-F.Document x) all = ap Expr-F.Document (one x all)
  layer (Expr-F.Element (Written n) x) all = ap (Expr-F.Element (Written n)) (one x all)
  layer (Expr-F.Element (Computed n) x) all = let both = two n x all in ap₂ (λ u v. Expr-F.Element (Computed u) v) both.0 both.1
  layer (Expr-F.Attribute (Written n) x) all = ap (Expr-F.Attribute (Written n)) (one x all)
  layer (Expr-F.Attribute (Computed n) x) all = let both = two n x all in ap₂ (λ u v. Expr-F.Attribute (Computed u) v) both.0 both.1
  layer (Expr-F.Text x) all = ap Expr-F.Text (one x all)
  layer (Expr-F.Comment x) all = ap Expr-F.Comment (one x all)
  layer (Expr-F.Instruction (Written n) x) all = ap (Expr-F.Instruction (Written n)) (one x all)
  layer (Expr-F.Instruction (Computed n) x) all = let both = two n x all in ap₂ (λ u v. Expr-F.Instruction (Computed u) v) both.0 both.1
  layer (Expr-F.Step axis test xs) all = ap (Expr-F.Step axis test) (list xs all)
  layer (Expr-F.Filter x xs) all = let both = one_and_list x xs all in ap₂ Expr-F.Filter both.0 (same_all xs both.1)
  layer (Expr-F.Path x xs) all = let both = one_and_list x xs all in ap₂ Expr-F.Path both.0 (same_all xs both.1)
  layer (Expr-F.Signed signs x) all = ap (Expr-F.Signed signs) (one x all)
  layer (Expr-F.Chain x os) all =
      let both = one_and_list x (operands os) all in
      ap₂ Expr-F.Chain both.0 (same_each _ _ (λ (o : Operation A). o.operand) (λ o is. ap (λ z. record { operator = o.operator; operand = z }) is) os both.1)
  layer (Expr-F.If c x y) all =
      let both = two x y (tail c (x ∷ y ∷ []) all) in
      ap₂ (λ k z. k z) (ap₂ Expr-F.If (head c (x ∷ y ∷ []) all) both.0) both.1
  layer (Expr-F.Quantified q bs x) all =
      let both = bindings_and bs (x ∷ []) (subst AreSame (parts_of_bindings [] bs (x ∷ [])) all) in
      ap₂ (Expr-F.Quantified q) (same_each _ _ (λ (b : Binding A). b.source) same_binding bs both.0) (one x both.1)
  layer (Expr-F.Flwor cs None ks x) all =
      let others = subst AreSame (parts_of_clauses [] cs (keys ks ++ x ∷ [])) all in
      let more = rest_of (map source_of cs) (keys ks ++ x ∷ []) others in
      ap₂ (λ k z. k z)
      (ap₂ (λ us ws. Expr-F.Flwor us None ws)
      (same_clauses _ _ same_for same_at same_let cs (first_of (map source_of cs) (keys ks ++ x ∷ []) others))
      (same_each _ _ (λ (s : SortKey A). s.key) same_key ks (first_of (keys ks) (x ∷ []) more)))
      (one x (rest_of (keys ks) (x ∷ []) more))
  layer (Expr-F.Flwor cs (Some t) ks x) all =
      let others = subst AreSame (parts_of_clauses [] cs (t ∷ (keys ks ++ x ∷ []))) all in
      let after = rest_of (map source_of cs) (t ∷ (keys ks ++ x ∷ [])) others in
      let more = tail t (keys ks ++ x ∷ []) after in
      ap₂ (λ k z. k z)
      (ap₂ (λ k z. k z)
      (ap₂ (λ us w. Expr-F.Flwor us (Some w))
      (same_clauses _ _ same_for same_at same_let cs (first_of (map source_of cs) (t ∷ (keys ks ++ x ∷ [])) others))
      (head t (keys ks ++ x ∷ []) after))
      (same_each _ _ (λ (s : SortKey A). s.key) same_key ks (first_of (keys ks) (x ∷ []) more)))
      (one x (rest_of (keys ks) (x ∷ []) more))
  layer (Expr-F.Insert x place y) all = let both = two x y all in ap₂ (λ u v. Expr-F.Insert u place v) both.0 both.1
  layer (Expr-F.Delete x) all = ap Expr-F.Delete (one x all)
  layer (Expr-F.ReplaceNode x y) all = let both = two x y all in ap₂ Expr-F.ReplaceNode both.0 both.1
  layer (Expr-F.ReplaceValue x y) all = let both = two x y all in ap₂ Expr-F.ReplaceValue both.0 both.1
  layer (Expr-F.Rename x y) all = let both = two x y all in ap₂ Expr-F.Rename both.0 both.1
  layer (Expr-F.Copy bs x y) all =
      let both = bindings_and bs (x ∷ y ∷ []) (copied bs x y all) in
      let last = two x y both.1 in
      ap₂ (λ k z. k z)
      (ap₂ Expr-F.Copy (same_each _ _ (λ (b : Binding A). b.source) same_binding bs both.0) last.0)
      last.1

-- two rules
module _ {A : Type 0} (p q : Expr-F A → A) where
  abbrev SameFold : Expr → Type 0
  SameFold x = fold-Expr A p x ≡ fold-Expr A q x

  by_layer : (x : Expr) → ((y : Expr-F A) → is_copy y ≡ is_copy (out-Expr x) → p y ≡ q y) → All SameFold (children x) → SameFold x
  by_layer x agree all =
      fold_out-Expr A p x
      ∙ ap p (layer (fold-Expr A p) (fold-Expr A q) (out-Expr x) all)
      ∙ agree (map-Expr Expr A (fold-Expr A q) (out-Expr x)) (copy_mapped (fold-Expr A q) (out-Expr x))
      ∙ sym (fold_out-Expr A q x)

  -- which agree on all layers
  pub same_folds : ((y : Expr-F A) → p y ≡ q y) → (x : Expr) → SameFold x
  same_folds agree = every SameFold (λ x all. by_layer x (λ y is. agree y) all)

  -- which agree on those that are no copy
  pub same_without : ((y : Expr-F A) → is_copy y ≡ false → p y ≡ q y) → (x : Expr) → has_copy x ≡ false → SameFold x
  same_without agree = without SameFold (λ x none all. by_layer x (λ y is. agree y (is ∙ none)) all)
