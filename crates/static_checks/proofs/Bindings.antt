-- What an expression binds for each of its parts.
use Rattle.std.proofs.Common.{◌≡◌, ℕ, zero, suc, ◌<◌, ◌≤◌, ◌-◌, ◌==◌, Bool, true, false, not, ◌||◌, if◌then◌else◌, List, [], ◌∷◌, ◌++◌, map, length, slice_get, Some, None, option_to_list, ⊎_elim, refl, ap, ap₂, sym, ◌∙◌, arith}
use Rattle.std.proofs.lemmas.Bool.{eq-eqb, ne_eqb, cases_lt}
use Rattle.std.proofs.lemmas.List.{append-nil, append_assoc}
use Rattle.std.proofs.lemmas.Option.{none-some, same_Some}
use Rattle.std.specs.List.{list_any}
use Rattle.query_grammar.specs.declared.ast.Expr.{Expr, map-Expr, out-Expr}
use Rattle.query_grammar.specs.declared.ast.Expr.TheOpen.{Expr-F}
use Rattle.query_grammar.specs.declared.ast.Expr.TheFolds.{fold_out-Expr}
use Rattle.query_grammar.specs.declared.ast.Binding.{Binding}
use Rattle.query_grammar.specs.declared.ast.Clause.{Clause}
use Rattle.static_checks.specs.Inside.{children}
use Rattle.static_checks.specs.Parts.{Part, Scope, parts, under, clauses_then, bindings_then, bound_by, sources, variables_of, keys, name_parts, operands}
use Rattle.static_checks.specs.Scopes.{AreBound, all_before, bound_before, of_binding, of_clause}
use Rattle.static_checks.specs.Variables.{has_unbound, is_unbound, unbound_step}
use Rattle.static_checks.proofs.Folds.{get_left, get_right, length_mapped}
use Rattle.static_checks.proofs.Mapped.{mapped, parts_mapped}
use Rattle.static_checks.proofs.Passes.{any_map}

nothing_there : {A : Type 0} (k : ℕ) → slice_get {X = A} [] k ≡ None
nothing_there zero = refl
nothing_there (suc k) = refl

none_before : (f : ℕ → Scope) → ((i : ℕ) → f i ≡ []) → (k : ℕ) → all_before f k ≡ []
none_before f none zero = refl
none_before f none (suc k) = ap₂ (λ xs ys. xs ++ ys) (none k) (none_before f none k)

-- the first one apart
shifted : (f g : ℕ → Scope) (first : Scope) → f 0 ≡ first → ((i : ℕ) → f (suc i) ≡ g i) → (k : ℕ) → all_before f (suc k) ≡ all_before g k ++ first
shifted f g first at next zero = append-nil (f 0) ∙ at
shifted f g first at next (suc k) = ap₂ (λ xs ys. xs ++ ys) (next k) (shifted f g first at next k) ∙ sym (append_assoc (g k) (all_before g k) first)

of_under : {A : Type 0} (bound : Scope) (xs : List A) (k : ℕ) (p : Part A) → slice_get (under bound xs) k ≡ Some p → p.bound ≡ bound
of_under bound [] k p h = absurd (none-some p (sym (nothing_there k) ∙ h))
of_under bound (x ∷ xs) zero p h = ap (λ (q : Part _). q.bound) (sym (same_Some _ p h))
of_under bound (x ∷ xs) (suc k) p h = of_under bound xs k p h

-- of clauses and of bindings, where some variables are bound before them
of_clauses : {A : Type 0} (bound : Scope) (cs : List (Clause A)) (others : List A) (k : ℕ) (p : Part A) → slice_get (clauses_then bound cs others) k ≡ Some p
    → p.bound ≡ all_before (λ i. of_clause (slice_get cs i)) k ++ bound
of_clauses {A = A} bound [] others k p h = of_under bound others k p h ∙ ap (λ xs. xs ++ bound) (sym (none_before _ (λ i. ap (of_clause {A = A}) (nothing_there i)) k))
of_clauses bound (c ∷ cs) others zero p h = ap (λ (q : Part _). q.bound) (sym (same_Some _ p h))
of_clauses bound (c ∷ cs) others (suc k) p h =
    of_clauses (bound_by c ++ bound) cs others k p h
    ∙ sym (append_assoc (all_before (λ i. of_clause (slice_get cs i)) k) (bound_by c) bound)
    ∙ ap (λ xs. xs ++ bound) (sym (shifted (λ i. of_clause (slice_get (c ∷ cs) i)) (λ i. of_clause (slice_get cs i)) (bound_by c) refl (λ i. refl) k))

of_bindings : {A : Type 0} (bound : Scope) (bs : List (Binding A)) (others : List A) (k : ℕ) (p : Part A) → slice_get (bindings_then bound bs others) k ≡ Some p
    → p.bound ≡ all_before (λ i. of_binding (slice_get bs i)) k ++ bound
of_bindings {A = A} bound [] others k p h = of_under bound others k p h ∙ ap (λ xs. xs ++ bound) (sym (none_before _ (λ i. ap (of_binding {A = A}) (nothing_there i)) k))
of_bindings bound (b ∷ bs) others zero p h = ap (λ (q : Part _). q.bound) (sym (same_Some _ p h))
of_bindings bound (b ∷ bs) others (suc k) p h =
    of_bindings (b.variable ∷ bound) bs others k p h
    ∙ sym (append_assoc (all_before (λ i. of_binding (slice_get bs i)) k) (b.variable ∷ []) bound)
    ∙ ap (λ xs. xs ++ bound) (sym (shifted (λ i. of_binding (slice_get (b ∷ bs) i)) (λ i. of_binding (slice_get bs i)) (b.variable ∷ []) refl (λ i. refl) k))

-- of a copy: all its variables, from its bindings' end on
abbrev at_end : (n : ℕ) → Scope → ℕ → Scope
at_end n xs i = if suc i == n then xs else []

before_end : (n : ℕ) (xs : Scope) (k : ℕ) → k < n → all_before (at_end n xs) k ≡ []
before_end n xs zero h = refl
before_end n xs (suc k) h =
    ap₂ (λ b ys. (if b then xs else []) ++ ys) (ne_eqb (suc k) n (λ e. omega (arith, e, h))) (before_end n xs k (omega (arith, h)))

past_end : (m : ℕ) (xs : Scope) (k : ℕ) → suc m ≤ k → all_before (at_end (suc m) xs) k ≡ xs
past_end m xs zero h = absurd (omega (arith, h))
past_end m xs (suc k) h = ⊎_elim
    (λ l. ap₂ (λ b ys. (if b then xs else []) ++ ys) (eq-eqb (suc k) (suc m) (omega (arith, l, h))) (before_end (suc m) xs k l) ∙ append-nil xs)
    (λ l. ap₂ (λ b ys. (if b then xs else []) ++ ys) (ne_eqb (suc k) (suc m) (λ e. omega (arith, e, l))) (past_end m xs k l))
    (cases_lt k (suc m))

either_way : (b : Bool) → (if b then [] else []) ≡ (let xs : Scope = [] in xs)
either_way true = refl
either_way false = refl

past_bindings : {A : Type 0} (bs : List (Binding A)) (k : ℕ) → length bs ≤ k → all_before (at_end (length bs) (variables_of bs)) k ≡ variables_of bs
past_bindings [] k h = none_before (at_end 0 []) (λ i. either_way (suc i == 0)) k
past_bindings (b ∷ bs) k h = past_end (length bs) (variables_of (b ∷ bs)) k h

of_copy : {A : Type 0} (bs : List (Binding A)) (xs : List A) (k : ℕ) (p : Part A) → slice_get (under [] (sources bs) ++ under (variables_of bs) xs) k ≡ Some p
    → p.bound ≡ all_before (at_end (length bs) (variables_of bs)) k
of_copy bs xs k p h =
    let n : length (under [] (sources bs)) ≡ length bs = length_mapped _ (sources bs) ∙ length_mapped _ bs in
    ⊎_elim
    (λ l. of_under [] (sources bs) k p (sym (get_left (under [] (sources bs)) (under (variables_of bs) xs) k (omega (arith, l, n))) ∙ h)
    ∙ sym (before_end (length bs) (variables_of bs) k l))
    (λ l. of_under (variables_of bs) xs (k - length (under [] (sources bs))) p (sym (get_right (under [] (sources bs)) (under (variables_of bs) xs) k (omega (arith, l, n))) ∙ h)
    ∙ sym (past_bindings bs k l))
    (cases_lt k (length bs))

-- of a form that binds nothing
of_others : {A : Type 0} (f : ℕ → Scope) → ((i : ℕ) → f i ≡ []) → (xs : List A) (k : ℕ) (p : Part A) → slice_get (under [] xs) k ≡ Some p → p.bound ≡ all_before f k
of_others f none xs k p h = of_under [] xs k p h ∙ sym (none_before f none k)

-- what is bound for a part
pub bound_for : {A : Type 0} (x : Expr-F A) (k : ℕ) (p : Part A) → slice_get (parts x) k ≡ Some p → p.bound ≡ bound_before x k
bound_for (Expr-F.Quantified q bs x) k p h = of_bindings [] bs (x ∷ []) k p h ∙ append-nil _
bound_for (Expr-F.Flwor cs o ks x) k p h = of_clauses [] cs (option_to_list o ++ keys ks ++ x ∷ []) k p h ∙ append-nil _
bound_for (Expr-F.Copy bs x y) k p h = of_copy bs (x ∷ y ∷ []) k p h
bound_for (Expr-F.Integer n) k p h = of_others _ (λ i. refl) [] k p h
bound_for (Expr-F.String n) k p h = of_others _ (λ i. refl) [] k p h
bound_for (Expr-F.Variable n) k p h = of_others _ (λ i. refl) [] k p h
bound_for Expr-F.Context k p h = of_others _ (λ i. refl) [] k p h
bound_for (Expr-F.Sequence xs) k p h = of_others _ (λ i. refl) xs k p h
bound_for (Expr-F.Call g xs) k p h = of_others _ (λ i. refl) xs k p h
bound_for (Expr-F.Document x) k p h = of_others _ (λ i. refl) (x ∷ []) k p h
bound_for (Expr-F.Element n x) k p h = of_others _ (λ i. refl) (name_parts n ++ x ∷ []) k p h
bound_for (Expr-F.Attribute n x) k p h = of_others _ (λ i. refl) (name_parts n ++ x ∷ []) k p h
bound_for (Expr-F.Text x) k p h = of_others _ (λ i. refl) (x ∷ []) k p h
bound_for (Expr-F.Comment x) k p h = of_others _ (λ i. refl) (x ∷ []) k p h
bound_for (Expr-F.Instruction n x) k p h = of_others _ (λ i. refl) (name_parts n ++ x ∷ []) k p h
bound_for (Expr-F.Step a t xs) k p h = of_others _ (λ i. refl) xs k p h
bound_for (Expr-F.Filter x xs) k p h = of_others _ (λ i. refl) (x ∷ xs) k p h
bound_for (Expr-F.Path x xs) k p h = of_others _ (λ i. refl) (x ∷ xs) k p h
bound_for (Expr-F.Signed s x) k p h = of_others _ (λ i. refl) (x ∷ []) k p h
bound_for (Expr-F.Chain x os) k p h = of_others _ (λ i. refl) (x ∷ operands os) k p h
bound_for (Expr-F.If x y z) k p h = of_others _ (λ i. refl) (x ∷ y ∷ z ∷ []) k p h
bound_for (Expr-F.Insert x l y) k p h = of_others _ (λ i. refl) (x ∷ y ∷ []) k p h
bound_for (Expr-F.Delete x) k p h = of_others _ (λ i. refl) (x ∷ []) k p h
bound_for (Expr-F.ReplaceNode x y) k p h = of_others _ (λ i. refl) (x ∷ y ∷ []) k p h
bound_for (Expr-F.ReplaceValue x y) k p h = of_others _ (λ i. refl) (x ∷ y ∷ []) k p h
bound_for (Expr-F.Rename x y) k p h = of_others _ (λ i. refl) (x ∷ y ∷ []) k p h

-- the same variable, under a function on the parts, and where as much is bound
unbound_mapped : {A B : Type 0} (f : A → B) (x : Expr-F A) (names bound : Scope) → AreBound names bound → is_unbound (map-Expr A B f x) names ≡ is_unbound x bound
unbound_mapped f (Expr-F.Variable n) names bound h = ap not (h n)
unbound_mapped f (Expr-F.Integer n) names bound h = refl
unbound_mapped f (Expr-F.String n) names bound h = refl
unbound_mapped f Expr-F.Context names bound h = refl
unbound_mapped f (Expr-F.Sequence xs) names bound h = refl
unbound_mapped f (Expr-F.Call g xs) names bound h = refl
unbound_mapped f (Expr-F.Document x) names bound h = refl
unbound_mapped f (Expr-F.Element n x) names bound h = refl
unbound_mapped f (Expr-F.Attribute n x) names bound h = refl
unbound_mapped f (Expr-F.Text x) names bound h = refl
unbound_mapped f (Expr-F.Comment x) names bound h = refl
unbound_mapped f (Expr-F.Instruction n x) names bound h = refl
unbound_mapped f (Expr-F.Step a t xs) names bound h = refl
unbound_mapped f (Expr-F.Filter x xs) names bound h = refl
unbound_mapped f (Expr-F.Path x xs) names bound h = refl
unbound_mapped f (Expr-F.Signed s x) names bound h = refl
unbound_mapped f (Expr-F.Chain x os) names bound h = refl
unbound_mapped f (Expr-F.If x y z) names bound h = refl
unbound_mapped f (Expr-F.Quantified q bs x) names bound h = refl
unbound_mapped f (Expr-F.Flwor cs o ks x) names bound h = refl
unbound_mapped f (Expr-F.Insert x p y) names bound h = refl
unbound_mapped f (Expr-F.Delete x) names bound h = refl
unbound_mapped f (Expr-F.ReplaceNode x y) names bound h = refl
unbound_mapped f (Expr-F.ReplaceValue x y) names bound h = refl
unbound_mapped f (Expr-F.Rename x y) names bound h = refl
unbound_mapped f (Expr-F.Copy bs x y) names bound h = refl

pub unbound_alike : (x : Expr) (names bound : Scope) → AreBound names bound → is_unbound (out-Expr x) names ≡ is_unbound (out-Expr x) bound
unbound_alike x names bound h = sym (unbound_mapped has_unbound (out-Expr x) names names (λ v. refl)) ∙ unbound_mapped has_unbound (out-Expr x) names bound h

-- a part has a variable that is not bound where these are bound
abbrev pub part_unbound : Scope → Part Expr → Bool
part_unbound bound p = has_unbound p.part (p.bound ++ bound)

-- a variable is not bound here or in a part
pub unbound_out : (x : Expr) (bound : Scope) → has_unbound x bound ≡ is_unbound (out-Expr x) bound || list_any (part_unbound bound) (parts (out-Expr x))
unfolding has_unbound
unbound_out x bound =
    ap (λ (f : Scope → Bool). f bound) (fold_out-Expr (Scope → Bool) unbound_step x)
    ∙ ap₂ (λ a b. a || b) (unbound_mapped has_unbound (out-Expr x) bound bound (λ v. refl))
    (ap (list_any (λ (p : Part (Scope → Bool)). p.part (p.bound ++ bound))) (parts_mapped has_unbound (out-Expr x))
    ∙ any_map (λ (p : Part (Scope → Bool)). p.part (p.bound ++ bound)) (mapped has_unbound) (parts (out-Expr x)))

-- a part with what is bound for it, by its index
part_there : {A : Type 0} (ps : List (Part A)) (k : ℕ) (y : A) → Some y ≡ slice_get (map (λ (p : Part A). p.part) ps) k → (p : Part A) × (slice_get ps k ≡ Some p) × (p.part ≡ y)
part_there [] zero y h = absurd (none-some y (sym h))
part_there [] (suc k) y h = absurd (none-some y (sym h))
part_there (p ∷ ps) zero y h = (p, refl, same_Some p.part y (sym h))
part_there (p ∷ ps) (suc k) y h = part_there ps k y h

pub found_part : (x : Expr) (k : ℕ) (y : Expr) → Some y ≡ slice_get (children x) k → slice_get (parts (out-Expr x)) k ≡ Some (record { bound = bound_before (out-Expr x) k; part = y })
found_part x k y h =
    let there : (p : Part Expr) × (slice_get (parts (out-Expr x)) k ≡ Some p) × (p.part ≡ y) = part_there (parts (out-Expr x)) k y h in
    there.1 ∙ ap₂ (λ b z. Some (record { bound = b; part = z })) (bound_for (out-Expr x) k there.0 there.1) there.2

no_part : {A : Type 0} (ps : List (Part A)) (k : ℕ) → None ≡ slice_get (map (λ (p : Part A). p.part) ps) k → slice_get ps k ≡ None
no_part [] k h = nothing_there k
no_part (p ∷ ps) zero h = absurd (none-some p.part h)
no_part (p ∷ ps) (suc k) h = no_part ps k h

pub found_none : (x : Expr) (k : ℕ) → None ≡ slice_get (children x) k → slice_get (parts (out-Expr x)) k ≡ None
found_none x k h = no_part (parts (out-Expr x)) k h
