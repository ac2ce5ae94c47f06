-- The steps of the search for a variable that is not bound.
use Rattle.std.proofs.Common.{◌≡◌, ℕ, zero, suc, ◌+◌, ◌<◌, Bool, true, false, List, [], ◌∷◌, get_or, take, drop, ◌++◌, length, slice_get, Some, None, ap, ap₂, subst, sym, ◌∙◌, arith}
use Rattle.std.specs.List.{list_any}
use Rattle.query_grammar.specs.declared.ast.Binding.{Binding}
use Rattle.query_grammar.specs.declared.ast.Expr.{Expr, out-Expr}
use Rattle.static_checks.specs.Inside.{children}
use Rattle.static_checks.specs.Parts.{Scope, parts, variables_of}
use Rattle.static_checks.specs.Scopes.{AreBound, Names, bound_after, bound_before, with_name, with_names}
use Rattle.static_checks.specs.Variables.{has_unbound, is_unbound}
use Rattle.static_checks.proofs.Bindings.{found_none, found_part, part_unbound, unbound_alike, unbound_out}
use Rattle.static_checks.proofs.Folds.{dropped}
use Rattle.static_checks.proofs.Passes.{any_past, found_here, found_in, not_here, not_in}
use Rattle.static_checks.proofs.Scopes.{more_bound, taken_back, with_both}

item_there : {A : Type 0} (xs : List A) (k : ℕ) (x : A) → k < length xs → x ≡ get_or xs k x → slice_get xs k ≡ Some x
item_there [] k x h is = absurd (omega (arith, h))
item_there (y ∷ ys) zero x h is = ap Some (sym is)
item_there (y ∷ ys) (suc k) x h is = item_there ys k x (omega (arith, h)) is

-- one binding more
pub one_binding : (bs : List (Binding Expr)) (k : ℕ) (b : Binding Expr) (names new whole : Names) → k < length bs → b ≡ get_or bs k b
    → new ≡ with_name b.variable names → with_names (variables_of (drop k bs)) names ≡ whole → with_names (variables_of (drop (k + 1) bs)) new ≡ whole
one_binding bs k b names new whole h there added is =
    let next : k + 1 ≡ suc k = omega arith in
    ap₂ (λ n ns. with_names (variables_of (drop n bs)) ns) next added
    ∙ sym (ap (λ cs. with_names (variables_of cs) names) (dropped bs k b (item_there bs k b h there)) ∙ with_both (variables_of (drop (suc k) bs)) (b.variable ∷ []) names) ∙ is

-- at the expression itself
module _ (x : Expr) (names : Names) (r : Bool) (is : r ≡ is_unbound (out-Expr x) names) (bound : Scope) (alike : AreBound names bound) where
  pub stands_here : r ≡ true → true ≡ has_unbound x bound
  stands_here t = found_here _ _ _ r (unbound_out x bound) (is ∙ unbound_alike x names bound alike) t

  pub none_here : r ≡ false → list_any (part_unbound bound) (parts (out-Expr x)) ≡ has_unbound x bound
  none_here t = not_here _ _ _ r (unbound_out x bound) (is ∙ unbound_alike x names bound alike) t

-- at the part of an index, where some names are bound for it
module _ (x : Expr) (names now : Names) (k : ℕ) (is : now ≡ with_names (bound_before (out-Expr x) k) names)
    (left : (bound : Scope) → AreBound names bound → list_any (part_unbound bound) (drop k (parts (out-Expr x))) ≡ has_unbound x bound) where
  pub stands_nowhere : None ≡ slice_get (children x) k → (bound : Scope) → AreBound names bound → false ≡ has_unbound x bound
  stands_nowhere e bound alike = sym (any_past (part_unbound bound) (parts (out-Expr x)) k (found_none x k e)) ∙ left bound alike

  pub all_taken_back : (outer : ℕ) → outer ≡ length names → take outer now ≡ names
  all_taken_back outer h = ap₂ take h is ∙ taken_back (bound_before (out-Expr x) k) names

  module _ (y : Expr) (there : Some y ≡ slice_get (children x) k) (r : Bool) (tells : (bound : Scope) → AreBound now bound → r ≡ has_unbound y bound) where
    in_part : (bound : Scope) → AreBound names bound → r ≡ has_unbound y (bound_before (out-Expr x) k ++ bound)
    in_part bound alike =
        let after : Scope = bound_before (out-Expr x) k ++ bound in
        tells after (subst (λ (ns : Names). AreBound ns after) (sym is) (more_bound (bound_before (out-Expr x) k) names bound alike))

    pub stands_in_part : r ≡ true → (bound : Scope) → AreBound names bound → true ≡ has_unbound x bound
    stands_in_part t bound alike =
        found_in (part_unbound bound) (parts (out-Expr x)) k (record { bound = bound_before (out-Expr x) k; part = y }) _ r
        (left bound alike) (sym (found_part x k y there)) (in_part bound alike) t

    pub none_in_part : r ≡ false → (bound : Scope) → AreBound names bound → list_any (part_unbound bound) (drop (k + 1) (parts (out-Expr x))) ≡ has_unbound x bound
    none_in_part t bound alike =
        not_in (part_unbound bound) (parts (out-Expr x)) k (record { bound = bound_before (out-Expr x) k; part = y }) _ r
        (left bound alike) (sym (found_part x k y there)) (in_part bound alike) t

  -- what is bound for the next part
  pub bound_next : (kept next : Names) → kept ≡ now → next ≡ with_names (bound_after (out-Expr x) k) kept → next ≡ with_names (bound_before (out-Expr x) (k + 1)) names
  bound_next kept next same added =
      let one : k + 1 ≡ suc k = omega arith in
      added ∙ ap (with_names (bound_after (out-Expr x) k)) (same ∙ is)
      ∙ sym (with_both (bound_after (out-Expr x) k) (bound_before (out-Expr x) k) names)
      ∙ ap (λ n. with_names (bound_before (out-Expr x) n) names) (sym one)
