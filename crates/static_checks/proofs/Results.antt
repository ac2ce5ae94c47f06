-- What the results of an expression come to.
use Rattle.std.proofs.Common.{◌≡◌, ℕ, suc, ◌+◌, Bool, true, false, ◌||◌, if◌then◌else◌, List, [], ◌∷◌, ◌++◌, map, length, drop, slice_get, Some, None, refl, ap, ap₂, sym, ◌∙◌, arith}
use Rattle.std.specs.List.{list_any}
use Rattle.query_grammar.specs.declared.ast.Expr.{Expr}
use Rattle.static_checks.specs.Categories.{Judged, judged, is_updating, is_simple, categories, category_of, joined}
use Rattle.static_checks.specs.Inside.{children}
use Rattle.static_checks.specs.declared.categories.Category.{Category}
use Rattle.static_checks.specs.declared.categories.Category.TheVariants.{Updating, Vacuous, Simple}
use Rattle.static_checks.specs.declared.categories.Own.{Own}
use Rattle.static_checks.specs.declared.categories.Own.TheVariants.{OfResults}
use Rattle.static_checks.proofs.Folds.{dropped, ended, or_more}
use Rattle.static_checks.proofs.Forms.{form, judged_out, children_in_order}

-- the category of an expression
abbrev own_category : Expr → Category
own_category x = (judged x).category

-- parts whose values are put together, where a simple one came before or not
abbrev pub joined_with : (simple : Bool) → List Expr → Category
joined_with simple xs = if list_any is_updating (map own_category xs) then Updating else (if simple || list_any is_simple (map own_category xs) then Simple else Vacuous)

-- the category, from where it comes
pub by_own : (x : Expr) (own : Own) → own ≡ (form x).own → (judged x).category ≡ category_of own (categories (map judged (form x).inner))
by_own x own same = ap (λ (j : Judged). j.category) (judged_out x) ∙ ap (λ o. category_of o (categories (map judged (form x).inner))) (sym same)

through : (xs : List Expr) → categories (map judged xs) ≡ map own_category xs
through [] = refl
through (x ∷ xs) = ap (λ cs. own_category x ∷ cs) (through xs)

past_before : {A : Type 0} (bs is : List A) → drop (length bs) (bs ++ (is ++ [])) ≡ is
past_before [] [] = refl
past_before [] (i ∷ is) = ap (λ xs. i ∷ xs) (past_before [] is)
past_before (b ∷ bs) is = past_before bs is

-- the results are the parts from the first inner one on
pub results_from : (x : Expr) (from : ℕ) → from ≡ length (form x).before → (form x).after ≡ [] → drop from (children x) ≡ (form x).inner
results_from x from at none =
    ap₂ (λ n xs. drop n xs) at (children_in_order x ∙ ap (λ ys. (form x).before ++ ((form x).inner ++ ys)) none) ∙ past_before (form x).before (form x).inner

-- where the category comes from the results
pub begins : (x : Expr) (own : Own) (from : ℕ) → own ≡ (form x).own → own ≡ OfResults → from ≡ length (form x).before → (form x).after ≡ []
    → joined_with false (drop from (children x)) ≡ (judged x).category
begins x own from same results at none =
    ap (joined_with false) (results_from x from at none)
    ∙ sym (by_own x OfResults (sym results ∙ same) ∙ ap joined (through (form x).inner))

module _ (x : Expr) (k : ℕ) (simple : Bool) (left : joined_with simple (drop k (children x)) ≡ (judged x).category) where
  pub ends : None ≡ slice_get (children x) k → (if simple then Simple else Vacuous) ≡ (judged x).category
  ends h = one simple refl ∙ ap (joined_with simple) (sym (ended (children x) k h)) ∙ left
    where
      one : (b : Bool) → simple ≡ b → (if simple then Simple else Vacuous) ≡ joined_with simple []
      one true h = ap (λ b. if b then Simple else Vacuous) h ∙ sym (ap (λ b. joined_with b []) h)
      one false h = ap (λ b. if b then Simple else Vacuous) h ∙ sym (ap (λ b. joined_with b []) h)

  module _ (y : Expr) (there : Some y ≡ slice_get (children x) k) (c : Category) (is : c ≡ (judged y).category) where
    stepped : joined_with simple (y ∷ drop (suc k) (children x)) ≡ (judged x).category
    stepped = ap (joined_with simple) (sym (dropped (children x) k y (sym there))) ∙ left

    with_category : (if is_updating c || list_any is_updating (map own_category (drop (suc k) (children x))) then Updating
        else (if simple || (is_simple c || list_any is_simple (map own_category (drop (suc k) (children x)))) then Simple else Vacuous)) ≡ (judged x).category
    with_category = ap (λ d. if is_updating d || list_any is_updating (map own_category (drop (suc k) (children x))) then Updating
        else (if simple || (is_simple d || list_any is_simple (map own_category (drop (suc k) (children x)))) then Simple else Vacuous)) is ∙ stepped

    next : (s : Bool) → joined_with s (drop (k + 1) (children x)) ≡ joined_with s (drop (suc k) (children x))
    next s = let n : k + 1 ≡ suc k = omega arith in ap (λ i. joined_with s (drop i (children x))) n

    pub updates : (r : Bool) → r ≡ is_updating c → r ≡ true → Updating ≡ (judged x).category
    updates r same h = sym (ap (λ u. if u || list_any is_updating (map own_category (drop (suc k) (children x))) then Updating
        else (if simple || (is_simple c || list_any is_simple (map own_category (drop (suc k) (children x)))) then Simple else Vacuous)) (sym same ∙ h)) ∙ with_category

    pub goes_on : (r s : Bool) → r ≡ is_updating c → r ≡ false → s ≡ simple || is_simple c → joined_with s (drop (k + 1) (children x)) ≡ (judged x).category
    goes_on r s same h more =
        next s
        ∙ ap (λ b. if list_any is_updating (map own_category (drop (suc k) (children x))) then Updating else (if b then Simple else Vacuous))
        (ap (λ b. b || list_any is_simple (map own_category (drop (suc k) (children x)))) more ∙ or_more simple (is_simple c) (list_any is_simple (map own_category (drop (suc k) (children x)))))
        ∙ sym (ap (λ u. if u || list_any is_updating (map own_category (drop (suc k) (children x))) then Updating
        else (if simple || (is_simple c || list_any is_simple (map own_category (drop (suc k) (children x)))) then Simple else Vacuous)) (sym same ∙ h)) ∙ with_category
