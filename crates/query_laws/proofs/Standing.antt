-- What the passes over an expression say of each expression within it.
use Rattle.std.proofs.Common.{◌≡◌, ℕ, zero, suc, Bool, true, false, not, ◌||◌, List, [], ◌∷◌, ◌++◌, map, length, slice_get, is_some, Option, Some, None, refl, subst, ap, sym, ◌∙◌, rules}
use Rattle.std.proofs.lemmas.List.Folds.{list_any-append}
use Rattle.std.proofs.lemmas.Option.{none-some, same_Some}
use Rattle.std.specs.List.{list_any}
use Rattle.query_grammar.specs.declared.ast.Expr.{Expr, out-Expr}
use Rattle.query_grammar.specs.declared.ast.Expr.TheVariants as e
use Rattle.query_grammar.specs.declared.ast.Expr.TheViews.{the_lemmas}
use Rattle.query_grammar.specs.declared.ast.Expr.TheOpen.{Expr-F}
use Rattle.query_grammar.specs.declared.functions.Function.{Function}
use Rattle.query_grammar.specs.Functions.{takes}
use Rattle.static_checks.specs.Categories.{Form, Judged, judged, is_faulty, may_not_stand, categories, category_of, inner_fault}
use Rattle.static_checks.specs.Functions.{is_unknown_call, has_unknown_call}
use Rattle.static_checks.specs.Inside.{children}
use Rattle.static_checks.specs.Static.{IsExpression}
use Rattle.static_checks.proofs.Faults.{faulty_form, none_is}
use Rattle.static_checks.proofs.Forms.{map_form, judged_out, children_in_order}
use Rattle.static_checks.proofs.Here.{unknown_out}
use Rattle.static_checks.proofs.Passes.{any_map}
use Rattle.query_laws.specs.Saying.{TakesSoMany, SaysWell}
use Rattle.query_laws.specs.Standing.{StandsIn, Itself, InPart, IsPlaced, category, updates, form}
use Rattle.query_laws.proofs.Saying.{words}

neither : (a b : Bool) → a || b ≡ false → (a ≡ false) × (b ≡ false)
neither true b h = absurd (let f : ⊥ = cc in f)
neither false b h = (refl, h)

both_false : (a b : Bool) → a ≡ false → b ≡ false → a || b ≡ false
both_false a b h g = ap (λ t. t || b) h ∙ g

element : {A : Type 0} (p : A → Bool) (xs : List A) (k : ℕ) (y : A) → slice_get xs k ≡ Some y → list_any p xs ≡ false → p y ≡ false
element p [] k y h none = absurd (none-some y h)
element p (x ∷ xs) zero y h none = ap p (sym (same_Some x y h)) ∙ (neither (p x) (list_any p xs) none).0
element p (x ∷ xs) (suc k) y h none = element p xs k y h (neither (p x) (list_any p xs) none).1

-- what holds of no part and not here holds of nothing within
pub throughout : (p : Expr → Bool) → ((x : Expr) → p x ≡ false → list_any p (children x) ≡ false) → (inner x : Expr) → StandsIn inner x → p x ≡ false → p inner ≡ false
throughout p parts inner _ Itself h = h
throughout p parts inner x (InPart _ part k there within) h = throughout p parts inner part within (element p (children x) k part there (parts x h))

-- Calls.

no_unknown_part : (x : Expr) → has_unknown_call x ≡ false → list_any has_unknown_call (children x) ≡ false
no_unknown_part x h = (neither (is_unknown_call (out-Expr x)) (list_any has_unknown_call (children x)) (sym (unknown_out x) ∙ h)).1

call_out : (f? : Option Function) (arguments : List Expr) → out-Expr (e.Call f? arguments) ≡ Expr-F.Call f? arguments
call_out f? arguments = search (rules, the_lemmas)

-- a function that there is, of those that take so many arguments
there : (n : ℕ) (f? : Option Function) → TakesSoMany f? n → not (is_some f?) ≡ false → (f : Function) × (f? ≡ Some f) × (takes n f ≡ true)
there n None t h = absurd (let f : ⊥ = cc in f)
there n (Some f) t h = (f, refl, t)

pub known : (level : ℕ) (text : List ℕ) (x : Expr) (f? : Option Function) (arguments : List Expr) → IsExpression level text x → StandsIn (e.Call f? arguments) x
    → (f : Function) × (f? ≡ Some f) × (takes (length arguments) f ≡ true)
known level text x f? arguments h within =
    let call = e.Call f? arguments in
    let out = call_out f? arguments in
    let here = throughout has_unknown_call no_unknown_part call x within h.faultless.functions in
    there (length arguments) f? (subst SaysWell out (words level text x call h within))
    (ap is_unknown_call (sym out) ∙ (neither (is_unknown_call (out-Expr call)) (list_any has_unknown_call (children call)) (sym (unknown_out call) ∙ here)).0)

-- Categories.

abbrev misplaced : Expr → Bool
misplaced x = is_faulty (judged x)

neither_of : {A : Type 0} (f g : A → Bool) (xs : List A) → list_any (λ x. f x || g x) xs ≡ false → (list_any f xs ≡ false) × (list_any g xs ≡ false)
neither_of f g [] h = (refl, refl)
neither_of f g (x ∷ xs) h =
    let parts = neither (f x || g x) _ h in let here = neither (f x) (g x) parts.0 in let more = neither_of f g xs parts.1 in
    (both_false (f x) (list_any f xs) here.0 more.0, both_false (g x) (list_any g xs) here.1 more.1)

categories_of : (xs : List Expr) → categories (map judged xs) ≡ map category xs
categories_of [] = refl
categories_of (x ∷ xs) = ap (λ cs. category x ∷ cs) (categories_of xs)

module _ (x : Expr) (h : misplaced x ≡ false) where
  abbrev judged_parts : Form Judged
  judged_parts = map_form judged (form x)

  abbrev rest : Bool
  rest = list_any may_not_stand (map judged (form x).after) || is_some (inner_fault (form x).own (categories (map judged (form x).inner)))

  whole : list_any may_not_stand judged_parts.before || (list_any is_faulty judged_parts.inner || rest) ≡ false
  whole = sym (faulty_form judged_parts) ∙ (ap is_faulty (sym (judged_out x)) ∙ h)

  front : (list_any may_not_stand (map judged (form x).before) ≡ false) × (list_any is_faulty (map judged (form x).inner) || rest ≡ false)
  front = neither _ _ whole

  middle : (list_any is_faulty (map judged (form x).inner) ≡ false) × (rest ≡ false)
  middle = neither _ _ front.1

  back : (list_any may_not_stand (map judged (form x).after) ≡ false) × (is_some (inner_fault (form x).own (categories (map judged (form x).inner))) ≡ false)
  back = neither _ _ middle.1

  apart : (zs : List Expr) → list_any may_not_stand (map judged zs) ≡ false → (list_any updates zs ≡ false) × (list_any misplaced zs ≡ false)
  apart zs none = neither_of updates misplaced zs (sym (any_map may_not_stand judged zs) ∙ none)

  no_misplaced_part : list_any misplaced (children x) ≡ false
  no_misplaced_part =
      ap (list_any misplaced) (children_in_order x)
      ∙ list_any-append misplaced (form x).before ((form x).inner ++ (form x).after)
      ∙ both_false _ _ (apart (form x).before front.0).1
      (list_any-append misplaced (form x).inner (form x).after
      ∙ both_false _ _ (sym (any_map is_faulty judged (form x).inner) ∙ middle.0) (apart (form x).after back.0).1)

  is_placed : IsPlaced x
  is_placed = record {
    before = (apart (form x).before front.0).0;
    after = (apart (form x).after back.0).0;
    alike = ap (inner_fault (form x).own) (sym (categories_of (form x).inner)) ∙ none_is _ back.1;
    of_inner = ap (λ (j : Judged). j.category) (judged_out x) ∙ ap (category_of (form x).own) (categories_of (form x).inner);
  }

pub placed : (level : ℕ) (text : List ℕ) (x inner : Expr) → IsExpression level text x → StandsIn inner x → IsPlaced inner
placed level text x inner h within = is_placed inner (throughout misplaced no_misplaced_part inner x within (ap is_some h.faultless.categories))
