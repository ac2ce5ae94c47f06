-- Which code the fault has that is found by categories.
use Rattle.std.proofs.Common.{◌≡◌, ⊎_elim, ◌<◌, ◌≤◌, ℕ, zero, suc, ◌+◌, ◌-◌, Bool, true, false, ◌||◌, if◌then◌else◌, List, [], ◌∷◌, ◌++◌, map, length, take, drop, slice_get, Option, Some, None, is_some, refl, subst, ap, ap₂, sym, ◌∙◌, arith}
use Rattle.std.specs.List.{list_any}
use Rattle.fault_codes.specs.declared.code.Code.{Code}
use Rattle.fault_codes.specs.declared.code.Code.TheVariants.{XUST0001, XUST0002}
use Rattle.query_grammar.specs.declared.ast.Expr.{Expr}
use Rattle.static_checks.specs.Categories.{Judged, judged, is_faulty, is_updating, is_simple, is_mixed, categories, or_else, first_fault, when, inner_fault, own_fault}
use Rattle.static_checks.specs.Inside.{IsInner, between, children, found_in, placed, seen}
use Rattle.static_checks.specs.declared.categories.Category.{Category}
use Rattle.static_checks.specs.declared.categories.Own.{Own}
use Rattle.static_checks.specs.declared.categories.Own.TheVariants.{Updates, OfResults, GivesItems}
use Rattle.static_checks.specs.declared.judging.Found.{Found}
use Rattle.static_checks.proofs.Faults.{none_is}
use Rattle.static_checks.proofs.Folds.{dropped, ended, or_more}
use Rattle.static_checks.proofs.Forms.{map_form, form, judged_out, judged_in_order, children_in_order}

-- The first fault among the parts.

else_none : (f g : Option Code) → f ≡ None → or_else f g ≡ g
else_none f g h = ap (λ o. or_else o g) h

else_some : (f g : Option Code) → is_some f ≡ true → or_else f g ≡ f
else_some (Some code) g h = refl
else_some None g h = absurd (let f : ⊥ = cc in f)

module _ (x : Expr) where
  -- the whole's fault, by its parts' and its own
  by_parts : (judged x).fault ≡ or_else (first_fault (map judged (children x))) (own_fault (map_form judged (form x)))
  by_parts = ap (λ (j : Judged). j.fault) (judged_out x) ∙ ap (λ js. or_else (first_fault js) (own_fault (map_form judged (form x)))) (sym (judged_in_order x))

  pub of_whole : first_fault (map judged (children x)) ≡ None → (judged x).fault ≡ own_fault (map_form judged (form x))
  of_whole none = by_parts ∙ else_none (first_fault (map judged (children x))) (own_fault (map_form judged (form x))) none

  module _ (k : ℕ) (left : first_fault (map judged (drop k (children x))) ≡ first_fault (map judged (children x))) where
    module _ (y : Expr) (there : Some y ≡ slice_get (children x) k) where
      stepped : or_else (judged y).fault (first_fault (map judged (drop (suc k) (children x)))) ≡ first_fault (map judged (children x))
      stepped = sym (ap (λ ys. first_fault (map judged ys)) (dropped (children x) k y (sym there))) ∙ left

      pub of_part : is_some (judged y).fault ≡ true → (judged y).fault ≡ (judged x).fault
      of_part h =
          let first : first_fault (map judged (children x)) ≡ (judged y).fault = sym stepped ∙ else_some (judged y).fault (first_fault (map judged (drop (suc k) (children x)))) h in
          sym (by_parts ∙ ap (λ f. or_else f (own_fault (map_form judged (form x)))) first ∙ else_some (judged y).fault (own_fault (map_form judged (form x))) h)

      pub goes_on : (judged y).fault ≡ None → first_fault (map judged (drop (k + 1) (children x))) ≡ first_fault (map judged (children x))
      goes_on h =
          let next : k + 1 ≡ suc k = omega arith in
          ap (λ n. first_fault (map judged (drop n (children x)))) next ∙ sym (else_none (judged y).fault (first_fault (map judged (drop (suc k) (children x)))) h) ∙ stepped

    pub no_part : None ≡ slice_get (children x) k → first_fault (map judged (children x)) ≡ None
    no_part e = sym left ∙ ap (λ ys. first_fault (map judged ys)) (ended (children x) k e)

pub no_fault : (j : Judged) → is_some (placed j) ≡ true → None ≡ j.fault
no_fault j h = by (is_faulty j) refl
  where
    by : (b : Bool) → is_faulty j ≡ b → None ≡ j.fault
    by true e = let f : is_some (if true then None else Some j.category) ≡ true = sym (ap (λ b. is_some (if b then None else Some j.category)) e) ∙ h in absurd (let g : ⊥ = cc in g)
    by false e = sym (none_is j.fault e)

pub a_fault : (j : Judged) → is_some (placed j) ≡ false → is_faulty j ≡ true
a_fault j h = by (is_faulty j) refl
  where
    by : (b : Bool) → is_faulty j ≡ b → is_faulty j ≡ true
    by true e = e
    by false e = let f : is_some (if false then None else Some j.category) ≡ false = sym (ap (λ b. is_some (if b then None else Some j.category)) e) ∙ h in absurd (let g : ⊥ = cc in g)

-- What is found among some parts.

-- beside what was found before
abbrev pub found_after : Found → List Expr → Found
found_after found xs = record {
  updates = found.updates || list_any is_updating (categories (map judged xs));
  simple = found.simple || list_any is_simple (categories (map judged xs));
}

or_false : (b : Bool) → b ≡ b || false
or_false true = refl
or_false false = refl

pub found_end : (found : Found) → found ≡ found_after found []
found_end found = ap₂ (λ u s. record { updates = u; simple = s }) (or_false found.updates) (or_false found.simple)

pub found_more : (found : Found) (y : Expr) (ys : List Expr) → found_after (seen found (judged y).category) ys ≡ found_after found (y ∷ ys)
found_more found y ys =
    let c = (judged y).category in
    ap₂ (λ u s. record { updates = u; simple = s })
    (or_more found.updates (is_updating c) (list_any is_updating (categories (map judged ys)))) (or_more found.simple (is_simple c) (list_any is_simple (categories (map judged ys))))

pub between_past : (from to : ℕ) (xs : List Expr) → to ≤ from → between from to xs ≡ []
between_past from to xs h = let none : to - from ≡ 0 = omega (arith, h) in ap (λ n. take n (drop from xs)) none

take_none : (n : ℕ) → (let none : List Expr = [] in take n none ≡ none)
take_none zero = refl
take_none (suc n) = refl

pub between_ended : (from to : ℕ) (xs : List Expr) → None ≡ slice_get xs from → between from to xs ≡ []
between_ended from to xs h = ap (take (to - from)) (ended xs from h) ∙ take_none (to - from)

pub between_first : (from to : ℕ) (xs : List Expr) (y : Expr) → from < to → Some y ≡ slice_get xs from → between from to xs ≡ y ∷ between (from + 1) to xs
between_first from to xs y h there =
    let some : to - from ≡ suc (to - (from + 1)) = omega (arith, h) in
    let next : suc from ≡ from + 1 = omega arith in
    ap (take (to - from)) (dropped xs from y (sym there)) ∙ ap (λ n. take n (y ∷ drop (suc from) xs)) some ∙ ap (λ n. y ∷ take (to - (from + 1)) (drop n xs)) next

-- The parts by their place.

past_before : {A : Type 0} (bs ys : List A) → drop (length bs) (bs ++ ys) ≡ ys
past_before [] ys = refl
past_before (b ∷ bs) ys = past_before bs ys

up_to : {A : Type 0} (is ys : List A) → take (length is) (is ++ ys) ≡ is
up_to [] ys = refl
up_to (i ∷ is) ys = ap (λ xs. i ∷ xs) (up_to is ys)

module _ (x : Expr) where
  before_inner : (from : ℕ) → from ≡ length (form x).before → between 0 from (children x) ≡ (form x).before
  before_inner from h =
      let n : from - 0 ≡ length (form x).before = omega (arith, h) in
      ap₂ (λ n xs. take n xs) n (children_in_order x) ∙ up_to (form x).before ((form x).inner ++ (form x).after)

  at_inner : (from to : ℕ) → from ≡ length (form x).before → to ≡ length (form x).before + length (form x).inner → between from to (children x) ≡ (form x).inner
  at_inner from to h k =
      let n : to - from ≡ length (form x).inner = omega (arith, h, k) in
      ap₂ (λ n xs. take n xs) n
      (ap₂ (λ m xs. drop m xs) h (children_in_order x) ∙ past_before (form x).before ((form x).inner ++ (form x).after))
      ∙ up_to (form x).inner (form x).after

-- The code.

abbrev asked : Own → (before : Bool) → List Category → (after : Bool) → Option Code
asked own b cs a = or_else (when b XUST0001) (or_else (inner_fault own cs) (when a XUST0001))

second : (b : Bool) (cs : List Category) (a : Bool) → b ≡ false → list_any is_simple cs ≡ true → asked GivesItems b cs a ≡ Some XUST0002
second b cs a h k = ap₂ (λ u s. or_else (when u XUST0001) (or_else (when s XUST0002) (when a XUST0001))) h k

plain : (m a : Bool) → is_some (or_else (when m XUST0001) (when a XUST0001)) ≡ true → or_else (when m XUST0001) (when a XUST0001) ≡ Some XUST0001
plain true a h = refl
plain false true h = refl
plain false false h = absurd (let f : ⊥ = cc in f)

first : (own : Own) (b : Bool) (cs : List Category) (a : Bool) → (own ≡ GivesItems → list_any is_simple cs ≡ true → b ≡ true) → is_some (asked own b cs a) ≡ true
    → asked own b cs a ≡ Some XUST0001
first own true cs a h some = refl
first Updates false cs a h some = plain false a some
first OfResults false cs a h some = plain (is_mixed cs) a some
first GivesItems false cs a h some = by (list_any is_simple cs) refl
  where
    P : Bool → Type 0
    P s = is_some (or_else (when s XUST0002) (when a XUST0001)) ≡ true → or_else (when s XUST0002) (when a XUST0001) ≡ Some XUST0001

    by : (s : Bool) → list_any is_simple cs ≡ s → asked GivesItems false cs a ≡ Some XUST0001
    by true e = absurd (let f : false ≡ true = h refl e in let g : ⊥ = cc in g)
    by false e = subst P (sym e) (plain false a) some

module _ (x : Expr) (from to : ℕ) (place : IsInner (form x) from to) (none : first_fault (map judged (children x)) ≡ None) where
  abbrev before_updates : Bool
  before_updates = list_any is_updating (categories (map judged (form x).before))

  abbrev of_inner : List Category
  of_inner = categories (map judged (form x).inner)

  abbrev after_updates : Bool
  after_updates = list_any is_updating (categories (map judged (form x).after))

  whole : (judged x).fault ≡ asked (form x).own before_updates of_inner after_updates
  whole = of_whole x none

  simple_is : (found_in (between from to (children x))).simple ≡ true → list_any is_simple of_inner ≡ true
  simple_is h = ⊎_elim
      (λ p. absurd (let f : false ≡ true = sym (ap (λ xs. list_any is_simple (categories (map judged xs))) (between_past from to (children x) (omega (arith, p.1)))) ∙ h in let g : ⊥ = cc in g))
      (λ p. sym (ap (λ xs. list_any is_simple (categories (map judged xs))) (at_inner x from to p.0 p.1)) ∙ h) place

  updates_is : (found_in (between from to (children x))).simple ≡ true → before_updates ≡ (found_in (between 0 from (children x))).updates
  updates_is h = ⊎_elim
      (λ p. absurd (let f : false ≡ true = sym (ap (λ xs. list_any is_simple (categories (map judged xs))) (between_past from to (children x) (omega (arith, p.1)))) ∙ h in let g : ⊥ = cc in g))
      (λ p. sym (ap (λ xs. list_any is_updating (categories (map judged xs))) (before_inner x from p.0))) place

  pub changed_by_simple : (form x).own ≡ GivesItems → (found_in (between from to (children x))).simple ≡ true → (found_in (between 0 from (children x))).updates ≡ false
      → (judged x).fault ≡ Some XUST0002
  changed_by_simple own simple still =
      whole ∙ ap (λ o. asked o before_updates of_inner after_updates) own ∙ second before_updates of_inner after_updates (updates_is simple ∙ still) (simple_is simple)

  simple_back : list_any is_simple of_inner ≡ true → (found_in (between from to (children x))).simple ≡ true
  simple_back h = ⊎_elim
      (λ p. absurd (let f : false ≡ true = sym (ap (λ xs. list_any is_simple (categories (map judged xs))) p.0) ∙ h in let g : ⊥ = cc in g))
      (λ p. ap (λ xs. list_any is_simple (categories (map judged xs))) (at_inner x from to p.0 p.1) ∙ h) place

  pub misplaced : is_faulty (judged x) ≡ true
      → ((form x).own ≡ GivesItems → (found_in (between from to (children x))).simple ≡ true → (found_in (between 0 from (children x))).updates ≡ true)
      → (judged x).fault ≡ Some XUST0001
  misplaced faulty other =
      whole ∙ first (form x).own before_updates of_inner after_updates
      (λ own simple. (let s = simple_back simple in updates_is s ∙ other own s))
      (sym (ap is_some whole) ∙ faulty)
