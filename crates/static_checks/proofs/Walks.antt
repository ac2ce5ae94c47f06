-- What a walk over the parts of an expression comes to.
use Rattle.std.proofs.Common.{◌≡◌, ◌≤◌, ◌<◌, ⊎_elim, inl, inr, subst, ℕ, suc, ◌+◌, Bool, true, false, ◌&&◌, ◌||◌, nat_le, nat_lt, if◌then◌else◌, List, [], ◌∷◌, ◌++◌, map, length, drop, slice_get, Option, Some, None, is_some, refl, ap, ap₂, sym, ◌∙◌, arith}
use Rattle.std.proofs.lemmas.Bool.{le-leb, lt-leb, lt-ltb, le-ltb}
use Rattle.std.specs.List.{list_any}
use Rattle.fault_codes.specs.declared.code.Code.TheVariants.{XUST0001, XUST0002}
use Rattle.query_grammar.specs.declared.ast.Expr.{Expr}
use Rattle.static_checks.specs.Categories.{Form, Judged, judged_form, judged, is_updating, is_simple, may_not_stand, is_faulty, categories, category_of, is_mixed, joined, inner_fault}
use Rattle.static_checks.specs.Inside.{IsInner, children, is_inner, nothing, seen, taken, walk, placed, concluded}
use Rattle.static_checks.specs.declared.categories.Category.{Category}
use Rattle.static_checks.specs.declared.categories.Category.TheVariants.{Simple}
use Rattle.static_checks.specs.declared.categories.Own.{Own}
use Rattle.static_checks.specs.declared.categories.Own.TheVariants.{Updates, OfResults, GivesItems}
use Rattle.static_checks.specs.declared.judging.Found.{Found}
use Rattle.static_checks.proofs.Forms.{map_form, form, judged_out, judged_in_order}
use Rattle.static_checks.proofs.Faults.{any_both, faulty_form, some_when}
use Rattle.static_checks.proofs.Folds.{dropped, ended, length_mapped, or_more}

-- one part where none may update
outside_one : {A : Type 0} (m u inner : Bool) (X Y : Option A) → inner ≡ false
    → (if m then None else (if inner then X else (if u then None else Y))) ≡ (if u || m then None else Y)
outside_one true true inner X Y h = refl
outside_one true false inner X Y h = refl
outside_one false true inner X Y h = ap (λ b. if b then X else None) h
outside_one false false inner X Y h = ap (λ b. if b then X else Y) h

inside_one : {A : Type 0} (m inner : Bool) (X Y : Option A) → inner ≡ true → (if m then None else (if inner then X else Y)) ≡ (if m then None else X)
inside_one true inner X Y h = refl
inside_one false inner X Y h = ap (λ b. if b then X else Y) h

one_of_both : {A : Type 0} (a b : Bool) (Z : Option A) → (if a then None else (if b then None else Z)) ≡ (if a || b then None else Z)
one_of_both true b Z = refl
one_of_both false b Z = refl

either_ends : (a : Bool) → a && false ≡ false
either_ends true = refl
either_ends false = refl

module _ (f t : ℕ) where
  below : (i : ℕ) → i < f → is_inner f t i ≡ false
  below i h = ap (λ b. b && nat_lt i t) (lt-leb f i h)

  above : (i : ℕ) → t ≤ i → is_inner f t i ≡ false
  above i h = ap (λ b. nat_le f i && b) (le-ltb i t h) ∙ either_ends (nat_le f i)

  within : (i : ℕ) → f ≤ i → i < t → is_inner f t i ≡ true
  within i h k = ap₂ (λ a b. a && b) (le-leb f i h) (lt-ltb i t k)

  -- parts before the inner ones
  before : (js rest : List Judged) (i : ℕ) (found : Found) → i + length js ≤ f
      → walk f t i (js ++ rest) found ≡ (if list_any may_not_stand js then None else walk f t (i + length js) rest found)
  before [] rest i found h = let same : i ≡ i + 0 = omega arith in ap (λ k. walk f t k rest found) same
  before (j ∷ js) rest i found h =
      let next : suc i + length js ≡ i + suc (length js) = omega arith in
      outside_one (is_faulty j) (is_updating j.category) (is_inner f t i) _ _ (below i (omega (arith, h)))
      ∙ ap (λ o. if may_not_stand j then None else o) (before js rest (suc i) found (omega (arith, h)))
      ∙ one_of_both (may_not_stand j) (list_any may_not_stand js) (walk f t (suc i + length js) rest found)
      ∙ ap (λ k. if may_not_stand j || list_any may_not_stand js then None else walk f t k rest found) next

  -- parts after them
  after : (js : List Judged) (i : ℕ) (found : Found) → t ≤ i → walk f t i js found ≡ (if list_any may_not_stand js then None else Some found)
  after [] i found h = refl
  after (j ∷ js) i found h =
      outside_one (is_faulty j) (is_updating j.category) (is_inner f t i) _ _ (above i h)
      ∙ ap (λ o. if may_not_stand j then None else o) (after js (suc i) found (omega (arith, h)))
      ∙ one_of_both (may_not_stand j) (list_any may_not_stand js) (Some found)

  -- the inner ones
  abbrev all_seen : Found → List Category → Found
  all_seen found cs = record { updates = found.updates || list_any is_updating cs; simple = found.simple || list_any is_simple cs }

  or_none : (a : Bool) → a ≡ a || false
  or_none true = refl
  or_none false = refl

  seen_more : (found : Found) (c : Category) (cs : List Category) → all_seen (seen found c) cs ≡ all_seen found (c ∷ cs)
  seen_more found c cs = ap₂ (λ u s. record { updates = u; simple = s }) (or_more found.updates (is_updating c) (list_any is_updating cs)) (or_more found.simple (is_simple c) (list_any is_simple cs))

  seen_none : (found : Found) → found ≡ all_seen found []
  seen_none found = ap₂ (λ u s. record { updates = u; simple = s }) (or_none found.updates) (or_none found.simple)

  inside : (js rest : List Judged) (i : ℕ) (found : Found) → f ≤ i → i + length js ≤ t
      → walk f t i (js ++ rest) found ≡ (if list_any is_faulty js then None else walk f t (i + length js) rest (all_seen found (categories js)))
  inside [] rest i found h k = let same : i ≡ i + 0 = omega arith in ap₂ (λ n s. walk f t n rest s) same (seen_none found)
  inside (j ∷ js) rest i found h k =
      let next : suc i + length js ≡ i + suc (length js) = omega arith in
      inside_one (is_faulty j) (is_inner f t i) _ _ (within i h (omega (arith, k)))
      ∙ ap (λ o. if is_faulty j then None else o) (inside js rest (suc i) (seen found j.category) (omega (arith, h)) (omega (arith, k)))
      ∙ one_of_both (is_faulty j) (list_any is_faulty js) (walk f t (suc i + length js) rest (all_seen (seen found j.category) (categories js)))
      ∙ ap₂ (λ n s. if is_faulty j || list_any is_faulty js then None else walk f t n rest s) next (seen_more found j.category (categories js))

  -- what is found of the inner parts tells the category
  tells : (own : Own) (b m a : Bool) (cs : List Category)
      → concluded own (if b then None else (if m then None else (if a then None else Some (all_seen nothing cs))))
      ≡ (if b || (m || (a || is_some (inner_fault own cs))) then None else Some (category_of own cs))
  tells Updates true m a cs = refl
  tells Updates false true a cs = refl
  tells Updates false false true cs = refl
  tells Updates false false false cs = refl
  tells GivesItems true m a cs = refl
  tells GivesItems false true a cs = refl
  tells GivesItems false false true cs = refl
  tells GivesItems false false false cs = ap (λ x. if x then None else Some Simple) (sym (some_when (list_any is_simple cs) XUST0002))
  tells OfResults true m a cs = refl
  tells OfResults false true a cs = refl
  tells OfResults false false true cs = refl
  tells OfResults false false false cs = ap (λ x. if x then None else Some (joined cs)) (sym (some_when (is_mixed cs) XUST0001))

  placed_form : (x : Form Judged)
      → (if list_any may_not_stand x.before || (list_any is_faulty x.inner || (list_any may_not_stand x.after || is_some (inner_fault x.own (categories x.inner)))) then None
      else Some (category_of x.own (categories x.inner)))
      ≡ placed (judged_form x)
  placed_form x = ap (λ b. if b then None else Some (category_of x.own (categories x.inner))) (sym (faulty_form x))

  -- the walk over the parts of a form
  over_inner : (x : Form Judged) → f ≡ length x.before → t ≡ length x.before + length x.inner
      → concluded x.own (walk f t 0 (x.before ++ (x.inner ++ x.after)) nothing) ≡ placed (judged_form x)
  over_inner x from to =
      ap (concluded x.own)
      (before x.before (x.inner ++ x.after) 0 nothing (omega (arith, from))
      ∙ ap (λ o. if list_any may_not_stand x.before then None else o)
      (inside x.inner x.after (0 + length x.before) nothing (omega (arith, from)) (omega (arith, to))
      ∙ ap (λ o. if list_any is_faulty x.inner then None else o) (after x.after (0 + length x.before + length x.inner) (all_seen nothing (categories x.inner)) (omega (arith, to)))))
      ∙ tells x.own (list_any may_not_stand x.before) (list_any is_faulty x.inner) (list_any may_not_stand x.after) (categories x.inner)
      ∙ placed_form x

  over_outer : (own : Own) (bs zs : List Judged) → t ≡ 0
      → concluded own (walk f t 0 (bs ++ zs) nothing) ≡ placed (judged_form (record { own = own; before = bs; inner = []; after = zs }))
  over_outer own bs zs to =
      ap (concluded own)
      (after (bs ++ zs) 0 nothing (omega (arith, to))
      ∙ ap (λ b. if b then None else Some nothing) (any_both may_not_stand bs zs)
      ∙ sym (one_of_both (list_any may_not_stand bs) (list_any may_not_stand zs) (Some nothing)))
      ∙ tells own (list_any may_not_stand bs) false (list_any may_not_stand zs) []
      ∙ placed_form (record { own = own; before = bs; inner = []; after = zs })

  over_form : (x : Form Judged) → IsInner x f t → concluded x.own (walk f t 0 (x.before ++ (x.inner ++ x.after)) nothing) ≡ placed (judged_form x)
  over_form x = ⊎_elim
      (λ h. subst (λ js. concluded x.own (walk f t 0 (x.before ++ (js ++ x.after)) nothing)
      ≡ placed (judged_form (record { own = x.own; before = x.before; inner = js; after = x.after }))) (sym h.0) (over_outer x.own x.before x.after h.1))
      (λ h. over_inner x h.0 h.1)

  mapped_inner : (x : Form Expr) → IsInner x f t → IsInner (map_form judged x) f t
  mapped_inner x = ⊎_elim
      (λ h. inl (ap (map judged) h.0, h.1))
      (λ h. inr (h.0 ∙ sym (length_mapped judged x.before), omega (arith, h.1, length_mapped judged x.before, length_mapped judged x.inner)))

  -- the walk over an expression's parts tells its category
  pub whole : (x : Expr) → IsInner (form x) f t → concluded (form x).own (walk f t 0 (map judged (children x)) nothing) ≡ placed (judged x)
  whole x h =
      ap (λ js. concluded (form x).own (walk f t 0 js nothing)) (judged_in_order x)
      ∙ over_form (map_form judged (form x)) (mapped_inner (form x) h)
      ∙ ap placed (sym (judged_out x))

-- one and then the other, if there is one
abbrev pub and_then : {A B : Type 0} → Option A → (A → Option B) → Option B
and_then None g = None
and_then (Some a) g = g a

one_step : (j : Judged) (inner : Bool) (found : Found) (rest : Found → Option Found)
    → (if is_faulty j then None else (if inner then rest (seen found j.category) else (if is_updating j.category then None else rest found)))
    ≡ and_then (placed j) (λ c. and_then (taken found c inner) rest)
one_step j inner found rest = by (is_faulty j) inner (is_updating j.category) refl refl refl
  where
    by : (m i u : Bool) → is_faulty j ≡ m → inner ≡ i → is_updating j.category ≡ u
        → (if m then None else (if i then rest (seen found j.category) else (if u then None else rest found)))
        ≡ and_then (if m then None else Some j.category) (λ c. and_then (elim i as (λ x. Option Found) [ true ↦ Some (seen found c) | false ↦ (if is_updating c then None else Some found) ]) rest)
    by true i u a b c = refl
    by false true u a b c = refl
    by false false true a b c = ap (λ x. and_then (if x then None else Some found) rest) (sym c)
    by false false false a b c = ap (λ x. and_then (if x then None else Some found) rest) (sym c)

-- the walk from an index on: the part there, and then from the next one on
pub walk_on : (f t : ℕ) (xs : List Expr) (k : ℕ) (y : Expr) (found : Found) → Some y ≡ slice_get xs k
    → walk f t k (map judged (drop k xs)) found
    ≡ and_then (placed (judged y)) (λ c. and_then (taken found c (is_inner f t k)) (walk f t (k + 1) (map judged (drop (k + 1) xs))))
walk_on f t xs k y found h =
    let next : suc k ≡ k + 1 = omega arith in
    ap (λ ys. walk f t k (map judged ys) found) (dropped xs k y (sym h))
    ∙ one_step (judged y) (is_inner f t k) found (walk f t (suc k) (map judged (drop (suc k) xs)))
    ∙ ap (λ n. and_then (placed (judged y)) (λ c. and_then (taken found c (is_inner f t k)) (walk f t n (map judged (drop n xs))))) next

-- past the last part nothing more is found
pub walk_end : (f t : ℕ) (xs : List Expr) (k : ℕ) (found : Found) → None ≡ slice_get xs k → walk f t k (map judged (drop k xs)) found ≡ Some found
walk_end f t xs k found h = ap (λ ys. walk f t k (map judged ys) found) (ended xs k h)

-- The steps of the walk in code: the part at an index, where what was found before is known.
module _ (f t : ℕ) (x : Expr) (inner : IsInner (form x) f t) (k : ℕ) (found : Found)
    (left : walk f t k (map judged (drop k (children x))) found ≡ walk f t 0 (map judged (children x)) nothing) where
  pub ends : None ≡ slice_get (children x) k → concluded (form x).own (Some found) ≡ placed (judged x)
  ends e = ap (concluded (form x).own) (sym (walk_end f t (children x) k found e) ∙ left) ∙ whole f t x inner

  module _ (y : Expr) (there : Some y ≡ slice_get (children x) k) where
    steps : walk f t 0 (map judged (children x)) nothing
        ≡ and_then (placed (judged y)) (λ c. and_then (taken found c (is_inner f t k)) (walk f t (k + 1) (map judged (drop (k + 1) (children x)))))
    steps = sym left ∙ walk_on f t (children x) k y found there

    pub misplaced_in : placed (judged y) ≡ None → None ≡ placed (judged x)
    misplaced_in e = sym (sym (whole f t x inner) ∙ ap (concluded (form x).own) (steps
        ∙ ap (λ o. and_then o (λ c. and_then (taken found c (is_inner f t k)) (walk f t (k + 1) (map judged (drop (k + 1) (children x)))))) e))

    module _ (c : Category) (is : placed (judged y) ≡ Some c) where
      stepped : walk f t 0 (map judged (children x)) nothing ≡ and_then (taken found c (is_inner f t k)) (walk f t (k + 1) (map judged (drop (k + 1) (children x))))
      stepped = steps ∙ ap (λ o. and_then o (λ d. and_then (taken found d (is_inner f t k)) (walk f t (k + 1) (map judged (drop (k + 1) (children x)))))) is

      pub misplaced_here : taken found c (is_inner f t k) ≡ None → None ≡ placed (judged x)
      misplaced_here e = sym (sym (whole f t x inner) ∙ ap (concluded (form x).own) (stepped
          ∙ ap (λ o. and_then o (walk f t (k + 1) (map judged (drop (k + 1) (children x))))) e))

      pub goes_on : (more : Found) → taken found c (is_inner f t k) ≡ Some more
          → walk f t (k + 1) (map judged (drop (k + 1) (children x))) more ≡ walk f t 0 (map judged (children x)) nothing
      goes_on more e = sym (stepped ∙ ap (λ o. and_then o (walk f t (k + 1) (map judged (drop (k + 1) (children x))))) e)
