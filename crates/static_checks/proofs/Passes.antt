-- Passes over expressions: a fold by its parts.
use Rattle.std.proofs.Common.{◌≡◌, ℕ, zero, suc, ◌<◌, ◌≤◌, ◌+◌, max, Bool, true, false, ◌||◌, List, [], ◌∷◌, map, drop, length, slice_get, Some, None, refl, ap, ap₂, sym, ◌∙◌, arith}
use Rattle.std.proofs.lemmas.Option.{none-some, same_Some, slice_get_within}
use Rattle.std.specs.List.{list_any}
use Rattle.query_grammar.specs.declared.ast.Expr.{Expr, map-Expr, fold-Expr, out-Expr}
use Rattle.query_grammar.specs.declared.ast.Expr.TheOpen.{Expr-F}
use Rattle.query_grammar.specs.declared.ast.Expr.TheFolds.{fold_out-Expr}
use Rattle.static_checks.specs.Parts.{Part, parts}
use Rattle.static_checks.specs.Inside.{children}
use Rattle.static_checks.proofs.Mapped.{mapped, parts_mapped}

-- the parts' results
pub results : {A B : Type 0} (f : A → B) (ps : List (Part A)) → map (λ (p : Part B). p.part) (map (mapped f) ps) ≡ map f (map (λ (p : Part A). p.part) ps)
results f [] = refl
results f (p ∷ ps) = ap (λ ys. f p.part ∷ ys) (results f ps)

pub parts_results : {A : Type 0} (f : Expr → A) (x : Expr) → map (λ (p : Part A). p.part) (parts (map-Expr Expr A f (out-Expr x))) ≡ map f (children x)
parts_results f x = ap (map (λ p. p.part)) (parts_mapped f (out-Expr x)) ∙ results f (parts (out-Expr x))

pub any_map : {A B : Type 0} (p : B → Bool) (f : A → B) (xs : List A) → list_any p (map f xs) ≡ list_any (λ x. p (f x)) xs
any_map p f [] = refl
any_map p f (x ∷ xs) = ap (λ b. p (f x) || b) (any_map p f xs)

-- a fold that asks whether something stands here or in a part
module _ (here : Expr-F Bool → Bool) (here_alone : Expr-F Expr → Bool) (same : (f : Expr → Bool) (x : Expr-F Expr) → here (map-Expr Expr Bool f x) ≡ here_alone x) where
  abbrev pub somewhere : Expr → Bool
  somewhere = fold-Expr Bool (λ x. here x || list_any (λ (p : Part Bool). p.part) (parts x))

  pub somewhere_out : (x : Expr) → somewhere x ≡ here_alone (out-Expr x) || list_any somewhere (children x)
  somewhere_out x =
      fold_out-Expr Bool (λ x. here x || list_any (λ (p : Part Bool). p.part) (parts x)) x
      ∙ ap₂ (λ a b. a || b) (same somewhere (out-Expr x))
      (sym (any_map (λ b. b) (λ (p : Part Bool). p.part) (parts (map-Expr Expr Bool somewhere (out-Expr x))))
      ∙ ap (list_any (λ b. b)) (parts_results somewhere x)
      ∙ any_map (λ b. b) somewhere (children x))

-- how deep parts lie inside one another
abbrev largest : List ℕ → ℕ
largest [] = 0
largest (n ∷ ns) = max n (largest ns)

abbrev height_step : Expr-F ℕ → ℕ
height_step x = suc (largest (map (λ (p : Part ℕ). p.part) (parts x)))

abbrev pub height : Expr → ℕ
height = fold-Expr ℕ height_step

height_out : (x : Expr) → height x ≡ suc (largest (map height (children x)))
height_out x = fold_out-Expr ℕ height_step x ∙ ap (λ ns. suc (largest ns)) (parts_results height x)

largest_least : (xs : List Expr) (k : ℕ) (y : Expr) → slice_get xs k ≡ Some y → height y ≤ largest (map height xs)
largest_least [] k y h = absurd (none-some y h)
largest_least (x ∷ xs) zero y h = omega (arith, ap height (same_Some x y h))
largest_least (x ∷ xs) (suc k) y h = omega (arith, largest_least xs k y h)

-- a part is less deep
pub part_lower : (x y : Expr) (k : ℕ) → slice_get (children x) k ≡ Some y → height y < height x
part_lower x y k h = omega (arith, height_out x, largest_least (children x) k y h)

-- an index at which there is a part
pub within : {A : Type 0} (xs : List A) (k : ℕ) (y : A) → slice_get xs k ≡ Some y → k < length xs
within = slice_get_within

-- the parts from an index on: the one there, and those after it
pub any_from : {A : Type 0} (p : A → Bool) (xs : List A) (k : ℕ) (y : A) → slice_get xs k ≡ Some y → list_any p (drop k xs) ≡ p y || list_any p (drop (suc k) xs)
any_from p [] k y h = absurd (none-some y h)
any_from p (x ∷ xs) zero y h = ap (λ z. p z || list_any p xs) (same_Some x y h)
any_from p (x ∷ xs) (suc k) y h = any_from p xs k y h

pub any_past : {A : Type 0} (p : A → Bool) (xs : List A) (k : ℕ) → slice_get xs k ≡ None → list_any p (drop k xs) ≡ false
any_past p [] zero h = refl
any_past p [] (suc k) h = refl
any_past p (x ∷ xs) zero h = absurd (none-some x (sym h))
any_past p (x ∷ xs) (suc k) h = any_past p xs k h

-- The steps of a loop over the parts, whose answers are r.
pub found_here : (whole h rest r : Bool) → whole ≡ h || rest → r ≡ h → r ≡ true → true ≡ whole
found_here whole h rest r is same t = sym (is ∙ ap (λ b. b || rest) (sym same ∙ t))

pub not_here : (whole h rest r : Bool) → whole ≡ h || rest → r ≡ h → r ≡ false → rest ≡ whole
not_here whole h rest r is same t = sym (is ∙ ap (λ b. b || rest) (sym same ∙ t))

pub found_in : {A : Type 0} (p : A → Bool) (xs : List A) (k : ℕ) (y : A) (whole r : Bool) → list_any p (drop k xs) ≡ whole → Some y ≡ slice_get xs k → r ≡ p y → r ≡ true → true ≡ whole
found_in p xs k y whole r left there same t = found_here whole (p y) (list_any p (drop (suc k) xs)) r (sym left ∙ any_from p xs k y (sym there)) same t

pub not_in : {A : Type 0} (p : A → Bool) (xs : List A) (k : ℕ) (y : A) (whole r : Bool) → list_any p (drop k xs) ≡ whole → Some y ≡ slice_get xs k → r ≡ p y → r ≡ false → list_any p (drop (k + 1) xs) ≡ whole
not_in p xs k y whole r left there same t = let next : k + 1 ≡ suc k = omega arith in ap (λ n. list_any p (drop n xs)) next ∙ not_here whole (p y) (list_any p (drop (suc k) xs)) r (sym left ∙ any_from p xs k y (sym there)) same t
