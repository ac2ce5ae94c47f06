-- Whether a copy is made within an expression, by its parts; and what holds of each expression in which none is.
use Rattle.std.proofs.Common.{◌≡◌, ℕ, zero, suc, ◌<◌, ◌||◌, Bool, true, false, List, [], ◌∷◌, slice_get, Some, refl, sym, ◌∙◌, arith}
use Rattle.std.proofs.lemmas.List.Elements.{All-nil, All-cons, All-head, All-tail}
use Rattle.std.specs.List.{All, list_any}
use Rattle.query_grammar.specs.declared.ast.Expr.{Expr, map-Expr, out-Expr}
use Rattle.query_grammar.specs.declared.ast.Expr.TheOpen.{Expr-F}
use Rattle.static_checks.specs.Inside.{children}
use Rattle.static_checks.proofs.Passes.{somewhere_out, height, part_lower}
use Rattle.level_laws.specs.Copied.{is_copy, has_copy}

pub copy_mapped : {A B : Type 0} (f : A → B) (x : Expr-F A) → is_copy (map-Expr A B f x) ≡ is_copy x
copy_mapped f (Expr-F.Copy bs x y) = refl
copy_mapped f _ = refl

-- a copy is made here or in a part
pub copy_out : (x : Expr) → has_copy x ≡ is_copy (out-Expr x) || list_any has_copy (children x)
unfolding has_copy
copy_out x = somewhere_out is_copy is_copy copy_mapped x

pub neither : (a b : Bool) → a || b ≡ false → (a ≡ false) × (b ≡ false)
neither true b h = absurd (let f : ⊥ = cc in f)
neither false b h = (refl, h)

-- what each expression has whose parts have it
module _ (P : Expr → Type 0) (of_parts : (x : Expr) → All P (children x) → P x) where
  each_of : (xs : List Expr) → ((k : ℕ) (y : Expr) → slice_get xs k ≡ Some y → P y) → All P xs
  each_of [] h = All-nil P
  each_of (x ∷ xs) h = All-cons P x xs (h zero x refl) (each_of xs (λ k y there. h (suc k) y there))

  lower : (n : ℕ) (x : Expr) → height x < n → P x
  lower zero x h = absurd (omega (arith, h))
  lower (suc n) x h = of_parts x (each_of (children x) (λ k y there. lower n y (omega (arith, part_lower x y k there, h))))

  pub every : (x : Expr) → P x
  every x = lower (suc (height x)) x (omega arith)

-- what each of these has in which no copy is made
pub each_without : (P : Expr → Type 0) (xs : List Expr) → All (λ x. has_copy x ≡ false → P x) xs → list_any has_copy xs ≡ false → All P xs
each_without P [] all none = All-nil P
each_without P (x ∷ xs) all none =
    let both = neither (has_copy x) (list_any has_copy xs) none in
    All-cons P x xs (All-head (λ y. has_copy y ≡ false → P y) x xs all both.0) (each_without P xs (All-tail (λ y. has_copy y ≡ false → P y) x xs all) both.1)

-- the same of each expression in which no copy is made
module _ (P : Expr → Type 0) (of_parts : (x : Expr) → is_copy (out-Expr x) ≡ false → All P (children x) → P x) where
  abbrev Without : Expr → Type 0
  Without x = has_copy x ≡ false → P x

  without_here : (x : Expr) → All Without (children x) → Without x
  without_here x all none =
      let both = neither (is_copy (out-Expr x)) (list_any has_copy (children x)) (sym (copy_out x) ∙ none) in
      of_parts x both.0 (each_without P (children x) all both.1)

  pub without : (x : Expr) → has_copy x ≡ false → P x
  without = every Without without_here
