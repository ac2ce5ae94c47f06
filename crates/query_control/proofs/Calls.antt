-- What may be called.
use Rattle.std.proofs.Common.{◌≡◌, ℕ, zero, suc, ◌<◌, List, [], ◌∷◌, length, slice_index_or, sym, subst, arith}
use Rattle.std.specs.List.{All}
use Rattle.query_grammar.specs.declared.ast.Binding.{Binding}
use Rattle.query_grammar.specs.declared.ast.Expr.{Expr}
use Rattle.evaluation.specs.Evaluates.{Pre, Post, IsCallable, Evaluates, EvaluatesEach}
use Rattle.query_control.specs.Evaluates.{EvaluatesQuantified}
use Rattle.evaluation.specs.Bindings.{bound_source}

-- the expression of one part
pub evaluates_at : {A : Type 0} (pre : Pre) (post : Post) (of : A → Expr) (xs : List A) (k : ℕ) (x : A) → EvaluatesEach pre post of xs → k < length xs → x ≡ slice_index_or xs k x
    → Evaluates pre post (of x ∷ [])
evaluates_at pre post of xs k x each below here = record { callable = all; means = each.means }
  where
    here_too : IsCallable pre (of x)
    here_too = let P : _ → Type 0 = λ y. IsCallable pre (of y) in subst P (sym here) (each.callable k x below)

    all : (k : ℕ) (d : Expr) → k < 1 → IsCallable pre (slice_index_or (of x ∷ []) k d)
    all zero d h = here_too
    all (suc k) d h = absurd (omega (arith, h))

-- the parts without the first
pub evaluates_rest : {A : Type 0} (pre : Pre) (post : Post) (of : A → Expr) (x : A) (xs : List A) → EvaluatesEach pre post of (x ∷ xs) → EvaluatesEach pre post of xs
evaluates_rest pre post of x xs each = record { callable = λ k d below. each.callable (suc k) d (omega (arith, below)); means = each.means }

-- each by itself
pub each_alone : {A : Type 0} (pre : Pre) (post : Post) (of : A → Expr) (xs : List A) → EvaluatesEach pre post of xs → All (λ x. Evaluates pre post (of x ∷ [])) xs
each_alone pre post of xs each k d below = record { callable = all; means = each.means }
  where
    all : (j : ℕ) (e : Expr) → j < 1 → IsCallable pre (slice_index_or (of (slice_index_or xs k d) ∷ []) j e)
    all zero e h = each.callable k d below
    all (suc j) e h = absurd (omega (arith, h))

-- a quantified expression without its first binding
pub quantified_rest : (pre : Pre) (post : Post) (bs : List (Binding Expr)) (b : Binding Expr) (rest : List (Binding Expr)) (x : Expr) → bs ≡ b ∷ rest
    → EvaluatesQuantified pre post bs x → EvaluatesQuantified pre post rest x
quantified_rest pre post bs b rest x is all =
    let P : List (Binding Expr) → Type 0 = λ bs. EvaluatesQuantified pre post bs x in
    let both : EvaluatesQuantified pre post (b ∷ rest) x = subst P is all in
    record { bindings = evaluates_rest pre post bound_source b rest both.bindings; test = both.test }
