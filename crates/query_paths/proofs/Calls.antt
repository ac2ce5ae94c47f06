-- What may be called.
use Rattle.std.proofs.Common.{◌≡◌, suc, List, ◌∷◌, sym, subst, arith}
use Rattle.query_grammar.specs.declared.ast.Expr.{Expr}
use Rattle.evaluation.specs.Evaluates.{Pre, Post, Evaluates}

-- expressions but for the first
pub evaluates_others : (pre : Pre) (post : Post) (x : Expr) (xs ys : List Expr) → ys ≡ xs → Evaluates pre post (x ∷ xs) → Evaluates pre post ys
evaluates_others pre post x xs ys same all =
    let P : List Expr → Type 0 = λ zs. Evaluates pre post zs in
    subst P (sym same) (record { callable = λ k d below. all.callable (suc k) d (omega (arith, below)); means = all.means })
