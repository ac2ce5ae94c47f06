-- Nodes that are kept without repeats.
use Rattle.std.proofs.Common.{◌≡◌, ◌∙◌, ℕ, ◌≤◌, ◌<◌, Bool, true, false, not, Option, Some, None, is_some, List, [], ◌∷◌, ◌++◌, cond, refl, arith, ⊎_elim}
use Rattle.std.specs.Prelude.{All}
use Rattle.std.proofs.lemmas.Bool.Decides.{eqb_tells}
use Rattle.std.proofs.lemmas.List.Elements.{All-head, All-tail}
use Rattle.data_model.specs.Axes.{is_in}
use Rattle.query_paths.specs.Repeats.{IsSought}

-- what is not below a bound is not among what is
above_absent : (b n : ℕ) (xs : List ℕ) → All (λ i. i < b) xs → b ≤ n → is_in n xs ≡ false
above_absent b n [] all above = refl
above_absent b n (x ∷ xs) all above =
    let first = All-head (λ i. i < b) x xs all in
    ⊎_elim (λ t. (let same = t.1 in absurd (omega (arith, above, first, same)))) (λ t. rw t.0 (above_absent b n xs (All-tail (λ i. i < b) x xs all) above)) (eqb_tells n x)

pub next_added : (b n : ℕ) (xs more : List ℕ) → All (λ i. i < b) xs → b ≤ n → more ≡ xs ++ n ∷ [] → more ≡ cond (is_in n xs) xs (xs ++ n ∷ [])
next_added b n xs more all above added = added ∙ rw (above_absent b n xs all above) refl

-- where there is no set, all are below the bound
pub not_sought : (xs : List ℕ) (b : ℕ) (set : Option (List ℕ)) (is_none : Bool) → is_some set ≡ not is_none → is_none ≡ true → IsSought xs b set → All (λ i. i < b) xs
not_sought xs b None is_none e t s = s
not_sought xs b (Some set) true e t s = cc
not_sought xs b (Some set) false e t s = cc
