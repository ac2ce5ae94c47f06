-- What is appended to a list of values.
use Rattle.std.proofs.Common.{◌≡◌, ◌+◌, List, [], ◌∷◌, ◌++◌, length, fold, ap, sym, ◌∙◌, arith, append-nil, append_assoc, length-append}
use Rattle.std.specs.Prelude.{Result, Ok, Err, MatchResult}
use mathlib.Core.List.{IsPrefix}
use Rattle.sight.proofs.Beginnings.{same_length}

-- a list that is one longer than a beginning of it, and ends in that entry
pub one_more : {V : Type 0} (xs ys front : List V) (v : V) → IsPrefix xs ys → length ys ≡ length xs + 1 → ys ≡ front ++ v ∷ [] → ys ≡ xs ++ v ∷ []
one_more xs ys front v begins long last =
    let same : xs ≡ front = same_length ys xs front begins (v ∷ [], sym last) (omega (arith, long, ap length last, length-append front (v ∷ []))) in
    last ∙ ap (λ w. w ++ v ∷ []) (sym same)

module _ {V : Type 0} (applied : List V → V → List V) (appends : (values : List V) (value : V) → applied values value ≡ values ++ value ∷ []) where
  -- values that are absorbed one after the other are appended
  pub added : (xs es : List V) → fold applied xs es ≡ xs ++ es
  added xs [] = sym (append-nil xs)
  added xs (e ∷ es) = ap (λ w. fold applied w es) (appends xs e) ∙ added (xs ++ e ∷ []) es ∙ append_assoc xs (e ∷ []) es

  -- what is shown has all the values, or is what it was
  pub shown_whole : {C T F : Type 0} (state : C → List V) (r : Result T F) (before now : C) (es left : List V)
      → MatchResult r (λ _. (state now ≡ fold applied (state before) es) × (left ≡ [])) (λ _. (now ≡ before) × (left ≡ es))
      → MatchResult r (λ _. (state now ≡ state before ++ es) × (left ≡ [])) (λ _. (state now ≡ state before) × (left ≡ es))
  shown_whole state (Ok x) before now es left h = (h.0 ∙ added (state before) es, h.1)
  shown_whole state (Err x) before now es left h = (ap state h.0, h.1)
