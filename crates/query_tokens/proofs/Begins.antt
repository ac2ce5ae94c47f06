-- What a text begins with.
use Rattle.std.proofs.Common.{◌≡◌, ℕ, ◌+◌, true, false, List, length, take, drop, Option, Some, None, MatchOption, eqb, sym, ◌∙◌, Bor}
use Rattle.std.specs.Cmp.Lexicographic.{pointwise}
use Rattle.std.proofs.lemmas.Bool.Decides.{same_from_decides, Decides-like}
use Rattle.std.proofs.lemmas.Slice.Eq.{bytes_eq-Decides}
use Rattle.query_tokens.specs.Reading.{begins}

turned : (xs ys : List ℕ) → pointwise eqb xs ys ≡ pointwise eqb ys xs
turned xs ys = same_from_decides _ _ (bytes_eq-Decides xs ys) (Decides-like (pointwise eqb ys xs) (λ e. sym e) (λ e. sym e) (bytes_eq-Decides ys xs))

-- what `strip_prefix` says
pub stripped : (mark text : List ℕ) (result : Option (Bor (List ℕ)))
    → MatchOption result (pointwise eqb (take (length mark) text) mark ≡ false) (λ x. (pointwise eqb (take (length mark) text) mark ≡ true) × (x.now ≡ drop (length mark) text) × (length x.now + length mark ≡ length text))
    → MatchOption result (begins mark text ≡ false) (λ rest. (begins mark text ≡ true) × (rest.now ≡ drop (length mark) text))
stripped mark text None h = turned mark (take (length mark) text) ∙ h
stripped mark text (Some x) h = (turned mark (take (length mark) text) ∙ h.0, h.1)
