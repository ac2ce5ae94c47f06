-- Bytes that are put after others, in parts of which a later one may be refused.
use Rattle.std.proofs.Common.{◌≡◌, ℕ, ◌∙◌, refl, sym, ap, List, [], ◌∷◌, ◌++◌, length, take}
use Rattle.std.proofs.lemmas.List.{append_assoc}
use Rattle.std.proofs.Math.Seq.{take-append_seam}
use Rattle.messages.specs.Appending.{Extends}

pub append_none : (xs : List ℕ) → xs ++ [] ≡ xs
append_none [] = refl
append_none (x ∷ xs) = ap (λ ys. x ∷ ys) (append_none xs)

pub by_none : (xs ys : List ℕ) → ys ≡ xs → Extends xs ys
by_none xs ys e = ([], e ∙ sym (append_none xs))

pub by_more : (xs ys zs : List ℕ) → zs ≡ xs ++ ys → Extends xs zs
by_more xs ys zs e = (ys, e)

pub by_both : (xs ys zs : List ℕ) → Extends xs ys → Extends ys zs → Extends xs zs
by_both xs ys zs a b = (a.0 ++ b.0, b.1 ∙ (ap (λ ws. ws ++ b.0) a.1 ∙ append_assoc xs a.0 b.0))

pub twice : (old a mid b new : List ℕ) → mid ≡ old ++ a → new ≡ mid ++ b → new ≡ old ++ (a ++ b)
twice old a mid b new e f = f ∙ (ap (λ xs. xs ++ b) e ∙ append_assoc old a b)

pub after_two : (old a b mid c new : List ℕ) → mid ≡ old ++ (a ++ b) → new ≡ mid ++ c → new ≡ old ++ (a ++ (b ++ c))
after_two old a b mid c new e f = twice old (a ++ b) mid c new e f ∙ ap (λ xs. old ++ xs) (append_assoc a b c)

-- cut to its old length
pub without : (old new cut : List ℕ) (n : ℕ) → Extends old new → n ≡ length old → cut ≡ take n new → cut ≡ old
without old new cut n (more, e) long h = h ∙ rw (long, e) (take-append_seam old more)
