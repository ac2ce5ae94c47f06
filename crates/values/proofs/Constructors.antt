-- The text of a node, made of its pieces.
use Rattle.std.proofs.Common.{◌≡◌, ℕ, Bool, true, false, not, ◌&&◌, eqb, List, [], ◌∷◌, ◌++◌, length, codes, refl, sym, ap, ◌∙◌, append_assoc, append-nil, true≢false, map, arith}
use Rattle.std.proofs.lemmas.Bool.{false≢true}
use Rattle.std.proofs.lemmas.Bool.Decides.{nat_tests}
use Rattle.data_model.specs.Trees.{is_inner}
use Rattle.data_model.specs.declared.node.Kind.{Kind}
use Rattle.data_model.specs.declared.node.Kind.TheVariants.{Document, Element, Attribute, Text, Comment, Instruction}
use Rattle.values.specs.Printing.{literal, listed, document_content, constructor}
use Rattle.values.specs.Inside.{opening, following, nothing}
use Rattle.values.specs.Limited.{LimitedTerm, added}
use Rattle.values.proofs.Limits.{added-twice, added-three}

-- there are none
abbrev pub are_none : List (List ℕ) → Bool
are_none [] = true
are_none (t ∷ ts) = false

pub none-of-none : (f : ℕ → List ℕ) (ids : List ℕ) → eqb (length ids) 0 ≡ are_none (map f ids)
none-of-none f [] = refl
none-of-none f (i ∷ ids) = grind (arith, nat_tests)

listed-following : (ts : List (List ℕ)) → listed ts ≡ following false ts
listed-following [] = refl
listed-following (t ∷ []) = sym (append-nil t)
listed-following (t ∷ u ∷ ts) = append_assoc t (codes ", ") (listed (u ∷ ts)) ∙ ap (λ l. t ++ 44 ∷ 32 ∷ l) (listed-following (u ∷ ts))

following-true : (ts us : List (List ℕ)) → following true (ts ++ us) ≡ following true ts ++ following true us
following-true [] us = refl
following-true (t ∷ ts) us = ap (λ l. 44 ∷ 32 ∷ l) (ap (λ l. t ++ l) (following-true ts us) ∙ sym (append_assoc t (following true ts) (following true us)))

-- parts after others
following-append : (ts us : List (List ℕ)) → following false (ts ++ us) ≡ following false ts ++ following (not (are_none ts)) us
following-append [] us = refl
following-append (t ∷ ts) us = ap (λ l. t ++ l) (following-true ts us) ∙ sym (append_assoc t (following true ts) (following true us))

listed-append : (ts us : List (List ℕ)) → listed (ts ++ us) ≡ following false ts ++ following (not (are_none ts)) us
listed-append ts us = listed-following (ts ++ us) ∙ following-append ts us

document-append : (ts us : List (List ℕ)) → document_content (ts ++ us) ≡ (following false ts ++ following (not (are_none ts)) us) ++ nothing Document (are_none ts && are_none us)
document-append [] [] = refl
document-append [] (u ∷ us) = listed-append [] (u ∷ us) ∙ sym (append-nil (following false (u ∷ us)))
document-append (t ∷ ts) us = listed-append (t ∷ ts) us ∙ sym (append-nil _)

pieces : (old a b c d e : List ℕ) → ((((old ++ a) ++ b) ++ c) ++ d) ++ e ≡ old ++ ((a ++ ((b ++ c) ++ d)) ++ e)
pieces old a b c d e = simp append_assoc

pub inner-text : (old name text : List ℕ) (k : Kind) (ts us : List (List ℕ)) → is_inner k ≡ true
    → ((((old ++ opening k name) ++ following false ts) ++ following (not (are_none ts)) us) ++ nothing k (are_none ts && are_none us)) ++ codes "}" ≡ old ++ constructor k name text (ts ++ us)
inner-text old name text Document ts us h = pieces old (opening Document name) _ _ _ (codes "}") ∙ ap (λ l. old ++ ((opening Document name ++ l) ++ codes "}")) (sym (document-append ts us))
inner-text old name text Element ts us h = pieces old (opening Element name) _ _ [] (codes "}") ∙ ap (λ l. old ++ ((opening Element name ++ l) ++ codes "}")) (append-nil _ ∙ sym (listed-append ts us))
inner-text old name text Attribute ts us h = absurd (false≢true h)
inner-text old name text Text ts us h = absurd (false≢true h)
inner-text old name text Comment ts us h = absurd (false≢true h)
inner-text old name text Instruction ts us h = absurd (false≢true h)

leaf-pieces : (old a b c : List ℕ) → ((old ++ a) ++ b) ++ c ≡ old ++ ((a ++ b) ++ c)
leaf-pieces old a b c = simp append_assoc

pub leaf-text : (old name text : List ℕ) (k : Kind) (parts : List (List ℕ)) → is_inner k ≡ false → ((old ++ opening k name) ++ literal text) ++ codes "}" ≡ old ++ constructor k name text parts
leaf-text old name text Document parts h = absurd (true≢false h)
leaf-text old name text Element parts h = absurd (true≢false h)
leaf-text old name text Attribute parts h = leaf-pieces old (opening Attribute name) (literal text) (codes "}")
leaf-text old name text Text parts h = leaf-pieces old (opening Text name) (literal text) (codes "}")
leaf-text old name text Comment parts h = leaf-pieces old (opening Comment name) (literal text) (codes "}")
leaf-text old name text Instruction parts h = leaf-pieces old (opening Instruction name) (literal text) (codes "}")

-- one more part
pub parts-step : (l m : LimitedTerm) (b : Bool) (t : List ℕ) (ts : List (List ℕ)) → (b ≡ true → m ≡ added l (codes ", ")) → (b ≡ false → m ≡ l) → added (added m t) (following true ts) ≡ added l (following b (t ∷ ts))
parts-step l m true t ts h g = ap (λ k. added (added k t) (following true ts)) (h refl) ∙ added-three l (codes ", ") t (following true ts) ∙ ap (added l) (append_assoc (codes ", ") t (following true ts))
parts-step l m false t ts h g = ap (λ k. added (added k t) (following true ts)) (g refl) ∙ added-twice l t (following true ts)
