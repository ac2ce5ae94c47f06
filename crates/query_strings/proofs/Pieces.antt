-- Texts that are made piece by piece.
use Rattle.std.proofs.Common.{◌≡◌, ℕ, List, [], ◌∷◌, ◌++◌, map, drop, Bor, sym, ap, ◌∙◌, subst, Result, Ok, append_assoc, codes}
use Rattle.std.specs.List.{flat_map}
use Rattle.std.proofs.lemmas.List.{append-nil}
use Rattle.values.specs.declared.atom.Atom.{Atom}
use Rattle.values.specs.declared.fault.ValueFault.{ValueFault}
use Rattle.query_meaning.specs.Strings.{limited, printed, separated, spaced}
use Rattle.evaluation.specs.Gives.{Says}
use Rattle.query_strings.specs.Texts.{text_at}

-- a loop that adds a piece for each of a list: what there is, and the pieces that are left, are the whole
pub record IsPart {A : Type 0} (piece : A → List ℕ) (whole : List ℕ) (xs : List A) (k : ℕ) (s : List ℕ) : Type 0 where
  pub is : s ++ flat_map piece (drop k xs) ≡ whole
  pub fits : limited s ≡ Ok s

-- a separator before each text but the first
pub separated_is : (separator : List ℕ) (t : List ℕ) (ts : List (Bor (List ℕ))) → separated separator (t ∷ map text_at ts) ≡ t ++ flat_map (λ u. separator ++ text_at u) ts
separated_is separator t [] = sym (append-nil t)
separated_is separator t (u ∷ ts) =
    ap (λ w. (t ++ separator) ++ w) (separated_is separator (text_at u) ts) ∙ append_assoc t separator (text_at u ++ flat_map (λ v. separator ++ text_at v) ts)
    ∙ ap (λ w. t ++ w) (sym (append_assoc separator (text_at u) (flat_map (λ v. separator ++ text_at v) ts)))

pub separated_says : (separator : List ℕ) (texts : List (Bor (List ℕ))) (first : Bor (List ℕ)) (others : List (Bor (List ℕ))) (r : Result (List ℕ) ValueFault) → texts ≡ first ∷ others
    → Says (limited (text_at first ++ flat_map (λ u. separator ++ text_at u) others)) r → Says (limited (separated separator (map text_at texts))) r
separated_says separator texts first others r is h =
    let P : List ℕ → Type 0 = λ w. Says (limited w) r in
    subst P (sym (ap (λ ts. separated separator (map text_at ts)) is ∙ separated_is separator (text_at first) others)) h

-- a space before each value but the first
spaced_is : (a : Atom) (xs : List Atom) → separated (codes " ") (map printed (a ∷ xs)) ≡ printed a ++ flat_map (λ b. codes " " ++ printed b) xs
spaced_is a [] = sym (append-nil (printed a))
spaced_is a (b ∷ xs) =
    ap (λ w. (printed a ++ codes " ") ++ w) (spaced_is b xs) ∙ append_assoc (printed a) (codes " ") (printed b ++ flat_map (λ x. codes " " ++ printed x) xs)
    ∙ ap (λ w. printed a ++ w) (sym (append_assoc (codes " ") (printed b) (flat_map (λ x. codes " " ++ printed x) xs)))

pub spaced_says : (values : List Atom) (first : Atom) (others : List Atom) (r : Result (List ℕ) ValueFault) → values ≡ first ∷ others
    → Says (limited (printed first ++ flat_map (λ b. codes " " ++ printed b) others)) r → Says (spaced values) r
spaced_says values first others r is h =
    let P : List ℕ → Type 0 = λ w. Says (limited w) r in
    subst P (sym (ap (λ xs. separated (codes " ") (map printed xs)) is ∙ spaced_is first others)) h
