-- Whether a text holds another.
use Rattle.std.proofs.Common.{◌≡◌, ℕ, Bool, true, false, List, [], ◌∷◌, ◌++◌, length, drop, refl, sym, ap, ◌∙◌}
use Rattle.std.specs.Prelude.{◌↔◌, ◌==◌, ◌||◌}
use Rattle.std.specs.List.{starts_with}
use Rattle.std.specs.Str.Iter.{HasSubslice}
use Rattle.std.proofs.lemmas.Bool.Decides.{Decides-eqb, same_from_decides}
use Rattle.std.proofs.lemmas.Slice.Eq.{bytes_eq-Decides, starts_is}
use Rattle.std.proofs.lemmas.List.{append-nil}
use Rattle.data_model.specs.Tidy.{holds_text}

-- where a text begins with another
front : (s p : List ℕ) → starts_with ◌==◌ s p ≡ true → s ≡ p ++ drop (length p) s
front s p e = (starts_is Decides-eqb s p (starts_with ◌==◌ s p) refl).0 e

back : (s p rest : List ℕ) → s ≡ p ++ rest → starts_with ◌==◌ s p ≡ true
back s p rest e = (starts_is Decides-eqb s p (starts_with ◌==◌ s p) refl).1 rest e

pub found : (part s : List ℕ) → holds_text part s ≡ true → HasSubslice s part
found part [] e = let none : part ≡ [] = (bytes_eq-Decides part []).0 e in ([], [], sym (append-nil part ∙ none))
found part (b ∷ bs) e = by (starts_with ◌==◌ (b ∷ bs) part) refl (found part bs) e
  where
    later : HasSubslice bs part → HasSubslice (b ∷ bs) part
    later h = (b ∷ h.0, h.1, ap (λ cs. b ∷ cs) h.2)

    by : (t : Bool) → starts_with ◌==◌ (b ∷ bs) part ≡ t → (holds_text part bs ≡ true → HasSubslice bs part) → t || holds_text part bs ≡ true → HasSubslice (b ∷ bs) part
    by true is rest e = ([], drop (length part) (b ∷ bs), front (b ∷ bs) part is)
    by false is rest e = later (rest e)

pub holds : (part s a c : List ℕ) → s ≡ a ++ (part ++ c) → holds_text part s ≡ true
holds part [] [] c e = (bytes_eq-Decides part []).1 (first part e)
  where
    first : (p : List ℕ) → [] ≡ p ++ c → p ≡ []
    first [] e = refl
    first (b ∷ bs) e = cc
holds part [] (d ∷ ds) c e = cc
holds part (b ∷ bs) [] c e = ap (λ t. t || holds_text part bs) (back (b ∷ bs) part c e)
holds part (b ∷ bs) (d ∷ ds) c e = or_later (starts_with ◌==◌ (b ∷ bs) part) (holds part bs ds c cc)
  where
    or_later : (t : Bool) → holds_text part bs ≡ true → t || holds_text part bs ≡ true
    or_later true h = refl
    or_later false h = h

-- a test that is true just where the text stands there
pub holds_is : (r : Bool) (part s : List ℕ) → (r ≡ true) ↔ HasSubslice s part → r ≡ holds_text part s
holds_is r part s h = same_from_decides r (holds_text part s) (h.0, h.1) (found part s, λ w. holds part s w.0 w.1 w.2)
