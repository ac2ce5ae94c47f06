-- A set of names.
use Rattle.std.proofs.Common.{◌≡◌, ℕ, Bool, true, false, ◌||◌, if◌then◌else◌, List, [], ◌∷◌, ◌++◌, map, Bor, refl, sym, ap, ◌∙◌}
use Rattle.std.specs.List.{list_any}
use Rattle.std.specs.Str.{bytes_eq}
use Rattle.std.proofs.lemmas.Slice.Eq.{bytes_eq-Decides}
use Rattle.name_sets.specs.NameSets.{is_among}

pub found : (x : List ℕ) (ks : List (Bor (List ℕ))) → list_any (λ k. bytes_eq x k.now) ks ≡ is_among x (map (λ (k : Bor (List ℕ)). k.now) ks)
found x [] = refl
found x (k ∷ ks) = ap (λ b. bytes_eq x k.now || b) (found x ks)

abbrev pub names_of : List (Bor (List ℕ)) → List (List ℕ)
names_of ks = map (λ (k : Bor (List ℕ)). k.now) ks

last_met : (x : List ℕ) (k : Bor (List ℕ)) (ks : List (Bor (List ℕ))) → is_among x (names_of (ks ++ k ∷ [])) ≡ bytes_eq x k.now || is_among x (names_of ks)
last_met x k [] = refl
last_met x k (j ∷ ks) = ap (λ b. bytes_eq x j.now || b) (last_met x k ks) ∙ of (bytes_eq x j.now) (bytes_eq x k.now) (is_among x (names_of ks))
  where
    of : (p q r : Bool) → p || (q || r) ≡ q || (p || r)
    of true true r = refl
    of true false r = refl
    of false q r = refl

pub added : (x : List ℕ) (k : Bor (List ℕ)) (ks : List (Bor (List ℕ))) → is_among x (names_of (if list_any (λ j. bytes_eq k.now j.now) ks then ks else ks ++ k ∷ [])) ≡ bytes_eq x k.now || is_among x (names_of ks)
added x k ks = of (list_any (λ j. bytes_eq k.now j.now) ks) (found k.now ks)
  where
    met : (b : Bool) → bytes_eq x k.now ≡ b → true ≡ is_among k.now (names_of ks) → is_among x (names_of ks) ≡ b || is_among x (names_of ks)
    met true e h = ap (λ y. is_among y (names_of ks)) ((bytes_eq-Decides x k.now).0 e) ∙ sym h
    met false e h = refl

    of : (b : Bool) → b ≡ is_among k.now (names_of ks) → is_among x (names_of (if b then ks else ks ++ k ∷ [])) ≡ bytes_eq x k.now || is_among x (names_of ks)
    of true h = met (bytes_eq x k.now) refl h
    of false h = last_met x k ks
