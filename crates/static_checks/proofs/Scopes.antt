-- Names that are bound, and the variables that stand for them.
use Rattle.std.proofs.Common.{◌≡◌, ℕ, Bool, true, false, ◌||◌, if◌then◌else◌, List, [], ◌∷◌, ◌++◌, map, length, take, Bor, refl, ap, sym, ◌∙◌}
use Rattle.std.proofs.lemmas.List.{take-map, append-nil, append_assoc}
use Rattle.std.proofs.Math.Seq.{take-append_seam}
use Rattle.std.proofs.lemmas.List.Folds.{list_any-append}
use Rattle.std.proofs.lemmas.Slice.Eq.{bytes_eq-Decides}
use Rattle.std.specs.List.{list_any}
use Rattle.std.specs.Str.{bytes_eq}
use Rattle.static_checks.specs.Parts.{Scope}
use Rattle.static_checks.specs.Scopes.{Names, AreBound, with_name, with_names}
use Rattle.static_checks.specs.Variables.{is_bound}
use Rattle.static_checks.proofs.Mapped.{map_both}
use Rattle.static_checks.proofs.Passes.{any_map}

-- what keys stand for
abbrev pub names_of : List (Bor (List ℕ)) → Names
names_of ks = map (λ (k : Bor (List ℕ)). k.now) ks

pub found_among : (x : List ℕ) (ks : List (Bor (List ℕ))) → list_any (λ k. bytes_eq x k.now) ks ≡ is_bound x (names_of ks)
found_among x ks = sym (any_map (bytes_eq x) (λ k. k.now) ks)

pub first_names : (n : ℕ) (ks : List (Bor (List ℕ))) → names_of (take n ks) ≡ take n (names_of ks)
first_names n ks = sym (take-map (λ (k : Bor (List ℕ)). k.now) n ks)

pub added : (k : Bor (List ℕ)) (ks : List (Bor (List ℕ))) → names_of (if list_any (λ j. bytes_eq k.now j.now) ks then ks else ks ++ k ∷ []) ≡ with_name k.now (names_of ks)
added k ks = by (list_any (λ j. bytes_eq k.now j.now) ks) (found_among k.now ks)
  where
    by : (b : Bool) → b ≡ is_bound k.now (names_of ks) → names_of (if b then ks else ks ++ k ∷ []) ≡ with_name k.now (names_of ks)
    by true h = ap (λ b. if b then names_of ks else names_of ks ++ k.now ∷ []) h
    by false h = map_both (λ (j : Bor (List ℕ)). j.now) ks (k ∷ []) ∙ ap (λ b. if b then names_of ks else names_of ks ++ k.now ∷ []) h

or_true : (a : Bool) → a || (true || false) ≡ true
or_true true = refl
or_true false = refl

or_false : (a : Bool) → a || (false || false) ≡ a
or_false true = refl
or_false false = refl

-- a name is among them with one more
one_more : (v x : List ℕ) (names : Names) → is_bound v (with_name x names) ≡ bytes_eq v x || is_bound v names
one_more v x names = by (is_bound x names) refl (bytes_eq v x) refl
  where
    equal : (b : Bool) → bytes_eq v x ≡ true → is_bound x names ≡ b → is_bound v names ≡ b
    equal b e h = ap (λ y. is_bound y names) ((bytes_eq-Decides v x).0 e) ∙ h

    by : (b : Bool) → is_bound x names ≡ b → (e : Bool) → bytes_eq v x ≡ e → is_bound v (if b then names else names ++ x ∷ []) ≡ e || is_bound v names
    by true h true e = equal true e h
    by true h false e = refl
    by false h true e = list_any-append (bytes_eq v) names (x ∷ []) ∙ ap (λ b. is_bound v names || (b || false)) e ∙ or_true (is_bound v names)
    by false h false e = list_any-append (bytes_eq v) names (x ∷ []) ∙ ap (λ b. is_bound v names || (b || false)) e ∙ or_false (is_bound v names)

-- with more names, the names are those of more variables
pub more_bound : (xs : Scope) (names : Names) (bound : Scope) → AreBound names bound → AreBound (with_names xs names) (xs ++ bound)
more_bound [] names bound h = h
more_bound (x ∷ xs) names bound h = λ v. one_more v x (with_names xs names) ∙ ap (λ b. bytes_eq v x || b) (more_bound xs names bound h v)

pub with_both : (xs ys : Scope) (names : Names) → with_names (xs ++ ys) names ≡ with_names xs (with_names ys names)
with_both [] ys names = refl
with_both (x ∷ xs) ys names = ap (with_name x) (with_both xs ys names)

-- what stands there stays in front
grown_by_one : (x : List ℕ) (names : Names) → (more : Names) × (with_name x names ≡ names ++ more)
grown_by_one x names = by (is_bound x names)
  where
    by : (b : Bool) → (more : Names) × ((if b then names else names ++ x ∷ []) ≡ names ++ more)
    by true = ([], sym (append-nil names))
    by false = (x ∷ [], refl)

grown : (xs : Scope) (names : Names) → (more : Names) × (with_names xs names ≡ names ++ more)
grown [] names = ([], sym (append-nil names))
grown (x ∷ xs) names =
    let front : (more : Names) × (with_names xs names ≡ names ++ more) = grown xs names in
    let last : (more : Names) × (with_name x (with_names xs names) ≡ with_names xs names ++ more) = grown_by_one x (with_names xs names) in
    (front.0 ++ last.0, last.1 ∙ ap (λ ys. ys ++ last.0) front.1 ∙ append_assoc names front.0 last.0)

pub taken_back : (xs : Scope) (names : Names) → take (length names) (with_names xs names) ≡ names
taken_back xs names = let more : (more : Names) × (with_names xs names ≡ names ++ more) = grown xs names in ap (take (length names)) more.1 ∙ take-append_seam names more.0
