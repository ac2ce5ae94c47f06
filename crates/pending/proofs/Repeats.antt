-- Which numbers stand in a list twice, by what was met before.
use Rattle.std.proofs.Common.{◌≡◌, ℕ, Bool, true, false, ◌||◌, ◌==◌, not, List, [], ◌∷◌, refl, sym, ◌∙◌, subst, Option, Some, filter_map, ⊎_elim}
use Rattle.std.specs.List.{list_any, cons_option}
use Rattle.std.proofs.lemmas.Bool.Decides.{eqb_tells}
use Rattle.pending.specs.Compatible.{is_among, has_repeat, has_two}

pub or-swapped : (a b c d : Bool) → ((a || b) || (c || d)) ≡ ((a || c) || (b || d))
or-swapped true b c d = refl
or-swapped false true true d = refl
or-swapped false true false d = refl
or-swapped false false c d = refl

pub turned : (i j : ℕ) → (i == j) ≡ (j == i)
turned i j = ⊎_elim (λ t x. t.1 x == sym t.1 x) (λ t. ⊎_elim (λ s x. sym s.1 x == s.1 x) (λ s. t.0 ∙ sym s.0) (eqb_tells j i)) (eqb_tells i j)

-- what is met by a test that knows one number more
any-more : (f g : ℕ → Bool) (i : ℕ) → ((j : ℕ) → g j ≡ ((j == i) || f j)) → (js : List ℕ) → list_any g js ≡ (is_among js i || list_any f js)
any-more f g i h [] = refl
any-more f g i h (j ∷ js) = rw (h j) (rw (any-more f g i h js) (rw (turned j i) (or-swapped (i == j) (f j) (is_among js i) (list_any f js))))

or-moved : (a b c : Bool) → ((a || b) || c) ≡ (b || (a || c))
or-moved true true c = refl
or-moved true false c = refl
or-moved false b c = refl

-- a number that was not met is kept, and the rest is looked up with it
pub kept : (old new : List ℕ) (i : ℕ) (is : List ℕ) → is_among old i ≡ false → ((j : ℕ) → is_among new j ≡ ((j == i) || is_among old j))
    → (list_any (is_among new) is || has_repeat is) ≡ (list_any (is_among old) (i ∷ is) || has_repeat (i ∷ is))
kept old new i is n h = rw n (rw (any-more (is_among old) (is_among new) i h is) (or-moved (is_among is i) (list_any (is_among old) is) (has_repeat is)))

-- nothing is among none
pub among-none : (is : List ℕ) → list_any (is_among []) is ≡ false
among-none [] = refl
among-none (i ∷ is) = among-none is

-- the same for primitives: the first of those that are left has a target that was not met
pub step : {A : Type 0} (target : A → Option ℕ) (old new : List ℕ) (p : A) (ps rest : List A) (i : ℕ) (is_so : Bool) → rest ≡ p ∷ ps → target p ≡ Some i → is_among old i ≡ false
    → ((j : ℕ) → is_among new j ≡ ((j == i) || is_among old j))
    → (list_any (is_among old) (filter_map target rest) || has_two target rest) ≡ is_so
    → (list_any (is_among new) (filter_map target ps) || has_two target ps) ≡ is_so
step target old new p ps rest i is_so e s n h b = kept old new i (filter_map target ps) n h ∙ whole
  where
    whole : (list_any (is_among old) (i ∷ filter_map target ps) || has_repeat (i ∷ filter_map target ps)) ≡ is_so
    whole = subst (λ o. (list_any (is_among old) (cons_option o (filter_map target ps)) || has_repeat (cons_option o (filter_map target ps))) ≡ is_so) s
        (subst (λ r. (list_any (is_among old) (filter_map target r) || has_two target r) ≡ is_so) e b)

-- what is new was not met
pub not-new : (b m : Bool) → b ≡ not m → b ≡ true → m ≡ false
not-new b true e t = sym t ∙ e
not-new b false e t = refl
