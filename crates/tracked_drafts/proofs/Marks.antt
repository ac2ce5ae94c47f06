-- Identities that are noted, and that stay so.
use Rattle.std.proofs.Common.{◌≡◌, ℕ, Bool, true, false, ◌||◌, ◌==◌, List, [], ◌∷◌, ◌++◌, drop, length, refl, ap, sym, ◌∙◌, subst}
use Rattle.std.proofs.lemmas.List.{append_assoc, take-append-drop}
use Rattle.data_model.specs.Trees.{Trees, no_trees, tree, append}
use Rattle.pending.specs.Compatible.{is_among}
use Rattle.tracked_drafts.specs.Tests.{AllAmong, Begins}

pub begins-same : (is : List ℕ) → Begins is is
begins-same [] = refl
begins-same (i ∷ is) = ap (λ xs. i ∷ xs) (begins-same is)

pub begins-more : (is js : List ℕ) → Begins is (is ++ js)
begins-more [] [] = refl
begins-more [] (j ∷ js) = refl
begins-more (i ∷ is) js = ap (λ xs. i ∷ xs) (begins-more is js)

pub begins-trans : (is js ks : List ℕ) → Begins is js → Begins js ks → Begins is ks
begins-trans is js ks a b =
    let x : js ≡ is ++ drop (length is) js = sym (take-append-drop (length is) js) ∙ ap (λ xs. xs ++ drop (length is) js) a in
    let y : ks ≡ js ++ drop (length js) ks = sym (take-append-drop (length js) ks) ∙ ap (λ xs. xs ++ drop (length js) ks) b in
    let z : ks ≡ is ++ (drop (length is) js ++ drop (length js) ks) = y ∙ ap (λ xs. xs ++ drop (length js) ks) x ∙ append_assoc is (drop (length is) js) (drop (length js) ks) in
    subst (Begins is) (sym z) (begins-more is (drop (length is) js ++ drop (length js) ks))

among-more : (is js : List ℕ) (i : ℕ) → is_among is i ≡ true → is_among (is ++ js) i ≡ true
among-more [] js i h = cc
among-more (k ∷ is) js i h = pick (i == k) (is_among is i) (is_among (is ++ js) i) (among-more is js i) h
  where
    pick : (b m n : Bool) → (m ≡ true → n ≡ true) → (b || m) ≡ true → (b || n) ≡ true
    pick true m n f e = refl
    pick false m n f e = f e

pub begins-among : (is js : List ℕ) → Begins is js → (i : ℕ) → is_among is i ≡ true → is_among js i ≡ true
begins-among is js a i h =
    let x : js ≡ is ++ drop (length is) js = sym (take-append-drop (length is) js) ∙ ap (λ xs. xs ++ drop (length is) js) a in
    subst (λ (ks : List ℕ). is_among ks i ≡ true) (sym x) (among-more is (drop (length is) js) i h)

-- ---- whole trees
pub all-begins : (is js : List ℕ) (ts : Trees) → Begins is js → AllAmong is ts → AllAmong js ts
all-begins is js no_trees b h = tt
all-begins is js (tree c bs cs rest) b h = (begins-among is js b c.identity h.0, all-begins is js bs b h.1, all-begins is js cs b h.2, all-begins is js rest b h.3)

pub all-append : (is : List ℕ) (ts us : Trees) → AllAmong is ts → AllAmong is us → AllAmong is (append ts us)
all-append is no_trees us h k = k
all-append is (tree c bs cs rest) us h k = (h.0, h.1, h.2, all-append is rest us h.3 k)
