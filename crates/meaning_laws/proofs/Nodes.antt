-- Counts of nodes in listings, lists of texts and copies.
use Rattle.std.proofs.Common.{◌≡◌, ◌⊎◌, inl, inr, ℕ, ◌+◌, ◌<◌, ◌≤◌, eqb, ltb, cond, Bool, true, false, not, ◌||◌, ◌&&◌, if◌then◌else◌, List, [], ◌∷◌, ◌++◌, length, filter, refl, subst, sym, arith}
use Rattle.data_model.specs.Axes.{is_in}
use Rattle.data_model.specs.Order.{identities}
use Rattle.data_model.specs.Trees.{Trees, no_trees, tree, Content, append, count, is_text}
use Rattle.data_model.specs.Walks.{held, root_of}
use Rattle.data_model.specs.declared.node.Kind.{Kind}
use Rattle.data_model.proofs.Firsts.{held-identities, eqb-swap}
use Rattle.data_model.proofs.Climbs.{any-tells, root-front, root-back}
use Rattle.data_model.proofs.Weights.{eqb-same, weigh-append}
use Rattle.pending.specs.Texts.{before_merged, merged, without_empty_texts, is_empty_text}
use Rattle.query_meaning.specs.Content.{those}
use Rattle.query_meaning.specs.Operators.{nodes}
use Rattle.meaning_laws.specs.Given.{AllStand}

pub both_counted : (i : ℕ) (ts us : Trees) → count i (append ts us) ≡ count i ts + count i us
both_counted i ts us = weigh-append (λ j. cond (eqb i j) 1 0) ts us

-- each is in the trees
abbrev pub AreIn : Trees → List ℕ → Type 0
AreIn ts [] = Unit {0}
AreIn ts (i ∷ is) = (0 < count i ts) × AreIn ts is

pub nodes_stand : (ts : Trees) (is : List ℕ) → AreIn ts is → AllStand ts (nodes is)
nodes_stand ts [] h = tt
nodes_stand ts (i ∷ is) h = (h.0, nodes_stand ts is h.1)

-- of a listing's identities each is in the trees
among : (ts : Trees) (xs : List ℕ) → ((i : ℕ) → 0 < held i xs → 0 < count i ts) → AreIn ts xs
among ts [] h = tt
among ts (x ∷ xs) h = (h x (here x), among ts xs (λ i g. h i (later i g)))
  where
    here : (x : ℕ) → 0 < held x (x ∷ xs)
    here x = subst (λ b. 0 < cond b 1 0 + held x xs) (sym (eqb-same x)) (omega arith)

    later : (i : ℕ) → 0 < held i xs → 0 < held i (x ∷ xs)
    later i g = omega (arith, g)

pub listed : (ts : Trees) → AreIn ts (identities ts)
listed ts = among ts (identities ts) (λ i h. subst (λ n. 0 < n) (held-identities i ts) h)

filter_if : (ts : Trees) (x : ℕ) (xs : List ℕ) (b : Bool) → 0 < count x ts → AreIn ts xs → AreIn ts (cond b (x ∷ xs) xs)
filter_if ts x xs true h g = (h, g)
filter_if ts x xs false h g = g

pub filtered : (ts : Trees) (p : ℕ → Bool) (xs : List ℕ) → AreIn ts xs → AreIn ts (filter p xs)
filtered ts p [] h = tt
filtered ts p (x ∷ xs) h = filter_if ts x (filter p xs) (p x) h.0 (filtered ts p xs h.1)

-- of distinct ones no more are in a list than it has
either_filter : (a b : ℕ → Bool) (xs : List ℕ) → length (filter (λ i. a i || b i) xs) ≤ length (filter a xs) + length (filter b xs)
either_filter a b [] = omega arith
either_filter a b (x ∷ xs) = step (a x) (b x) (filter (λ i. a i || b i) xs) (filter a xs) (filter b xs) (either_filter a b xs)
  where
    step : (p q : Bool) (us vs ws : List ℕ) → length us ≤ length vs + length ws → length (cond (p || q) (x ∷ us) us) ≤ length (cond p (x ∷ vs) vs) + length (cond q (x ∷ ws) ws)
    step true true us vs ws h = omega (arith, h)
    step true false us vs ws h = omega (arith, h)
    step false true us vs ws h = omega (arith, h)
    step false false us vs ws h = h

none_pass : (xs : List ℕ) → length (filter (λ i. false) xs) ≤ 0
none_pass [] = omega arith
none_pass (x ∷ xs) = none_pass xs

same_pass : (j : ℕ) (xs : List ℕ) → length (filter (λ i. eqb i j) xs) ≤ held j xs
same_pass j [] = omega arith
same_pass j (x ∷ xs) = step (eqb x j) (eqb j x) (filter (λ i. eqb i j) xs) (held j xs) (eqb-swap x j (eqb x j) refl) (same_pass j xs)
  where
    step : (p q : Bool) (us : List ℕ) (n : ℕ) → q ≡ p → length us ≤ n → length (cond p (x ∷ us) us) ≤ cond q 1 0 + n
    step true true us n e h = omega (arith, h)
    step true false us n e h = absurd (let f : ⊥ = cc in f)
    step false true us n e h = absurd (let f : ⊥ = cc in f)
    step false false us n e h = omega (arith, h)

pub members : (is xs : List ℕ) → ((i : ℕ) → held i xs ≤ 1) → length (filter (λ i. is_in i is) xs) ≤ length is
members [] xs once = none_pass xs
members (j ∷ js) xs once =
    let first = either_filter (λ i. eqb i j) (λ i. is_in i js) xs in let one = same_pass j xs in let all = once j in let more = members js xs once in
    omega (arith, first, one, all, more)

-- the root of a node's tree stands
pub root_stands : (i : ℕ) (ts : Trees) → 0 < count i ts → 0 < count (root_of i ts) ts
root_stands i no_trees h = absurd (omega (arith, h))
root_stands i (tree c bs cs rest) h = of (root_stands i rest) (any-tells (count i (tree c bs cs no_trees)))
  where
    of : (0 < count i rest → 0 < count (root_of i rest) rest) → ((ltb 0 (count i (tree c bs cs no_trees)) ≡ true) × (0 < count i (tree c bs cs no_trees))) ⊎ ((ltb 0 (count i (tree c bs cs no_trees)) ≡ false) × (count i (tree c bs cs no_trees) ≡ 0)) → 0 < count (root_of i (tree c bs cs rest)) (tree c bs cs rest)
    of later (inl a) = subst (λ j. 0 < count j (tree c bs cs rest)) (sym (root-front c bs cs rest i a.1))
        (subst (λ b. 0 < cond b 1 0 + count c.identity bs + count c.identity cs + count c.identity rest) (sym (eqb-same c.identity)) (omega arith))
    of later (inr n) = let k = later (omega (arith, h, n.1)) in subst (λ j. 0 < count j (tree c bs cs rest)) (sym (root-back c bs cs rest i n.1)) (omega (arith, k))

-- Lists of trees that lose some.

pub before_merged_few : (i : ℕ) (c : Content) (bs cs ts : Trees) → count i (before_merged c bs cs ts) ≤ count i (tree c bs cs ts)
before_merged_few i c bs cs no_trees = omega arith
before_merged_few i c bs cs (tree d ds es rest) = of (is_text c.kind && is_text d.kind)
  where
    of : (b : Bool) → count i (if b then tree (record c { text = c.text ++ d.text }) bs cs rest else tree c bs cs (tree d ds es rest)) ≤ count i (tree c bs cs (tree d ds es rest))
    of true = omega arith
    of false = omega arith

pub merged_few : (i : ℕ) (ts : Trees) → count i (merged ts) ≤ count i ts
merged_few i no_trees = omega arith
merged_few i (tree c bs cs rest) = let a = before_merged_few i c bs cs (merged rest) in let b = merged_few i rest in omega (arith, a, b)

pub without_empty_few : (i : ℕ) (ts : Trees) → count i (without_empty_texts ts) ≤ count i ts
without_empty_few i no_trees = omega arith
without_empty_few i (tree c bs cs rest) = of (is_empty_text c) (without_empty_few i rest)
  where
    of : (b : Bool) → count i (without_empty_texts rest) ≤ count i rest → count i (if b then without_empty_texts rest else tree c bs cs (without_empty_texts rest)) ≤ count i (tree c bs cs rest)
    of true h = omega (arith, h)
    of false h = omega (arith, h)

pub two_parts : (i : ℕ) (f : Kind → Bool) (ts : Trees) → count i (those f ts) + count i (those (λ k. not (f k)) ts) ≡ count i ts
two_parts i f no_trees = refl
two_parts i f (tree c bs cs rest) = of (f c.kind) (those f rest) (those (λ k. not (f k)) rest) (two_parts i f rest)
  where
    of : (b : Bool) (us vs : Trees) → count i us + count i vs ≡ count i rest → count i (if b then tree c bs cs us else us) + count i (if not b then tree c bs cs vs else vs) ≡ count i (tree c bs cs rest)
    of true us vs h = omega (arith, h)
    of false us vs h = omega (arith, h)
