-- A node that passes a test needs no exception; and where there is none, the tests are those of what an update leaves.
use Prim.Native.Nat.{suc}
use Rattle.std.proofs.Common.{◌≡◌, ℕ, ◌+◌, ◌≤◌, ◌<◌, Bool, true, false, not, ◌&&◌, ◌||◌, ◌==◌, cond, eqb, ltb, nat_lt, List, [], ◌∷◌, refl, sym, ◌∙◌, arith, ⊎_elim, ◌⊎◌, inl, inr, Option, Some, None}
use Rattle.std.proofs.lemmas.Bool.Decides.{eqb_tells, nat_tests}
use Rattle.data_model.specs.Trees.{Trees, no_trees, tree, Place, count, find_below, height, is_text}
use Rattle.pending.specs.Texts.{is_empty_text}
use Rattle.data_model.specs.Tidy.{begins_with_text}
use Rattle.data_model.specs.Walks.{depth_of}
use Rattle.data_model.proofs.Climbs.{any-tells, find-absent}
use Rattle.pending.specs.Compatible.{is_among}
use Rattle.update_meaning.specs.Results.{are_apart, are_filled, all_nodes, has_distinct_attributes, is_small}
use Rattle.update_meaning.proofs.Booleans.{four, all-four}
use Rattle.tracked_drafts.specs.Tests.{NodeTest, all_but, is_apart, is_filled, is_named, is_limited, is_within}
use Rattle.tracked_drafts.proofs.Places.{find-beside}
use Rattle.tracked_drafts.proofs.Tests.{passes, passing}

-- the node i passes the test, where it stands
abbrev pub passes_at : ℕ → NodeTest → ℕ → Trees → Bool
passes_at i test n no_trees = true
passes_at i test n (tree c bs cs rest) = (not (eqb i c.identity) || test n c bs cs (begins_with_text rest)) && passes_at i test (suc n) bs && passes_at i test (suc n) cs && passes_at i test n rest

-- a text comes right after the node i
abbrev pub is_followed : ℕ → Trees → Bool
is_followed i no_trees = false
is_followed i (tree c bs cs rest) = cond (eqb i c.identity) (begins_with_text rest) (is_followed i bs || is_followed i cs || is_followed i rest)

-- ---- the node alone
pub followed-absent : (i : ℕ) (ts : Trees) → count i ts ≡ 0 → is_followed i ts ≡ false
followed-absent i no_trees h = refl
followed-absent i (tree c bs cs rest) h =
    ⊎_elim (λ t. (let z = rw t.0 at h in absurd (omega arith)))
    (λ t. (let z = rw t.0 at h in rw (t.0, followed-absent i bs (omega arith), followed-absent i cs (omega arith)) (followed-absent i rest (omega arith)))) (eqb_tells i c.identity)

pub passes-absent : (i : ℕ) (test : NodeTest) (n : ℕ) (ts : Trees) → count i ts ≡ 0 → passes_at i test n ts ≡ true
passes-absent i test n no_trees h = refl
passes-absent i test n (tree c bs cs rest) h =
    ⊎_elim (λ t. (let z = rw t.0 at h in absurd (omega arith)))
    (λ t. (let z = rw t.0 at h in rw (t.0, passes-absent i test (suc n) bs (omega arith), passes-absent i test (suc n) cs (omega arith)) (passes-absent i test n rest (omega arith)))) (eqb_tells i c.identity)

or-false : (a : Bool) → (a || false) ≡ a
or-false true = refl
or-false false = refl

and-true : (a : Bool) → (a && true) ≡ a
and-true true = refl
and-true false = refl

and-two : (a : Bool) → (a && true && true) ≡ a
and-two true = refl
and-two false = refl

and-trues : (a : Bool) → (a && true && true && true) ≡ a
and-trues true = refl
and-trues false = refl

or-two : (a : Bool) → (a || false || false) ≡ a
or-two true = refl
or-two false = refl

none-above : (n : ℕ) → ltb 0 n ≡ false → n ≡ 0
none-above n e = ⊎_elim (λ u. (let z : true ≡ false = sym u.0 ∙ e in cc)) (λ u. u.1) (any-tells n)

-- what the test sees of it
pub passes-found : (i : ℕ) (test : NodeTest) (o : Option ℕ) (n : ℕ) (ts : Trees) (x : Place) → count i ts ≤ 1 → find_below o i ts ≡ Some x → passes_at i test n ts ≡ test (n + depth_of i ts) x.content x.attributes x.children (is_followed i ts)
passes-found i test o n no_trees x one found = cc
passes-found i test o n (tree c bs cs rest) x one found =
    ⊎_elim
    (λ t. (let l = rw t.0 at one in let f = rw t.0 at found in
    let a : x.content ≡ c = cc in let b : x.attributes ≡ bs = cc in let d : x.children ≡ cs = cc in let z : n + 0 ≡ n = omega arith in
    rw (t.0, passes-absent i test (suc n) bs (omega arith), passes-absent i test (suc n) cs (omega arith), passes-absent i test n rest (omega arith)) (rw (a, b, d, z) (and-trues (test n c bs cs (begins_with_text rest))))))
    (λ t. (let l = rw t.0 at one in
    ⊎_elim
    (λ a. (let there = there-below (Some c.identity) i bs x a.0 in let s = shift n (depth_of i bs) in
    rw (t.0, there, passes-absent i test (suc n) cs a.1, passes-absent i test n rest a.2, followed-absent i cs a.1, followed-absent i rest a.2) (let z = passes-found i test (Some c.identity) (suc n) bs x (omega arith) a.0 in and-two (passes_at i test (suc n) bs) ∙ rw (s, or-two (is_followed i bs)) z)))
    (λ d. ⊎_elim
    (λ a. (let there = there-below (Some c.identity) i cs x a.1 in let gone = not-there i bs a.0 in let s = shift n (depth_of i cs) in
    rw (t.0, gone, there, passes-absent i test (suc n) bs a.0, passes-absent i test n rest a.2, followed-absent i bs a.0, followed-absent i rest a.2) (let z = passes-found i test (Some c.identity) (suc n) cs x (omega arith) a.1 in and-true (passes_at i test (suc n) cs) ∙ rw (s, or-false (is_followed i cs)) z)))
    (λ a. (let gone = not-there i bs a.0 in let left = not-there i cs a.1 in
    rw (t.0, gone, left, passes-absent i test (suc n) bs a.0, passes-absent i test (suc n) cs a.1, followed-absent i bs a.0, followed-absent i cs a.1) (passes-found i test o n rest x (omega arith) a.2))) d)
    (find-beside o i c bs cs rest x t.0 one found).where_it_is))
    (eqb_tells i c.identity)
  where
    shift : (n k : ℕ) → n + suc k ≡ suc n + k
    shift n k = omega arith

    some-none : (x : Place) (o : Option Place) → o ≡ Some x → o ≡ None → ⊥
    some-none x o e f = (let z : Some x ≡ None = sym e ∙ f in cc)

    there-below : (o : Option ℕ) (i : ℕ) (ts : Trees) (x : Place) → find_below o i ts ≡ Some x → ltb 0 (count i ts) ≡ true
    there-below o i ts x f = ⊎_elim (λ u. u.0) (λ u. absurd (some-none x (find_below o i ts) f (find-absent o i ts u.1))) (any-tells (count i ts))

    not-there : (i : ℕ) (ts : Trees) → count i ts ≡ 0 → ltb 0 (count i ts) ≡ false
    not-there i ts h = rw h refl

-- ---- an exception less
exit-here : (e t : Bool) (a : Bool) → ((e || a) || t) ≡ true → (not e || t) ≡ true → (a || t) ≡ true
exit-here true t a h k = ⊎_elim (λ u. rw u (or-true a)) (λ u. absurd (let z : false ≡ true = sym u ∙ k in cc)) (true-false t)
  where
    true-false : (b : Bool) → (b ≡ true) ⊎ (b ≡ false)
    true-false true = inl refl
    true-false false = inr refl

    or-true : (b : Bool) → (b || true) ≡ true
    or-true true = refl
    or-true false = refl
exit-here false t a h k = h

swapped : (i j : ℕ) → eqb i j ≡ eqb j i
swapped i j = ⊎_elim (λ t. rw t.1 refl) (λ t. ⊎_elim (λ u. absurd (t.1 (sym u.1))) (λ u. rw (t.0, u.0) refl) (eqb_tells j i)) (eqb_tells i j)

pub all_but-exit : (i : ℕ) (is : List ℕ) (test : NodeTest) (n : ℕ) (ts : Trees) → all_but (i ∷ is) test n ts ≡ true → passes_at i test n ts ≡ true → all_but is test n ts ≡ true
all_but-exit i is test n no_trees h k = refl
all_but-exit i is test n (tree c bs cs rest) h k =
    let p = passes (i ∷ is) test n c bs cs rest h in
    let q = four (not (eqb i c.identity) || test n c bs cs (begins_with_text rest)) (passes_at i test (suc n) bs) (passes_at i test (suc n) cs) (passes_at i test n rest) k in
    passing is test n c bs cs rest (exit-here (eqb c.identity i) (test n c bs cs (begins_with_text rest)) (is_among is c.identity) p.here (rw (← swapped i c.identity) q.first)) (all_but-exit i is test (suc n) bs p.attributes q.second)
    (all_but-exit i is test (suc n) cs p.children q.third) (all_but-exit i is test n rest p.others q.fourth)

-- where all pass, each does
weaker : (e t : Bool) → t ≡ true → (not e || t) ≡ true
weaker true t h = h
weaker false t h = refl

pub all-pass : (i : ℕ) (test : NodeTest) (n : ℕ) (ts : Trees) → all_but [] test n ts ≡ true → passes_at i test n ts ≡ true
all-pass i test n no_trees h = refl
all-pass i test n (tree c bs cs rest) h =
    let p = passes [] test n c bs cs rest h in
    all-four (not (eqb i c.identity) || test n c bs cs (begins_with_text rest)) (passes_at i test (suc n) bs) (passes_at i test (suc n) cs) (passes_at i test n rest) (weaker (eqb i c.identity) (test n c bs cs (begins_with_text rest)) p.here)
    (all-pass i test (suc n) bs p.attributes) (all-pass i test (suc n) cs p.children) (all-pass i test n rest p.others)

-- ---- no exceptions
root-or : (b t : Bool) → t ≡ true → (b || t) ≡ true
root-or true t h = refl
root-or false t h = h

pub none-apart : (n : ℕ) (ts : Trees) → are_apart ts ≡ true → all_but [] is_apart n ts ≡ true
none-apart n no_trees h = refl
none-apart n (tree c bs cs rest) h =
    let f = four (not (is_text c.kind && begins_with_text rest)) (are_apart bs) (are_apart cs) (are_apart rest) h in
    passing [] is_apart n c bs cs rest (root-or (n == 0) (not (is_text c.kind && begins_with_text rest)) f.first) (none-apart (suc n) bs f.second) (none-apart (suc n) cs f.third) (none-apart n rest f.fourth)

pub none-filled : (n : ℕ) (ts : Trees) → are_filled ts ≡ true → all_but [] is_filled n ts ≡ true
none-filled n no_trees h = refl
none-filled n (tree c bs cs rest) h =
    let f = four (not (is_empty_text c)) (are_filled bs) (are_filled cs) (are_filled rest) h in
    passing [] is_filled n c bs cs rest (root-or (n == 0) (not (is_empty_text c)) f.first) (none-filled (suc n) bs f.second) (none-filled (suc n) cs f.third) (none-filled n rest f.fourth)

pub none-named : (n : ℕ) (ts : Trees) → all_but [] is_named n ts ≡ has_distinct_attributes ts
none-named n no_trees = refl
none-named n (tree c bs cs rest) = rw (none-named (suc n) bs, none-named (suc n) cs, none-named n rest) refl

pub none-limited : (n : ℕ) (ts : Trees) → all_but [] is_limited n ts ≡ all_nodes is_small ts
none-limited n no_trees = refl
none-limited n (tree c bs cs rest) = rw (none-limited (suc n) bs, none-limited (suc n) cs, none-limited n rest) refl

pub height-all : (n : ℕ) (ts : Trees) → n + height ts ≤ 60 → all_but [] is_within n ts ≡ true
height-all n no_trees h = refl
height-all n (tree c bs cs rest) h = passing [] is_within n c bs cs rest (grind (arith, nat_tests)) (height-all (suc n) bs (omega arith)) (height-all (suc n) cs (omega arith)) (height-all n rest (omega arith))

below-sixty : (n : ℕ) → nat_lt n 60 ≡ true → n < 60
below-sixty n e = grind (arith, nat_tests)

pub all-height : (n : ℕ) (ts : Trees) → n ≤ 60 → all_but [] is_within n ts ≡ true → n + height ts ≤ 60
all-height n no_trees l h = omega arith
all-height n (tree c bs cs rest) l h =
    let p = passes [] is_within n c bs cs rest h in
    let k = below-sixty n p.here in
    let b = all-height (suc n) bs (omega arith) p.attributes in
    let d = all-height (suc n) cs (omega arith) p.children in
    let r = all-height n rest l p.others in
    omega arith
