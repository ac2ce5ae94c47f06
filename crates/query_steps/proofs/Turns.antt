-- A node more, and what stands below it.
use Prim.Native.Nat.{zero, suc}
use Rattle.std.proofs.Common.{◌≡◌, ℕ, ◌+◌, ◌-◌, ◌<◌, ◌≤◌, Bool, true, false, List, [], ◌∷◌, ◌++◌, filter, reverse, take, drop, length, cond, sum_by, ◌==◌, refl, ap, sym, ◌∙◌, append_assoc, append-nil, arith, slice_index_or, eqb}
use Rattle.std.proofs.lemmas.Bool.{eqb-true}
use Rattle.std.proofs.lemmas.List.{reverse-append}
use Rattle.std.proofs.lemmas.List.Elements.{filter-append}
use Rattle.std.proofs.lemmas.List.Sums.{sum_by-cons}
use Rattle.data_model.specs.Trees.{Trees, attributes_of, children_of}
use Rattle.data_model.specs.Walks.{held}
use Rattle.data_model.proofs.Firsts.{eqb-swap}
use Rattle.query_steps.specs.Below.{counted_below, each_with, levels_below}
use Rattle.evaluation.proofs.Each.{drop_item, drop_all}

-- on the way up
pub above-turn : (test : ℕ → Bool) (p : ℕ) (all bs ns more whole : List ℕ) → all ≡ bs ++ p ∷ [] → filter test all ++ reverse ns ≡ whole → more ≡ ns ++ filter test (p ∷ []) → filter test bs ++ reverse more ≡ whole
above-turn test p all bs ns more whole up was added =
    ap (λ xs. filter test bs ++ reverse xs) added ∙ ap (λ xs. filter test bs ++ xs) (reverse-append ns (filter test (p ∷ [])) ∙ ap (λ xs. xs ++ reverse ns) (alone (test p)))
    ∙ sym (append_assoc (filter test bs) (filter test (p ∷ [])) (reverse ns)) ∙ ap (λ xs. xs ++ reverse ns) (sym (ap (filter test) up ∙ filter-append test bs (p ∷ []))) ∙ was
  where
    alone : (b : Bool) → reverse (cond b (p ∷ []) []) ≡ cond b (p ∷ []) []
    alone true = refl
    alone false = refl

-- on the way down: what is left of a list of nodes
pub below-turn : (test : ℕ → Bool) (l : Bool) (below : ℕ → List ℕ) (ids : List ℕ) (k i : ℕ) (xs ys out one two three whole : List ℕ) → k < length ids → i ≡ slice_index_or ids k i → xs ++ ys ≡ below i
    → out ++ filter test (each_with l below (drop k ids)) ≡ whole → one ≡ out ++ filter test (cond l (i ∷ []) []) → two ≡ one ++ filter test xs → three ≡ two ++ filter test ys
    → three ++ filter test (each_with l below (drop (k + 1) ids)) ≡ whole
below-turn test l below ids k i xs ys out one two three whole less here both was first second third =
    let own = cond l (i ∷ []) [] in
    let rest = each_with l below (drop (k + 1) ids) in
    let next : each_with l below (drop k ids) ≡ own ++ below i ++ rest = ap (each_with l below) (drop_item ids k i less here ∙ ap (λ n. i ∷ drop n ids) (let e : suc k ≡ k + 1 = omega arith in e)) in
    let parts : filter test (own ++ below i ++ rest) ≡ filter test own ++ (filter test xs ++ filter test ys) ++ filter test rest =
    filter-append test (own ++ below i) rest ∙ ap (λ zs. zs ++ filter test rest) (filter-append test own (below i) ∙ ap (λ zs. filter test own ++ zs) (ap (filter test) (sym both) ∙ filter-append test xs ys)) in
    ap (λ zs. zs ++ filter test rest) (third ∙ ap (λ zs. zs ++ filter test ys) (second ∙ ap (λ zs. zs ++ filter test xs) first))
    ∙ ap (λ zs. zs ++ filter test rest) (append_assoc (out ++ filter test own) (filter test xs) (filter test ys) ∙ append_assoc out (filter test own) (filter test xs ++ filter test ys))
    ∙ append_assoc out (filter test own ++ (filter test xs ++ filter test ys)) (filter test rest)
    ∙ ap (λ zs. out ++ zs) (sym (ap (filter test) next ∙ parts)) ∙ was

-- below two lists, one after the other
pub both-found : (test : ℕ → Bool) (n m : ℕ) (ts : Trees) (bs cs xs ys out one two : List ℕ) → n ≡ m → bs ≡ xs → cs ≡ ys
    → one ≡ out ++ filter test (levels_below n ts false bs) → two ≡ one ++ filter test (levels_below n ts true cs) → two ≡ out ++ filter test (levels_below m ts false xs ++ levels_below m ts true ys)
both-found test n m ts bs cs xs ys out one two long of_bs of_cs first second =
    let same : levels_below n ts false bs ++ levels_below n ts true cs ≡ levels_below m ts false xs ++ levels_below m ts true ys = rw (long, of_bs, of_cs) refl in
    second ∙ ap (λ zs. zs ++ filter test (levels_below n ts true cs)) first ∙ append_assoc out (filter test (levels_below n ts false bs)) (filter test (levels_below n ts true cs))
    ∙ ap (λ zs. out ++ zs) (sym (filter-append test (levels_below n ts false bs) (levels_below n ts true cs))) ∙ ap (λ zs. out ++ filter test zs) same

-- how many are counted
pub count-start : (n : ℕ) (ts : Trees) (ids : List ℕ) → (n ≡ 0 → ⊥) → length ids + sum_by (λ i. counted_below (n - 1) ts (attributes_of i ts) + counted_below (n - 1) ts (children_of i ts)) ids ≡ counted_below n ts ids
count-start zero ts ids some = absurd (some refl)
count-start (suc n) ts ids some =
    let e : suc n - 1 ≡ n = omega arith in
    ap (λ m. length ids + sum_by (λ i. counted_below m ts (attributes_of i ts) + counted_below m ts (children_of i ts)) ids) e

pub count-turn : (below : ℕ → ℕ) (ids : List ℕ) (k i : ℕ) → k < length ids → i ≡ slice_index_or ids k i → sum_by below (drop k ids) ≡ below i + sum_by below (drop (k + 1) ids)
count-turn below ids k i less here = ap (sum_by below) (drop_item ids k i less here ∙ ap (λ n. i ∷ drop n ids) (let e : suc k ≡ k + 1 = omega arith in e)) ∙ sum_by-cons below i (drop (k + 1) ids)

pub count-end : (below : ℕ → ℕ) (ids : List ℕ) (k : ℕ) → length ids ≤ k → sum_by below (drop k ids) ≡ 0
count-end below ids k past = ap (sum_by below) (drop_all ids k past)

-- where a list is empty, nothing stands below it
none-in : (ids : List ℕ) (b : Bool) → b ≡ (length ids == 0) → b ≡ true → ids ≡ []
none-in [] b e h = refl
none-in (i ∷ ids) b e h = let z = eqb-true (length (i ∷ ids)) 0 (sym e ∙ h) in absurd (omega (arith, z))

pub none-found : (test : ℕ → Bool) (n : ℕ) (ts : Trees) (l : Bool) (ids out more : List ℕ) (b : Bool) → b ≡ (length ids == 0) → b ≡ true → more ≡ out → more ≡ out ++ filter test (levels_below n ts l ids)
none-found test n ts l ids out more b e h same = same ∙ sym (append-nil out) ∙ ap (λ xs. out ++ filter test xs) (sym (at n) ∙ ap (levels_below n ts l) (sym (none-in ids b e h)))
  where
    at : (n : ℕ) → levels_below n ts l [] ≡ []
    at zero = refl
    at (suc n) = refl

pub none-counted : (n : ℕ) (ts : Trees) (ids : List ℕ) (b : Bool) → b ≡ (length ids == 0) → b ≡ true → counted_below n ts ids ≡ 0
none-counted n ts ids b e h = ap (counted_below n ts) (none-in ids b e h) ∙ at n
  where
    at : (n : ℕ) → counted_below n ts [] ≡ 0
    at zero = refl
    at (suc n) = refl

-- in a list
pub filter-turn : (test : ℕ → Bool) (ids : List ℕ) (k i : ℕ) (out more : List ℕ) → k < length ids → i ≡ slice_index_or ids k i
    → out ++ filter test (drop k ids) ≡ filter test ids → more ≡ out ++ filter test (i ∷ []) → more ++ filter test (drop (k + 1) ids) ≡ filter test ids
filter-turn test ids k i out more less here was added =
    ap (λ zs. zs ++ filter test (drop (k + 1) ids)) added ∙ append_assoc out (filter test (i ∷ [])) (filter test (drop (k + 1) ids))
    ∙ ap (λ zs. out ++ zs) (sym (filter-append test (i ∷ []) (drop (k + 1) ids))) ∙ ap (λ zs. out ++ filter test zs) (sym (drop_item ids k i less here ∙ ap (λ n. i ∷ drop n ids) (let e : suc k ≡ k + 1 = omega arith in e))) ∙ was

pub filter-end : (test : ℕ → Bool) (ids : List ℕ) (k : ℕ) (out : List ℕ) → length ids ≤ k → out ++ filter test (drop k ids) ≡ filter test ids → out ≡ filter test ids
filter-end test ids k out past was = sym (append-nil out) ∙ ap (λ zs. out ++ filter test zs) (sym (drop_all ids k past)) ∙ was

pub below-end : (test : ℕ → Bool) (l : Bool) (below : ℕ → List ℕ) (ids : List ℕ) (k : ℕ) (out whole : List ℕ) → length ids ≤ k → out ++ filter test (each_with l below (drop k ids)) ≡ whole → out ≡ whole
below-end test l below ids k out whole past was = sym (append-nil out) ∙ ap (λ zs. out ++ filter test (each_with l below zs)) (sym (drop_all ids k past)) ∙ was

-- ---- where a node stands
pub none-first : (node : ℕ) (xs : List ℕ) (k x : ℕ) → k < length xs → x ≡ slice_index_or xs k x → eqb x node ≡ false → held node (take k xs) ≡ 0 → held node (take (suc k) xs) ≡ 0
none-first node [] k x h is other none = absurd (omega (arith, h))
none-first node (y ∷ xs) zero x h is other none = let z : eqb node y ≡ false = ap (eqb node) (sym is) ∙ eqb-swap x node false other in rw z refl
none-first node (y ∷ xs) (suc k) x h is other none =
    let z = none-first node xs k x (omega (arith, h)) is other (omega (arith, none)) in omega (arith, z, none)

pub none-last : (node : ℕ) (xs : List ℕ) (k x : ℕ) → k < length xs → x ≡ slice_index_or xs k x → eqb x node ≡ false → held node (drop (suc k) xs) ≡ 0 → held node (drop k xs) ≡ 0
none-last node xs k x h is other none =
    ap (held node) (drop_item xs k x h is) ∙ (let z : eqb node x ≡ false = eqb-swap x node false other in rw z (omega (arith, none)))
