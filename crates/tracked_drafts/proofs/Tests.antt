-- Trees that pass a test but for some nodes.
use Prim.Native.Nat.{zero, suc}
use Rattle.std.proofs.Common.{◌≡◌, ℕ, Bool, true, false, ◌||◌, List, [], ◌∷◌, length, refl, ap, sym, ◌∙◌, Some}
use Rattle.std.specs.List.{slice_get}
use Rattle.data_model.specs.Trees.{Trees, no_trees, tree, Content, append, roots}
use Rattle.data_model.specs.Tidy.{begins_with_text, lacks_name, has_distinct_names}
use Rattle.data_model.proofs.Weights.{append-none}
use Rattle.node_plans.specs.Splices.{first_of, rest_of, spliced}
use Rattle.pending.specs.Compatible.{is_among}
use Rattle.update_meaning.proofs.Booleans.{four, all-four}
use Rattle.tracked_drafts.specs.Tests.{NodeTest, all_but, is_apart, is_filled, is_named, is_limited, is_within, AllAmong, IsStoredBut}

-- ---- what is known of a node is known again
pub record Passes (is : List ℕ) (test : NodeTest) (n : ℕ) (c : Content) (bs cs rest : Trees) : Type 0 where
  pub here : (is_among is c.identity || test n c bs cs (begins_with_text rest)) ≡ true
  pub attributes : all_but is test (suc n) bs ≡ true
  pub children : all_but is test (suc n) cs ≡ true
  pub others : all_but is test n rest ≡ true

pub passes : (is : List ℕ) (test : NodeTest) (n : ℕ) (c : Content) (bs cs rest : Trees) → all_but is test n (tree c bs cs rest) ≡ true → Passes is test n c bs cs rest
passes is test n c bs cs rest h =
    let f = four (is_among is c.identity || test n c bs cs (begins_with_text rest)) (all_but is test (suc n) bs) (all_but is test (suc n) cs) (all_but is test n rest) h in
    record { here = f.first; attributes = f.second; children = f.third; others = f.fourth }

pub passing : (is : List ℕ) (test : NodeTest) (n : ℕ) (c : Content) (bs cs rest : Trees) → (is_among is c.identity || test n c bs cs (begins_with_text rest)) ≡ true → all_but is test (suc n) bs ≡ true → all_but is test (suc n) cs ≡ true → all_but is test n rest ≡ true
    → all_but is test n (tree c bs cs rest) ≡ true
passing is test n c bs cs rest = all-four (is_among is c.identity || test n c bs cs (begins_with_text rest)) (all_but is test (suc n) bs) (all_but is test (suc n) cs) (all_but is test n rest)

-- ---- more nodes may fail
pub or-more : (a b t : Bool) → (a ≡ true → b ≡ true) → (a || t) ≡ true → (b || t) ≡ true
or-more true b t f h = rw (f refl) refl
or-more false true t f h = refl
or-more false false t f h = h

pub all_but-more : (is js : List ℕ) (test : NodeTest) (n : ℕ) (ts : Trees) → ((i : ℕ) → is_among is i ≡ true → is_among js i ≡ true) → all_but is test n ts ≡ true → all_but js test n ts ≡ true
all_but-more is js test n no_trees f h = refl
all_but-more is js test n (tree c bs cs rest) f h =
    let p = passes is test n c bs cs rest h in
    passing js test n c bs cs rest (or-more (is_among is c.identity) (is_among js c.identity) (test n c bs cs (begins_with_text rest)) (f c.identity) p.here) (all_but-more is js test (suc n) bs f p.attributes) (all_but-more is js test (suc n) cs f p.children)
    (all_but-more is js test n rest f p.others)

pub stored-more : (is js : List ℕ) (ts : Trees) → ((i : ℕ) → is_among is i ≡ true → is_among js i ≡ true) → IsStoredBut is ts → IsStoredBut js ts
stored-more is js ts f s =
    record {
      apart = all_but-more is js is_apart 0 ts f s.apart;
      filled = all_but-more is js is_filled 0 ts f s.filled;
      named = all_but-more is js is_named 0 ts f s.named;
      limited = all_but-more is js is_limited 0 ts f s.limited;
      within = all_but-more is js is_within 0 ts f s.within;
    }

-- ---- of lists a test looks at the names in them alone
abbrev pub root_names : Trees → List (List ℕ)
root_names no_trees = []
root_names (tree c bs cs rest) = c.name ∷ root_names rest

abbrev pub IsLocal : NodeTest → Type 0
IsLocal test = (n : ℕ) (c : Content) (bs cs es ds : Trees) (is_followed : Bool) → root_names es ≡ root_names bs → root_names ds ≡ root_names cs → test n c es ds is_followed ≡ test n c bs cs is_followed

pub apart-local : IsLocal is_apart
apart-local n c bs cs es ds f a b = refl

pub filled-local : IsLocal is_filled
filled-local n c bs cs es ds f a b = refl

pub within-local : IsLocal is_within
within-local n c bs cs es ds f a b = refl

lacks-local : (name : List ℕ) (bs es : Trees) → root_names es ≡ root_names bs → lacks_name name es ≡ lacks_name name bs
lacks-local name no_trees no_trees e = refl
lacks-local name no_trees (tree d fs gs rest) e = cc
lacks-local name (tree c bs cs rest) no_trees e = cc
lacks-local name (tree c bs cs rest) (tree d fs gs more) e = let a : d.name ≡ c.name = cc in let b : root_names more ≡ root_names rest = cc in rw a (rw (lacks-local name rest more b) refl)

distinct-local : (bs es : Trees) → root_names es ≡ root_names bs → has_distinct_names es ≡ has_distinct_names bs
distinct-local no_trees no_trees e = refl
distinct-local no_trees (tree d fs gs rest) e = cc
distinct-local (tree c bs cs rest) no_trees e = cc
distinct-local (tree c bs cs rest) (tree d fs gs more) e = let a : d.name ≡ c.name = cc in let b : root_names more ≡ root_names rest = cc in rw a (rw (lacks-local c.name rest more b) (rw (distinct-local rest more b) refl))

pub named-local : IsLocal is_named
named-local n c bs cs es ds f a b = distinct-local bs es a

length-names : (ts : Trees) → length (roots ts) ≡ length (root_names ts)
length-names no_trees = refl
length-names (tree c bs cs rest) = ap suc (length-names rest)

length-local : (bs es : Trees) → root_names es ≡ root_names bs → length (roots es) ≡ length (roots bs)
length-local bs es e = length-names es ∙ ap length e ∙ sym (length-names bs)

pub limited-local : IsLocal is_limited
limited-local n c bs cs es ds f a b = rw (length-local bs es a) (rw (length-local cs ds b) refl)

-- ---- lists that are cut and joined
-- the last of the trees is of these identities
abbrev pub EndsIn : List ℕ → Trees → Type 0
EndsIn is no_trees = Unit {0}
EndsIn is (tree c bs cs no_trees) = is_among is c.identity ≡ true
EndsIn is (tree c bs cs (tree d es ds rest)) = EndsIn is (tree d es ds rest)

pub all_but-among : (is : List ℕ) (test : NodeTest) (n : ℕ) (ts : Trees) → AllAmong is ts → all_but is test n ts ≡ true
all_but-among is test n no_trees h = refl
all_but-among is test n (tree c bs cs rest) h = passing is test n c bs cs rest (rw h.0 refl) (all_but-among is test (suc n) bs h.1) (all_but-among is test (suc n) cs h.2) (all_but-among is test n rest h.3)

pub among-ends : (is : List ℕ) (ts : Trees) → AllAmong is ts → EndsIn is ts
among-ends is no_trees h = tt
among-ends is (tree c bs cs no_trees) h = h.0
among-ends is (tree c bs cs (tree d es ds rest)) h = among-ends is (tree d es ds rest) h.3

pub all_but-append : (is : List ℕ) (test : NodeTest) (n : ℕ) (xs ys zs : Trees) → EndsIn is xs → all_but is test n (append xs ys) ≡ true → all_but is test n zs ≡ true → all_but is test n (append xs zs) ≡ true
all_but-append is test n no_trees ys zs e h k = k
all_but-append is test n (tree c bs cs no_trees) ys zs e h k = let p = passes is test n c bs cs ys h in passing is test n c bs cs zs (rw e refl) p.attributes p.children k
all_but-append is test n (tree c bs cs (tree d es ds rest)) ys zs e h k =
    let p = passes is test n c bs cs (append (tree d es ds rest) ys) h in
    passing is test n c bs cs (append (tree d es ds rest) zs) p.here p.attributes p.children (all_but-append is test n (tree d es ds rest) ys zs e p.others k)

pub all_but-rest : (is : List ℕ) (test : NodeTest) (n k : ℕ) (ts : Trees) → all_but is test n ts ≡ true → all_but is test n (rest_of k ts) ≡ true
all_but-rest is test n k no_trees h = refl
all_but-rest is test n zero (tree c bs cs rest) h = h
all_but-rest is test n (suc k) (tree c bs cs rest) h = all_but-rest is test n k rest (passes is test n c bs cs rest h).others

pub first-rest : (k : ℕ) (ts : Trees) → append (first_of k ts) (rest_of k ts) ≡ ts
first-rest k no_trees = refl
first-rest zero (tree c bs cs rest) = refl
first-rest (suc k) (tree c bs cs rest) = ap (tree c bs cs) (first-rest k rest)

-- the place before which a list is cut
pub ends-zero : (is : List ℕ) (ts : Trees) → EndsIn is (first_of zero ts)
ends-zero is no_trees = tt
ends-zero is (tree c bs cs rest) = tt

pub ends-first : (is : List ℕ) (k i : ℕ) (ts : Trees) → slice_get (roots ts) k ≡ Some i → is_among is i ≡ true → EndsIn is (first_of (suc k) ts)
ends-first is k i no_trees at h = cc
ends-first is zero i (tree c bs cs no_trees) at h = let e : c.identity ≡ i = cc in rw e h
ends-first is zero i (tree c bs cs (tree d es ds rest)) at h = let e : c.identity ≡ i = cc in rw e h
ends-first is (suc k) i (tree c bs cs no_trees) at h = cc
ends-first is (suc k) i (tree c bs cs (tree d es ds rest)) at h = ends-first is k i (tree d es ds rest) at h

pub all_but-spliced : (is : List ℕ) (test : NodeTest) (n from to : ℕ) (us ts : Trees) → EndsIn is (first_of from ts) → EndsIn is us → all_but is test n us ≡ true → all_but is test n ts ≡ true → all_but is test n (spliced from to us ts) ≡ true
all_but-spliced is test n from to us ts e f u h =
    all_but-append is test n (first_of from ts) (rest_of from ts) (append us (rest_of to ts)) e (rw (first-rest from ts) h)
    (all_but-append is test n us no_trees (rest_of to ts) f (rw (append-none us) u) (all_but-rest is test n to ts h))
