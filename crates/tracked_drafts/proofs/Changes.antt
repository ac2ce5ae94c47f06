-- Drafts that are changed: what was not touched stays as an update leaves it.
use Prim.Native.Nat.{zero, suc}
use Rattle.std.proofs.Common.{◌≡◌, ℕ, ◌≤◌, Bool, true, false, ◌||◌, List, [], ◌∷◌, Ok, Option, Some, None, IfSome, refl, ap, ◌∙◌, arith, ⊎_elim, ◌⊎◌, subst, nat_le, ◌&&◌, length}
use Rattle.std.specs.List.{slice_get}
use Rattle.std.proofs.lemmas.Bool.Decides.{eqb_tells}
use Rattle.std.proofs.lemmas.Bool.Decides.{nat_tests}
use Rattle.data_model.specs.Trees.{Trees, no_trees, tree, Content, Place, count, find, height, roots, size}
use Rattle.data_model.specs.Changes.{with_content, with_part}
use Rattle.data_model.specs.declared.node.Part.{Part}
use Rattle.node_plans.specs.Splices.{first_of, spliced}
use Rattle.node_table.specs.Labels.{get_before}
use Rattle.node_table.proofs.Numbers.{none-within}
use Rattle.node_table.proofs.Relists.{relisted}
use Rattle.pending.specs.Compatible.{is_among}
use Rattle.update_meaning.specs.Results.{judged, tidied, is_within_limits, has_distinct_attributes, are_apart, are_filled, all_nodes, is_small, IsStored}
use Rattle.update_meaning.proofs.Tidying.{tidied-apart, tidied-filled}
use Rattle.tracked_drafts.specs.Tests.{NodeTest, all_but, is_apart, is_filled, is_named, is_limited, is_within, AllAmong, IsStoredBut}
use Rattle.tracked_drafts.proofs.Places.{list_of, relisted-self, with_part-is}
use Rattle.tracked_drafts.proofs.Tests.{IsLocal, root_names, apart-local, filled-local, named-local, limited-local, within-local, EndsIn, all_but-among, among-ends, all_but-spliced, ends-zero, ends-first}
use Rattle.tracked_drafts.proofs.Rewrites.{all_but-relisted, IsSameKind, all_but-content, ParentAmong}
use Rattle.tracked_drafts.proofs.Exits.{none-apart, none-filled, none-named, none-limited, height-all}

-- ---- a stored forest needs no exceptions
judged-names : (ts us : Trees) → judged ts ≡ Ok us → (ts ≡ us) × (has_distinct_attributes ts ≡ true) × (is_within_limits ts ≡ true)
judged-names ts us e = by (has_distinct_attributes ts) refl (is_within_limits ts) refl
  where
    by : (a : Bool) → has_distinct_attributes ts ≡ a → (b : Bool) → is_within_limits ts ≡ b → (ts ≡ us) × (has_distinct_attributes ts ≡ true) × (is_within_limits ts ≡ true)
    by true p true q = (let z : Ok ts ≡ Ok us = rw (p, q) at e in (cc, p, q))
    by true p false q = (let z = rw (p, q) at e in cc)
    by false p b q = (let z = rw p at e in cc)

three : (a b d : Bool) → (a && b && d) ≡ true → (b ≡ true) × (d ≡ true)
three true true true e = (refl, refl)
three true true false e = cc
three true false d e = cc
three false b d e = cc

pub stored-whole : (ts : Trees) → IsStored ts → IsStoredBut [] ts
stored-whole ts h =
    let j = judged-names (tidied ts) ts h in
    let limits : is_within_limits ts ≡ true = subst (λ (us : Trees). is_within_limits us ≡ true) j.0 j.2 in
    let l = three (nat_le (size ts) 100000) (nat_le (height ts) 60) (all_nodes is_small ts) limits in
    record {
      apart = none-apart 0 ts (subst (λ (us : Trees). are_apart us ≡ true) j.0 (tidied-apart ts));
      filled = none-filled 0 ts (subst (λ (us : Trees). are_filled us ≡ true) j.0 (tidied-filled ts));
      named = none-named 0 ts ∙ subst (λ (us : Trees). has_distinct_attributes us ≡ true) j.0 j.1;
      limited = none-limited 0 ts ∙ l.1;
      within = (let h = l.0 in height-all 0 ts (grind (arith, nat_tests)));
    }

-- ---- what a node says
exempt : (is : List ℕ) (i j : ℕ) (t : Bool) → is_among is i ≡ true → i ≡ j → (is_among is j || t) ≡ true
exempt is i j t h e = rw (← e, h) refl

module _ (is : List ℕ) (i : ℕ) (h : Content → Content) (same : IsSameKind h) (among : is_among is i ≡ true) (ts : Trees)
    (names : ((us : Trees) → root_names (with_content i h us) ≡ root_names us) ⊎ ParentAmong is i ts) where
  one : (test : NodeTest) → IsLocal test → all_but is test 0 ts ≡ true → all_but is test 0 (with_content i h ts) ≡ true
  one test local = all_but-content is test local i h same (λ n c bs cs es ds f e k. exempt is i c.identity (test n (h c) es ds f) among e) 0 ts names

  pub stored-content : IsStoredBut is ts → IsStoredBut is (with_content i h ts)
  stored-content s =
      record {
        apart = one is_apart apart-local s.apart;
        filled = one is_filled filled-local s.filled;
        named = one is_named named-local s.named;
        limited = one is_limited limited-local s.limited;
        within = one is_within within-local s.within;
      }

pub names-kept : (i : ℕ) (h : Content → Content) → ((c : Content) → (h c).name ≡ c.name) → (us : Trees) → root_names (with_content i h us) ≡ root_names us
names-kept i h keeps no_trees = refl
names-kept i h keeps (tree c bs cs rest) = ⊎_elim (λ t. rw t.0 (rw (keeps c) (ap (λ xs. c.name ∷ xs) (names-kept i h keeps rest)))) (λ t. rw t.0 (ap (λ xs. c.name ∷ xs) (names-kept i h keeps rest))) (eqb_tells i c.identity)

-- ---- what a node lists
ends-before : (is : List ℕ) (from : ℕ) (us : Trees) → from ≤ length (roots us) → IfSome (get_before (roots us) from) (λ j. is_among is j ≡ true) → EndsIn is (first_of from us)
ends-before is zero us l h = ends-zero is us
ends-before is (suc k) us l h = by (slice_get (roots us) k) refl
  where
    by : (o : Option ℕ) → slice_get (roots us) k ≡ o → EndsIn is (first_of (suc k) us)
    by None e = absurd (none-within (roots us) k (omega arith) e)
    by (Some j) e = ends-first is k j us e (rw e at h)

pub stored-spliced : (is : List ℕ) (part : Part) (p from to : ℕ) (us ts : Trees) (x : Place) → count p ts ≤ 1 → find p ts ≡ Some x → is_among is p ≡ true → AllAmong is us → from ≤ length (roots (list_of part x)) → IfSome (get_before (roots (list_of part x)) from) (λ j. is_among is j ≡ true)
    → IsStoredBut is ts → IsStoredBut is (with_part part p (spliced from to us) ts)
stored-spliced is part p from to us ts x one found among all l before s = rw (with_part-is part p (spliced from to us) ts x one found) (
    let self = relisted-self part None p ts x one found in
    let step : (test : NodeTest) → IsLocal test → all_but is test 0 ts ≡ true → all_but is test 0 (relisted part p (spliced from to us (list_of part x)) ts) ≡ true =
    λ test local k. all_but-relisted is test local p (list_of part x) (spliced from to us (list_of part x)) (λ n c bs cs es ds f e k. exempt is p c.identity (test n c es ds f) among e)
    (λ n k. all_but-spliced is test n from to us (list_of part x) (ends-before is from (list_of part x) l before) (among-ends is us all) (all_but-among is test n us all) k) part 0 ts (rw self k) in
    record {
      apart = step is_apart apart-local s.apart;
      filled = step is_filled filled-local s.filled;
      named = step is_named named-local s.named;
      limited = step is_limited limited-local s.limited;
      within = step is_within within-local s.within;
    })
