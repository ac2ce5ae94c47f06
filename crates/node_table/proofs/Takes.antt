-- A tree that is taken out from below a node.
use Prim.Native.Nat.{zero, suc}
use Rattle.std.proofs.Common.{◌≡◌, ◌≢◌, ℕ, ◌+◌, ◌≤◌, ◌<◌, Bool, true, false, not, List, [], ◌∷◌, ◌++◌, filter, cond, eqb, ltb, refl, ap, sym, ◌∙◌, arith, ⊎_elim, Option, Some, None, is_some, append-nil}
use Rattle.std.proofs.lemmas.Bool.Decides.{nat_tests, eqb_tells}
use Rattle.std.proofs.lemmas.Bool.{cases_lt}
use Rattle.data_model.specs.Trees.{Trees, no_trees, tree, Content, append, roots, weigh, count}
use Rattle.data_model.specs.Changes.{pick, without, ranked, taken_out}
use Rattle.node_table.specs.Flat.{Entry, Table, entry_of, Holds, entry_is_root, parentless, IsTableOf, IsChangedAt, without_child, with_parent}
use Rattle.data_model.proofs.Weights.{weigh-append, roots-append, weigh-pick, eqb-same}
use Rattle.node_table.proofs.Tables.{Holds-same, Holds-append, count-there}
use Rattle.node_table.proofs.Puts.{AllAre, AllAre-pick, count-without, roots-without, one-root, count-apart, none-apart}

-- ---- trees by the order of their roots
pub weigh-ranked : (w : ℕ → ℕ) (k : ℕ) (us vs : Trees) → weigh w (ranked k us vs) ≡ weigh w us + weigh w vs
weigh-ranked w k us no_trees = omega arith
weigh-ranked w k us (tree c bs cs rest) =
    let b = weigh-ranked w k us rest in
    let a = weigh-append w us (tree c bs cs rest) in
    elim (ltb k c.identity) as (λ v. weigh w (cond v (append us (tree c bs cs rest)) (tree c bs cs (ranked k us rest))) ≡ weigh w us + weigh w (tree c bs cs rest)) [ true ↦ a | false ↦ omega arith ]

-- a tree that is taken out weighs what it weighed
pub weigh-taken : (w : ℕ → ℕ) (k : ℕ) (ts : Trees) → weigh w (taken_out k ts) ≡ weigh w ts
weigh-taken w k ts = weigh-ranked w k (pick k ts) (without k ts) ∙ weigh-pick w k ts

pub Holds-ranked : (f : Table) (k : ℕ) (us vs : Trees) → Holds f None us → Holds f None vs → Holds f None (ranked k us vs)
Holds-ranked f k us no_trees h y = h
Holds-ranked f k us (tree c bs cs rest) h y =
    elim (ltb k c.identity) as (λ v. Holds f None (cond v (append us (tree c bs cs rest)) (tree c bs cs (ranked k us rest)))) [ true ↦ Holds-append f None us (tree c bs cs rest) h y | false ↦ (y.0, y.1, y.2, Holds-ranked f k us rest h y.3) ]

pub inserted : ℕ → List ℕ → List ℕ
inserted k [] = k ∷ []
inserted k (x ∷ xs) = cond (ltb k x) (k ∷ x ∷ xs) (x ∷ inserted k xs)

pub roots-ranked : (k : ℕ) (us vs : Trees) → roots us ≡ k ∷ [] → roots (ranked k us vs) ≡ inserted k (roots vs)
unfolding inserted
roots-ranked k us no_trees e = e
roots-ranked k us (tree c bs cs rest) e =
    elim (ltb k c.identity) as (λ v. roots (cond v (append us (tree c bs cs rest)) (tree c bs cs (ranked k us rest))) ≡ cond v (k ∷ c.identity ∷ roots rest) (c.identity ∷ inserted k (roots rest))) [
      | true ↦ roots-append us (tree c bs cs rest) ∙ rw e
      | false ↦ ap (λ x. c.identity ∷ x) (roots-ranked k us rest e)
    ]

unfoldable pub AllBelow : ℕ → List ℕ → Type 0
AllBelow n [] = Unit {0}
AllBelow n (x ∷ xs) = (x < n) × AllBelow n xs

AllBelow-append : (n : ℕ) (xs ys : List ℕ) → AllBelow n xs → AllBelow n ys → AllBelow n (xs ++ ys)
unfolding AllBelow
AllBelow-append n [] ys h k = k
AllBelow-append n (x ∷ xs) ys h k = (h.0, AllBelow-append n xs ys h.1 k)

pub AllBelow-parentless : (f : Table) (n m : ℕ) → m ≤ n → AllBelow n (parentless f m)
unfolding AllBelow
AllBelow-parentless f n zero h = tt
AllBelow-parentless f n (suc m) h =
    AllBelow-append n (parentless f m) _ (AllBelow-parentless f n m (omega arith))
    (elim (entry_is_root (f m)) as (λ v. AllBelow n (cond v (m ∷ []) [])) [ true ↦ (omega arith, tt) | false ↦ tt ])

pub ltb-no : (k x : ℕ) → x < k → ltb k x ≡ false
ltb-no k x h = grind (arith, nat_tests)

pub ltb-yes : (k x : ℕ) → k < x → ltb k x ≡ true
ltb-yes k x h = grind (arith, nat_tests)

inserted-last : (k : ℕ) (xs : List ℕ) → AllBelow k xs → inserted k xs ≡ xs ++ k ∷ []
unfolding AllBelow inserted
inserted-last k [] h = refl
inserted-last k (x ∷ xs) h = rw (ltb-no k x h.0) (ap (λ t. x ∷ t) (inserted-last k xs h.1))

inserted-more : (k n : ℕ) (xs : List ℕ) (b : Bool) → k < n → inserted k (xs ++ cond b (n ∷ []) []) ≡ inserted k xs ++ cond b (n ∷ []) []
unfolding inserted
inserted-more k n [] true h = rw (ltb-yes k n h)
inserted-more k n [] false h = refl
inserted-more k n (x ∷ xs) b h =
    elim (ltb k x) as (λ v. cond v (k ∷ x ∷ (xs ++ cond b (n ∷ []) [])) (x ∷ inserted k (xs ++ cond b (n ∷ []) [])) ≡ cond v (k ∷ x ∷ xs) (x ∷ inserted k xs) ++ cond b (n ∷ []) []) [
      | true ↦ refl
      | false ↦ ap (λ t. x ∷ t) (inserted-more k n xs b h)
    ]

pub parentless-roots : (f g : Table) (n : ℕ) → ((i : ℕ) → i < n → entry_is_root (g i) ≡ entry_is_root (f i)) → parentless g n ≡ parentless f n
parentless-roots f g zero e = refl
parentless-roots f g (suc n) e = rw (e n (omega arith), parentless-roots f g n (λ i k. e i (omega arith)))

pub parentless-freed : (f g : Table) (k n : ℕ) → k < n → entry_is_root (g k) ≡ true → entry_is_root (f k) ≡ false → ((i : ℕ) → i ≢ k → entry_is_root (g i) ≡ entry_is_root (f i)) → parentless g n ≡ inserted k (parentless f n)
parentless-freed f g k zero h y z e = absurd (omega arith)
parentless-freed f g k (suc n) h y z e =
    ⊎_elim
    (λ t. rw (sym t.1, y, z, append-nil, parentless-roots f g k (λ i l. e i (λ same. absurd (omega arith)))) (sym (inserted-last k (parentless f k) (AllBelow-parentless f k k (omega arith)))))
    (λ t. (let lt : k < n = omega arith in rw (e n (λ same. t.1 (sym same)), parentless-freed f g k n lt y z e) (sym (inserted-more k n (parentless f n) (entry_is_root (f n)) lt)))) (eqb_tells k n)

below-next : (f : Table) (k n : ℕ) (e : Entry) → f k ≡ Some e → ((i : ℕ) → n ≤ i → f i ≡ None) → k < n
below-next f k n e h above = ⊎_elim (λ l. l) (λ l. (let z : f k ≡ None = above k l in let y : Some e ≡ None = sym h ∙ z in cc)) (cases_lt k n)

pub count-most : (f : Table) (n : ℕ) (ts : Trees) (i : ℕ) → IsTableOf f n ts → count i ts ≤ 1
count-most f n ts i h = rw h.counted (elim (is_some (f i)) as (λ b. cond {A = ℕ} b 1 0 ≤ 1) [ true ↦ omega arith | false ↦ omega arith ])

-- ---- the table
pub record Takes (f g : Table) (p k : ℕ) : Type 0 where
  pub moved : (e : Entry) → f k ≡ Some e → g k ≡ Some (with_parent None e)
  pub shrunk : (e : Entry) → f p ≡ Some e → g p ≡ Some (without_child k e)
  pub apart : (i : ℕ) → i ≢ k → i ≢ p → g i ≡ f i

module _ (f : Table) (p k : ℕ) (dk : Entry) (at_k : f k ≡ Some dk) (below : dk.parent ≡ Some p) where
  -- whose parent k has
  parent-is : (c : Content) (q : Option ℕ) (bs cs : List ℕ) → f c.identity ≡ Some (entry_of c q bs cs) → k ≡ c.identity → q ≡ Some p
  parent-is c q bs cs h same = let z : Some (entry_of c q bs cs) ≡ Some dk = sym h ∙ ap f (sym same) ∙ at_k in (let y : entry_of c q bs cs ≡ dk = cc in ap (λ (e : Entry). e.parent) y ∙ below)

  roots-kept : (q : Option ℕ) (ts : Trees) → (q ≡ Some p → ⊥) → Holds f q ts → filter (λ i. not (eqb k i)) (roots ts) ≡ roots ts
  roots-kept q no_trees never h = refl
  roots-kept q (tree c bs cs rest) never h = ⊎_elim (λ t. absurd (never (parent-is c q _ _ h.0 t.1))) (λ t. rw t.0 (ap (λ x. c.identity ∷ x) (roots-kept q rest never h.3))) (eqb_tells k c.identity)

  Holds-picked : (q : Option ℕ) (ts : Trees) → Holds f q ts → Holds f (Some p) (pick k ts)
  Holds-picked q no_trees y = tt
  Holds-picked q (tree c bs cs rest) y =
      let b = Holds-picked (Some c.identity) bs y.1 in
      let s = Holds-picked (Some c.identity) cs y.2 in
      let r = Holds-picked q rest y.3 in
      ⊎_elim (λ t. rw t.0 (rw (sym (parent-is c q _ _ y.0 t.1)) y.0, y.1, y.2, r)) (λ t. rw t.0 (Holds-append f _ _ _ (Holds-append f _ _ _ b s) r)) (eqb_tells k c.identity)

  -- the parent stays where it is
  count-parent : (q : Option ℕ) (ts : Trees) → (q ≡ Some p → ⊥) → count k ts ≤ 1 → Holds f q ts → count k ts ≤ count p (without k ts)
  count-parent q no_trees never z y = omega arith
  count-parent q (tree c bs cs rest) never z y =
      ⊎_elim (λ t. absurd (never (parent-is c q _ _ y.0 t.1)))
      (λ t. ⊎_elim (λ u. rw (t.0, u.0) (let w = rw t.0 at z in omega arith))
      (λ (u : (eqb p c.identity ≡ false) × (p ≢ c.identity)). (let other : Some c.identity ≡ Some p → ⊥ = λ e. u.1 (cc) in
      let w = rw t.0 at z in
      let b = count-parent (Some c.identity) bs other (omega arith) y.1 in
      let s = count-parent (Some c.identity) cs other (omega arith) y.2 in
      let r = count-parent q rest never (omega arith) y.3 in
      rw (t.0, u.0) (omega arith)))
      (eqb_tells p c.identity))
      (eqb_tells k c.identity)

  -- the parent stands there, apart from k's tree
  pub parent-there : (n : ℕ) (ts : Trees) → IsTableOf f n ts → (count p (pick k ts) ≡ 0) × (count p ts ≡ 1) × (count k (pick k ts) ≡ 1)
  parent-there n ts h =
      let never : None ≡ Some p → ⊥ = λ e. (cc) in
      let one_k = count-there f n ts k dk h at_k in
      let split = weigh-pick (λ j. cond (eqb k j) 1 0) k ts in
      let split_p = weigh-pick (λ j. cond (eqb p j) 1 0) k ts in
      let gone = count-without k ts in
      let stays = count-parent None ts never (omega arith) h.holds in
      let most : count p ts ≤ 1 = count-most f n ts p h in
      (omega arith, omega arith, omega arith)

module _ (f g : Table) (p k : ℕ) (dk : Entry) (at_k : f k ≡ Some dk) (below : dk.parent ≡ Some p) (takes : Takes f g p k) where
  Holds-without : (q : Option ℕ) (ts : Trees) → Holds f q ts → Holds g q (without k ts)
  Holds-without q no_trees y = tt
  Holds-without q (tree c bs cs rest) y =
      let b = Holds-without (Some c.identity) bs y.1 in
      let s = Holds-without (Some c.identity) cs y.2 in
      let r = Holds-without q rest y.3 in
      ⊎_elim (λ t. rw t.0 r)
      (λ t. rw t.0 (
        ⊎_elim (λ u. rw (roots-without k bs, roots-without k cs) (ap g (sym u.1) ∙ takes.shrunk _ (ap f u.1 ∙ y.0)))
            (λ u. (let never : Some c.identity ≡ Some p → ⊥ = λ e. u.1 (cc) in rw (roots-without k bs, roots-without k cs, roots-kept f p k dk at_k below (Some c.identity) bs never y.1, roots-kept f p k dk at_k below (Some c.identity) cs never y.2) (takes.apart c.identity (λ e. t.1 (sym e)) (λ e. u.1 (sym e)) ∙ y.0)))
            (eqb_tells p c.identity),
        b,
        s,
        r,
      ))
      (eqb_tells k c.identity)

  Holds-freed : (us : Trees) → AllAre k us → count k us ≡ 1 → count p us ≡ 0 → Holds f (Some p) us → Holds g None us
  unfolding AllAre
  Holds-freed no_trees h e z y = tt
  Holds-freed (tree c bs cs no_trees) h e z y =
      let x : eqb k c.identity ≡ true = rw h.0 (eqb-same k) in
      let ones = rw x at e in (
        ap g h.0 ∙ takes.moved _ (ap f (sym h.0) ∙ y.0),
        Holds-same f g _ bs (λ i n. takes.apart i (count-apart i k bs n (omega arith)) (count-apart i p bs n (omega arith))) y.1,
        Holds-same f g _ cs (λ i n. takes.apart i (count-apart i k cs n (omega arith)) (count-apart i p cs n (omega arith))) y.2,
        tt,
      )
  Holds-freed (tree c bs cs (tree d ds es rest)) h e z y =
      let x : eqb k c.identity ≡ true = rw h.0 (eqb-same k) in
      let v : eqb k d.identity ≡ true = rw h.1.0 (eqb-same k) in
      absurd (let z = rw (x, v) at e in omega arith)

  module _ (dp : Entry) (at_p : f p ≡ Some dp) where
    Takes-there : (i : ℕ) → is_some (g i) ≡ is_some (f i)
    Takes-there i =
        ⊎_elim (λ t. rw t.1 (ap is_some (takes.moved dk at_k) ∙ sym (ap is_some at_k)))
        (λ t. ⊎_elim (λ u. rw u.1 (ap is_some (takes.shrunk dp at_p) ∙ sym (ap is_some at_p))) (λ u. ap is_some (takes.apart i t.1 u.1)) (eqb_tells i p)) (eqb_tells i k)

    Takes-root : (i : ℕ) → i ≢ k → entry_is_root (g i) ≡ entry_is_root (f i)
    Takes-root i ne = ⊎_elim (λ u. rw u.1 (ap entry_is_root (takes.shrunk dp at_p) ∙ sym (ap entry_is_root at_p))) (λ u. ap entry_is_root (takes.apart i ne u.1)) (eqb_tells i p)

    pub IsTableOf-take : (n : ℕ) (ts : Trees) → IsTableOf f n ts → IsTableOf g n (taken_out k ts)
    IsTableOf-take n ts h =
        let us = pick k ts in
        let vs = without k ts in
        let never : None ≡ Some p → ⊥ = λ e. (cc) in
        let facts = parent-there f p k dk at_k below n ts h in
        let k_picked : count k us ≡ 1 = facts.2 in
        let p_apart : count p us ≡ 0 = facts.0 in
        let single = one-root k us (AllAre-pick k ts) k_picked in
        let k_below : k < n = below-next f k n dk at_k h.above in
        let was : entry_is_root (f k) ≡ false = ap entry_is_root at_k ∙ rw below in
        let weight : (w : ℕ → ℕ) → weigh w (taken_out k ts) ≡ weigh w ts = λ w. weigh-ranked w k us vs ∙ weigh-pick w k ts in
        record {
          holds = Holds-ranked g k us vs (Holds-freed us (AllAre-pick k ts) k_picked p_apart (Holds-picked f p k dk at_k below None ts h.holds)) (Holds-without None ts h.holds);
          counted = λ i. weight _ ∙ h.counted i ∙ ap (λ b. cond b 1 0) (sym (Takes-there i));
          above = λ i z. takes.apart i (none-apart f i k dk (h.above i z) at_k) (none-apart f i p dp (h.above i z) at_p) ∙ h.above i z;
          fits = rw weight h.fits;
          in_order = roots-ranked k us vs single ∙ rw (roots-without k ts, roots-kept f p k dk at_k below None ts never h.holds, h.in_order) (sym (parentless-freed f g k n k_below (ap entry_is_root (takes.moved dk at_k)) was Takes-root));
        }

pub Takes-changes : (f m g : Table) (p k : ℕ) → p ≢ k → IsChangedAt f m p (without_child k) → IsChangedAt m g k (with_parent None) → Takes f g p k
Takes-changes f m g p k ne a b = record {
  moved = λ e h. b.here e (a.apart k (λ same. ne (sym same)) ∙ h);
  shrunk = λ e h. b.apart p ne ∙ a.here e h;
  apart = λ i x y. b.apart i x ∙ a.apart i y;
}
