-- A root that moves below another node.
use Rattle.std.specs.List.{insert}
use Prim.Native.Nat.{zero, suc}
use Rattle.std.proofs.Common.{◌≡◌, ◌≢◌, ℕ, ◌+◌, ◌*◌, ◌<◌, Bool, true, false, not, List, [], ◌∷◌, ◌++◌, filter, cond, eqb, refl, ap, sym, ◌∙◌, arith, ⊎_elim, Option, Some, None, is_some, subst}
use Rattle.std.proofs.Math.Nat.{add-mul}
use Rattle.std.proofs.lemmas.List.Elements.{filter-append}
use Rattle.std.proofs.lemmas.Bool.Decides.{eqb_tells}
use Rattle.std.proofs.lemmas.Bool.{eqb-true, eqb-false}
use Rattle.data_model.specs.Trees.{Trees, no_trees, tree, Content, append, roots, weigh, count}
use Rattle.data_model.specs.Changes.{is_attributes, is_children, with_part, pick, without, splice, moved_below}
use Rattle.data_model.specs.declared.node.Part.{Part}
use Rattle.data_model.specs.declared.node.Part.TheVariants.{Attributes, Children}
use Rattle.std.proofs.Math.Bool.{and-true, and-false}
use Rattle.node_table.specs.Flat.{Entry, Table, entry_of, Holds, entry_is_root, parentless, IsTableOf, IsChangedAt, Puts, with_child, with_parent}
use Rattle.data_model.proofs.Weights.{weigh-splice, roots-splice, weigh-pick, eqb-same}
use Rattle.node_table.proofs.Tables.{Holds-same, Holds-splice, count-there}

-- ---- what is picked
unfoldable pub AllAre : ℕ → Trees → Type 0
AllAre k no_trees = Unit {0}
AllAre k (tree c bs cs rest) = (c.identity ≡ k) × AllAre k rest

AllAre-append : (k : ℕ) (ts us : Trees) → AllAre k ts → AllAre k us → AllAre k (append ts us)
unfolding AllAre
AllAre-append k no_trees us h z = z
AllAre-append k (tree c bs cs rest) us h z = (h.0, AllAre-append k rest us h.1 z)

pub AllAre-pick : (k : ℕ) (ts : Trees) → AllAre k (pick k ts)
unfolding AllAre
AllAre-pick k no_trees = tt
AllAre-pick k (tree c bs cs rest) =
    ⊎_elim (λ t. rw t.0 (sym t.1, AllAre-pick k rest)) (λ t. rw t.0 (AllAre-append k _ _ (AllAre-append k _ _ (AllAre-pick k bs) (AllAre-pick k cs)) (AllAre-pick k rest))) (eqb_tells k c.identity)

pub count-without : (k : ℕ) (ts : Trees) → count k (without k ts) ≡ 0
count-without k no_trees = refl
count-without k (tree c bs cs rest) =
    ⊎_elim (λ t. rw t.0 (count-without k rest)) (λ t. rw (t.0, t.0) (omega (arith, count-without k bs, count-without k cs, count-without k rest))) (eqb_tells k c.identity)

-- the roots that stay
pub roots-without : (k : ℕ) (ts : Trees) → roots (without k ts) ≡ filter (λ i. not (eqb k i)) (roots ts)
roots-without k no_trees = refl
roots-without k (tree c bs cs rest) = ⊎_elim (λ t. rw t.0 (roots-without k rest)) (λ t. rw t.0 (ap (λ x. c.identity ∷ x) (roots-without k rest))) (eqb_tells k c.identity)

-- ---- a node with no parent is not below another
module _ (f : Table) (k : ℕ) (e : Entry) (there : f k ≡ Some e) (free : e.parent ≡ None) where
  apart-below : (i q : ℕ) (c : Content) (bs cs : List ℕ) → f c.identity ≡ Some (entry_of c (Some q) bs cs) → k ≢ c.identity
  apart-below i q c bs cs h same = let z : Some e ≡ Some (entry_of c (Some q) bs cs) = sym there ∙ ap f same ∙ h in cc

  pick-below : (q : ℕ) (ts : Trees) → Holds f (Some q) ts → (pick k ts ≡ no_trees) × (without k ts ≡ ts)
  pick-below q no_trees h = (refl, refl)
  pick-below q (tree c bs cs rest) h =
      let b = pick-below c.identity bs h.1 in
      let s = pick-below c.identity cs h.2 in
      let r = pick-below q rest h.3 in
      ⊎_elim (λ t. absurd (apart-below 0 q c _ _ h.0 t.1))
      (λ t. rw (t.0, b.0, s.0, r.0, b.1, s.1, r.1) (refl, refl)) (eqb_tells k c.identity)

  pub Holds-pick : (ts : Trees) → Holds f None ts → Holds f None (pick k ts) × Holds f None (without k ts)
  Holds-pick no_trees h = (tt, tt)
  Holds-pick (tree c bs cs rest) h =
      let b = pick-below c.identity bs h.1 in
      let s = pick-below c.identity cs h.2 in
      let r = Holds-pick rest h.3 in
      ⊎_elim (λ t. rw t.0 ((h.0, h.1, h.2, r.0), r.1)) (λ t. rw (t.0, b.0, s.0, b.1, s.1) (r.0, (h.0, h.1, h.2, r.1))) (eqb_tells k c.identity)

-- ---- one tree moves below p
roots-with_part : (part : Part) (p : ℕ) (g : Trees → Trees) (ts : Trees) → roots (with_part part p g ts) ≡ roots ts
roots-with_part part p g no_trees = refl
roots-with_part part p g (tree c bs cs rest) = ap (λ x. c.identity ∷ x) (roots-with_part part p g rest)

-- a list that takes new trees, or does not
roots-chosen : (b : Bool) (m : ℕ) (us ts : Trees) (k : ℕ) → roots us ≡ k ∷ [] → roots (cond b (splice m us ts) ts) ≡ cond b (insert (roots ts) m k) (roots ts)
roots-chosen true m us ts k e = roots-splice m us ts k e
roots-chosen false m us ts k e = refl

Holds-chosen : (f : Table) (p : Option ℕ) (b : Bool) (m : ℕ) (us ts : Trees) → Holds f p us → Holds f p ts → Holds f p (cond b (splice m us ts) ts)
Holds-chosen f p true m us ts h k = Holds-splice f p m us ts h k
Holds-chosen f p false m us ts h k = k

weigh-chosen : (w : ℕ → ℕ) (b : Bool) (m : ℕ) (us ts : Trees) → weigh w (cond b (splice m us ts) ts) ≡ weigh w ts + cond b (weigh w us) 0
weigh-chosen w true m us ts = weigh-splice w m us ts
weigh-chosen w false m us ts = omega arith

one-part : (part : Part) (n : ℕ) → cond (is_attributes part) n 0 + cond (is_children part) n 0 ≡ n
one-part Attributes n = omega arith
one-part Children n = omega arith

pub one-root : (k : ℕ) (us : Trees) → AllAre k us → count k us ≡ 1 → roots us ≡ k ∷ []
unfolding AllAre
one-root k no_trees h e = absurd (omega arith)
one-root k (tree c bs cs no_trees) h e = rw h.0
one-root k (tree c bs cs (tree d ds es rest)) h e =
    let x : eqb k c.identity ≡ true = rw h.0 (eqb-same k) in
    let y : eqb k d.identity ≡ true = rw h.1.0 (eqb-same k) in
    absurd (let z = rw (x, y) at e in omega arith)

four_times : (e a b r u : ℕ) → (e + a + b + r) * u ≡ e * u + a * u + b * u + r * u
four_times e a b r u = simp add-mul

-- what a tree's nodes weigh once new trees stand below p
pub weigh-grown : (w : ℕ → ℕ) (part : Part) (m p : ℕ) (us ts : Trees) → weigh w (with_part part p (splice m us) ts) ≡ weigh w ts + count p ts * weigh w us
weigh-grown w part m p us no_trees = omega arith
weigh-grown w part m p us (tree c bs cs rest) =
    let b = weigh-grown w part m p us bs in
    let s = weigh-grown w part m p us cs in
    let r = weigh-grown w part m p us rest in
    let u = weigh w us in
    let four : (e : ℕ) → (e + count p bs + count p cs + count p rest) * u ≡ e * u + count p bs * u + count p cs * u + count p rest * u = λ e. four_times e _ _ _ u in
    let both = one-part part u in
    ⊎_elim
    (λ t. rw (t.0, and-true (is_attributes part), and-true (is_children part)) (let x = weigh-chosen w (is_attributes part) m us (with_part part p (splice m us) bs) in let y = weigh-chosen w (is_children part) m us (with_part part p (splice m us) cs) in omega (arith, four 1)))
    (λ t. rw (t.0, and-false (is_attributes part), and-false (is_children part)) (omega (arith, four 0))) (eqb_tells p c.identity)

pub count-apart : (i k : ℕ) (ts : Trees) → 0 < count i ts → count k ts ≡ 0 → i ≢ k
count-apart i k ts n z same = let e : count i ts ≡ count k ts = ap (λ j. count j ts) same in omega arith

one-apart : (k i : ℕ) → cond {A = ℕ} (eqb k i) 1 0 ≡ 0 → i ≢ k
one-apart k i z same = let x : eqb k i ≡ true = rw same (eqb-same k) in let y = rw x at z in omega arith

pub none-apart : (f : Table) (i k : ℕ) (e : Entry) → f i ≡ None → f k ≡ Some e → i ≢ k
none-apart f i k e x y same = let z : f i ≡ f k = ap f same in cc

module _ (f g : Table) (part : Part) (m p k : ℕ) (puts : Puts f g part m p k) where
  Holds-moved : (us : Trees) → AllAre k us → count k us ≡ 1 → count p us ≡ 0 → Holds f None us → Holds g (Some p) us
  unfolding AllAre
  Holds-moved no_trees h e z y = tt
  Holds-moved (tree c bs cs no_trees) h e z y =
      let x : eqb k c.identity ≡ true = rw h.0 (eqb-same k) in
      let ones = rw x at e in (
        ap g h.0 ∙ puts.moved _ (ap f (sym h.0) ∙ y.0),
        Holds-same f g _ bs (λ i n. puts.apart i (count-apart i k bs n (omega arith)) (count-apart i p bs n (omega arith))) y.1,
        Holds-same f g _ cs (λ i n. puts.apart i (count-apart i k cs n (omega arith)) (count-apart i p cs n (omega arith))) y.2,
        tt,
      )
  Holds-moved (tree c bs cs (tree d ds es rest)) h e z y =
      let x : eqb k c.identity ≡ true = rw h.0 (eqb-same k) in
      let v : eqb k d.identity ≡ true = rw h.1.0 (eqb-same k) in
      absurd (let z = rw (x, v) at e in omega arith)

  Holds-grown : (us : Trees) → roots us ≡ k ∷ [] → Holds g (Some p) us → (q : Option ℕ) (ts : Trees) → count k ts ≡ 0 → Holds f q ts → Holds g q (with_part part p (splice m us) ts)
  Holds-grown us one h q no_trees z y = tt
  Holds-grown us one h q (tree c bs cs rest) z y =
      let b = Holds-grown us one h (Some c.identity) bs (omega arith) y.1 in
      let s = Holds-grown us one h (Some c.identity) cs (omega arith) y.2 in
      let r = Holds-grown us one h q rest (omega arith) y.3 in
      let bs' = with_part part p (splice m us) bs in
      let cs' = with_part part p (splice m us) cs in
      let rb : roots bs' ≡ roots bs = roots-with_part part p (splice m us) bs in
      let rs : roots cs' ≡ roots cs = roots-with_part part p (splice m us) cs in
      ⊎_elim
      (λ t. rw (t.0, and-true (is_attributes part), and-true (is_children part))
      (let here : Holds g (Some c.identity) us = (let P : ℕ → Type 0 = λ i. Holds g (Some i) us in subst P t.1 h) in (
        ap g (sym t.1) ∙ puts.grown _ (ap f t.1 ∙ y.0) ∙ rw (roots-chosen (is_attributes part) m us bs' k one, roots-chosen (is_children part) m us cs' k one, rb, rs),
        Holds-chosen g _ (is_attributes part) m us bs' here b,
        Holds-chosen g _ (is_children part) m us cs' here s,
        r,
      )))
      (λ t. rw (t.0, and-false (is_attributes part), and-false (is_children part)) (rw (rb, rs) (puts.apart c.identity (one-apart k c.identity (omega arith)) (λ same. t.1 (sym same)) ∙ y.0), b, s, r))
      (eqb_tells p c.identity)

one-kept : (k n : ℕ) (x y : Bool) → (eqb k n ≡ true → x ≡ false) → (eqb k n ≡ false → x ≡ y) → cond x (n ∷ []) [] ≡ filter (λ i. not (eqb k i)) (cond y (n ∷ []) [])
one-kept k n x true h e = ⊎_elim (λ t. rw (h t.0, t.0)) (λ t. rw (e t.0, t.0)) (eqb_tells k n)
one-kept k n x false h e = ⊎_elim (λ t. rw (h t.0)) (λ t. rw (e t.0)) (eqb_tells k n)

-- the nodes with no parent, once k has one
pub parentless-moved : (f g : Table) (k n : ℕ) → entry_is_root (g k) ≡ false → ((i : ℕ) → i ≢ k → entry_is_root (g i) ≡ entry_is_root (f i)) → parentless g n ≡ filter (λ i. not (eqb k i)) (parentless f n)
parentless-moved f g k zero z e = refl
parentless-moved f g k (suc n) z e =
    rw (parentless-moved f g k n z e, filter-append)
    (ap (λ x. filter (λ i. not (eqb k i)) (parentless f n) ++ x)
    (one-kept k n (entry_is_root (g n)) (entry_is_root (f n)) (λ t. ap (λ i. entry_is_root (g i)) (sym (eqb-true k n t)) ∙ z) (λ t. e n (λ same. eqb-false k n t (sym same)))))

module _ (f g : Table) (part : Part) (m p k : ℕ) (dp dk : Entry) (at_p : f p ≡ Some dp) (at_k : f k ≡ Some dk) (puts : Puts f g part m p k) where
  Puts-there : (i : ℕ) → is_some (g i) ≡ is_some (f i)
  Puts-there i =
      ⊎_elim (λ t. rw t.1 (ap is_some (puts.moved dk at_k) ∙ sym (ap is_some at_k)))
      (λ t. ⊎_elim (λ u. rw u.1 (ap is_some (puts.grown dp at_p) ∙ sym (ap is_some at_p))) (λ u. ap is_some (puts.apart i t.1 u.1)) (eqb_tells i p)) (eqb_tells i k)

  Puts-root : (i : ℕ) → i ≢ k → entry_is_root (g i) ≡ entry_is_root (f i)
  Puts-root i ne = ⊎_elim (λ u. rw u.1 (ap entry_is_root (puts.grown dp at_p) ∙ sym (ap entry_is_root at_p))) (λ u. ap entry_is_root (puts.apart i ne u.1)) (eqb_tells i p)

-- a root k that moves below p
pub IsTableOf-put : (f g : Table) (n : ℕ) (ts : Trees) (part : Part) (m p k : ℕ) (dp dk : Entry) → IsTableOf f n ts → f p ≡ Some dp → f k ≡ Some dk → dk.parent ≡ None → count p (pick k ts) ≡ 0 → Puts f g part m p k
    → IsTableOf g n (with_part part p (splice m (pick k ts)) (without k ts))
IsTableOf-put f g n ts part m p k dp dk h at_p at_k free apart puts =
    let us = pick k ts in
    let vs = without k ts in
    let split = weigh-pick (λ j. cond (eqb k j) 1 0) k ts in
    let split_p = weigh-pick (λ j. cond (eqb p j) 1 0) k ts in
    let one_k = count-there f n ts k dk h at_k in
    let one_p = count-there f n ts p dp h at_p in
    let gone = count-without k ts in
    let k_picked : count k us ≡ 1 = omega arith in
    let p_stays : count p vs ≡ 1 = omega arith in
    let single = one-root k us (AllAre-pick k ts) k_picked in
    let holds = Holds-pick f k dk at_k free ts h.holds in
    let weight : (w : ℕ → ℕ) → weigh w (with_part part p (splice m us) vs) ≡ weigh w ts = λ w. weigh-grown w part m p us vs ∙ rw p_stays (omega (arith, weigh-pick w k ts)) in
    record {
      holds = Holds-grown f g part m p k puts us single (Holds-moved f g part m p k puts us (AllAre-pick k ts) k_picked apart holds.0) None vs gone holds.1;
      counted = λ i. weight _ ∙ h.counted i ∙ ap (λ b. cond b 1 0) (sym (Puts-there f g part m p k dp dk at_p at_k puts i));
      above = λ i z. puts.apart i (none-apart f i k dk (h.above i z) at_k) (none-apart f i p dp (h.above i z) at_p) ∙ h.above i z;
      fits = rw weight h.fits;
      in_order = roots-with_part part p _ vs ∙ roots-without k ts ∙ rw h.in_order (sym (parentless-moved f g k n (ap entry_is_root (puts.moved dk at_k)) (Puts-root f g part m p k dp dk at_p at_k puts)));
    }

-- a tree that moves weighs what it weighed
pub weigh-moved : (w : ℕ → ℕ) (part : Part) (m p k : ℕ) (ts : Trees) → count p ts ≡ 1 → count p (pick k ts) ≡ 0 → weigh w (moved_below part p m k ts) ≡ weigh w ts
weigh-moved w part m p k ts one apart =
    let stays : count p (without k ts) ≡ 1 = omega (arith, weigh-pick (λ j. cond (eqb p j) 1 0) k ts) in
    weigh-grown w part m p (pick k ts) (without k ts) ∙ rw stays (omega (arith, weigh-pick w k ts))

-- what is picked is not the parent that it gets
pub put-apart : (f : Table) (n : ℕ) (ts : Trees) (p k : ℕ) (dk : Entry) → IsTableOf f n ts → f k ≡ Some dk → count p (pick k ts) ≡ 0 → p ≢ k
put-apart f n ts p k dk h at_k apart same =
    let split = weigh-pick (λ j. cond (eqb k j) 1 0) k ts in
    let one_k = count-there f n ts k dk h at_k in
    let gone = count-without k ts in
    let e : count p (pick k ts) ≡ count k (pick k ts) = ap (λ j. count j (pick k ts)) same in
    omega arith

pub Puts-changes : (f t g : Table) (part : Part) (m p k : ℕ) → p ≢ k → IsChangedAt f t p (with_child part m k) → IsChangedAt t g k (with_parent (Some p)) → Puts f g part m p k
Puts-changes f t g part m p k ne a b = record {
  moved = λ e h. b.here e (a.apart k (λ same. ne (sym same)) ∙ h);
  grown = λ e h. b.apart p ne ∙ a.here e h;
  apart = λ i x y. b.apart i x ∙ a.apart i y;
}
