-- The sizes of trees by their roots.
use Rattle.std.proofs.Common.{[], ◌≡◌, ◌≢◌, ℕ, ◌+◌, ◌-◌, ◌<◌, ◌≤◌, Bool, true, false, cond, eqb, nat_eq, refl, ap, sym, ◌∙◌, subst, arith, ⊎_elim, Option, Some, None, option_map, IsSome, IfSome, ◌^◌}
use Rattle.std.proofs.lemmas.Bool.{cases_lt}
use Rattle.std.proofs.lemmas.Bool.Decides.{eqb_tells}
use Rattle.std.specs.Cmp.{nat_eq_equiv}
use Rattle.std.specs.Option.{option_or}
use Rattle.std.specs.Map.{lookup}
use Rattle.std.proofs.lemmas.Map.{lookup-set_value}
use Rattle.row_pages.specs.Rows.{Term, entries, get, Changes, with_value}
use Rattle.data_model.specs.declared.node.Part.{Part}
use Rattle.data_model.specs.Trees.{Trees, no_trees, tree, Content, append, count, size}
use Rattle.data_model.specs.Changes.{with_part, with_content, pick}
use Rattle.data_model.specs.Walks.{root_of}
use Rattle.data_model.proofs.Climbs.{root-front, root-back}
use Rattle.data_model.proofs.Weights.{pick-absent}
use Rattle.node_table.specs.Flat.{Entry}
use Rattle.node_table.proofs.Contents.{SaysSame, weigh-with_content}
use Rattle.node_plans.proofs.Sites.{absent-part}
use Rattle.forest_index.specs.Sized.{size_at, AreSizes, kept_sizes, size_in, size_with}
use Rattle.forest_index.specs.declared.index.ForestIndex.{ForestIndex}

-- ---- what is kept
pub no-sizes : (ts : Trees) → AreSizes (size_in None) ts
unfolding size_in
no-sizes ts = λ r n e. cc

pub sizes-none : (o : Option ForestIndex) (ts : Trees) → o ≡ None → AreSizes (size_in (kept_sizes o)) ts
sizes-none o ts e = let P : Option ForestIndex → Type 0 = λ x. AreSizes (size_in (kept_sizes x)) ts in subst P (sym e) (no-sizes ts)

-- each size that the one has, the other has too
pub sizes-of : (f g : ℕ → Option ℕ) (ts : Trees) → ((r n : ℕ) → g r ≡ Some n → f r ≡ Some n) → AreSizes f ts → AreSizes g ts
sizes-of f g ts same h = λ r n e. h r n (same r n e)

pub with-none : (o : Option (Term ℕ)) (q : Term ℕ) → ((r : ℕ) → get q r ≡ None) → (r : ℕ) → size_with o q r ≡ size_in o r
unfolding size_with size_in
with-none None q none r = refl
with-none (Some m) q none r = ap (λ v. option_or v (get m r)) (none r)

pub empty-get : (q : Term ℕ) (r : ℕ) → entries q ≡ [] → get q r ≡ None
empty-get q r e = ap (lookup (nat_eq r)) e

pub get-same : (p q : Term ℕ) → entries q ≡ entries p → (r : ℕ) → get q r ≡ get p r
get-same p q e r = ap (lookup (nat_eq r)) e

pub with-same : (o : Option (Term ℕ)) (p q : Term ℕ) → ((r : ℕ) → get q r ≡ get p r) → (r : ℕ) → size_with o q r ≡ size_with o p r
unfolding size_with
with-same None p q same r = refl
with-same (Some m) p q same r = ap (λ v. option_or v (get m r)) (same r)

-- ---- a size is written
pub with-put : (o : Option (Term ℕ)) (p q : Term ℕ) (r n k : ℕ) → size_with o p r ≡ Some n → get q r ≡ Some k → size_with o q r ≡ Some k
unfolding size_with
with-put None p q r n k known here = cc
with-put (Some m) p q r n k known here = ap (λ v. option_or v (get m r)) here

pub with-apart : (o : Option (Term ℕ)) (p q : Term ℕ) (r : ℕ) → get q r ≡ get p r → size_with o q r ≡ size_with o p r
unfolding size_with
with-apart None p q r same = refl
with-apart (Some m) p q r same = ap (λ v. option_or v (get m r)) same

pub with-some : (m q : Term ℕ) (r : ℕ) → size_with (Some m) q r ≡ option_or (get q r) (get m r)
unfolding size_with
with-some m q r = refl

pub in-some : (m : Term ℕ) (r : ℕ) → size_in (Some m) r ≡ get m r
unfolding size_in
in-some m r = refl

pub with-nothing : (q : Term ℕ) (r : ℕ) → size_with None q r ≡ None
unfolding size_with
with-nothing q r = refl

pub in-nothing : (r : ℕ) → size_in None r ≡ None
unfolding size_in
in-nothing r = refl

-- one size is written in the place of another, and is left out of those that are to be written
pub write-step : (p q m n : Term ℕ) (k v : ℕ) → get p k ≡ Some v → Changes k None p q → get n k ≡ option_map (λ _. v) (get m k) → ((i : ℕ) → i ≢ k → get n i ≡ get m i) → (r x : ℕ) → option_or (get q r) (get n r) ≡ Some x → option_or (get p r) (get m r) ≡ Some x
write-step p q m n k v was out here apart r x h = ⊎_elim (λ t. same t.1 (get m k) refl) (λ t. other t.1) (eqb_tells r k)
  where
    value : (o : Option ℕ) → option_map (λ _. v) o ≡ Some x → Some v ≡ Some x
    value None z = cc
    value (Some y) z = z

    other : r ≢ k → option_or (get p r) (get m r) ≡ Some x
    other ne = rw (out.apart r ne, apart r ne) at h

    same : r ≡ k → (o : Option ℕ) → get m k ≡ o → option_or (get p r) (get m r) ≡ Some x
    same e o is =
        let P : ℕ → Type 0 = λ j. option_or (get q j) (get n j) ≡ Some x in
        let Q : ℕ → Type 0 = λ j. option_or (get p j) (get m j) ≡ Some x in
        let left : get n k ≡ Some x = rw out.here at (subst P e h) in
        subst Q (sym e) (rw was (value o (sym (here ∙ ap (option_map (λ _. v)) is) ∙ left)))

pub size-written : (m : Term ℕ) (k w : ℕ) → IsSome (get m k) → Changes k (Some w) m (with_value m k w)
size-written m k w h = record {
  here = lookup-set_value nat_eq_equiv (nat_eq k) (nat_eq_equiv.congr k) k w m.0 h ∙ (let same : nat_eq k k ≡ true = ⊎_elim (λ t. t.0) (λ t. absurd (t.1 refl)) (eqb_tells k k) in rw same);
  apart = λ i ne. lookup-set_value nat_eq_equiv (nat_eq k) (nat_eq_equiv.congr k) i w m.0 h ∙ (let other : nat_eq k i ≡ false = ⊎_elim (λ t. absurd (ne (sym t.1))) (λ t. t.0) (eqb_tells k i) in rw other);
}

-- ---- a root's tree
pub at-there : (r : ℕ) (ts : Trees) → 0 < size_at r ts → 0 < count r ts
at-there r no_trees h = h
at-there r (tree c bs cs rest) h = by (eqb r c.identity) h (at-there r rest)
  where
    by : (b : Bool) → 0 < cond b (size (tree c bs cs no_trees)) (size_at r rest) → (0 < size_at r rest → 0 < count r rest) → 0 < cond b 1 0 + count r bs + count r cs + count r rest
    by true h more = omega arith
    by false h more = (let m = more h in omega arith)

pub at-most : (r : ℕ) (ts : Trees) → size_at r ts ≤ size ts
at-most r no_trees = omega arith
at-most r (tree c bs cs rest) = by (eqb r c.identity) (at-most r rest)
  where
    by : (b : Bool) → size_at r rest ≤ size rest → cond b (size (tree c bs cs no_trees)) (size_at r rest) ≤ size (tree c bs cs rest)
    by true h = omega arith
    by false h = omega arith

pub at-picked : (r : ℕ) (ts : Trees) → ((i : ℕ) → count i ts ≤ 1) → 0 < size_at r ts → size (pick r ts) ≡ size_at r ts
at-picked r no_trees d h = absurd (omega arith)
at-picked r (tree c bs cs rest) d h = by (eqb r c.identity) (d r) h (at-picked r rest (λ i. (let z = d i in omega arith))) (at-there r rest)
  where
    by : (b : Bool) → cond b 1 0 + count r bs + count r cs + count r rest ≤ 1 → 0 < cond b (size (tree c bs cs no_trees)) (size_at r rest) → (0 < size_at r rest → size (pick r rest) ≡ size_at r rest) → (0 < size_at r rest → 0 < count r rest)
        → size (cond b (tree c bs cs (pick r rest)) (append (append (pick r bs) (pick r cs)) (pick r rest))) ≡ cond b (size (tree c bs cs no_trees)) (size_at r rest)
    by true one h more there = (let none = pick-absent r rest (omega arith) in rw none refl)
    by false one h more there = (let z = there h in let first = pick-absent r bs (omega arith) in let second = pick-absent r cs (omega arith) in rw (first, second) (more h))

pub sizes-read : (f : ℕ → Option ℕ) (ts : Trees) → ((i : ℕ) → count i ts ≤ 1) → AreSizes f ts → (r : ℕ) (o : Option ℕ) → o ≡ f r → IfSome o (λ n. n ≡ size (pick r ts))
sizes-read f ts d sizes r None e = tt
sizes-read f ts d sizes r (Some n) e =
    let z = sizes r n (sym e) in
    let is : n ≡ size_at r ts = z.1 in
    is ∙ sym (at-picked r ts d (rw is at z.0))

-- ---- a node says something else
pub at-content : (s : Content → Content) (step : Entry → Entry) (same : SaysSame s step) (k r : ℕ) (ts : Trees) → size_at r (with_content k s ts) ≡ size_at r ts
at-content s step same k r no_trees = refl
at-content s step same k r (tree c bs cs rest) =
    let first = weigh-with_content s step same k (λ _. 1) bs in
    let second = weigh-with_content s step same k (λ _. 1) cs in
    by (eqb k c.identity) first second (at-content s step same k r rest)
  where
    by : (b : Bool) → size (with_content k s bs) ≡ size bs → size (with_content k s cs) ≡ size cs → size_at r (with_content k s rest) ≡ size_at r rest
        → size_at r (tree (cond b (s c) c) (with_content k s bs) (with_content k s cs) (with_content k s rest)) ≡ size_at r (tree c bs cs rest)
    by true first second more = rw (same.identity c, first, second, more)
    by false first second more = rw (first, second, more)

pub sizes-content : (f : ℕ → Option ℕ) (s : Content → Content) (step : Entry → Entry) (same : SaysSame s step) (k : ℕ) (ts : Trees) → AreSizes f ts → AreSizes f (with_content k s ts)
sizes-content f s step same k ts h = λ r n e. (let z = h r n e in (z.0, z.1 ∙ sym (at-content s step same k r ts)))

-- ---- a list below a node becomes another
self-count : (c : Content) (bs cs rest : Trees) → 0 < count c.identity (tree c bs cs rest)
self-count c bs cs rest = ⊎_elim (λ t. rw t.0 (omega arith)) (λ t. absurd (t.1 refl)) (eqb_tells c.identity c.identity)

root-there : (i : ℕ) (ts : Trees) → 0 < count i ts → 0 < count (root_of i ts) ts
root-there i no_trees h = absurd (omega arith)
root-there i (tree c bs cs rest) h =
    let more = root-there i rest in
    let P : ℕ → Type 0 = λ j. 0 < count j (tree c bs cs rest) in
    ⊎_elim (λ t. subst P (sym (root-front c bs cs rest i t)) (self-count c bs cs rest))
    (λ t. subst P (sym (root-back c bs cs rest i (omega arith))) (let z : 0 < count (root_of i rest) rest = more (omega arith) in omega arith)) (cases_lt 0 (count i (tree c bs cs no_trees)))

module _ (part : Part) (p : ℕ) (g : Trees → Trees) where
  abbrev W : Trees → Trees
  W = with_part part p g

  pub at-apart : (r : ℕ) (ts : Trees) → ((i : ℕ) → count i ts ≤ 1) → r ≢ root_of p ts → size_at r (W ts) ≡ size_at r ts
  at-apart r no_trees d ne = refl
  at-apart r (tree c bs cs rest) d ne =
      let more = at-apart r rest (λ i. (let z = d i in omega arith)) in
      ⊎_elim (λ t. front t (absent-part part p g rest (let z = d p in omega arith))) (λ t. back (omega arith) more) (cases_lt 0 (count p (tree c bs cs no_trees)))
    where
      by : (b : Bool) → size (W (tree c bs cs no_trees)) ≡ size (tree c bs cs no_trees) → size_at r (W rest) ≡ size_at r rest → cond b (size (W (tree c bs cs no_trees))) (size_at r (W rest)) ≡ cond b (size (tree c bs cs no_trees)) (size_at r rest)
      by true same rests = same
      by false same rests = rests

      front : 0 < count p (tree c bs cs no_trees) → W rest ≡ rest → size_at r (W (tree c bs cs rest)) ≡ size_at r (tree c bs cs rest)
      front t same =
          let other : eqb r c.identity ≡ false = ⊎_elim (λ e. absurd (ne (e.1 ∙ sym (root-front c bs cs rest p t)))) (λ e. e.0) (eqb_tells r c.identity) in
          rw other (ap (size_at r) same)

      back : count p (tree c bs cs no_trees) ≡ 0 → (r ≢ root_of p rest → size_at r (W rest) ≡ size_at r rest) → size_at r (W (tree c bs cs rest)) ≡ size_at r (tree c bs cs rest)
      back none more =
          let same : size (W (tree c bs cs no_trees)) ≡ size (tree c bs cs no_trees) = ap size (absent-part part p g (tree c bs cs no_trees) none) in
          let rests = more (λ e. ne (e ∙ sym (root-back c bs cs rest p none))) in
          by (eqb r c.identity) same rests

  -- what the tree of p grows by, all trees grow by
  pub at-root : (ts : Trees) → ((i : ℕ) → count i ts ≤ 1) → 0 < count p ts → size_at (root_of p ts) (W ts) + size ts ≡ size_at (root_of p ts) ts + size (W ts)
  at-root no_trees d h = absurd (omega arith)
  at-root (tree c bs cs rest) d h =
      let more = at-root rest (λ i. (let z = d i in omega arith)) in
      let split : size (W (tree c bs cs rest)) ≡ size (W (tree c bs cs no_trees)) + size (W rest) = omega arith in
      ⊎_elim (λ t. front t split (ap size (absent-part part p g rest (let z = d p in omega arith)))) (λ t. back (omega arith) split more) (cases_lt 0 (count p (tree c bs cs no_trees)))
    where
      front : 0 < count p (tree c bs cs no_trees) → size (W (tree c bs cs rest)) ≡ size (W (tree c bs cs no_trees)) + size (W rest) → size (W rest) ≡ size rest
          → size_at (root_of p (tree c bs cs rest)) (W (tree c bs cs rest)) + size (tree c bs cs rest) ≡ size_at (root_of p (tree c bs cs rest)) (tree c bs cs rest) + size (W (tree c bs cs rest))
      front t split same =
          let self : eqb c.identity c.identity ≡ true = ⊎_elim (λ e. e.0) (λ e. absurd (e.1 refl)) (eqb_tells c.identity c.identity) in
          let P : ℕ → Type 0 = λ r. size_at r (W (tree c bs cs rest)) + size (tree c bs cs rest) ≡ size_at r (tree c bs cs rest) + size (W (tree c bs cs rest)) in
          subst P (sym (root-front c bs cs rest p t)) (rw self (omega arith))

      back : count p (tree c bs cs no_trees) ≡ 0 → size (W (tree c bs cs rest)) ≡ size (W (tree c bs cs no_trees)) + size (W rest) → (0 < count p rest → size_at (root_of p rest) (W rest) + size rest ≡ size_at (root_of p rest) rest + size (W rest))
          → size_at (root_of p (tree c bs cs rest)) (W (tree c bs cs rest)) + size (tree c bs cs rest) ≡ size_at (root_of p (tree c bs cs rest)) (tree c bs cs rest) + size (W (tree c bs cs rest))
      back none split more =
          let there : 0 < count p rest = omega arith in
          let rests = more there in
          let q = root_of p rest in
          let stands : 0 < count q rest = root-there p rest there in
          let other : eqb q c.identity ≡ false = ⊎_elim (λ e. (let one = d q in (let z = rw e.0 at one in absurd (omega arith)))) (λ e. e.0) (eqb_tells q c.identity) in
          let same : size (W (tree c bs cs no_trees)) ≡ size (tree c bs cs no_trees) = ap size (absent-part part p g (tree c bs cs no_trees) none) in
          let P : ℕ → Type 0 = λ r. size_at r (W (tree c bs cs rest)) + size (tree c bs cs rest) ≡ size_at r (tree c bs cs rest) + size (W (tree c bs cs rest)) in
          subst P (sym (root-back c bs cs rest p none)) (rw other (omega arith))

  pub at-stays : (r : ℕ) (ts : Trees) → 0 < size_at r ts → 0 < size_at r (W ts)
  at-stays r no_trees h = h
  at-stays r (tree c bs cs rest) h = by (eqb r c.identity) h (at-stays r rest)
    where
      by : (b : Bool) → 0 < cond b (size (tree c bs cs no_trees)) (size_at r rest) → (0 < size_at r rest → 0 < size_at r (W rest)) → 0 < cond b (size (W (tree c bs cs no_trees))) (size_at r (W rest))
      by true h more = omega arith
      by false h more = more h

  module _ (f h : ℕ → Option ℕ) (ts : Trees) (d : (i : ℕ) → count i ts ≤ 1) (there : 0 < count p ts) (added removed : ℕ) (total : size (W ts) + removed ≡ size ts + added) (sizes : AreSizes f ts) where
    pub sizes-fit : (k : ℕ) → size ts ≤ k → added ≤ k → k ≤ 2 ^ 62 → IfSome (f (root_of p ts)) (λ n. (n + added < 2 ^ 64) × (removed ≤ n + added))
    sizes-fit k most few bound = by (f (root_of p ts)) refl
      where
        by : (o : Option ℕ) → f (root_of p ts) ≡ o → IfSome o (λ n. (n + added < 2 ^ 64) × (removed ≤ n + added))
        by None e = tt
        by (Some n) e =
            let z = sizes (root_of p ts) n e in
            let is = z.1 in
            let within = at-most (root_of p ts) ts in
            let grown = at-root ts d there in (omega arith, omega arith)

    pub sizes-spliced : h (root_of p ts) ≡ option_map (λ n. n + added - removed) (f (root_of p ts)) → ((r : ℕ) → r ≢ root_of p ts → h r ≡ f r) → AreSizes h (W ts)
    sizes-spliced here apart = λ r n e. ⊎_elim (λ t. root r n t.1 e (f (root_of p ts)) refl) (λ t. other r n t.1 e) (eqb_tells r (root_of p ts))
      where
        other : (r n : ℕ) → r ≢ root_of p ts → h r ≡ Some n → (0 < n) × (n ≡ size_at r (W ts))
        other r n ne e = (let z = sizes r n (sym (apart r ne) ∙ e) in (z.0, z.1 ∙ sym (at-apart r ts d ne)))

        root : (r n : ℕ) → r ≡ root_of p ts → h r ≡ Some n → (o : Option ℕ) → f (root_of p ts) ≡ o → (0 < n) × (n ≡ size_at r (W ts))
        root r n is e None none = (let z : option_map (λ m. m + added - removed) None ≡ Some n = ap (option_map (λ m. m + added - removed)) (sym none) ∙ sym here ∙ ap h (sym is) ∙ e in cc)
        root r n is e (Some m) some =
            let z : Some (m + added - removed) ≡ Some n = ap (option_map (λ k. k + added - removed)) (sym some) ∙ sym here ∙ ap h (sym is) ∙ e in
            let same : m + added - removed ≡ n = cc in
            let was = sizes (root_of p ts) m some in
            let size_was : m ≡ size_at (root_of p ts) ts = was.1 in
            let grown = at-root ts d there in
            let stays = at-stays (root_of p ts) ts (rw size_was at was.0) in
            let now : n ≡ size_at (root_of p ts) (W ts) = omega arith in
            (rw now stays, now ∙ ap (λ j. size_at j (W ts)) (sym is))
