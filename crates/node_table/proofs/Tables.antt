-- A table of nodes, and the trees that it holds.
use Prim.Native.Nat.{zero, suc}
use Rattle.std.proofs.Common.{◌≡◌, ◌≢◌, ℕ, ◌+◌, ◌≤◌, ◌<◌, [], cond, refl, ap, sym, ◌∙◌, arith, ⊎_elim, ◌⊎◌, inl, inr, IsSome, option_map, Option, Some, None, is_some, subst, add-one, append-nil}
use Rattle.std.proofs.lemmas.Bool.{cases_lt}
use Rattle.std.proofs.lemmas.Bool.Decides.{eqb_tells}
use Rattle.data_model.specs.Trees.{Trees, no_trees, tree, Content, Place, first, find, find_below, append, roots, count, height, leaf}
use Rattle.data_model.specs.Changes.{splice}
use Rattle.node_table.specs.Flat.{Entry, Table, entry_of, entry_at, Holds, read_trees, parentless, IsTableOf}
use Rattle.node_table.specs.Rows.{trees_of}
use Rattle.data_model.proofs.Weights.{weigh-append, roots-append, height-le, eqb-same}

-- the table gives the trees back
pub read-holds : (f : Table) (p : Option ℕ) (ts : Trees) (n : ℕ) → Holds f p ts → height ts ≤ n → read_trees n f (roots ts) ≡ ts
read-holds f p no_trees zero h k = refl
read-holds f p no_trees (suc n) h k = refl
read-holds f p (tree c bs cs rest) zero h k = absurd (omega arith)
read-holds f p (tree c bs cs rest) (suc n) h k =
    rw h.0 (λ i. tree c (read-holds f (Some c.identity) bs n h.1 (omega arith) i) (read-holds f (Some c.identity) cs n h.2 (omega arith) i) (read-holds f p rest (suc n) h.3 (omega arith) i))

pub trees-of : (f : Table) (n : ℕ) (ts : Trees) → IsTableOf f n ts → trees_of f n ≡ ts
unfolding trees_of
trees-of f n ts h = rw (← h.in_order) (read-holds f None ts n h.holds (omega (arith, height-le ts, h.fits)))

pub IsTableOf-closes : (f : Table) (n : ℕ) (ts : Trees) → IsTableOf f n ts → IsTableOf f n (trees_of f n)
IsTableOf-closes f n ts h = let P : Trees → Type 0 = IsTableOf f n in subst P (sym (trees-of f n ts h)) h

-- g is f, but for e at k
pub record Sets (f g : Table) (k : ℕ) (e : Entry) : Type 0 where
  pub here : g k ≡ Some e
  pub apart : (i : ℕ) → i ≢ k → g i ≡ f i

-- ---- tables that agree at the trees' nodes
pub Holds-same : (f g : Table) (p : Option ℕ) (ts : Trees) → ((i : ℕ) → 0 < count i ts → g i ≡ f i) → Holds f p ts → Holds g p ts
Holds-same f g p no_trees e h = tt
Holds-same f g p (tree c bs cs rest) e h = (
  e c.identity (rw (eqb-same c.identity) (omega arith)) ∙ h.0,
  Holds-same f g (Some c.identity) bs (λ i k. e i (omega arith)) h.1,
  Holds-same f g (Some c.identity) cs (λ i k. e i (omega arith)) h.2,
  Holds-same f g p rest (λ i k. e i (omega arith)) h.3,
)

pub Holds-append : (f : Table) (p : Option ℕ) (ts us : Trees) → Holds f p ts → Holds f p us → Holds f p (append ts us)
Holds-append f p no_trees us h k = k
Holds-append f p (tree c bs cs rest) us h k = (h.0, h.1, h.2, Holds-append f p rest us h.3 k)

pub Holds-splice : (f : Table) (p : Option ℕ) (n : ℕ) (us ts : Trees) → Holds f p us → Holds f p ts → Holds f p (splice n us ts)
Holds-splice f p zero us no_trees h k = h
Holds-splice f p (suc n) us no_trees h k = h
Holds-splice f p zero us (tree c bs cs rest) h k = Holds-append f p us (tree c bs cs rest) h k
Holds-splice f p (suc n) us (tree c bs cs rest) h k = (k.0, k.1, k.2, Holds-splice f p n us rest h k.3)

pub parentless-same : (f g : Table) (n : ℕ) → ((i : ℕ) → i < n → g i ≡ f i) → parentless g n ≡ parentless f n
parentless-same f g zero e = refl
parentless-same f g (suc n) e = rw (e n (omega arith), parentless-same f g n (λ i k. e i (omega arith)))

-- ---- a later bound on identities
parentless-later : (f : Table) (n m : ℕ) → n ≤ m → ((i : ℕ) → n ≤ i → f i ≡ None) → parentless f m ≡ parentless f n
parentless-later f n zero h above = let e : n ≡ 0 = omega arith in rw e
parentless-later f n (suc m) h above =
    ⊎_elim (λ l. (let e : n ≡ suc m = omega arith in rw e)) (λ l. rw (above m l, append-nil) (parentless-later f n m l above)) (cases_lt m n)

pub IsTableOf-later : (f : Table) (n m : ℕ) (ts : Trees) → n ≤ m → IsTableOf f n ts → IsTableOf f m ts
IsTableOf-later f n m ts l h = record {
  holds = h.holds;
  counted = h.counted;
  above = λ i k. h.above i (omega arith);
  fits = omega (arith, h.fits);
  in_order = h.in_order ∙ sym (parentless-later f n m l h.above);
}

-- ---- a node more
pub count-absent : (f : Table) (n : ℕ) (ts : Trees) (i : ℕ) → IsTableOf f n ts → f i ≡ None → count i ts ≡ 0
count-absent f n ts i h e = h.counted i ∙ ap (λ o. cond (is_some o) 1 0) e

pub count-there : (f : Table) (n : ℕ) (ts : Trees) (i : ℕ) (e : Entry) → IsTableOf f n ts → f i ≡ Some e → count i ts ≡ 1
count-there f n ts i e h k = h.counted i ∙ ap (λ o. cond (is_some o) 1 0) k

pub IsTableOf-make : (f g : Table) (ts : Trees) (c : Content) → IsTableOf f c.identity ts → Sets f g c.identity (entry_of c None [] []) → IsTableOf g (c.identity + 1) (append ts (leaf c))
IsTableOf-make f g ts c h s =
    let n = c.identity in
    let absent : count n ts ≡ 0 = count-absent f n ts n h (h.above n (omega arith)) in
    let apart : (i : ℕ) → 0 < count i ts → i ≢ n = λ i z same. (let t : count i ts ≡ 0 = ap (λ j. count j ts) same ∙ absent in omega arith) in
    record {
      holds = Holds-append g None ts (leaf c) (Holds-same f g None ts (λ i z. s.apart i (apart i z)) h.holds) (s.here, tt, tt, tt);
      counted = λ i. weigh-append _ ts (leaf c) ∙ ⊎_elim (λ t. (let a : count i ts ≡ 0 = ap (λ j. count j ts) t.1 ∙ absent in let there : g i ≡ Some (entry_of c None [] []) = ap g t.1 ∙ s.here in rw (t.0, there) (omega arith)))
          (λ t. rw (t.0, s.apart i t.1) (omega (arith, h.counted i))) (eqb_tells i n);
      above = λ i z. s.apart i (λ same. absurd (omega arith)) ∙ h.above i (omega arith);
      fits = rw weigh-append (omega (arith, h.fits));
      in_order = rw (roots-append ts (leaf c), add-one, s.here, parentless-same f g n (λ i k. s.apart i (λ same. absurd (omega arith))), h.in_order);
    }

-- the last tree is of one node
pub Holds-last : (f : Table) (p : Option ℕ) (ts : Trees) (c : Content) → Holds f p (append ts (leaf c)) → f c.identity ≡ Some (entry_of c p [] [])
Holds-last f p no_trees c h = h.0
Holds-last f p (tree d bs cs rest) c h = Holds-last f p rest c h.3

parentless-none : (f : Table) (n : ℕ) → ((i : ℕ) → f i ≡ None) → parentless f n ≡ []
parentless-none f zero e = refl
parentless-none f (suc n) e = rw (e n, append-nil) (parentless-none f n e)

pub IsTableOf-empty : (f : Table) (n : ℕ) → ((i : ℕ) → f i ≡ None) → IsTableOf f n no_trees
IsTableOf-empty f n e = record { holds = tt; counted = λ i. rw e; above = λ i _. e i; fits = omega arith; in_order = sym (parentless-none f n e) }

-- ---- where a node is
abbrev Found : Option Place → ℕ → Option Entry → Type 0
Found o m y = (IsSome o × (option_map entry_at o ≡ y)) ⊎ ((o ≡ None) × (m ≡ 0))

found-first : (a b : Option Place) (m n : ℕ) (y : Option Entry) → Found a m y → Found b n y → Found (first a b) (m + n) y
found-first None b m n y (inl h) k = cc
found-first None b m n y (inr h) (inl k) = inl k
found-first None b m n y (inr h) (inr k) = inr (k.0, omega arith)
found-first (Some x) b m n y (inl h) k = inl h
found-first (Some x) b m n y (inr h) k = cc

find-found : (f : Table) (p : Option ℕ) (ts : Trees) (i : ℕ) → Holds f p ts → Found (find_below p i ts) (count i ts) (f i)
find-found f p no_trees i h = inr (refl, refl)
find-found f p (tree c bs cs rest) i h =
    let P : Option Place → ℕ → Type 0 = λ o m. Found o m (f i) in
    ⊎_elim (λ t. rw t.0 (inl (refl, sym (ap f t.1 ∙ h.0))))
    (λ t. rw t.0 (let e : count i bs + (count i cs + count i rest) ≡ 0 + count i bs + count i cs + count i rest = omega arith in
    subst (P _) e (found-first _ _ _ _ _ (find-found f _ bs i h.1) (found-first _ _ _ _ _ (find-found f _ cs i h.2) (find-found f p rest i h.3))))) (eqb_tells i c.identity)

found-entry : (o : Option Place) (m : ℕ) (y : Option Entry) → Found o m y → m ≡ cond (is_some y) 1 0 → option_map entry_at o ≡ y
found-entry o m y (inl h) e = h.1
found-entry o m None (inr h) e = rw h.0
found-entry o m (Some x) (inr h) e = absurd (omega arith)

-- the table says of a node what the trees do
pub find-table : (f : Table) (n : ℕ) (ts : Trees) (i : ℕ) → IsTableOf f n ts → option_map entry_at (find i ts) ≡ f i
find-table f n ts i h = found-entry _ _ _ (find-found f None ts i h.holds) (h.counted i)
