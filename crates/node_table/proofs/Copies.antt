-- Trees that are copied, with new identities.
use Prim.Native.Nat.{zero, suc}
use Rattle.std.proofs.Common.{◌≡◌, ℕ, ◌+◌, ◌≤◌, ◌<◌, List, [], ◌∷◌, length, get_or, cond, eqb, refl, ap, sym, ◌∙◌, arith, ⊎_elim, Option, Some, None, is_some, subst, add-one, append-nil, true, false}
use Rattle.std.proofs.lemmas.Bool.{cases_lt}
use Rattle.std.proofs.lemmas.Bool.Decides.{eqb_tells}
use Rattle.data_model.specs.Trees.{Trees, no_trees, tree, Content, append, roots, weigh, count, size, height}
use Rattle.data_model.specs.Changes.{renumbered, pick}
use Rattle.node_table.specs.Flat.{Entry, Table, entry_or, both, entry_of, Holds, read_entry, read_nodes, read_trees, parentless, entry_is_root, IsTableOf, AreThere}
use Rattle.node_table.specs.Rows.{entry_of_row, parent_of_row}
use Rattle.node_table.specs.declared.table.Row.{Row}
use Rattle.data_model.proofs.Weights.{weigh-append, weigh-pick, roots-append, height-le, eqb-same}
use Rattle.node_table.proofs.Tables.{Sets, read-holds, Holds-same, Holds-append, count-absent, count-there, parentless-same}
use Rattle.node_table.proofs.Puts.{AllAre-pick, one-root, count-without}
use Rattle.data_model.proofs.Climbs.{any-tells}

-- ---- two tables seen as one
entry-there : (d e : Option Entry) → is_some d ≡ true → entry_or d e ≡ d
entry-there None e h = cc
entry-there (Some x) e h = refl

pub both-same : (f g h : Table) (i : ℕ) → h i ≡ g i → both f h i ≡ both f g i
both-same f g h i e = ap (λ o. entry_or o (f i)) e

pub both-there : (f g : Table) (i : ℕ) → is_some (g i) ≡ true → both f g i ≡ g i
both-there f g i h = entry-there (g i) (f i) h

-- ---- new identities
pub size-renumbered : (n : ℕ) (us : Trees) → size (renumbered n us) ≡ size us
size-renumbered n no_trees = refl
size-renumbered n (tree c bs cs rest) = omega (arith, size-renumbered (n + 1) bs, size-renumbered (n + 1 + size bs) cs, size-renumbered (n + 1 + size bs + size cs) rest)

pub below-renumbered : (n i : ℕ) (us : Trees) → i < n → count i (renumbered n us) ≡ 0
below-renumbered n i no_trees h = refl
below-renumbered n i (tree c bs cs rest) h =
    ⊎_elim (λ t. absurd (omega arith))
    (λ t. rw t.0 (omega (arith, below-renumbered (n + 1) i bs (omega arith), below-renumbered (n + 1 + size bs) i cs (omega arith), below-renumbered (n + 1 + size bs + size cs) i rest (omega arith)))) (eqb_tells i n)

above-renumbered : (n i : ℕ) (us : Trees) → n + size us ≤ i → count i (renumbered n us) ≡ 0
above-renumbered n i no_trees h = refl
above-renumbered n i (tree c bs cs rest) h =
    ⊎_elim (λ t. absurd (omega arith))
    (λ t. rw t.0 (omega (arith, above-renumbered (n + 1) i bs (omega arith), above-renumbered (n + 1 + size bs) i cs (omega arith), above-renumbered (n + 1 + size bs + size cs) i rest (omega arith)))) (eqb_tells i n)

-- each new identity is there once
pub in-renumbered : (n i : ℕ) (us : Trees) → n ≤ i → i < n + size us → count i (renumbered n us) ≡ 1
in-renumbered n i no_trees h k = absurd (omega arith)
in-renumbered n i (tree c bs cs rest) h k =
    ⊎_elim
    (λ t. rw t.0 (omega (arith, below-renumbered (n + 1) i bs (omega arith), below-renumbered (n + 1 + size bs) i cs (omega arith), below-renumbered (n + 1 + size bs + size cs) i rest (omega arith))))
    (λ t. rw t.0
    (⊎_elim
    (λ b. omega (arith, in-renumbered (n + 1) i bs (omega arith) b, below-renumbered (n + 1 + size bs) i cs (omega arith), below-renumbered (n + 1 + size bs + size cs) i rest (omega arith)))
    (λ b. ⊎_elim
    (λ d. omega (arith, above-renumbered (n + 1) i bs b, in-renumbered (n + 1 + size bs) i cs b d, below-renumbered (n + 1 + size bs + size cs) i rest (omega arith)))
    (λ d. omega (arith, above-renumbered (n + 1) i bs (omega arith), above-renumbered (n + 1 + size bs) i cs d, in-renumbered (n + 1 + size bs + size cs) i rest d (omega arith)))
    (cases_lt i (n + 1 + size bs + size cs)))
    (cases_lt i (n + 1 + size bs))))
    (eqb_tells i n)

-- a node of the copy has one of the new identities
pub renumbered-within : (n i : ℕ) (us : Trees) → 0 < count i (renumbered n us) → (n ≤ i) × (i < n + size us)
renumbered-within n i us h = (
  ⊎_elim (λ l. (let z = below-renumbered n i us l in absurd (omega arith))) (λ l. l) (cases_lt i n),
  ⊎_elim (λ l. l) (λ l. (let z = above-renumbered n i us l in absurd (omega arith))) (cases_lt i (n + size us)),
)

pub renumbered-append : (n : ℕ) (ts us : Trees) → renumbered n (append ts us) ≡ append (renumbered n ts) (renumbered (n + size ts) us)
renumbered-append n no_trees us = let e : n + 0 ≡ n = omega arith in rw e
renumbered-append n (tree c bs cs rest) us =
    let m = n + 1 + size bs + size cs in
    let e : m + size rest ≡ n + (1 + size bs + size cs + size rest) = omega arith in
    ap (λ t. tree (record c { identity = n }) (renumbered (n + 1) bs) (renumbered (n + 1 + size bs) cs) t) (renumbered-append m rest us ∙ ap (λ k. append (renumbered m rest) (renumbered k us)) e)

-- ---- the first trees of a list, and those after them
abbrev pub first_trees : ℕ → Trees → Trees
first_trees n no_trees = no_trees
first_trees zero (tree c bs cs rest) = no_trees
first_trees (suc n) (tree c bs cs rest) = tree c bs cs (first_trees n rest)

abbrev pub later_trees : ℕ → Trees → Trees
later_trees n no_trees = no_trees
later_trees zero (tree c bs cs rest) = tree c bs cs rest
later_trees (suc n) (tree c bs cs rest) = later_trees n rest

pub first-all : (n : ℕ) (us : Trees) → length (roots us) ≤ n → first_trees n us ≡ us
first-all n no_trees h = refl
first-all zero (tree c bs cs rest) h = absurd (omega arith)
first-all (suc n) (tree c bs cs rest) h = ap (λ t. tree c bs cs t) (first-all n rest (omega arith))

pub weigh-first : (w : ℕ → ℕ) (n : ℕ) (us : Trees) → weigh w (first_trees n us) + weigh w (later_trees n us) ≡ weigh w us
weigh-first w n no_trees = omega arith
weigh-first w zero (tree c bs cs rest) = omega arith
weigh-first w (suc n) (tree c bs cs rest) = omega (arith, weigh-first w n rest)

pub size-first : (n : ℕ) (us : Trees) → size (first_trees n us) + size (later_trees n us) ≡ size us
size-first = weigh-first (λ _. 1)

pub later-zero : (us : Trees) → later_trees zero us ≡ us
later-zero no_trees = refl
later-zero (tree c bs cs rest) = refl

pub first-zero : (us : Trees) → first_trees zero us ≡ no_trees
first-zero no_trees = refl
first-zero (tree c bs cs rest) = refl

-- the tree at an index
pub record Turn (n x : ℕ) (us : Trees) : Type 0 where
  pub content : Content
  pub attributes : Trees
  pub children : Trees
  pub is : content.identity ≡ x
  pub later : later_trees n us ≡ tree content attributes children (later_trees (suc n) us)
  pub more : first_trees (suc n) us ≡ append (first_trees n us) (tree content attributes children no_trees)

pub turn-at : (n x : ℕ) (us : Trees) → n < length (roots us) → x ≡ get_or (roots us) n x → Turn n x us
turn-at n x no_trees h e = absurd (omega arith)
turn-at zero x (tree c bs cs rest) h e =
    record { content = c; attributes = bs; children = cs; is = sym e; later = ap (λ t. tree c bs cs t) (sym (later-zero rest)); more = ap (λ t. tree c bs cs t) (first-zero rest) }
turn-at (suc n) x (tree c bs cs rest) h e =
    let t = turn-at n x rest (omega arith) e in
    record { content = t.content; attributes = t.attributes; children = t.children; is = t.is; later = t.later; more = ap (λ z. tree c bs cs z) t.more }

Holds-later : (f : Table) (p : Option ℕ) (n : ℕ) (us : Trees) → Holds f p us → Holds f p (later_trees n us)
Holds-later f p n no_trees h = tt
Holds-later f p zero (tree c bs cs rest) h = h
Holds-later f p (suc n) (tree c bs cs rest) h = Holds-later f p n rest h.3

height-later : (n : ℕ) (us : Trees) → height (later_trees n us) ≤ height us
height-later n no_trees = omega arith
height-later zero (tree c bs cs rest) = omega arith
height-later (suc n) (tree c bs cs rest) = omega (arith, height-later n rest)

count-later : (i n : ℕ) (us : Trees) → count i (later_trees n us) ≤ count i us
count-later i n no_trees = omega arith
count-later i zero (tree c bs cs rest) = omega arith
count-later i (suc n) (tree c bs cs rest) = omega (arith, count-later i n rest)

-- ---- what is read from a table
height-entry : (n : ℕ) (o : Option Entry) (below : Entry → Trees) → ((e : Entry) → height (below e) ≤ n) → height (read_entry o below) ≤ n
height-entry n None below h = omega arith
height-entry n (Some e) below h = h e

height-nodes : (f : Table) (below : List ℕ → Trees) (n : ℕ) (ids : List ℕ) → ((xs : List ℕ) → height (below xs) ≤ n) → height (read_nodes f below ids) ≤ n + 1
height-nodes f below n [] h = omega arith
height-nodes f below n (i ∷ ids) h =
    height-entry (n + 1) (f i) _ (λ e. (let a = h e.attributes in let b = h e.children in let r = height-nodes f below n ids h in omega arith))

pub height-read : (n : ℕ) (f : Table) (ids : List ℕ) → height (read_trees n f ids) ≤ n
height-read zero f ids = omega arith
height-read (suc n) f ids = let h = height-nodes f (read_trees n f) n ids (λ xs. height-read n f xs) in omega arith

-- trees that a table holds are read from it
pub there-of : (g : Table) (n m : ℕ) (p : Option ℕ) (us : Trees) → Holds g p us → height us ≤ n → ((i : ℕ) → 0 < count i us → i < m) → AreThere g n m (roots us)
there-of g n m p us h k below =
    let is = read-holds g p us n h k in
    record {
      parent = p;
      holds = (let P : Trees → Type 0 = Holds g p in subst P (sym is) h);
      listed = ap roots is;
      below = (let P : Trees → Type 0 = λ t. (i : ℕ) → 0 < count i t → i < m in subst P (sym is) below);
    }

module _ (f : Table) (levels m i x : ℕ) (ids : List ℕ) (there : AreThere f levels m ids) (k : i < length ids) (item : x ≡ get_or ids i x) where
  abbrev us : Trees
  us = read_trees levels f ids

  pub turn : Turn i x us
  turn = turn-at i x us (rw there.listed k) (rw there.listed item)

  abbrev bs : Trees
  bs = turn.attributes

  abbrev cs : Trees
  cs = turn.children

  pub holds-turn : Holds f there.parent (tree turn.content bs cs (later_trees (suc i) us))
  holds-turn = rw turn.later at (Holds-later f there.parent i us there.holds)

  pub entry-turn : f x ≡ Some (entry_of turn.content there.parent (roots bs) (roots cs))
  entry-turn = ap f (sym turn.is) ∙ holds-turn.0

  pub height-turn : (height bs < levels) × (height cs < levels)
  height-turn =
      let a = height-later i us in
      let b = height-read levels f ids in
      let e = ap height turn.later in
      (omega arith, omega arith)

  pub below-turn : (j : ℕ) → 0 < count j bs + count j cs + cond (eqb j turn.content.identity) 1 0 → j < m
  below-turn j h =
      let a = count-later j i us in
      let e = ap (count j) turn.later in
      there.below j (omega arith)

  pub x-below : x < m
  x-below = below-turn x (rw (turn.is, eqb-same x) (omega arith))

  pub size-turn : size (first_trees (suc i) us) ≡ size (first_trees i us) + (1 + size bs + size cs)
  size-turn = ap size turn.more ∙ weigh-append (λ _. 1) (first_trees i us) (tree turn.content bs cs no_trees) ∙ omega arith

  pub size-within : size (first_trees i us) + (1 + size bs + size cs) ≤ size us
  size-within = let a = size-first (suc i) us in let b = size-turn in omega arith

  module _ (g : Table) (same : (j : ℕ) → j < m → g j ≡ f j) where
    pub entry-now : g x ≡ Some (entry_of turn.content there.parent (roots bs) (roots cs))
    entry-now = same x x-below ∙ entry-turn

    holds-bs : Holds g (Some turn.content.identity) bs
    holds-bs = Holds-same f g (Some turn.content.identity) bs (λ j h. same j (below-turn j (omega arith))) holds-turn.1

    holds-cs : Holds g (Some turn.content.identity) cs
    holds-cs = Holds-same f g (Some turn.content.identity) cs (λ j h. same j (below-turn j (omega arith))) holds-turn.2

    pub there-bs : (n : ℕ) → levels ≤ n + 1 → (m' : ℕ) → m ≤ m' → AreThere g n m' (roots bs)
    there-bs n l m' le = there-of g n m' (Some turn.content.identity) bs holds-bs (let h = height-turn in omega arith) (λ j h. (let b = below-turn j (omega arith) in omega arith))

    pub there-cs : (n : ℕ) → levels ≤ n + 1 → (m' : ℕ) → m ≤ m' → AreThere g n m' (roots cs)
    there-cs n l m' le = there-of g n m' (Some turn.content.identity) cs holds-cs (let h = height-turn in omega arith) (λ j h. (let b = below-turn j (omega arith) in omega arith))

    pub read-bs : (n : ℕ) → levels ≤ n + 1 → read_trees n g (roots bs) ≡ bs
    read-bs n l = read-holds g (Some turn.content.identity) bs n holds-bs (let h = height-turn in omega arith)

    pub read-cs : (n : ℕ) → levels ≤ n + 1 → read_trees n g (roots cs) ≡ cs
    read-cs n l = read-holds g (Some turn.content.identity) cs n holds-cs (let h = height-turn in omega arith)

-- ---- one tree more is copied
pub Holds-copied : (g g1 g2 g3 : Table) (p : Option ℕ) (n0 n n1 : ℕ) (c : Content) (front bs cs : Trees) → n ≡ n0 + size front → n1 ≡ n + 1 + size bs
    → Holds g p (renumbered n0 front)
    → ((j : ℕ) → j < n + 1 → g1 j ≡ g j) → Holds g1 (Some n) (renumbered (n + 1) bs)
    → ((j : ℕ) → j < n1 → g2 j ≡ g1 j) → Holds g2 (Some n) (renumbered n1 cs)
    → Sets g2 g3 n (entry_of (record c { identity = n }) p (roots (renumbered (n + 1) bs)) (roots (renumbered n1 cs)))
    → Holds g3 p (renumbered n0 (append front (tree c bs cs no_trees)))
Holds-copied g g1 g2 g3 p n0 n n1 c front bs cs is_n is_n1 holds0 same1 holds1 same2 holds2 sets =
    let whole = renumbered-append n0 front (tree c bs cs no_trees) in
    let front' : Holds g3 p (renumbered n0 front) =
    Holds-same g g3 p (renumbered n0 front)
    (λ j h. (let w = renumbered-within n0 j front h in sets.apart j (λ same. absurd (omega arith)) ∙ same2 j (omega arith) ∙ same1 j (omega arith))) holds0 in
    let bs' : Holds g3 (Some n) (renumbered (n + 1) bs) =
    Holds-same g1 g3 (Some n) (renumbered (n + 1) bs) (λ j h. (let w = renumbered-within (n + 1) j bs h in sets.apart j (λ same. absurd (omega arith)) ∙ same2 j (omega arith))) holds1 in
    let cs' : Holds g3 (Some n) (renumbered n1 cs) = Holds-same g2 g3 (Some n) (renumbered n1 cs) (λ j h. (let w = renumbered-within n1 j cs h in sets.apart j (λ same. absurd (omega arith)))) holds2 in
    let one : Holds g3 p (tree (record c { identity = n }) (renumbered (n + 1) bs) (renumbered n1 cs) no_trees) = (sets.here, bs', cs', tt) in
    let P : ℕ → Type 0 = λ k. Holds g3 p (tree (record c { identity = n }) (renumbered (n + 1) bs) (renumbered k cs) no_trees) in
    let Q : ℕ → Type 0 = λ k. Holds g3 p (renumbered k (tree c bs cs no_trees)) in
    rw whole (Holds-append g3 p (renumbered n0 front) _ front' (subst Q is_n (subst P is_n1 one)))

-- ---- the table with the copy
pub Holds-there : (f : Table) (p : Option ℕ) (ts : Trees) (i : ℕ) → Holds f p ts → 0 < count i ts → is_some (f i) ≡ true
Holds-there f p no_trees i h k = absurd (omega arith)
Holds-there f p (tree c bs cs rest) i h k =
    ⊎_elim (λ t. ap (λ j. is_some (f j)) t.1 ∙ ap is_some h.0)
    (λ t. (let z = rw t.0 at k in
    ⊎_elim (λ b. Holds-there f (Some c.identity) bs i h.1 b.1)
    (λ b. ⊎_elim (λ d. Holds-there f (Some c.identity) cs i h.2 d.1) (λ d. Holds-there f p rest i h.3 (omega arith)) (any-tells (count i cs))) (any-tells (count i bs)))) (eqb_tells i c.identity)

-- nodes below others are no roots
pub Holds-inner : (f : Table) (q : ℕ) (ts : Trees) (i : ℕ) → Holds f (Some q) ts → 0 < count i ts → entry_is_root (f i) ≡ false
Holds-inner f q no_trees i h k = absurd (omega arith)
Holds-inner f q (tree c bs cs rest) i h k =
    ⊎_elim (λ t. ap (λ j. entry_is_root (f j)) t.1 ∙ ap entry_is_root h.0)
    (λ t. (let z = rw t.0 at k in
    ⊎_elim (λ b. Holds-inner f c.identity bs i h.1 b.1)
    (λ b. ⊎_elim (λ d. Holds-inner f c.identity cs i h.2 d.1) (λ d. Holds-inner f q rest i h.3 (omega arith)) (any-tells (count i cs))) (any-tells (count i bs)))) (eqb_tells i c.identity)

parentless-run : (g : Table) (k m : ℕ) → k ≤ m → ((j : ℕ) → k ≤ j → j < m → entry_is_root (g j) ≡ false) → parentless g m ≡ parentless g k
parentless-run g k zero h none = let e : k ≡ 0 = omega arith in rw e
parentless-run g k (suc m) h none =
    ⊎_elim (λ l. (let e : k ≡ suc m = omega arith in rw e)) (λ l. rw (none m l (omega arith), append-nil) (parentless-run g k m l (λ j a b. none j a (omega arith)))) (cases_lt m k)

module _ (f g : Table) (n : ℕ) (ts : Trees) (c : Content) (bs cs : Trees) (h : IsTableOf f n ts)
    (same : (j : ℕ) → j < n → g j ≡ f j) (fresh : (j : ℕ) → n + size (tree c bs cs no_trees) ≤ j → g j ≡ None) (holds : Holds g None (renumbered n (tree c bs cs no_trees))) where
  abbrev one : Trees
  one = tree c bs cs no_trees

  kept : (i : ℕ) → 0 < count i ts → i < n
  kept i k = ⊎_elim (λ l. l) (λ l. (let z = count-absent f n ts i h (h.above i l) in absurd (omega arith))) (cases_lt i n)

  counts : (i : ℕ) → count i ts + count i (renumbered n one) ≡ cond (is_some (g i)) 1 0
  counts i =
      ⊎_elim (λ l. (let z = below-renumbered n i one l in let e = h.counted i in rw (same i l) (omega arith)))
      (λ l. (let none = count-absent f n ts i h (h.above i l) in
      ⊎_elim (λ k. (let z = in-renumbered n i one l k in rw (Holds-there g None (renumbered n one) i holds (omega arith)) (omega arith)))
      (λ k. (let z = above-renumbered n i one k in rw (fresh i k) (omega arith))) (cases_lt i (n + size one))))
      (cases_lt i n)

  inner : (j : ℕ) → n + 1 ≤ j → j < n + size one → entry_is_root (g j) ≡ false
  inner j l k =
      ⊎_elim (λ b. Holds-inner g n (renumbered (n + 1) bs) j holds.1 (let z = in-renumbered (n + 1) j bs l b in omega arith))
      (λ b. Holds-inner g n (renumbered (n + 1 + size bs) cs) j holds.2 (let z = in-renumbered (n + 1 + size bs) j cs b (omega arith) in omega arith)) (cases_lt j (n + 1 + size bs))

  pub IsTableOf-copied : IsTableOf g (n + size one) (append ts (renumbered n one))
  IsTableOf-copied = record {
    holds = Holds-append g None ts (renumbered n one) (Holds-same f g None ts (λ i k. same i (kept i k)) h.holds) holds;
    counted = λ i. weigh-append _ ts (renumbered n one) ∙ counts i;
    above = fresh;
    fits = (let a = weigh-append (λ _. 1) ts (renumbered n one) in let b = size-renumbered n one in let k = h.fits in omega arith);
    in_order = roots-append ts (renumbered n one) ∙ sym (parentless-run g (n + 1) (n + size one) (omega arith) inner ∙ rw (add-one, ap entry_is_root holds.0, parentless-same f g n same, h.in_order));
  }

-- ---- the tree that is copied
-- the table b, whose identities are below n, has the tree us of the node k
pub record Copies (b : Table) (n k : ℕ) (us : Trees) : Type 0 where
  pub there : AreThere b n n (k ∷ [])
  pub read : read_trees n b (k ∷ []) ≡ us
  pub root : roots us ≡ k ∷ []

picked-holds : (f : Table) (k : ℕ) (e : Entry) → f k ≡ Some e → (q : Option ℕ) (ts : Trees) → Holds f q ts → Holds f e.parent (pick k ts)
picked-holds f k e at_k q no_trees h = tt
picked-holds f k e at_k q (tree c bs cs rest) h =
    let b = picked-holds f k e at_k (Some c.identity) bs h.1 in
    let d = picked-holds f k e at_k (Some c.identity) cs h.2 in
    let r = picked-holds f k e at_k q rest h.3 in
    ⊎_elim
    (λ t. rw t.0
    (let z : Some (entry_of c q (roots bs) (roots cs)) ≡ Some e = sym h.0 ∙ ap f (sym t.1) ∙ at_k in
    let y : entry_of c q (roots bs) (roots cs) ≡ e = cc in
    let p : q ≡ e.parent = ap (λ (x : Entry). x.parent) y in
    let P : Option ℕ → Type 0 = λ o. Holds f o (tree c bs cs no_trees) in
    let own : Holds f e.parent (tree c bs cs no_trees) = subst P p (h.0, h.1, h.2, tt) in
    (own.0, own.1, own.2, r)))
    (λ t. rw t.0 (Holds-append f _ _ _ (Holds-append f _ _ _ b d) r)) (eqb_tells k c.identity)

module _ (f : Table) (n : ℕ) (ts : Trees) (k : ℕ) (e : Entry) (h : IsTableOf f n ts) (at_k : f k ≡ Some e) where
  picked-one : count k (pick k ts) ≡ 1
  picked-one = let split = weigh-pick (λ j. cond (eqb k j) 1 0) k ts in let one = count-there f n ts k e h at_k in let gone = count-without k ts in omega arith

  picked-root : roots (pick k ts) ≡ k ∷ []
  picked-root = one-root k (pick k ts) (AllAre-pick k ts) picked-one

  picked-count : (i : ℕ) → count i (pick k ts) ≤ count i ts
  picked-count i = let split = weigh-pick (λ j. cond (eqb i j) 1 0) k ts in omega arith

  picked-size : size (pick k ts) ≤ size ts
  picked-size = let split = weigh-pick (λ _. 1) k ts in omega arith

  picked-below : (i : ℕ) → 0 < count i (pick k ts) → i < n
  picked-below i l = ⊎_elim (λ b. b) (λ b. (let z = count-absent f n ts i h (h.above i b) in let y = picked-count i in absurd (omega arith))) (cases_lt i n)

  picked-height : height (pick k ts) ≤ n
  picked-height = let a = height-le (pick k ts) in let b = picked-size in let d = h.fits in omega arith

  module _ (b : Table) (m : ℕ) (le : n ≤ m) (same : (i : ℕ) → 0 < count i ts → b i ≡ f i) where
    picked-both : Holds b e.parent (pick k ts)
    picked-both = Holds-same f b e.parent (pick k ts) (λ i l. same i (let z = picked-count i in omega arith)) (picked-holds f k e at_k None ts h.holds)

    pub picked-copies : Copies b m k (pick k ts)
    picked-copies =
        let P : List ℕ → Type 0 = AreThere b m m in
        record {
          there = subst P picked-root (there-of b m m e.parent (pick k ts) picked-both (let t = picked-height in omega arith) (λ i l. (let t = picked-below i l in omega arith)));
          read = rw (← picked-root) (read-holds b e.parent (pick k ts) m picked-both (let t = picked-height in omega arith));
          root = picked-root;
        }

-- a list of one tree
pub record IsOne (us : Trees) : Type 0 where
  pub content : Content
  pub attributes : Trees
  pub children : Trees
  pub is : us ≡ tree content attributes children no_trees

pub one-tree : (us : Trees) (k : ℕ) → roots us ≡ k ∷ [] → IsOne us
one-tree no_trees k e = cc
one-tree (tree c bs cs no_trees) k e = record { content = c; attributes = bs; children = cs; is = refl }
one-tree (tree c bs cs (tree d ds es rest)) k e = cc

-- ---- the rows of a copy
pub same-entry : (o : Option Entry) (d e : Entry) → o ≡ Some d → o ≡ Some e → d ≡ e
same-entry o d e h k = let z : Some d ≡ Some e = sym h ∙ k in cc

pub none-some : (o : Option Entry) (e : Entry) → o ≡ None → o ≡ Some e → ⊥
none-some o e h k = let z : None ≡ Some e = sym h ∙ k in cc

pub copy-says : (s r : Row) (c : Content) (q p : Option ℕ) (n : ℕ) (xs ys zs ws : List ℕ) → entry_of_row s ≡ entry_of c q xs ys
    → r.kind ≡ s.kind → r.name ≡ s.name → r.text ≡ s.text → parent_of_row r ≡ p → r.attributes.items ≡ zs → r.children.items ≡ ws → entry_of_row r ≡ entry_of (record c { identity = n }) p zs ws
copy-says s r c q p n xs ys zs ws says kind name text parent attributes children =
    let k = kind ∙ ap (λ (e : Entry). e.kind) says in
    let m = name ∙ ap (λ (e : Entry). e.name) says in
    let t = text ∙ ap (λ (e : Entry). e.text) says in
    λ j. record { kind = k j; name = m j; text = t j; parent = parent j; attributes = attributes j; children = children j }

-- a table that was put back
pub put-back : {A : Type 0} (f g t : ℕ → Option A) (n m : ℕ) → ((i : ℕ) → n ≤ i → f i ≡ None) → ((i : ℕ) → i < n → g i ≡ f i) → ((i : ℕ) → m ≤ i → g i ≡ None)
    → ((i : ℕ) → n ≤ i → i < m → t i ≡ None) → ((i : ℕ) → i < n → t i ≡ g i) → ((i : ℕ) → m ≤ i → t i ≡ g i) → t ≡ f
put-back f g t n m above same fresh removed below rest = λ j i.
    (let is : t i ≡ f i =
    ⊎_elim (λ l. below i l ∙ same i l)
    (λ l. ⊎_elim (λ k. removed i l k ∙ sym (above i l)) (λ k. rest i k ∙ fresh i k ∙ sym (above i l)) (cases_lt i m))
    (cases_lt i n) in
    is j)
