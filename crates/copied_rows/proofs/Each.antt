-- The trees of some nodes, one after the other.
use Prim.Native.Nat.{zero, suc}
use Rattle.std.proofs.Common.{◌≡◌, ◌∙◌, ◌++◌, ◌∷◌, [], ℕ, ◌+◌, ◌*◌, ◌/◌, ◌≤◌, ◌<◌, List, Option, ap, sym, refl, arith, get_or, length, subst, take}
use Rattle.data_model.specs.Trees.{Trees, append, bytes_in, roots, size}
use Rattle.data_model.specs.Changes.{renumbered}
use Rattle.data_model.proofs.Weights.{append-append, append-none, roots-append}
use Rattle.node_table.specs.Flat.{AreThere, Holds, Table, read_trees}
use Rattle.node_table.proofs.Tables.{Holds-append, Holds-same, read-holds}
use Rattle.node_table.proofs.Copies.{height-read, one-tree, renumbered-append, renumbered-within, there-of}
use Rattle.copied_rows.specs.Copies.{AllThere, read_each, read_work}

-- ---- one of them
pub all-there-at : (f : Table) (n m i x : ℕ) (ids : List ℕ) → AllThere f n m ids → i < length ids → x ≡ get_or ids i x → AreThere f n m (x ∷ [])
all-there-at f n m i x [] all k item = absurd (omega arith)
all-there-at f n m zero x (j ∷ js) all k item = let P : ℕ → Type 0 = λ y. AreThere f n m (y ∷ []) in subst P (sym item) all.0
all-there-at f n m (suc i) x (j ∷ js) all k item = all-there-at f n m i x js all.1 (omega arith) item

pub each-turned : (f : Table) (n i x : ℕ) (ids : List ℕ) → i < length ids → x ≡ get_or ids i x → read_each n f (take (suc i) ids) ≡ append (read_each n f (take i ids)) (read_trees n f (x ∷ []))
each-turned f n i x [] k item = absurd (omega arith)
each-turned f n zero x (j ∷ js) k item = append-none (read_trees n f (j ∷ [])) ∙ ap (λ y. read_trees n f (y ∷ [])) (sym item)
each-turned f n (suc i) x (j ∷ js) k item = ap (append (read_trees n f (j ∷ []))) (each-turned f n i x js (omega arith) item) ∙ sym (append-append (read_trees n f (j ∷ [])) (read_each n f (take i js)) (read_trees n f (x ∷ [])))

pub work-turned : (f : Table) (n i x : ℕ) (ids : List ℕ) → i < length ids → x ≡ get_or ids i x → read_work n f (take (suc i) ids) ≡ read_work n f (take i ids) + bytes_in (read_trees n f (x ∷ [])) / 16
work-turned f n i x [] k item = absurd (omega arith)
work-turned f n zero x (j ∷ js) k item = let same : bytes_in (read_trees n f (j ∷ [])) / 16 ≡ bytes_in (read_trees n f (x ∷ [])) / 16 = ap (λ y. bytes_in (read_trees n f (y ∷ [])) / 16) (sym item) in omega arith
work-turned f n (suc i) x (j ∷ js) k item = let below = work-turned f n i x js (omega arith) item in omega arith

-- bytes that fill no unit are free
pub units : (left bytes work : ℕ) → left + bytes ≡ work * 16 + 15 → left / 16 + bytes / 16 ≡ work
units left bytes work h = omega arith

-- ---- a table that says more further on
module _ (f g : Table) (n m : ℕ) (ids : List ℕ) (there : AreThere f n m ids) (same : (j : ℕ) → j < m → g j ≡ f j) where
  holds-kept : Holds g there.parent (read_trees n f ids)
  holds-kept = Holds-same f g there.parent (read_trees n f ids) (λ j h. same j (there.below j h)) there.holds

  pub there-kept : (m' : ℕ) → m ≤ m' → AreThere g n m' ids
  there-kept m' le =
      let P : List ℕ → Type 0 = AreThere g n m' in
      subst P there.listed (there-of g n m' there.parent (read_trees n f ids) holds-kept (height-read n f ids) (λ j h. (let below = there.below j h in omega arith)))

  pub read-kept : read_trees n g ids ≡ read_trees n f ids
  read-kept = ap (read_trees n g) (sym there.listed) ∙ read-holds g there.parent (read_trees n f ids) n holds-kept (height-read n f ids)

-- ---- one tree more among those of a node
root-renumbered : (k n : ℕ) (us : Trees) → roots us ≡ k ∷ [] → roots (renumbered n us) ≡ n ∷ []
root-renumbered k n us one = let is = one-tree us k one in rw is.is refl

pub roots-more : (k n m : ℕ) (us vs : Trees) → m ≡ n + size us → roots vs ≡ k ∷ [] → roots (renumbered n (append us vs)) ≡ roots (renumbered n us) ++ m ∷ []
roots-more k n m us vs is one =
    ap roots (renumbered-append n us vs) ∙ roots-append (renumbered n us) (renumbered (n + size us) vs) ∙ ap (λ xs. roots (renumbered n us) ++ xs) (root-renumbered k (n + size us) vs one ∙ ap (λ y. y ∷ []) (sym is))

pub Holds-more : (g h : Table) (p : Option ℕ) (n m : ℕ) (us vs : Trees) → m ≡ n + size us → Holds g p (renumbered n us) → ((j : ℕ) → j < m → h j ≡ g j) → Holds h p (renumbered m vs) → Holds h p (renumbered n (append us vs))
Holds-more g h p n m us vs is holds same more =
    let front = Holds-same g h p (renumbered n us) (λ j l. (let w = renumbered-within n j us l in same j (omega arith))) holds in
    let Q : ℕ → Type 0 = λ y. Holds h p (renumbered y vs) in
    let P : Trees → Type 0 = Holds h p in
    subst P (sym (renumbered-append n us vs)) (Holds-append h p (renumbered n us) (renumbered (n + size us) vs) front (subst Q is more))

-- new nodes from n on stand as they stood
pub Holds-above : (g h : Table) (p : Option ℕ) (n : ℕ) (us : Trees) → ((j : ℕ) → n ≤ j → h j ≡ g j) → Holds g p (renumbered n us) → Holds h p (renumbered n us)
Holds-above g h p n us same holds = Holds-same g h p (renumbered n us) (λ j l. (let w = renumbered-within n j us l in same j w.0)) holds
