-- What a turn of copying adds.
use Prim.Native.Nat.{suc}
use Rattle.std.proofs.Common.{get_or, subst, IfSome, ◌≡◌, ◌∙◌, ℕ, ◌+◌, ◌≤◌, ◌<◌, List, Option, Some, None, Result, Ok, Err, IfOk, option_map, ap, sym, refl, arith, length}
use Rattle.data_model.specs.Trees.{Trees, no_trees, tree, Content, append, bytes_in, height, roots}
use Rattle.node_table.specs.Flat.{AreThere, Entry, Table, both, entry_of, entry_or, read_trees}
use Rattle.node_table.proofs.Copies.{Turn, both-same, entry-now, first_trees, none-some, read-bs, read-cs, same-entry, there-bs, there-cs, turn}
use Rattle.copied_rows.specs.declared.copying.Copying.{Copying}
use Rattle.node_table.specs.Rows.{entry_of_row}
use Rattle.node_table.specs.declared.table.Row.{Row}
use Rattle.copied_rows.specs.Copies.{AreApart}

pub bytes-append : (ts us : Trees) → bytes_in (append ts us) ≡ bytes_in ts + bytes_in us
bytes-append no_trees us = omega arith
bytes-append (tree c bs cs rest) us = omega (arith, bytes-append rest us)

pub height-append : (n : ℕ) (ts us : Trees) → height ts ≤ n → height us ≤ n → height (append ts us) ≤ n
height-append n no_trees us h k = k
height-append n (tree c bs cs rest) us h k = omega (arith, height-append n rest us (omega arith) k)

-- rows that grow at new identities stay apart from the lent ones
pub apart-kept : (n m : ℕ) (f g h : Table) → AreApart n f g → n ≤ m → ((i : ℕ) → i < m → h i ≡ g i) → AreApart n f h
apart-kept n m f g h apart le same = record { lent = apart.lent; own = λ i l. same i (omega arith) ∙ apart.own i l }

-- what a copy says
pub put-says : (e : Entry) (c : Content) (q p p' : Option ℕ) (n : ℕ) (xs ys zs ws zs' ws' : List ℕ) → e ≡ entry_of c q xs ys → p' ≡ p → zs' ≡ zs → ws' ≡ ws
    → record e { parent = p'; attributes = zs'; children = ws' } ≡ entry_of (record c { identity = n }) p zs ws
put-says e c q p p' n xs ys zs ws zs' ws' says parent attributes children =
    let k = ap (λ (x : Entry). x.kind) says in
    let m = ap (λ (x : Entry). x.name) says in
    let t = ap (λ (x : Entry). x.text) says in
    λ j. record { kind = k j; name = m j; text = t j; parent = parent j; attributes = attributes j; children = children j }

-- ---- a row that is read, lent or not
pub both-lent : (f g : Table) (i : ℕ) → g i ≡ None → both f g i ≡ f i
both-lent f g i none = ap (λ o. entry_or o (f i)) none

or-none : (o : Option Entry) → entry_or o None ≡ o
or-none None = refl
or-none (Some e) = refl

pub both-own : (f g : Table) (i : ℕ) → f i ≡ None → both f g i ≡ g i
both-own f g i none = ap (λ o. entry_or (g i) o) none ∙ or-none (g i)

pub cloned-says : {E : Type 0} (r : Result (Option Row) E) (o p : Option Entry) → IfOk r (λ clone. option_map entry_of_row clone ≡ o) → o ≡ p → IfOk r (λ row. option_map entry_of_row row ≡ p)
cloned-says (Ok v) o p h e = h ∙ e
cloned-says (Err x) o p h e = tt

-- ---- what may still be taken
-- b is a, but that an identity more is taken, with bytes and levels
pub record Took (a b : Copying) : Type 0 where
  pub next : b.next ≡ a.next + 1
  pub lent : b.lent ≡ a.lent
  pub first : b.first ≡ a.first
  pub end : b.end ≡ a.end

pub took : (a r b : Copying) → r ≡ a → b ≡ record r { next = r.next + 1; bytes = b.bytes; levels = b.levels } → Took a b
took a r b same made = record {
  next = ap (λ (x : Copying). x.next) made ∙ ap (λ (x : Copying). x.next + 1) same;
  lent = ap (λ (x : Copying). x.lent) made ∙ ap (λ (x : Copying). x.lent) same;
  first = ap (λ (x : Copying). x.first) made ∙ ap (λ (x : Copying). x.first) same;
  end = ap (λ (x : Copying). x.end) made ∙ ap (λ (x : Copying). x.end) same;
}

-- what a call of copy_all keeps
pub record Kept (a b : Copying) : Type 0 where
  pub lent : b.lent ≡ a.lent
  pub first : b.first ≡ a.first
  pub end : b.end ≡ a.end
  pub levels : b.levels ≡ a.levels

pub kept-rest : (a b : Copying) → b ≡ record a { next = b.next; bytes = b.bytes } → Kept a b
kept-rest a b rest =
    record { lent = ap (λ (x : Copying). x.lent) rest; first = ap (λ (x : Copying). x.first) rest; end = ap (λ (x : Copying). x.end) rest; levels = ap (λ (x : Copying). x.levels) rest }

pub if-some : {A : Type 0} (o : Option A) (a : A) (P : A → Type 0) → o ≡ Some a → IfSome o P → P a
if-some {A = A} o a P is h = let Q : Option A → Type 0 = λ v. IfSome v P in subst Q is h

-- ---- the node of a turn, where the rows say below m what they said
module _ (lent own : Table) (deep m i x : ℕ) (ids : List ℕ) (there : AreThere (both lent own) deep m ids) (k : i < length ids) (item : x ≡ get_or ids i x) where
  abbrev us : Trees
  us = read_trees deep (both lent own) ids

  abbrev at : Turn i x us
  at = turn (both lent own) deep m i x ids there k item

  pub bytes-turned : bytes_in (first_trees (suc i) us) ≡ bytes_in (first_trees i us) + (length at.content.text + bytes_in at.attributes + bytes_in at.children)
  bytes-turned = ap bytes_in at.more ∙ bytes-append (first_trees i us) (tree at.content at.attributes at.children no_trees) ∙ omega arith

  pub height-turned : (n : ℕ) → height (first_trees i us) ≤ n → height at.attributes + 1 ≤ n → height at.children + 1 ≤ n → height (first_trees (suc i) us) ≤ n
  height-turned n h b c =
      let P : Trees → Type 0 = λ ts. height ts ≤ n in
      subst P (sym at.more) (height-append n (first_trees i us) (tree at.content at.attributes at.children no_trees) h (omega arith))

  module _ (l rows : Table) (is : l ≡ lent) (same : (j : ℕ) → j < m → rows j ≡ own j) where
    now-same : (j : ℕ) → j < m → both lent rows j ≡ both lent own j
    now-same j h = both-same lent own rows j (same j h)

    now-says : both l rows x ≡ Some (entry_of at.content there.parent (roots at.attributes) (roots at.children))
    now-says = ap (λ f. both f rows x) is ∙ entry-now (both lent own) deep m i x ids there k item (both lent rows) now-same

    pub turn-says : (e : Entry) → both l rows x ≡ Some e → e ≡ entry_of at.content there.parent (roots at.attributes) (roots at.children)
    turn-says e h = same-entry _ _ _ h now-says

    pub turn-missing : both l rows x ≡ None → ⊥
    turn-missing h = none-some _ _ h now-says

    module _ (n : ℕ) (enough : deep ≤ n + 1) (xs : List ℕ) where
      pub attributes-there : xs ≡ roots at.attributes → (m' : ℕ) → m ≤ m' → AreThere (both l rows) n m' xs
      attributes-there list m' le = rw (is, list) (there-bs (both lent own) deep m i x ids there k item (both lent rows) now-same n enough m' le)

      pub attributes-read : xs ≡ roots at.attributes → read_trees n (both l rows) xs ≡ at.attributes
      attributes-read list = rw (is, list) (read-bs (both lent own) deep m i x ids there k item (both lent rows) now-same n enough)

      pub children-there : xs ≡ roots at.children → (m' : ℕ) → m ≤ m' → AreThere (both l rows) n m' xs
      children-there list m' le = rw (is, list) (there-cs (both lent own) deep m i x ids there k item (both lent rows) now-same n enough m' le)

      pub children-read : xs ≡ roots at.children → read_trees n (both l rows) xs ≡ at.children
      children-read list = rw (is, list) (read-cs (both lent own) deep m i x ids there k item (both lent rows) now-same n enough)
