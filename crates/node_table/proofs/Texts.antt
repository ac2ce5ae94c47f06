-- The texts of nodes, read from a table.
use Prim.Native.Nat.{suc}
use Rattle.std.proofs.Common.{◌≡◌, ℕ, ◌+◌, ◌≤◌, ◌<◌, List, [], ◌++◌, length, drop, get_or, cond, refl, ap, sym, ◌∙◌, arith, append_assoc, append-nil, length-append, ⊎_elim, Option, Some, None, add-one, option_map, Bool, true, false, nat_lt}
use Rattle.std.proofs.Math.Seq.{drop-cons}
use Rattle.std.proofs.lemmas.Bool.Decides.{eqb_tells, nat_tests}
use Rattle.data_model.specs.Trees.{Trees, no_trees, tree, Place, bytes_in, size, first, find, find_below, text_of, text_within, is_inner, is_text, value_at}
use Rattle.node_table.specs.Flat.{Entry, Table, Holds, IsTableOf, entry_at, read_nodes, read_trees}
use Rattle.data_model.proofs.Weights.{height-le}
use Rattle.node_table.proofs.Tables.{read-holds}

shift : (n k : ℕ) → n + suc k ≡ n + 1 + k
shift n k = omega arith

-- what a node adds to the texts of those before it
abbrev pub piece : (List ℕ → Trees) → Entry → List ℕ
piece below e = cond (is_inner e.kind) (text_of (below e.children)) (cond (is_text e.kind) e.text [])

pub text-turn : (f : Table) (below : List ℕ → Trees) (ids : List ℕ) (i x : ℕ) (e : Entry) (out after whole : List ℕ) → i < length ids → x ≡ get_or ids i x → f x ≡ Some e → after ≡ out ++ piece below e
    → out ++ text_of (read_nodes f below (drop i ids)) ≡ whole → after ++ text_of (read_nodes f below (drop (i + 1) ids)) ≡ whole
text-turn f below ids i x e out after whole k item h a w =
    let y = rw (drop-cons ids i x, ← item, h) at w in
    rw (a, append_assoc, add-one) y

pub text-stop : (f : Table) (below : List ℕ → Trees) (ids : List ℕ) (i x : ℕ) (out whole : List ℕ) → i < length ids → x ≡ get_or ids i x → f x ≡ None → out ++ text_of (read_nodes f below (drop i ids)) ≡ whole → out ≡ whole
text-stop f below ids i x out whole k item h w = let y = rw (drop-cons ids i x, ← item, h) at w in sym (append-nil out) ∙ y

-- ---- texts that have so many bytes at most
pub within-all : (most : ℕ) (xs ys : List ℕ) → length xs ≤ most → xs ≡ ys → text_within most ys ≡ Some xs
within-all most xs ys h e = rw (← e) (grind (arith, nat_tests))

within-is : (most : ℕ) (xs ys : List ℕ) → text_within most xs ≡ Some ys → ys ≡ xs
within-is most xs ys h = elim (nat_lt most (length xs)) as (λ v. cond v None (Some xs) ≡ Some ys → ys ≡ xs) [ true ↦ λ e. (cc) | false ↦ λ e. (cc) ] h

within-more : (most : ℕ) (xs ys : List ℕ) → text_within most xs ≡ None → text_within most (xs ++ ys) ≡ None
within-more most xs ys h = elim (nat_lt most (length xs)) as (λ v. nat_lt most (length xs) ≡ v → cond v None (Some xs) ≡ None → text_within most (xs ++ ys) ≡ None) [ true ↦ λ e z. grind (arith, nat_tests, length-append xs ys) | false ↦ λ e z. (cc) ] refl h

module _ (f : Table) (below : List ℕ → Trees) (ids : List ℕ) (i x most : ℕ) (e : Entry) (out after whole : List ℕ) (fits : Bool) (k : i < length ids) (item : x ≡ get_or ids i x) (there : f x ≡ Some e) (step : text_within most (out ++ piece below e) ≡ cond fits (Some after) None) (all : out ++ text_of (read_nodes f below (drop i ids)) ≡ whole) where
  pub within-turn : fits ≡ true → after ++ text_of (read_nodes f below (drop (i + 1) ids)) ≡ whole
  within-turn is = text-turn f below ids i x e out after whole k item there (within-is most _ after (step ∙ ap (λ b. cond b (Some after) None) is)) all

  pub within-stop : fits ≡ false → text_within most whole ≡ None
  within-stop is =
      let more = within-more most (out ++ piece below e) (text_of (read_nodes f below (drop (i + 1) ids))) (step ∙ ap (λ b. cond b (Some after) None) is) in
      let y = text-turn f below ids i x e out (out ++ piece below e) whole k item there refl all in
      rw y at more

-- ---- how many nodes there are
pub size-turn : (f : Table) (below : List ℕ → Trees) (ids : List ℕ) (i x : ℕ) (e : Entry) → i < length ids → x ≡ get_or ids i x → f x ≡ Some e
    → size (read_nodes f below (drop i ids)) ≡ 1 + size (below e.attributes) + size (below e.children) + size (read_nodes f below (drop (i + 1) ids))
size-turn f below ids i x e k item h = rw (drop-cons ids i x, ← item, h, add-one) refl

pub size-stop : (f : Table) (below : List ℕ → Trees) (ids : List ℕ) (i x : ℕ) → i < length ids → x ≡ get_or ids i x → f x ≡ None → size (read_nodes f below (drop i ids)) ≡ 0
size-stop f below ids i x k item h = rw (drop-cons ids i x, ← item, h)

-- ---- how many bytes their texts have
pub bytes-turn : (f : Table) (below : List ℕ → Trees) (ids : List ℕ) (i x : ℕ) (e : Entry) → i < length ids → x ≡ get_or ids i x → f x ≡ Some e
    → bytes_in (read_nodes f below (drop i ids)) ≡ length e.text + bytes_in (below e.attributes) + bytes_in (below e.children) + bytes_in (read_nodes f below (drop (i + 1) ids))
bytes-turn f below ids i x e k item h = rw (drop-cons ids i x, ← item, h, add-one) refl

pub bytes-stop : (f : Table) (below : List ℕ → Trees) (ids : List ℕ) (i x : ℕ) → i < length ids → x ≡ get_or ids i x → f x ≡ None → bytes_in (read_nodes f below (drop i ids)) ≡ 0
bytes-stop f below ids i x k item h = rw (drop-cons ids i x, ← item, h)

-- ---- a node that was found
Good : Table → ℕ → ℕ → Option Place → Type 0
Good f i n None = Unit {0}
Good f i n (Some x) = Holds f (Some i) x.children × (size x.children ≤ n)

Good-first : (f : Table) (i n : ℕ) (a b : Option Place) → Good f i n a → Good f i n b → Good f i n (first a b)
unfolding Good
Good-first f i n None b g h = h
Good-first f i n (Some x) b g h = g

Good-find : (f : Table) (i n : ℕ) (p : Option ℕ) (ts : Trees) → Holds f p ts → size ts ≤ n → Good f i n (find_below p i ts)
unfolding Good
Good-find f i n p no_trees h k = tt
Good-find f i n p (tree c bs cs rest) h k =
    ⊎_elim (λ t. rw t.0 (rw t.1 (h.2, omega arith)))
    (λ t. rw t.0 (Good-first f i n _ _ (Good-find f i n _ bs h.1 (omega arith)) (Good-first f i n _ _ (Good-find f i n _ cs h.2 (omega arith)) (Good-find f i n p rest h.3 (omega arith))))) (eqb_tells i c.identity)

value-at : (f : Table) (i n : ℕ) (o : Option Place) (e : Entry) → Good f i n o → option_map entry_at o ≡ Some e → value_at o ≡ cond (is_inner e.kind) (text_of (read_trees n f e.children)) e.text
unfolding Good
value-at f i n None e g h = cc
value-at f i n (Some x) e g h =
    let k : entry_at x ≡ e = cc in
    rw (← k) (rw (read-holds f (Some i) x.children n g.0 (omega (arith, height-le x.children))))

-- the string value of a node, from the table
pub value-found : (f : Table) (n : ℕ) (ts : Trees) (i : ℕ) (e : Entry) → IsTableOf f n ts → option_map entry_at (find i ts) ≡ Some e → value_at (find i ts) ≡ cond (is_inner e.kind) (text_of (read_trees n f e.children)) e.text
value-found f n ts i e h k = value-at f i n (find i ts) e (Good-find f i n None ts h.holds h.fits) k
