-- Lists of nodes by the names of elements.
use Rattle.std.proofs.Common.{◌≡◌, ◌≢◌, ℕ, ◌<◌, Bool, true, false, cond, ◌||◌, eqb, List, [], ◌∷◌, ◌++◌, length, get_or, refl, ap, sym, ◌∙◌, subst, arith, ⊎_elim, ◌⊎◌, filter, ◌↔◌, Option, Some, None, option_map, IsTrue, String, Global, Vec, string_bytes, nat_eq, Result, Ok, Err, OnErr}
use Prim.Native.Nat.{suc}
use Rattle.std.specs.HashMap.{HashMap, get_by_text, UpdatesBy}
use Rattle.std.specs.String.{string_eq}
use Rattle.std.proofs.lemmas.Map.Text.{hash_map_updates_text}
use Rattle.std.specs.HashSet.{contains}
use Rattle.std.specs.Map.{lookup, keys_of}
use Rattle.std.specs.Map.Calls.{RetainsPairs}
use Rattle.std.specs.Str.{bytes_eq}
use Rattle.std.proofs.lemmas.Bool.Decides.{eqb_tells, same_from_decides}
use Rattle.std.specs.Bool.{Decides}
use Rattle.node_table.proofs.Ordered.{filter-in}
use Rattle.std.proofs.lemmas.Slice.Eq.{bytes_eq-Decides}
use Rattle.data_model.specs.Axes.{is_in}
use Rattle.data_model.specs.Trees.{Place, IsAt}
use Rattle.data_model.specs.declared.node.Kind.{Kind}
use Rattle.data_model.specs.declared.node.Kind.TheVariants.{Document, Element, Attribute, Text, Comment, Instruction}
use Rattle.row_pages.specs.Rows.{Term, entries, get}
use Rattle.node_table.specs.declared.table.Row.{Row}
use Rattle.node_table.specs.Flat.{Entry, Table, entry_at}
use Rattle.node_table.specs.Rows.{entry_of_row, row_of, table_of}
use Rattle.node_plans.specs.declared.plan.Plan.{Plan}
use Rattle.node_plans.specs.Planned.{planned, table_with}
use Rattle.forest_index.specs.declared.index.ForestIndex.{ForestIndex}
use Rattle.forest_index.specs.declared.name_lists.NameLists.{NameLists}
use Rattle.forest_index.specs.Named.{items_of, list_in, IsListed, Extends, IsElement, Covers, CoversAll, IsSwept}

pub on-refused : {A E : Type 0} (r : Result A E) (P : Type 0) → P → OnErr r P
on-refused (Ok x) P h = tt
on-refused (Err e) P h = h

-- ---- lists
pub in-left : (i : ℕ) (xs ys : List ℕ) → is_in i xs ≡ true → is_in i (xs ++ ys) ≡ true
in-left i [] ys h = cc
in-left i (x ∷ xs) ys h = by (eqb i x) h (in-left i xs ys)
  where
    by : (b : Bool) → b || is_in i xs ≡ true → (is_in i xs ≡ true → is_in i (xs ++ ys) ≡ true) → b || is_in i (xs ++ ys) ≡ true
    by true h rest = refl
    by false h rest = rest h

pub in-last : (i : ℕ) (xs : List ℕ) → is_in i (xs ++ i ∷ []) ≡ true
in-last i [] = ⊎_elim (λ t. rw t.0) (λ t. absurd (t.1 refl)) (eqb_tells i i)
in-last i (x ∷ xs) = by (eqb i x) (in-last i xs)
  where
    by : (b : Bool) → is_in i (xs ++ i ∷ []) ≡ true → b || is_in i (xs ++ i ∷ []) ≡ true
    by true rest = refl
    by false rest = rest

-- what a filter leaves stood there, and passes
pub filter-within : (p : ℕ → Bool) (i : ℕ) (xs : List ℕ) → is_in i (filter p xs) ≡ true → (is_in i xs ≡ true) × (p i ≡ true)
filter-within p i [] h = cc
filter-within p i (x ∷ xs) h = by (eqb i x) (eqb_tells i x) (p x) refl h (filter-within p i xs)
  where
    by : (s : Bool) → ((eqb i x ≡ true) × (i ≡ x)) ⊎ ((eqb i x ≡ false) × (i ≢ x)) → (b : Bool) → p x ≡ b → is_in i (cond b (x ∷ filter p xs) (filter p xs)) ≡ true → (is_in i (filter p xs) ≡ true → (is_in i xs ≡ true) × (p i ≡ true)) → (is_in i (x ∷ xs) ≡ true) × (p i ≡ true)
    by s t true e h rest = ⊎_elim (λ l. (rw l.0, ap p l.1 ∙ e)) (λ r. (let z = rest (rw r.0 at h) in (rw r.0 z.0, z.1))) t
    by s t false e h rest = (let z = rest h in (⊎_elim (λ l. rw l.0) (λ r. rw r.0 z.0) t, z.1))

pub bytes-self : (n : List ℕ) → bytes_eq n n ≡ true
bytes-self n = (bytes_eq-Decides n n).1 refl

pub bytes-same : (n m : List ℕ) → bytes_eq n m ≡ true → n ≡ m
bytes-same n m = (bytes_eq-Decides n m).0

-- ---- the list of a name is written
module _ {S : Type 0} (m n : HashMap (String Global) (Vec ℕ Global) S) (bs : List ℕ) (w : Vec ℕ Global) (written : UpdatesBy string_eq (λ k. bytes_eq bs (string_bytes k)) m n (Some w)) where
  written-is : (cs : List ℕ) → list_in n cs ≡ cond (bytes_eq bs cs) w.items (list_in m cs)
  unfolding list_in
  written-is cs = ap items_of (hash_map_updates_text bs m n (Some w) written cs) ∙ by (bytes_eq bs cs)
    where
      by : (b : Bool) → items_of (cond b (Some w) (get_by_text m cs)) ≡ cond b w.items (items_of (get_by_text m cs))
      by true = refl
      by false = refl

  written-at : (xs : List ℕ → List ℕ) → w.items ≡ xs (list_in m bs) → (cs : List ℕ) → list_in n cs ≡ cond (bytes_eq bs cs) (xs (list_in m cs)) (list_in m cs)
  written-at xs is cs = written-is cs ∙ by (bytes_eq bs cs) refl
    where
      by : (b : Bool) → bytes_eq bs cs ≡ b → cond b w.items (list_in m cs) ≡ cond b (xs (list_in m cs)) (list_in m cs)
      by true same = is ∙ ap (λ ds. xs (list_in m ds)) (bytes-same bs cs same)
      by false other = refl

  pub written-more : (k : ℕ) → w.items ≡ list_in m bs ++ k ∷ [] → (cs : List ℕ) → list_in n cs ≡ cond (bytes_eq bs cs) (list_in m cs ++ k ∷ []) (list_in m cs)
  written-more k is = written-at (λ xs. xs ++ k ∷ []) is

  pub written-same : w.items ≡ list_in m bs → (cs : List ℕ) → list_in n cs ≡ list_in m cs
  written-same is cs = written-at (λ xs. xs) is cs ∙ by (bytes_eq bs cs)
    where
      by : (b : Bool) → cond b (list_in m cs) (list_in m cs) ≡ list_in m cs
      by true = refl
      by false = refl

pub list-some : {S : Type 0} (m : HashMap (String Global) (Vec ℕ Global) S) (bs : List ℕ) (v : Vec ℕ Global) → get_by_text m bs ≡ Some v → list_in m bs ≡ v.items
unfolding list_in
list-some m bs v e = ap items_of e

pub list-none : {S : Type 0} (m : HashMap (String Global) (Vec ℕ Global) S) (bs : List ℕ) → get_by_text m bs ≡ None → list_in m bs ≡ []
unfolding list_in
list-none m bs e = ap items_of e

pub list-same : {S : Type 0} (m n : HashMap (String Global) (Vec ℕ Global) S) → n.entries ≡ m.entries → (cs : List ℕ) → list_in n cs ≡ list_in m cs
unfolding list_in
list-same m n e cs = ap (λ (es : List (String Global × Vec ℕ Global)). items_of (lookup (λ k. bytes_eq cs (string_bytes k)) es)) e

-- ---- a node is added
module _ (x y : NameLists) (n : List ℕ) (k : ℕ) (added : (m : List ℕ) → list_in y.lists m ≡ cond (bytes_eq n m) (list_in x.lists m ++ k ∷ []) (list_in x.lists m)) where
  pub add-kept : Extends x y
  add-kept m i h = rw (added m) (by (bytes_eq n m))
    where
      by : (b : Bool) → is_in i (cond b (list_in x.lists m ++ k ∷ []) (list_in x.lists m)) ≡ true
      by true = in-left i (list_in x.lists m) (k ∷ []) h
      by false = h

  pub add-here : IsListed y n k
  add-here = rw (added n, bytes-self n) (in-last k (list_in x.lists n))

-- ---- elements that are planned
-- where the plan has no row, an element that is to be is one
pub element-before : (p : Plan) (m : Term Row) (n : List ℕ) (i : ℕ) → row_of p.rows i ≡ None → IsElement n (table_with p m i) → IsElement n (table_of m i)
unfolding table_with planned table_of row_of
element-before p m n i none h = by (contains nat_eq p.gone i) (rw none at h)
  where
    by : (b : Bool) → IsElement n (option_map entry_of_row (cond b None (get m i))) → IsElement n (option_map entry_of_row (get m i))
    by true h = absurd h
    by false h = h

-- where it has one, the node is to be what that says
pub element-planned : (p : Plan) (m : Term Row) (i : ℕ) (r : Row) → row_of p.rows i ≡ Some r → table_with p m i ≡ Some (entry_of_row r)
unfolding table_with planned row_of
element-planned p m i r some = rw some

-- a key with a value is among the keys
pub key-at : {V : Type 0} (es : List (ℕ × V)) (k : ℕ) (v : V) → lookup (nat_eq k) es ≡ Some v → (j : ℕ) × (j < length (keys_of es)) × (get_or (keys_of es) j 0 ≡ k)
key-at [] k v h = cc
key-at (e ∷ es) k v h = ⊎_elim (λ t. (0, omega arith, sym t.1)) (λ t. (let r = key-at es k v (rw t.0 at h) in (suc r.0, omega (arith, r.1), r.2))) (eqb_tells k e.0)

-- the element that is to have the identity i is listed under its name
abbrev pub IsNamed : Plan → Term Row → NameLists → ℕ → Type 0
IsNamed p m x i = (n : List ℕ) → IsElement n (table_with p m i) → IsListed x n i

pub named-extends : (p : Plan) (m : Term Row) (x y : NameLists) (i : ℕ) → Extends x y → IsNamed p m x i → IsNamed p m y i
named-extends p m x y i more h = λ n e. more n i (h n e)

pub named-kept : (p : Plan) (m : Term Row) (x : NameLists) (i : ℕ) → CoversAll x (table_of m) → row_of p.rows i ≡ None → IsNamed p m x i
named-kept p m x i all none = λ n e. all n i (element-before p m n i none e)

pub named-all : (p : Plan) (m : Term Row) (x : NameLists) → CoversAll x (table_of m) → ((j : ℕ) → j < length (keys_of (entries p.rows)) → IsNamed p m x (get_or (keys_of (entries p.rows)) j 0)) → CoversAll x (table_with p m)
unfolding row_of
named-all p m x all keys = λ n i e. by n i e (row_of p.rows i) refl
  where
    by : (n : List ℕ) (i : ℕ) → IsElement n (table_with p m i) → (o : Option Row) → row_of p.rows i ≡ o → IsListed x n i
    by n i e None is = named-kept p m x i all is n e
    by n i e (Some r) is =
        let k = key-at (entries p.rows) i r is in
        let P : ℕ → Type 0 = IsNamed p m x in
        subst P k.2 (keys k.0 k.1) n e

-- ---- a sweep
abbrev is_element_kind : Kind → Bool
is_element_kind Document = false
is_element_kind Element = true
is_element_kind Attribute = false
is_element_kind Text = false
is_element_kind Comment = false
is_element_kind Instruction = false

kind-tells : (k : Kind) → Decides (is_element_kind k) (k ≡ Element)
kind-tells Document = (λ e. cc, λ e. cc)
kind-tells Element = (λ e. refl, λ e. refl)
kind-tells Attribute = (λ e. cc, λ e. cc)
kind-tells Text = (λ e. cc, λ e. cc)
kind-tells Comment = (λ e. cc, λ e. cc)
kind-tells Instruction = (λ e. cc, λ e. cc)

-- whether the entry is of an element of the name n
abbrev pub is_element_of : List ℕ → Option Entry → Bool
is_element_of n None = false
is_element_of n (Some e) = cond (is_element_kind e.kind) (bytes_eq e.name n) false

pub element-tells : (n : List ℕ) (o : Option Entry) → Decides (is_element_of n o) (IsElement n o)
element-tells n None = (λ e. cc, λ e. absurd e)
element-tells n (Some e) = by (is_element_kind e.kind) (kind-tells e.kind)
  where
    by : (b : Bool) → Decides b (e.kind ≡ Element) → Decides (cond b (bytes_eq e.name n) false) (IsElement n (Some e))
    by true d = (λ t. (d.0 refl, (bytes_eq-Decides e.name n).0 t), λ h. (bytes_eq-Decides e.name n).1 h.1)
    by false d = (λ t. cc, λ h. d.1 h.0)

pub element-test : (n : List ℕ) (o : Option Entry) (b : Bool) → IsTrue b ↔ IsElement n o → b ≡ is_element_of n o
element-test n o b h = same_from_decides b (is_element_of n o) h (element-tells n o)

-- what is left of a list where its elements of the name stay
pub swept-list : (f : Table) (n : List ℕ) (xs zs ys : List ℕ) (b : Bool) → ((i : ℕ) → is_in i zs ≡ is_in i xs) → ys ≡ filter (λ i. is_element_of n (f i)) zs → IsTrue b ↔ (0 < length ys) → IsSwept f n xs ys b
swept-list f n xs zs ys b same is some = record {
  kept = λ i e h. rw is (filter-in (λ j. is_element_of n (f j)) i zs ((element-tells n (f i)).1 e) ∙ same i ∙ h);
  swept = λ i h. (let l = filter-within (λ j. is_element_of n (f j)) i zs (rw is at h) in (sym (same i) ∙ l.0, (element-tells n (f i)).0 l.1));
  some = some;
}

abbrev under : List ℕ → List (String Global × Vec ℕ Global) → List ℕ
under n es = items_of (lookup (λ k. bytes_eq n (string_bytes k)) es)

in-some : (i : ℕ) (xs : List ℕ) → is_in i xs ≡ true → 0 < length xs
in-some i [] h = cc
in-some i (x ∷ xs) h = omega arith

-- a map's lists, each swept by a closure that stays as it was
module _ {F : Type 0} (T : F → String Global → Vec ℕ Global → Bool → Vec ℕ Global → F → Type 0) (g : F) (f : Table)
    (says : (k : String Global) (v : Vec ℕ Global) (b : Bool) (w : Vec ℕ Global) (h : F) → T g k v b w h → IsSwept f (string_bytes k) v.items w.items b × (h ≡ g)) where
  kept-here : (n : List ℕ) (i : ℕ) (p : String Global × Vec ℕ Global) (b : Bool) (w : Vec ℕ Global) (es : List (String Global × Vec ℕ Global)) → IsSwept f (string_bytes p.0) p.1.items w.items b → bytes_eq n (string_bytes p.0) ≡ true → IsElement n (f i) → is_in i p.1.items ≡ true
      → is_in i (under n (cond b ((p.0, w) ∷ es) es)) ≡ true
  kept-here n i p b w es swept same e h =
      let left = swept.kept i (subst (λ m. IsElement m (f i)) (bytes-same n (string_bytes p.0) same) e) h in
      let some : b ≡ true = swept.some.1 (in-some i w.items left) in
      rw (some, same) left

  kept-there : (n : List ℕ) (i : ℕ) (p : String Global × Vec ℕ Global) (b : Bool) (w : Vec ℕ Global) (es : List (String Global × Vec ℕ Global)) → bytes_eq n (string_bytes p.0) ≡ false → is_in i (under n es) ≡ true → is_in i (under n (cond b ((p.0, w) ∷ es) es)) ≡ true
  kept-there n i p true w es other h = rw other h
  kept-there n i p false w es other h = h

  -- the calls at the entries after the first
  rest-of : (p : String Global × Vec ℕ Global) (es kept : List (String Global × Vec ℕ Global)) (r : RetainsPairs T g (p ∷ es) kept) → RetainsPairs T g es r.3
  rest-of p es kept r = subst (λ h. RetainsPairs T h es r.3) (says p.0 p.1 r.0 r.1 r.2 r.4).1 r.5

  pub sweep-kept : (es kept : List (String Global × Vec ℕ Global)) → RetainsPairs T g es kept → (n : List ℕ) (i : ℕ) → IsElement n (f i) → is_in i (under n es) ≡ true → is_in i (under n kept) ≡ true
  sweep-kept [] kept r n i e h = cc
  sweep-kept (p ∷ es) kept r n i e h = rw r.6 (by (bytes_eq n (string_bytes p.0)) refl h (sweep-kept es r.3 (rest-of p es kept r) n i e))
    where
      by : (t : Bool) → bytes_eq n (string_bytes p.0) ≡ t → is_in i (items_of (cond t (Some p.1) (lookup (λ k. bytes_eq n (string_bytes k)) es))) ≡ true → (is_in i (under n es) ≡ true → is_in i (under n r.3) ≡ true)
          → is_in i (under n (cond r.0 ((p.0, r.1) ∷ r.3) r.3)) ≡ true
      by true same h rest = kept-here n i p r.0 r.1 r.3 (says p.0 p.1 r.0 r.1 r.2 r.4).0 same e h
      by false same h rest = kept-there n i p r.0 r.1 r.3 same (rest h)

  swept-here : (n : List ℕ) (i : ℕ) (p : String Global × Vec ℕ Global) (b : Bool) (w : Vec ℕ Global) (es : List (String Global × Vec ℕ Global)) → IsSwept f (string_bytes p.0) p.1.items w.items b → (is_in i (under n es) ≡ true → IsElement n (f i)) → is_in i (under n (cond b ((p.0, w) ∷ es) es)) ≡ true → IsElement n (f i)
  swept-here n i p false w es swept rest h = rest h
  swept-here n i p true w es swept rest h = by (bytes_eq n (string_bytes p.0)) refl h
    where
      by : (t : Bool) → bytes_eq n (string_bytes p.0) ≡ t → is_in i (items_of (cond t (Some w) (lookup (λ k. bytes_eq n (string_bytes k)) es))) ≡ true → IsElement n (f i)
      by true same h = subst (λ m. IsElement m (f i)) (sym (bytes-same n (string_bytes p.0) same)) (swept.swept i h).1
      by false same h = rest h

  pub sweep-swept : (es kept : List (String Global × Vec ℕ Global)) → RetainsPairs T g es kept → (n : List ℕ) (i : ℕ) → is_in i (under n kept) ≡ true → IsElement n (f i)
  sweep-swept [] kept r n i h = absurd (let z = rw r at h in cc)
  sweep-swept (p ∷ es) kept r n i h = swept-here n i p r.0 r.1 r.3 (says p.0 p.1 r.0 r.1 r.2 r.4).0 (sweep-swept es r.3 (rest-of p es kept r) n i) (rw r.6 at h)

-- ---- what a forest says of them
pub element-at : (n : List ℕ) (o : Option Place) → IsAt o (λ c. (c.kind ≡ Element) × (c.name ≡ n)) → IsElement n (option_map entry_at o)
element-at n None h = h
element-at n (Some x) h = h

pub covers-none : (o : Option ForestIndex) (f : Table) → o ≡ None → Covers o f
covers-none o f e = let P : Option ForestIndex → Type 0 = λ x. Covers x f in subst P (sym e) tt
