-- Clones of rows.
use Rattle.std.proofs.Common.{◌≡◌, ℕ, List, [], ◌∷◌, refl, ap, Option, Some, None, Bool, true, false, cond, MatchOption, option_map, nat_eq}
use Rattle.std.specs.Map.{lookup}
use Rattle.row_pages.specs.Rows.{Term}
use Rattle.std.specs.contracts.prelude.U64Clone as number
use Rattle.std.specs.List.{AllZip}
use Rattle.node_table.specs.declared.table.Row.{Row}
use Rattle.node_table.specs.Rows.{entry_of_row, table_of}
use Rattle.node_table.specs.Labels.{place_of, place_in}
use Rattle.node_table.specs.contracts.table.RowClone as row

option-clone : (a b : Option ℕ) → MatchOption a (b ≡ None) (λ x. b ≡ Some x) → b ≡ a
option-clone None b h = h
option-clone (Some x) b h = h

cond-map : {A B : Type 0} (g : A → B) (t : Bool) (x y : A) (u v : Option A) → g x ≡ g y → option_map g u ≡ option_map g v → option_map g (cond t (Some x) u) ≡ option_map g (cond t (Some y) v)
cond-map g true x y u v e k = ap Some e
cond-map g false x y u v e k = k

cond-place : (i : ℕ) (t : Bool) (x y : Row) (u v : Option Row) → x.place ≡ y.place → place_in i u ≡ place_in i v → place_in i (cond t (Some x) u) ≡ place_in i (cond t (Some y) v)
cond-place i true x y u v e k = e
cond-place i false x y u v e k = k

pub row-clone : (r s : Row) → row.TheImpl.is_clone-value.it r s → entry_of_row s ≡ entry_of_row r
row-clone r s h =
    let k : s.kind ≡ r.kind = h.0 in
    let q : s.has_parent ≡ r.has_parent = h.1.0 in
    let p : s.parent ≡ r.parent = h.1.1.1.0 in
    let b : s.attributes.items ≡ r.attributes.items = h.1.1.1.1.1.1.0 in
    let c : s.children.items ≡ r.children.items = h.1.1.1.1.1.0 in
    λ i. record { kind = k i; name = h.1.1.0 i; text = h.1.1.1.1.1.1.1 i; parent = cond (q i) (Some (p i)) None; attributes = b i; children = c i }

pub entries-clone : (es fs : List (ℕ × Row)) → AllZip (λ p q. number.TheImpl.is_clone-value.it p.0 q.0 × row.TheImpl.is_clone-value.it p.1 q.1) es fs → (test : ℕ → Bool) → option_map entry_of_row (lookup test fs) ≡ option_map entry_of_row (lookup test es)
entries-clone [] [] h test = refl
entries-clone (e ∷ es) (f ∷ fs) h test =
    let k : f.0 ≡ e.0 = h.0.0 in
    rw k (cond-map entry_of_row (test e.0) f.1 e.1 _ _ (row-clone e.1 f.1 h.0.1) (entries-clone es fs h.1 test))
entries-clone [] (f ∷ fs) h test = absurd h
entries-clone (e ∷ es) [] h test = absurd h

pub table-clone : (m n : Term Row) → AllZip (λ p q. number.TheImpl.is_clone-value.it p.0 q.0 × row.TheImpl.is_clone-value.it p.1 q.1) m.0 n.0 → table_of n ≡ table_of m
unfolding table_of
table-clone m n h = λ t i. entries-clone m.0 n.0 h (nat_eq i) t

-- clones of the numbers
place-clone : (i : ℕ) (es fs : List (ℕ × Row)) → AllZip (λ p q. number.TheImpl.is_clone-value.it p.0 q.0 × row.TheImpl.is_clone-value.it p.1 q.1) es fs → (test : ℕ → Bool) → place_in i (lookup test fs) ≡ place_in i (lookup test es)
place-clone i [] [] h test = refl
place-clone i (e ∷ es) (f ∷ fs) h test =
    let k : f.0 ≡ e.0 = h.0.0 in
    let own : f.1.place ≡ e.1.place = h.0.1.1.1.1.1.0 in
    rw k (cond-place i (test e.0) f.1 e.1 _ _ own (place-clone i es fs h.1 test))
place-clone i [] (f ∷ fs) h test = absurd h
place-clone i (e ∷ es) [] h test = absurd h

pub places-clone : (m n : Term Row) → AllZip (λ p q. number.TheImpl.is_clone-value.it p.0 q.0 × row.TheImpl.is_clone-value.it p.1 q.1) m.0 n.0 → place_of n ≡ place_of m
unfolding place_of
places-clone m n h = λ t i. place-clone i m.0 n.0 h (nat_eq i) t
