-- The rows of values kept as learnt.
use Rattle.std.proofs.Common.{◌≡◌, ◌⊎◌, inl, inr, ℕ, suc, ◌+◌, ◌≤◌, ◌<◌, pos, List, [], ◌∷◌, ◌++◌, length, length-append, nat_lt, true, refl, sym, ap, subst, ◌∙◌, arith}
use Rattle.std.proofs.lemmas.List.Sorted.{IsPermutation-append_left, IsPermutation-sym}
use Rattle.std.proofs.lemmas.Bool.Decides.{nat_tests}
use Rattle.sqlite.specs.Order.{Row}
use Rattle.sqlite_value.proofs.OrderLemmas.{value_cmp-Int}
use Rattle.sqlite_rules.specs.Lists.{Has}
use Rattle.sqlite_trees.specs.Tree.{put_row}
use Rattle.ballots.specs.Values.{positions}
use Rattle.ballots.specs.Spelling.{IsValue}
use Rattle.ballots.specs.declared.value.Value.{Value}
use Rattle.record_writes.specs.Stored.{AreKept, learnt_row, learnt_rows}
use Rattle.record_writes.proofs.Lists.{has_moved}

-- one more value's row goes last
pub rows_more : (p : ℕ) (vs : List Value) (v : Value) → learnt_rows p (vs ++ v ∷ []) ≡ learnt_rows p vs ++ learnt_row (p + length vs) v ∷ []
rows_more p [] v = let same : p ≡ p + 0 = omega arith in ap (λ n. learnt_row n v ∷ []) same
rows_more p (x ∷ vs) v =
    let same : suc p + length vs ≡ p + suc (length vs) = omega arith in
    ap (λ rs. learnt_row p x ∷ rs) (rows_more (suc p) vs v ∙ ap (λ n. learnt_rows (suc p) vs ++ learnt_row n v ∷ []) same)

-- each row is that of a value, at a position from p up to below p + the number of values
pub has_row : (p : ℕ) (vs : List Value) (r : Row) → Has (learnt_rows p vs) r → (q : ℕ) × (v : Value) × Has vs v × (r ≡ learnt_row q v) × (q < p + length vs)
has_row p [] r none = absurd none
has_row p (v ∷ vs) r (inl is) = (p, v, inl refl, is, omega arith)
has_row p (v ∷ vs) r (inr h) = let it = has_row (suc p) vs r h in (it.0, it.1, inr it.2, it.3, let low = it.4 in omega (arith, low))

-- a row below which all others are goes last
put_last : (p : ℕ) (v : Value) (rows : List Row) → ((r : Row) → Has rows r → (q : ℕ) × (w : Value) × (r ≡ learnt_row q w) × (q < p)) → put_row (learnt_row p v) rows ≡ rows ++ learnt_row p v ∷ []
put_last p v [] below = refl
put_last p v (r ∷ rows) below =
    let it = below r (inl refl) in
    let low = it.3 in
    let less : nat_lt it.0 p ≡ true = grind (arith, nat_tests) in
    let rest = put_last p v rows (λ x h. below x (inr h)) in
    rw (it.2, value_cmp-Int (pos it.0) (pos p), less) (ap (λ rs. learnt_row it.0 it.1 ∷ rs) rest)

has_more : (vs : List Value) (v x : Value) → Has (vs ++ v ∷ []) x → Has vs x ⊎ (x ≡ v)
has_more [] v x (inl is) = inr is
has_more [] v x (inr none) = absurd none
has_more (y ∷ vs) v x (inl is) = inl (inl is)
has_more (y ∷ vs) v x (inr h) = elim (has_more vs v x h) [ inl k ↦ inl (inr k) | inr is ↦ inr is ]

-- each row that is kept is at a position up to the number of the values
pub rows_below : (table : List Row) (vs : List Value) → AreKept table vs → (r : Row) → Has table r → (q : ℕ) × (w : Value) × (r ≡ learnt_row q w) × (q < suc (length vs))
rows_below table vs it r has = let row = has_row 1 vs r (has_moved table (learnt_rows 1 vs) r (IsPermutation-sym _ _ it.rows) has) in (row.0, row.1, row.3, let low = row.4 in omega (arith, low))

-- the row of the next value is put into the table
pub keeps_next : (table : List Row) (vs : List Value) (v : Value) → AreKept table vs → suc (length vs) ≤ positions → IsValue v → AreKept (put_row (learnt_row (suc (length vs)) v) table) (vs ++ v ∷ [])
keeps_next table vs v it most good =
    let one : learnt_rows 1 (vs ++ v ∷ []) ≡ learnt_rows 1 vs ++ learnt_row (suc (length vs)) v ∷ [] = rows_more 1 vs v ∙ (let same : 1 + length vs ≡ suc (length vs) = omega arith in ap (λ n. learnt_rows 1 vs ++ learnt_row n v ∷ []) same) in
    record {
      rows = rw (one, put_last (suc (length vs)) v table (rows_below table vs it)) (IsPermutation-append_left (learnt_row (suc (length vs)) v ∷ []) (learnt_rows 1 vs) table it.rows);
      few = let more = length-append vs (v ∷ []) in omega (arith, more, most);
      values = λ x has. elim (has_more vs v x has) [ inl k ↦ it.values x k | inr is ↦ subst IsValue (sym is) good ];
    }
