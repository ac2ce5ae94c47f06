-- What is known of values kept as learnt: that a table holds one list of them, and what ORDER BY says of their rows.
use Rattle.std.proofs.Common.{◌≡◌, inl, inr, ℕ, suc, ◌+◌, ◌≤◌, ◌<◌, pos, List, [], ◌∷◌, ◌++◌, map, length, int_cmp, refl, sym, ap, subst, ◌∙◌, arith}
use Rattle.std.proofs.lemmas.List.{append_assoc}
use Rattle.std.proofs.lemmas.List.Sorted.{IsPermutation-map, IsPermutation-sym, IsPermutation-trans}
use Rattle.std.specs.declared.cmp.Ordering.TheVariants.{Equal}
use Rattle.std.specs.Ordering.{ordering_then}
use Rattle.std.specs.List.Sorted.{IsPermutation, IsSorted}
use Rattle.sqlite.specs.declared.types.Value.TheVariants.{Null}
use Rattle.sqlite.specs.Order.{Row}
use Rattle.sqlite.specs.Tree.{Trees}
use Rattle.sqlite.specs.Program.{overlay}
use Rattle.sqlite.specs.State.{State, Begins}
use Rattle.sqlite.specs.Query.{IsAnswer, output, output_cmp, Output}
use Rattle.sqlite.proofs.Callers.{begins_as}
use Rattle.sqlite_rules.specs.Lists.{Has}
use Rattle.sqlite_value.proofs.OrderLemmas.{value_cmp-Int}
use Rattle.ballots.specs.Ballot.{no_ballot}
use Rattle.ballots.specs.Spelling.{IsValue, value_spelling}
use Rattle.ballots.specs.Terms.{Setup}
use Rattle.ballots.specs.declared.ballot.Ballot.{Ballot}
use Rattle.ballots.specs.declared.value.Value.{Value}
use Rattle.ballots.specs.declared.value.Entry.{Entry}
use Rattle.paxos.specs.Records.{Record}
use Rattle.records.specs.Kept.{AreAbove}
use Rattle.record_tables.specs.Texts.{schema, learnt_load_text}
use Rattle.record_tables.specs.declared.version.Version.TheVariants.{Second}
use Rattle.record_writes.specs.Stored.{AreKept, IsStored, learnt_row, learnt_rows, times}
use Rattle.sql_records.specs.Reading.{AreLearnt, ShowsLearnt, ShowsNotNext, learnt_shown}
use Rattle.sql_records.proofs.Means.{learnt_query, learnt_query_is, learnt_plain}
use Rattle.sql_records.proofs.Queried.{both, paired}
use Rattle.record_writes.proofs.Lists.{has_moved}
use Rattle.sql_records.proofs.Loaded.{SpeltApart, above_has, once_rising, one_promise, one_vote, same_rising, times_permuted, unmapped}
use Rattle.sql_records.proofs.Ordered.{IsOrdered, rise}

-- the values as entries with no ballot
abbrev pub kept_entry : ℕ → Value → Entry
kept_entry p v = record { position = p; vote = record { ballot = no_ballot; value = v } }

abbrev pub kept_entries : ℕ → List Value → List Entry
kept_entries p [] = []
kept_entries p (v ∷ vs) = kept_entry p v ∷ kept_entries (suc p) vs

abbrev pub kept_row : Entry → Row
kept_row e = learnt_row e.position e.vote.value

pub kept_rows : (p : ℕ) (vs : List Value) → map kept_row (kept_entries p vs) ≡ learnt_rows p vs
kept_rows p [] = refl
kept_rows p (v ∷ vs) = ap (λ rs. learnt_row p v ∷ rs) (kept_rows (suc p) vs)

kept_rise : (p : ℕ) (vs : List Value) → AreAbove p (kept_entries (suc p) vs)
kept_rise p [] = tt
kept_rise p (v ∷ vs) = (omega arith, kept_rise (suc p) vs)

values_of : List Entry → List Value
values_of es = map (λ (e : Entry). e.vote.value) es

kept_values : (p : ℕ) (vs : List Value) → values_of (kept_entries p vs) ≡ vs
unfolding values_of
kept_values p [] = refl
kept_values p (v ∷ vs) = ap (λ xs. v ∷ xs) (kept_values (suc p) vs)

has_kept : (p : ℕ) (vs : List Value) (e : Entry) → Has (kept_entries p vs) e → (e ≡ kept_entry e.position e.vote.value) × Has vs e.vote.value
has_kept p [] e none = absurd none
has_kept p (v ∷ vs) e (inl is) = subst (λ (x : Entry). (x ≡ kept_entry x.position x.vote.value) × Has (v ∷ vs) x.vote.value) (sym is) (refl, inl refl)
has_kept p (v ∷ vs) e (inr h) = let it = has_kept (suc p) vs e h in (it.0, inr it.1)

-- ---- a table holds one list of values

entry_at : ℕ → Value → Entry
entry_at p v = kept_entry p v

-- two entries with the same row are the same
row_tells : (apart : SpeltApart) (e f : Entry) → e ≡ kept_entry e.position e.vote.value → f ≡ kept_entry f.position f.vote.value → IsValue e.vote.value → IsValue f.vote.value → kept_row e ≡ kept_row f → e ≡ f
unfolding entry_at
row_tells apart e f e_is f_is good good' h =
    let p : e.position ≡ f.position = cc in
    let s : value_spelling e.vote.value ≡ value_spelling f.vote.value = cc in
    let v : e.vote.value ≡ f.vote.value = apart e.vote.value f.vote.value [] [] good good' (ap (λ bytes. bytes ++ []) s) in
    e_is ∙ (λ i. entry_at (p i) (v i)) ∙ sym f_is

row_has : (es : List Entry) (r : Row) → Has (map kept_row es) r → (e : Entry) × (Has es e × (r ≡ kept_row e))
row_has [] r none = absurd none
row_has (e ∷ es) r (inl is) = (e, (inl refl, is))
row_has (e ∷ es) r (inr h) = let it = row_has es r h in (it.0, (inr it.1.0, it.1.1))

has_row : (es : List Entry) (e : Entry) → Has es e → Has (map kept_row es) (kept_row e)
has_row [] e none = absurd none
has_row (x ∷ es) e (inl is) = inl (ap kept_row is)
has_row (x ∷ es) e (inr h) = inr (has_row es e h)

module _ (apart : SpeltApart) (table : List Row) where
  shared : (a b : List Value) → AreKept table a → AreKept table b → (e : Entry) → Has (kept_entries 1 a) e → Has (kept_entries 1 b) e
  shared a b x y e has =
      let there = subst (λ rs. Has rs (kept_row e)) (kept_rows 1 a) (has_row (kept_entries 1 a) e has) in
      let moved = has_moved table (learnt_rows 1 b) (kept_row e) (IsPermutation-sym _ _ y.rows) (has_moved (learnt_rows 1 a) table (kept_row e) x.rows there) in
      let it = row_has (kept_entries 1 b) (kept_row e) (subst (λ rs. Has rs (kept_row e)) (sym (kept_rows 1 b)) moved) in
      let mine = has_kept 1 a e has in
      let other = has_kept 1 b it.0 it.1.0 in
      subst (Has (kept_entries 1 b)) (sym (row_tells apart e it.0 mine.0 other.0 (x.values e.vote.value mine.1) (y.values it.0.vote.value other.1) it.1.1)) it.1.0

  one_list : (a b : List Value) → AreKept table a → AreKept table b → a ≡ b
  one_list a b x y = sym (kept_values 1 a) ∙ ap values_of (same_rising 0 (kept_entries 1 a) (kept_entries 1 b) (kept_rise 0 a) (kept_rise 0 b) (shared a b x y) (shared b a y x)) ∙ kept_values 1 b

record_of : Ballot → List Entry → List Value → Record
record_of b es vs = record { promise = b; votes = es; learnt = vs }

pub one_record : (apart : SpeltApart) (o : Setup) (trees : Trees) (a b : Record) → IsStored Second o trees a → IsStored Second o trees b → a ≡ b
unfolding record_of
one_record apart o trees a b x y =
    let promise = one_promise apart Second o trees a b x y in
    let votes = one_vote apart Second o trees a b x y in
    let learnt = one_list apart (trees 2) a.learnt b.learnt x.kept y.kept in
    λ i. record_of (promise i) (votes i) (learnt i)

-- ---- in order

abbrev output_of : Entry → Output
output_of e = output learnt_query ([] ∷ kept_row e ∷ [])

-- what a query shows of a value
abbrev shown_of : Entry → Row
shown_of e = learnt_shown (kept_row e)

learnt_order : (a b : Entry) → output_cmp learnt_query (output_of a) (output_of b) ≡ ordering_then (int_cmp (pos a.position) (pos b.position)) Equal
learnt_order a b = rw (value_cmp-Int (pos a.position) (pos b.position)) refl

-- a row that comes after others shows the next value
reach : (p : ℕ) (given : List Row) (row : Row) (tail : List Row) (ws vs : List Value) → AreLearnt p given ws → given ++ row ∷ tail ≡ map shown_of (kept_entries p vs) → (v : Value) × Has vs v × (row ≡ shown_of (kept_entry (p + length ws) v)) × (length ws < length vs)
reach p [] row tail [] [] s is = absurd cc
reach p [] row tail [] (v ∷ vs) s is = let same : row ≡ shown_of (kept_entry p v) = cc in let at : p ≡ p + 0 = omega arith in (v, inl refl, same ∙ ap (λ n. shown_of (kept_entry n v)) at, omega arith)
reach p [] row tail (w ∷ ws) vs s is = absurd s
reach p (g ∷ gs) row tail [] vs s is = absurd s
reach p (g ∷ gs) row tail (w ∷ ws) [] s is = absurd cc
reach p (g ∷ gs) row tail (w ∷ ws) (v ∷ vs) s is =
    let more : gs ++ row ∷ tail ≡ map shown_of (kept_entries (suc p) vs) = cc in
    let it = reach (suc p) gs row tail ws vs s.1 more in
    let at : suc p + length ws ≡ p + suc (length ws) = omega arith in
    (it.0, inr it.1, it.2 ∙ ap (λ n. shown_of (kept_entry n it.0)) at, let low = it.3 in omega (arith, low))

module _ (db : Trees) (vs : List Value) (are : AreKept (db 2) vs) (all : List Row) (a : IsAnswer learnt_query (overlay db []) [] all) where
  abbrev es : List Entry
  es = kept_entries 1 vs

  abbrev out : Row → Output
  out r = output learnt_query ([] ∷ r ∷ [])

  outputs : a.kept ≡ map out (db 2)
  outputs = a.distinct ∙ ap (map (output learnt_query)) (a.grouped ∙ paired (db 2)) ∙ both (λ (r : Row). [] ∷ r ∷ []) (output learnt_query) out (λ r. refl) (db 2)

  permuted : IsPermutation (map output_of es) a.ordered
  permuted =
      let rows : IsPermutation (map out (map kept_row es)) (map out (db 2)) = subst (λ rs. IsPermutation (map out rs) (map out (db 2))) (sym (kept_rows 1 vs)) (IsPermutation-map out (learnt_rows 1 vs) (db 2) are.rows) in
      IsPermutation-trans (map output_of es) (map out (db 2)) a.ordered (subst (λ os. IsPermutation os (map out (db 2))) (both kept_row out output_of (λ e. refl) es) rows) (subst (λ k. IsPermutation k a.ordered) outputs a.same)

  in_order : (zs : List Entry) × ((a.ordered ≡ map output_of zs) × IsPermutation es zs)
  in_order = unmapped output_of es a.ordered permuted

  abbrev zs : List Entry
  zs = in_order.0

  rising : AreAbove 0 zs
  rising = by zs refl
    where
      by : (fs : List Entry) → zs ≡ fs → AreAbove 0 fs
      by [] is = tt
      by (e ∷ fs) is =
          let moved = in_order.1.1 in
          rise learnt_query output_of learnt_order 0 e fs (above_has 0 es e (kept_rise 0 vs) (has_moved zs es e (IsPermutation-sym _ _ moved) (subst (λ xs. Has xs e) (sym is) (inl refl))))
          (subst (IsOrdered learnt_query output_of learnt_order) is (subst (IsSorted (output_cmp learnt_query)) in_order.1.0 a.sorted))
          (λ p. subst (λ xs. times p xs ≤ 1) is (let few = once_rising p 0 es (kept_rise 0 vs) in let same = times_permuted p es zs moved in omega (arith, few, same)))

  shown : all ≡ map shown_of es
  shown =
      let moved = in_order.1.1 in
      let same : zs ≡ es = same_rising 0 zs es rising (kept_rise 0 vs) (λ e has. has_moved zs es e (IsPermutation-sym _ _ moved) has) (λ e has. has_moved es zs e moved has) in
      a.shown ∙ ap (map (λ (o : Output). o.1)) in_order.1.0 ∙ both output_of (λ (o : Output). o.1) shown_of (λ e. refl) zs ∙ ap (map shown_of) same

  -- so no row of an answer is refused
  none_refused : (given : List Row) (row : Row) (tail : List Row) (ws : List Value) → all ≡ given ++ row ∷ tail → AreLearnt 1 given ws → ¬ ShowsNotNext (suc (length ws)) row
  none_refused given row tail ws is s refused =
      let it = reach 1 given row tail ws vs s (sym is ∙ shown) in
      let most = are.few in
      let low = it.3 in
      let at : 1 + length ws ≡ suc (length ws) = omega arith in
      let row_is : row ≡ shown_of (kept_entry (suc (length ws)) it.0) = it.2 ∙ ap (λ n. shown_of (kept_entry n it.0)) at in
      refused (omega (arith, most, low)) it.0 (subst (λ r. ShowsLearnt (suc (length ws)) r it.0) (sym row_is) (record { at = refl; spelt = refl; value = are.values it.0 it.1 }))

-- the first rows of an answer are those of some whole one
pub refuses_kept : (s : State) → s.now.schema ≡ schema → (vs : List Value) → AreKept (s.now.trees 2) vs → (given : List Row) (row : Row) (ws : List Value)
    → Begins learnt_load_text [] s (given ++ row ∷ []) → AreLearnt 1 given ws → ¬ ShowsNotNext (suc (length ws)) row
refuses_kept s known vs are given row ws begins shown refused =
    let first = begins_as learnt_load_text [] s s schema known _ learnt_query_is.0 learnt_plain learnt_query_is.1 (given ++ row ∷ []) begins in
    let start = first.1 in
    none_refused s.now.trees vs are ((given ++ row ∷ []) ++ start.0) (start.1 Null) given row start.0 ws (append_assoc given (row ∷ []) start.0) shown refused
