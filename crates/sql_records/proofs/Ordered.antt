-- What ORDER BY says of the rows that a query shows.
use Rattle.std.proofs.Common.{◌≡◌, ◌⊎◌, inl, inr, ℕ, ◌+◌, ◌≤◌, ◌<◌, suc, pos, List, [], ◌∷◌, ◌++◌, map, Bool, false, true, get_or, int_cmp, nat_lt, ◌==◌, refl, sym, ap, subst, ◌∙◌, arith}
use Rattle.std.proofs.lemmas.Bool.{cases_Bool}
use Rattle.std.proofs.lemmas.Bool.Decides.{nat_tests}
use Rattle.std.proofs.lemmas.List.{append_assoc}
use Rattle.std.proofs.lemmas.List.Sorted.{IsPermutation-sym}
use Rattle.std.specs.declared.cmp.Ordering.TheVariants.{Equal}
use Rattle.std.specs.Ordering.{is_lt, ordering_then}
use Rattle.std.specs.List.Sorted.{IsPermutation, IsSorted}
use Rattle.sqlite.specs.declared.types.Value.TheVariants.{Null, Int}
use Rattle.sqlite.specs.Order.{Row}
use Rattle.sqlite.specs.Tree.{Trees}
use Rattle.sqlite.specs.Program.{overlay}
use Rattle.sqlite.specs.State.{State, Begins}
use Rattle.sqlite.specs.Query.{Query, IsAnswer, output, output_cmp, Output}
use Rattle.sqlite.proofs.Callers.{begins_as}
use Rattle.sqlite_rules.specs.Lists.{Has}
use Rattle.sqlite_value.specs.Order.{column}
use Rattle.sqlite_value.proofs.OrderLemmas.{value_cmp-Int}
use Rattle.ballots.specs.declared.ballot.Ballot.{Ballot}
use Rattle.ballots.specs.declared.value.Entry.{Entry}
use Rattle.records.specs.Kept.{AreAbove}
use Rattle.record_tables.specs.Texts.{votes_load_text}
use Rattle.record_tables.specs.Versions.{AreTables, tables_of}
use Rattle.record_writes.specs.Stored.{times, vote_row}
use Rattle.sql_records.specs.Reading.{AreShown, AreVotes, Shows, ShowsNoVote, vote_shown}
use Rattle.sql_records.proofs.Means.{votes_query, votes_query_is, votes_plain}
use Rattle.sql_records.proofs.Queried.{both, paired}
use Rattle.record_writes.proofs.Lists.{has_moved}
use Rattle.sql_records.proofs.Loaded.{times_permuted, unmapped}
use Rattle.record_writes.proofs.Upsert.{same_number}
use Rattle.sql_records.proofs.Read.{last_of}

-- what a query shows of a vote
abbrev pub shown_of : Entry → Row
shown_of e = vote_shown (vote_row e)

abbrev output_of : Entry → Output
output_of e = output votes_query ([] ∷ vote_row e ∷ [])

pub number_of : (m n : ℕ) → Int (pos m) ≡ Int (pos n) → m ≡ n
number_of m n e = cc

not_less : (m n : ℕ) → is_lt (ordering_then (int_cmp (pos m) (pos n)) Equal) ≡ false → nat_lt m n ≡ false
not_less m n h = elim (cases_Bool (nat_lt m n)) [
  | inl low ↦ absurd (let e = rw low at h in cc)
  | inr other ↦ other
]

here : (p : ℕ) (e : Entry) → e.position ≡ p → (e.position == p) ≡ true
here p e h = grind (arith, nat_tests)

-- outputs of a query whose order is that of a position
module _ (q : Query) (out : Entry → Output) (by_position : (a b : Entry) → output_cmp q (out a) (out b) ≡ ordering_then (int_cmp (pos a.position) (pos b.position)) Equal) where
  abbrev pub IsOrdered : List Entry → Type 0
  IsOrdered es = IsSorted (output_cmp q) (map out es)

  -- the second is not below the first
  next_is : (a b : Entry) (es : List Entry) → IsOrdered (a ∷ b ∷ es) → a.position ≤ b.position
  next_is a b es h =
      let first : is_lt (output_cmp q (out b) (out a)) ≡ false = h 0 (out a) (omega arith) (omega arith) in
      let least : nat_lt b.position a.position ≡ false = not_less b.position a.position (subst (λ o. is_lt o ≡ false) (by_position b a) first) in
      grind (arith, nat_tests)

  rest_is : (a : Entry) (es : List Entry) → IsOrdered (a ∷ es) → IsOrdered es
  rest_is a es h k d low high =
      let next : suc k + 1 ≡ suc (k + 1) = omega arith in
      subst (λ n. is_lt (output_cmp q (get_or (map out (a ∷ es)) n d) (get_or (map out es) k d)) ≡ false) next (h (suc k) d (omega arith) (omega arith))

  -- with one at most at a position they rise
  pub rise : (p : ℕ) (e : Entry) (es : List Entry) → p < e.position → IsOrdered (e ∷ es) → ((n : ℕ) → times n (e ∷ es) ≤ 1) → AreAbove p (e ∷ es)
  rise p e [] low h once = (low, tt)
  rise p e (f ∷ fs) low h once = (low, rise e.position f fs (apart e f fs (next_is e f fs h) (once e.position)) (rest_is e (f ∷ fs) h) (λ n. let few = once n in omega arith))
    where
      apart : (e f : Entry) (fs : List Entry) → e.position ≤ f.position → times e.position (e ∷ f ∷ fs) ≤ 1 → e.position < f.position
      apart e f fs most few = by (e.position == f.position) refl
        where
          by : (b : Bool) → (e.position == f.position) ≡ b → e.position < f.position
          by true same = absurd (let is = same_number e.position f.position same in let mine = here e.position e refl in let other = here e.position f (sym is) in omega (arith, rw (mine, other) at few))
          by false other = grind (arith, nat_tests)

votes_order : (a b : Entry) → output_cmp votes_query (output_of a) (output_of b) ≡ ordering_then (int_cmp (pos a.position) (pos b.position)) Equal
votes_order a b = rw (value_cmp-Int (pos a.position) (pos b.position)) refl

-- a row that comes after others shows a vote above them
reach : (n : ℕ) (b : Ballot) (given : List Row) (row : Row) (tail : List Row) (es zs : List Entry) (d : ℕ) → AreShown n b given es → given ++ row ∷ tail ≡ map shown_of zs → AreAbove d zs
    → (z : Entry) × Has zs z × (row ≡ shown_of z) × (last_of d es < z.position)
reach n b [] row tail [] [] d s is above = absurd cc
reach n b [] row tail [] (z ∷ zs) d s is above = let same : row ≡ shown_of z = cc in (z, inl refl, same, above.0)
reach n b [] row tail (x ∷ es) zs d s is above = absurd s
reach n b (g ∷ gs) row tail [] zs d s is above = absurd s
reach n b (g ∷ gs) row tail (x ∷ es) [] d s is above = absurd cc
reach n b (g ∷ gs) row tail (x ∷ es) (z ∷ zs) d s is above =
    let same : g ≡ shown_of z = cc in
    let more : gs ++ row ∷ tail ≡ map shown_of zs = cc in
    let at : z.position ≡ x.position = number_of z.position x.position (sym (ap (λ (r : Row). column r 0) same) ∙ s.0.position) in
    let it = reach n b gs row tail es zs x.position s.1 more (subst (λ n. AreAbove n zs) at above.1) in
    (it.0, inr it.1, it.2, it.3)

module _ (db : Trees) (n : ℕ) (b : Ballot) (votes : List Entry) (are : AreVotes n b (db 1) votes) (all : List Row) (a : IsAnswer votes_query (overlay db []) [] all) where
  outputs : a.kept ≡ map output_of votes
  outputs =
      a.distinct ∙ ap (map (output votes_query)) (a.grouped ∙ paired (db 1) ∙ ap (map (λ (r : Row). [] ∷ r ∷ [])) are.rows)
      ∙ both (λ (r : Row). [] ∷ r ∷ []) (output votes_query) (λ r. output votes_query ([] ∷ r ∷ [])) (λ r. refl) (map vote_row votes)
      ∙ both vote_row (λ r. output votes_query ([] ∷ r ∷ [])) output_of (λ e. refl) votes

  in_order : (zs : List Entry) × ((a.ordered ≡ map output_of zs) × IsPermutation votes zs)
  in_order = unmapped output_of votes a.ordered (subst (λ k. IsPermutation k a.ordered) outputs a.same)

  abbrev zs : List Entry
  zs = in_order.0

  shown : all ≡ map shown_of zs
  shown = a.shown ∙ ap (map (λ (o : Output). o.1)) in_order.1.0 ∙ both output_of (λ (o : Output). o.1) shown_of (λ e. refl) zs

  rising : AreAbove 0 zs
  rising = by zs refl
    where
      by : (es : List Entry) → zs ≡ es → AreAbove 0 es
      by [] is = tt
      by (e ∷ es) is =
          let moved = in_order.1.1 in
          rise votes_query output_of votes_order 0 e es (are.least e (has_moved zs votes e (IsPermutation-sym _ _ moved) (subst (λ xs. Has xs e) (sym is) (inl refl))))
          (subst (IsOrdered votes_query output_of votes_order) is (subst (IsSorted (output_cmp votes_query)) in_order.1.0 a.sorted))
          (λ p. subst (λ xs. times p xs ≤ 1) is (let few = are.once p in let same = times_permuted p votes zs moved in omega (arith, few, same)))

  abbrev pub Refused : Row → ℕ → Type 0
  Refused row last = ShowsNoVote n b row ⊎ ((e : Entry) × Shows n b row e × (1 ≤ e.position) × (e.position ≤ last))

  -- so no row of an answer is refused
  none_refused : (given : List Row) (row : Row) (tail : List Row) (es : List Entry) → all ≡ given ++ row ∷ tail → AreShown n b given es → Refused row (last_of 0 es) → ⊥
  none_refused given row tail es is s refused =
      let it = reach n b given row tail es zs 0 s (sym is ∙ shown) rising in
      let has = has_moved zs votes it.0 (IsPermutation-sym _ _ in_order.1.1) it.1 in
      elim refused [
        | inl none ↦ none it.0 (are.least it.0 has) (subst (λ r. Shows n b r it.0) (sym it.2) (record { position = refl; round = refl; leader = refl; value = refl; stands = are.stand it.0 has }))
        | inr low ↦ let same = number_of it.0.position low.0.position (sym (ap (λ (r : Row). column r 0) it.2) ∙ low.1.position) in let above = it.3 in let below = low.3 in omega (arith, same, above, below)
      ]

-- the first rows of an answer are those of some whole one
pub refuses : (s : State) → AreTables s.now.schema → (n : ℕ) (b : Ballot) (votes : List Entry) → AreVotes n b (s.now.trees 1) votes → (given : List Row) (row : Row) (es : List Entry)
    → Begins votes_load_text [] s (given ++ row ∷ []) → AreShown n b given es → ShowsNoVote n b row ⊎ ((e : Entry) × Shows n b row e × (1 ≤ e.position) × (e.position ≤ last_of 0 es)) → ⊥
refuses s known n b votes are given row es begins shown refused =
    let first = begins_as votes_load_text [] s s (tables_of known.0) known.1 _ (votes_query_is known.0).0 (votes_plain known.0) (votes_query_is known.0).1 (given ++ row ∷ []) begins in
    let start = first.1 in
    none_refused s.now.trees n b votes are ((given ++ row ∷ []) ++ start.0) (start.1 Null) given row start.0 es (append_assoc given (row ∷ []) start.0) shown refused
