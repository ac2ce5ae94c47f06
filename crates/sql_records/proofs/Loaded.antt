-- From what the queries show to what the tables hold.
use Rattle.std.proofs.Common.{◌≡◌, inl, inr, ℕ, ◌+◌, ◌≤◌, ◌<◌, suc, zero, List, [], ◌∷◌, ◌++◌, map, drop, length, fold, Bool, true, false, cond, ◌&&◌, ◌==◌, Some, Option, refl, sym, ap, subst, subst₂, ◌∙◌, arith, get_or, codes}
use Rattle.std.specs.List.{swap}
use Rattle.std.specs.List.Sorted.{IsPermutation, apply_swaps, SwapsInRange}
use Rattle.std.proofs.lemmas.List.Sorted.{IsPermutation-map, IsPermutation-sym, sum_by-IsPermutation}
use Rattle.std.proofs.Math.Seq.{map-set}
use Rattle.std.proofs.Math.ListN.{set, length-map, get_or-map}
use Rattle.sqlite_rules.specs.Lists.{Has}
use Rattle.std.specs.Prelude.{not}
use Rattle.std.specs.List.{AllByRecursion}
use Rattle.std.proofs.lemmas.Bool.Decides.{nat_tests}
use Rattle.record_writes.proofs.Lists.{has_moved}
use Rattle.record_writes.proofs.Upsert.{same_number}
use Rattle.ballots.specs.declared.value.Value.{Value as Proposed}
use Rattle.sqlite.specs.declared.types.Value.{Value}
use Rattle.sqlite.specs.declared.types.Value.TheVariants.{Null, Int, Real, Text, Blob}
use Rattle.sqlite_value.specs.Order.{column}
use Rattle.sqlite.specs.Order.{Row}
use Rattle.sqlite.specs.Tree.{Trees}
use Rattle.sqlite_sql.specs.Ops.{is_null}
use Rattle.sqlite_schema.specs.declared.schema.Column.{Column}
use Rattle.sqlite_schema.specs.declared.schema.Constraint.TheVariants.{Datatype, NotNull}
use Rattle.sqlite_schema.specs.Rules.{are_typed, are_present}
use Rattle.sqlite_catalog.specs.Listing.{IsSound}
use Rattle.sqlite.proofs.Callers.{one_permutation}
use Rattle.ballots.specs.Terms.{Setup}
use Rattle.ballots.specs.declared.ballot.Ballot.{Ballot}
use Rattle.ballots.specs.declared.value.Entry.{Entry}
use Rattle.paxos.specs.Records.{Record}
use Rattle.records.specs.Kept.{AreAbove, IsRising}
use Rattle.ballots.specs.Spelling.{IsValue, value_spelling}
use Rattle.record_tables.specs.Texts.{schema, meta_columns, votes_columns, learnt_columns, key_column}
use Rattle.record_tables.specs.declared.version.Version.{Version}
use Rattle.record_tables.specs.declared.version.Version.TheVariants.{First, Second}
use Rattle.record_tables.specs.Versions.{number_of, tables_of}
use Rattle.ballots.specs.Values.{positions}
use Rattle.record_writes.specs.Stored.{AreKept, IsPromise, IsStored, KeepsLearnt, MayStand, learnt_row, learnt_rows, meta_row, vote_row, times}
use Rattle.sql_records.specs.Reading.{learnt_shown, meta_shown, vote_shown, AreLearnt, AreShown, ShowsMember}

-- ---- a row that obeys its table

left_of : (a b : Bool) → (a && b) ≡ true → a ≡ true
left_of true b h = refl
left_of false b h = h

right_of : (a b : Bool) → (a && b) ≡ true → b ≡ true
right_of true b h = h
right_of false b h = absurd cc

null_is : (v : Value) → is_null v ≡ true → v ≡ Null
null_is Null h = refl
null_is (Int n) h = absurd cc
null_is (Real x) h = absurd cc
null_is (Text t) h = absurd cc
null_is (Blob b) h = absurd cc

-- no more values than columns
few : (key : Option ℕ) (at : ℕ) (cs : List Column) (vs : Row) → are_typed key at cs vs ≡ true → length vs ≤ length cs
few key at [] [] h = omega arith
few key at [] (v ∷ vs) h = absurd cc
few key at (c ∷ cs) [] h = omega arith
few key at (c ∷ cs) (v ∷ vs) h = let more = few key (at + 1) cs vs (right_of _ _ h) in omega arith

nine : (r : Row) → length r ≡ 9 → is_null (column r 1) ≡ true → r ≡ column r 0 ∷ Null ∷ column r 2 ∷ column r 3 ∷ column r 4 ∷ column r 5 ∷ column r 6 ∷ column r 7 ∷ column r 8 ∷ []
nine [] len null = absurd (omega (arith, len))
nine (a ∷ []) len null = absurd (omega (arith, len))
nine (a ∷ b ∷ []) len null = absurd (omega (arith, len))
nine (a ∷ b ∷ c ∷ []) len null = absurd (omega (arith, len))
nine (a ∷ b ∷ c ∷ d ∷ []) len null = absurd (omega (arith, len))
nine (a ∷ b ∷ c ∷ d ∷ e ∷ []) len null = absurd (omega (arith, len))
nine (a ∷ b ∷ c ∷ d ∷ e ∷ f ∷ []) len null = absurd (omega (arith, len))
nine (a ∷ b ∷ c ∷ d ∷ e ∷ f ∷ g ∷ []) len null = absurd (omega (arith, len))
nine (a ∷ b ∷ c ∷ d ∷ e ∷ f ∷ g ∷ h ∷ []) len null = absurd (omega (arith, len))
nine (a ∷ b ∷ c ∷ d ∷ e ∷ f ∷ g ∷ h ∷ i ∷ []) len null = ap (λ v. a ∷ v ∷ c ∷ d ∷ e ∷ f ∷ g ∷ h ∷ i ∷ []) (null_is b null)
nine (a ∷ b ∷ c ∷ d ∷ e ∷ f ∷ g ∷ h ∷ i ∷ x ∷ more) len null = absurd (omega (arith, len))

three : (r : Row) → length r ≡ 3 → is_null (column r 1) ≡ true → r ≡ column r 0 ∷ Null ∷ column r 2 ∷ []
three [] len null = absurd (omega (arith, len))
three (a ∷ []) len null = absurd (omega (arith, len))
three (a ∷ b ∷ []) len null = absurd (omega (arith, len))
three (a ∷ b ∷ c ∷ []) len null = ap (λ v. a ∷ v ∷ c ∷ []) (null_is b null)
three (a ∷ b ∷ c ∷ d ∷ more) len null = absurd (omega (arith, len))

five : (r : Row) → length r ≡ 5 → is_null (column r 1) ≡ true → r ≡ column r 0 ∷ Null ∷ column r 2 ∷ column r 3 ∷ column r 4 ∷ []
five [] len null = absurd (omega (arith, len))
five (a ∷ []) len null = absurd (omega (arith, len))
five (a ∷ b ∷ []) len null = absurd (omega (arith, len))
five (a ∷ b ∷ c ∷ []) len null = absurd (omega (arith, len))
five (a ∷ b ∷ c ∷ d ∷ []) len null = absurd (omega (arith, len))
five (a ∷ b ∷ c ∷ d ∷ e ∷ []) len null = ap (λ v. a ∷ v ∷ c ∷ d ∷ e ∷ []) (null_is b null)
five (a ∷ b ∷ c ∷ d ∷ e ∷ x ∷ more) len null = absurd (omega (arith, len))

-- ---- a permutation of a list's images

map-swap : {X Y : Type 0} (f : X → Y) (xs : List X) (i j : ℕ) → map f (swap xs i j) ≡ swap (map f xs) i j
map-swap f [] i j = refl
map-swap f (d ∷ ys) i j = map-set f (set (d ∷ ys) i (get_or (d ∷ ys) j d)) j (get_or (d ∷ ys) i d)
    ∙ (λ k. set ((map-set f (d ∷ ys) i (get_or (d ∷ ys) j d) ∙ ap (set (map f (d ∷ ys)) i) (sym (get_or-map f (d ∷ ys) j d))) k) j (sym (get_or-map f (d ∷ ys) i d) k))

map_swaps : {X Y : Type 0} (f : X → Y) (xs : List X) (ps : List (ℕ × ℕ)) → map f (apply_swaps xs ps) ≡ apply_swaps (map f xs) ps
map_swaps f xs [] = refl
map_swaps f xs (p ∷ ps) = map-swap f (apply_swaps xs ps) p.0 p.1 ∙ ap (λ l. swap l p.0 p.1) (map_swaps f xs ps)

-- it is the list of the images of a permutation
pub unmapped : {X Y : Type 0} (f : X → Y) (xs : List X) (ys : List Y) → IsPermutation (map f xs) ys → (zs : List X) × ((ys ≡ map f zs) × IsPermutation xs zs)
unmapped f xs ys h =
    (apply_swaps xs h.moves, (h.is ∙ sym (map_swaps f xs h.moves), record { moves = h.moves; below = subst (λ n. SwapsInRange n h.moves) (length-map xs f) h.below; is = refl }))

-- ---- votes at a position

at_p : ℕ → Entry → ℕ
at_p p e = cond (e.position == p) 1 0

times_fold : (p a : ℕ) (es : List Entry) → fold (λ (n : ℕ) (e : Entry). n + cond (e.position == p) 1 0) a es ≡ a + times p es
times_fold p a [] = omega arith
times_fold p a (e ∷ es) = times_fold p (a + cond (e.position == p) 1 0) es ∙ (omega arith)

pub times_permuted : (p : ℕ) (xs ys : List Entry) → IsPermutation xs ys → times p ys ≡ times p xs
times_permuted p xs ys h =
    let sums = sum_by-IsPermutation (λ (e : Entry). cond (e.position == p) 1 0) xs ys h in
    let a = times_fold p 0 xs in
    let b = times_fold p 0 ys in
    omega (arith, sums)

none_low : (p q : ℕ) (es : List Entry) → p ≤ q → AreAbove q es → times p es ≡ 0
none_low p q [] low h = refl
none_low p q (e ∷ es) low h =
    let above = h.0 in
    let no : (e.position == p) ≡ false = grind (arith, nat_tests) in
    let rest = none_low p e.position es (omega arith) h.1 in
    rw no (omega (arith, rest))

pub once_rising : (p q : ℕ) (es : List Entry) → AreAbove q es → times p es ≤ 1
once_rising p q [] h = omega arith
once_rising p q (e ∷ es) h = by (once_rising p e.position es h.1) (λ low. none_low p e.position es low h.1) (e.position == p) refl
  where
    by : times p es ≤ 1 → (p ≤ e.position → times p es ≡ 0) → (b : Bool) → (e.position == p) ≡ b → cond b 1 0 + times p es ≤ 1
    by rest none true eq = let is = same_number e.position p eq in let gone = none (omega (arith, is)) in omega (arith, gone)
    by rest none false eq = omega (arith, rest)

-- ---- membership

pub above_has : (q : ℕ) (es : List Entry) (x : Entry) → AreAbove q es → Has es x → q < x.position
above_has q [] x h none = absurd none
above_has q (e ∷ es) x h (inl is) = subst (λ (y : Entry). q < y.position) (sym is) h.0
above_has q (e ∷ es) x h (inr k) = let far = above_has e.position es x h.1 k in let near = h.0 in omega arith

-- votes by rising position that have the same elements are the same
pub same_rising : (q : ℕ) (xs ys : List Entry) → AreAbove q xs → AreAbove q ys → ((e : Entry) → Has xs e → Has ys e) → ((e : Entry) → Has ys e → Has xs e) → xs ≡ ys
same_rising q [] [] hx hy to from = refl
same_rising q [] (y ∷ ys) hx hy to from = absurd (from y (inl refl))
same_rising q (x ∷ xs) [] hx hy to from = absurd (to x (inl refl))
same_rising q (x ∷ xs) (y ∷ ys) hx hy to from =
    let heads : x ≡ y = first (to x (inl refl)) (from y (inl refl)) in
    let above : AreAbove x.position ys = subst (λ (e : Entry). AreAbove e.position ys) (sym heads) hy.1 in
    let tails : xs ≡ ys = same_rising x.position xs ys hx.1 above (λ e has. later_to heads e has (to e (inr has))) (λ e has. later_from heads e has (from e (inr has))) in
    ap (λ (e : Entry). e ∷ xs) heads ∙ ap (λ (es : List Entry). y ∷ es) tails
  where
    first : Has (y ∷ ys) x → Has (x ∷ xs) y → x ≡ y
    first (inl is) b = is
    first (inr a) (inl is) = sym is
    first (inr a) (inr b) = absurd (let up = above_has y.position ys x hy.1 a in let down = above_has x.position xs y hx.1 b in omega arith)

    later_to : x ≡ y → (e : Entry) → Has xs e → Has (y ∷ ys) e → Has ys e
    later_to heads e has (inr k) = k
    later_to heads e has (inl is) = absurd (let up = above_has x.position xs e hx.1 has in let at = ap (λ (z : Entry). z.position) is in let same = ap (λ (z : Entry). z.position) heads in omega arith)

    later_from : x ≡ y → (e : Entry) → Has ys e → Has (x ∷ xs) e → Has xs e
    later_from heads e has (inr k) = k
    later_from heads e has (inl is) = absurd (let up = above_has y.position ys e hy.1 has in let at = ap (λ (z : Entry). z.position) is in let same = ap (λ (z : Entry). z.position) heads in omega arith)

-- ---- the rows of a sound database

long : (r : Row) (n : ℕ) → not (is_null (column r n)) ≡ true → n < length r
long [] n h = absurd cc
long (a ∷ r) zero h = omega arith
long (a ∷ r) (suc n) h = let more = long r n h in omega arith

first_null : (c : Column) (cs : List Column) (r : Row) → 2 ≤ length r → are_typed (Some 0) 0 (c ∷ cs) (drop 1 r) ≡ true → is_null (column r 1) ≡ true
first_null c cs [] low h = absurd (omega (arith, low))
first_null c cs (a ∷ []) low h = absurd (omega (arith, low))
first_null c cs (a ∷ b ∷ more) low h = left_of _ _ h

short : (n : ℕ) (r : Row) → length (drop 1 r) ≤ n → length r ≤ n + 1
short n [] h = omega arith
short n (a ∷ r) h = omega (arith, h)

abbrev has : Row → ℕ → Bool
has r k = not (is_null (column r k))

third : (a b c : Bool) → (a && (b && (c && true))) ≡ true → c ≡ true
third a b c h = left_of c true (right_of b (c && true) (right_of a (b && (c && true)) h))

seventh : (a b c d e f g : Bool) → (a && (b && (c && (d && (e && (f && (g && true))))))) ≡ true → g ≡ true
seventh a b c d e f g h = third e f g (right_of d _ (right_of c (d && (e && (f && (g && true)))) (right_of b (c && (d && (e && (f && (g && true))))) (right_of a (b && (c && (d && (e && (f && (g && true)))))) h))))

pub meta_shape : (r : Row) → (are_typed (Some 0) 0 meta_columns (drop 1 r) && true) ≡ true → are_present (Some 0) 0 meta_columns r ≡ true
    → r ≡ column r 0 ∷ Null ∷ column r 2 ∷ column r 3 ∷ column r 4 ∷ column r 5 ∷ column r 6 ∷ column r 7 ∷ column r 8 ∷ []
meta_shape r typed present =
    let fits = left_of _ _ typed in
    let most = short 8 r (few (Some 0) 0 meta_columns (drop 1 r) fits) in
    let last = seventh (has r 2) (has r 3) (has r 4) (has r 5) (has r 6) (has r 7) (has r 8) present in
    let least = long r 8 last in
    nine r (omega (arith, most, least)) (first_null (key_column (codes "id")) (drop 1 meta_columns) r (omega (arith, least)) fits)

pub vote_shape : (r : Row) → (are_typed (Some 0) 0 votes_columns (drop 1 r) && true) ≡ true → are_present (Some 0) 0 votes_columns r ≡ true
    → r ≡ column r 0 ∷ Null ∷ column r 2 ∷ column r 3 ∷ column r 4 ∷ []
vote_shape r typed present =
    let fits = left_of _ _ typed in
    let most = short 4 r (few (Some 0) 0 votes_columns (drop 1 r) fits) in
    let last = third (has r 2) (has r 3) (has r 4) present in
    let least = long r 4 last in
    five r (omega (arith, most, least)) (first_null (key_column (codes "position")) (drop 1 votes_columns) r (omega (arith, least)) fits)

pub learnt_shape : (r : Row) → (are_typed (Some 0) 0 learnt_columns (drop 1 r) && true) ≡ true → are_present (Some 0) 0 learnt_columns r ≡ true → r ≡ column r 0 ∷ Null ∷ column r 2 ∷ []
learnt_shape r typed present =
    let fits = left_of _ _ typed in
    let most = short 2 r (few (Some 0) 0 learnt_columns (drop 1 r) fits) in
    let last = left_of (has r 2) true present in
    let least = long r 2 last in
    three r (omega (arith, most, least)) (first_null (key_column (codes "position")) (drop 1 learnt_columns) r (omega (arith, least)) fits)

-- a vote's row, from what is shown of it
widen : Row → Row
widen x = column x 0 ∷ Null ∷ column x 1 ∷ column x 2 ∷ column x 3 ∷ []

wide : (rs : List Row) → AllByRecursion (λ r. (are_typed (Some 0) 0 votes_columns (drop 1 r) && true) ≡ true) rs → AllByRecursion (λ r. are_present (Some 0) 0 votes_columns r ≡ true) rs
    → map widen (map vote_shown rs) ≡ rs
unfolding widen
wide [] typed present = refl
wide (r ∷ rs) typed present = ap (λ x. x ∷ map widen (map vote_shown rs)) (sym (vote_shape r typed.0 present.0)) ∙ ap (λ xs. r ∷ xs) (wide rs typed.1 present.1)

seen : (n : ℕ) (b : Ballot) (rows : List Row) (es : List Entry) → AreShown n b rows es → map widen rows ≡ map vote_row es
unfolding widen
seen n b [] [] h = refl
seen n b [] (e ∷ es) h = absurd h
seen n b (r ∷ rs) [] h = absurd h
seen n b (r ∷ rs) (e ∷ es) h = let s = h.0 in rw (s.position, s.round, s.leader, s.value) (ap (λ xs. vote_row e ∷ xs) (seen n b rs es h.1))

pub stand : (n : ℕ) (b : Ballot) (rows : List Row) (es : List Entry) (e : Entry) → AreShown n b rows es → Has es e → MayStand n b e
stand n b [] [] e h none = absurd none
stand n b [] (x ∷ es) e h has = absurd h
stand n b (r ∷ rs) [] e h none = absurd none
stand n b (r ∷ rs) (x ∷ es) e h (inl is) = subst (MayStand n b) (sym is) h.0.stands
stand n b (r ∷ rs) (x ∷ es) e h (inr has) = stand n b rs es e h.1 has

single : {X Y : Type 0} (f : X → Y) (xs : List X) (y : Y) → map f xs ≡ y ∷ [] → (x : X) × ((xs ≡ x ∷ []) × (f x ≡ y))
single f [] y h = absurd cc
single f (x ∷ []) y h = (x, (refl, cc))
single f (x ∷ z ∷ more) y h = absurd cc

abbrev AreTyped : List Column → List Row → Type 0
AreTyped columns = AllByRecursion (λ r. (are_typed (Some 0) 0 columns (drop 1 r) && true) ≡ true)

abbrev ArePresent : List Column → List Row → Type 0
ArePresent columns = AllByRecursion (λ r. are_present (Some 0) 0 columns r ≡ true)

-- the rows of the first two tables obey them in each version
obeyed : (v : Version) (trees : Trees) → IsSound (tables_of v) trees → (AreTyped meta_columns (trees 0) × ArePresent meta_columns (trees 0)) × (AreTyped votes_columns (trees 1) × ArePresent votes_columns (trees 1))
obeyed First trees sound =
    let typed = sound.obeys.rules Datatype in
    let present = sound.obeys.rules NotNull in
    ((typed.0, present.0), (typed.1.0, present.1.0))
obeyed Second trees sound =
    let typed = sound.obeys.rules Datatype in
    let present = sound.obeys.rules NotNull in
    ((typed.0, present.0), (typed.1.0, present.1.0))

module _ (version : Version) (o : Setup) (trees : Trees) (sound : IsSound (tables_of version) trees) where
  pub member_row : (row : Row) (number : ℕ) (b : Ballot) → IsPermutation (map meta_shown (trees 0)) (row ∷ []) → ShowsMember number o b row → trees 0 ≡ meta_row number o b.round b.member ∷ []
  member_row row number b moved m =
      let one = one_permutation row (map meta_shown (trees 0)) (IsPermutation-sym _ _ moved) in
      let it = single meta_shown (trees 0) row one in
      let obeys = (obeyed version trees sound).0 in
      let typed = (subst (AreTyped meta_columns) it.1.0 obeys.0).0 in
      let present = (subst (ArePresent meta_columns) it.1.0 obeys.1).0 in
      let s : ShowsMember number o b (meta_shown it.0) = subst (ShowsMember number o b) (sym it.1.1) m in
      it.1.0 ∙ ap (λ (r : Row). r ∷ []) (meta_shape it.0 typed present ∙ rw (s.id, s.number, s.group, s.member, s.members, s.docs, s.round, s.leader) refl)

  pub loaded : (row : Row) (b : Ballot) (rows : List Row) (r : Record) → IsPermutation (map meta_shown (trees 0)) (row ∷ []) → ShowsMember (number_of version) o b row
      → IsPermutation (map vote_shown (trees 1)) rows → AreShown o.members b rows r.votes → r.promise ≡ b → IsRising r → KeepsLearnt version trees r.learnt → IsStored version o trees r
  loaded row b rows r metas m moved shown promise rising kept =
      let obeys = (obeyed version trees sound).1 in
      let from : IsPermutation (map widen (map vote_shown (trees 1))) (map widen rows) = IsPermutation-map widen (map vote_shown (trees 1)) rows moved in
      let same : IsPermutation (trees 1) (map vote_row r.votes) = subst₂ IsPermutation (wide (trees 1) obeys.0 obeys.1) (seen o.members b rows r.votes shown) from in
      let it = unmapped vote_row r.votes (trees 1) (IsPermutation-sym _ _ same) in
      record {
        meta = subst (λ (c : Ballot). trees 0 ≡ meta_row (number_of version) o c.round c.member ∷ []) (sym promise) (member_row row (number_of version) b metas m);
        rows = it.0;
        votes = it.1.0;
        once = λ p. let few = once_rising p 0 r.votes rising in let moves = times_permuted p r.votes it.0 it.1.1 in omega (arith, few, moves);
        sound = λ e has. has_moved it.0 r.votes e (IsPermutation-sym _ _ it.1.1) has;
        complete = λ e has. has_moved r.votes it.0 e it.1.1 has;
        rising = rising;
        promise = subst (IsPromise o.members) (sym promise) m.promise;
        each = λ e has. subst (λ (c : Ballot). MayStand o.members c e) (sym promise) (stand o.members b rows r.votes e shown has);
        kept = kept;
      }

-- ---- values kept as learnt

-- a learnt value's row, from what is shown of it
widen_learnt : Row → Row
widen_learnt x = column x 0 ∷ Null ∷ column x 1 ∷ []

wide_learnt : (rs : List Row) → AreTyped learnt_columns rs → ArePresent learnt_columns rs → map widen_learnt (map learnt_shown rs) ≡ rs
unfolding widen_learnt
wide_learnt [] typed present = refl
wide_learnt (r ∷ rs) typed present = ap (λ x. x ∷ map widen_learnt (map learnt_shown rs)) (sym (learnt_shape r typed.0 present.0)) ∙ ap (λ xs. r ∷ xs) (wide_learnt rs typed.1 present.1)

seen_learnt : (p : ℕ) (rows : List Row) (vs : List Proposed) → AreLearnt p rows vs → map widen_learnt rows ≡ learnt_rows p vs
unfolding widen_learnt
seen_learnt p [] [] h = refl
seen_learnt p [] (v ∷ vs) h = absurd h
seen_learnt p (r ∷ rs) [] h = absurd h
seen_learnt p (r ∷ rs) (v ∷ vs) h = let s = h.0 in rw (s.at, s.spelt) (ap (λ xs. learnt_row p v ∷ xs) (seen_learnt (suc p) rs vs h.1))

spelt_learnt : (p : ℕ) (rows : List Row) (vs : List Proposed) → AreLearnt p rows vs → (v : Proposed) → Has vs v → IsValue v
spelt_learnt p [] [] h v none = absurd none
spelt_learnt p [] (x ∷ vs) h v has = absurd h
spelt_learnt p (r ∷ rs) [] h v none = absurd none
spelt_learnt p (r ∷ rs) (x ∷ vs) h v (inl is) = subst IsValue (sym is) h.0.value
spelt_learnt p (r ∷ rs) (x ∷ vs) h v (inr has) = spelt_learnt (suc p) rs vs h.1 v has

pub kept_loaded : (trees : Trees) → IsSound schema trees → (rows : List Row) (vs : List Proposed) → IsPermutation (map learnt_shown (trees 2)) rows → AreLearnt 1 rows vs → length vs ≤ positions → AreKept (trees 2) vs
kept_loaded trees sound rows vs moved shown most =
    let typed = (sound.obeys.rules Datatype).1.1.0 in
    let present = (sound.obeys.rules NotNull).1.1.0 in
    let from : IsPermutation (map widen_learnt (map learnt_shown (trees 2))) (map widen_learnt rows) = IsPermutation-map widen_learnt (map learnt_shown (trees 2)) rows moved in
    let same : IsPermutation (trees 2) (learnt_rows 1 vs) = subst₂ IsPermutation (wide_learnt (trees 2) typed present) (seen_learnt 1 rows vs shown) from in
    record { rows = IsPermutation-sym _ _ same; few = most; values = spelt_learnt 1 rows vs shown }

-- ---- two records of one database

pub map_has : (es : List Entry) (r : Row) → Has (map vote_row es) r → (e : Entry) × (Has es e × (r ≡ vote_row e))
map_has [] r none = absurd none
map_has (e ∷ es) r (inl is) = (e, (inl refl, is))
map_has (e ∷ es) r (inr h) = let it = map_has es r h in (it.0, (inr it.1.0, it.1.1))

pub has_map : (es : List Entry) (e : Entry) → Has es e → Has (map vote_row es) (vote_row e)
has_map [] e none = absurd none
has_map (x ∷ es) e (inl is) = inl (ap vote_row is)
has_map (x ∷ es) e (inr h) = inr (has_map es e h)

abbrev pub SpeltApart : Type 0
SpeltApart = (a b : Proposed) (x y : List ℕ) → IsValue a → IsValue b → value_spelling a ++ x ≡ value_spelling b ++ y → a ≡ b

made : ℕ → ℕ → ℕ → Proposed → Entry
made p round member v = record { position = p; vote = record { ballot = record { round = round; member = member }; value = v } }

row_tells : (apart : SpeltApart) (e f : Entry) → IsValue e.vote.value → IsValue f.vote.value → vote_row e ≡ vote_row f → e ≡ f
unfolding made
row_tells apart e f good good' h =
    let p : e.position ≡ f.position = cc in
    let n : e.vote.ballot.round ≡ f.vote.ballot.round = cc in
    let m : e.vote.ballot.member ≡ f.vote.ballot.member = cc in
    let s : value_spelling e.vote.value ≡ value_spelling f.vote.value = cc in
    let v : e.vote.value ≡ f.vote.value = apart e.vote.value f.vote.value [] [] good good' (ap (λ bytes. bytes ++ []) s) in
    λ i. made (p i) (n i) (m i) (v i)

ballot_of : ℕ → ℕ → Ballot
ballot_of round member = record { round = round; member = member }

module _ (apart : SpeltApart) (version : Version) (o : Setup) (trees : Trees) where
  shared : (a b : Record) → IsStored version o trees a → IsStored version o trees b → (e : Entry) → Has a.votes e → Has b.votes e
  shared a b x y e has =
      let there = has_map x.rows e (x.complete e has) in
      let it = map_has y.rows (vote_row e) (subst (λ rs. Has rs (vote_row e)) (sym x.votes ∙ y.votes) there) in
      let in_b = y.sound it.0 it.1.0 in
      subst (Has b.votes) (sym (row_tells apart e it.0 (x.each e has).value (y.each it.0 in_b).value it.1.1)) in_b

  pub one_promise : (a b : Record) → IsStored version o trees a → IsStored version o trees b → a.promise ≡ b.promise
  unfolding ballot_of
  one_promise a b x y =
      let rows : meta_row (number_of version) o a.promise.round a.promise.member ∷ [] ≡ meta_row (number_of version) o b.promise.round b.promise.member ∷ [] = sym x.meta ∙ y.meta in
      let n : a.promise.round ≡ b.promise.round = cc in
      let m : a.promise.member ≡ b.promise.member = cc in
      λ i. ballot_of (n i) (m i)

  pub one_vote : (a b : Record) → IsStored version o trees a → IsStored version o trees b → a.votes ≡ b.votes
  one_vote a b x y = same_rising 0 a.votes b.votes x.rising y.rising (shared a b x y) (shared b a y x)
