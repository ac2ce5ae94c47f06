-- Tallies by position.
use Rattle.std.proofs.Common.{◌≡◌, ℕ, ◌≤◌, Bool, true, false, cond, ◌||◌, arith, refl, sym, ◌∙◌, List, [], ◌∷◌, map, Option, Some, None, is_some, ltb, eqb, ltb-true, eqb-true, nat_cmp, is_eq, Ordering, Less, Equal, Greater}
use Rattle.std.proofs.lemmas.Bool.{false≢true, eqb-false, eq-eqb, ne_eqb}
use Rattle.std.proofs.lemmas.List.Folds.{list_any-append}
use Rattle.std.specs.List.{list_any}
use Rattle.std.specs.Map.{lookup}
use Rattle.std.specs.BTreeMap.{is_at}
use Rattle.ballots.specs.declared.value.Vote.{Vote}
use Rattle.learner.specs.declared.poll.Voters.{Voters}
use Rattle.learner.specs.Terms.{Tally}
use Rattle.learner.specs.Hearing.{is_tallied, is_tallied_in}
use Rattle.learner.specs.Slots.{Rise}
use Rattle.learner.specs.Polls.{is_voter, Polls, poll_at, tally_of, tallies_of}

-- what a look-up finds
abbrev pub found : Option (List Voters) → List Voters
found None = []
found (Some xs) = xs

-- how two numbers compare, by the tests
abbrev pub cmp_by : (less equal : Bool) → Ordering
cmp_by a b = cond a Less (cond b Equal Greater)

-- a look-up finds the votes at its position
pub poll_found : (p : ℕ) (es : Polls) → found (lookup (is_at (nat_cmp p)) es) ≡ poll_at p es
poll_found p [] = refl
poll_found p (e ∷ es) = by_test (poll_found p es) (ltb p e.0) (eqb p e.0) refl refl
  where
    by_test : found (lookup (is_at (nat_cmp p)) es) ≡ poll_at p es → (a b : Bool) → ltb p e.0 ≡ a → eqb p e.0 ≡ b → found (cond (is_eq (cmp_by a b)) (Some e.1) (lookup (is_at (nat_cmp p)) es)) ≡ cond b e.1 (poll_at p es)
    by_test rest true true g h = let l = ltb-true p e.0 g in let k = eqb-true p e.0 h in absurd (omega arith)
    by_test rest true false g h = rest
    by_test rest false true g h = refl
    by_test rest false false g h = rest

-- no vote stands below the first position
pub none_below : (p q : ℕ) (es : Polls) → p ≤ q → Rise q es → poll_at p es ≡ []
none_below p q [] l h = refl
none_below p q (e ∷ es) l h = let a = h.0 in rw (ne_eqb p e.0 (λ k. omega arith)) (none_below p e.0 es (omega arith) h.1)

-- what a test says of a position's votes
any_mapped : (q : ℕ) (g : Tally → Bool) (h : Voters → Bool) (xs : List Voters) → ((x : Voters) → g (tally_of q x) ≡ h x) → list_any g (map (tally_of q) xs) ≡ list_any h xs
any_mapped q g h [] e = refl
any_mapped q g h (x ∷ xs) e = rw (e x, any_mapped q g h xs e) refl

-- a test that no tally passes
any_never : (q : ℕ) (g : Tally → Bool) (xs : List Voters) → ((x : Voters) → g (tally_of q x) ≡ false) → list_any g (map (tally_of q) xs) ≡ false
any_never q g [] e = refl
any_never q g (x ∷ xs) e = rw (e x, any_never q g xs e) refl

-- What a test of one position says of all tallies is what it says of the votes there.
pub any_tally : (q p : ℕ) (g : Tally → Bool) (h : Voters → Bool) (es : Polls) → Rise p es → ((x : Voters) → g (tally_of q x) ≡ h x) → ((r : ℕ) (x : Voters) → (q ≡ r → ⊥) → g (tally_of r x) ≡ false) → list_any g (tallies_of es) ≡ list_any h (poll_at q es)
any_tally q p g h [] s e n = refl
any_tally q p g h (d ∷ ds) s e n = list_any-append g (map (tally_of d.0) d.1) (tallies_of ds) ∙ by_test (any_tally q d.0 g h ds s.1 e n) (eqb q d.0) refl
  where
    or_false : (b : Bool) → (b || false) ≡ b
    or_false true = refl
    or_false false = refl

    here : list_any g (tallies_of ds) ≡ list_any h (poll_at q ds) → q ≡ d.0 → (list_any g (map (tally_of d.0) d.1) || list_any g (tallies_of ds)) ≡ list_any h d.1
    here rest k =
        let none : poll_at q ds ≡ [] = none_below q d.0 ds (omega arith) s.1 in
        rw (rest, none, ← k, any_mapped q g h d.1 e) (or_false (list_any h d.1))

    by_test : list_any g (tallies_of ds) ≡ list_any h (poll_at q ds) → (b : Bool) → eqb q d.0 ≡ b → (list_any g (map (tally_of d.0) d.1) || list_any g (tallies_of ds)) ≡ list_any h (cond b d.1 (poll_at q ds))
    by_test rest true k = here rest (eqb-true q d.0 k)
    by_test rest false k = rw (any_never d.0 g d.1 (λ x. n d.0 x (eqb-false q d.0 k))) rest

-- a tally is of a position's own votes
tallied_here : (q : ℕ) (vote : Vote) (m : ℕ) (x : Voters) → is_tallied_in q vote m (tally_of q x) ≡ is_voter vote m x
tallied_here q vote m x = rw (eq-eqb q q refl) refl

-- and not of another's
tallied_there : (q : ℕ) (vote : Vote) (m r : ℕ) (x : Voters) → (q ≡ r → ⊥) → is_tallied_in q vote m (tally_of r x) ≡ false
tallied_there q vote m r x n = rw (ne_eqb q r n) refl

-- who is tallied
pub tallied_poll : (q p : ℕ) (vote : Vote) (m : ℕ) (es : Polls) → Rise p es → is_tallied (tallies_of es) q vote m ≡ list_any (is_voter vote m) (poll_at q es)
tallied_poll q p vote m es s = any_tally q p (is_tallied_in q vote m) (is_voter vote m) es s (tallied_here q vote m) (λ r x n. tallied_there q vote m r x n)

-- what is not some is none
pub nothing_there : {A : Type 0} (o : Option A) → is_some o ≡ false → o ≡ None
nothing_there None h = refl
nothing_there (Some x) h = absurd (false≢true (sym h))
