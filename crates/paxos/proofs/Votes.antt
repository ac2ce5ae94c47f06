-- Votes by rising position, and windows of them.
use Rattle.std.proofs.Common.{◌≡◌, ℕ, zero, suc, ◌<◌, ◌≤◌, Bool, true, false, cond, arith, refl, sym, ap, ◌∙◌, Some, None, List, [], ◌∷◌, take, eqb-true, ltb-true, ltb-false, eqb, ltb}
use Rattle.std.proofs.lemmas.Bool.{eqb-false, eq-eqb, ne_eqb}
use Rattle.ballots.specs.declared.value.Vote.{Vote}
use Rattle.ballots.specs.declared.value.Entry.{Entry}
use Rattle.paxos.specs.Records.{vote_at, with_vote, since, covered_by}

-- positions by rising number
abbrev pub Above : ℕ → List Entry → Type 0
Above p [] = Unit {0}
Above p (e ∷ es) = (p < e.position) × Above e.position es

-- votes by rising position
abbrev pub Rising : List Entry → Type 0
Rising [] = Unit {0}
Rising (e ∷ es) = Above e.position es

-- the vote that was recorded
pub vote_same : (p : ℕ) (v : Vote) (es : List Entry) → vote_at p (with_vote p v es) ≡ Some v
vote_same p v [] = rw (eq-eqb p p refl)
vote_same p v (e ∷ es) = by_test (vote_same p v es) (ltb p e.position) (eqb p e.position) refl
  where
    by_test : vote_at p (with_vote p v es) ≡ Some v → (a b : Bool) → eqb p e.position ≡ b → vote_at p (cond a (record { position = p; vote = v } ∷ e ∷ es) (cond b (record { position = p; vote = v } ∷ es) (e ∷ with_vote p v es))) ≡ Some v
    by_test rest true b h = rw (eq-eqb p p refl)
    by_test rest false true h = rw (eq-eqb p p refl)
    by_test rest false false h = rw h rest

-- another position stays
pub vote_other : (p q : ℕ) (v : Vote) (es : List Entry) → (q ≡ p → ⊥) → vote_at q (with_vote p v es) ≡ vote_at q es
vote_other p q v [] d = rw (ne_eqb q p d)
vote_other p q v (e ∷ es) d = by_test (vote_other p q v es d) (ltb p e.position) (eqb p e.position) refl
  where
    by_test : vote_at q (with_vote p v es) ≡ vote_at q es → (a b : Bool) → eqb p e.position ≡ b → vote_at q (cond a (record { position = p; vote = v } ∷ e ∷ es) (cond b (record { position = p; vote = v } ∷ es) (e ∷ with_vote p v es))) ≡ cond (eqb q e.position) (Some e.vote) (vote_at q es)
    by_test rest true b h = rw (ne_eqb q p d)
    by_test rest false true h = rw (← eqb-true p e.position h) (rw (ne_eqb q p d))
    by_test rest false false h = ap (cond (eqb q e.position) (Some e.vote)) rest

-- a vote recorded above stays above
above_with : (q p : ℕ) (v : Vote) (es : List Entry) → q < p → Above q es → Above q (with_vote p v es)
above_with q p v [] l h = (l, tt)
above_with q p v (e ∷ es) l h = by_test (λ k. above_with e.position p v es k h.1) (ltb p e.position) (eqb p e.position) refl refl
  where
    by_test : (e.position < p → Above e.position (with_vote p v es)) → (a b : Bool) → ltb p e.position ≡ a → eqb p e.position ≡ b → Above q (cond a (record { position = p; vote = v } ∷ e ∷ es) (cond b (record { position = p; vote = v } ∷ es) (e ∷ with_vote p v es)))
    by_test rest true b g k = (l, (ltb-true p e.position g, h.1))
    by_test rest false true g k = (l, rw (eqb-true p e.position k) h.1)
    by_test rest false false g k = (h.0, rest (omega (arith, ltb-false p e.position g, eqb-false p e.position k)))

-- recording keeps the order
pub rising_with : (p : ℕ) (v : Vote) (es : List Entry) → Rising es → Rising (with_vote p v es)
rising_with p v [] h = tt
rising_with p v (e ∷ es) h = by_test (ltb p e.position) (eqb p e.position) refl refl
  where
    by_test : (a b : Bool) → ltb p e.position ≡ a → eqb p e.position ≡ b → Rising (cond a (record { position = p; vote = v } ∷ e ∷ es) (cond b (record { position = p; vote = v } ∷ es) (e ∷ with_vote p v es)))
    by_test true b g k = (ltb-true p e.position g, h)
    by_test false true g k = rw (eqb-true p e.position k) h
    by_test false false g k = above_with e.position p v es (omega (arith, ltb-false p e.position g, eqb-false p e.position k)) h

-- the rest rises too
rising_tail : (q : ℕ) (es : List Entry) → Above q es → Rising es
rising_tail q [] h = tt
rising_tail q (e ∷ es) h = h.1

-- nothing stands below the first
none_below : (p q : ℕ) (es : List Entry) → p ≤ q → Above q es → vote_at p es ≡ None
none_below p q [] l h = refl
none_below p q (e ∷ es) l h = let a = h.0 in rw (ne_eqb p e.position (λ k. omega arith)) (none_below p e.position es (omega arith) h.1)

-- from a position on, each position has its vote
vote_since : (p from : ℕ) (es : List Entry) → from ≤ p → vote_at p (since from es) ≡ vote_at p es
vote_since p from [] l = refl
vote_since p from (e ∷ es) l = by_test (vote_since p from es l) (ltb e.position from) refl
  where
    by_test : vote_at p (since from es) ≡ vote_at p es → (a : Bool) → ltb e.position from ≡ a → vote_at p (cond a (since from es) (e ∷ es)) ≡ vote_at p (e ∷ es)
    by_test rest true h = let k = ltb-true e.position from h in rw (ne_eqb p e.position (λ q. omega arith)) rest
    by_test rest false h = refl

-- those from a position on rise
rising_since : (from : ℕ) (es : List Entry) → Rising es → Rising (since from es)
rising_since from [] h = tt
rising_since from (e ∷ es) h = by_test (rising_since from es (rising_tail e.position es h)) (ltb e.position from)
  where
    by_test : Rising (since from es) → (a : Bool) → Rising (cond a (since from es) (e ∷ es))
    by_test rest true = rest
    by_test rest false = h

-- the first of them tell each position that they cover
vote_take : (k p : ℕ) (es : List Entry) → Rising es → p ≤ covered_by (suc k) es → vote_at p (take (suc k) es) ≡ vote_at p es
vote_take zero p [] h l = refl
vote_take (suc k) p [] h l = refl
vote_take zero p (e ∷ []) h l = refl
vote_take zero p (e ∷ f ∷ es) h l = ap (cond (eqb p e.position) (Some e.vote)) (sym (none_below p e.position (f ∷ es) l h))
vote_take (suc k) p (e ∷ es) h l = ap (cond (eqb p e.position) (Some e.vote)) (vote_take k p es (rising_tail e.position es h) l)

-- A window says of each position inside it what the record says.
pub window_says : (p from : ℕ) (es : List Entry) → Rising es → from ≤ p → p ≤ covered_by 8 (since from es) → vote_at p (take 8 (since from es)) ≡ vote_at p es
window_says p from es h l k = vote_take 7 p (since from es) (rising_since from es h) k ∙ vote_since p from es l
