-- What members know from what they heard in the straight run.
use Rattle.std.proofs.Common.{◌≡◌, ℕ, zero, suc, ◌+◌, ◌*◌, ◌<◌, ◌≤◌, arith, Bool, true, false, cond, eqb, leb, ltb, ◌&&◌, refl, sym, subst, ap, ◌∙◌, ⊎_elim, Option, Some, None, List, [], ◌∷◌, ◌++◌, map, is_none, option_to_list, nat_eq}
use Rattle.std.proofs.Math.Path.{ap₂}
use Rattle.std.specs.Cmp.Lexicographic.{pointwise}
use Rattle.std.proofs.lemmas.Bool.{cases_lt, cases_eq, le-leb, lt-leb, lt-ltb, le-ltb, ltb-true, eq-eqb, ne_eqb}
use Rattle.ballots.specs.Ballot.{same_ballot, count, is_majority}
use Rattle.ballots.specs.Messages.{Packet}
use Rattle.ballots.specs.Terms.{Request, same_request}
use Rattle.ballots.specs.Values.{positions, same_vote}
use Rattle.ballots.specs.declared.ballot.Ballot.{Ballot}
use Rattle.ballots.specs.declared.value.Value.{Value}
use Rattle.ballots.specs.declared.value.Value.TheVariants.{Request as Of}
use Rattle.ballots.specs.declared.value.Vote.{Vote}
use Rattle.paxos.specs.Knowledge.{Heard, AcceptedBy, news, accepted_by, first, learnt, newly, prefix, pair_of, windows, joins, cover, report_in, higher, reported}
use Rattle.paxos.specs.Records.{window}
use Rattle.paxos.proofs.Quick.{WindowsUpTo, NewsUpTo}
use Rattle.straight_runs.proofs.Prefixes.{prefix_none, prefix_one}
use Rattle.straight_runs.proofs.Phases.{own, prepare, promises, submission, pair, vote, accept, before, heard_of, enough}

-- a vote is the same as itself
same_ballot_self : (b : Ballot) → same_ballot b b ≡ true
same_ballot_self b = rw (eq-eqb b.round b.round refl, eq-eqb b.member b.member refl) refl

same_text_self : (s : List ℕ) → pointwise nat_eq s s ≡ true
same_text_self [] = refl
same_text_self (x ∷ s) = rw (eq-eqb x x refl) (same_text_self s)

same_request_self : (q : Request) → same_request q q ≡ true
same_request_self q = rw (eq-eqb q.client q.client refl, eq-eqb q.number q.number refl, eq-eqb q.level q.level refl, same_text_self q.text) refl

-- of all members, all are in the set
pub count_all : (n : ℕ) (set : ℕ → Bool) → ((i : ℕ) → 1 ≤ i → i ≤ n → set i ≡ true) → count n set ≡ n
count_all zero set h = refl
count_all (suc n) set h = rw (h (suc n) (omega arith) (omega arith), count_all n set (λ i l k. h i l (omega arith))) (omega arith)

-- sets with the same members
count_same : (n : ℕ) (s t : ℕ → Bool) → ((i : ℕ) → 1 ≤ i → i ≤ n → s i ≡ t i) → count n s ≡ count n t
count_same zero s t h = refl
count_same (suc n) s t h = ap₂ (λ (b : Bool) (c : ℕ). cond b 1 0 + c) (h (suc n) (omega arith) (omega arith)) (count_same n s t (λ i l k. h i l (omega arith)))

-- of n members the first a are in the set
count_first : (n a : ℕ) → a ≤ n → count n (λ i. leb i a) ≡ a
count_first zero a h = omega arith
count_first (suc n) a h = ⊎_elim
    (λ (o : n < a). count_all (suc n) (λ i. leb i a) (λ i l k. le-leb i a (omega arith)) ∙ omega arith)
    (λ (o : a ≤ n). rw (lt-leb (suc n) a (omega arith), count_first n a o) (omega arith))
    (cases_lt n a)

module _ (n m : ℕ) where
  -- Promises are no news
  pub promises_news : (j : ℕ) (older : List Packet) → news (promises n m j ++ older) ≡ news older
  promises_news zero older = refl
  promises_news (suc j) older = promises_news j older

  -- a window of the ballot joins where nothing is covered
  pub window_joins : joins (own n m) 0 (window (own n m) 1 []) ≡ true
  unfolding positions
  window_joins = rw (same_ballot_self (own n m)) refl

  module _ (older : List Packet) (none : windows older ≡ []) where
    -- a member that was not heard covers nothing
    pub cover_unheard : (j i : ℕ) → j < i → cover (own n m) 0 i (windows (promises n m j ++ older)) ≡ 0
    cover_unheard zero i h = rw none refl
    cover_unheard (suc j) i h = rw (ne_eqb (suc j) i (λ e. omega arith)) (cover_unheard j i (omega arith))

    -- one that was heard covers all
    pub cover_heard_all : (j i : ℕ) → 1 ≤ i → i ≤ j → cover (own n m) 0 i (windows (promises n m j ++ older)) ≡ positions
    cover_heard_all zero i l h = absurd (omega arith)
    cover_heard_all (suc j) i l h = ⊎_elim
        (λ (e : suc j ≡ i). rw (eq-eqb (suc j) i e, cover_unheard j i (omega arith), window_joins) refl)
        (λ (d : suc j ≡ i → ⊥). rw (ne_eqb (suc j) i d) (cover_heard_all j i l (omega (arith, d))))
        (cases_eq (suc j) i)

    -- nothing is reported
    pub none_reported : (j p : ℕ) → reported (own n m) 0 p (windows (promises n m j ++ older)) ≡ None
    none_reported zero p = rw none refl
    none_reported (suc j) p = one (joins (own n m) (cover (own n m) 0 (suc j) (windows (promises n m j ++ older))) (window (own n m) 1 [])) (report_in p (window (own n m) 1 [])) (no_vote (leb 1 p && leb p positions)) (none_reported j p)
      where
        no_vote : (b : Bool) → cond {A = Option Vote} b None None ≡ None
        no_vote true = refl
        no_vote false = refl

        one : (b : Bool) (o : Option Vote) → o ≡ None → reported (own n m) 0 p (windows (promises n m j ++ older)) ≡ None
            → cond b (higher (reported (own n m) 0 p (windows (promises n m j ++ older))) o) (reported (own n m) 0 p (windows (promises n m j ++ older))) ≡ None
        one true o e f = rw (e, f) refl
        one false o e f = f

    -- the windows have no votes
    pub windows_end : (k j : ℕ) → WindowsUpTo k (windows (promises n m j ++ older))
    windows_end k zero = rw none tt
    windows_end k (suc j) = (tt, windows_end k j)

  module _ (q : Request) where
    -- the vote is the same as itself
    same_vote_self : same_vote (vote n m q) (vote n m q) ≡ true
    same_vote_self = rw (same_ballot_self (own n m), same_request_self q) refl

    -- what the Accepted of members 1 to a tell
    abbrev pub heards : (a : ℕ) → List Heard
    heards zero = []
    heards (suc a) = AcceptedBy (suc a) 1 (vote n m q) ∷ heards a

    -- before the Accept there is no news
    pub before_news : (i : ℕ) → news (before n m q i) ≡ []
    before_news i = one (eqb i m)
      where
        one : (b : Bool) → news (cond b (submission n m q ∷ promises n m n ++ prepare n m m ∷ []) (prepare n m i ∷ [])) ≡ []
        one true = promises_news n (prepare n m m ∷ [])
        one false = refl

    -- nor is the Accept
    pub heards_news : (a i : ℕ) → news (heard_of n m q a i ++ accept n m q i ∷ before n m q i) ≡ heards a
    heards_news zero i = before_news i
    heards_news (suc a) i = ap (λ (hs : List Heard). AcceptedBy (suc a) 1 (vote n m q) ∷ hs) (heards_news a i)

    -- the members 1 to a were heard to have accepted
    accepted_first : (a i : ℕ) → 1 ≤ i → accepted_by 1 (vote n m q) (heards a) i ≡ leb i a
    accepted_first zero i l = sym (lt-leb i 0 l)
    accepted_first (suc a) i l = ⊎_elim
        (λ (e : suc a ≡ i). rw (eq-eqb (suc a) i e, same_vote_self, le-leb i (suc a) (omega arith)) refl)
        (λ (d : suc a ≡ i → ⊥). rw (ne_eqb (suc a) i d, accepted_first a i l) (⊎_elim
        (λ (o : a < i). rw (lt-leb i a o, lt-leb i (suc a) (omega (arith, d))) refl)
        (λ (o : i ≤ a). rw (le-leb i a o, le-leb i (suc a) (omega arith)) refl)
        (cases_lt a i)))
        (cases_eq (suc a) i)

    -- whether they are a majority
    majority_first : (a : ℕ) → a ≤ n → is_majority n (accepted_by 1 (vote n m q) (heards a)) ≡ enough n m q a
    majority_first a h = ap (λ (c : ℕ). ltb n (2 * c)) (count_same n (accepted_by 1 (vote n m q) (heards a)) (λ i. leb i a) (λ i l k. accepted_first a i l) ∙ count_first n a h)

    -- more are a majority too
    pub enough_more : (a : ℕ) → enough n m q a ≡ true → enough n m q (suc a) ≡ true
    enough_more a h = let l = ltb-true n (2 * a) h in lt-ltb n (2 * suc a) (omega arith)

    -- then the request is learnt at 1
    pub learnt_first : (a : ℕ) → a ≤ n → learnt n 1 (heards a) ≡ cond (enough n m q a) (Some (Of q)) None
    learnt_first zero h = rw (le-ltb n (2 * 0) (omega arith)) refl
    learnt_first (suc a) h = ap₂ (λ (x y : Option Value). first x y) (learnt_first a (omega arith)) (ap (λ (b : Bool). cond b (Some (Of q)) None) (majority_first (suc a) h))
        ∙ one (enough n m q a) (enough n m q (suc a)) (enough_more a)
      where
        one : (b c : Bool) → (b ≡ true → c ≡ true) → first (cond b (Some (Of q)) None) (cond c (Some (Of q)) None) ≡ cond {A = Option Value} c (Some (Of q)) None
        one true c g = rw (g refl) refl
        one false c g = refl

    -- and nothing at 2
    pub learnt_second : (a : ℕ) → learnt n 2 (heards a) ≡ None
    learnt_second zero = refl
    learnt_second (suc a) = rw (learnt_second a) refl

    -- it is told once
    pub newly_first : (a : ℕ) → suc a ≤ n → newly n (AcceptedBy (suc a) 1 (vote n m q)) (heards a) ≡ cond (enough n m q a) [] (cond (enough n m q (suc a)) (pair n m q ∷ []) [])
    newly_first a h = ap₂ (λ (x y : Option Value). cond (is_none x) (map (pair_of 1) (option_to_list y)) []) (learnt_first a (omega arith)) (learnt_first (suc a) h)
        ∙ one (enough n m q a) (enough n m q (suc a))
      where
        one : (b c : Bool) → cond (is_none (cond {A = Option Value} b (Some (Of q)) None)) (map (pair_of 1) (option_to_list (cond c (Some (Of q)) None))) [] ≡ cond b [] (cond c (pair n m q ∷ []) [])
        one true c = refl
        one false true = refl
        one false false = refl

    -- and the prefix is 1
    pub prefix_first : (a : ℕ) → a ≤ n → prefix n (heards a) ≡ cond (enough n m q a) 1 0
    prefix_first a h = one (enough n m q a) (learnt_first a h)
      where
        one : (b : Bool) → learnt n 1 (heards a) ≡ cond b (Some (Of q)) None → prefix n (heards a) ≡ cond b 1 0
        one true e = prefix_one n (heards a) (Of q) e (learnt_second a)
        one false e = prefix_none n (heards a) e

    -- nothing is known above 1
    pub news_end : (a : ℕ) → NewsUpTo 1 (heards a)
    news_end zero = tt
    news_end (suc a) = (omega arith, news_end a)

    -- what the Accepted promise is nothing
    windows_of_accepted : (a i : ℕ) (older : List Packet) → windows (heard_of n m q a i ++ older) ≡ windows older
    windows_of_accepted zero i older = refl
    windows_of_accepted (suc a) i older = windows_of_accepted a i older

    -- the windows in all that member i heard have no votes
    pub all_windows_end : (a i : ℕ) → WindowsUpTo 1 (windows (heard_of n m q a i ++ accept n m q i ∷ before n m q i))
    all_windows_end a i = subst (WindowsUpTo 1) (sym (windows_of_accepted a i (accept n m q i ∷ before n m q i))) (one (eqb i m))
      where
        one : (b : Bool) → WindowsUpTo 1 (windows (cond b (submission n m q ∷ promises n m n ++ prepare n m m ∷ []) (prepare n m i ∷ [])))
        one true = windows_end (prepare n m m ∷ []) refl 1 n
        one false = tt

    -- so nothing is reported
    pub all_unreported : (a i p : ℕ) → reported (own n m) 0 p (windows (heard_of n m q a i ++ accept n m q i ∷ before n m q i)) ≡ None
    all_unreported a i p = ap (reported (own n m) 0 p) (windows_of_accepted a i (accept n m q i ∷ before n m q i)) ∙ one (eqb i m)
      where
        one : (b : Bool) → reported (own n m) 0 p (windows (cond b (submission n m q ∷ promises n m n ++ prepare n m m ∷ []) (prepare n m i ∷ []))) ≡ None
        one true = none_reported (prepare n m m ∷ []) refl n p
        one false = refl
