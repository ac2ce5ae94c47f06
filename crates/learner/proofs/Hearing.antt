-- What a learner knows after one more message.
use Rattle.std.proofs.Common.{◌≡◌, ◌≢◌, ℕ, zero, suc, ◌*◌, ◌≤◌, Bool, true, false, cond, ◌&&◌, ◌||◌, arith, refl, sym, ap, subst, ◌∙◌, ◌⊎◌, inl, inr, ⊎_elim, List, [], ◌∷◌, ◌++◌, map, Option, Some, None, is_some, is_none, option_to_list, eqb}
use Rattle.std.specs.Prelude.{nat_lt, flat_map}
use Rattle.std.proofs.lemmas.List.{map-append}
use Rattle.std.proofs.lemmas.Bool.{eq-eqb, ne_eqb, cases_eq}
use Rattle.ballots.specs.Ballot.{count, is_majority, has_member}
use Rattle.ballots.specs.Values.{same_vote}
use Rattle.ballots.specs.declared.value.Value.{Value}
use Rattle.ballots.specs.declared.value.Vote.{Vote}
use Rattle.ballots.specs.declared.value.Pair.{Pair}
use Rattle.paxos.specs.Lists.{Has}
use Rattle.paxos.specs.Knowledge.{Heard, AcceptedBy, ChosenAre, accepted_by, value_at, completed, first, learnt as learnt_at, newly_at, pair_of}
use Rattle.learner.specs.Terms.{Learner, Tally, learnt_of, open_of}
use Rattle.learner.specs.Hearing.{HasHeard, is_tallied, news_at}
use Rattle.learner.specs.Polls.{mask_with}
use Rattle.learner.specs.Changes.{Change, Counts, HasCounted, HasLearnt, IsAsWas, IsChanged, Learns, Nothing, change_of, not_learnt, positions_in, positions_of, with_member}
use Rattle.learner.proofs.Adding.{joined}
use Rattle.learner.proofs.Opening.{tallied_open}
use Rattle.learner.proofs.Voting.{vote_same}

-- sets that agree on the members have as many of them
count_same : (n : ℕ) (s t : ℕ → Bool) → ((m : ℕ) → 1 ≤ m → m ≤ n → s m ≡ t m) → count n s ≡ count n t
count_same zero s t h = refl
count_same (suc n) s t h = rw (h (suc n) (omega arith) (omega arith), count_same n s t (λ m a b. h m a (omega arith))) refl

-- The mask with the member has a majority just where those that are tallied, and the member, are one.
pub majority_with : (n k p mask : ℕ) (vote : Vote) (l : Learner) → 1 ≤ k → ((m : ℕ) → 1 ≤ m → has_member mask m ≡ is_tallied l.tallies p vote m) → is_majority n (has_member (mask_with mask k)) ≡ is_majority n (with_member l p vote k)
majority_with n k p mask vote l b f = ap (λ (x : ℕ). nat_lt n (2 * x)) (count_same n (has_member (mask_with mask k)) (with_member l p vote k) (λ m c d. joined mask k m b c ∙ ap (λ (x : Bool). eqb k m || x) (f m c ∙ sym (tallied_open p vote m l.tallies))))

-- These have a majority just where those that were heard to have accepted the vote have one.
majority_heard : (k p : ℕ) (vote : Vote) (older : List Heard) (l : Learner) → l.members ≤ 63 → HasHeard older l → learnt_at l.members p older ≡ None → is_majority l.members (with_member l p vote k) ≡ is_majority l.members (accepted_by p vote (AcceptedBy k p vote ∷ older))
majority_heard k p vote older l a h o = ap (λ (x : ℕ). nat_lt l.members (2 * x)) (count_same l.members (with_member l p vote k) (accepted_by p vote (AcceptedBy k p vote ∷ older)) each)
  where
    one : (b : Bool) → b ≡ (b && true)
    one true = refl
    one false = refl

    each : (m : ℕ) → 1 ≤ m → m ≤ l.members → with_member l p vote k m ≡ accepted_by p vote (AcceptedBy k p vote ∷ older) m
    each m c d = rw (eq-eqb p p refl, vote_same vote) (ap (λ (x : Bool). eqb k m || x) (h.tallied p vote m c (omega arith) o)
        ∙ ap (λ (x : Bool). x || accepted_by p vote older m) (one (eqb k m)))

-- tests without a part
never : (b r : Bool) → ((b && false) || r) ≡ r
never true r = refl
never false r = refl

-- there is no first where there is none of the two
none_first : {A : Type 0} (a b : Option A) → first a b ≡ None → a ≡ None
none_first None b e = refl
none_first (Some x) b e = cc

-- nothing later
first_alone : {A : Type 0} (a : Option A) → first a None ≡ a
first_alone None = refl
first_alone (Some x) = refl

-- the same either way
neither : {A : Type 0} (o : A) (b : Bool) → o ≡ cond b o o
neither o true = refl
neither o false = refl

-- what is not some is none, and what is some is not none
not_some : {A : Type 0} (o : Option A) → is_some o ≡ false → o ≡ None
not_some None e = refl
not_some (Some x) e = cc

some_not : {A : Type 0} (o : Option A) → is_some o ≡ true → is_none o ≡ false
some_not None e = cc
some_not (Some x) e = refl

-- without a majority nothing is completed
nothing : (n k p q : ℕ) (vote : Vote) (older : List Heard) → is_majority n (accepted_by p vote (AcceptedBy k p vote ∷ older)) ≡ false → completed n q (AcceptedBy k p vote) (AcceptedBy k p vote ∷ older) ≡ None
nothing n k p q vote older e = by_test (eqb q p) (is_majority n (accepted_by p vote (AcceptedBy k p vote ∷ older))) e
  where
    by_test : (b c : Bool) → c ≡ false → cond (b && c) (Some vote.value) None ≡ None
    by_test true c e = rw e refl
    by_test false c e = refl

-- elsewhere nothing is completed
elsewhere : (n k p q : ℕ) (vote : Vote) (older : List Heard) → (q ≡ p → ⊥) → completed n q (AcceptedBy k p vote) (AcceptedBy k p vote ∷ older) ≡ None
elsewhere n k p q vote older w = rw (ne_eqb q p w) refl

-- an acceptance at another position leaves who accepted a vote
others : (k p q m : ℕ) (vote v : Vote) (older : List Heard) → (q ≡ p → ⊥) → accepted_by q v (AcceptedBy k p vote ∷ older) m ≡ accepted_by q v older m
others k p q m vote v older w = rw (ne_eqb q p w) (never (eqb k m) (accepted_by q v older m))

-- One more acceptance that is counted.
heard_more : (k p : ℕ) (vote : Vote) (older : List Heard) (l new : Learner) → HasHeard older l → learnt_at l.members p older ≡ None → HasCounted k p vote l new → is_majority l.members (accepted_by p vote (AcceptedBy k p vote ∷ older)) ≡ false → HasHeard (AcceptedBy k p vote ∷ older) new
heard_more k p vote older l new h o a e = record {
  learnt = λ q. ap (value_at q) a.learnt ∙ h.learnt q ∙ sym (still q);
  tallied = λ q v m c d g. a.tallies.tallied q v m c ∙ ap (λ (x : Bool). (eqb k m && (eqb q p && same_vote v vote)) || x) (h.tallied q v m c d (sym (still q) ∙ g));
  unlearnt = λ t g. ⊎_elim
      (λ (i : Has (open_of l) t). (still t.position ∙ (h.unlearnt t i).0, (h.unlearnt t i).1))
      (λ (i : (t.position ≡ p) × (t.mask ≢ 0)). (still t.position ∙ subst (λ x. learnt_at l.members x older ≡ None) (sym i.0) o, i.1)) (a.tallies.from t g);
  distinct = a.tallies.distinct;
}
  where
    still : (q : ℕ) → learnt_at new.members q (AcceptedBy k p vote ∷ older) ≡ learnt_at l.members q older
    still q = ap (λ (n : ℕ). learnt_at n q (AcceptedBy k p vote ∷ older)) a.members ∙ rw (nothing l.members k p q vote older e) (first_alone (learnt_at l.members q older))

-- Values that are learnt: what the message newly completes or tells.
heard_learns : (h : Heard) (older : List Heard) (pairs : List Pair) (l new : Learner) → HasHeard older l → HasLearnt pairs l new → ((q : ℕ) → value_at q pairs ≡ cond (is_none (learnt_at l.members q older)) (completed l.members q h (h ∷ older)) None) → ((q : ℕ) (v : Vote) (m : ℕ) → learnt_at l.members q (h ∷ older) ≡ None → accepted_by q v (h ∷ older) m ≡ accepted_by q v older m) → HasHeard (h ∷ older) new
heard_learns h older pairs l new k a tells by = record {
  learnt = λ q. a.learnt q ∙ rw (tells q, k.learnt q) (cases (learnt_at l.members q older) (completed l.members q h (h ∷ older))) ∙ same q;
  tallied = λ q v m c d g. let f = sym (sym (same q)) in let u = same q ∙ g in a.tallies.tallied q v m (no_pair q u) ∙ k.tallied q v m c d (none_first _ _ u) ∙ sym (by q v m u);
  unlearnt = λ t g. let i = a.tallies.from t g in let u = k.unlearnt t i.0 in (sym (same t.position) ∙ still t.position u.0 i.1, u.1);
  distinct = a.tallies.distinct k.distinct;
}
  where
    same : (q : ℕ) → learnt_at l.members q (h ∷ older) ≡ learnt_at new.members q (h ∷ older)
    same q = ap (λ (n : ℕ). learnt_at n q (h ∷ older)) (sym a.members)

    cases : (o c : Option Value) → first (cond (is_none o) c None) o ≡ first o c
    cases None c = first_alone c
    cases (Some x) c = refl

    none : (o c : Option Value) → first o c ≡ None → cond (is_none o) c None ≡ None
    none None c e = e
    none (Some x) c e = refl

    both : (o c : Option Value) → o ≡ None → cond (is_none o) c None ≡ None → first o c ≡ None
    both None c e g = g
    both (Some x) c e g = cc

    no_pair : (q : ℕ) → learnt_at l.members q (h ∷ older) ≡ None → value_at q pairs ≡ None
    no_pair q u = tells q ∙ none (learnt_at l.members q older) (completed l.members q h (h ∷ older)) u

    still : (q : ℕ) → learnt_at l.members q older ≡ None → value_at q pairs ≡ None → learnt_at l.members q (h ∷ older) ≡ None
    still q o e = both (learnt_at l.members q older) (completed l.members q h (h ∷ older)) o (sym (tells q) ∙ e)

-- one more acceptance where the position is learnt already
heard_again : (k p : ℕ) (vote : Vote) (older : List Heard) (l new : Learner) → HasHeard older l → HasLearnt [] l new → is_some (learnt_at l.members p older) ≡ true → HasHeard (AcceptedBy k p vote ∷ older) new
heard_again k p vote older l new h a o = heard_learns (AcceptedBy k p vote) older [] l new h a tells (λ q v m g. others k p q m vote v older (apart q g))
  where
    tells : (q : ℕ) → None ≡ cond (is_none (learnt_at l.members q older)) (completed l.members q (AcceptedBy k p vote) (AcceptedBy k p vote ∷ older)) None
    tells q = ⊎_elim
        (λ (w : q ≡ p). let i : is_none (learnt_at l.members q older) ≡ false = some_not _ (subst (λ x. is_some (learnt_at l.members x older) ≡ true) (sym w) o) in rw i refl)
        (λ (w : q ≡ p → ⊥). rw (elsewhere l.members k p q vote older w) (neither None (is_none (learnt_at l.members q older)))) (cases_eq q p)

    apart : (q : ℕ) → learnt_at l.members q (AcceptedBy k p vote ∷ older) ≡ None → q ≢ p
    apart q g w =
        let i : learnt_at l.members q older ≡ None = none_first _ _ g in
        let j : is_some (learnt_at l.members q older) ≡ true = subst (λ x. is_some (learnt_at l.members x older) ≡ true) (sym w) o in
        let x = ap is_some i in cc

-- one more acceptance that completes a value
heard_chosen : (k p : ℕ) (vote : Vote) (older : List Heard) (l new : Learner) → HasHeard older l → HasLearnt (pair_of p vote.value ∷ []) l new → learnt_at l.members p older ≡ None → is_majority l.members (accepted_by p vote (AcceptedBy k p vote ∷ older)) ≡ true → HasHeard (AcceptedBy k p vote ∷ older) new
heard_chosen k p vote older l new h a o e = heard_learns (AcceptedBy k p vote) older (pair_of p vote.value ∷ []) l new h a tells (λ q v m g. others k p q m vote v older (apart q g))
  where
    here : completed l.members p (AcceptedBy k p vote) (AcceptedBy k p vote ∷ older) ≡ Some vote.value
    here = rw (eq-eqb p p refl, e) refl

    tells : (q : ℕ) → cond (eqb q p) (Some vote.value) None ≡ cond (is_none (learnt_at l.members q older)) (completed l.members q (AcceptedBy k p vote) (AcceptedBy k p vote ∷ older)) None
    tells q = ⊎_elim
        (λ (w : q ≡ p). subst (λ x. cond (eqb x p) (Some vote.value) None ≡ cond (is_none (learnt_at l.members x older)) (completed l.members x (AcceptedBy k p vote) (AcceptedBy k p vote ∷ older)) None) (sym w) (rw (o, eq-eqb p p refl, e) refl))
        (λ (w : q ≡ p → ⊥). rw (ne_eqb q p w) (neither None (is_none (learnt_at l.members q older)))) (cases_eq q p)

    apart : (q : ℕ) → learnt_at l.members q (AcceptedBy k p vote ∷ older) ≡ None → q ≢ p
    apart q g w =
        let i : learnt_at l.members p (AcceptedBy k p vote ∷ older) ≡ Some vote.value = rw (o, eq-eqb p p refl, e) refl in
        let j : learnt_at l.members p (AcceptedBy k p vote ∷ older) ≡ None = subst (λ x. learnt_at l.members x (AcceptedBy k p vote ∷ older) ≡ None) w g in
        cc

-- the pairs that are not learnt have their values, and no others
value_not_learnt : (q : ℕ) (learnt pairs : List Pair) → value_at q (not_learnt learnt pairs) ≡ cond (is_none (value_at q learnt)) (value_at q pairs) None
value_not_learnt q learnt [] = neither None (is_none (value_at q learnt))
value_not_learnt q learnt (e ∷ es) = by_place (cases_eq q e.position) (value_not_learnt q learnt es)
  where
    here : (b : Bool) → value_at e.position (not_learnt learnt es) ≡ cond b (value_at e.position es) None → value_at e.position (cond b (e ∷ not_learnt learnt es) (not_learnt learnt es)) ≡ cond b (Some e.value) None
    here true k = rw (eq-eqb e.position e.position refl) refl
    here false k = k

    there : (q ≡ e.position → ⊥) → (b : Bool) → value_at q (cond b (e ∷ not_learnt learnt es) (not_learnt learnt es)) ≡ value_at q (not_learnt learnt es)
    there w true = rw (ne_eqb q e.position w) refl
    there w false = refl

    by_place : (q ≡ e.position) ⊎ (q ≡ e.position → ⊥) → value_at q (not_learnt learnt es) ≡ cond (is_none (value_at q learnt)) (value_at q es) None → value_at q (not_learnt learnt (e ∷ es)) ≡ cond (is_none (value_at q learnt)) (value_at q (e ∷ es)) None
    by_place (inl w) k = rw (eq-eqb q e.position w) (subst (λ x. value_at x (not_learnt learnt es) ≡ cond (is_none (value_at x learnt)) (value_at x es) None → value_at x (not_learnt learnt (e ∷ es)) ≡ cond (is_none (value_at x learnt)) (Some e.value) None) (sym w) (here (is_none (value_at e.position learnt))) k)
    by_place (inr w) k = rw (ne_eqb q e.position w) (there w (is_none (value_at e.position learnt)) ∙ k)

-- values that were told
heard_told : (pairs : List Pair) (older : List Heard) (l new : Learner) → HasHeard older l → HasLearnt (not_learnt (learnt_of l) pairs) l new → HasHeard (ChosenAre pairs ∷ older) new
heard_told pairs older l new h a = heard_learns (ChosenAre pairs) older (not_learnt (learnt_of l) pairs) l new h a (λ q. value_not_learnt q (learnt_of l) pairs ∙ ap (λ (o : Option Value). cond (is_none o) (value_at q pairs) None) (h.learnt q)) (λ q v m g. refl)

-- where nothing that shows is changed, nothing is learnt
learns_nothing : (l new : Learner) → IsAsWas l new → HasLearnt [] l new
learns_nothing l new a = record {
  members = a.members;
  learnt = λ q. ap (value_at q) a.learnt;
  tallies = rw a.tallies (record { tallied = λ q v m e. refl; from = λ t h. (h, refl); distinct = λ d. d });
}

-- What a learner has heard once the change of a message is made.
pub heard_changed : (h : Heard) (older : List Heard) (l new : Learner) → l.members ≤ 63 → HasHeard older l → IsChanged l (change_of l h) new → HasHeard (h ∷ older) new
heard_changed (ChosenAre pairs) older l new b k a = heard_told pairs older l new k a
heard_changed (AcceptedBy m p vote) older l new b k a = by_test (is_some (value_at p (learnt_of l))) (is_majority l.members (with_member l p vote m)) refl refl a
  where
    by_test : (x y : Bool) → is_some (value_at p (learnt_of l)) ≡ x → is_majority l.members (with_member l p vote m) ≡ y → IsChanged l (cond x Nothing (cond y (Learns (pair_of p vote.value ∷ [])) (Counts m p vote))) new → HasHeard (AcceptedBy m p vote ∷ older) new
    by_test true y e g c = heard_again m p vote older l new k (learns_nothing l new c) (ap is_some (sym (k.learnt p)) ∙ e)
    by_test false true e g c = let o = sym (k.learnt p) ∙ not_some _ e in heard_chosen m p vote older l new k c o (sym (majority_heard m p vote older l b k o) ∙ g)
    by_test false false e g c = let o = sym (k.learnt p) ∙ not_some _ e in heard_more m p vote older l new k o c (sym (majority_heard m p vote older l b k o) ∙ g)

-- what is not learnt before, and not after, is no news
no_news : (n k p : ℕ) (vote : Vote) (older : List Heard) → learnt_at n p older ≡ None → is_majority n (accepted_by p vote (AcceptedBy k p vote ∷ older)) ≡ false → [] ≡ news_at n (AcceptedBy k p vote) older
no_news n k p vote older o e = let s : learnt_at n p (AcceptedBy k p vote ∷ older) ≡ None = rw (o, nothing n k p p vote older e) refl in rw (s, o) refl

-- what is learnt now is news
news : (n k p : ℕ) (vote : Vote) (older : List Heard) → learnt_at n p older ≡ None → is_majority n (accepted_by p vote (AcceptedBy k p vote ∷ older)) ≡ true → p ∷ [] ≡ news_at n (AcceptedBy k p vote) older
news n k p vote older o e = let s : learnt_at n p (AcceptedBy k p vote ∷ older) ≡ Some vote.value = rw (o, eq-eqb p p refl, e) refl in rw (s, o) refl

-- what was learnt before is no news
old_news : (n k p : ℕ) (vote : Vote) (older : List Heard) → is_some (learnt_at n p older) ≡ true → [] ≡ news_at n (AcceptedBy k p vote) older
old_news n k p vote older o = let s : is_none (learnt_at n p older) ≡ false = some_not _ o in rw s refl

-- what is told and was not learnt is news
told_news : (n : ℕ) (older : List Heard) (learnt all : List Pair) → ((q : ℕ) → value_at q learnt ≡ learnt_at n q older) → positions_in (not_learnt learnt all) ≡ news_at n (ChosenAre all) older
told_news n older learnt all h = each all (there all)
  where
    there : (es : List Pair) → (e : Pair) → Has es e → is_some (value_at e.position es) ≡ true
    there [] e g = absurd g
    there (x ∷ es) e (inl w) = rw (eq-eqb e.position x.position (ap (λ (y : Pair). y.position) (sym w))) refl
    there (x ∷ es) e (inr g) = by_test (eqb e.position x.position) (there es e g)
      where
        by_test : (b : Bool) → is_some (value_at e.position es) ≡ true → is_some (cond b (Some x.value) (value_at e.position es)) ≡ true
        by_test true k = refl
        by_test false k = k

    one : (p : ℕ) (o c : Option Value) → is_some c ≡ true → map (λ (y : Pair). y.position) (cond (is_none o) (map (pair_of p) (option_to_list (first o c))) []) ≡ cond (is_none o) (p ∷ []) []
    one p None None k = cc
    one p None (Some x) k = refl
    one p (Some x) c k = refl

    step : (e : Pair) (xs : List Pair) (b : Bool) → positions_in (cond b (e ∷ xs) xs) ≡ cond b (e.position ∷ []) [] ++ positions_in xs
    step e xs true = refl
    step e xs false = refl

    each : (es : List Pair) → ((e : Pair) → Has es e → is_some (value_at e.position all) ≡ true) → positions_in (not_learnt learnt es) ≡ positions_in (flat_map (λ (e : Pair). newly_at n (ChosenAre all) older e.position) es)
    each [] g = refl
    each (e ∷ es) g =
        step e (not_learnt learnt es) (is_none (value_at e.position learnt))
        ∙ ap (λ (o : Option Value). cond (is_none o) (e.position ∷ []) [] ++ positions_in (not_learnt learnt es)) (h e.position)
        ∙ ap (λ (xs : List ℕ). xs ++ positions_in (not_learnt learnt es)) (sym (one e.position (learnt_at n e.position older) (value_at e.position all) (g e (inl refl))))
        ∙ ap (λ (xs : List ℕ). positions_in (newly_at n (ChosenAre all) older e.position) ++ xs) (each es (λ x k. g x (inr k)))
        ∙ sym (map-append (λ (y : Pair). y.position) (newly_at n (ChosenAre all) older e.position) (flat_map (λ (x : Pair). newly_at n (ChosenAre all) older x.position) es))

-- The positions that a message's change learns are its news.
pub news_of_change : (h : Heard) (older : List Heard) (l : Learner) → l.members ≤ 63 → HasHeard older l → positions_of (change_of l h) ≡ news_at l.members h older
news_of_change (ChosenAre pairs) older l b k = told_news l.members older (learnt_of l) pairs k.learnt
news_of_change (AcceptedBy m p vote) older l b k = by_test (is_some (value_at p (learnt_of l))) (is_majority l.members (with_member l p vote m)) refl refl
  where
    by_test : (x y : Bool) → is_some (value_at p (learnt_of l)) ≡ x → is_majority l.members (with_member l p vote m) ≡ y → positions_of (cond x Nothing (cond y (Learns (pair_of p vote.value ∷ [])) (Counts m p vote))) ≡ news_at l.members (AcceptedBy m p vote) older
    by_test true y e g = old_news l.members m p vote older (ap is_some (sym (k.learnt p)) ∙ e)
    by_test false true e g = let o = sym (k.learnt p) ∙ not_some _ e in news l.members m p vote older o (sym (majority_heard m p vote older l b k o) ∙ g)
    by_test false false e g = let o = sym (k.learnt p) ∙ not_some _ e in no_news l.members m p vote older o (sym (majority_heard m p vote older l b k o) ∙ g)

-- What was heard shows in nothing but what shows.
pub heard_as_was : (older : List Heard) (l new : Learner) → IsAsWas l new → HasHeard older l → HasHeard older new
heard_as_was older l new a h = record {
  learnt = λ p. ap (value_at p) a.learnt ∙ h.learnt p ∙ same p;
  tallied = λ p v m c d g. ap (λ (ts : List Tally). is_tallied ts p v m) a.tallies ∙ h.tallied p v m c d (same p ∙ g);
  unlearnt = λ t g. let u = h.unlearnt t (rw a.tallies at g) in (sym (same t.position) ∙ u.0, u.1);
  distinct = rw a.tallies h.distinct;
}
  where
    same : (q : ℕ) → learnt_at l.members q older ≡ learnt_at new.members q older
    same q = ap (λ (n : ℕ). learnt_at n q older) (sym a.members)

-- The change of a message neither.
pub change_as_was : (h : Heard) (l new : Learner) → IsAsWas l new → change_of new h ≡ change_of l h
change_as_was (ChosenAre pairs) l new a = ap (λ (es : List Pair). Learns (not_learnt es pairs)) a.learnt
change_as_was (AcceptedBy m p vote) l new a = ap (λ (n : ℕ). made n (learnt_of new) (open_of new)) a.members ∙ ap (λ (es : List Pair). made l.members es (open_of new)) a.learnt ∙ ap (λ (ts : List Tally). made l.members (learnt_of l) ts) a.tallies
  where
    made : ℕ → List Pair → List Tally → Change
    made n es ts = cond (is_some (value_at p es)) Nothing (cond (is_majority n (λ k. eqb m k || is_tallied ts p vote k)) (Learns (pair_of p vote.value ∷ [])) (Counts m p vote))
