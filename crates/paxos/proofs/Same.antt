-- A leader that knows the same by other means proposes the same: what code that keeps tallies has to show.
use Rattle.std.proofs.Common.{◌≡◌, ℕ, zero, suc, ◌+◌, ◌-◌, ◌*◌, ◌<◌, ◌≤◌, Bool, true, false, cond, arith, refl, ◌⊎◌, inl, inr, sym, subst, ap, ap₂, ◌∙◌, Option, Some, None, IsSome, ⊎_elim, length, ◌&&◌, ◌||◌, is_none, is_some, nat_lt, nat_le, ltb-true}
use Rattle.std.proofs.lemmas.Bool.{cases_lt, lt-ltb}
use Rattle.ballots.specs.Ballot.{count}
use Rattle.ballots.specs.Values.{positions}
use Rattle.ballots.specs.declared.value.Value.TheVariants.{NoOp}
use Rattle.ballots.specs.declared.value.Vote.{Vote}
use Rattle.paxos.specs.Proposing.{Turn, passes, proposes, has_place, lies_after, lies_above, proposal, turn, turns, has_free_place}
use Rattle.paxos.proofs.Stopping.{turn_by, turn_next}

-- sets that agree on the members 1 to n count the same
pub count_agrees : (n : ℕ) (s t : ℕ → Bool) → ((m : ℕ) → 0 < m → m ≤ n → s m ≡ t m) → count n s ≡ count n t
count_agrees zero s t h = refl
count_agrees (suc n) s t h = ap₂ (λ (b : Bool) (c : ℕ). cond b 1 0 + c) (h (suc n) (omega arith) (omega arith)) (count_agrees n s t (λ m l g. h m l (omega arith)))

-- a known position above is found
lies_found : (report : ℕ → Option Vote) (learnt : ℕ → Bool) (p k q : ℕ) → p < q → q ≤ p + k → IsSome (report q) ⊎ (learnt q ≡ true) → lies_after report learnt p k ≡ true
lies_found report learnt p zero q l g h = absurd (omega arith)
lies_found report learnt p (suc k) q l g h = one (λ a. lies_found report learnt p k q l a h) (cases_lt q (p + suc k))
  where
    second : (a b : Bool) → b ≡ true → (a || b) ≡ true
    second true b e = refl
    second false b e = e

    first : (a b : Bool) → a ≡ true → (a || b) ≡ true
    first a b e = rw e refl

    same : p + suc k ≤ q → q ≡ p + suc k
    same a = omega arith

    one : (q ≤ p + k → lies_after report learnt p k ≡ true) → (q < p + suc k) ⊎ (p + suc k ≤ q) → lies_after report learnt p (suc k) ≡ true
    one rest (inl a) = second (learnt (p + suc k)) _ (second (is_some (report (p + suc k))) _ (rest (omega arith)))
    one rest (inr a) = ⊎_elim
        (λ (e : IsSome (report q)). second (learnt (p + suc k)) _ (first (is_some (report (p + suc k))) _ (subst (λ x. is_some (report x) ≡ true) (same a) e)))
        (λ (e : learnt q ≡ true). first (learnt (p + suc k)) _ (subst (λ x. learnt x ≡ true) (same a) e)) h

-- where nothing above is known, nothing is found
pub lies_nothing : (report : ℕ → Option Vote) (learnt : ℕ → Bool) (p : ℕ) → ((q : ℕ) → p < q → (report q ≡ None) × (learnt q ≡ false)) → (k : ℕ) → lies_after report learnt p k ≡ false
lies_nothing report learnt p h zero = refl
lies_nothing report learnt p h (suc k) = let u = h (p + suc k) (omega arith) in rw (u.1, u.0) (lies_nothing report learnt p h k)

-- Something lies above a position exactly where the last known position does.
pub lies_below_last : (report : ℕ → Option Vote) (learnt : ℕ → Bool) (last : ℕ) → ((q : ℕ) → last < q → (report q ≡ None) × (learnt q ≡ false)) → (0 < last → IsSome (report last) ⊎ (learnt last ≡ true)) → last ≤ positions
    → (p : ℕ) → lies_above report learnt p ≡ nat_lt p last
unfolding lies_above
lies_below_last report learnt last none some most p = ⊎_elim
    (λ (l : p < last). lies_found report learnt p (positions - p) last l (omega arith) (some (omega arith)) ∙ sym (lt-ltb p last l))
    (λ (l : last ≤ p). lies_nothing report learnt p (λ q a. none q (omega arith)) (positions - p) ∙ sym (not_below l (nat_lt p last) refl))
    (cases_lt p last)
  where
    not_below : last ≤ p → (b : Bool) → nat_lt p last ≡ b → nat_lt p last ≡ false
    not_below l true e = let g = ltb-true p last e in absurd (omega arith)
    not_below l false e = e

-- of what two leaders know, the cover of the members and all above a position are the same
pub record SameAbove (n low : ℕ) (cover cover' : ℕ → ℕ) (report report' : ℕ → Option Vote) (learnt learnt' : ℕ → Bool) : Type 0 where
  pub covers : (m : ℕ) → 0 < m → m ≤ n → cover m ≡ cover' m
  pub reports : (p : ℕ) → low < p → report p ≡ report' p
  pub learns : (p : ℕ) → low < p → learnt p ≡ learnt' p

module _ (n low : ℕ) (cover cover' : ℕ → ℕ) (report report' : ℕ → Option Vote) (learnt learnt' : ℕ → Bool) (s : SameAbove n low cover cover' report report' learnt learnt') where
  -- there is place for both
  same_place : (t : Turn) → has_place n cover t ≡ has_place n cover' t
  same_place t = ap (λ (c : ℕ). nat_lt (length t.proposals) 16 && (nat_le t.next positions && nat_lt n (2 * c)))
      (count_agrees n (λ m. nat_le t.next (cover m)) (λ m. nat_le t.next (cover' m)) (λ m l g. ap (nat_le t.next) (s.covers m l g)))

  -- the same lies above for both
  same_after : (p k : ℕ) → low ≤ p → lies_after report learnt p k ≡ lies_after report' learnt' p k
  same_after p zero l = refl
  same_after p (suc k) l = λ i. s.learns (p + suc k) (omega arith) i || (is_some (s.reports (p + suc k) (omega arith) i) || same_after p k l i)

  -- both propose the same
  same_proposal : (t : Turn) → low < t.next → (o : Option Vote) → proposal report learnt t o ≡ proposal report' learnt' t o
  unfolding lies_above
  same_proposal t l (Some vote) = refl
  same_proposal t l None = ap (λ (b : Bool). cond b (Some (proposes NoOp t)) None) (same_after t.next (positions - t.next) (omega arith))

  -- a turn of both is the same
  pub turn_same : (t : Turn) → low < t.next → turn n cover report learnt t ≡ turn n cover' report' learnt' t
  turn_same t l = λ i. cond (same_place t i) (cond (s.learns t.next l i) (Some (passes t)) ((same_proposal t l (report t.next) ∙ ap (proposal report' learnt' t) (s.reports t.next l)) i)) None

  -- the next position rises
  next_above : (t u : Turn) → low < t.next → turn n cover report learnt t ≡ Some u → low < u.next
  next_above t u l e = let x = turn_next n cover report learnt t u (turn n cover report learnt t) (turn_by n cover report learnt t) e in omega arith

  -- All turns of both are the same.
  pub turns_same : (k : ℕ) (t : Turn) → low < t.next → turns n cover report learnt k t ≡ turns n cover' report' learnt' k t
  turns_same zero t l = refl
  turns_same (suc k) t l = one (λ u g. turns_same k u g) (turn n cover report learnt t) (λ u e. next_above t u l e)
      ∙ ap (λ (o : Option Turn). elim o as (λ x. Turn) [ None ↦ t | Some u ↦ turns n cover' report' learnt' k u ]) (turn_same t l)
    where
      one : ((u : Turn) → low < u.next → turns n cover report learnt k u ≡ turns n cover' report' learnt' k u) → (o : Option Turn) → ((u : Turn) → o ≡ Some u → low < u.next)
          → (elim o as (λ x. Turn) [ None ↦ t | Some u ↦ turns n cover report learnt k u ]) ≡ (elim o as (λ x. Turn) [ None ↦ t | Some u ↦ turns n cover' report' learnt' k u ])
      one rest None h = refl
      one rest (Some u) h = rest u (h u refl)

  -- there is a free place for both
  pub free_place_same : (t : Turn) → low < t.next → has_free_place n cover report learnt t ≡ has_free_place n cover' report' learnt' t
  free_place_same t l = λ i. same_place t i && is_none (turn_same t l i)
