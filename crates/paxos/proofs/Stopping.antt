-- Why each proposal of a step is made, and why proposing stops.
use Rattle.std.proofs.Common.{◌++◌, append_assoc, append-nil, length-append, ◌≡◌, ℕ, zero, suc, ◌+◌, ◌-◌, ◌<◌, ◌≤◌, Bool, true, false, cond, arith, refl, ◌⊎◌, inl, inr, sym, subst, ap, ◌∙◌, Option, Some, None, ⊎_elim, List, [], ◌∷◌, length, ◌&&◌, ◌||◌, is_some, nat_lt, nat_le, ltb-true, ltb-false}
use Rattle.std.proofs.lemmas.Bool.{and_parts, or_cases, false≢true, leb-true, leb-false, cases_lt}
use Rattle.std.proofs.lemmas.Option.{none-some, same_Some}
use Rattle.paxos.specs.Lists.{Has}
use Rattle.ballots.specs.Ballot.{IsMajority}
use Rattle.ballots.specs.Values.{positions}
use Rattle.ballots.specs.declared.value.Value.{Value}
use Rattle.ballots.specs.declared.value.Value.TheVariants.{NoOp}
use Rattle.ballots.specs.declared.value.Vote.{Vote}
use Rattle.ballots.specs.declared.value.Pair.{Pair}
use Rattle.paxos.specs.Proposing.{Turn, passes, proposes, is_covered, has_place, lies_after, lies_above, proposal, turn, turns, LiesAbove, IsProposed, HasStopped, Full, Spent, Uncovered, NothingAbove, WentOn}
use Rattle.paxos.proofs.Lists.{has_left, has_right, has_cases}

module _ (n : ℕ) (cover : ℕ → ℕ) (report : ℕ → Option Vote) (learnt : ℕ → Bool) where
  -- what one turn does, by its cases
  pub data Turns (t : Turn) : Option Turn → Type 0 where
    NoPlace : has_place n cover t ≡ false → Turns t None
    Passed : has_place n cover t ≡ true → learnt t.next ≡ true → Turns t (Some (passes t))
    Reported : has_place n cover t ≡ true → learnt t.next ≡ false → (vote : Vote) → report t.next ≡ Some vote → Turns t (Some (proposes vote.value t))
    Filled : has_place n cover t ≡ true → learnt t.next ≡ false → report t.next ≡ None → lies_above report learnt t.next ≡ true → Turns t (Some (proposes NoOp t))
    Nothing : has_place n cover t ≡ true → learnt t.next ≡ false → report t.next ≡ None → lies_above report learnt t.next ≡ false → Turns t None

  -- a turn is one of its cases
  pub turn_by : (t : Turn) → Turns t (turn n cover report learnt t)
  turn_by t = one (has_place n cover t) refl
    where
      four : has_place n cover t ≡ true → learnt t.next ≡ false → report t.next ≡ None → (c : Bool) → lies_above report learnt t.next ≡ c → Turns t (cond c (Some (proposes NoOp t)) None)
      four h l r true e = Filled h l r e
      four h l r false e = Nothing h l r e

      three : has_place n cover t ≡ true → learnt t.next ≡ false → (o : Option Vote) → report t.next ≡ o → Turns t (proposal report learnt t o)
      three h l (Some vote) e = Reported h l vote e
      three h l None e = four h l e (lies_above report learnt t.next) refl

      two : has_place n cover t ≡ true → (c : Bool) → learnt t.next ≡ c → Turns t (cond c (Some (passes t)) (proposal report learnt t (report t.next)))
      two h true e = Passed h e
      two h false e = three h e (report t.next) refl

      one : (c : Bool) → has_place n cover t ≡ c → Turns t (cond c (cond (learnt t.next) (Some (passes t)) (proposal report learnt t (report t.next))) None)
      one true e = two e (learnt t.next) refl
      one false e = NoPlace e

  -- what the search finds lies above
  lies_is : (p k : ℕ) → lies_after report learnt p k ≡ true → LiesAbove report learnt p
  lies_is p zero h = absurd (false≢true h)
  lies_is p (suc k) h = ⊎_elim
      (λ (e : learnt (p + suc k) ≡ true). record { at = p + suc k; above = omega arith; known = inr e })
      (λ (o : (is_some (report (p + suc k)) || lies_after report learnt p k) ≡ true). ⊎_elim
      (λ (e : is_some (report (p + suc k)) ≡ true). record { at = p + suc k; above = omega arith; known = inl e })
      (λ (e : lies_after report learnt p k ≡ true). lies_is p k e)
      (or_cases (is_some (report (p + suc k))) (lies_after report learnt p k) o))
      (or_cases (learnt (p + suc k)) (is_some (report (p + suc k)) || lies_after report learnt p k) h)

  -- where no part holds, none does
  none_in : (a : Bool) (o : Option Vote) (b : Bool) → (a || (is_some o || b)) ≡ false → (a ≡ false) × (o ≡ None) × (b ≡ false)
  none_in true o b h = absurd (false≢true (sym h))
  none_in false (Some v) b h = absurd (false≢true (sym h))
  none_in false None b h = (refl, refl, h)

  -- nothing is reported or learnt at the position
  Unknown : ℕ → Type 0
  Unknown q = (report q ≡ None) × (learnt q ≡ false)

  -- where the search finds nothing, nothing lies above
  lies_not : (p k q : ℕ) → lies_after report learnt p k ≡ false → p < q → q ≤ p + k → Unknown q
  unfolding Unknown
  lies_not p zero q h l g = absurd (omega arith)
  lies_not p (suc k) q h l g =
      let c = none_in (learnt (p + suc k)) (report (p + suc k)) (lies_after report learnt p k) h in
      ⊎_elim
      (λ (a : q < p + suc k). lies_not p k q c.2 l (omega arith))
      (λ (a : p + suc k ≤ q). subst Unknown (last a g) (c.1, c.0))
      (cases_lt q (p + suc k))
    where
      last : p + suc k ≤ q → q ≤ p + suc k → p + suc k ≡ q
      last a b = omega arith

  -- where there is place, positions are left and a majority covers the next
  placed : (t : Turn) → has_place n cover t ≡ true → (t.next ≤ positions) × IsMajority n (λ m. nat_le t.next (cover m))
  placed t h = let a = and_parts _ _ (and_parts (nat_lt (length t.proposals) 16) (nat_le t.next positions && is_covered n cover t.next) h).1 in (leb-true _ _ a.0, ltb-true _ _ a.1)

  -- a step's proposals so far
  AllProposed : Turn → Type 0
  AllProposed t = (e : Pair) → Has t.made e → IsProposed n cover report learnt e

  -- a proposal more that has its reason
  one_more : (t : Turn) (value : Value) → IsProposed n cover report learnt (record { position = t.next; value = value }) → AllProposed t → AllProposed (proposes value t)
  unfolding AllProposed
  one_more t value p h e q = ⊎_elim
      (λ (o : Has t.made e). h e o)
      (λ (o : Has (record { position = t.next; value = value } ∷ []) e). ⊎_elim (λ (x : record { position = t.next; value = value } ≡ e). subst (IsProposed n cover report learnt) x p) (λ (x : ⊥). absurd x) o)
      (has_cases t.made (record { position = t.next; value = value } ∷ []) e q)

  -- the proposals of a turn have their reasons
  turn_proposed : (t s : Turn) (o : Option Turn) → Turns t o → o ≡ Some s → AllProposed t → AllProposed s
  unfolding AllProposed lies_above
  turn_proposed t s None (NoPlace h) e a = absurd (none-some s e)
  turn_proposed t s None (Nothing h l r x) e a = absurd (none-some s e)
  turn_proposed t s (Some x) (Passed h l) e a = subst AllProposed (same_Some _ s e) a
  turn_proposed t s (Some x) (Reported h l vote r) e a = subst AllProposed (same_Some _ s e) (one_more t vote.value
      (record { majority = (placed t h).1; unlearnt = l; reported = λ v q. ap (λ (y : Vote). y.value) (same_Some vote v (sym r ∙ q)); unreported = λ q. absurd (none-some vote (sym q ∙ r)) }) a)
  turn_proposed t s (Some x) (Filled h l r y) e a = subst AllProposed (same_Some _ s e) (one_more t NoOp
      (record { majority = (placed t h).1; unlearnt = l; reported = λ v q. absurd (none-some v (sym r ∙ q)); unreported = λ q. (refl, lies_is t.next (positions - t.next) y) }) a)

  -- a turn passes one position
  pub turn_next : (t s : Turn) (o : Option Turn) → Turns t o → o ≡ Some s → s.next ≡ suc t.next
  turn_next t s None (NoPlace h) e = absurd (none-some s e)
  turn_next t s None (Nothing h l r x) e = absurd (none-some s e)
  turn_next t s (Some x) (Passed h l) e = ap (λ (y : Turn). y.next) (sym (same_Some _ s e))
  turn_next t s (Some x) (Reported h l vote r) e = ap (λ (y : Turn). y.next) (sym (same_Some _ s e))
  turn_next t s (Some x) (Filled h l r y) e = ap (λ (y : Turn). y.next) (sym (same_Some _ s e))

  -- where there is no place, there is a reason to stop
  no_place : (t : Turn) → has_place n cover t ≡ false → HasStopped n cover report learnt t
  no_place t h = one (nat_lt (length t.proposals) 16) (nat_le t.next positions) (is_covered n cover t.next) refl refl refl h
    where
      one : (a b c : Bool) → nat_lt (length t.proposals) 16 ≡ a → nat_le t.next positions ≡ b → is_covered n cover t.next ≡ c → (a && (b && c)) ≡ false → HasStopped n cover report learnt t
      one false b c e f g q = Full (ltb-false _ _ e)
      one true false c e f g q = Spent (leb-false _ _ f)
      one true true false e f g q = Uncovered (λ m. absurd (let l = ltb-false _ _ g in omega arith))
      one true true true e f g q = absurd (false≢true (sym q))

  -- a turn stops for a reason
  turn_stopped : (t : Turn) (o : Option Turn) → Turns t o → o ≡ None → HasStopped n cover report learnt t
  unfolding Unknown lies_above
  turn_stopped t None (NoPlace h) e = no_place t h
  turn_stopped t None (Nothing h l r x) e = NothingAbove (λ q a b. ⊎_elim
      (λ (c : t.next < q). lies_not t.next (positions - t.next) q x c (let d = (placed t h).0 in omega arith))
      (λ (c : q ≤ t.next). subst Unknown (same q a c) (r, l))
      (cases_lt t.next q))
    where
      same : (q : ℕ) → t.next ≤ q → q ≤ t.next → t.next ≡ q
      same q a b = omega arith
  turn_stopped t (Some x) (Passed h l) e = absurd (none-some _ (sym e))
  turn_stopped t (Some x) (Reported h l vote r) e = absurd (none-some _ (sym e))
  turn_stopped t (Some x) (Filled h l r y) e = absurd (none-some _ (sym e))

  -- each proposal of a step has its reason
  all_proposed : (k : ℕ) (t : Turn) → AllProposed t → AllProposed (turns n cover report learnt k t)
  all_proposed zero t a = a
  all_proposed (suc k) t a = one (λ s b. all_proposed k s b) (turn n cover report learnt t) (turn_by t)
    where
      one : ((s : Turn) → AllProposed s → AllProposed (turns n cover report learnt k s)) → (o : Option Turn) → Turns t o → AllProposed (elim o as (λ x. Turn) [ None ↦ t | Some s ↦ turns n cover report learnt k s ])
      one rest None c = a
      one rest (Some s) c = rest s (turn_proposed t s (Some s) c refl a)

  -- proposing stops for a reason
  pub turns_stop : (k : ℕ) (t : Turn) → positions < t.next + k → HasStopped n cover report learnt (turns n cover report learnt k t)
  turns_stop zero t l = Spent (omega arith)
  turns_stop (suc k) t l = one (λ s g. turns_stop k s g) (turn n cover report learnt t) (turn_by t)
    where
      one : ((s : Turn) → positions < s.next + k → HasStopped n cover report learnt (turns n cover report learnt k s)) → (o : Option Turn) → Turns t o → HasStopped n cover report learnt (elim o as (λ x. Turn) [ None ↦ t | Some s ↦ turns n cover report learnt k s ])
      one rest None c = turn_stopped t None c refl
      one rest (Some s) c = rest s (let e = turn_next t s (Some s) c refl in omega arith)

  -- each position passed since next is learnt or has a proposal
  AllPassed : ℕ → Turn → Type 0
  AllPassed next t = (p : ℕ) → next ≤ p → p < t.next → (learnt p ≡ true) ⊎ ((value : Value) × Has t.made (record { position = p; value = value }))

  -- a learnt position is passed
  pass_learnt : (next : ℕ) (t : Turn) → learnt t.next ≡ true → AllPassed next t → AllPassed next (passes t)
  unfolding AllPassed
  pass_learnt next t l a p low high = ⊎_elim
      (λ (c : p < t.next). a p low c)
      (λ (c : t.next ≤ p). inl (subst (λ x. learnt x ≡ true) (same c high) l))
      (cases_lt p t.next)
    where
      same : t.next ≤ p → p < suc t.next → t.next ≡ p
      same c d = omega arith

  -- a position with a proposal is passed
  pass_proposed : (next : ℕ) (t : Turn) (value : Value) → AllPassed next t → AllPassed next (proposes value t)
  unfolding AllPassed
  pass_proposed next t value a p low high = ⊎_elim
      (λ (c : p < t.next). ⊎_elim
      (λ (x : learnt p ≡ true). inl x)
      (λ (x : (v : Value) × Has t.made (record { position = p; value = v })). inr (x.0, has_left t.made new _ x.1))
      (a p low c))
      (λ (c : t.next ≤ p). inr (value, has_right t.made new _ (inl (λ i. record { position = same c high i; value = value }))))
      (cases_lt p t.next)
    where
      new : List Pair
      new = record { position = t.next; value = value } ∷ []

      same : t.next ≤ p → p < suc t.next → t.next ≡ p
      same c d = omega arith

  -- a turn passes no position without a reason
  turn_passed : (next : ℕ) (t s : Turn) (o : Option Turn) → Turns t o → o ≡ Some s → AllPassed next t → AllPassed next s
  turn_passed next t s None (NoPlace h) e a = absurd (none-some s e)
  turn_passed next t s None (Nothing h l r x) e a = absurd (none-some s e)
  turn_passed next t s (Some x) (Passed h l) e a = subst (AllPassed next) (same_Some _ s e) (pass_learnt next t l a)
  turn_passed next t s (Some x) (Reported h l vote r) e a = subst (AllPassed next) (same_Some _ s e) (pass_proposed next t vote.value a)
  turn_passed next t s (Some x) (Filled h l r y) e a = subst (AllPassed next) (same_Some _ s e) (pass_proposed next t NoOp a)

  -- all turns pass no position without a reason
  all_passed : (next : ℕ) (k : ℕ) (t : Turn) → AllPassed next t → AllPassed next (turns n cover report learnt k t)
  all_passed next zero t a = a
  all_passed next (suc k) t a = one (λ s b. all_passed next k s b) (turn n cover report learnt t) (turn_by t)
    where
      one : ((s : Turn) → AllPassed next s → AllPassed next (turns n cover report learnt k s)) → (o : Option Turn) → Turns t o → AllPassed next (elim o as (λ x. Turn) [ None ↦ t | Some s ↦ turns n cover report learnt k s ])
      one rest None c = a
      one rest (Some s) c = rest s (turn_passed next t s (Some s) c refl a)

  -- what a turn adds to the open proposals and to those made
  record Adds (t s : Turn) : Type 0 where
    on : t.next ≤ s.next
    opens : (before : List Pair) → t.proposals ≡ before ++ t.made → s.proposals ≡ before ++ s.made
    most : length t.proposals ≤ 16 → length s.proposals ≤ 16

  -- a proposal adds itself
  adds_proposal : (t : Turn) (value : Value) → has_place n cover t ≡ true → Adds t (proposes value t)
  adds_proposal t value h = record {
    on = omega arith;
    opens = λ before e. ap (λ (es : List Pair). es ++ new) e ∙ append_assoc before t.made new;
    most = λ l. subst (λ x. x ≤ 16) (sym (length-append t.proposals new)) (omega (arith, few));
  }
    where
      new : List Pair
      new = record { position = t.next; value = value } ∷ []

      few : length t.proposals < 16
      few = ltb-true _ _ (and_parts (nat_lt (length t.proposals) 16) (nat_le t.next positions && is_covered n cover t.next) h).0

  -- a turn adds what it makes
  turn_adds : (t s : Turn) (o : Option Turn) → Turns t o → o ≡ Some s → Adds t s
  turn_adds t s None (NoPlace h) e = absurd (none-some s e)
  turn_adds t s None (Nothing h l r x) e = absurd (none-some s e)
  turn_adds t s (Some x) (Passed h l) e = subst (Adds t) (same_Some _ s e) (record { on = omega arith; opens = λ before q. q; most = λ q. q })
  turn_adds t s (Some x) (Reported h l vote r) e = subst (Adds t) (same_Some _ s e) (adds_proposal t vote.value h)
  turn_adds t s (Some x) (Filled h l r y) e = subst (Adds t) (same_Some _ s e) (adds_proposal t NoOp h)

  -- what two steps add
  adds_both : (t s x : Turn) → Adds t s → Adds s x → Adds t x
  adds_both t s x a b = record { on = omega (arith, a.on, b.on); opens = λ before e. b.opens before (a.opens before e); most = λ l. b.most (a.most l) }

  -- all turns add what they make
  turns_add : (k : ℕ) (t : Turn) → Adds t (turns n cover report learnt k t)
  turns_add zero t = record { on = omega arith; opens = λ before e. e; most = λ l. l }
  turns_add (suc k) t = one (λ s. turns_add k s) (turn n cover report learnt t) (turn_by t)
    where
      one : ((s : Turn) → Adds s (turns n cover report learnt k s)) → (o : Option Turn) → Turns t o → Adds t (elim o as (λ x. Turn) [ None ↦ t | Some s ↦ turns n cover report learnt k s ])
      one rest None c = record { on = omega arith; opens = λ before e. e; most = λ l. l }
      one rest (Some s) c = adds_both t s (turns n cover report learnt k s) (turn_adds t s (Some s) c refl) (rest s)

  -- what proposing comes to, from the proposals that are open
  pub went_on : (next : ℕ) (before : List Pair) → 0 < next
      → WentOn n cover report learnt (record { next = next; proposals = before; made = [] }) (turns n cover report learnt positions (record { next = next; proposals = before; made = [] }))
  unfolding AllProposed AllPassed
  went_on next before h = let a = turns_add positions begin in record {
    reasons = all_proposed positions begin (λ d q. absurd q);
    opens = a.opens before (sym (append-nil before));
    most = a.most;
    on = a.on;
    passes = λ p low high. all_passed next positions begin (λ q x y. absurd (omega arith)) p low high;
    stopped = turns_stop positions begin (omega arith);
  }
    where
      begin : Turn
      begin = record { next = next; proposals = before; made = [] }
