-- Where a request finds a place.
use Rattle.std.proofs.Common.{◌≡◌, ℕ, ◌*◌, ◌≤◌, ◌<◌, eqb, length, [], ◌⊎◌, inl, inr, Bool, true, false, ◌&&◌, cond, arith, refl, sym, ap, ◌∙◌, subst, Option, Some, None, IsSome, is_none, ⊎_elim}
use Rattle.std.specs.Prelude.{nat_le, nat_lt}
use Rattle.std.proofs.lemmas.Bool.{cases_lt, le-ltb, lt-ltb, ne_eqb}
use Rattle.ballots.specs.Values.{positions}
use Rattle.ballots.specs.declared.value.Value.TheVariants.{NoOp}
use Rattle.ballots.specs.declared.value.Vote.{Vote}
use Rattle.paxos.specs.Proposing.{Turn, passes, proposes, proposal, has_place, has_free_place, lies_above}
use Rattle.paxos.proofs.Same.{count_agrees, lies_below_last}
use Rattle.proposer.specs.Inside.{IsLastKnown}
use Rattle.proposer.specs.Terms.{Leading, cover_of, report_of, is_learnt_of, turn_of}
use Rattle.proposer.specs.Views.{cover_in}

-- a leader that is told nothing has place where it had
pub untold_place : (n : ℕ) (l : Leading) (t : Turn) → has_place n (cover_in (record { lead = l; member = 0; covered = 0; entries = []; learnt = [] })) t ≡ has_place n (cover_of l) t
untold_place n l t = ap (λ (k : ℕ). nat_lt (length t.proposals) 16 && (nat_le t.next positions && nat_lt n (2 * k)))
    (count_agrees n (λ m. nat_le t.next (cond (eqb m 0) 0 (cover_of l m))) (λ m. nat_le t.next (cover_of l m)) (λ m one most. ap (nat_le t.next) (as_before m one)))
  where
    as_before : (m : ℕ) → 0 < m → cond (eqb m 0) 0 (cover_of l m) ≡ cover_of l m
    as_before m one = rw (ne_eqb m 0 (λ e. omega (arith, e, one))) refl

-- a place is free exactly where nothing is known at the next position or above
pub free_place_is : (n : ℕ) (l : Leading) (last : ℕ) → 1 ≤ l.next → IsLastKnown l last → (has_place n (cover_of l) (turn_of l) && nat_lt last l.next) ≡ has_free_place n (cover_of l) (report_of l) (is_learnt_of l) (turn_of l)
free_place_is n l last one k = by_place (has_place n (cover_of l) (turn_of l)) (cases_lt last l.next)
  where
    above : lies_above (report_of l) (is_learnt_of l) l.next ≡ nat_lt l.next last
    above = lies_below_last (report_of l) (is_learnt_of l) last k.above k.there k.most l.next

    -- what a turn proposes at the next position, by what is known there
    made : Bool → Option Vote → Bool → Option Turn
    made learnt (Some vote) lies = cond learnt (Some (passes (turn_of l))) (Some (proposes vote.value (turn_of l)))
    made learnt None lies = cond learnt (Some (passes (turn_of l))) (cond lies (Some (proposes NoOp (turn_of l))) None)

    made_is : (r : Option Vote) → cond (is_learnt_of l l.next) (Some (passes (turn_of l))) (proposal (report_of l) (is_learnt_of l) (turn_of l) r) ≡ made (is_learnt_of l l.next) r (lies_above (report_of l) (is_learnt_of l) l.next)
    made_is (Some vote) = refl
    made_is None = refl

    turn_is : is_none (cond (is_learnt_of l l.next) (Some (passes (turn_of l))) (proposal (report_of l) (is_learnt_of l) (turn_of l) (report_of l l.next))) ≡ is_none (made (is_learnt_of l l.next) (report_of l l.next) (nat_lt l.next last))
    turn_is = ap is_none (made_is (report_of l l.next)) ∙ ap (λ b. is_none (made (is_learnt_of l l.next) (report_of l l.next) b)) above

    unknown : (learnt lies : Bool) (r : Option Vote) → learnt ≡ false → r ≡ None → lies ≡ false → is_none (made learnt r lies) ≡ true
    unknown learnt lies r e f g = rw (e, f, g) refl

    where_learnt : (learnt lies : Bool) (r : Option Vote) → learnt ≡ true → is_none (made learnt r lies) ≡ false
    where_learnt learnt lies (Some vote) e = rw e refl
    where_learnt learnt lies None e = rw e refl

    where_reported : (learnt lies : Bool) (r : Option Vote) → IsSome r → is_none (made learnt r lies) ≡ false
    where_reported true lies (Some vote) e = refl
    where_reported false lies (Some vote) e = refl
    where_reported learnt lies None e = let f : ⊥ = cc in absurd f

    where_below : (learnt lies : Bool) (r : Option Vote) → lies ≡ true → is_none (made learnt r lies) ≡ false
    where_below true lies (Some vote) e = refl
    where_below false lies (Some vote) e = refl
    where_below true lies None e = refl
    where_below false lies None e = rw e refl

    at_last : l.next ≡ last → is_none (made (is_learnt_of l l.next) (report_of l l.next) (nat_lt l.next last)) ≡ false
    at_last e = ⊎_elim
        (λ (r : IsSome (report_of l last)). where_reported (is_learnt_of l l.next) (nat_lt l.next last) (report_of l l.next) (subst (λ p. IsSome (report_of l p)) (sym e) r))
        (λ (r : is_learnt_of l last ≡ true). where_learnt (is_learnt_of l l.next) (nat_lt l.next last) (report_of l l.next) (ap (is_learnt_of l) e ∙ r))
        (k.there (omega (arith, e, one)))

    from_next : l.next ≤ last → (l.next < last) ⊎ (last ≤ l.next) → is_none (made (is_learnt_of l l.next) (report_of l l.next) (nat_lt l.next last)) ≡ false
    from_next a (inl b) = where_below (is_learnt_of l l.next) (nat_lt l.next last) (report_of l l.next) (lt-ltb l.next last b)
    from_next a (inr b) = at_last (omega (arith, a, b))

    by_place : (place : Bool) → (last < l.next) ⊎ (l.next ≤ last) → (place && nat_lt last l.next) ≡ (place && is_none (cond place (cond (is_learnt_of l l.next) (Some (passes (turn_of l))) (proposal (report_of l) (is_learnt_of l) (turn_of l) (report_of l l.next))) None))
    by_place false h = refl
    by_place true (inl a) = let u = k.above l.next a in
        lt-ltb last l.next a ∙ sym (turn_is ∙ unknown (is_learnt_of l l.next) (nat_lt l.next last) (report_of l l.next) u.1 u.0 (le-ltb l.next last (omega (arith, a))))
    by_place true (inr a) = le-ltb last l.next a ∙ sym (turn_is ∙ from_next a (cases_lt l.next last))

-- the same where there is place
pub free_place_when : (n : ℕ) (l : Leading) (last : ℕ) → 1 ≤ l.next → IsLastKnown l last → has_place n (cover_of l) (turn_of l) ≡ true → nat_lt last l.next ≡ has_free_place n (cover_of l) (report_of l) (is_learnt_of l) (turn_of l)
free_place_when n l last one k h = sym (ap (λ b. b && nat_lt last l.next) h) ∙ free_place_is n l last one k
