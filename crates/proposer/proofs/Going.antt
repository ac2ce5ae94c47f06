-- Proposing turn by turn.
use Rattle.std.proofs.Common.{◌≡◌, ℕ, zero, suc, ◌+◌, ◌≤◌, ◌<◌, Bool, true, false, ◌&&◌, cond, arith, refl, sym, ap, ap₂, ◌∙◌, subst, List, [], ◌∷◌, ◌++◌, length, Option, Some, None, nat_le, nat_lt, append-nil, append_assoc, length-append, ltb-true}
use Rattle.std.proofs.lemmas.Bool.Decides.{nat_tests}
use Rattle.ballots.specs.Values.{positions}
use Rattle.ballots.specs.declared.value.Pair.{Pair}
use Rattle.ballots.specs.declared.value.Value.{Value}
use Rattle.paxos.specs.Knowledge.{pair_of}
use Rattle.paxos.specs.Proposing.{Turn, passes, proposes, proposal, turn, turns, is_covered}
use Rattle.proposer.specs.Views.{View, cover_in, report_in_view, is_learnt_in}

-- the turn after so many proposals
abbrev pub turn_at : List Pair → (next : ℕ) → List Pair → Turn
turn_at ps next made = record { next = next; proposals = ps ++ made; made = made }

-- So many turns are left, enough to pass all positions.
pub record Goes (n : ℕ) (v : View) (ps : List Pair) (from next : ℕ) (made : List Pair) : Type 0 where
  pub left : ℕ
  pub enough : positions < left + next
  pub same : turns n (cover_in v) (report_in_view v) (is_learnt_in v) positions (record { next = from; proposals = ps; made = [] }) ≡ turns n (cover_in v) (report_in_view v) (is_learnt_in v) left (turn_at ps next made)

module _ (n : ℕ) (v : View) (ps : List Pair) (from : ℕ) where
  -- so many turns
  abbrev pub go : ℕ → Turn → Turn
  go = turns n (cover_in v) (report_in_view v) (is_learnt_in v)

  -- one turn
  abbrev pub one : Turn → Option Turn
  one = turn n (cover_in v) (report_in_view v) (is_learnt_in v)

  -- at first
  pub goes_first : 1 ≤ from → Goes n v ps from from []
  goes_first l = record { left = positions; enough = omega (arith, l); same = ap (λ xs. go positions (record { next = from; proposals = xs; made = [] })) (sym (append-nil ps)) }

  -- one turn more
  go_one : (k : ℕ) (t u : Turn) → one t ≡ Some u → go (suc k) t ≡ go k u
  go_one k t u e = ap (λ (o : Option Turn). elim o as (λ x. Turn) [ None ↦ t | Some w ↦ go k w ]) e

  -- it stays where it stops
  go_stopped : (k : ℕ) (t : Turn) → one t ≡ None → go k t ≡ t
  go_stopped zero t e = refl
  go_stopped (suc k) t e = ap (λ (o : Option Turn). elim o as (λ x. Turn) [ None ↦ t | Some w ↦ go k w ]) e

  -- where turns are left, one is taken
  left_more : (k : ℕ) (t u : Turn) → 0 < k → one t ≡ Some u → (j : ℕ) × (k ≡ suc j) × (go k t ≡ go j u)
  left_more zero t u l e = absurd (let f : ⊥ = omega (arith, l) in f)
  left_more (suc k) t u l e = (k, refl, go_one k t u e)

  pub goes_more : (next : ℕ) (made more : List Pair) → next ≤ positions → one (turn_at ps next made) ≡ Some (turn_at ps (suc next) more) → Goes n v ps from next made → Goes n v ps from (suc next) more
  goes_more next made more l e g =
      let m = left_more g.left (turn_at ps next made) (turn_at ps (suc next) more) (let q = g.enough in omega (arith, q, l)) e in
      record { left = m.0; enough = (let q = g.enough in let r = m.1 in omega (arith, q, r)); same = g.same ∙ m.2 }

  pub goes_last : (next : ℕ) (made : List Pair) → one (turn_at ps next made) ≡ None → Goes n v ps from next made → go positions (record { next = from; proposals = ps; made = [] }) ≡ turn_at ps next made
  goes_last next made e g = g.same ∙ go_stopped g.left (turn_at ps next made) e

  -- past the last position there is no turn
  pub past_last : (next : ℕ) (made : List Pair) → positions < next → one (turn_at ps next made) ≡ None
  past_last next made l = ap (λ b. cond b (cond (is_learnt_in v next) (Some (passes (turn_at ps next made))) (proposal (report_in_view v) (is_learnt_in v) (turn_at ps next made) (report_in_view v next))) None)
      (ap (λ b. nat_lt (length (ps ++ made)) 16 && (b && is_covered n (cover_in v) next)) (not_within next l) ∙ and_none (nat_lt (length (ps ++ made)) 16))
    where
      not_within : (k : ℕ) → positions < k → nat_le k positions ≡ false
      not_within k l = grind (arith, nat_tests)

      and_none : (b : Bool) → (b && false) ≡ false
      and_none true = refl
      and_none false = refl

  -- a learnt position is passed
  pub goes_pass : (next : ℕ) (made : List Pair) → next ≤ positions → one (turn_at ps next made) ≡ Some (passes (turn_at ps next made)) → Goes n v ps from next made → Goes n v ps from (next + 1) made
  goes_pass next made l e g = let k : suc next ≡ next + 1 = omega arith in subst (λ q. Goes n v ps from q made) k (goes_more next made made l e g)

  -- a value is proposed
  pub goes_propose : (next : ℕ) (made : List Pair) (value : Value) → next ≤ positions → one (turn_at ps next made) ≡ Some (proposes value (turn_at ps next made)) → Goes n v ps from next made
      → Goes n v ps from (next + 1) (made ++ pair_of next value ∷ [])
  goes_propose next made value l e g =
      let k : suc next ≡ next + 1 = omega arith in
      let more = made ++ pair_of next value ∷ [] in
      let same : proposes value (turn_at ps next made) ≡ turn_at ps (suc next) more = ap (λ xs. record { next = suc next; proposals = xs; made = more }) (append_assoc ps made (pair_of next value ∷ [])) in
      subst (λ q. Goes n v ps from q more) k (goes_more next made more l (e ∙ ap Some same) g)

  -- a turn is taken only where there is place
  pub turn_placed : (t u : Turn) → one t ≡ Some u → length t.proposals < 16
  turn_placed t u e = by_test (nat_lt (length t.proposals) 16) (nat_le t.next positions && is_covered n (cover_in v) t.next) refl e
    where
      by_test : (a b : Bool) → nat_lt (length t.proposals) 16 ≡ a → cond (a && b) (cond (is_learnt_in v t.next) (Some (passes t)) (proposal (report_in_view v) (is_learnt_in v) t (report_in_view v t.next))) None ≡ Some u → length t.proposals < 16
      by_test true b f g = ltb-true (length t.proposals) 16 f
      by_test false b f g = let q : ⊥ = cc in absurd q

  -- how many proposals there are then
  pub so_many : (made : List Pair) (k w : ℕ) → length ps ≡ w → k ≡ length made → length (ps ++ made) ≡ w + k
  so_many made k w e f = length-append ps made ∙ ap₂ (λ (a b : ℕ). a + b) e (sym f)
