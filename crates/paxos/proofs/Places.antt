-- Proposing keeps to the positions.
use Rattle.std.proofs.Common.{◌≡◌, ℕ, zero, suc, ◌≤◌, Bool, true, false, cond, arith, inl, inr, subst, Option, Some, None, ⊎_elim, List, [], ◌∷◌, ◌++◌, refl}
use Rattle.std.specs.List.{All}
use Rattle.std.proofs.lemmas.Bool.{and_parts, leb-true}
use Rattle.std.proofs.lemmas.List.Elements.{All-nil, All-cons, All-head, All-tail}
use Rattle.std.proofs.lemmas.Option.{none-some, same_Some}
use Rattle.paxos.specs.Lists.{Has}
use Rattle.ballots.specs.Values.{IsPosition, positions}
use Rattle.ballots.specs.declared.value.Value.{Value}
use Rattle.ballots.specs.declared.value.Value.TheVariants.{NoOp}
use Rattle.ballots.specs.declared.value.Vote.{Vote}
use Rattle.ballots.specs.declared.value.Pair.{Pair}
use Rattle.paxos.specs.Proposing.{Turn, passes, proposes, has_place, lies_above, proposal, turn, turns}
use Rattle.paxos.proofs.Lists.{has_cases}

-- each is at a position
abbrev pub Each : List Pair → Type 0
Each es = (e : Pair) → Has es e → IsPosition e.position

-- what the definition says of each, by number
pub each_of : (es : List Pair) → All (λ (e : Pair). IsPosition e.position) es → Each es
each_of [] h e o = absurd o
each_of (d ∷ es) h e (inl q) = subst (λ (x : Pair). IsPosition x.position) q (All-head (λ (x : Pair). IsPosition x.position) d es h)
each_of (d ∷ es) h e (inr o) = each_of es (All-tail (λ (x : Pair). IsPosition x.position) d es h) e o

-- and the other way
pub of_each : (es : List Pair) → Each es → All (λ (e : Pair). IsPosition e.position) es
of_each [] h = All-nil (λ (x : Pair). IsPosition x.position)
of_each (d ∷ es) h = All-cons (λ (x : Pair). IsPosition x.position) d es (h d (inl refl)) (of_each es (λ e o. h e (inr o)))

-- a turn at a position, or after the last
pub record Placed (t : Turn) : Type 0 where
  pub least : 1 ≤ t.next
  pub most : t.next ≤ suc positions
  pub proposals : Each t.proposals
  pub made : Each t.made

-- one more
each_more : (es : List Pair) (new : Pair) → Each es → IsPosition new.position → Each (es ++ new ∷ [])
each_more es new h is e o = ⊎_elim
    (λ (a : Has es e). h e a)
    (λ (a : Has (new ∷ []) e). ⊎_elim (λ (q : new ≡ e). subst (λ (x : Pair). IsPosition x.position) q is) (λ (q : ⊥). absurd q) a)
    (has_cases es (new ∷ []) e o)

-- a position passed
passes_placed : (t : Turn) → t.next ≤ positions → Placed t → Placed (passes t)
passes_placed t here c = record { least = omega arith; most = omega (arith, here); proposals = c.proposals; made = c.made }

-- a proposal more
pub proposes_placed : (t : Turn) (value : Value) → t.next ≤ positions → Placed t → Placed (proposes value t)
proposes_placed t value here c = record {
  least = omega arith;
  most = omega (arith, here);
  proposals = each_more t.proposals (record { position = t.next; value = value }) c.proposals (c.least, here);
  made = each_more t.made (record { position = t.next; value = value }) c.made (c.least, here);
}

-- where there is place, the next position is one
pub place_is : (n : ℕ) (cover : ℕ → ℕ) (t : Turn) → has_place n cover t ≡ true → t.next ≤ positions
place_is n cover t h = leb-true t.next positions (and_parts _ _ (and_parts _ _ h).1).0

-- a turn that is taken keeps to them
IfPlaced : Option Turn → Type 0
IfPlaced o = (t : Turn) → o ≡ Some t → Placed t

-- a turn that is taken
some_placed : (t : Turn) → Placed t → IfPlaced (Some t)
unfolding IfPlaced
some_placed t c s e = subst Placed (same_Some t s e) c

-- a turn that is not taken
none_placed : IfPlaced None
unfolding IfPlaced
none_placed s e = absurd (none-some s e)

module _ (n : ℕ) (cover : ℕ → ℕ) (report : ℕ → Option Vote) (learnt : ℕ → Bool) where
  -- a proposal, by what is reported
  proposal_placed : (t : Turn) → t.next ≤ positions → Placed t → (o : Option Vote) → IfPlaced (proposal report learnt t o)
  proposal_placed t here c (Some top) = some_placed _ (proposes_placed t top.value here c)
  proposal_placed t here c None = one (lies_above report learnt t.next)
    where
      one : (x : Bool) → IfPlaced (cond x (Some (proposes NoOp t)) None)
      one true = some_placed _ (proposes_placed t NoOp here c)
      one false = none_placed

  -- one turn
  turn_placed : (t : Turn) → Placed t → IfPlaced (turn n cover report learnt t)
  turn_placed t c = one (has_place n cover t) refl
    where
      two : t.next ≤ positions → (x : Bool) → IfPlaced (cond x (Some (passes t)) (proposal report learnt t (report t.next)))
      two here true = some_placed _ (passes_placed t here c)
      two here false = proposal_placed t here c (report t.next)

      one : (x : Bool) → has_place n cover t ≡ x → IfPlaced (cond x (cond (learnt t.next) (Some (passes t)) (proposal report learnt t (report t.next))) None)
      one true h = two (place_is n cover t h) (learnt t.next)
      one false h = none_placed

  -- all turns
  pub turns_placed : (k : ℕ) (t : Turn) → Placed t → Placed (turns n cover report learnt k t)
  unfolding IfPlaced
  turns_placed zero t c = c
  turns_placed (suc k) t c = one (λ s d. turns_placed k s d) (turn n cover report learnt t) (λ s e. turn_placed t c s e)
    where
      one : ((s : Turn) → Placed s → Placed (turns n cover report learnt k s)) → (o : Option Turn) → ((s : Turn) → o ≡ Some s → Placed s)
          → Placed (elim o as (λ x. Turn) [ None ↦ t | Some s ↦ turns n cover report learnt k s ])
      one rest None h = c
      one rest (Some s) h = rest s (h s refl)
