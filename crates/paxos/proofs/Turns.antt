-- What a leader proposes in one step.
use Rattle.std.proofs.Common.{◌≡◌, ℕ, zero, suc, ◌<◌, ◌≤◌, Bool, true, false, cond, arith, refl, ◌⊎◌, inl, inr, sym, subst, ap, ◌∙◌, Option, Some, None, ⊎_elim, List, [], ◌∷◌, ◌++◌}
use Rattle.std.proofs.lemmas.Bool.{and_parts}
use Rattle.std.proofs.lemmas.Option.{none-some, same_Some}
use Rattle.paxos.specs.Lists.{Has}
use Rattle.ballots.specs.declared.value.Value.{Value}
use Rattle.ballots.specs.declared.value.Value.TheVariants.{NoOp}
use Rattle.ballots.specs.declared.value.Vote.{Vote}
use Rattle.ballots.specs.declared.value.Pair.{Pair}
use Rattle.paxos.specs.Proposing.{Turn, passes, proposes, is_covered, has_place, lies_above, proposal, turn, turns}
use Rattle.paxos.proofs.Lists.{has_left, has_right, has_cases}

-- why a value may be proposed
pub record Why (n : ℕ) (cover : ℕ → ℕ) (report : ℕ → Option Vote) (e : Pair) : Type 0 where
  pub covered : is_covered n cover e.position ≡ true
  pub value : (top : Vote) → report e.position ≡ Some top → e.value ≡ top.value

-- what proposing has come to from next on, with these proposals open before
pub record Turned (n : ℕ) (cover : ℕ → ℕ) (report : ℕ → Option Vote) (next : ℕ) (before : List Pair) (t : Turn) : Type 0 where
  pub on : next ≤ t.next
  pub low : (e : Pair) → Has t.made e → next ≤ e.position
  pub under : (e : Pair) → Has t.made e → e.position < t.next
  pub why : (e : Pair) → Has t.made e → Why n cover report e
  pub one : (e d : Pair) → Has t.made e → Has t.made d → e.position ≡ d.position → e.value ≡ d.value
  pub known : (e : Pair) → Has t.proposals e → Has before e ⊎ Has t.made e

-- before the first turn
pub unturned : (n : ℕ) (cover : ℕ → ℕ) (report : ℕ → Option Vote) (next : ℕ) (before : List Pair) → Turned n cover report next before (record { next = next; proposals = before; made = [] })
unturned n cover report next before = record {
  on = omega arith;
  low = λ e h. absurd h;
  under = λ e h. absurd h;
  why = λ e h. absurd h;
  one = λ e d h k q. absurd h;
  known = λ e h. inl h;
}

module _ (n : ℕ) (cover : ℕ → ℕ) (report : ℕ → Option Vote) (learnt : ℕ → Bool) (next : ℕ) (before : List Pair) where
  -- a position passed
  passes_turned : (t : Turn) → Turned n cover report next before t → Turned n cover report next before (passes t)
  passes_turned t c = record { on = omega (arith, c.on); low = c.low; under = λ e h. let u = c.under e h in omega arith; why = c.why; one = c.one; known = c.known }

  -- the newest is last
  last : (es : List Pair) (new e : Pair) → Has (es ++ new ∷ []) e → Has es e ⊎ (new ≡ e)
  last es new e h = ⊎_elim
      (λ (o : Has es e). inl o)
      (λ (o : Has (new ∷ []) e). ⊎_elim (λ (q : new ≡ e). inr q) (λ (q : ⊥). absurd q) o)
      (has_cases es (new ∷ []) e h)

  -- a proposal more
  pub proposes_turned : (t : Turn) (value : Value) → Why n cover report (record { position = t.next; value = value }) → Turned n cover report next before t → Turned n cover report next before (proposes value t)
  proposes_turned t value why c = record {
    on = omega (arith, c.on);
    low = λ e h. ⊎_elim (λ (o : Has t.made e). c.low e o) (λ (q : new ≡ e). subst (λ (x : Pair). next ≤ x.position) q c.on) (last t.made new e h);
    under = λ e h. ⊎_elim (λ (o : Has t.made e). let u = c.under e o in omega arith) (λ (q : new ≡ e). subst (λ (x : Pair). x.position < suc t.next) q (omega arith)) (last t.made new e h);
    why = λ e h. ⊎_elim (λ (o : Has t.made e). c.why e o) (λ (q : new ≡ e). subst (Why n cover report) q why) (last t.made new e h);
    one = λ e d h k q. ⊎_elim
        (λ (x : Has t.made e). ⊎_elim
        (λ (y : Has t.made d). c.one e d x y q)
        (λ (y : new ≡ d). let u = c.under e x in let v = ap (λ (z : Pair). z.position) y in absurd (omega arith))
        (last t.made new d k))
        (λ (x : new ≡ e). ⊎_elim
        (λ (y : Has t.made d). let u = c.under d y in let v = ap (λ (z : Pair). z.position) x in absurd (omega arith))
        (λ (y : new ≡ d). ap (λ (z : Pair). z.value) (sym x ∙ y))
        (last t.made new d k))
        (last t.made new e h);
    known = λ e h. ⊎_elim
        (λ (o : Has t.proposals e). ⊎_elim (λ (x : Has before e). inl x) (λ (x : Has t.made e). inr (has_left t.made (new ∷ []) e x)) (c.known e o))
        (λ (q : new ≡ e). inr (has_right t.made (new ∷ []) e (inl q)))
        (last t.proposals new e h);
  }
    where
      new : Pair
      new = record { position = t.next; value = value }

  -- a majority covers the next position
  Covered : Turn → Type 0
  Covered t = is_covered n cover t.next ≡ true

  -- a turn that is taken keeps it
  IfTurned : Option Turn → Type 0
  IfTurned o = (t : Turn) → o ≡ Some t → Turned n cover report next before t

  -- a turn that is taken
  some_turned : (t : Turn) → Turned n cover report next before t → IfTurned (Some t)
  unfolding IfTurned
  some_turned t c s e = subst (Turned n cover report next before) (same_Some t s e) c

  -- a turn that is not taken
  none_turned : IfTurned None
  unfolding IfTurned
  none_turned s e = absurd (none-some s e)

  -- a proposal, by what is reported
  proposal_turned : (t : Turn) → Covered t → Turned n cover report next before t → (o : Option Vote) → report t.next ≡ o → IfTurned (proposal report learnt t o)
  unfolding Covered
  proposal_turned t covered c (Some top) q = some_turned _ (proposes_turned t top.value (record { covered = covered; value = λ x e. ap (λ (y : Vote). y.value) (same_Some _ _ (sym q ∙ e)) }) c)
  proposal_turned t covered c None q = one (lies_above report learnt t.next)
    where
      one : (x : Bool) → IfTurned (cond x (Some (proposes NoOp t)) None)
      one true = some_turned _ (proposes_turned t NoOp (record { covered = covered; value = λ x e. absurd (none-some x (sym q ∙ e)) }) c)
      one false = none_turned

  -- one turn
  turn_turned : (t : Turn) → Turned n cover report next before t → IfTurned (turn n cover report learnt t)
  unfolding Covered
  turn_turned t c = one (has_place n cover t) refl
    where
      two : Covered t → (x : Bool) → IfTurned (cond x (Some (passes t)) (proposal report learnt t (report t.next)))
      two h true = some_turned _ (passes_turned t c)
      two h false = proposal_turned t h c (report t.next) refl

      one : (x : Bool) → has_place n cover t ≡ x → IfTurned (cond x (cond (learnt t.next) (Some (passes t)) (proposal report learnt t (report t.next))) None)
      one true h = two (and_parts _ _ (and_parts _ _ h).1).1 (learnt t.next)
      one false h = none_turned

  -- all turns
  pub turns_turned : (k : ℕ) (t : Turn) → Turned n cover report next before t → Turned n cover report next before (turns n cover report learnt k t)
  unfolding IfTurned
  turns_turned zero t c = c
  turns_turned (suc k) t c = one (λ s d. turns_turned k s d) (turn n cover report learnt t) (λ s e. turn_turned t c s e)
    where
      one : ((s : Turn) → Turned n cover report next before s → Turned n cover report next before (turns n cover report learnt k s)) → (o : Option Turn)
          → ((s : Turn) → o ≡ Some s → Turned n cover report next before s) → Turned n cover report next before (elim o as (λ x. Turn) [ None ↦ t | Some s ↦ turns n cover report learnt k s ])
      one rest None h = c
      one rest (Some s) h = rest s (h s refl)
