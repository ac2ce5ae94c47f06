-- What is handed on stays a beginning of what is applied.
use Rattle.std.proofs.Common.{◌≡◌, ℕ, zero, suc, ◌+◌, ◌-◌, ◌≤◌, ◌<◌, ◌&&◌, Bool, true, false, cond, arith, refl, sym, ap, subst, ◌∙◌, List, ◌++◌, length, length-append, Option, Some, None}
use Rattle.std.specs.Prelude.{nat_le, option_map, option_to_list}
use Rattle.std.proofs.lemmas.Bool.{false≢true, leb-true}
use Rattle.std.proofs.lemmas.Option.{none-some}
use Rattle.ballots.specs.declared.value.Value.{Value}
use Rattle.member.proofs.Keeping.{grows}
use Rattle.member.specs.Steps.{Input, effect_of}
use Rattle.node.proofs.Going.{values_count}
use Rattle.node.proofs.Stepping.{step_values}
use Rattle.node.specs.Nodes.{Node, RunsAs, Steps, step_of}
use Rattle.node.specs.declared.outbox.Outbox.{Outbox}
use Rattle.paxos.specs.Application.{Application}
use Rattle.paxos.specs.Knowledge.{Heard, learnt as learnt_at, news, prefix, values_to}
use Rattle.paxos.specs.Step.{Running, values_of}
use Rattle.paxos.specs.World.{applies_to}
use Rattle.published.specs.Stores.{handed_on}
use Rattle.readers.specs.Counting.{AreFirst}
use Rattle.readers.specs.Handing.{Site, Turns}
use Rattle.sight.proofs.Beginnings.{begins_itself, begins_through, same_length}
use Rattle.sight.specs.Sights.{IsSight}

-- the values at more positions go on
go_on : (n : ℕ) (heard : List Heard) (k d : ℕ) → IsSight (values_to n heard k) (values_to n heard (d + k))
go_on n heard k zero = let same : k ≡ zero + k = omega arith in subst (λ (m : ℕ). IsSight (values_to n heard k) (values_to n heard m)) same (begins_itself (values_to n heard k))
go_on n heard k (suc d) =
    let up : suc (d + k) ≡ suc d + k = omega arith in
    subst (λ (m : ℕ). IsSight (values_to n heard k) (values_to n heard m)) up
    (begins_through (values_to n heard k) (values_to n heard (d + k)) (values_to n heard (suc (d + k))) (go_on n heard k d) (option_to_list (learnt_at n (suc (d + k)) heard), refl))

begin_at : (n : ℕ) (heard : List Heard) (k a : ℕ) → k ≤ a → IsSight (values_to n heard k) (values_to n heard a)
begin_at n heard k a le = let up : (a - k) + k ≡ a = omega (arith, le) in subst (λ (m : ℕ). IsSight (values_to n heard k) (values_to n heard m)) up (go_on n heard k (a - k))

-- the first of the values that are applied are a beginning of them
pub first_begin : (n : ℕ) (u : Running) (values : List Value) → AreFirst n u values → IsSight values (values_of n u)
first_begin n u values h = subst (λ (vs : List Value). IsSight vs (values_of n u)) (sym h.1) (begin_at n (news u.heard) (length values) u.applied h.0)

-- a beginning of them are the first
pub begins_first : (n : ℕ) (u : Running) (values : List Value) → u.applied ≤ prefix n (news u.heard) → IsSight values (values_of n u) → AreFirst n u values
begins_first n u values most begins =
    let all : length (values_of n u) ≡ u.applied = values_count n (news u.heard) u.applied most in
    let less : length values ≤ u.applied = omega (arith, all, ap length begins.1, length-append values begins.0) in
    let few : length (values_to n (news u.heard) (length values)) ≡ length values = values_count n (news u.heard) (length values) (omega (arith, less, most)) in
    (less, same_length (values_of n u) values (values_to n (news u.heard) (length values)) begins (begin_at n (news u.heard) (length values) u.applied less) (sym few))

-- one value more
pub one_more : (n : ℕ) (u : Running) (values next : List Value) → next ≡ values ++ option_to_list (learnt_at n (length values + 1) (news u.heard)) → length next ≡ length values + 1 → length values < u.applied → AreFirst n u values → AreFirst n u next
one_more n u values next e long less h =
    let up : length values + 1 ≡ suc (length values) = omega arith in (
      omega (arith, less, long),
      e ∙ ap (λ p. values ++ option_to_list (learnt_at n p (news u.heard))) up ∙ ap (λ vs. vs ++ option_to_list (learnt_at n (suc (length values)) (news u.heard))) h.1 ∙ ap (values_to n (news u.heard)) (sym up ∙ sym long),
    )

some_one : {A : Type 0} {a b : A} → Some a ≡ Some b → a ≡ b
some_one q = cc

-- what was applied stays applied
later : (a j most : ℕ) → a ≤ cond (nat_le a j && nat_le j most) j a
later a j most = one (nat_le a j) refl (nat_le j most)
  where
    one : (t : Bool) → nat_le a j ≡ t → (s : Bool) → a ≤ cond (t && s) j a
    one true e true = leb-true a j e
    one true e false = omega arith
    one false e s = omega arith

module _ {R A : Type 0} (app : Application) (x : Node R A) (u : Running) (i : Input) (j : ℕ) where
  -- a step leaves the first of what is learnt, and nothing that was applied is not
  pub stay_first : (v : Running) → (step_of app x u i j).running ≡ Some v → u.applied ≤ prefix x.setup.members (news u.heard) → (values : List Value) → AreFirst x.setup.members u values → AreFirst x.setup.members v values
  stay_first v e most values h = one (effect_of app n m x.member.acceptor.kept u i).running refl e
    where
      n : ℕ
      n = x.setup.members

      m : ℕ
      m = x.setup.member

      one : (o : Option Running) → (effect_of app n m x.member.acceptor.kept u i).running ≡ o → option_map (applies_to n j) o ≡ Some v → AreFirst n v values
      one None q r = absurd (none-some v r)
      one (Some w) q r =
          let is : applies_to n j w ≡ v = some_one r in
          let g = grows app n m x.member.acceptor.kept u i w q in
          let count = g.1 in
          let low = h.0 in
          let on = later w.applied j (prefix n (news w.heard)) in
          subst (λ (z : Running). AreFirst n z values) is (omega (arith, count, low, on), h.1 ∙ sym (step_values app n m x.member.acceptor.kept u i w q (length values) (omega (arith, low, most))))

-- The node has taken its step, and what it has applied was handed on.
pub turned : {R A : Type 0} (has_applied : List (List ℕ) → List Value → A → Type 0) (app : Application) (i : Input) (old new : Site R A) (is_all : Bool) (inner o : Outbox) → Steps has_applied app i old.node new.node inner
    → ((v : Running) → RunsAs has_applied v new.node → AreFirst new.node.setup.members v (handed_on old.store)
    → AreFirst new.node.setup.members v (handed_on new.store) × (is_all ≡ true → length (handed_on new.store) ≡ v.applied) × (is_all ≡ false → length (handed_on new.store) < v.applied))
    → o.sent ≡ inner.sent → o.tells ≡ inner.tells → (is_all ≡ true → o.is_short ≡ inner.is_short) → (is_all ≡ false → o.is_short ≡ true) → Turns has_applied app i old new o
turned has_applied app i old new is_all inner o steps hands sent tells all cut u r h =
    let s = steps u r in
    let took = s.1 in
    let v = took.running in
    let n = old.node.setup.members in
    let same : new.node.setup.members ≡ n = ap (λ t. t.members) took.setup in
    let before : AreFirst n u (handed_on old.store) = begins_first n u (handed_on old.store) r.most h in
    let on : AreFirst n v (handed_on old.store) = stay_first app old.node u i s.0 v took.runs r.most (handed_on old.store) before in
    let over = hands v took.runs_as (subst (λ m. AreFirst m v (handed_on old.store)) (sym same) on) in
    let ends = choose is_all refl (prefix n (news v.heard)) v.applied (subst (λ m. v.applied ≤ prefix m (news v.heard)) same took.runs_as.most) over.1 over.2 took.whole took.short all cut in
    record {
      applied = s.0;
      inner = inner;
      took = took;
      sent = sent;
      tells = tells;
      handed = first_begin new.node.setup.members v (handed_on new.store) over.0;
      whole = ends.0;
      short = ends.1;
    }
  where
    l : ℕ
    l = length (handed_on new.store)

    choose : (t : Bool) → is_all ≡ t → (p a : ℕ) → a ≤ p → (is_all ≡ true → l ≡ a) → (is_all ≡ false → l < a) → (inner.is_short ≡ false → a ≡ p) → (inner.is_short ≡ true → a < p) → (is_all ≡ true → o.is_short ≡ inner.is_short) → (is_all ≡ false → o.is_short ≡ true)
        → (o.is_short ≡ false → l ≡ p) × (o.is_short ≡ true → l < p)
    choose true e p a most whole part long less all cut = (λ q. whole e ∙ long (sym (all e) ∙ q), λ q. let w = whole e in let z = less (sym (all e) ∙ q) in omega (arith, w, z))
    choose false e p a most whole part long less all cut = (λ q. absurd (false≢true (sym q ∙ cut e)), λ q. let z = part e in omega (arith, most, z))
