-- What a start has learnt, and how much of it is applied.
use Rattle.std.proofs.Common.{◌≡◌, ℕ, suc, ◌+◌, ◌<◌, ◌≤◌, Bool, cond, eqb, arith, refl, sym, ap, subst, ◌∙◌, List, [], ◌∷◌, length, Some, IsSome, ⊎_elim, inl, inr, ◌⊎◌}
use Rattle.std.proofs.lemmas.Bool.{le-leb, eq-eqb, ne_eqb, cases_eq, cases_lt, false≢true}
use Rattle.ballots.specs.Values.{positions}
use Rattle.ballots.specs.declared.value.Pair.{Pair}
use Rattle.ballots.specs.declared.value.Value.{Value}
use Rattle.member.specs.Steps.{IsThis}
use Rattle.paxos.proofs.Learnt.{prefix_ends}
use Rattle.paxos.proofs.News.{prefix_learnt}
use Rattle.paxos.specs.Knowledge.{Heard, learnt as learnt_at, news, numbered, prefix, value_at, values_to}
use Rattle.paxos.specs.Records.{Record}
use Rattle.paxos.specs.Step.{chosen_packet, resumed}
use Rattle.paxos.specs.World.{applies_to}
use Rattle.node.specs.Applying.{HasGone}
use Rattle.node.specs.Nodes.{HasStarted, Node}

-- the values stand at as many positions, from p on, and at no others
numbered_there : (p q : ℕ) (values : List Value) → p ≤ q → q < p + length values → IsSome (value_at q (numbered p values))
numbered_there p q [] least most = absurd (omega (arith, least, most))
numbered_there p q (v ∷ values) least most = one (cases_eq q p) (λ l. numbered_there (suc p) q values l (omega (arith, most)))
  where
    above : (p q : ℕ) → p ≤ q → (q ≡ p → ⊥) → suc p ≤ q
    above p q l n = ⊎_elim (λ (h : p < q). h) (λ (h : q ≤ p). absurd (n (omega (arith, l, h)))) (cases_lt p q)

    one : (q ≡ p) ⊎ (q ≡ p → ⊥) → (suc p ≤ q → IsSome (value_at q (numbered (suc p) values))) → IsSome (cond (eqb q p) (Some v) (value_at q (numbered (suc p) values)))
    one (inl e) rest = rw (eq-eqb q p e) refl
    one (inr n) rest = rw (ne_eqb q p n) (rest (above p q least n))

numbered_within : (p q : ℕ) (values : List Value) → IsSome (value_at q (numbered p values)) → q < p + length values
numbered_within p q [] h = absurd (false≢true h)
numbered_within p q (v ∷ values) h = one (cases_eq q p) h (λ g. numbered_within (suc p) q values g)
  where
    one : (q ≡ p) ⊎ (q ≡ p → ⊥) → IsSome (cond (eqb q p) (Some v) (value_at q (numbered (suc p) values))) → (IsSome (value_at q (numbered (suc p) values)) → q < suc p + length values) → q < p + suc (length values)
    one (inl e) g rest = omega (arith, e)
    one (inr n) g rest = let l = rest (subst (λ b. IsSome (cond b (Some v) (value_at q (numbered (suc p) values)))) (ne_eqb q p n) g) in omega (arith, l)

-- where just these values are learnt, so many positions are learnt without a gap
prefix_of : (n : ℕ) (heard : List Heard) (values : List Value) → length values ≤ positions → ((p : ℕ) → learnt_at n p heard ≡ value_at p (numbered 1 values)) → prefix n heard ≡ length values
prefix_of n heard values few is = both (cases_lt (prefix n heard) (length values)) (cases_lt (length values) (prefix n heard))
  where
    both : (prefix n heard < length values) ⊎ (length values ≤ prefix n heard) → (length values < prefix n heard) ⊎ (prefix n heard ≤ length values) → prefix n heard ≡ length values
    both (inl b) o =
        let ends = prefix_ends n heard (omega (arith, b, few)) in
        let there = numbered_there 1 (suc (prefix n heard)) values (omega arith) (omega (arith, b)) in
        absurd (false≢true (subst IsSome (sym (is (suc (prefix n heard))) ∙ ends) there))
    both (inr a) (inl b) =
        let v = prefix_learnt n heard (suc (length values)) (omega arith) b in
        let l = numbered_within 1 (suc (length values)) values (subst IsSome (sym v.1 ∙ is (suc (length values))) refl) in
        absurd (omega (arith, l))
    both (inr a) (inr b) = omega (arith, a, b)

-- what a start tells itself is what it has learnt
start_learnt : (n m p : ℕ) (pairs : List Pair) → learnt_at n p (news (chosen_packet m m pairs)) ≡ value_at p pairs
start_learnt n m p [] = refl
start_learnt n m p (e ∷ es) = refl

start_prefix : (n m : ℕ) (r : Record) → length r.learnt ≤ positions → prefix n (news (resumed m r).heard) ≡ length r.learnt
start_prefix n m r few = prefix_of n (news (resumed m r).heard) r.learnt few (λ p. start_learnt n m p (numbered 1 r.learnt))

-- A node whose application has gone on from nothing has started.
pub started : {R A : Type 0} (has_applied : List (List ℕ) → List Value → A → Type 0) (x : Node R A) (before : A) (is_short : Bool) → x.member.members ≡ x.setup.members → length x.member.acceptor.kept.learnt ≤ positions
    → IsThis (resumed x.setup.member x.member.acceptor.kept) x.member → has_applied x.setup.names [] before → HasGone has_applied x.member before x.application is_short → HasStarted has_applied x is_short
started {R} {A} has_applied x before is_short members few this first gone =
    let n = x.setup.members in
    let u = resumed x.setup.member x.member.acceptor.kept in
    let g = gone x.setup.names u 0 this (omega arith, first) in
    let j = g.0 in
    let same = ap (λ k. prefix k (news u.heard)) members in
    let count = start_prefix n x.setup.member x.member.acceptor.kept few in
    let most : j ≤ prefix n (news u.heard) = subst (λ k. j ≤ k) same g.2.0 in
    let then : (applies_to n j u).applied ≡ j = rw (le-leb 0 j (omega arith), le-leb j (prefix n (news u.heard)) most) refl in
    record {
      applied = j;
      runs_as = record {
        this = record { hears = this.hears; knows = this.knows; state = record { kept = this.state.kept; leads = this.state.leads; heard = this.state.heard }; runs = this.runs };
        most = subst (λ a. a ≤ prefix n (news u.heard)) (sym then) most;
        applied = subst (λ a. has_applied x.setup.names (values_to n (news u.heard) a) x.application) (sym then) (subst (λ k. has_applied x.setup.names (values_to k (news u.heard) j) x.application) members g.2.1);
      };
      whole = λ e. g.3 e ∙ same ∙ count;
      short = λ e. subst (λ k. j < k) (same ∙ count) (g.4 e);
    }
