-- What a view knows.
use Rattle.std.proofs.Common.{◌≡◌, ℕ, ◌≤◌, ◌<◌, ◌⊎◌, inl, inr, ⊎_elim, Bool, true, false, ◌||◌, arith, refl, sym, ap, ap₂, ◌∙◌, subst, Option, Some, None, IsSome, is_some, cond, max, nat_lt}
use Rattle.std.proofs.lemmas.Bool.{cases_lt}
use Rattle.ballots.specs.Ballot.{below}
use Rattle.ballots.specs.Values.{positions}
use Rattle.ballots.specs.declared.value.Value.TheVariants.{NoOp}
use Rattle.ballots.specs.declared.value.Vote.{Vote}
use Rattle.paxos.specs.Knowledge.{higher}
use Rattle.paxos.specs.Proposing.{Turn, passes, proposes, proposal, turn, has_place}
use Rattle.paxos.specs.Records.{vote_at}
use Rattle.paxos.proofs.Same.{lies_below_last}
use Rattle.proposer.specs.Beginning.{is_in}
use Rattle.proposer.specs.Inside.{IsLastKnown}
use Rattle.proposer.specs.Terms.{report_of, is_learnt_of}
use Rattle.proposer.specs.Views.{View, cover_in, report_in_view, is_learnt_in, IsLastIn}

-- a vote is reported where one was before
first_some : (a b : Option Vote) → IsSome a → IsSome (higher a b)
first_some None b h = let e : ⊥ = cc in absurd e
first_some (Some x) None h = refl
first_some (Some x) (Some y) h = by_test (below x.ballot y.ballot)
  where
    by_test : (t : Bool) → is_some (cond t (Some y) (Some x)) ≡ true
    by_test true = refl
    by_test false = refl

-- a vote is reported where the message reports one
second_some : (a b : Option Vote) → IsSome b → IsSome (higher a b)
second_some None b h = h
second_some (Some x) b h = first_some (Some x) b refl

or_first : (a b : Bool) → a ≡ true → (a || b) ≡ true
or_first a b h = rw h refl

or_second : (a b : Bool) → b ≡ true → (a || b) ≡ true
or_second true b h = refl
or_second false b h = h

-- the last known position is the highest of the three
pub last_in : (v : View) (m a b c : ℕ) → IsLastKnown v.lead a → b ≤ positions → ((p : ℕ) → b < p → vote_at p v.entries ≡ None) → (0 < b → IsSome (vote_at b v.entries)) → c ≤ positions → ((p : ℕ) → c < p → is_in p v.learnt ≡ false) → (0 < c → is_in c v.learnt ≡ true)
    → a ≤ m → b ≤ m → c ≤ m → ((m ≡ a) ⊎ (m ≡ b)) ⊎ (m ≡ c) → IsLastIn v m
last_in v m a b c k b_most b_above b_there c_most c_above c_there al bl cl which = record {
  above = λ p l. let u = k.above p (omega (arith, l, al)) in
      (ap₂ higher u.0 (b_above p (omega (arith, l, bl))), ap₂ (λ x y. x || y) u.1 (c_above p (omega (arith, l, cl))));
  there = λ l. ⊎_elim (λ w. ⊎_elim (at_a l) (at_b l) w) (at_c l) which;
  most = ⊎_elim (λ w. ⊎_elim (λ (e : m ≡ a). let u = k.most in omega (arith, e, u)) (λ (e : m ≡ b). omega (arith, e, b_most)) w) (λ (e : m ≡ c). omega (arith, e, c_most)) which;
}
  where
    at_a : 0 < m → m ≡ a → IsSome (report_in_view v m) ⊎ (is_learnt_in v m ≡ true)
    at_a l e = ⊎_elim
        (λ (h : IsSome (report_of v.lead a)). inl (first_some (report_of v.lead m) (vote_at m v.entries) (subst (λ q. IsSome (report_of v.lead q)) (sym e) h)))
        (λ (h : is_learnt_of v.lead a ≡ true). inr (or_first (is_learnt_of v.lead m) (is_in m v.learnt) (ap (is_learnt_of v.lead) e ∙ h)))
        (k.there (omega (arith, l, e)))

    at_b : 0 < m → m ≡ b → IsSome (report_in_view v m) ⊎ (is_learnt_in v m ≡ true)
    at_b l e = inl (second_some (report_of v.lead m) (vote_at m v.entries) (subst (λ q. IsSome (vote_at q v.entries)) (sym e) (b_there (omega (arith, l, e)))))

    at_c : 0 < m → m ≡ c → IsSome (report_in_view v m) ⊎ (is_learnt_in v m ≡ true)
    at_c l e = inr (or_second (is_learnt_of v.lead m) (is_in m v.learnt) (ap (λ q. is_in q v.learnt) e ∙ c_there (omega (arith, l, e))))

-- the larger of two is one of them, and below none
larger : (a b m : ℕ) → m ≡ max a b → (a ≤ m) × (b ≤ m) × ((m ≡ a) ⊎ (m ≡ b))
larger a b m e = (omega (arith, e), omega (arith, e), ⊎_elim (λ (l : a < b). inr (omega (arith, e, l))) (λ (l : b ≤ a). inl (omega (arith, e, l))) (cases_lt a b))

-- the same with the largest of the three
pub last_of_three : (v : View) (a b c n m : ℕ) → IsLastKnown v.lead a → b ≤ positions → ((p : ℕ) → b < p → vote_at p v.entries ≡ None) → (0 < b → IsSome (vote_at b v.entries)) → c ≤ positions → ((p : ℕ) → c < p → is_in p v.learnt ≡ false) → (0 < c → is_in c v.learnt ≡ true)
    → n ≡ max a b → m ≡ max n c → IsLastIn v m
last_of_three v a b c n m k b_most b_above b_there c_most c_above c_there e f =
    let x = larger a b n e in
    let y = larger n c m f in
    last_in v m a b c k b_most b_above b_there c_most c_above c_there (omega (arith, x.0, y.0)) (omega (arith, x.1, y.0)) y.1
    (⊎_elim (λ (g : m ≡ n). inl (⊎_elim (λ (h : n ≡ a). inl (g ∙ h)) (λ (h : n ≡ b). inr (g ∙ h)) x.2)) (λ (g : m ≡ c). inr g) y.2)

-- where nothing is known at a position, the last known one decides
pub unknown_turn : (v : View) (n last : ℕ) (t : Turn) → IsLastIn v last → has_place n (cover_in v) t ≡ true → is_learnt_in v t.next ≡ false → report_in_view v t.next ≡ None
    → turn n (cover_in v) (report_in_view v) (is_learnt_in v) t ≡ cond (nat_lt t.next last) (Some (proposes NoOp t)) None
unknown_turn v n last t k place unlearnt unreported =
    ap (λ b. cond b (cond (is_learnt_in v t.next) (Some (passes t)) (proposal (report_in_view v) (is_learnt_in v) t (report_in_view v t.next))) None) place
    ∙ ap (λ b. cond b (Some (passes t)) (proposal (report_in_view v) (is_learnt_in v) t (report_in_view v t.next))) unlearnt
    ∙ ap (proposal (report_in_view v) (is_learnt_in v) t) unreported
    ∙ ap (λ b. cond b (Some (proposes NoOp t)) None) (lies_below_last (report_in_view v) (is_learnt_in v) last k.above k.there k.most t.next)
