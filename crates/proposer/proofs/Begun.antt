-- A leader that has just begun.
use Rattle.std.proofs.Common.{◌≡◌, ℕ, zero, suc, ◌≤◌, Bool, true, false, ◌||◌, ◌&&◌, cond, arith, refl, sym, ap, ◌∙◌, subst, eqb, List, [], ◌∷◌, Option, Some, None}
use Rattle.std.specs.Prelude.{nat_le}
use Rattle.std.specs.List.{list_any}
use Rattle.std.proofs.lemmas.Bool.Decides.{nat_tests}
use Rattle.ballots.specs.Ballot.{same_ballot, count}
use Rattle.ballots.specs.Messages.{Packet, Prepare, to_all}
use Rattle.ballots.specs.declared.ballot.Ballot.{Ballot}
use Rattle.paxos.specs.Knowledge.{Promised, news, prefix, windows, cover, reported}
use Rattle.paxos.specs.Proposing.{HasStopped, Uncovered}
use Rattle.paxos.specs.Records.{Record}
use Rattle.paxos.specs.Step.{Leader, begins, next_ballot}
use Rattle.proposer.specs.Beginning.{IsBegun, IsFresh}
use Rattle.proposer.specs.Knowing.{IsLed, IsStopped, TookPart}
use Rattle.proposer.specs.Terms.{Leading, Proposer, cover_of, report_of, is_learnt_of, turn_of}
use Rattle.proposer.proofs.Positions.{some_one}

-- neither of two
neither : (a b : Bool) → (a || b) ≡ false → (a ≡ false) × (b ≡ false)
neither true b h = let f : ⊥ = cc in absurd f
neither false b h = (refl, h)

-- windows of other ballots cover nothing
pub nothing_covered : (b : Ballot) (base m : ℕ) (ws : List Promised) → list_any (λ (x : Promised). same_ballot b x.window.ballot) ws ≡ false → cover b base m ws ≡ base
nothing_covered b base m [] h = refl
nothing_covered b base m (x ∷ ws) h =
    let s = neither (same_ballot b x.window.ballot) (list_any (λ (x : Promised). same_ballot b x.window.ballot) ws) h in
    rw s.0 (passed (eqb x.member m) ∙ nothing_covered b base m ws s.1)
  where
    passed : (t : Bool) → cond (t && false) x.window.covered (cover b base m ws) ≡ cover b base m ws
    passed true = refl
    passed false = refl

-- windows of other ballots report nothing
pub nothing_reported : (b : Ballot) (base p : ℕ) (ws : List Promised) → list_any (λ (x : Promised). same_ballot b x.window.ballot) ws ≡ false → reported b base p ws ≡ None
nothing_reported b base p [] h = refl
nothing_reported b base p (x ∷ ws) h =
    let s = neither (same_ballot b x.window.ballot) (list_any (λ (x : Promised). same_ballot b x.window.ballot) ws) h in
    rw s.0 (nothing_reported b base p ws s.1)

-- what begins knows all that was heard
pub begun_led : (n : ℕ) (heard : List Packet) (b : Ballot) (from : ℕ) (known : List ℕ) (base : ℕ) (x : Leading) → IsFresh n heard b from known → IsBegun n b from known x → from ≡ suc base
    → IsLed n heard (record { ballot = b; base = base; next = suc base; proposals = [] }) x
begun_led n heard b from known base x f h e =
    let at_base : x.base ≡ base = let q = h.base in omega (arith, q, e) in
    record {
      ballot = h.ballot_is;
      base = at_base;
      next = h.next ∙ e;
      proposals = h.proposals;
      covers = λ m l k. h.covers m l k ∙ at_base ∙ sym (nothing_covered b base m (windows heard) f.unpromised);
      reports = λ p l. h.reports p ∙ sym (nothing_reported b base p (windows heard) f.unpromised);
      learnt = λ p l. h.learnt p ∙ f.learnt p (omega (arith, l, e));
      unlearnt = λ w q. absurd q;
    }

-- where no member is in a set, it has none
count_none : (n : ℕ) (s : ℕ → Bool) → ((m : ℕ) → 1 ≤ m → m ≤ n → s m ≡ false) → count n s ≡ 0
count_none zero s h = refl
count_none (suc n) s h = let e = count_none n s (λ m l k. h m l (omega (arith, k))) in rw (h (suc n) (omega arith) (omega arith)) (omega (arith, e))

-- the next position isn't covered yet
pub begun_stopped : (n : ℕ) (b : Ballot) (from : ℕ) (known : List ℕ) (x : Leading) → IsBegun n b from known x → HasStopped n (cover_of x) (report_of x) (is_learnt_of x) (turn_of x)
begun_stopped n b from known x h = Uncovered (λ q. let e = count_none n (λ m. nat_le x.next (cover_of x m)) short in omega (arith, q, e))
  where
    below : (m : ℕ) → m ≡ x.base → nat_le x.next m ≡ false
    below m e = let k = h.next in let l = h.base in grind (arith, nat_tests)

    short : (m : ℕ) → 1 ≤ m → m ≤ n → nat_le x.next (cover_of x m) ≡ false
    short m l k = below (cover_of x m) (h.covers m l k)

-- the proposer's part of a Begin
pub begun_took : (n m : ℕ) (promise b : Ballot) (from : ℕ) (known : List ℕ) (lead : Leading) (y : Proposer) → b ≡ record { round = suc promise.round; member = m } → IsBegun n b from known lead
    → y ≡ record { members = n; member = m; lead = Some lead } → (heard : List Packet) (leader : Option Leader) (applied : ℕ) (r : Record) → r.promise ≡ promise → from ≡ suc (prefix n (news heard)) → IsFresh n heard b from known
    → TookPart (begins n m r (record { heard = heard; leader = leader; applied = applied })) (to_all n m (Prepare b from)) y
begun_took n m promise b from known lead y e h f heard leader applied r g i k =
    let base = prefix n (news heard) in
    let ballot : next_ballot m r ≡ b = ap (λ (q : Ballot). record { round = suc q.round; member = m }) g ∙ sym e in
    record {
      running = record { heard = heard; leader = Some (record { ballot = next_ballot m r; base = base; next = suc base; proposals = [] }); applied = applied };
      runs = refl;
      knows = rw (f, ballot) (lead, refl, begun_led n heard b from known base lead k h i);
      sends = rw ballot (ap (λ q. to_all n m (Prepare b q)) (sym i));
    }

-- a proposer that has just begun has stopped
pub begun_proposer : (n m : ℕ) (b : Ballot) (from : ℕ) (known : List ℕ) (lead : Leading) (y : Proposer) → IsBegun n b from known lead → y ≡ record { members = n; member = m; lead = Some lead } → IsStopped y
begun_proposer n m b from known lead y h e = λ x f.
    let same : lead ≡ x = some_one (sym (ap (λ (z : Proposer). z.lead) e) ∙ f) in
    rw e (subst (λ z. HasStopped n (cover_of z) (report_of z) (is_learnt_of z) (turn_of z)) same (begun_stopped n b from known lead h))
