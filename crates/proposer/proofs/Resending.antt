-- What a leader says again.
use Rattle.std.proofs.Common.{◌≡◌, ℕ, zero, suc, ◌+◌, ◌≤◌, Bool, true, false, cond, arith, refl, sym, ap, ap₂, ◌∙◌, subst, List, [], ◌∷◌, ◌++◌, Option, Some, None, map}
use Rattle.std.specs.Prelude.{nat_lt, flat_map}
use Rattle.std.proofs.lemmas.List.{flat_map_more, map-append}
use Rattle.ballots.specs.Messages.{Packet, Prepare, packet, up_to}
use Rattle.ballots.specs.Values.{positions}
use Rattle.ballots.specs.declared.ballot.Ballot.{Ballot}
use Rattle.paxos.specs.Step.{Leader, accepts, asks_on, cover_heard, on_resend}
use Rattle.proposer.specs.declared.sends.Sends.{Sends}
use Rattle.proposer.specs.Knowing.{IsLed, IsAgain, Knows, TookPart, asked_of, prepare_of, accepts_first}
use Rattle.proposer.specs.Terms.{Leading, Proposer, cover_of}
use Rattle.proposer.proofs.Positions.{some_one}

-- what two functions give for the members 1 to n, if they agree on them
same_members : {A : Type 0} (n : ℕ) (f g : ℕ → List A) → ((k : ℕ) → 1 ≤ k → k ≤ n → f k ≡ g k) → flat_map f (up_to n) ≡ flat_map g (up_to n)
same_members zero f g h = refl
same_members (suc n) f g h =
    sym (flat_map_more f [] (up_to n) (suc n)) ∙ ap₂ (λ xs ys. xs ++ ys) (same_members n f g (λ k l u. h k l (omega (arith, u)))) (h (suc n) (omega arith) (omega arith)) ∙ flat_map_more g [] (up_to n) (suc n)

-- a function of each of all that is given for several
map_flat : {A B C : Type 0} (h : B → C) (f : A → List B) (xs : List A) → map h (flat_map f xs) ≡ flat_map (λ x. map h (f x)) xs
map_flat h f [] = refl
map_flat h f (x ∷ xs) = map-append h (f x) (flat_map f xs) ∙ ap (λ ys. map h (f x) ++ ys) (map_flat h f xs)

-- one more member is asked on
pub asked_more : (l : Leading) (n : ℕ) → flat_map (asked_of l) (up_to n) ++ asked_of l (n + 1) ≡ flat_map (asked_of l) (up_to (n + 1))
asked_more l n = let e : n + 1 ≡ suc n = omega arith in rw e (flat_map_more (asked_of l) [] (up_to n) (suc n))

-- a member that the leader knows to be covered as far is asked the same
asked_same : (m k : ℕ) (b : Ballot) (heard : List Packet) (l : Leader) (x : Leading) → b ≡ l.ballot → cover_of x k ≡ cover_heard heard l k → map (prepare_of m b) (asked_of x k) ≡ asks_on m heard l k
asked_same m k b heard l x e h = rw (e, h) (by_test (nat_lt (cover_heard heard l k) positions))
  where
    by_test : (t : Bool) → map (prepare_of m l.ballot) (cond t (record { member = k; from = suc (cover_heard heard l k) } ∷ []) []) ≡ cond t (packet m (Prepare l.ballot (suc (cover_heard heard l k))) k ∷ []) []
    by_test true = refl
    by_test false = refl

-- the proposer's part of a Resend
pub again_took : (y : Proposer) (x : Leading) (s : Sends) → y.lead ≡ Some x → IsAgain y.members x s → (heard : List Packet) (leader : Option Leader) (applied : ℕ) → Knows heard leader y
    → TookPart (on_resend y.members y.member (record { heard = heard; leader = leader; applied = applied })) (accepts_first y.members y.member (Some s)) y
again_took y x s e h heard None applied k = absurd (let f : ⊥ = cc in f)
again_took y x s e h heard (Some l) applied k =
    let same : k.0 ≡ x = some_one (sym k.1 ∙ e) in
    let led : IsLed y.members heard l x = subst (IsLed y.members heard l) same k.2 in
    let ballot : s.ballot ≡ l.ballot = h.ballot_is ∙ led.ballot in
    record {
      running = record { heard = heard; leader = Some l; applied = applied };
      runs = refl;
      knows = k;
      sends = sym (rw (h.open_ones, h.asked, led.proposals) (ap₂ (λ xs ys. xs ++ ys) (ap (λ b. accepts y.members y.member b l.proposals) ballot)
          (map_flat (prepare_of y.member s.ballot) (asked_of x) (up_to y.members) ∙ same_members y.members _ _ (λ i u v. asked_same y.member i s.ballot heard l x ballot (led.covers i u v)))));
    }
