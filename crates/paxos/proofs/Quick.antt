-- Proposing computed: what a leader knows ends at a position, so the search above one is a comparison, and proposing takes a few turns.
use Rattle.std.proofs.Common.{◌≡◌, ℕ, zero, suc, ◌<◌, ◌≤◌, Bool, true, false, cond, arith, refl, ap, ◌∙◌, List, [], ◌∷◌, Option, Some, None, IsSome, is_some, ◌⊎◌, ◌&&◌, nat_le, nat_lt}
use Rattle.std.proofs.lemmas.Bool.{ne_eqb}
use Rattle.ballots.specs.declared.ballot.Ballot.{Ballot}
use Rattle.ballots.specs.Values.{positions}
use Rattle.ballots.specs.declared.value.Value.{Value}
use Rattle.ballots.specs.declared.value.Value.TheVariants.{NoOp}
use Rattle.ballots.specs.declared.value.Vote.{Vote}
use Rattle.ballots.specs.declared.value.Entry.{Entry}
use Rattle.ballots.specs.Messages.{Packet}
use Rattle.paxos.specs.Records.{vote_at}
use Rattle.paxos.specs.Knowledge.{Heard, AcceptedBy, ChosenAre, news, completed, first, learnt, Promised, windows, joins, cover, report_in, higher, reported}
use Rattle.paxos.specs.Proposing.{Turn, passes, proposes, has_place, lies_above, proposal, turn, turns}
use Rattle.paxos.specs.Step.{Leader, goes_on, turn_of, cover_heard, report_heard, is_learnt_heard}
use Rattle.paxos.proofs.Same.{lies_below_last}

-- all positions of the entries are at most k
abbrev pub EntriesUpTo : ℕ → List Entry → Type 0
EntriesUpTo k [] = Unit {0}
EntriesUpTo k (e ∷ es) = (e.position ≤ k) × EntriesUpTo k es

abbrev pub WindowsUpTo : ℕ → List Promised → Type 0
WindowsUpTo k [] = Unit {0}
WindowsUpTo k (x ∷ ws) = EntriesUpTo k x.window.entries × WindowsUpTo k ws

abbrev pub NewsUpTo : ℕ → List Heard → Type 0
NewsUpTo k [] = Unit {0}
NewsUpTo k (AcceptedBy m q vote ∷ hs) = (q ≤ k) × NewsUpTo k hs
NewsUpTo k (ChosenAre pairs ∷ hs) = ⊥

-- above k there is no vote
no_vote : (k q : ℕ) → k < q → (es : List Entry) → EntriesUpTo k es → vote_at q es ≡ None
no_vote k q l [] h = refl
no_vote k q l (e ∷ es) h = rw (ne_eqb q e.position (λ s. (let g = h.0 in absurd (omega arith)))) (no_vote k q l es h.1)

no_report : (k q : ℕ) → k < q → (x : Promised) → EntriesUpTo k x.window.entries → report_in q x.window ≡ None
no_report k q l x h = ap (λ (o : Option Vote). cond (nat_le x.window.from q && nat_le q x.window.covered) o None) (no_vote k q l x.window.entries h) ∙ none (nat_le x.window.from q && nat_le q x.window.covered)
  where
    none : (b : Bool) → cond {A = Option Vote} b None None ≡ None
    none true = refl
    none false = refl

no_reports : (k q : ℕ) → k < q → (b : Ballot) (base : ℕ) (ws : List Promised) → WindowsUpTo k ws → reported b base q ws ≡ None
no_reports k q l b base [] h = refl
no_reports k q l b base (x ∷ ws) h = one (joins b (cover b base x.member ws) x.window) (no_reports k q l b base ws h.1) (no_report k q l x h.0)
  where
    one : (t : Bool) → reported b base q ws ≡ None → report_in q x.window ≡ None → cond t (higher (reported b base q ws) (report_in q x.window)) (reported b base q ws) ≡ None
    one true e f = rw (e, f) refl
    one false e f = e

-- above k nothing is learnt
nothing_learnt : (n k q : ℕ) → k < q → (heard : List Heard) → NewsUpTo k heard → is_some (learnt n q heard) ≡ false
nothing_learnt n k q l [] h = refl
nothing_learnt n k q l (AcceptedBy m p vote ∷ hs) h = one (learnt n q hs) (nothing_learnt n k q l hs h.1)
    (rw (ne_eqb q p (λ e. (let g = h.0 in absurd (omega arith)))) refl)
  where
    one : (o : Option Value) → is_some o ≡ false → completed n q (AcceptedBy m p vote) (AcceptedBy m p vote ∷ hs) ≡ None → is_some (first o (completed n q (AcceptedBy m p vote) (AcceptedBy m p vote ∷ hs))) ≡ false
    one None e f = rw f refl
    one (Some v) e f = e
nothing_learnt n k q l (ChosenAre pairs ∷ hs) h = absurd h

-- what the leader knows ends at k, where it knows something, or it knows nothing (0)
pub record EndsAt (n : ℕ) (heard : List Packet) (l : Leader) (k : ℕ) : Type 0 where
  pub windows_end : WindowsUpTo k (windows heard)
  pub news_end : NewsUpTo k (news heard)
  pub known : 0 < k → IsSome (report_heard heard l k) ⊎ (is_learnt_heard n heard k ≡ true)
  pub most : k ≤ positions

-- a turn, with the comparison in place of the search
abbrev pub quick_proposal : (k : ℕ) → Turn → Option Vote → Option Turn
quick_proposal k t (Some vote) = Some (proposes vote.value t)
quick_proposal k t None = cond (nat_lt t.next k) (Some (proposes NoOp t)) None

abbrev pub quick_turn : (n : ℕ) → (ℕ → ℕ) → (ℕ → Option Vote) → (ℕ → Bool) → (k : ℕ) → Turn → Option Turn
quick_turn n c r f k t = cond (has_place n c t) (cond (f t.next) (Some (passes t)) (quick_proposal k t (r t.next))) None

-- turns until they stop, if they do within so many
abbrev pub quick_turns : (n : ℕ) → (ℕ → ℕ) → (ℕ → Option Vote) → (ℕ → Bool) → (k : ℕ) → (fuel : ℕ) → Turn → Option Turn
quick_turns n c r f k zero t = None
quick_turns n c r f k (suc j) t = elim (quick_turn n c r f k t) as (λ o. Option Turn) [ None ↦ Some t | Some u ↦ quick_turns n c r f k j u ]

-- both are one
module _ (n : ℕ) (c : ℕ → ℕ) (r : ℕ → Option Vote) (f : ℕ → Bool) (k : ℕ) (above : (p : ℕ) → lies_above r f p ≡ nat_lt p k) where
  same_proposal : (t : Turn) (o : Option Vote) → proposal r f t o ≡ quick_proposal k t o
  same_proposal t (Some vote) = refl
  same_proposal t None = ap (λ (b : Bool). cond b (Some (proposes NoOp t)) None) (above t.next)

  pub same_turn : (t : Turn) → turn n c r f t ≡ quick_turn n c r f k t
  same_turn t = ap (λ (o : Option Turn). cond (has_place n c t) (cond (f t.next) (Some (passes t)) o) None) (same_proposal t (r t.next))

  pub same_turns : (fuel m : ℕ) (t end : Turn) → fuel ≤ m → quick_turns n c r f k fuel t ≡ Some end → turns n c r f m t ≡ end
  same_turns zero m t end l e = cc
  same_turns (suc j) zero t end l e = absurd (omega arith)
  same_turns (suc j) (suc m) t end l e = ap (λ (o : Option Turn). elim o as (λ x. Turn) [ None ↦ t | Some u ↦ turns n c r f m u ]) (same_turn t) ∙ one (λ u g. same_turns j m u end (omega arith) g) (quick_turn n c r f k t) e
    where
      one : ((u : Turn) → quick_turns n c r f k j u ≡ Some end → turns n c r f m u ≡ end) → (o : Option Turn)
          → elim o as (λ x. Option Turn) [ None ↦ Some t | Some u ↦ quick_turns n c r f k j u ] ≡ Some end → elim o as (λ x. Turn) [ None ↦ t | Some u ↦ turns n c r f m u ] ≡ end
      one rest None g = cc
      one rest (Some u) g = rest u g

search_ends : (n : ℕ) (heard : List Packet) (l : Leader) (k : ℕ) → EndsAt n heard l k → (p : ℕ) → lies_above (report_heard heard l) (is_learnt_heard n heard) p ≡ nat_lt p k
search_ends n heard l k ends p = lies_below_last (report_heard heard l) (is_learnt_heard n heard) k
    (λ q a. (no_reports k q a l.ballot l.base (windows heard) ends.windows_end, nothing_learnt n k q a (news heard) ends.news_end)) ends.known ends.most p

-- proposing, where the quick turns stop
pub goes_quickly : (n : ℕ) (heard : List Packet) (l : Leader) (k fuel : ℕ) (end : Turn) → EndsAt n heard l k → fuel ≤ positions
    → quick_turns n (cover_heard heard l) (report_heard heard l) (is_learnt_heard n heard) k fuel (turn_of l) ≡ Some end → goes_on n heard l ≡ end
goes_quickly n heard l k fuel end ends enough e =
    same_turns n (cover_heard heard l) (report_heard heard l) (is_learnt_heard n heard) k (search_ends n heard l k ends) fuel positions (turn_of l) end enough e

-- whether there is a free place
pub turns_quickly : (n : ℕ) (heard : List Packet) (l : Leader) (k : ℕ) → EndsAt n heard l k
    → turn n (cover_heard heard l) (report_heard heard l) (is_learnt_heard n heard) (turn_of l) ≡ quick_turn n (cover_heard heard l) (report_heard heard l) (is_learnt_heard n heard) k (turn_of l)
turns_quickly n heard l k ends = same_turn n (cover_heard heard l) (report_heard heard l) (is_learnt_heard n heard) k (search_ends n heard l k ends) (turn_of l)
