-- What a leader that took in a message has, and what it sends.
use Rattle.std.proofs.Common.{◌≡◌, ℕ, ◌-◌, ◌*◌, ◌≤◌, ◌<◌, ⊎_elim, Bool, true, false, ◌&&◌, cond, arith, refl, sym, ap, ap₂, ◌∙◌, subst, List, [], ◌∷◌, ◌++◌, length, Option, eqb}
use Rattle.std.specs.Prelude.{nat_le}
use Rattle.std.proofs.lemmas.Bool.{eq-eqb, ne_eqb, cases_eq}
use Rattle.ballots.specs.Messages.{Packet, Window}
use Rattle.ballots.specs.Values.{positions}
use Rattle.ballots.specs.declared.ballot.Ballot.{Ballot}
use Rattle.ballots.specs.declared.value.Pair.{Pair}
use Rattle.ballots.specs.declared.value.Vote.{Vote}
use Rattle.paxos.specs.Knowledge.{Promised, joins, cover, reported, report_in, higher}
use Rattle.paxos.specs.Lists.{Has}
use Rattle.paxos.specs.Proposing.{Turn, turns, HasStopped, Full, Spent, Uncovered, NothingAbove}
use Rattle.paxos.specs.Step.{Leader, goes_on, cover_heard, report_heard, is_learnt_heard, turn_of as turn_heard}
use Rattle.paxos.proofs.Lists.{has_cases}
use Rattle.paxos.proofs.Same.{SameAbove, turns_same, count_agrees}
use Rattle.paxos.proofs.Stopping.{turns_stop, went_on}
use Rattle.proposer.specs.declared.draft.News.{News}
use Rattle.proposer.specs.Knowing.{IsLed}
use Rattle.proposer.specs.Taking.{HasTaken, left_open, view_of}
use Rattle.proposer.specs.Terms.{Leading, cover_of, report_of, is_learnt_of, turn_of}
use Rattle.proposer.specs.Turning.{HasGone}
use Rattle.proposer.specs.Views.{View, cover_in, report_in_view, is_learnt_in}

-- One window more.

-- a window that doesn't join leaves what a member's windows cover
pub cover_skips : (b : Ballot) (base k : ℕ) (w : Window) (older : List Promised) (m : ℕ) → joins b (cover b base k older) w ≡ false → cover b base m (record { member = k; window = w } ∷ older) ≡ cover b base m older
cover_skips b base k w older m j = ⊎_elim
    (λ (e : k ≡ m). ap (λ t. cond (eqb k m && t) w.covered (cover b base m older)) (ap (λ i. joins b (cover b base i older) w) (sym e) ∙ j) ∙ passed (eqb k m))
    (λ (f : k ≡ m → ⊥). rw (ne_eqb k m f) refl) (cases_eq k m)
  where
    passed : (t : Bool) → cond (t && false) w.covered (cover b base m older) ≡ cover b base m older
    passed true = refl
    passed false = refl

-- a window that joins is covered
pub cover_joins : (b : Ballot) (base k : ℕ) (w : Window) (older : List Promised) (m : ℕ) → joins b (cover b base k older) w ≡ true → cover b base m (record { member = k; window = w } ∷ older) ≡ cond (eqb m k) w.covered (cover b base m older)
cover_joins b base k w older m j = ⊎_elim
    (λ (e : k ≡ m). ap₂ (λ s t. cond (s && t) w.covered (cover b base m older)) (eq-eqb k m e) (ap (λ i. joins b (cover b base i older) w) (sym e) ∙ j) ∙ sym (ap (λ t. cond t w.covered (cover b base m older)) (eq-eqb m k (sym e))))
    (λ (f : k ≡ m → ⊥). rw (ne_eqb k m f, ne_eqb m k (λ g. f (sym g))) refl) (cases_eq k m)

pub report_skips : (b : Ballot) (base k p : ℕ) (w : Window) (older : List Promised) → joins b (cover b base k older) w ≡ false → reported b base p (record { member = k; window = w } ∷ older) ≡ reported b base p older
report_skips b base k p w older j = ap (λ t. cond t (higher (reported b base p older) (report_in p w)) (reported b base p older)) j

pub report_joins : (b : Ballot) (base k p : ℕ) (w : Window) (older : List Promised) → joins b (cover b base k older) w ≡ true → reported b base p (record { member = k; window = w } ∷ older) ≡ higher (reported b base p older) (report_in p w)
report_joins b base k p w older j = ap (λ t. cond t (higher (reported b base p older) (report_in p w)) (reported b base p older)) j

-- A leader that takes in what was told, and knows then what was heard.
pub record Agrees (n : ℕ) (heard : List Packet) (l : Leader) (x : Leading) (news : News) : Type 0 where
  pub ballot : x.ballot ≡ l.ballot
  pub base : x.base ≡ l.base
  pub next : x.next ≡ l.next
  pub least : 1 ≤ l.next
  pub proposals : left_open x news ≡ l.proposals
  pub covers : (m : ℕ) → 1 ≤ m → m ≤ n → cover_in (view_of x news) m ≡ cover_heard heard l m
  pub reports : (p : ℕ) → l.next ≤ p → report_in_view (view_of x news) p ≡ report_heard heard l p
  pub learnt : (p : ℕ) → l.next ≤ p → is_learnt_in (view_of x news) p ≡ is_learnt_heard n heard p
  pub unlearnt : (e : Pair) → Has l.proposals e → is_learnt_heard n heard e.position ≡ false

module _ (n : ℕ) (heard : List Packet) (l : Leader) (x : Leading) (news : News) (a : Agrees n heard l x news) (gone : HasGone n (view_of x news) (left_open x news) x.next news.made) where
  v : View
  v = view_of x news

  -- the leader then
  abbrev pub later : Leader
  later = record { ballot = l.ballot; base = l.base; next = news.made.next; proposals = l.proposals ++ news.made.proposals.items }

  abbrev pub came_to : Turn
  came_to = record { next = news.made.next; proposals = l.proposals ++ news.made.proposals.items; made = news.made.proposals.items }

  same_above : SameAbove n (l.next - 1) (cover_in (view_of x news)) (cover_heard heard l) (report_in_view (view_of x news)) (report_heard heard l) (is_learnt_in (view_of x news)) (is_learnt_heard n heard)
  same_above = record {
    covers = λ m i j. a.covers m (omega (arith, i)) j;
    reports = λ p i. a.reports p (let k = a.least in omega (arith, i, k));
    learns = λ p i. a.learnt p (let k = a.least in omega (arith, i, k));
  }

  -- the step's proposing comes to the same
  pub step_goes : goes_on n heard l ≡ came_to
  step_goes =
      sym (turns_same n (l.next - 1) (cover_in (view_of x news)) (cover_heard heard l) (report_in_view (view_of x news)) (report_heard heard l) (is_learnt_in (view_of x news)) (is_learnt_heard n heard) same_above positions (turn_heard l) (let k = a.least in omega (arith, k)))
      ∙ ap₂ (λ q ps. turns n (cover_in (view_of x news)) (report_in_view (view_of x news)) (is_learnt_in (view_of x news)) positions (record { next = q; proposals = ps; made = [] })) (sym a.next) (sym a.proposals)
      ∙ gone
      ∙ ap (λ ps. record { next = news.made.next; proposals = ps ++ news.made.proposals.items; made = news.made.proposals.items }) a.proposals

  -- it went on from the next position
  pub goes_up : l.next ≤ news.made.next
  goes_up = subst (λ (t : Turn). l.next ≤ t.next) step_goes (went_on n (cover_heard heard l) (report_heard heard l) (is_learnt_heard n heard) l.next l.proposals (let k = a.least in omega (arith, k))).on

  -- what it proposes isn't learnt
  made_unlearnt : (e : Pair) → Has news.made.proposals.items e → is_learnt_heard n heard e.position ≡ false
  made_unlearnt e h = ((went_on n (cover_heard heard l) (report_heard heard l) (is_learnt_heard n heard) l.next l.proposals (let k = a.least in omega (arith, k))).reasons e (subst (λ (t : Turn). Has t.made e) (sym step_goes) h)).unlearnt

  -- the leader knows what was heard
  pub taken_led : (y : Leading) → HasTaken x news y → IsLed n heard later y
  taken_led y t = record {
    ballot = t.ballot_is ∙ a.ballot;
    base = t.base_is ∙ a.base;
    next = t.next_is;
    proposals = t.proposals_are ∙ ap (λ ps. ps ++ news.made.proposals.items) a.proposals;
    covers = λ m i j. t.covers_are m i ∙ a.covers m i j;
    reports = λ p i. t.reports_are p ∙ a.reports p (let g = goes_up in omega (arith, i, g));
    learnt = λ p i. t.learnt_are p ∙ a.learnt p (let g = goes_up in omega (arith, i, g));
    unlearnt = λ e i. ⊎_elim (a.unlearnt e) (made_unlearnt e) (has_cases l.proposals news.made.proposals.items e i);
  }

-- what stops one leader stops another that knows the same
pub stopped_same : (n : ℕ) (c d : ℕ → ℕ) (r s : ℕ → Option Vote) (i j : ℕ → Bool) (t u : Turn) → ((m : ℕ) → 1 ≤ m → c m ≡ d m) → ((p : ℕ) → r p ≡ s p) → ((p : ℕ) → i p ≡ j p) → t.next ≡ u.next → t.proposals ≡ u.proposals
    → HasStopped n c r i t → HasStopped n d s j u
stopped_same n c d r s i j t u e f g a b (Full h) = Full (let q = ap length b in omega (arith, h, q))
stopped_same n c d r s i j t u e f g a b (Spent h) = Spent (omega (arith, h, a))
stopped_same n c d r s i j t u e f g a b (Uncovered h) = Uncovered (λ m. h (subst (λ k. n < 2 * k) (count_agrees n (λ k. nat_le u.next (d k)) (λ k. nat_le t.next (c k)) (λ k l o. ap₂ nat_le (sym a) (sym (e k (omega (arith, l)))))) m))
stopped_same n c d r s i j t u e f g a b (NothingAbove h) = NothingAbove (λ p k l. let w = h p (omega (arith, k, a)) l in (sym (f p) ∙ w.0, sym (g p) ∙ w.1))

-- proposing has stopped
pub taken_stopped : (n : ℕ) (x y : Leading) (news : News) → 1 ≤ x.next → HasGone n (view_of x news) (left_open x news) x.next news.made → HasTaken x news y → HasStopped n (cover_of y) (report_of y) (is_learnt_of y) (turn_of y)
taken_stopped n x y news one gone t =
    stopped_same n (cover_in (view_of x news)) (cover_of y) (report_in_view (view_of x news)) (report_of y) (is_learnt_in (view_of x news)) (is_learnt_of y)
    (record { next = news.made.next; proposals = left_open x news ++ news.made.proposals.items; made = news.made.proposals.items }) (turn_of y)
    (λ m i. sym (t.covers_are m i)) (λ p. sym (t.reports_are p)) (λ p. sym (t.learnt_are p)) (sym t.next_is) (sym t.proposals_are)
    (subst (HasStopped n (cover_in (view_of x news)) (report_in_view (view_of x news)) (is_learnt_in (view_of x news))) gone
    (turns_stop n (cover_in (view_of x news)) (report_in_view (view_of x news)) (is_learnt_in (view_of x news)) positions (record { next = x.next; proposals = left_open x news; made = [] }) (omega (arith, one))))
