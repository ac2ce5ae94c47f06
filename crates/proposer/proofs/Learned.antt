-- The proposer's part of what a member does with what it learns.
use Rattle.std.proofs.Common.{◌≡◌, ℕ, ◌⊎◌, inl, inr, ⊎_elim, Bool, true, false, not, ◌||◌, cond, arith, refl, sym, ap, ap₂, ◌∙◌, subst, List, [], ◌∷◌, ◌++◌, map, Option, Some, None, is_some, eqb}
use Rattle.std.specs.Prelude.{is_none, option_to_list}
use Rattle.std.proofs.lemmas.Bool.{eq-eqb, ne_eqb, cases_eq}
use Rattle.ballots.specs.Messages.{Packet, Body, Promise}
use Rattle.ballots.specs.declared.value.Pair.{Pair}
use Rattle.ballots.specs.declared.value.Value.{Value}
use Rattle.paxos.specs.Knowledge.{Heard, AcceptedBy, ChosenAre, news, news_of, newly, newly_at, pair_of, promised_of, windows, learnt, cover, reported, higher}
use Rattle.paxos.specs.Lists.{Has}
use Rattle.paxos.specs.Proposing.{Turn, still_open}
use Rattle.paxos.specs.Records.{vote_at}
use Rattle.paxos.specs.Step.{Leader, Effect, accepts, closes, goes_on, leading, learns, on_news, cover_heard, report_heard, is_learnt_heard}
use Rattle.paxos.proofs.Lists.{has_flat}
use Rattle.paxos.proofs.News.{learnt_more, newly_or_older}
use Rattle.proposer.specs.declared.draft.Change.{Change}
use Rattle.proposer.specs.declared.draft.News.{News}
use Rattle.proposer.specs.declared.sends.Sends.{Sends}
use Rattle.proposer.specs.Beginning.{is_in}
use Rattle.proposer.specs.Hearing.{IsTaking, IsQuiet, TakesLearnt}
use Rattle.proposer.specs.Knowing.{IsLed, IsStopped, Knows, TookPart, prepare_of, prepares_first}
use Rattle.proposer.specs.Taking.{asked_on}
use Rattle.proposer.specs.Terms.{Leading, Proposer, cover_of, report_of}
use Rattle.proposer.proofs.Merging.{higher_none}
use Rattle.proposer.proofs.Promised.{Commits, or_none, taking_stopped, quiet_stopped}
use Rattle.proposer.proofs.Taken.{Agrees, later, step_goes, taken_led}

-- the positions of pairs
abbrev pub positions_in : List Pair → List ℕ
positions_in es = map (λ (e : Pair). e.position) es

-- What is newly learnt.

-- a position of the pairs is in their list
in_positions : (es : List Pair) (e : Pair) → Has es e → is_in e.position (positions_in es) ≡ true
in_positions [] e h = absurd h
in_positions (x ∷ es) e (inl q) = ap (λ b. b || is_in e.position (positions_in es)) (eq-eqb e.position x.position (ap (λ (z : Pair). z.position) (sym q)))
in_positions (x ∷ es) e (inr h) = ap (λ b. (eqb e.position x.position) || b) (in_positions es e h) ∙ or_true (eqb e.position x.position)
  where
    or_true : (b : Bool) → (b || true) ≡ true
    or_true true = refl
    or_true false = refl

-- a position in the list is that of a pair
from_positions : (p : ℕ) (es : List Pair) → is_in p (positions_in es) ≡ true → (e : Pair) × Has es e × (e.position ≡ p)
from_positions p [] h = absurd (let f : ⊥ = cc in f)
from_positions p (x ∷ es) h = by_test (λ k. from_positions p es k) (cases_eq p x.position)
  where
    by_test : (is_in p (positions_in es) ≡ true → (e : Pair) × Has es e × (e.position ≡ p)) → (p ≡ x.position) ⊎ (p ≡ x.position → ⊥) → (e : Pair) × Has (x ∷ es) e × (e.position ≡ p)
    by_test rest (inl e) = (x, inl refl, sym e)
    by_test rest (inr n) = let r = rest (sym (ap (λ b. b || is_in p (positions_in es)) (ne_eqb p x.position n)) ∙ h) in (r.0, inr r.1, r.2)

-- what is news at a position is learnt there
news_there : (n : ℕ) (h : Heard) (older : List Heard) (p : ℕ) (e : Pair) → Has (newly_at n h older p) e → (e.position ≡ p) × (is_some (learnt n p (h ∷ older)) ≡ true)
news_there n h older p e k = by_none (is_none (learnt n p older)) k
  where
    by_some : (o : Option Value) → learnt n p (h ∷ older) ≡ o → Has (map (pair_of p) (option_to_list o)) e → (e.position ≡ p) × (is_some (learnt n p (h ∷ older)) ≡ true)
    by_some None q k = absurd k
    by_some (Some v) q (inl f) = (ap (λ (z : Pair). z.position) (sym f), ap is_some q)
    by_some (Some v) q (inr f) = absurd f

    by_none : (b : Bool) → Has (cond b (map (pair_of p) (option_to_list (learnt n p (h ∷ older)))) []) e → (e.position ≡ p) × (is_some (learnt n p (h ∷ older)) ≡ true)
    by_none true k = by_some (learnt n p (h ∷ older)) refl k
    by_none false k = absurd k

-- what is newly learnt is learnt
news_learnt : (n : ℕ) (h : Heard) (older : List Heard) (e : Pair) → Has (newly n h older) e → is_some (learnt n e.position (h ∷ older)) ≡ true
news_learnt n (AcceptedBy m p v) older e k =
    let r = news_there n (AcceptedBy m p v) older p e k in subst (λ q. is_some (learnt n q (AcceptedBy m p v ∷ older)) ≡ true) (sym r.0) r.1
news_learnt n (ChosenAre pairs) older e k =
    let f = has_flat (λ (d : Pair). newly_at n (ChosenAre pairs) older d.position) pairs e k in
    let r = news_there n (ChosenAre pairs) older f.0.position e f.2 in
    subst (λ q. is_some (learnt n q (ChosenAre pairs ∷ older)) ≡ true) (sym r.0) r.1

-- a position is learnt then where it was before, or is newly learnt
learnt_or_news : (n : ℕ) (h : Heard) (older : List Heard) (p : ℕ) → is_some (learnt n p (h ∷ older)) ≡ (is_some (learnt n p older) || is_in p (positions_in (newly n h older)))
learnt_or_news n h older p = by_old (learnt n p older) refl
  where
    by_new : learnt n p older ≡ None → (o : Option Value) → learnt n p (h ∷ older) ≡ o → is_some o ≡ is_in p (positions_in (newly n h older))
    by_new q (Some v) f = ⊎_elim
        (λ (g : learnt n p older ≡ Some v). let e : ⊥ = (let w : None ≡ Some v = sym q ∙ g in cc) in absurd e)
        (λ (g : Has (newly n h older) (pair_of p v)). sym (in_positions (newly n h older) (pair_of p v) g))
        (newly_or_older n h older p v f)
    by_new q None f = sym (by_in (is_in p (positions_in (newly n h older))) refl)
      where
        by_in : (b : Bool) → is_in p (positions_in (newly n h older)) ≡ b → b ≡ false
        by_in false e = refl
        by_in true e =
            let r = from_positions p (newly n h older) e in
            let s : is_some (learnt n p (h ∷ older)) ≡ true = subst (λ q. is_some (learnt n q (h ∷ older)) ≡ true) r.2 (news_learnt n h older r.0 r.1) in
            let w : false ≡ true = sym (ap is_some f) ∙ s in let g : ⊥ = cc in absurd g

    by_old : (o : Option Value) → learnt n p older ≡ o → is_some (learnt n p (h ∷ older)) ≡ (is_some o || is_in p (positions_in (newly n h older)))
    by_old (Some v) q = ap is_some (learnt_more n p h older v q)
    by_old None q = by_new q (learnt n p (h ∷ older)) refl

-- One message more that tells something.
module _ (n : ℕ) (heard : List Packet) (k : Packet) (h : Heard) (tells : news_of k.sender k.body ≡ h ∷ []) where
  -- it promises nothing
  promises_nothing : promised_of k.sender k.body ≡ []
  promises_nothing = by_body k.body tells
    where
      by_body : (b : Body) → news_of k.sender b ≡ h ∷ [] → promised_of k.sender b ≡ []
      by_body (Promise w) e = let f : ⊥ = cc in absurd f
      by_body b e = refl

  windows_same : windows (k ∷ heard) ≡ windows heard
  windows_same = ap (λ ws. ws ++ windows heard) promises_nothing

  news_more : news (k ∷ heard) ≡ h ∷ news heard
  news_more = ap (λ hs. hs ++ news heard) tells

  -- what is learnt then
  learnt_then : (p : ℕ) → is_learnt_heard n (k ∷ heard) p ≡ (is_learnt_heard n heard p || is_in p (positions_in (newly n h (news heard))))
  learnt_then p = ap (λ hs. is_some (learnt n p hs)) news_more ∙ learnt_or_news n h (news heard) p

  cover_same : (l : Leader) (m : ℕ) → cover_heard (k ∷ heard) l m ≡ cover_heard heard l m
  cover_same l m = ap (cover l.ballot l.base m) windows_same

  report_same : (l : Leader) (p : ℕ) → report_heard (k ∷ heard) l p ≡ report_heard heard l p
  report_same l p = ap (reported l.ballot l.base p) windows_same

  -- where nothing is newly learnt, a leader knows what was heard as before
  quiet_led : (l : Leader) (x : Leading) → newly n h (news heard) ≡ [] → IsLed n heard l x → IsLed n (k ∷ heard) l x
  quiet_led l x e led = record {
    ballot = led.ballot;
    base = led.base;
    next = led.next;
    proposals = led.proposals;
    covers = λ m a b. led.covers m a b ∙ sym (cover_same l m);
    reports = λ p a. led.reports p a ∙ sym (report_same l p);
    learnt = λ p a. led.learnt p a ∙ sym (still p);
    unlearnt = λ w i. still w.position ∙ led.unlearnt w i;
  }
    where
      still : (p : ℕ) → is_learnt_heard n (k ∷ heard) p ≡ is_learnt_heard n heard p
      still p = learnt_then p ∙ ap (λ es. is_learnt_heard n heard p || is_in p (positions_in es)) e ∙ or_none (is_learnt_heard n heard p)

  pub quiet_knows : (leader : Option Leader) (x : Proposer) → x.members ≡ n → newly n h (news heard) ≡ [] → Knows heard leader x → Knows (k ∷ heard) leader x
  quiet_knows None x f e kn = kn
  quiet_knows (Some l) x f e kn = (kn.0, kn.1, subst (λ q. IsLed q (k ∷ heard) l kn.0) (sym f) (quiet_led l kn.0 e (subst (λ q. IsLed q heard l kn.0) f kn.2)))

  -- the same proposals are closed
  closed_same : (ps : List ℕ) (es : List Pair) → ps ≡ positions_in (newly n h (news heard)) → ((e : Pair) → Has es e → is_learnt_heard n heard e.position ≡ false) → still_open (λ p. is_in p ps) es ≡ still_open (is_learnt_heard n (k ∷ heard)) es
  closed_same ps [] e u = refl
  closed_same ps (x ∷ es) e u =
      let same : is_in x.position ps ≡ is_learnt_heard n (k ∷ heard) x.position = ap (is_in x.position) e ∙ sym (learnt_then x.position ∙ ap (λ b. b || is_in x.position (positions_in (newly n h (news heard)))) (u x (inl refl))) in
      ap₂ (λ b ys. cond (not b) (x ∷ ys) ys) same (closed_same ps es e (λ w i. u w (inr i)))

  -- what is left open isn't learnt
  open_unlearnt : (es : List Pair) (e : Pair) → Has (still_open (is_learnt_heard n (k ∷ heard)) es) e → is_learnt_heard n (k ∷ heard) e.position ≡ false
  open_unlearnt [] e i = absurd i
  open_unlearnt (x ∷ es) e i = by_test (λ j. open_unlearnt es e j) (is_learnt_heard n (k ∷ heard) x.position) refl i
    where
      by_test : (Has (still_open (is_learnt_heard n (k ∷ heard)) es) e → is_learnt_heard n (k ∷ heard) e.position ≡ false) → (b : Bool) → is_learnt_heard n (k ∷ heard) x.position ≡ b
          → Has (cond (not b) (x ∷ still_open (is_learnt_heard n (k ∷ heard)) es) (still_open (is_learnt_heard n (k ∷ heard)) es)) e → is_learnt_heard n (k ∷ heard) e.position ≡ false
      by_test rest true q i = rest i
      by_test rest false q (inl f) = ap (λ (z : Pair). is_learnt_heard n (k ∷ heard) z.position) (sym f) ∙ q
      by_test rest false q (inr j) = rest j

  learnt_agrees : (l : Leader) (x : Leading) (ps : List ℕ) (change : Change) (answer : Option Sends) → IsLed n heard l x → ps ≡ positions_in (newly n h (news heard)) → (t : IsTaking n x 0 0 [] ps change answer) → Agrees n (k ∷ heard) (closes n (k ∷ heard) l) x t.news
  learnt_agrees l x ps change answer led e t = record {
    ballot = led.ballot;
    base = led.base;
    next = led.next;
    least = (let f = led.next in let o = t.least in omega (arith, f, o));
    proposals = ap (λ qs. still_open (λ p. is_in p qs) x.proposals) t.told.learnt_are ∙ ap (still_open (λ p. is_in p ps)) led.proposals ∙ closed_same ps l.proposals e led.unlearnt;
    covers = λ m a b. ap (λ q. cond (eqb m q) t.news.covered (cover_of x m)) t.told.member_is ∙ ap (λ q. cond q t.news.covered (cover_of x m)) (ne_eqb m 0 (λ g. omega (arith, g, a))) ∙ led.covers m a b ∙ sym (cover_same l m);
    reports = λ p a. ap (λ es. higher (report_of x p) (vote_at p es)) t.told.entries_are ∙ higher_none (report_of x p) ∙ led.reports p a ∙ sym (report_same l p);
    learnt = λ p a. ap₂ (λ b qs. b || is_in p qs) (led.learnt p a) (t.told.learnt_are ∙ e) ∙ sym (learnt_then p);
    unlearnt = λ w i. open_unlearnt l.proposals w i;
  }

  -- nobody is asked on
  none_asked : (m : ℕ) (news : News) (s : Sends) → s.prepares.items ≡ asked_on news → news.member ≡ 0 → map (prepare_of m s.ballot) s.prepares.items ≡ []
  none_asked m news s e f = rw (e, f) refl

  -- the step of what is learnt
  taken_step : (m applied : ℕ) (l : Leader) (x : Leading) (x0 y : Proposer) (ps : List ℕ) (es : List Pair) (change : Change) (answer : Option Sends) → IsLed n heard l x → ps ≡ positions_in (newly n h (news heard)) → x0.members ≡ n → x0.lead ≡ Some x → Commits x0 change y → IsTaking n x 0 0 [] ps change answer
      → TookPart (leading n m (record { heard = k ∷ heard; leader = Some l; applied = applied }) (closes n (k ∷ heard) l) (goes_on n (k ∷ heard) (closes n (k ∷ heard) l)) [] es) (prepares_first n m answer) y
  taken_step m applied l x x0 y ps es change answer led f ns e c t =
      let a = learnt_agrees l x ps change answer led f t in
      let r = c.taken x t.news e t.change_is in
      let goes = step_goes n (k ∷ heard) (closes n (k ∷ heard) l) x t.news a t.gone in
      record {
        running = record { heard = k ∷ heard; leader = Some (later n (k ∷ heard) (closes n (k ∷ heard) l) x t.news a t.gone); applied = applied };
        runs = ap (λ (u : Turn). Some (record { heard = k ∷ heard; leader = Some (record { ballot = l.ballot; base = l.base; next = u.next; proposals = u.proposals }); applied = applied })) goes;
        knows = rw r.1 (r.0, refl, subst (λ q. IsLed q (k ∷ heard) (later n (k ∷ heard) (closes n (k ∷ heard) l) x t.news a t.gone) r.0) (sym ns) (taken_led n (k ∷ heard) (closes n (k ∷ heard) l) x t.news a t.gone r.0 r.2));
        sends = ap₂ (λ ps (u : Turn). ps ++ accepts n m l.ballot u.made) (sym (none_asked m t.news t.sends t.said.prepares_are t.told.member_is)) goes
            ∙ ap₂ (λ b es. map (prepare_of m t.sends.ballot) t.sends.prepares.items ++ accepts n m b es) (sym (t.said.ballot_is ∙ led.ballot)) (sym t.said.accepts_are)
            ∙ ap (prepares_first n m) (sym t.answer_is);
      }

-- the proposer's part of the step
pub learned_took : (x y : Proposer) (ps : List ℕ) (change : Change) (answer : Option Sends) → TakesLearnt x.members x.lead ps change answer → Commits x change y
    → (heard : List Packet) (leader : Option Leader) (applied : ℕ) (k : Packet) (h : Heard) → news_of k.sender k.body ≡ h ∷ [] → ps ≡ positions_in (newly x.members h (news heard)) → Knows heard leader x
    → TookPart (on_news x.members x.member heard (record { heard = k ∷ heard; leader = leader; applied = applied }) h) (prepares_first x.members x.member answer) y
learned_took x y ps change answer t c heard leader applied k h tells e kn = by_news leader kn (newly x.members h (news heard)) refl (subst (λ qs. TakesLearnt x.members x.lead qs change answer) e t)
  where
    stays : (lead : Option Leader) (es : List Pair) → Knows (k ∷ heard) lead x → IsQuiet change answer → (effect : Effect) → effect.running ≡ Some (record { heard = k ∷ heard; leader = lead; applied = applied }) → effect.sends ≡ [] → TookPart effect (prepares_first x.members x.member answer) y
    stays lead es kn q effect f g = record {
      running = record { heard = k ∷ heard; leader = lead; applied = applied };
      runs = f;
      knows = rw (c.nothing q.change_is) kn;
      sends = g ∙ sym (ap (prepares_first x.members x.member) q.answer_is);
    }

    quiet_one : (o : Option Leading) → TakesLearnt x.members o [] change answer → IsQuiet change answer
    quiet_one None q = q
    quiet_one (Some l) q = q

    by_news : (lead : Option Leader) → Knows heard lead x → (es : List Pair) → newly x.members h (news heard) ≡ es → TakesLearnt x.members x.lead (positions_in es) change answer
        → TookPart (learns x.members x.member (record { heard = k ∷ heard; leader = lead; applied = applied }) es lead) (prepares_first x.members x.member answer) y
    by_news lead kn [] f q = stays lead [] (quiet_knows x.members heard k h tells lead x refl f kn) (quiet_one x.lead q) _ refl refl
    by_news None kn (w ∷ es) f q = stays None (w ∷ es) kn (subst (λ o. TakesLearnt x.members o (positions_in (w ∷ es)) change answer) kn q) _ refl refl
    by_news (Some l) kn (w ∷ es) f q =
        taken_step x.members heard k h tells x.member applied l kn.0 x y (positions_in (w ∷ es)) (w ∷ es) change answer kn.2 (ap positions_in (sym f)) refl kn.1 c (subst (λ o. TakesLearnt x.members o (positions_in (w ∷ es)) change answer) kn.1 q)

-- it has stopped then, if it had before
pub learned_stopped : (x y : Proposer) (ps : List ℕ) (change : Change) (answer : Option Sends) → TakesLearnt x.members x.lead ps change answer → Commits x change y → IsStopped x → IsStopped y
learned_stopped x y ps change answer t c s = by_lead x.lead refl ps t
  where
    by_lead : (o : Option Leading) → x.lead ≡ o → (qs : List ℕ) → TakesLearnt x.members o qs change answer → IsStopped y
    by_lead None e qs t = quiet_stopped x y change answer c t s
    by_lead (Some l) e [] t = quiet_stopped x y change answer c t s
    by_lead (Some l) e (q ∷ qs) t = taking_stopped x y l 0 0 [] (q ∷ qs) change answer e c t

-- A message that promises nothing and tells nothing leaves what a proposer knows.
pub unmoved_knows : (heard : List Packet) (leader : Option Leader) (x : Proposer) (k : Packet) → news_of k.sender k.body ≡ [] → promised_of k.sender k.body ≡ [] → Knows heard leader x → Knows (k ∷ heard) leader x
unmoved_knows heard None x k e f kn = kn
unmoved_knows heard (Some l) x k e f kn =
    let led = kn.2 in
    let windows_are : windows (k ∷ heard) ≡ windows heard = ap (λ ws. ws ++ windows heard) f in
    let news_are : news (k ∷ heard) ≡ news heard = ap (λ hs. hs ++ news heard) e in (
      kn.0,
      kn.1,
      record {
        ballot = led.ballot;
        base = led.base;
        next = led.next;
        proposals = led.proposals;
        covers = λ m a b. led.covers m a b ∙ sym (ap (cover l.ballot l.base m) windows_are);
        reports = λ p a. led.reports p a ∙ sym (ap (reported l.ballot l.base p) windows_are);
        learnt = λ p a. led.learnt p a ∙ sym (ap (λ hs. is_some (learnt x.members p hs)) news_are);
        unlearnt = λ w i. ap (λ hs. is_some (learnt x.members w.position hs)) news_are ∙ led.unlearnt w i;
      },
    )
