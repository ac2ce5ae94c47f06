-- The only member of a group, and what its reader has seen.
use Rattle.std.proofs.Common.{◌≡◌, ◌⊎◌, ℕ, suc, ◌+◌, arith, refl, sym, ap, subst, ◌∙◌, inl, ⊎_elim, Bool, List, [], ◌∷◌, ◌++◌, length, length-append, append-nil, Option, Some}
use Rattle.std.specs.Prelude.{option_to_list}
use Rattle.ballots.specs.declared.value.Value.{Value}
use Rattle.member.specs.Steps.{Input}
use Rattle.node.proofs.Going.{values_count}
use Rattle.node.specs.Nodes.{HasStarted, Node, RunsAs}
use Rattle.node.specs.declared.outbox.Outbox.{Outbox}
use Rattle.paxos.specs.Application.{Application}
use Rattle.paxos.specs.Knowledge.{learnt, news, values_to}
use Rattle.paxos.specs.Records.{Record, empty_record}
use Rattle.paxos.specs.Step.{Running, resumed, values_of}
use Rattle.paxos.specs.WellFormed.{IsRecord}
use Rattle.paxos.specs.World.{applies_to}
use Rattle.published.specs.Readers.{Learns, Reader, first_readers, new_reader}
use Rattle.published.specs.Stores.{Keeps, Publishes, handed_on}
use Rattle.readers.specs.Handing.{Site, Turns}
use Rattle.sessions.specs.Session.{SessionTerm, Means}
use Rattle.sight.proofs.Beginnings.{begins_itself, begins_through, same_length}
use Rattle.sight.specs.Sights.{IsSight}
use Rattle.paxq_run.specs.Sites.{Runs, GoesOn, IsLast, Shows}

-- ---- the start
empty_is_record : (n : ℕ) → IsRecord n empty_record
empty_is_record n = record { promise = inl refl; votes = tt; learnt = omega arith }

-- a node that was opened over a record that keeps nothing runs
pub opens : (x : Node Record SessionTerm) (is_short : Bool) (n : ℕ) (records : Record) → records ≡ empty_record → ((a b : Record) → (records ≡ a) ⊎ (records ≡ b) → (x.member.acceptor.kept ≡ a) ⊎ (x.member.acceptor.kept ≡ b))
    → (IsRecord n x.member.acceptor.kept → HasStarted Means x is_short) → (running : Running) × RunsAs Means running x
opens x is_short n records empty loaded started =
    let kept : x.member.acceptor.kept ≡ empty_record = ⊎_elim (λ (e : x.member.acceptor.kept ≡ empty_record). e) (λ (e : x.member.acceptor.kept ≡ empty_record). e) (loaded empty_record empty_record (inl empty)) in
    let h = started (subst (IsRecord n) (sym kept) (empty_is_record n)) in
    (applies_to x.setup.members h.applied (resumed x.setup.member x.member.acceptor.kept), h.runs_as)

-- a site over it runs, where readers are shown what it has applied
pub runs_opened : (s : Site Record SessionTerm) (x : Node Record SessionTerm) → s.node ≡ x → (u : Running) → RunsAs Means u x → s.store.published ≡ values_of x.setup.members u → s.store.pending ≡ [] → Runs s
runs_opened s x node u r shown none =
    let P : Node Record SessionTerm → Type 0 = λ y. IsSight (handed_on s.store) (values_of y.setup.members u) in
    let all : handed_on s.store ≡ s.store.published = ap (λ vs. s.store.published ++ vs) none ∙ append-nil s.store.published in
    let begun : P x = subst (λ (vs : List Value). IsSight vs (values_of x.setup.members u)) (sym (all ∙ shown)) (begins_itself (values_of x.setup.members u)) in
    (u, subst (λ (y : Node Record SessionTerm). RunsAs Means u y) (sym node) r, subst P (sym node) begun)

-- the only reader has seen what is published
pub only_reader : (published : List Value) (rest : List Reader) (reader : Reader) → rest ++ reader ∷ [] ≡ first_readers 1 published → reader.sight ≡ published
only_reader published [] reader e = let same : reader ≡ new_reader 1 published = cc e in ap (λ (r : Reader). r.sight) same
only_reader published (r ∷ rest) reader e = let long = length-append rest (reader ∷ []) in let same = ap length e in absurd (omega (arith, long, same))

-- ---- steps
pub goes_itself : (s : Site Record SessionTerm) → GoesOn s s
goes_itself s = record { runs = λ r. r; keeps = (refl, begins_itself s.store.pending); setup = refl }

pub goes_through : (a b c : Site Record SessionTerm) → GoesOn a b → GoesOn b c → GoesOn a c
goes_through a b c g h =
    record {
      runs = λ r. h.runs (g.runs r);
      keeps = (h.keeps.0 ∙ g.keeps.0, begins_through a.store.pending b.store.pending c.store.pending g.keeps.1 h.keeps.1);
      setup = h.setup ∙ g.setup;
    }

pub goes_by_turn : (app : Application) (i : Input) (old new : Site Record SessionTerm) (o : Outbox) → Turns Means app i old new o → Keeps old.store new.store → new.node.setup ≡ old.node.setup → GoesOn old new
goes_by_turn app i old new o turns keeps setup =
    record {
      runs = λ r. (let t = turns r.0 r.1 r.2 in (t.took.running, t.took.runs_as, t.handed));
      keeps = keeps;
      setup = setup;
    }

-- ---- what is shown
-- just the values that are shown are applied
pub values_are : (names : List (List ℕ)) (values : List Value) (s : Site Record SessionTerm) (sight : List Value) → (h : Shows names values s sight) → values_of s.node.setup.members h.running ≡ values
values_are names values s sight h =
    let n = s.node.setup.members in
    let u = h.running in
    let all : length (values_of n u) ≡ u.applied = values_count n (news u.heard) u.applied h.runs_as.most in
    let begins : IsSight s.store.published (values_of n u) = begins_through s.store.published (handed_on s.store) (values_of n u) (s.store.pending, refl) h.handed in
    let first : IsSight values (values_of n u) = subst (λ (vs : List Value). IsSight vs (values_of n u)) h.shown begins in
    same_length (values_of n u) (values_of n u) values (begins_itself (values_of n u)) first (all ∙ h.applied)

-- so the state is what they mean
pub shows_means : (names : List (List ℕ)) (values : List Value) (s : Site Record SessionTerm) (sight : List Value) → Shows names values s sight → Means names values s.node.application
shows_means names values s sight h =
    subst (λ (vs : List Value). Means names vs s.node.application) (values_are names values s sight h)
    (subst (λ (ns : List (List ℕ)). Means ns (values_of s.node.setup.members h.running) s.node.application) h.names_are h.runs_as.applied)

-- a reader that has seen them still has
pub shows_seen : (names : List (List ℕ)) (values : List Value) (s : Site Record SessionTerm) (old new : List Value) → Shows names values s old → IsSight old new → length new ≡ length s.store.published → Shows names values s new
shows_seen names values s old new h begins count =
    let whole : new ≡ values = same_length new new values (begins_itself new) (subst (λ (vs : List Value). IsSight vs new) h.seen begins) (count ∙ ap length h.shown) in
    record { running = h.running; runs_as = h.runs_as; handed = h.handed; names_are = h.names_are; applied = h.applied; shown = h.shown; seen = whole }

-- no value, where nothing is applied
nothing_first : (published pending : List Value) (n : ℕ) (u : Running) → u.applied ≡ 0 → IsSight (published ++ pending) (values_of n u) → published ≡ []
nothing_first published pending n u none begins =
    let empty : values_of n u ≡ [] = ap (values_to n (news u.heard)) none in
    let short : length (published ++ pending) + length begins.0 ≡ 0 = sym (length-append (published ++ pending) begins.0) ∙ ap length (begins.1 ∙ empty) in
    is_empty published (omega (arith, short, length-append published pending))
  where
    is_empty : (vs : List Value) → length vs ≡ 0 → vs ≡ []
    is_empty [] e = refl
    is_empty (v ∷ vs) e = absurd (omega (arith, e))

pub shows_nothing : (names : List (List ℕ)) (old new : Site Record SessionTerm) → GoesOn old new → ((u : Running) → RunsAs Means u new.node → 0 ≡ u.applied) → (sight : List Value) → Runs old → old.node.setup.names ≡ names → sight ≡ old.store.published → Shows names [] new sight
shows_nothing names old new goes none sight runs are seen =
    let r = goes.runs runs in
    let zero_applied : r.0.applied ≡ 0 = sym (none r.0 r.1) in
    let shown : new.store.published ≡ [] = nothing_first new.store.published new.store.pending new.node.setup.members r.0 zero_applied r.2 in
    record {
      running = r.0;
      runs_as = r.1;
      handed = r.2;
      names_are = ap (λ t. t.names) goes.setup ∙ are;
      applied = zero_applied;
      shown = shown;
      seen = seen ∙ sym goes.keeps.0 ∙ shown;
    }

-- one value more
module _ (names : List (List ℕ)) (values : List Value) (old mid new : Site Record SessionTerm) (sight seen : List Value) (value : Value) (count : ℕ)
    (shows : Shows names values old sight) (goes : GoesOn old mid) (publishes : Publishes mid.store new.store) (node : new.node ≡ mid.node)
    (is_count : count ≡ length new.store.published) (learns : Learns new.store.published sight seen) (one : count ≡ length old.store.published + 1)
    (last : (u : Running) → RunsAs Means u new.node → IsLast new u count value) where
  abbrev runs : Runs mid
  runs = goes.runs (shows.running, shows.runs_as, shows.handed)

  abbrev u : Running
  u = runs.0

  abbrev n : ℕ
  n = new.node.setup.members

  runs_as : RunsAs Means u new.node
  runs_as = subst (λ (x : Node Record SessionTerm). RunsAs Means u x) (sym node) runs.1

  is_last : IsLast new u count value
  is_last = last u runs_as

  same_members : mid.node.setup.members ≡ n
  same_members = ap (λ (x : Node Record SessionTerm). x.setup.members) (sym node)

  begins : IsSight new.store.published (values_of n u)
  begins =
      let h : IsSight (handed_on mid.store) (values_of n u) = subst (λ (k : ℕ). IsSight (handed_on mid.store) (values_of k u)) same_members runs.2 in
      subst (λ (vs : List Value). IsSight vs (values_of n u)) (sym publishes.0) h

  all : length (values_of n u) ≡ u.applied
  all = values_count n (news u.heard) u.applied runs_as.most

  whole : new.store.published ≡ values_of n u
  whole = same_length (values_of n u) new.store.published (values_of n u) begins (begins_itself (values_of n u)) (sym is_count ∙ sym is_last.0 ∙ sym all)

  -- how many there were
  long : u.applied ≡ suc (length values)
  long = let e = ap length shows.shown in omega (arith, e, is_last.0, one)

  before : IsSight values (values_of n u)
  before =
      let kept : mid.store.published ≡ values = goes.keeps.0 ∙ shows.shown in
      let begun : IsSight mid.store.published new.store.published = (mid.store.pending, sym publishes.0) in
      subst (λ (vs : List Value). IsSight vs (values_of n u)) kept (begins_through mid.store.published new.store.published (values_of n u) begun begins)

  ends : values_of n u ≡ values_to n (news u.heard) (length values) ++ value ∷ []
  ends =
      let at_end : count ≡ suc (length values) = sym is_last.0 ∙ long in
      let there : learnt n (suc (length values)) (news u.heard) ≡ Some value = subst (λ (k : ℕ). learnt n k (news u.heard) ≡ Some value) at_end is_last.1 in
      ap (values_to n (news u.heard)) long ∙ ap (λ (o : Option Value). values_to n (news u.heard) (length values) ++ option_to_list o) there

  first : values_to n (news u.heard) (length values) ≡ values
  first =
      let most = runs_as.most in
      let few : length (values_to n (news u.heard) (length values)) ≡ length values = values_count n (news u.heard) (length values) (omega (arith, long, most)) in
      same_length (values_of n u) (values_to n (news u.heard) (length values)) values (value ∷ [], sym ends) before few

  pub shows_next : Shows names (values ++ value ∷ []) new seen
  shows_next =
      let shown : new.store.published ≡ values ++ value ∷ [] = whole ∙ ends ∙ ap (λ vs. vs ++ value ∷ []) first in
      record {
        running = u;
        runs_as = runs_as;
        handed = subst (λ (vs : List Value). IsSight vs (values_of n u)) (sym (append-nil new.store.published) ∙ ap (λ vs. new.store.published ++ vs) (sym publishes.1)) begins;
        names_are = ap (λ (x : Node Record SessionTerm). x.setup.names) node ∙ ap (λ t. t.names) goes.setup ∙ shows.names_are;
        applied = long ∙ sym (length-append values (value ∷ []) ∙ (let e : length values + 1 ≡ suc (length values) = omega arith in e));
        shown = shown;
        seen = ⊎_elim (λ (old_is : seen ≡ sight). absurd (let told = learns.1 in let is = length-append new.store.published told.0 in let whole_is = ap length told.1 in let same = ap length old_is in let had = ap length shows.seen in let was = ap length shows.shown in omega (arith, is, whole_is, same, had, was, is_count, one)))
            (λ (new_is : seen ≡ new.store.published). new_is ∙ shown) learns.2;
      }
