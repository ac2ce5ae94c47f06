-- What the tables hold after a write.
use Rattle.std.proofs.Common.{◌≡◌, inl, inr, ℕ, suc, ◌<◌, ◌≤◌, ◌^◌, List, [], ◌∷◌, ◌++◌, map, length, Bool, true, false, ◌==◌, refl, sym, subst, ◌∙◌, arith}
use Rattle.sqlite.specs.Tree.{Trees}
use Rattle.sqlite_rules.specs.Lists.{Has}
use Rattle.ballots.specs.Terms.{Setup}
use Rattle.ballots.specs.Spelling.{IsValue}
use Rattle.ballots.specs.Ballot.{IsBallot, IsBallotOf, below, last_round}
use Rattle.ballots.specs.Values.{positions}
use Rattle.paxos.proofs.Order.{below_self, most_trans}
use Rattle.ballots.specs.declared.ballot.Ballot.{Ballot}
use Rattle.ballots.specs.declared.value.Vote.{Vote}
use Rattle.ballots.specs.declared.value.Entry.{Entry}
use Rattle.paxos.specs.Records.{Record, NewPromise, NewVote, NewLearnt, written, with_vote}
use Rattle.ballots.specs.declared.value.Value.{Value}
use Rattle.record_tables.specs.declared.version.Version.TheVariants.{Second}
use Rattle.record_writes.specs.Stored.{AreKept, IsStored, MayStand, learnt_row, meta_row, vote_row, times}
use Rattle.sqlite_trees.specs.Tree.{put_row}
use Rattle.record_writes.proofs.LearntRows.{keeps_next}
use Rattle.record_writes.proofs.Upsert.{without, has_new, has_kept, has_from, has_other, rises, has_without, stays_without, none_without, fewer_without, times_with, same_number}

-- its round is a parameter of a statement
pub low_round : (b : Ballot) → IsBallot b → b.round < 2 ^ 40
unfolding last_round
low_round b good = let most = good.1 in omega (arith, most)

pub promised : (o : Setup) (k : Record) (b : Ballot) (before after : Trees) → after 0 ≡ meta_row 2 o b.round b.member ∷ [] → after 1 ≡ before 1 → after 2 ≡ before 2 → IsBallotOf o.members b → below b k.promise ≡ false → IsStored Second o before k → IsStored Second o after (written (NewPromise b) k)
promised o k b before after meta votes learnt good over it = record {
  meta = meta;
  rows = it.rows;
  votes = votes ∙ it.votes;
  once = it.once;
  sound = it.sound;
  complete = it.complete;
  rising = it.rising;
  promise = inr good;
  each = λ e has. let was = it.each e has in record { most = was.most; ballot = was.ballot; under = most_trans e.vote.ballot k.promise b was.under over; value = was.value };
  kept = subst (λ t. AreKept t k.learnt) (sym learnt) it.kept;
}

module _ (o : Setup) (k : Record) (p : ℕ) (v : Vote) (before after : Trees) (it : IsStored Second o before (written (NewPromise v.ballot) k)) where
  abbrev rows' : List Entry
  rows' = with_vote p v (without p it.rows)

  once' : (q : ℕ) → times q rows' ≤ 1
  once' q = by (p == q) refl
    where
      by : (b : Bool) → (p == q) ≡ b → times q rows' ≤ 1
      by true eq = let is = times_with p q v (without p it.rows) (none_without p it.rows) in let none : times q (without p it.rows) ≡ 0 = subst (λ n. times n (without p it.rows) ≡ 0) (same_number p q eq) (none_without p it.rows) in omega (arith, rw eq at is)
      by false eq = let is = times_with p q v (without p it.rows) (none_without p it.rows) in let fewer = fewer_without p q it.rows in let one = it.once q in omega (arith, rw eq at is)

  sound' : (e : Entry) → Has rows' e → Has (with_vote p v k.votes) e
  sound' e h = elim (has_from p v (without p it.rows) e h) [
    | inl is ↦ subst (Has (with_vote p v k.votes)) (sym is) (has_new p v k.votes)
    | inr there ↦ let old = has_without p it.rows e there in has_kept p v k.votes e (it.sound e old.0) old.1
  ]

  complete' : (e : Entry) → Has (with_vote p v k.votes) e → Has rows' e
  complete' e h = elim (has_other 0 p v k.votes e it.rising h) [
    | inl is ↦ subst (Has rows') (sym is) (has_new p v (without p it.rows))
    | inr there ↦ has_kept p v (without p it.rows) e (stays_without p it.rows e (it.complete e there.0) there.1) there.1
  ]

  each' : p ≤ positions → IsBallotOf o.members v.ballot → IsValue v.value → (e : Entry) → Has (with_vote p v k.votes) e → MayStand o.members v.ballot e
  each' most ballot good e h = elim (has_from p v k.votes e h) [
    | inl is ↦ subst (MayStand o.members v.ballot) (sym is) (record { most = most; ballot = ballot; under = below_self v.ballot; value = good })
    | inr there ↦ it.each e there
  ]

  pub voted : after 0 ≡ before 0 → after 1 ≡ map vote_row (with_vote p v (without p it.rows)) → after 2 ≡ before 2 → 1 ≤ p → p ≤ positions → IsBallotOf o.members v.ballot → IsValue v.value → IsStored Second o after (written (NewVote p v) k)
  voted meta votes learnt least most ballot good = record {
    meta = meta ∙ it.meta;
    rows = rows';
    votes = votes;
    once = once';
    sound = sound';
    complete = complete';
    rising = rises 0 p v k.votes (omega (arith, least)) it.rising;
    promise = inr ballot;
    each = each' most ballot good;
    kept = subst (λ t. AreKept t k.learnt) (sym learnt) it.kept;
  }

-- a value is kept as learnt at the next position
pub kept_next : (o : Setup) (k : Record) (v : Value) (before after : Trees) → after 0 ≡ before 0 → after 1 ≡ before 1 → after 2 ≡ put_row (learnt_row (suc (length k.learnt)) v) (before 2) → suc (length k.learnt) ≤ positions → IsValue v → IsStored Second o before k
    → IsStored Second o after (written (NewLearnt v) k)
kept_next o k v before after meta votes learnt most good it = record {
  meta = meta ∙ it.meta;
  rows = it.rows;
  votes = votes ∙ it.votes;
  once = it.once;
  sound = it.sound;
  complete = it.complete;
  rising = it.rising;
  promise = it.promise;
  each = it.each;
  kept = subst (λ t. AreKept t (k.learnt ++ v ∷ [])) (sym learnt) (keeps_next (before 2) k.learnt v it.kept most good);
}
