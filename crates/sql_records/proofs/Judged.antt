-- What is known of a connection whose tables were read.
use Rattle.std.proofs.Common.{◌≡◌, ◌≤◌, ◌⊎◌, ℕ, length, inl, inr, List, [], ◌∷◌, map, IsTrue, false, sym, ap, subst, ◌∙◌, ⊎_elim, Result, Ok, Err, IfOk, OnOk, refl}
use Rattle.std.specs.List.Sorted.{IsPermutation}
use Rattle.sqlite.specs.Order.{Row}
use Rattle.sqlite.specs.Effect.{Database}
use Rattle.sqlite.specs.State.{State, IsUnchanged, IsLive}
use Rattle.sqlite_catalog.specs.Listing.{IsSound}
use Rattle.ballots.specs.Terms.{Setup}
use Rattle.ballots.specs.declared.ballot.Ballot.{Ballot}
use Rattle.paxos.specs.Records.{Record}
use Rattle.records.specs.Kept.{AreAbove, IsRising}
use Rattle.record_tables.specs.Texts.{schema}
use Rattle.record_tables.specs.declared.version.Version.{Version}
use Rattle.record_tables.specs.declared.version.Version.TheVariants.{Second}
use Rattle.record_tables.specs.Versions.{number_of, tables_of}
use Rattle.ballots.specs.Values.{positions}
use Rattle.paxos.specs.WellFormed.{IsRecord, AreVotes as MayBeVotes}
use Rattle.record_writes.specs.Stored.{IsPromise, IsStored, KeepsLearnt}
use Rattle.record_writes.specs.Holds.{Holds}
use Rattle.sql_records.specs.Reading.{meta_shown, vote_shown, AreShown, ShowsMember}
use Rattle.record_writes.proofs.Holding.{SettledAt, StaysAt}
use Rattle.sql_records.proofs.Loaded.{loaded, SpeltApart}
use Rattle.sql_records.proofs.Kept.{one_record}

-- of a connection that is open, the record that stands alone is one of those of which one stands
pub one_of : (apart : SpeltApart) (s : State) (o : Setup) (r a b : Record) → StaysAt s → IsTrue s.is_open → Holds s o r r → Holds s o a b → (r ≡ a) ⊎ (r ≡ b)
one_of apart s o r a b stays up x y =
    let here : IsStored Second o s.committed.trees r = ⊎_elim (λ h. h) (λ h. h) (x.crash _ (stays up)) in
    ⊎_elim (λ is. inl (one_record apart o s.committed.trees r a here is)) (λ is. inr (one_record apart o s.committed.trees r b here is)) (y.crash _ (stays up))

-- so only one record stands
pub one_stands : (apart : SpeltApart) (s : State) (o : Setup) (a b : Record) → StaysAt s → IsTrue s.is_open → Holds s o a a → Holds s o b b → a ≡ b
one_stands apart s o a b stays up x y = ⊎_elim (λ h. h) (λ h. h) (one_of apart s o a b b stays up x y)

-- a promise, votes under it and values at positions that there are make a record
pub sound_record : {E : Type 0} (n : ℕ) (b : Ballot) (votes : Record) (result : Result Record E) → IsPromise n b → MayBeVotes n b 1 positions votes.votes → votes.promise ≡ b
    → IfOk result (λ x. x.promise ≡ votes.promise) → IfOk result (λ x. x.votes ≡ votes.votes) → IfOk result (λ x. length x.learnt ≤ positions) → IfOk result (λ x. IsRecord n x)
sound_record n b votes (Ok x) promise may is same_promise same_votes few =
    let p : x.promise ≡ b = same_promise ∙ is in
    record {
      promise = subst (IsPromise n) (sym p) promise;
      votes = subst (λ vs. MayBeVotes n x.promise 1 positions vs) (sym same_votes) (subst (λ q. MayBeVotes n q 1 positions votes.votes) (sym p) may);
      learnt = few;
    }
sound_record n b votes (Err e) promise may is same_promise same_votes few = tt

-- no call changes nothing
pub unchanged : (s : State) → IsTrue s.is_open → IsUnchanged s s
unchanged s up = (record { was_open = up; is_open = up; now_is = refl; committed_is = refl; mode = refl }, record { changes = refl; last_rowid = refl }, refl)

module _ (version : Version) (old mid new : State) (o : Setup) (has : old.now.schema ≡ tables_of version) (live : IsLive old) (first : IsUnchanged old mid) where
  pub sound : IsSound (tables_of version) old.now.trees
  sound = subst (λ s. IsSound s old.now.trees) has (live first.0.was_open).0

  -- what the rows of the first two tables show, and what is kept, is a record
  pub stored : {E : Type 0} (row : Row) (b : Ballot) (rows : List Row) (votes : Record) (result : Result Record E) → IsPermutation (map meta_shown (old.now.trees 0)) (row ∷ []) → ShowsMember (number_of version) o b row
      → IsPermutation (map vote_shown (mid.now.trees 1)) rows → AreShown o.members b rows votes.votes → votes.promise ≡ b → IsRising votes
      → IfOk result (λ x. KeepsLearnt version old.now.trees x.learnt) → IfOk result (λ x. x.promise ≡ votes.promise) → IfOk result (λ x. x.votes ≡ votes.votes)
      → IfOk result (λ x. IsStored version o old.now.trees x)
  stored row b rows votes (Ok x) metas m moved shown promise rising kept same_promise same_votes =
      loaded version o old.now.trees sound row b rows x metas m (subst (λ (d : Database). IsPermutation (map vote_shown (d.trees 1)) rows) first.0.now_is moved)
      (subst (AreShown o.members b rows) (sym same_votes) shown) (same_promise ∙ promise) (subst (AreAbove 0) (sym same_votes) rising) kept
  stored row b rows votes (Err e) metas m moved shown promise rising kept same_promise same_votes = tt

module _ (old new : State) (o : Setup) where
  holds : (r : Record) → old.now.schema ≡ schema → old.in_transaction ≡ false → (IsTrue old.is_open → old.now ≡ old.committed) → IsUnchanged old new → IsStored Second o old.now.trees r → SettledAt new → Holds new o r r
  holds r has mode settled all stored at_rest =
      let kept : new.committed ≡ old.now = all.0.committed_is ∙ sym (settled all.0.was_open) in
      record {
        crash = λ db left. inl (subst (λ t. IsStored Second o t r) (sym (at_rest all.0.is_open db left ∙ ap (λ (d : Database). d.trees) kept)) stored);
        known = λ _. ap (λ (d : Database). d.schema) all.0.now_is ∙ has;
        settled = λ _. all.0.now_is ∙ sym kept;
        mode = all.0.mode ∙ mode;
      }

  only : (apart : SpeltApart) (r : Record) → (IsTrue old.is_open → old.now ≡ old.committed) → IsUnchanged old new → IsStored Second o old.now.trees r → StaysAt old → (a b : Record) → Holds old o a b → (r ≡ a) ⊎ (r ≡ b)
  only apart r settled all stored stays a b h =
      let up = all.0.was_open in
      let here : IsStored Second o old.committed.trees r = subst (λ (d : Database). IsStored Second o d.trees r) (settled up) stored in
      ⊎_elim (λ is. inl (one_record apart o old.committed.trees r a here is)) (λ is. inr (one_record apart o old.committed.trees r b here is)) (h.crash old.committed.trees (stays up))

  pub found : {E : Type 0} (apart : SpeltApart) → StaysAt old → SettledAt new → (result : Result Record E) → OnOk result (old.now.schema ≡ schema) → OnOk result (old.in_transaction ≡ false) → OnOk result (IsTrue old.is_open → old.now ≡ old.committed)
      → OnOk result (IsUnchanged old new) → IfOk result (λ x. IsStored Second o old.now.trees x) → IfOk result (λ x. Holds new o x x × ((p q : Record) → Holds old o p q → (x ≡ p) ⊎ (x ≡ q)))
  found apart stays at_rest (Ok x) has mode settled all stored = (holds x has mode settled all stored at_rest, only apart x settled all stored stays)
  found apart stays at_rest (Err e) has mode settled all stored = tt
