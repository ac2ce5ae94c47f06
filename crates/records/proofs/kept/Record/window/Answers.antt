use Rattle.std.proofs.Common.{◌≡◌, ◌∙◌, ◌++◌, List, IsSome, Some, sym, ap, arith}
use Rattle.std.specs.Option.{option_copied}
use Rattle.ballots.specs.declared.value.Entry.{Entry}
use Rattle.paxos.specs.Records.{since, vote_at}
use Rattle.position_map.specs.Slots.{filled}
use Rattle.records.specs.Kept.{entries_of}
use Rattle.records.proofs.Votes.{next_rest, next_there, next_above, rising_filled, vote_filled, window_step, window_cut, window_all, one_more, no_clash}
use Rattle.records.proofs.kept.Record.window.Goals as goal
use Rattle.records.proofs.kept.Record.window.Goals.{in-Some-get+in_ok-clone+in_ok-push, in_default-get}

pub loop-next-init : goal.loop-next-init
loop-next-init c = rw (c.new-entries.ensures.items, ← c.self.view_is) (record { votes = next_rest _ _ _ c.next_from-next.ensures; there = next_there _ _ _ c.next_from-next.ensures; few = omega arith })

pub returns-then-len-eq-MOST_ENTRIES : goal.returns-then-len-eq-MOST_ENTRIES
returns-then-len-eq-MOST_ENTRIES c =
    let votes : List Entry = entries_of (filled c.self.inside.votes) in
    let same : c.args.self.now.votes ≡ votes = sym (ap (λ r. r.votes) c.self.view_is) in
    let there : IsSome (vote_at c.in-Some.position votes) = rw (c.in-Some.is, same) at c.loop-next.invariant.there in
    let so_far : c.loop-next.entries.items ++ since c.in-Some.position votes ≡ since c.args.from votes = rw (c.in-Some.is, same) at c.loop-next.invariant.votes in
    rw same (window_cut c.args.ballot c.args.from c.index.result.now.position c.in-Some.position votes c.loop-next.entries.items c.index.result.now (rising_filled _ c.self.invariant.0) there so_far (sym c.loop-next.entries.ok.0 ∙ sym c.len.ensures ∙ c.if-len-eq-MOST_ENTRIES.true) (ap (λ e. e.position) c.index.ensures))

pub loop-next-smaller : goal.loop-next-smaller
loop-next-smaller c = elim c.match-get.branch [
  | in-Some-get+in_ok-clone+in_ok-push w ↦ (one_more c.loop-next.entries.items c.match-get.entries.items _ (ap (λ v. v.items) w.entries-is ∙ w.in_ok-push.ensures.items) c.loop-next.invariant.few (λ e. c.if-len-eq-MOST_ENTRIES.false (c.len.ensures ∙ c.loop-next.entries.ok.0 ∙ e))).1
  | in_default-get w ↦
      let votes : List Entry = entries_of (filled c.self.inside.votes) in
      let same : c.args.self.now.votes ≡ votes = sym (ap (λ r. r.votes) c.self.view_is) in
      let there : IsSome (vote_at c.in-Some.position votes) = rw (c.in-Some.is, same) at c.loop-next.invariant.there in
      no_clash c.in-Some.position c.self.inside.votes there (sym (ap option_copied w.in_default-get.is) ∙ c.get.ensures.value)
]

pub loop-next-preserved : goal.loop-next-preserved
loop-next-preserved c =
    let votes : List Entry = entries_of (filled c.self.inside.votes) in
    let same : c.args.self.now.votes ≡ votes = sym (ap (λ r. r.votes) c.self.view_is) in
    let there : IsSome (vote_at c.in-Some.position votes) = rw (c.in-Some.is, same) at c.loop-next.invariant.there in
    let so_far : c.loop-next.entries.items ++ since c.in-Some.position votes ≡ since c.args.from votes = rw (c.in-Some.is, same) at c.loop-next.invariant.votes in
    let above = next_above _ c.in-Some.position (filled c.self.inside.votes) c.next_after-next.ensures in
    elim c.match-get.branch [
      | in-Some-get+in_ok-clone+in_ok-push w ↦
          let put = ap (λ v. v.items) w.entries-is ∙ w.in_ok-push.ensures.items in
          let vote : vote_at c.in-Some.position votes ≡ Some w.in_ok-clone.field-0 = vote_filled c.in-Some.position c.self.inside.votes _ (ap (λ v. Some v) w.in_ok-clone.ensures.cases ∙ sym (ap option_copied w.in-Some-get.is) ∙ c.get.ensures.value) in
          record {
            votes = rw (put, same) (window_step c.in-Some.position c.args.from w.in_ok-clone.field-0 c.next_after-next.result votes c.loop-next.entries.items (rising_filled _ c.self.invariant.0) vote (next_rest _ _ _ above) so_far);
            there = rw same (next_there _ _ _ above);
            few = (one_more c.loop-next.entries.items c.match-get.entries.items _ put c.loop-next.invariant.few (λ e. c.if-len-eq-MOST_ENTRIES.false (c.len.ensures ∙ c.loop-next.entries.ok.0 ∙ e))).0;
          }
      | in_default-get w ↦ no_clash c.in-Some.position c.self.inside.votes there (sym (ap option_copied w.in_default-get.is) ∙ c.get.ensures.value)
    ]

pub returns : goal.returns
returns c =
    let votes : List Entry = entries_of (filled c.self.inside.votes) in
    let same : c.args.self.now.votes ≡ votes = sym (ap (λ r. r.votes) c.self.view_is) in
    rw same (window_all c.args.ballot c.args.from votes c.loop-next.entries.items (rw (c.in_default.is, same) at c.loop-next.invariant.votes) c.loop-next.invariant.few)
