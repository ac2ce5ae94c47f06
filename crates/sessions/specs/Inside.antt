-- How the fields of a state stand for what callers see.
use Rattle.std.specs.Prelude.{◌+◌, ◌*◌, ◌≤◌}
use Rattle.ballots.specs.Values.{positions}
use Rattle.query_meaning.specs.Running.{most_nodes}
use Rattle.update_meaning.specs.Results.{IsStored}
use Rattle.sessions.specs.Session.{SessionTerm}
use Rattle.sessions.specs.declared.state.State.TheInside.{Inside}

abbrev pub term_of : Inside → SessionTerm
term_of a = record { forest = a.forest; replies = a.replies.entries; applied = a.applied }

-- the trees are such as an update leaves; a value takes at most so many identities as there may be new nodes, and at most 64 documents come first
pub record IsSound (a : Inside) : Type 0 where
  pub stored : IsStored a.forest.trees
  pub next : a.forest.next ≤ 65 + a.applied * most_nodes
  pub few : a.applied ≤ positions
