-- The limits that all members hold to, each defined where it is first needed.
pub use Rattle.ballots.specs.Values.{most_entries, most_open, positions}
pub use Rattle.ballots.specs.Ballot.{last_round, most_members}
pub use Rattle.ballots.specs.Terms.{most_answer, most_level, most_text}
