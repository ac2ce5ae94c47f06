-- How long an answer may be (our own choice), and where a reply's request was applied.
use Rattle.std.specs.Prelude.{ℕ, ◌≤◌, length}
use Rattle.ballots.specs.Terms.{most_answer}
use Rattle.ballots.specs.Replies.{Answered, text, fault}
use Rattle.ballots.specs.declared.reply.Reply.{Reply}
use Rattle.ballots.specs.declared.reply.Reply.TheVariants.{Done, Fault}

-- its text has at most so many bytes as an answer may have
abbrev pub IsWithin : Answered → Type 0
IsWithin (text t) = length t ≤ most_answer
IsWithin (fault code) = Unit {0}

-- the position at which its request was applied
abbrev pub applied_at : Reply → ℕ
applied_at (Done position) = position
applied_at (Fault code position) = position
