use Rattle.sessions.proofs.Meanings.{kept_reply-first, kept_reply-none}
use Rattle.sessions.proofs.laws.replies.Goals as goal

pub returns-clause-first : goal.returns-clause-first
returns-clause-first c = kept_reply-first

pub returns-clause-none : goal.returns-clause-none
returns-clause-none c = kept_reply-none
