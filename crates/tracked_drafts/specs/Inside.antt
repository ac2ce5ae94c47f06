-- What the fields of a tracked draft stand for.
use Rattle.tracked_drafts.specs.Tests.{IsStoredBut}
use Rattle.tracked_drafts.specs.Tracked.{TrackedTerm}
use Rattle.tracked_drafts.specs.declared.tracked.TrackedDraft.TheInside.{Inside}

abbrev pub tracked_of : Inside → TrackedTerm
tracked_of a = record { draft = a.draft; touched = a.touched.keys }

-- what was not touched is as an update leaves it
abbrev pub IsTracked : Inside → Type 0
IsTracked a = IsStoredBut a.touched.keys a.draft.after
