use Rattle.std.proofs.Common.{◌<◌, length, rules}
use Rattle.event_files.proofs.FirstLines.{lines_of-none, lines_of-step}
use Rattle.event_files.proofs.lines.first_line.Goals as goal

pub returns-then-is_empty-clause-found : goal.returns-then-is_empty-clause-found
returns-then-is_empty-clause-found c = lines_of-none c.args.bytes.now (search rules)

pub returns-clause-found : goal.returns-clause-found
returns-clause-found c =
    let some : 0 < length c.args.bytes.now = search rules in
    rw (c.cut_line.ensures.before, c.cut_line.ensures.after) (lines_of-step c.args.bytes.now some)
