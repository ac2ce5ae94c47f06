use Rattle.event_files.proofs.Written.{lines_of-bytes_of, lines_of-last}
use Rattle.event_files.proofs.laws.written_lines.Goals as goal

pub returns-clause-ended : goal.returns-clause-ended
returns-clause-ended c = lines_of-bytes_of

pub returns-clause-last : goal.returns-clause-last
returns-clause-last c = lines_of-last
