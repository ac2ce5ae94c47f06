use Rattle.std.proofs.Common.{◌≡◌, ◌++◌, codes, map, string_bytes}
use Rattle.std.specs.List.{flat_map}
use Rattle.program_reports.specs.Reports.{line_feed}
use Rattle.printed_replies.proofs.print.push_indented.Given as goal

abbrev pub invariant-loop-line : goal.invariant-loop-line
invariant-loop-line l = string_bytes l.out ≡ string_bytes l.initial.out ++ flat_map (λ line. codes "  " ++ line ++ line_feed) (map (λ x. x.now) l.yielded)
