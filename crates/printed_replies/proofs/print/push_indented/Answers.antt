use Rattle.std.proofs.Common.{◌++◌, codes, string_bytes, ap, ◌∙◌, lit<}
use Rattle.std.specs.List.{flat_map}
use Rattle.std.proofs.lemmas.Iterator.Consumers.{YieldsList-end}
use Rattle.std.proofs.lemmas.Iterator.Splits.{YieldsList-from_str_split}
use Rattle.program_reports.specs.Reports.{line_feed}
use Rattle.printed_replies.proofs.print.push_indented.Goals as goal

pub returns : goal.returns
returns c =
    let end = YieldsList-end (YieldsList-from_str_split 10 c.args.text.now (lit< tt) (cc) (cc) (cc)) c.loop-line.yielded _ c.loop-line.yielded_by _ _ c.in-None.is c.next.ensures.steps in
    c.loop-line.invariant ∙ ap (λ lines. string_bytes c.args.out.now ++ flat_map (λ line. codes "  " ++ line ++ line_feed) lines) end.0
