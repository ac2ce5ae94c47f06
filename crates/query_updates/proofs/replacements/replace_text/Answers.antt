use Rattle.std.proofs.Common.{sym}
use Rattle.query_updates.proofs.Replaced.{text_set_gives}
use Rattle.query_updates.proofs.replacements.replace_text.Goals as goal

pub returns-in_ok-new_nodes-in_default : goal.returns-in_ok-new_nodes-in_default
returns-in_ok-new_nodes-in_default c =
    text_set_gives c.args.target c.args.values.now c.in_ok-text-in_default.text c.in_ok-spend-in_default.field-0 c.in_ok-new_nodes-in_default.field-0 c.args.run.now c.spend.new.self c.new_nodes.new.self c.set_text-in_default.new.run
    c.set_text-in_default.result c.in_default.len_at_least c.in_ok-text-in_default.ensures (rw (c.text_work.ensures, c.as_str.ensures) at c.in_ok-spend-in_default.ensures.spent) c.in_ok-new_nodes-in_default.ensures.made (rw (sym c.as_str-in_default.ensures) c.set_text-in_default.ensures)
