use Rattle.std.proofs.Common.{◌≡◌, pos, rules, arith}
use Rattle.sqlite_value.specs.Order.{column}
use Rattle.sqlite.specs.declared.types.Value.TheVariants.{Int, Text}
use Rattle.ballots.specs.Terms.{IsPlace}
use Rattle.sql_records.proofs.Owned.{someone}
use Rattle.sql_records.proofs.reading.is_of.Goals as goal

pub returns-clause-someone : goal.returns-clause-someone
returns-clause-someone c =
    let row = c.args.row.now in
    let group : column row 2 ≡ Int (pos c.in_ok-group.group) = search rules in
    let member : column row 3 ≡ Int (pos c.in_ok-member.member) = search rules in
    let members : column row 4 ≡ Int (pos c.in_ok-members.members) = search rules in
    let docs : column row 5 ≡ Text c.in-Ok-Text.names.now = search rules in
    let place : IsPlace c.in_ok-member.member c.in_ok-members.members = search rules in
    someone row c.in_ok-group.group c.in_ok-member.member c.in_ok-members.members c.in-Ok-Text.names.now group member members docs (omega arith) place
