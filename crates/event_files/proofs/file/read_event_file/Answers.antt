use Rattle.std.proofs.Common.{◌≡◌, [], refl, subst, sym, rules}
use Rattle.event_files.specs.EventFiles.{EventFileRead, IsFaultOf, commands_from, file_of, lines_of}
use Rattle.event_files.proofs.file.read_event_file.Goals as goal

pub returns-in-Err-clause-wrong : goal.returns-in-Err-clause-wrong
unfolding file_of
returns-in-Err-clause-wrong c =
    let group = c.in-Some-2.group in
    let after = c.in_ok-failures.after in
    let failures = c.in_ok-failures.failures.items in
    let same : file_of c.args.bytes.now ≡ commands_from group failures [] after.number (lines_of after.bytes.now) = search rules in
    subst (λ (r : EventFileRead). IsFaultOf r c.in-Err.fault) (sym same) (c.in-Err.ensures.wrong group failures refl)
