-- The bytes of a text are the UTF-8 of its characters.
use Rattle.std.proofs.Common.{◌≡◌, ◌∙◌, ap, sym, rules}
use Rattle.std.proofs.lemmas.Str.{encodes-chars}
use Rattle.std.specs.Int.{w64, from_be_bytes}
use Rattle.sorted_tuples.specs.Abbreviations.{eight_bytes, bytes_past}
use Rattle.sorted_tuples.proofs.abbreviations.text_abbreviation.Goals as goal

pub returns : goal.returns
returns c =
    let rest : c.bytes_past.result.now ≡ bytes_past c.args.past c.args.text.now = search rules in
    c.first_bytes.ensures ∙ ap (λ bytes. from_be_bytes w64 (eight_bytes bytes)) rest ∙ ap (λ bytes. from_be_bytes w64 (eight_bytes (bytes_past c.args.past bytes))) (sym (encodes-chars c.args.text.now c.utf8.text))
