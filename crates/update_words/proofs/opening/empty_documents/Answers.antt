use Rattle.std.proofs.Common.{◌≡◌, ◌≤◌, length, string_bytes, ap, sym, ◌∙◌, subst, arith}
use Rattle.std.proofs.lemmas.List.{length-map}
use Rattle.trees.specs.Forest.{ForestTerm}
use Rattle.update_meaning.specs.Results.{IsStored}
use Rattle.update_words.proofs.Openings.{opening_stored}
use Rattle.update_words.proofs.opening.empty_documents.Goals as goal

pub returns : goal.returns
returns c =
    let few : length c.as_slice.result.now ≤ 2 = omega arith in
    let same : length c.args.names.now ≡ length c.as_slice.result.now = sym (ap length c.as_slice.ensures.value) ∙ length-map c.as_slice.result.now string_bytes in
    subst (λ (f : ForestTerm). IsStored f.trees) (sym c.in_ok-new.ensures.opening) (opening_stored c.args.names.now (omega arith))
