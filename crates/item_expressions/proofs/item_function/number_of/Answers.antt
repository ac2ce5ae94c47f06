use Rattle.std.proofs.Common.{◌∙◌, Ok, FitsSigned, w64, refl, ap, rules}
use Rattle.std.proofs.lemmas.Int.{to_z-of_z}
use Rattle.item_expressions.proofs.Numbers.{never_none, number_fails, number_found, of_lists}
use Rattle.item_expressions.proofs.item_function.number_of.Goals as goal

pub unreachable-requires : goal.unreachable-requires
unreachable-requires c =
    never_none c.args.operator c.args.left.now c.args.right.now
    (of_lists c.args.operator c.args.left.now c.args.right.now _ _ _ c.from_ref.ensures.value c.from_ref-2.ensures.value c.arithmetic.ensures ∙ c.in-Ok-None.is ∙ ap Ok c.in-Ok-None.field-0-is)

pub returns-in-Ok-Some : goal.returns-in-Ok-Some
returns-in-Ok-Some c =
    let fits : FitsSigned w64 c.in-Ok-Some.value = search rules in
    rw (
      to_z-of_z w64 c.in-Ok-Some.value fits,
      number_found c.args.operator c.args.left.now c.args.right.now _
          (of_lists c.args.operator c.args.left.now c.args.right.now _ _ _ c.from_ref.ensures.value c.from_ref-2.ensures.value c.arithmetic.ensures ∙ c.in-Ok-Some.is ∙ ap Ok c.in-Ok-Some.field-0-is),
    ) refl

pub returns-in-Err : goal.returns-in-Err
returns-in-Err c =
    rw (number_fails c.args.operator c.args.left.now c.args.right.now _
    (of_lists c.args.operator c.args.left.now c.args.right.now _ _ _ c.from_ref.ensures.value c.from_ref-2.ensures.value c.arithmetic.ensures ∙ c.in-Err.is)) refl
