use Rattle.std.proofs.lemmas.Result.{err_from_is_err_and}
use Rattle.evaluator.proofs.Forms.{count_fails, count_gives, fails_counted, as_meant, of_number, of_string, of_variable, of_context, of_sequence, of_signed, of_chain, of_if, of_quantified, of_flwor, of_step, of_filter, of_call, of_attribute, of_text, of_comment, of_instruction, of_path, of_document, of_element, of_insert, of_delete, of_replace_node, of_replace_value, of_rename, of_copy}
use Rattle.evaluator.proofs.value.+value_of.Goals as goal

pub value_of-returns-in_err-items : goal.value_of-returns-in_err-items
value_of-returns-in_err-items t c =
    let p = err_from_is_err_and c.from_residual.result c.from_residual.ensures.1 in
    rw (p.1, p.2) (fails_counted c.args.x.now c.args.env.now c.args.run.now _ c.in_err-items.ensures)

pub value_of-returns-in_err-count : goal.value_of-returns-in_err-count
value_of-returns-in_err-count t c =
    let p = err_from_is_err_and c.from_residual-in_err-count.result c.from_residual-in_err-count.ensures.1 in
    rw (p.1, p.2) (count_fails c.args.x.now c.args.env.now c.args.run.now _ c.count.new.self _ _ c.in_ok-items.ensures c.in_err-count.ensures.counted)

pub value_of-returns : goal.value_of-returns
value_of-returns t c = count_gives c.args.x.now c.args.env.now c.args.run.now _ _ _ _ c.in_ok-items.ensures c.in_ok-count.ensures.counted c.in_ok-count.ensures.same

pub value_by_form-returns-in-Integer : goal.value_by_form-returns-in-Integer
value_by_form-returns-in-Integer t c = as_meant _ _ _ _ _ _ _ c.in-Integer.is (of_number _) c.number.ensures

pub value_by_form-returns-in-String : goal.value_by_form-returns-in-String
value_by_form-returns-in-String t c = as_meant _ _ _ _ _ _ _ c.in-String.is (of_string _) c.string.ensures

pub value_by_form-returns-in-Variable : goal.value_by_form-returns-in-Variable
value_by_form-returns-in-Variable t c = as_meant _ _ _ _ _ _ _ c.in-Variable.is (of_variable _) c.variable.ensures

pub value_by_form-returns-in-Context : goal.value_by_form-returns-in-Context
value_by_form-returns-in-Context t c = as_meant _ _ _ _ _ _ _ c.in-Context.is of_context c.context_item.ensures

pub value_by_form-returns-in-Sequence : goal.value_by_form-returns-in-Sequence
value_by_form-returns-in-Sequence t c = as_meant _ _ _ _ _ _ _ c.in-Sequence.is (of_sequence _) c.sequence.ensures

pub value_by_form-returns-in-Signed : goal.value_by_form-returns-in-Signed
value_by_form-returns-in-Signed t c = as_meant _ _ _ _ _ _ _ c.in-Signed.is (of_signed _ _) c.signed.ensures

pub value_by_form-returns-in-Chain : goal.value_by_form-returns-in-Chain
value_by_form-returns-in-Chain t c = as_meant _ _ _ _ _ _ _ c.in-Chain.is (of_chain _ _) c.chain.ensures

pub value_by_form-returns-in-If : goal.value_by_form-returns-in-If
value_by_form-returns-in-If t c = as_meant _ _ _ _ _ _ _ c.in-If.is (of_if _ _ _) c.conditional.ensures

pub value_by_form-returns-in-Quantified : goal.value_by_form-returns-in-Quantified
value_by_form-returns-in-Quantified t c = as_meant _ _ _ _ _ _ _ c.in-Quantified.is (of_quantified _ _ _) c.quantified.ensures

pub value_by_form-returns-in-Flwor : goal.value_by_form-returns-in-Flwor
value_by_form-returns-in-Flwor t c = as_meant _ _ _ _ _ _ _ c.in-Flwor.is (of_flwor _ _ _ _) c.flwor.ensures

pub value_by_form-returns-in-Step : goal.value_by_form-returns-in-Step
value_by_form-returns-in-Step t c = as_meant _ _ _ _ _ _ _ c.in-Step.is (of_step _ _ _) c.step.ensures

pub value_by_form-returns-in-Filter : goal.value_by_form-returns-in-Filter
value_by_form-returns-in-Filter t c = as_meant _ _ _ _ _ _ _ c.in-Filter.is (of_filter _ _) c.filter.ensures

pub value_by_form-returns-in-Call : goal.value_by_form-returns-in-Call
value_by_form-returns-in-Call t c = as_meant _ _ _ _ _ _ _ c.in-Call.is (of_call _ _) c.call.ensures

pub value_by_form-returns-in-Path : goal.value_by_form-returns-in-Path
value_by_form-returns-in-Path t c = as_meant _ _ _ _ _ _ _ c.in-Path.is (of_path _ _) c.path.ensures

pub value_by_form-returns-in-Attribute : goal.value_by_form-returns-in-Attribute
value_by_form-returns-in-Attribute t c = as_meant _ _ _ _ _ _ _ c.in-Attribute.is (of_attribute _ _) c.attribute.ensures

pub value_by_form-returns-in-Text : goal.value_by_form-returns-in-Text
value_by_form-returns-in-Text t c = as_meant _ _ _ _ _ _ _ c.in-Text.is (of_text _) c.text.ensures

pub value_by_form-returns-in-Comment : goal.value_by_form-returns-in-Comment
value_by_form-returns-in-Comment t c = as_meant _ _ _ _ _ _ _ c.in-Comment.is (of_comment _) c.comment.ensures

pub value_by_form-returns-in-Instruction : goal.value_by_form-returns-in-Instruction
value_by_form-returns-in-Instruction t c = as_meant _ _ _ _ _ _ _ c.in-Instruction.is (of_instruction _ _) c.instruction.ensures

pub value_by_form-returns-in-Document : goal.value_by_form-returns-in-Document
value_by_form-returns-in-Document t c = as_meant _ _ _ _ _ _ _ c.in-Document.is (of_document _) c.document.ensures

pub value_by_form-returns-in-Element : goal.value_by_form-returns-in-Element
value_by_form-returns-in-Element t c = as_meant _ _ _ _ _ _ _ c.in-Element.is (of_element _ _) c.element.ensures

pub value_by_form-returns-in-Insert : goal.value_by_form-returns-in-Insert
value_by_form-returns-in-Insert t c = as_meant _ _ _ _ _ _ _ c.in-Insert.is (of_insert _ _ _) c.insert.ensures

pub value_by_form-returns-in-Delete : goal.value_by_form-returns-in-Delete
value_by_form-returns-in-Delete t c = as_meant _ _ _ _ _ _ _ c.in-Delete.is (of_delete _) c.delete.ensures

pub value_by_form-returns-in-ReplaceNode : goal.value_by_form-returns-in-ReplaceNode
value_by_form-returns-in-ReplaceNode t c = as_meant _ _ _ _ _ _ _ c.in-ReplaceNode.is (of_replace_node _ _) c.replace_node.ensures

pub value_by_form-returns-in-ReplaceValue : goal.value_by_form-returns-in-ReplaceValue
value_by_form-returns-in-ReplaceValue t c = as_meant _ _ _ _ _ _ _ c.in-ReplaceValue.is (of_replace_value _ _) c.replace_value.ensures

pub value_by_form-returns-in-Rename : goal.value_by_form-returns-in-Rename
value_by_form-returns-in-Rename t c = as_meant _ _ _ _ _ _ _ c.in-Rename.is (of_rename _ _) c.rename.ensures

pub value_by_form-returns-in-Copy : goal.value_by_form-returns-in-Copy
value_by_form-returns-in-Copy t c = as_meant _ _ _ _ _ _ _ c.in-Copy.is (of_copy _ _ _) c.copy.ensures
