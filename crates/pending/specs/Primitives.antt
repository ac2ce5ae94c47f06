-- Update primitives (XQuery Update Facility 1.0, section 3.1.1).
use Rattle.std.specs.Prelude.{◌≡◌, ℕ, ◌==◌, if◌then◌else◌, List, [], string_bytes, refl}
use Rattle.std.specs.Coded.{Coded, code_by, coded×, coded_ℕ, coded_list}
use Rattle.data_model.specs.Trees.{Trees, no_trees, coded_trees}
use Rattle.data_model.specs.Tree.{all_of}
use Rattle.pending.specs.declared.primitive.Primitive.{Primitive}
use Rattle.pending.specs.declared.primitive.Primitive.TheVariants.{InsertBefore, InsertAfter, InsertInto, InsertIntoAsFirst, InsertIntoAsLast, InsertAttributes, Delete, ReplaceNode, ReplaceValue, ReplaceElementContent, Rename}

-- one change to the node with that identity, the target; by new trees or by a text, the bytes of UTF-8
pub data PrimitiveTerm : Type 0 where
  insert_before : (target : ℕ) → Trees → PrimitiveTerm
  insert_after : (target : ℕ) → Trees → PrimitiveTerm
  insert_into : (target : ℕ) → Trees → PrimitiveTerm
  insert_into_as_first : (target : ℕ) → Trees → PrimitiveTerm
  insert_into_as_last : (target : ℕ) → Trees → PrimitiveTerm
  insert_attributes : (target : ℕ) → Trees → PrimitiveTerm
  delete : (target : ℕ) → PrimitiveTerm
  replace_node : (target : ℕ) → Trees → PrimitiveTerm
  replace_value : (target : ℕ) → List ℕ → PrimitiveTerm
  replace_element_content : (target : ℕ) → Trees → PrimitiveTerm
  rename : (target : ℕ) → List ℕ → PrimitiveTerm

-- what a primitive of the code says
abbrev pub primitive_term : Primitive → PrimitiveTerm
primitive_term (InsertBefore i ts) = insert_before i (all_of ts.items)
primitive_term (InsertAfter i ts) = insert_after i (all_of ts.items)
primitive_term (InsertInto i ts) = insert_into i (all_of ts.items)
primitive_term (InsertIntoAsFirst i ts) = insert_into_as_first i (all_of ts.items)
primitive_term (InsertIntoAsLast i ts) = insert_into_as_last i (all_of ts.items)
primitive_term (InsertAttributes i ts) = insert_attributes i (all_of ts.items)
primitive_term (Delete i) = delete i
primitive_term (ReplaceNode i ts) = replace_node i (all_of ts.items)
primitive_term (ReplaceValue i text) = replace_value i (string_bytes text)
primitive_term (ReplaceElementContent i ts) = replace_element_content i (all_of ts.items)
primitive_term (Rename i name) = rename i (string_bytes name)

-- its fields and a number for its kind, by which proofs tell primitives apart
abbrev Fields : Type 0
Fields = ℕ × (ℕ × (Trees × List ℕ))

abbrev fields : PrimitiveTerm → Fields
fields (insert_before i ts) = (0, (i, (ts, [])))
fields (insert_after i ts) = (1, (i, (ts, [])))
fields (insert_into i ts) = (2, (i, (ts, [])))
fields (insert_into_as_first i ts) = (3, (i, (ts, [])))
fields (insert_into_as_last i ts) = (4, (i, (ts, [])))
fields (insert_attributes i ts) = (5, (i, (ts, [])))
fields (delete i) = (6, (i, (no_trees, [])))
fields (replace_node i ts) = (7, (i, (ts, [])))
fields (replace_value i text) = (8, (i, (no_trees, text)))
fields (replace_element_content i ts) = (9, (i, (ts, [])))
fields (rename i text) = (10, (i, (no_trees, text)))

abbrev of_kind : ℕ → (target : ℕ) → Trees → List ℕ → PrimitiveTerm
of_kind k i ts text =
    if k == 0 then insert_before i ts
    else if k == 1 then insert_after i ts
    else if k == 2 then insert_into i ts
    else if k == 3 then insert_into_as_first i ts
    else if k == 4 then insert_into_as_last i ts
    else if k == 5 then insert_attributes i ts
    else if k == 6 then delete i
    else if k == 7 then replace_node i ts
    else if k == 8 then replace_value i text
    else if k == 9 then replace_element_content i ts
    else rename i text

pub again : (p : PrimitiveTerm) → of_kind (fields p).0 (fields p).1.0 (fields p).1.1.0 (fields p).1.1.1 ≡ p
again (insert_before i ts) = refl
again (insert_after i ts) = refl
again (insert_into i ts) = refl
again (insert_into_as_first i ts) = refl
again (insert_into_as_last i ts) = refl
again (insert_attributes i ts) = refl
again (delete i) = refl
again (replace_node i ts) = refl
again (replace_value i text) = refl
again (replace_element_content i ts) = refl
again (rename i text) = refl

abbrev pub primitive_code : Coded PrimitiveTerm
primitive_code = code_by Fields (coded× coded_ℕ (coded× coded_ℕ (coded× coded_trees (coded_list coded_ℕ)))) fields (λ f. of_kind f.0 f.1.0 f.1.1.0 f.1.1.1) again
