-- The nodes of the check that the id is 1.
use Rattle.std.proofs.Common.{◌≡◌, ℕ, ◌≤◌, suc, zero, pos, List, length, Some, slice_get, inl, inr, refl, sym, ap, ◌∙◌, arith}
use Rattle.std.proofs.lemmas.Option.{slice_get_cases, get_or_from_slice_get, unwrap_or-slice_get}
use Rattle.std.specs.Prelude.{slice_index_or, unwrap_or}
use Rattle.sqlite.specs.declared.types.Value.TheVariants.{Null, Int}
use Rattle.sqlite.specs.Collation.TheVariants.{Binary}
use Rattle.sqlite.specs.Term.{Term, lit, col}
use Rattle.sqlite_sql.specs.declared.ops.BinaryOp.TheVariants.{Compare}
use Rattle.sqlite_sql.specs.declared.ops.CompareOp.TheVariants.{Eq}
use Rattle.sqlite_schema.specs.Code.{op_term, term_to, term_in}
use Rattle.sqlite_schema.specs.declared.code.Op.{Op}
use Rattle.sqlite_schema.specs.declared.code.Op.TheVariants.{Literal, Column, Unary, Binary as Operation, Case}
use Rattle.record_tables.specs.Texts.{id_test}
use Rattle.record_tables.specs.Checks.{Equal}

abbrev pub the_id : Term
the_id = col 1 0

abbrev pub the_one : Term
the_one = lit (Int (pos 1))

-- the nodes of an equality's term
equality : (below : ℕ → Term) (o : Op) → op_term below o ≡ id_test → (a : ℕ) × (b : ℕ) × (o ≡ Equal a b) × (below a ≡ the_id) × (below b ≡ the_one)
equality below (Literal v) h = absurd cc
equality below (Column s c) h = absurd cc
equality below (Unary k a) h = absurd cc
equality below (Operation k a b) h = let same : k ≡ Compare Eq Binary = cc in (a, b, ap (λ op. Operation op a b) same, cc, cc)
equality below (Case t a b) h = absurd cc

id_node : (below : ℕ → Term) (o : Op) → op_term below o ≡ the_id → o ≡ Column 1 0
id_node below (Literal v) h = absurd cc
id_node below (Column s c) h = let a : s ≡ 1 = cc in let b : c ≡ 0 = cc in λ i. Column (a i) (b i)
id_node below (Unary k a) h = absurd cc
id_node below (Operation k a b) h = absurd cc
id_node below (Case t a b) h = absurd cc

one_node : (below : ℕ → Term) (o : Op) → op_term below o ≡ the_one → o ≡ Literal (Int (pos 1))
one_node below (Literal v) h = let a : v ≡ Int (pos 1) = cc in ap Literal a
one_node below (Column s c) h = absurd cc
one_node below (Unary k a) h = absurd cc
one_node below (Operation k a b) h = absurd cc
one_node below (Case t a b) h = absurd cc

module _ (ops : List Op) where
  abbrev node : ℕ → Op
  node at = slice_index_or ops at (Literal Null)

  -- what is no NULL stands at a place
  stands : (at : ℕ) (o : Op) → node at ≡ o → (Literal Null ≡ o → ⊥) → slice_get ops at ≡ Some o
  stands at o is other = elim (slice_get_cases ops at).1 [
    | inl h ↦ h.2 ∙ ap Some (sym (get_or_from_slice_get ops at h.0 (Literal Null) h.2) ∙ is)
    | inr h ↦ absurd (other (sym (sym (unwrap_or-slice_get ops at (Literal Null)) ∙ ap (λ o. unwrap_or o (Literal Null)) h.1) ∙ is))
  ]

  there : (at : ℕ) (o : Op) → slice_get ops at ≡ Some o → node at ≡ o
  there at o h = get_or_from_slice_get ops at o (Literal Null) h

  at_depth : (depth at : ℕ) → term_to ops depth at ≡ id_test → (2 ≤ depth) × (a : ℕ) × (b : ℕ) × (slice_get ops at ≡ Some (Equal a b)) × (slice_get ops a ≡ Some (Column 1 0)) × (slice_get ops b ≡ Some (Literal (Int (pos 1))))
  at_depth zero at h = absurd cc
  at_depth (suc zero) at h = let it = equality (term_to ops zero) (node at) h in absurd (let e = it.3 in cc)
  at_depth (suc (suc d)) at h =
      let it = equality (term_to ops (suc d)) (node at) h in
      let left = id_node (term_to ops d) (node it.0) it.3 in
      let right = one_node (term_to ops d) (node it.1) it.4 in
      (omega arith, it.0, it.1, stands at _ it.2 (λ e. absurd cc), stands it.0 _ left (λ e. absurd cc), stands it.1 _ right (λ e. absurd cc))

  of_depth : (depth at a b : ℕ) → 2 ≤ depth → slice_get ops at ≡ Some (Equal a b) → slice_get ops a ≡ Some (Column 1 0) → slice_get ops b ≡ Some (Literal (Int (pos 1))) → term_to ops depth at ≡ id_test
  of_depth zero at a b deep top left right = absurd (omega (arith, deep))
  of_depth (suc zero) at a b deep top left right = absurd (omega (arith, deep))
  of_depth (suc (suc d)) at a b deep top left right = rw (there at _ top, there a _ left, there b _ right) refl

  pub told : (at : ℕ) → term_in ops at ≡ id_test → (2 ≤ length ops) × (a : ℕ) × (b : ℕ) × (slice_get ops at ≡ Some (Equal a b)) × (slice_get ops a ≡ Some (Column 1 0)) × (slice_get ops b ≡ Some (Literal (Int (pos 1))))
  told at h = at_depth (length ops) at h

  pub tells : (at a b : ℕ) → 2 ≤ length ops → slice_get ops at ≡ Some (Equal a b) → slice_get ops a ≡ Some (Column 1 0) → slice_get ops b ≡ Some (Literal (Int (pos 1))) → term_in ops at ≡ id_test
  tells at a b deep top left right = of_depth (length ops) at a b deep top left right
