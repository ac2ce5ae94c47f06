use Rattle.std.proofs.Common.{◌≡◌, ◌≤◌, length, Some, pos, slice_get, sym, subst, ◌∙◌, refl, arith}
use Rattle.sqlite.specs.declared.types.Value.TheVariants.{Int}
use Rattle.sqlite_schema.specs.declared.code.Op.TheVariants.{Column as ColumnOf, Literal}
use Rattle.record_tables.specs.Checks.{Equal}
use Rattle.record_tables.proofs.OneId.{told, tells}
use Rattle.record_tables.proofs.layout.is_test.Goals as goal

pub returns-then-nodes-lt2 : goal.returns-then-nodes-lt2
returns-then-nodes-lt2 c = (λ no. absurd cc, λ is. absurd (let few : 2 ≤ length c.args.nodes.now = (told c.args.nodes.now c.args.at is).0 in omega arith))

pub returns-then-is_id : goal.returns-then-is_id
returns-then-is_id c = (
  λ yes. tells c.args.nodes.now c.args.at c.in-Some.id c.in-Some.one (omega arith) c.in-Some.ensures.found (c.if-is_id.ensures.0 refl) (c.is_one.ensures.0 yes),
  λ is.
      let it = told c.args.nodes.now c.args.at is in
      let top : slice_get c.args.nodes.now c.args.at ≡ Some (Equal c.in-Some.id c.in-Some.one) = c.in-Some.ensures.found in
      let same : Some (Equal it.1 it.2) ≡ Some (Equal c.in-Some.id c.in-Some.one) = sym it.3 ∙ top in
      let place : it.2 ≡ c.in-Some.one = cc in
      c.is_one.ensures.1 (subst (λ b. slice_get c.args.nodes.now b ≡ Some (Literal (Int (pos 1)))) place it.5),
)

pub returns-else-is_id : goal.returns-else-is_id
returns-else-is_id c = (
  λ yes. absurd (let no = c.if-is_id.false in cc),
  λ is.
      let it = told c.args.nodes.now c.args.at is in
      let top : slice_get c.args.nodes.now c.args.at ≡ Some (Equal c.in-Some.id c.in-Some.one) = c.in-Some.ensures.found in
      let same : Some (Equal it.1 it.2) ≡ Some (Equal c.in-Some.id c.in-Some.one) = sym it.3 ∙ top in
      let place : it.1 ≡ c.in-Some.id = cc in
      c.is_id.ensures.1 (subst (λ a. slice_get c.args.nodes.now a ≡ Some (ColumnOf 1 0)) place it.4),
)

pub returns-in-None : goal.returns-in-None
returns-in-None c = (λ no. absurd cc, λ is. let it = told c.args.nodes.now c.args.at is in absurd (c.in-None.ensures.none refl it.1 it.2 it.3))
