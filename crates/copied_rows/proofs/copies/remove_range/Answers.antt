use Rattle.std.proofs.Common.{◌≡◌, ◌∙◌, arith, ap, ⊎_elim}
use Rattle.std.proofs.lemmas.Bool.{cases_lt}
use Rattle.node_table.specs.Rows.{row_of}
use Rattle.node_table.proofs.Rows.{row-unset}
use Rattle.copied_rows.proofs.copies.remove_range.Goals as goal

pub loop-number-preserved : goal.loop-number-preserved
loop-number-preserved c =
    let i = c.loop-number.invariant in
    let k = c.loop-number.number in
    let u = row-unset c.loop-number.rows c.remove.new.self k c.remove.ensures.removed in
    record {
      none = λ l. absurd (omega arith);
      removed = λ j l h. ⊎_elim (λ b. u.1 j (λ same. absurd (omega arith)) ∙ i.removed j l b) (λ b. (let same : j ≡ k = omega arith in ap (row_of c.remove.new.self) same ∙ u.0)) (cases_lt j k);
      below = λ j l. u.1 j (λ same. absurd (omega arith)) ∙ i.below j l;
      above = λ j l. u.1 j (λ same. absurd (omega arith)) ∙ i.above j (omega arith);
    }

pub returns-clause-above : goal.returns-clause-above
returns-clause-above c = λ j h.
    (let i = c.loop-number.invariant in
    ⊎_elim (λ b. i.below j b) (λ b. i.above j (⊎_elim (λ d. (let n = i.none d in omega arith)) (λ d. omega arith) (cases_lt c.args.end c.args.first))) (cases_lt j c.args.first))
