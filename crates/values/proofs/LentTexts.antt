-- The text of a node whose string value stands in one text.
use Rattle.std.proofs.Common.{◌≡◌, ◌∙◌, ℕ, false, if◌then◌else◌, List, length, nat_lt, Option, Some, None, Ok, Err, refl, ap, sym}
use Rattle.data_model.specs.Limits.{most_bytes}
use Rattle.data_model.specs.Trees.{IsAt, Place, Trees, find, value_at, value_of}
use Rattle.data_model.specs.declared.node.Kind.{Kind}
use Rattle.data_model.specs.declared.node.Kind.TheVariants as kind
use Rattle.fault_codes.specs.declared.code.Code.TheVariants.{PXQ0002}
use Rattle.node_table.specs.Plain.{IsPlainValue}
use Rattle.node_table.specs.declared.plain.PlainValue.{PlainValue}
use Rattle.values.specs.Atoms.{◌>>=◌, bounded, typed, typed_at}
use Rattle.values.specs.Comparisons.{as_string}
use Rattle.values.specs.declared.atom.Atom.TheVariants.{String}

as_typed : (k : Kind) (text : List ℕ) → as_string (typed k text) ≡ String text
as_typed kind.Document text = refl
as_typed kind.Element text = refl
as_typed kind.Attribute text = refl
as_typed kind.Text text = refl
as_typed kind.Comment text = refl
as_typed kind.Instruction text = refl

as_bounded : (k : Kind) (text : List ℕ) → nat_lt most_bytes (length text) ≡ false → (bounded k text >>= (λ a. Ok (as_string a))) ≡ Ok (String text)
as_bounded k text short =
    ap (λ b. (if b then Err PXQ0002 else Ok (typed k text)) >>= (λ a. Ok (as_string a))) short ∙ ap (λ a. Ok a) (as_typed k text)

at_place : (o : Option Place) (k : Kind) (text : List ℕ) → IsAt o (λ c. k ≡ c.kind) → text ≡ value_at o → typed_at o ≡ bounded k text
at_place None k text is same = absurd is
at_place (Some x) k text is same = ap (λ k. bounded k (value_of x.content x.children)) (sym is) ∙ ap (bounded k) (sym same)

pub as_plain : (ts : Trees) (i : ℕ) (v : PlainValue) → IsPlainValue ts i v → nat_lt most_bytes (length v.text.now) ≡ false → (typed_at (find i ts) >>= (λ a. Ok (as_string a))) ≡ Ok (String v.text.now)
as_plain ts i v h short = ap (λ r. r >>= (λ a. Ok (as_string a))) (at_place (find i ts) v.kind v.text.now h.kind h.text) ∙ as_bounded v.kind v.text.now short
