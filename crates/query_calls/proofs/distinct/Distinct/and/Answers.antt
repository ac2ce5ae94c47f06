use Rattle.std.proofs.Common.{◌≡◌, ◌∙◌, ◌++◌, ◌∷◌, [], true, false, map, sym, ap, rules}
use Rattle.values.specs.Comparisons.{as_string}
use Rattle.query_meaning.specs.Functions.{and_distinct}
use Rattle.query_calls.specs.Keys.{value_of}
use Rattle.query_calls.proofs.Keys.{stays, grows, keys_grow, one_more, texts_more, texts_same}
use Rattle.query_calls.proofs.distinct.Distinct.and.Goals as goal

pub returns-then-not-branch : goal.returns-then-not-branch
returns-then-not-branch c =
    let no : c.in_ok-insert.field-0 ≡ false = search rules in
    stays c.self.inside.keys.keys c.self.inside.values.items c.of.result (as_string c.args.value.now) c.in_ok-insert.field-0 c.self.invariant.values c.self.invariant.texts c.of.ensures c.in_ok-insert.ensures.added no
    ∙ ap (λ vs. and_distinct vs (as_string c.args.value.now)) c.self.view_is

pub invariant_of-result-2 : goal.invariant_of-result-2
invariant_of-result-2 c =
    let yes : c.in_ok-insert.field-0 ≡ true = search rules in
    let more = keys_grow c.self.inside.keys.keys c.insert.new.self.keys c.of.result c.in_ok-insert.field-0 c.in_ok-insert.ensures.keys c.in_ok-insert.ensures.added yes in
    record {
      values =
          ap (map value_of) more ∙ one_more c.self.inside.keys.keys c.self.inside.values.items c.of.result (as_string c.args.value.now) c.self.invariant.values c.of.ensures
          ∙ ap (λ a. c.self.inside.values.items ++ a ∷ []) (sym c.in_ok-as_string.ensures) ∙ sym c.in_ok-push.ensures.items;
      texts = texts_same _ _ more (texts_more c.self.inside.keys.keys c.of.result c.self.invariant.texts c.of.ensures.text);
    }

pub returns : goal.returns
returns c =
    let yes : c.in_ok-insert.field-0 ≡ true = search rules in
    c.in_ok-push.ensures.items ∙ ap (λ a. c.self.inside.values.items ++ a ∷ []) c.in_ok-as_string.ensures
    ∙ grows c.self.inside.keys.keys c.self.inside.values.items c.of.result (as_string c.args.value.now) c.in_ok-insert.field-0 c.self.invariant.values c.self.invariant.texts c.of.ensures c.in_ok-insert.ensures.added yes
    ∙ ap (λ vs. and_distinct vs (as_string c.args.value.now)) c.self.view_is
