use Rattle.std.proofs.Common.{rules, ap, codes, map, sym, subst, true, false, true≢false, refl, ◌≡◌, ◌∙◌, [], Some, None, Option, option_map}
use Rattle.std.specs.Borrow.{Bor}
use Rattle.std.specs.Str.{IsUtf8, bytes_eq}
use Rattle.std.proofs.lemmas.Option.{same_Some}
use Rattle.std.specs.String.{string_bytes}
use Rattle.std.specs.Option.{IsSome, unwrap_or}
use Rattle.clap.specs.Words.{Text}
use Rattle.clap.proofs.WalkLemmas.{list_any-map}
use Rattle.command_line.specs.Words.{file_in}
use Rattle.command_line.proofs.Refusals.{dashes, some≢none}
use Rattle.command_line.proofs.Taken.{IsTaken, form_has_no_dashes, form_is_taken, taken_as, taken_asks, taken_is_form, taken_other}
use Rattle.command_line.proofs.words.read_file_form.Goals as goal

-- a text behind a reference is there
is_some_behind : (o : Option (Bor Text)) (x : Text) → option_map (λ s. s.now) o ≡ Some x → IsSome o
is_some_behind (Some s) x e = refl
is_some_behind None x e = absurd (some≢none x (sym e))

-- the text behind the reference is the text that was found
now_behind : (o : Option (Bor Text)) (s : Bor Text) (x : Text) → o ≡ Some s → option_map (λ s. s.now) o ≡ Some x → s.now ≡ x
now_behind o s x is e = ap (λ (t : Option Text). unwrap_or t []) (sym (ap (option_map (λ (b : Bor Text). b.now)) is) ∙ e)

pub returns-then-has_terminator-clause-no_run : goal.returns-then-has_terminator-clause-no_run
returns-then-has_terminator-clause-no_run c = λ e script is.
    let any = list_any-map (λ word. bytes_eq word dashes) string_bytes c.args.words.now in
    true≢false (sym c.if-has_terminator.true ∙ c.has_terminator.ensures ∙ any ∙ form_has_no_dashes true _ script is)

pub returns-then-has_terminator-clause-no_sim : goal.returns-then-has_terminator-clause-no_sim
returns-then-has_terminator-clause-no_sim c = λ e events is.
    let any = list_any-map (λ word. bytes_eq word dashes) string_bytes c.args.words.now in
    true≢false (sym c.if-has_terminator.true ∙ c.has_terminator.ensures ∙ any ∙ form_has_no_dashes false _ events is)

pub returns-in_err-matches-clause-no_run : goal.returns-in_err-matches-clause-no_run
returns-in_err-matches-clause-no_run c = λ e script is. c.in_err-matches.ensures.usage (search rules) (form_is_taken true _ script is)

pub returns-in_err-matches-clause-no_sim : goal.returns-in_err-matches-clause-no_sim
returns-in_err-matches-clause-no_sim c = λ e events is. c.in_err-matches.ensures.usage (search rules) (form_is_taken false _ events is)

pub returns-in-Some-clause-ok : goal.returns-in-Some-clause-ok
returns-in-Some-clause-ok c =
    let words = map string_bytes c.args.words.now in
    let any = list_any-map (λ word. bytes_eq word dashes) string_bytes c.args.words.now in
    let taken = taken_is_form words (sym any ∙ sym c.has_terminator.ensures ∙ c.if-has_terminator.false) c.in_ok-matches.ensures.ok in
    let found = c.file_of.ensures ∙ ap (file_in (codes "run")) c.in_ok-matches.ensures.matches in
    let some = ap (option_map (λ (b : Bor Text). b.now)) c.in-Some.is in
    let run = subst (λ k. IsTaken words k taken.1) (taken_as words taken.0 true taken.1 _ c.in-Some.script.now taken.2 found some) taken.2 in
    taken_asks words true taken.1 (string_bytes c.in_ok-script.script) run (c.in_ok-script.ensures.ok ∙ same_Some c.in-Some.script.now taken.1 (sym some ∙ found ∙ run.found)) (subst IsUtf8 (sym c.in_ok-script.ensures.ok) c.copied.ensures.text)

pub unwrap-requires : goal.unwrap-requires
unwrap-requires c =
    let words = map string_bytes c.args.words.now in
    let any = list_any-map (λ word. bytes_eq word dashes) string_bytes c.args.words.now in
    let taken = taken_is_form words (sym any ∙ sym c.has_terminator.ensures ∙ c.if-has_terminator.false) c.in_ok-matches.ensures.ok in
    let found = c.file_of.ensures ∙ ap (file_in (codes "run")) c.in_ok-matches.ensures.matches in
    let none = ap (option_map (λ (b : Bor Text). b.now)) c.in_default.is in
    let sim = subst (λ k. IsTaken words k taken.1) (taken_other words taken.0 true taken.1 _ taken.2 found none) taken.2 in
    is_some_behind c.file_of-2.result taken.1 (c.file_of-2.ensures ∙ ap (file_in (codes "sim")) c.in_ok-matches.ensures.matches ∙ sim.found)

pub returns-clause-ok : goal.returns-clause-ok
returns-clause-ok c =
    let words = map string_bytes c.args.words.now in
    let any = list_any-map (λ word. bytes_eq word dashes) string_bytes c.args.words.now in
    let taken = taken_is_form words (sym any ∙ sym c.has_terminator.ensures ∙ c.if-has_terminator.false) c.in_ok-matches.ensures.ok in
    let found = c.file_of.ensures ∙ ap (file_in (codes "run")) c.in_ok-matches.ensures.matches in
    let none = ap (option_map (λ (b : Bor Text). b.now)) c.in_default.is in
    let sim = subst (λ k. IsTaken words k taken.1) (taken_other words taken.0 true taken.1 _ taken.2 found none) taken.2 in
    let got = now_behind c.file_of-2.result c.unwrap.result taken.1 c.unwrap.ensures (c.file_of-2.ensures ∙ ap (file_in (codes "sim")) c.in_ok-matches.ensures.matches ∙ sim.found) in
    taken_asks words false taken.1 (string_bytes c.in_ok-events.events) sim (c.in_ok-events.ensures.ok ∙ got) (subst IsUtf8 (sym c.in_ok-events.ensures.ok) c.copied-2.ensures.text)
