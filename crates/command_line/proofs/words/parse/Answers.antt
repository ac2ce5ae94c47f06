use Rattle.std.proofs.Common.{rules, ap, map, subst, sym, ◌≡◌, ◌∙◌, [], inl, inr}
use Rattle.std.specs.String.{string_bytes}
use Rattle.clap.specs.Words.{App, HasKind, Kinds, app_of, fault_of, is_simple, is_simple_and_free, kind_of, subcommand_of}
use Rattle.clap.specs.declared.error.Error.{Error}
use Rattle.clap.specs.declared.error.kind.ErrorKind.TheVariants.{OutOfMemory}
use Rattle.command_line.specs.Words.{paxq_app}
use Rattle.command_line.proofs.words.parse.Goals as goal

-- where no kind of refusal is left, memory was refused
only_memory : (kinds : Kinds) (e : Error) → kinds ≡ [] → HasKind kinds e → kind_of e ≡ OutOfMemory
only_memory kinds e none has = elim (subst (λ ks. HasKind ks e) none has) [ inl memory ↦ memory | inr other ↦ absurd other ]

pub returns-in-Ok-clause-matches : goal.returns-in-Ok-clause-matches
returns-in-Ok-clause-matches c =
    let app_is : app_of c.in_ok-command.command ≡ paxq_app = search rules in
    (c.in-Ok.ensures.matches (ap is_simple app_is)).1 ∙ ap (λ (a : App). subcommand_of a (map string_bytes c.args.words.now)) app_is

pub returns-in-Ok-clause-ok : goal.returns-in-Ok-clause-ok
returns-in-Ok-clause-ok c =
    let app_is : app_of c.in_ok-command.command ≡ paxq_app = search rules in
    sym (ap (λ (a : App). fault_of a (map string_bytes c.args.words.now)) app_is) ∙ c.in-Ok.ensures.kinds (ap is_simple_and_free app_is)

pub returns-in-Err-clause-usage : goal.returns-in-Err-clause-usage
returns-in-Err-clause-usage c = λ usage none.
    let app_is : app_of c.in_ok-command.command ≡ paxq_app = search rules in
    let same = ap (λ (a : App). fault_of a (map string_bytes c.args.words.now)) app_is in
    c.refusal.ensures.usage.0 (search rules) (only_memory _ c.in-Err.error (same ∙ none) (c.in-Err.ensures.kinds (ap is_simple_and_free app_is)))
