use Rattle.std.proofs.Common.{◌∙◌, ap, sym, is_some, option_map}
use Rattle.std.specs.Option.{option_copied_mut}
use Rattle.forest_index.proofs.Sized.{size-written}
use Rattle.forest_index.proofs.index.write.Goals as goal

pub returns-in-Some-clause-here : goal.returns-in-Some-clause-here
returns-in-Some-clause-here c =
    let some = sym c.get_mut.ensures.value ∙ ap option_copied_mut c.in-Some.is in
    (size-written c.args.sizes.now c.args.root c.args.size (ap is_some some)).here ∙ sym (ap (option_map (λ _. c.args.size)) some)

pub returns-in-Some-clause-apart : goal.returns-in-Some-clause-apart
returns-in-Some-clause-apart c = (size-written c.args.sizes.now c.args.root c.args.size (ap is_some (sym c.get_mut.ensures.value ∙ ap option_copied_mut c.in-Some.is))).apart
