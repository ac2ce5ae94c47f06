use Rattle.std.proofs.Common.{ap, ◌∙◌}
use Rattle.std.specs.Prelude.{not, ◌||◌}
use Rattle.std.specs.Str.{bytes_eq}
use Rattle.name_sets.specs.NameSets.{is_among}
use Rattle.name_sets.proofs.Sets.{added, found, names_of}
use Rattle.name_sets.proofs.set.NameSet.add.Goals as goal

pub returns-clause-new : goal.returns-clause-new
returns-clause-new c = c.in_ok-insert.ensures.added ∙ ap not (found c.args.name.now c.self.inside.names.keys ∙ ap (is_among c.args.name.now) c.self.view_is)

pub returns-clause-names : goal.returns-clause-names
returns-clause-names c = λ x.
    ap (λ ks. is_among x (names_of ks)) c.in_ok-insert.ensures.keys ∙ added x _ c.self.inside.names.keys ∙ ap (λ ns. bytes_eq x c.args.name.now || is_among x ns) c.self.view_is
