use Rattle.std.proofs.Common.{◌≡◌, ◌∙◌, ◌++◌, ◌∷◌, [], ap, sym, string_bytes, Some, None, is_some}
use Rattle.std.specs.HashMap.{get_by_text}
use Rattle.std.specs.Option.{option_copied_mut}
use Rattle.forest_index.specs.Named.{list_in}
use Rattle.forest_index.proofs.Named.{on-refused, written-more, written-same, list-some, list-none, list-same}
use Rattle.forest_index.proofs.name_lists.push_under.Goals as goal

pub returns-in_err-push-clause-refused : goal.returns-in_err-push-clause-refused
returns-in_err-push-clause-refused c =
    let m = c.args.lists.now in
    let found : get_by_text m c.args.name.now ≡ Some c.in-Some.list.now = sym c.get_mut.ensures.value ∙ ap option_copied_mut c.in-Some.is in
    on-refused c.from_residual.result _ (written-same m (c.get_mut.follows.lender c.push.new.self) c.args.name.now c.push.new.self ((c.get_mut.follows.holds c.push.new.self).3 (ap is_some found)) (c.in_err-push.ensures.items ∙ sym (list-some m c.args.name.now c.in-Some.list.now found)))

pub returns-in-Some-clause-added : goal.returns-in-Some-clause-added
returns-in-Some-clause-added c =
    let m = c.args.lists.now in
    let found : get_by_text m c.args.name.now ≡ Some c.in-Some.list.now = sym c.get_mut.ensures.value ∙ ap option_copied_mut c.in-Some.is in
    (written-more m (c.get_mut.follows.lender c.push.new.self) c.args.name.now c.push.new.self ((c.get_mut.follows.holds c.push.new.self).3 (ap is_some found)) c.args.id
    (c.in_ok-push.ensures.items ∙ ap (λ xs. xs ++ c.args.id ∷ []) (sym (list-some m c.args.name.now c.in-Some.list.now found))))

pub returns-in_err-insert-clause-refused : goal.returns-in_err-insert-clause-refused
returns-in_err-insert-clause-refused c = on-refused c.from_residual-in_err-insert.result _ (list-same c.args.lists.now c.insert.new.self (c.in_err-insert.ensures.err ∙ ap (λ m. m.entries) c.get_mut.follows.holds-at-none))

pub returns-clause-added : goal.returns-clause-added
returns-clause-added c =
    let m = c.args.lists.now in
    let named : c.args.name.now ≡ string_bytes c.in_ok-from_str.field-0 = sym c.in_ok-from_str.ensures.ok in
    let none : get_by_text m c.args.name.now ≡ None = sym c.get_mut.ensures.value ∙ ap option_copied_mut c.in_default.is in
    let empty : list_in m (string_bytes c.in_ok-from_str.field-0) ≡ [] = list-none m (string_bytes c.in_ok-from_str.field-0) (rw named at none) in
    let items : c.push-2.new.self.items ≡ list_in m (string_bytes c.in_ok-from_str.field-0) ++ c.args.id ∷ [] = c.in_ok-push-2.ensures.items ∙ ap (λ xs. xs ++ c.args.id ∷ []) (c.new-list.ensures.items ∙ sym empty) in
    rw (← c.in_ok-from_str.ensures.ok) (written-more m c.insert.new.self (string_bytes c.in_ok-from_str.field-0) c.push-2.new.self (rw c.get_mut.follows.holds-at-none at c.in_ok-insert.ensures.updates) c.args.id items)
