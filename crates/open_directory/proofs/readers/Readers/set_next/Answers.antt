use Rattle.std.proofs.Common.{◌≡◌, Some, None, IsSome, sym, ap, ◌∙◌, refl}
use Rattle.std.specs.Prelude.{nat_eq, option_map}
use Rattle.std.specs.Map.{lookup}
use Rattle.open_directory.specs.declared.kept.Reader.{Reader}
use Rattle.open_directory.specs.Readers.{by_number}
use Rattle.open_directory.proofs.Entries.{absent}
use Rattle.open_directory.proofs.Rising.{changed_in_order, found_by_number}
use Rattle.open_directory.proofs.readers.Readers.set_next.Goals as goal

pub returns-in_err-found-clause-put : goal.returns-in_err-found-clause-put
returns-in_err-found-clause-put c =
    let none : lookup (nat_eq c.args.number) c.self.inside.map.entries ≡ None = sym c.in_err-found.ensures.value in
    rw (sym c.self.view_is) (c.from_residual.ensures ∙ sym (ap (option_map (λ (r : Reader). r.put)) (found_by_number c.args.number c.self.inside.map.entries ∙ none)))

pub returns-in_err-found-clause-moved : goal.returns-in_err-found-clause-moved
returns-in_err-found-clause-moved c =
    let none : lookup (nat_eq c.args.number) c.self.inside.map.entries ≡ None = sym c.in_err-found.ensures.value in
    let same = absent (λ (r : Reader). record r { next = c.args.next }) c.args.number (by_number c.self.inside.map.entries) (found_by_number c.args.number c.self.inside.map.entries ∙ none) in
    rw (sym c.self.view_is) (ap (λ m. by_number m.entries) c.get_mut.follows.holds-at-none ∙ sym same)

pub returns-clause-put : goal.returns-clause-put
returns-clause-put c =
    let some : lookup (nat_eq c.args.number) c.self.inside.map.entries ≡ Some c.in_ok-found.found.now = sym c.in_ok-found.ensures.value in
    rw (sym c.self.view_is) (sym (ap (option_map (λ (r : Reader). r.put)) (found_by_number c.args.number c.self.inside.map.entries ∙ some)))

pub returns-clause-moved : goal.returns-clause-moved
returns-clause-moved c =
    let v = c.in_ok-found.found.now in
    let w : Reader = record v { next = c.args.next } in
    let some : lookup (nat_eq c.args.number) c.self.inside.map.entries ≡ Some v = sym c.in_ok-found.ensures.value in
    let there : IsSome (lookup (nat_eq c.args.number) c.self.inside.map.entries) = rw some refl in
    rw (sym c.self.view_is) (changed_in_order (λ (r : Reader). record r { next = c.args.next }) c.args.number v w c.self.inside.map.entries (c.get_mut.follows.lender w).entries some refl ((c.get_mut.follows.holds w).3 there).0)
