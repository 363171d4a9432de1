use Rattle.std.proofs.Common.{◌≡◌, ℕ, List, [], length, ap, sym, ◌∙◌}
use Rattle.std.specs.List.{flat_map}
use Rattle.std.proofs.lemmas.List.{length-map}
use Rattle.dir_entry.specs.declared.entry.Entry.{Entry}
use Rattle.dir_entry.specs.Layout.{entry_of_bytes}
use Rattle.dir_segment.specs.Image.{entries_in_bytes}
use Rattle.dir_segment.proofs.Bytes.{flattened}
use Rattle.dir_segment.proofs.slots.Slots.bytes.Goals as goal

pub returns-clause-bytes : goal.returns-clause-bytes
returns-clause-bytes c =
    let packed : List (List ℕ) = c.self.inside.packed.items in
    let bytes : c.as_flattened.result.now ≡ flat_map (λ x. x) packed = c.as_flattened.ensures.value ∙ ap (flat_map (λ x. x)) c.deref.ensures.value in
    let long : length c.args.self.now ≡ length packed = ap (λ (q : List Entry). length q) (sym c.self.view_is) ∙ length-map packed entry_of_bytes in
    ap (λ k. entries_in_bytes k c.as_flattened.result.now) long ∙ ap (entries_in_bytes (length packed)) bytes ∙ flattened packed (λ i lt. c.self.invariant i [] lt) ∙ c.self.view_is
