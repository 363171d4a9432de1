use Rattle.std.proofs.Common.{◌≡◌, ◌*◌, ◌∙◌, List, length, refl, sym, ap, subst, arith}
use Rattle.std.proofs.lemmas.Result.{err_from_is_err_and}
use Rattle.dir_entry.specs.declared.entry.Entry.{Entry}
use Rattle.dir_segment.specs.Image.{image_slots, IsFault, WalkIsSound}
use Rattle.dir_segment.proofs.Bytes.{read_head, read_count, read_slots, length-image, same_walk}
use Rattle.dir_segment.proofs.Marking.{accepted}
use Rattle.dir_segment.proofs.Walks.{own_lists, length-lists_of}
use Rattle.dir_segment.proofs.segment.Segment.from_bytes.Goals as goal

pub walk_all-requires-clause-whole : goal.walk_all-requires-clause-whole
walk_all-requires-clause-whole c =
    let bytes = c.args.bytes.now in
    let slots = c.in_ok-slots.slots in
    let slots-are : slots ≡ image_slots c.args.buckets bytes = c.in_ok-slots.ensures ∙ read_slots bytes _ c.args.buckets c.requires.len refl in
    let size : length slots ≡ 4 * c.args.buckets = ap (λ (q : List Entry). length q) slots-are ∙ length-image c.args.buckets bytes in
    (size, c.requires.buckets.1)

pub returns-in_err-walk_all-clause-fault : goal.returns-in_err-walk_all-clause-fault
returns-in_err-walk_all-clause-fault c =
    let bytes = c.args.bytes.now in
    let slots = c.in_ok-slots.slots in
    let slots-are : slots ≡ image_slots c.args.buckets bytes = c.in_ok-slots.ensures ∙ read_slots bytes _ c.args.buckets c.requires.len refl in
    let size : length slots ≡ 4 * c.args.buckets = ap (λ (q : List Entry). length q) slots-are ∙ length-image c.args.buckets bytes in
    let same = same_walk slots c.from_le_bytes-free.result c.from_le_bytes-kept.result c.args.buckets bytes slots-are (c.from_le_bytes-free.ensures ∙ read_head bytes) (c.from_le_bytes-kept.ensures ∙ read_count bytes) in
    let p = err_from_is_err_and c.from_residual-in_err-walk_all.result c.from_residual-in_err-walk_all.ensures.1 in
    rw (p.1, p.2) (subst (λ r. IsFault c.in_err-walk_all.field-0.0 r) same c.in_err-walk_all.ensures)

pub empty_roots-requires : goal.empty_roots-requires
empty_roots-requires c =
    let bytes = c.args.bytes.now in
    let slots = c.in_ok-slots.slots in
    let slots-are : slots ≡ image_slots c.args.buckets bytes = c.in_ok-slots.ensures ∙ read_slots bytes _ c.args.buckets c.requires.len refl in
    let size : length slots ≡ 4 * c.args.buckets = ap (λ (q : List Entry). length q) slots-are ∙ length-image c.args.buckets bytes in
    record { whole = (size, c.requires.buckets.1) }

pub overflow_sub-used-2 : goal.overflow_sub-used-2
overflow_sub-used-2 c =
    let bytes = c.args.bytes.now in
    let slots = c.in_ok-slots.slots in
    let slots-are : slots ≡ image_slots c.args.buckets bytes = c.in_ok-slots.ensures ∙ read_slots bytes _ c.args.buckets c.requires.len refl in
    let size : length slots ≡ 4 * c.args.buckets = ap (λ (q : List Entry). length q) slots-are ∙ length-image c.args.buckets bytes in
    let good = accepted slots c.from_le_bytes-free.result c.from_le_bytes-kept.result c.args.buckets c.walk_all.new.reached c.requires.buckets.0 c.requires.buckets.1 size c.in_ok-walk_all.ensures in
    omega (arith, good.enough, c.empty_roots.ensures)

pub invariant_of-result : goal.invariant_of-result
invariant_of-result c =
    let bytes = c.args.bytes.now in
    let slots = c.in_ok-slots.slots in
    let slots-are : slots ≡ image_slots c.args.buckets bytes = c.in_ok-slots.ensures ∙ read_slots bytes _ c.args.buckets c.requires.len refl in
    let size : length slots ≡ 4 * c.args.buckets = ap (λ (q : List Entry). length q) slots-are ∙ length-image c.args.buckets bytes in
    let good = accepted slots c.from_le_bytes-free.result c.from_le_bytes-kept.result c.args.buckets c.walk_all.new.reached c.requires.buckets.0 c.requires.buckets.1 size c.in_ok-walk_all.ensures in
    own_lists slots c.from_le_bytes-free.result c.from_le_bytes-kept.result _ c.args.buckets good.lists (rw c.empty_roots.ensures good.segment)

pub returns-clause-sound : goal.returns-clause-sound
returns-clause-sound c =
    let bytes = c.args.bytes.now in
    let slots = c.in_ok-slots.slots in
    let slots-are : slots ≡ image_slots c.args.buckets bytes = c.in_ok-slots.ensures ∙ read_slots bytes _ c.args.buckets c.requires.len refl in
    let size : length slots ≡ 4 * c.args.buckets = ap (λ (q : List Entry). length q) slots-are ∙ length-image c.args.buckets bytes in
    let same = same_walk slots c.from_le_bytes-free.result c.from_le_bytes-kept.result c.args.buckets bytes slots-are (c.from_le_bytes-free.ensures ∙ read_head bytes) (c.from_le_bytes-kept.ensures ∙ read_count bytes) in
    subst WalkIsSound (sym c.in_ok-walk_all.ensures ∙ same) tt

pub returns-clause-width : goal.returns-clause-width
returns-clause-width c = length-lists_of c.in_ok-slots.slots c.from_le_bytes-free.result c.args.buckets
