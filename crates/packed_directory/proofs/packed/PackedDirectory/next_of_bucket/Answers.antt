use Rattle.std.proofs.Common.{◌≡◌, suc, ◌<◌, List, [], ◌∷◌, ◌++◌, length, map, sym, ap, subst, ◌∙◌, arith}
use Rattle.std.proofs.lemmas.List.{get_or_default}
use Rattle.std.proofs.lemmas.List.Elements.{All-get_or}
use Rattle.dir_segment.specs.Lists.{SlotRow, Lists, row, chain_of, all_or_behind, behind_slot}
use Rattle.dir_table.specs.declared.rows.StoredRow.{StoredRow}
use Rattle.packed_directory.specs.Packing.{packed_of}
use Rattle.packed_directory.specs.Packed.{AreBetween, segment_at}
use Rattle.packed_directory.specs.StoredRows.{row_of_entry}
use Rattle.packed_directory.specs.AllWalks.{rows_from_bucket}
use Rattle.packed_directory.proofs.Walking.{next_block, same_row}
use Rattle.packed_directory.proofs.packed.PackedDirectory.next_of_bucket.Goals as goal

pub row_of-requires-clause-few : goal.row_of-requires-clause-few
row_of-requires-clause-few c =
    let d = c.self.inside in
    let g = d.beside.geometry in
    let w = c.args.walk.now in
    let within : w.segment < length d.segments.items = let k = rw (← c.self.view_is) at c.requires.within in omega (arith, k, c.self.invariant.packed.count) in
    let same : c.index-segment.result.now ≡ segment_at d.segments.items w.segment =
    c.index-segment.ensures ∙ get_or_default d.segments.items w.segment c.index-segment.result.now (record { chains = []; free = [] }) within in
    let lists : Lists = segment_at d.segments.items w.segment in
    let next : all_or_behind w.after (chain_of lists w.bucket) ≡ row c.in-Some.slot c.in-Some.entry ∷ behind_slot c.in-Some.slot (chain_of lists w.bucket) =
    subst (λ (l : Lists). all_or_behind w.after (chain_of l w.bucket) ≡ row c.in-Some.slot c.in-Some.entry ∷ behind_slot c.in-Some.slot (chain_of l w.bucket)) same c.in-Some.ensures.next.0 in
    let between : AreBetween g d.beside.cursor d.floor d.end lists =
    All-get_or (AreBetween g d.beside.cursor d.floor d.end) d.segments.items w.segment (record { chains = []; free = [] }) within c.self.invariant.packed.between in
    next_block g d.beside.cursor d.floor d.end w.bucket w.after lists c.in-Some.slot c.in-Some.entry (behind_slot c.in-Some.slot (chain_of lists w.bucket)) between next

pub returns-in-Some-clause-some : goal.returns-in-Some-clause-some
returns-in-Some-clause-some c =
    let d = c.self.inside in
    let g = d.beside.geometry in
    let w = c.args.walk.now in
    let D = packed_of d in
    let within : w.segment < length d.segments.items = let k = rw (← c.self.view_is) at c.requires.within in omega (arith, k, c.self.invariant.packed.count) in
    let same : c.index-segment.result.now ≡ segment_at d.segments.items w.segment =
    c.index-segment.ensures ∙ get_or_default d.segments.items w.segment c.index-segment.result.now (record { chains = []; free = [] }) within in
    let lists : Lists = segment_at d.segments.items w.segment in
    let next : all_or_behind w.after (chain_of lists w.bucket) ≡ row c.in-Some.slot c.in-Some.entry ∷ behind_slot c.in-Some.slot (chain_of lists w.bucket) =
    subst (λ (l : Lists). all_or_behind w.after (chain_of l w.bucket) ≡ row c.in-Some.slot c.in-Some.entry ∷ behind_slot c.in-Some.slot (chain_of l w.bucket)) same c.in-Some.ensures.next.0 in
    let f : SlotRow → StoredRow = λ r. row_of_entry g d.beside.cursor w.segment w.bucket r.entry in
    let later : List StoredRow = rows_from_bucket D w.segment (suc w.bucket) in
    let told : row_of_entry g d.beside.cursor w.segment w.bucket c.in-Some.entry ≡ c.row_of.result = sym c.row_of.ensures in
    rw (← c.self.view_is) (ap (λ (q : List SlotRow). map f q ++ later) next
    ∙ ap (λ (r : StoredRow). r ∷ (map f (behind_slot c.in-Some.slot (chain_of lists w.bucket)) ++ later)) (same_row g d.beside.cursor w.segment w.bucket c.in-Some.entry ∙ told))
