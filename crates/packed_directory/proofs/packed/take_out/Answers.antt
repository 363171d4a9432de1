use Rattle.std.proofs.Common.{◌≡◌, ◌<◌, ◌+◌, length, [], subst, ◌∙◌}
use Rattle.std.specs.List.{list_any}
use Rattle.std.proofs.lemmas.List.{get_or_default}
use Rattle.tape_base.specs.Place.{slot_of, phase_of}
use Rattle.dir_segment.specs.Lists.{is_that, passes, deleted, chain_of}
use Rattle.dir_segment.specs.Entries.{EntriesAreStored}
use Rattle.packed_directory.specs.Packed.{segment_at}
use Rattle.packed_directory.proofs.Leaves.{takes_out}
use Rattle.packed_directory.proofs.packed.take_out.Goals as goal

pub returns : goal.returns
returns c =
    let g = c.args.beside.now.geometry in
    let cursor = c.args.beside.now.cursor in
    let spot = c.args.spot.now in
    let place = c.args.place in
    let before = c.args.segments.now.items in
    let within : spot.segment < length before = c.requires.segment in
    let same : c.index_mut-segment.result.now ≡ segment_at before spot.segment =
    c.index_mut-segment.ensures.value ∙ get_or_default before spot.segment c.index_mut-segment.result.now (record { chains = []; free = [] }) within in
    let stored : EntriesAreStored (segment_at before spot.segment) = subst EntriesAreStored same c.is_counted.ensures.stored in
    let found : c.delete.result ≡ list_any (passes (is_that spot.tag (slot_of g place + 1) (phase_of g place))) (chain_of (segment_at before spot.segment) spot.bucket) =
    rw (same, c.slot-offset.ensures.value, c.phase-odd.ensures) at c.delete.ensures.found in
    let done : c.delete.new.self ≡ deleted (segment_at before spot.segment) spot.bucket (is_that spot.tag (slot_of g place + 1) (phase_of g place)) =
    rw (same, c.slot-offset.ensures.value, c.phase-odd.ensures) at c.delete.ensures.lists in
    takes_out g cursor spot.segment spot.bucket spot.tag place c.args.beside.now.bounds.first c.requires.least c.requires.lap before within c.requires.widths c.requires.between.0 c.requires.between.1 c.requires.between.2 c.requires.bucket
    c.delete_takes.ensures.takes c.delete_takes.ensures.missed stored c.delete.result found c.delete.new.self done
