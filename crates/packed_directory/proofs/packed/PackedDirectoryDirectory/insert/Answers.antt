use Rattle.std.proofs.Common.{◌≡◌, ◌<◌, [], length, sym, ap, ◌∙◌, arith}
use Rattle.std.proofs.lemmas.List.{get_or_default}
use Rattle.dir_segment.specs.Lists.{Lists, entry_count}
use Rattle.dir_table.specs.Displacement.{Displacement, is_full}
use Rattle.dir_table.specs.Rows.{plain_rows}
use Rattle.dir_table.specs.declared.rows.DirRow.{DirRow}
use Rattle.packed_directory.specs.Packed.{segment_at, packed_rows, purge_places, window_of}
use Rattle.packed_directory.specs.Packing.{packed_of}
use Rattle.packed_directory.proofs.Fullness.{rows_counted}
use Rattle.packed_directory.proofs.Beginning.{stands_there, entered_is_packed}
use Rattle.packed_directory.proofs.Plain.{all_in_range, displaces, places_due}
use Rattle.packed_directory.proofs.packed.PackedDirectoryDirectory.insert.Goals as goal

pub enter-requires-clause-place : goal.enter-requires-clause-place
enter-requires-clause-place c =
    let d = c.self.inside in
    let behind = rw (← c.self.view_is) at c.requires.next.behind in
    let lap = rw (← c.self.view_is) at c.requires.next.lap in
    let row = c.of_piece-row.result in
    let there : row.place ≡ c.args.place = ap (λ (r : DirRow). r.place) c.of_piece-row.ensures.row.there in
    stands_there d.beside.geometry d.beside.cursor d.floor d.end d.segments.items c.self.invariant.packed c.args.place behind lap row there ∙ sym there

pub tell-requires-clause-blocks : goal.tell-requires-clause-blocks
tell-requires-clause-blocks c = c.enter.ensures.enters.blocks c.self.inside.floor c.self.inside.end c.self.invariant.packed.between

pub invariant_of-self : goal.invariant_of-self
invariant_of-self c =
    let d = c.self.inside in
    let behind = rw (← c.self.view_is) at c.requires.next.behind in
    let lap = rw (← c.self.view_is) at c.requires.next.lap in
    let row = c.of_piece-row.result in
    let there : row.place ≡ c.args.place = ap (λ (r : DirRow). r.place) c.of_piece-row.ensures.row.there in
    record {
      packed = entered_is_packed d.beside.geometry d.beside.cursor d.floor d.end d.segments.items c.self.invariant.packed c.args.place behind lap row c.enter.result c.enter.new.purge.entries c.enter.new.segments.items c.args.blocks there c.requires.some c.enter.ensures.enters;
      made = c.enter.ensures.made ∙ c.self.invariant.made;
      room = omega (arith, c.self.invariant.room, c.tell.ensures.room, c.begin.ensures.room);
    }

pub returns-clause-rows : goal.returns-clause-rows
returns-clause-rows c =
    let d = c.self.inside in
    let g = d.beside.geometry in
    let w = window_of (packed_of d) in
    let segments = d.segments.items in
    let row = c.of_piece-row.result in
    let enters = c.enter.ensures.enters in
    let within : row.segment < length segments = omega (arith, c.of_piece-row.ensures.within.0, c.self.invariant.packed.count) in
    let same : c.index.result.now ≡ segment_at segments row.segment =
    c.index.ensures ∙ get_or_default segments row.segment c.index.result.now (record { chains = []; free = [] }) within in
    let all = all_in_range (packed_of d) d.beside.bounds.first c.self.invariant.packed in
    let told = c.tell.ensures.told in
    let places = ap (λ (k : Displacement). k.places) told ∙ sym enters.told in
    let segment = ap (λ (k : Displacement). k.segment) told ∙ ap (λ (k : Displacement). k.segment) c.begin.ensures.told in
    let count = c.used-live.ensures ∙ ap (λ (l : Lists). entry_count l.chains) same ∙ sym (rows_counted g d.beside.cursor row.segment segments within) in
    let live = ap (λ (k : Displacement). k.live) told ∙ ap (λ (k : Displacement). k.live) c.begin.ensures.told ∙ count in
    rw (← c.self.view_is) (record {
      row = row;
      is = c.of_piece-row.ensures.row;
      gone = enters.gone;
      takes = enters.takes;
      displaced = displaces w (segment_at segments row.segment) row (packed_rows (packed_of d)) enters.gone enters.takes.left c.enter.result c.tell.new.displaced.told all enters.takes.parted places segment live enters.full enters.due;
    })

pub returns-clause-due : goal.returns-clause-due
returns-clause-due c full =
    let d = c.self.inside in
    let w = window_of (packed_of d) in
    let rows = packed_rows (packed_of d) in
    let row = c.of_piece-row.result in
    let enters = c.enter.ensures.enters in
    let there = c.of_piece-row.ensures.row.there in
    let all = all_in_range (packed_of d) d.beside.bounds.first c.self.invariant.packed in
    let places = ap (λ (k : Displacement). k.places) c.tell.ensures.told ∙ sym enters.told in
    let is = ap (λ (r : DirRow). is_full w r (plain_rows rows)) there ∙ (rw (← c.self.view_is) at full) in
    rw (← c.self.view_is) (places_due w (segment_at d.segments.items row.segment) row rows enters.gone enters.takes.left c.enter.result c.tell.new.displaced.told all enters.takes.parted places enters.full enters.due is
    ∙ ap (purge_places (packed_of d)) (ap (λ (r : DirRow). r.segment) there))
