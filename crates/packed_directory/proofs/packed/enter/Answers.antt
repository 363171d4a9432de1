use Rattle.std.proofs.Common.{◌≡◌, [], ap, subst, ◌∙◌}
use Rattle.std.proofs.lemmas.List.{get_or_default}
use Rattle.dir_entry.specs.declared.entry.Entry.{Entry}
use Rattle.dir_segment.specs.Lists.{Lists, unlinked}
use Rattle.dir_segment.specs.Entries.{AreCounted}
use Rattle.packed_directory.specs.Entering.{TakesIn}
use Rattle.packed_directory.specs.Packed.{segment_at}
use Rattle.packed_directory.specs.StoredRows.{entry_of_row}
use Rattle.packed_directory.proofs.Enters.{enters_row}
use Rattle.packed_directory.proofs.Gathering.{in_bucket}
use Rattle.packed_directory.proofs.packed.enter.Goals as goal

pub returns-clause-enters : goal.returns-clause-enters
returns-clause-enters c =
    let g = c.args.beside.now.geometry in
    let row = c.args.row.now in
    let before = c.args.segments.now.items in
    let out = c.take_in.new.out.entries in
    let new = c.take_in.new.segment in
    let same : c.index_mut-segment.result.now ≡ segment_at before row.segment =
    c.index_mut-segment.ensures.value ∙ get_or_default before row.segment c.index_mut-segment.result.now (record { chains = []; free = [] }) c.requires.segment in
    let entry : unlinked c.entry_of-entry.result ≡ entry_of_row g row = ap unlinked c.entry_of-entry.ensures in
    let takes : TakesIn (in_bucket row.bucket (entry_of_row g row)) c.take_in.result out (segment_at before row.segment) new =
    subst (λ (l : Lists). TakesIn (in_bucket row.bucket (entry_of_row g row)) c.take_in.result out l new) same
    (subst (λ (e : Entry). TakesIn (in_bucket row.bucket e) c.take_in.result out c.index_mut-segment.result.now new) entry c.take_in.ensures.takes) in
    let counted : AreCounted (segment_at before row.segment) = subst AreCounted same c.take_in.ensures.counted in
    enters_row g c.args.beside.now.cursor row c.take_in.result out before new c.requires.segment c.requires.widths c.requires.place takes counted
