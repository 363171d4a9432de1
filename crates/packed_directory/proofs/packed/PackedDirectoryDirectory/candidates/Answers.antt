use Rattle.std.proofs.Common.{◌≡◌, ◌<◌, [], length, ◌∙◌, arith}
use Rattle.std.proofs.lemmas.List.Elements.{All-get_or}
use Rattle.dir_segment.specs.Lists.{Lists}
use Rattle.tape_base.specs.Key.{segment_of, bucket_of}
use Rattle.packed_directory.specs.Packed.{segment_at, packed_rows, window_of}
use Rattle.packed_directory.specs.Packing.{packed_of}
use Rattle.packed_directory.proofs.Chained.{candidates_are}
use Rattle.packed_directory.proofs.Plain.{all_in_range, candidates_plain, chain_few, segment_below, bucket_below}
use Rattle.packed_directory.proofs.packed.PackedDirectoryDirectory.candidates.Goals as goal

pub returns-clause-rest : goal.returns-clause-rest
returns-clause-rest c =
    let d = c.self.inside in
    let g = d.beside.geometry in
    let segments = d.segments.items in
    let within : segment_of g c.args.key < length segments = omega (arith, segment_below g c.args.key, c.self.invariant.packed.count) in
    let wide : length (segment_at segments (segment_of g c.args.key)).chains ≡ g.buckets =
    All-get_or (λ (l : Lists). length l.chains ≡ g.buckets) segments (segment_of g c.args.key) (record { chains = []; free = [] }) within c.self.invariant.packed.widths in
    let below : bucket_of g c.args.key < length (segment_at segments (segment_of g c.args.key)).chains = omega (arith, wide, bucket_below g c.args.key) in
    let all = all_in_range (packed_of d) d.beside.bounds.first c.self.invariant.packed in
    rw (← c.self.view_is, c.of_key.ensures) (candidates_are g d.beside.cursor c.args.key segments within below
    ∙ candidates_plain (window_of (packed_of d)) c.args.key (packed_rows (packed_of d)) all)

pub returns-clause-ahead : goal.returns-clause-ahead
returns-clause-ahead c =
    let d = c.self.inside in
    let g = d.beside.geometry in
    let segments = d.segments.items in
    let within : segment_of g c.args.key < length segments = omega (arith, segment_below g c.args.key, c.self.invariant.packed.count) in
    rw (← c.self.view_is, c.of_key.ensures) (chain_few g d.beside.cursor c.args.key segments within)
