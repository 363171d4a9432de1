use Rattle.std.proofs.Common.{◌≡◌, ◌+◌, ◌<◌, ◌≤◌, suc, List, [], ◌++◌, length, map, sym, ap, ◌∙◌, arith}
use Rattle.std.specs.Prelude.{None}
use Rattle.std.proofs.lemmas.List.Elements.{All-get_or}
use Rattle.dir_segment.specs.Lists.{SlotRow, Lists}
use Rattle.packed_directory.specs.Packing.{packed_of}
use Rattle.packed_directory.specs.Packed.{segment_at}
use Rattle.packed_directory.specs.StoredRows.{row_of_entry}
use Rattle.packed_directory.specs.AllWalks.{rows_ahead, rows_from_bucket, chain_left}
use Rattle.packed_directory.proofs.Walking.{before_bucket, after_bucket, each_has}
use Rattle.packed_directory.proofs.packed.PackedDirectory.pass_bucket.Goals as goal

pub returns-then-walk-self-clause-rows : goal.returns-then-walk-self-clause-rows
returns-then-walk-self-clause-rows c =
    let d = c.self.inside in
    let g = d.beside.geometry in
    let w = c.args.walk.now in
    let D = packed_of d in
    let over : chain_left D w ≡ [] = rw (← c.self.view_is) at c.requires.over in
    let here : w.segment < length d.segments.items = let k = rw (← c.self.view_is) at c.requires.within in omega (arith, k, c.self.invariant.packed.count) in
    let wide : length (segment_at d.segments.items w.segment).chains ≡ g.buckets = All-get_or (λ (l : Lists). length l.chains ≡ g.buckets) d.segments.items w.segment (record { chains = []; free = [] }) here c.self.invariant.packed.widths in
    let below : suc w.bucket < length (segment_at d.segments.items w.segment).chains = omega (arith, c.if-walk-self.true, wide) in
    let next : suc w.bucket ≡ w.bucket + 1 = omega arith in
    let gone : rows_from_bucket D w.segment (suc w.bucket) ≡ rows_ahead D w =
    ap (λ (q : List SlotRow). map (λ (r : SlotRow). row_of_entry g d.beside.cursor w.segment w.bucket r.entry) q ++ rows_from_bucket D w.segment (suc w.bucket)) (sym over) in
    rw (← c.self.view_is) (ap (λ b. rows_ahead D (record { segment = w.segment; bucket = b; after = None })) (sym next) ∙ before_bucket D w.segment (suc w.bucket) below ∙ gone)

pub returns-clause-rows : goal.returns-clause-rows
returns-clause-rows c =
    let d = c.self.inside in
    let g = d.beside.geometry in
    let w = c.args.walk.now in
    let D = packed_of d in
    let over : chain_left D w ≡ [] = rw (← c.self.view_is) at c.requires.over in
    let here : w.segment < length d.segments.items = let k = rw (← c.self.view_is) at c.requires.within in omega (arith, k, c.self.invariant.packed.count) in
    let wide : length (segment_at d.segments.items w.segment).chains ≡ g.buckets = All-get_or (λ (l : Lists). length l.chains ≡ g.buckets) d.segments.items w.segment (record { chains = []; free = [] }) here c.self.invariant.packed.widths in
    let last : length (segment_at d.segments.items w.segment).chains ≤ suc w.bucket = omega (arith, c.if-walk-self.false, wide) in
    let next : suc w.segment ≡ w.segment + 1 = omega arith in
    let gone : rows_from_bucket D w.segment (suc w.bucket) ≡ rows_ahead D w =
    ap (λ (q : List SlotRow). map (λ (r : SlotRow). row_of_entry g d.beside.cursor w.segment w.bucket r.entry) q ++ rows_from_bucket D w.segment (suc w.bucket)) (sym over) in
    rw (← c.self.view_is) (ap (λ s. rows_ahead D (record { segment = s; bucket = 0; after = None })) (sym next)
    ∙ after_bucket D w.segment w.bucket (each_has g d.segments.items c.self.invariant.packed.widths) last ∙ gone)
