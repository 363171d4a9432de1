use Rattle.std.proofs.Common.{◌≡◌, ◌+◌, length, true, ap, arith}
use Rattle.tape_base.specs.Place.{lap_of}
use Rattle.dir_table.specs.declared.rows.StoredRow.{StoredRow}
use Rattle.packed_directory.specs.Packed.{IsReadable}
use Rattle.packed_directory.specs.StoredRows.{rows_of_segments, is_spot}
use Rattle.packed_directory.proofs.Readable.{rows_readable, none_outside, spot_parts}
use Rattle.packed_directory.proofs.packed.PackedDirectory.take_row.Goals as goal
use Rattle.packed_directory.proofs.packed.PackedDirectory.take_row.Goals.{then-spot-g-via-then-spot-g, then-spot-g-via-else-spot-g+then-spot-g-2}
use Rattle.packed_directory.proofs.packed.PackedDirectory.take_row.Goals.{then-place-self-via-then-place-self, then-place-self-via-else-place-self+then-lap}

pub returns-then-spot-g-clause-found : goal.returns-then-spot-g-clause-found
returns-then-spot-g-clause-found c =
    let d = c.self.inside in
    let g = d.beside.geometry in
    let s = c.args.spot.now in
    let rows = rows_of_segments g d.beside.cursor 0 d.segments.items in
    let count : 0 + length d.segments.items ≡ g.segments = omega (arith, c.self.invariant.packed.count) in
    let all = rows_readable g d.beside.cursor d.floor d.end d.beside.bounds.first 0 d.segments.items count c.self.invariant.packed.widths c.self.invariant.packed.between in
    let outside : (r : StoredRow) → IsReadable g d.beside.cursor d.floor d.end r → is_spot s.segment s.bucket s.tag r ≡ true → r.place ≡ c.args.place → ⊥ = λ r h at is.
    let parts = spot_parts s.segment s.bucket s.tag r at in
    elim c.then-spot-g.branch [
      | then-spot-g-via-then-spot-g w ↦ absurd (omega (arith, h.segment, parts.0, w.if-spot-g.true))
      | then-spot-g-via-else-spot-g+then-spot-g-2 w ↦ absurd (omega (arith, h.bucket, parts.1, w.if-spot-g-2.true))
    ] in
    rw (← c.self.view_is) (none_outside g d.beside.cursor d.floor d.end d.beside.bounds.first (is_spot s.segment s.bucket s.tag) c.args.place rows all outside)

pub returns-then-place-self-clause-found : goal.returns-then-place-self-clause-found
returns-then-place-self-clause-found c =
    let d = c.self.inside in
    let g = d.beside.geometry in
    let s = c.args.spot.now in
    let rows = rows_of_segments g d.beside.cursor 0 d.segments.items in
    let count : 0 + length d.segments.items ≡ g.segments = omega (arith, c.self.invariant.packed.count) in
    let all = rows_readable g d.beside.cursor d.floor d.end d.beside.bounds.first 0 d.segments.items count c.self.invariant.packed.widths c.self.invariant.packed.between in
    let outside : (r : StoredRow) → IsReadable g d.beside.cursor d.floor d.end r → is_spot s.segment s.bucket s.tag r ≡ true → r.place ≡ c.args.place → ⊥ = λ r h at is.
    elim c.then-place-self.branch [
      | then-place-self-via-then-place-self w ↦ absurd (omega (arith, h.low, is, w.if-place-self.true))
      | then-place-self-via-else-place-self+then-lap w ↦ let k = w.lap.ensures in let m = w.lap-else-place-self.ensures in absurd (omega (arith, h.lap, ap (lap_of g) is, w.if-lap.true, k, m))
    ] in
    rw (← c.self.view_is) (none_outside g d.beside.cursor d.floor d.end d.beside.bounds.first (is_spot s.segment s.bucket s.tag) c.args.place rows all outside)
