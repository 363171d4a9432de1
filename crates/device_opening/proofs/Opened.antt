-- What a device opens to, by its newest copy and what was found.
use Rattle.std.proofs.Common.{◌≡◌, ℕ, ◌+◌, ◌-◌, ◌*◌, ◌≤◌, true, List, length, Some, None, sym, ap, ◌∙◌, arith}
use Rattle.std.specs.Prelude.{if◌then◌else◌}
use Rattle.std.specs.List.Sorted.{IsPermutation}
use Rattle.std.proofs.lemmas.List.Sorted.{IsPermutation-trans, length_permutation}
use Rattle.device_log.specs.Image.{Image}
use Rattle.logged_disk.specs.Device.{DeviceState as Device}
use Rattle.stripe_header.specs.declared.area.Area.{Area}
use Rattle.stripe_header.specs.declared.states.CopyState.{CopyState}
use Rattle.stripe_header.specs.Layout.{content_of, device_blocks}
use Rattle.dir_table.specs.declared.rows.StoredRow.{StoredRow}
use Rattle.cache_model.specs.declared.findings.FoundRow.{FoundRow}
use Rattle.device_reads.specs.declared.reads.ReadFault.{ReadFault}
use Rattle.device_reads.specs.declared.reads.ReadFault.TheVariants.{DeviceFault, Memory}
use Rattle.device_reads.specs.Reads.{Fails, Reads}
use Rattle.device_reads.proofs.Telling.{fails_as, fails_then, reads_as, reads_then}
use Rattle.reopening.specs.declared.newest.Newest.{Newest}
use Rattle.reopening.specs.Device.{IsAreaOn}
use Rattle.reopening.specs.Documents.{document_at}
use Rattle.reopening.specs.Later.{kept_rows}
use Rattle.reopening.specs.Newest.{bound_of, directory_at, newest_of}
use Rattle.reopening.specs.Opens.{found_of, is_sound, opened, opening_at, opening_with, opens_to, rows_at}
use Rattle.device_opening.specs.declared.device.NewestRead.{NewestRead}
use Rattle.device_opening.specs.declared.newest.Taken.{Taken}
use Rattle.device_opening.specs.declared.opening.OpeningRead.{OpeningRead}
use Rattle.device_opening.specs.Copies.{AreRowsOf, IsLaid, IsNewestRead, IsTaken}
use Rattle.device_opening.specs.Faults.{IsFaultWithin, read_fault}
use Rattle.device_opening.specs.Opening.{IsOpeningRead}
use Rattle.device_opening.proofs.Elements.{permuted_given}

-- in whatever order the elements are
found_permuted : (a : Area) (told : CopyState) (rows other : List StoredRow) (c : Image) → IsPermutation rows other → found_of a told rows c ≡ found_of a told other c
unfolding found_of
found_permuted a told rows other c same =
    ap kept_rows (permuted_given a.geometry told (document_at a c) rows other (bound_of a.geometry told) (told.cursor - bound_of a.geometry told) same)

opens_by : (a : Area) (c : Image) (n : Newest) → newest_of a c ≡ Some n → is_sound a.geometry (directory_at a c n.side) ≡ true → opens_to a c ≡ Some (opening_at a c n)
unfolding opens_to
opens_by a c n is sound = ap (opened a c) is ∙ ap (λ b. if b then Some (opening_at a c n) else None) sound

module _ (s t u : Device) (r : NewestRead) (laid : IsLaid s.size r.area) (rows : List StoredRow) (all : IsPermutation r.chosen.rows.items rows)
    (front : Reads 0 (content_of r.area) 4 s t (IsNewestRead s.size r)) where
  abbrev a : Area
  a = r.area

  abbrev told : CopyState
  told = r.chosen.taken.newest.told

  abbrev most : ℕ
  most = 4 + 2 * length rows

  room : device_blocks a ≤ s.size
  room = laid.room

  pub found_fails : (e : ReadFault) → Fails (content_of a) (device_blocks a) (2 * length rows) t u e → IsFaultWithin s u (read_fault e)
  found_fails (DeviceFault count) fails =
      (most, fails_as 0 (device_blocks a) s.size most most s u (DeviceFault count) room (omega arith) (fails_then 0 (content_of a) (device_blocks a) 4 (2 * length rows) s t u (IsNewestRead s.size r) (DeviceFault count) front fails))
  found_fails (Memory e) fails =
      (most, fails_as 0 (device_blocks a) s.size most most s u (Memory e) room (omega arith) (fails_then 0 (content_of a) (device_blocks a) 4 (2 * length rows) s t u (IsNewestRead s.size r) (Memory e) front fails))

-- what was read of the newest copy
abbrev pub IsFront : ℕ → Area → Taken → List StoredRow → Image → Type 0
IsFront size a taken rows c = IsAreaOn (c 0) size a × (IsTaken a c taken × AreRowsOf a c taken rows)

pub opening_is : (s t u : Device) (o : OpeningRead) (rows : List StoredRow) → IsLaid s.size o.area → IsPermutation rows o.rows.items
    → Reads 0 (content_of o.area) 4 s t (IsFront s.size o.area o.taken rows)
    → Reads (content_of o.area) (device_blocks o.area) (2 * length o.rows.items) t u (λ c. o.found ≡ found_of o.area o.taken.newest.told o.rows.items c)
    → o.dropped ≡ length o.rows.items - length o.found
    → Reads 0 s.size (4 + 2 * length o.rows.items) s u (IsOpeningRead s.size o)
opening_is s t u o rows laid same front back dropped =
    let a : Area = o.area in
    let n : Newest = o.taken.newest in
    let room : device_blocks a ≤ s.size = laid.room in
    reads_as 0 (device_blocks a) s.size (4 + 2 * length o.rows.items) (4 + 2 * length o.rows.items) s u (λ c. IsFront s.size o.area o.taken rows c × (o.found ≡ found_of a n.told o.rows.items c)) (IsOpeningRead s.size o) room (omega arith)
    (λ c image told.
    let are = told.0.1.1 in
    let order : IsPermutation (rows_at a c n) o.rows.items = IsPermutation-trans (rows_at a c n) rows o.rows.items are.rows_are same in
    let found : o.found ≡ found_of a n.told (rows_at a c n) c = told.1 ∙ sym (found_permuted a n.told (rows_at a c n) o.rows.items c order) in
    record {
      lies = told.0.0;
      taken = told.0.1.0;
      rows = record { sound = are.sound; rows_are = order };
      opens = opens_by a c n told.0.1.0.newest are.sound ∙ ap (λ (l : List FoundRow). Some (opening_with a.geometry n.told l)) (sym found);
      dropped = dropped ∙ ((λ i. length_permutation (rows_at a c n) o.rows.items order i - length (found i)));
    })
    (reads_then 0 (content_of a) (device_blocks a) 4 (2 * length o.rows.items) s t u (IsFront s.size o.area o.taken rows) (λ c. o.found ≡ found_of a n.told o.rows.items c) front back)

pub front_of : (s t : Device) (r : NewestRead) → Reads 0 (content_of r.area) 4 s t (IsNewestRead s.size r)
    → Reads 0 (content_of r.area) 4 s t (IsFront s.size r.area r.chosen.taken r.chosen.rows.items)
front_of s t r reads =
    reads_as 0 (content_of r.area) (content_of r.area) 4 4 s t (IsNewestRead s.size r) (IsFront s.size r.area r.chosen.taken r.chosen.rows.items) (omega arith) (omega arith)
    (λ c image is. (is.lies, is.chosen)) reads
