-- What stands in both laps, by what was read of each.
use Rattle.std.proofs.Common.{◌≡◌, ℕ, ◌+◌, ◌-◌, ◌*◌, ◌≤◌, List, ◌++◌, length, length-append, sym, ap, subst, ◌∙◌, arith}
use Rattle.std.specs.declared.alloc.AllocError.{AllocError}
use Rattle.device_log.specs.Image.{Image}
use Rattle.logged_disk.specs.Device.{DeviceState as Device}
use Rattle.stripe_header.specs.declared.area.Area.{Area}
use Rattle.stripe_header.specs.declared.states.CopyState.{CopyState}
use Rattle.stripe_header.specs.Layout.{content_of, device_blocks}
use Rattle.dir_table.specs.declared.rows.StoredRow.{StoredRow}
use Rattle.cache_model.specs.declared.findings.FoundRow.{FoundRow}
use Rattle.device_reads.specs.declared.reads.ReadFault.{ReadFault}
use Rattle.device_reads.specs.declared.reads.ReadFault.TheVariants.{Memory}
use Rattle.device_reads.specs.Reads.{Fails, Reads}
use Rattle.device_reads.proofs.Telling.{fails_as, fails_then, reads_as, reads_none, reads_then, wants_behind}
use Rattle.reopening.specs.Newest.{bound_of}
use Rattle.reopening.specs.Documents.{document_at}
use Rattle.reopening.specs.Tests.{standing_from}
use Rattle.device_opening.specs.declared.stretch.Stretch.{Stretch}
use Rattle.device_opening.specs.declared.stretch.Stretches.{Stretches}
use Rattle.device_opening.specs.Tape.{AreStretches, StandBelow, StandFrom, end_of_stretch}
use Rattle.device_opening.proofs.Elements.{behind_alone, below_absent, from_absent, group_alone, parts_given, same_given}

module _ (a : Area) (told : CopyState) (both : Stretches) (are : AreStretches a told both) (rows below above : List StoredRow) (is : rows ≡ below ++ above) (s t : Device) where
  abbrev Stands : Stretch → List StoredRow → List FoundRow → Image → Type 0
  Stands stretch some found c = found ≡ standing_from stretch.area stretch.told some c stretch.low (stretch.high - stretch.low)

  abbrev low : ℕ
  low = bound_of a.geometry told

  abbrev AllStand : List FoundRow → Image → Type 0
  AllStand found c = found ≡ standing_from a told rows c low (told.cursor - low)

  abbrev most : ℕ
  most = 2 * length rows

  top : end_of_stretch both.before ≤ device_blocks a
  top = subst (λ (x : Area). end_of_stretch both.before ≤ device_blocks x) are.area.1 are.before.room

  counts : length rows ≡ length below + length above
  counts = ap length is ∙ length-append below above

  -- the device up to the first stretch
  lead : Reads (content_of a) both.here.first 0 s s (λ c. Unit {0})
  lead = reads_none (content_of a) both.here.first 0 s (λ c. Unit {0}) are.order.0 (λ c image. tt)

  pub here_fails : (e : ReadFault) → Fails both.here.first (end_of_stretch both.here) (2 * length above) s t e → Fails (content_of a) (device_blocks a) most s t e
  here_fails e fails =
      let order = are.order.1 in
      let room = top in
      let count = counts in
      let up : both.before.first ≤ end_of_stretch both.before = omega arith in
      fails_as (content_of a) (end_of_stretch both.here) (device_blocks a) (0 + 2 * length above) most s t e (omega (arith, order, up, room)) (omega (arith, count))
      (fails_then (content_of a) both.here.first (end_of_stretch both.here) 0 (2 * length above) s s t (λ c. Unit {0}) e lead fails)

  module _ (here : List FoundRow) (first : Reads both.here.first (end_of_stretch both.here) (2 * length above) s t (Stands both.here above here)) (u : Device) where
    abbrev One : Image → Type 0
    One c = Unit {0} × Stands both.here above here c

    front : Reads (content_of a) both.before.first (0 + 2 * length above) s t One
    front =
        reads_as (content_of a) (end_of_stretch both.here) both.before.first (0 + 2 * length above) (0 + 2 * length above) s t One One are.order.1 (omega arith) (λ c image told. told)
        (reads_then (content_of a) both.here.first (end_of_stretch both.here) 0 (2 * length above) s s t (λ c. Unit {0}) (Stands both.here above here) lead first)

    pub before_fails : (e : ReadFault) → Fails both.before.first (end_of_stretch both.before) (2 * length below) t u e → Fails (content_of a) (device_blocks a) most s u e
    before_fails e fails =
        let count = counts in
        fails_as (content_of a) (end_of_stretch both.before) (device_blocks a) (0 + 2 * length above + 2 * length below) most s u e top (omega (arith, count))
        (fails_then (content_of a) both.before.first (end_of_stretch both.before) (0 + 2 * length above) (2 * length below) s t u One e front fails)

    module _ (before : List FoundRow) (second : Reads both.before.first (end_of_stretch both.before) (2 * length below) t u (Stands both.before below before)) where
      abbrev Two : Image → Type 0
      Two c = One c × Stands both.before below before c

      all : Reads (content_of a) (device_blocks a) most s u Two
      all =
          let count = counts in
          reads_as (content_of a) (end_of_stretch both.before) (device_blocks a) (0 + 2 * length above + 2 * length below) most s u Two Two top (omega (arith, count)) (λ c image told. told)
          (reads_then (content_of a) both.before.first (end_of_stretch both.before) (0 + 2 * length above) (2 * length below) s t u One (Stands both.before below before) front second)

      pub both_want : (e : AllocError) → Fails (content_of a) (device_blocks a) most s u (Memory e)
      both_want e = wants_behind (content_of a) (device_blocks a) most s u Two e all

      pub both_stand : StandBelow both.here.low below → StandFrom both.here.low above → (found : List FoundRow) → found ≡ before ++ here → Reads (content_of a) (device_blocks a) most s u (AllStand found)
      both_stand under from found joined =
          reads_as (content_of a) (device_blocks a) (device_blocks a) most most s u Two (AllStand found) (omega arith) (omega arith) (λ c image told_so. joined ∙ stand c told_so.1 told_so.0.1) all where
            mid : ℕ
            mid = both.here.low

            stand : (c : Image) → Stands both.before below before c → Stands both.here above here c → before ++ here ≡ standing_from a told rows c low (told.cursor - low)
            stand c one other =
                let g = a.geometry in
                let docs = document_at a c in
                let bound = are.bound in
                let seam = are.seam in
                let cursor = are.cursor in
                let up : both.before.low ≤ both.before.high = are.before.order in
                let on : both.here.low ≤ both.here.high = are.here.order in
                let one_is : before ≡ standing_from a told below c low (both.here.low - low) =
                one ∙ (λ i. standing_from (are.area.1 i) (are.told_is.1 i) below c (bound i) (seam i - bound i)) in
                let other_is : here ≡ standing_from a told above c both.here.low (told.cursor - both.here.low) =
                other ∙ (λ i. standing_from (are.area.0 i) (are.told_is.0 i) above c both.here.low (cursor i - both.here.low)) in
                let count : told.cursor - low ≡ (both.here.low - low) + (told.cursor - both.here.low) = omega (arith, bound, seam, cursor, up, on) in
                let at : low + (both.here.low - low) ≡ both.here.low = omega (arith, bound, seam, up) in
                let lower : standing_from a told below c low (both.here.low - low) ≡ standing_from a told (below ++ above) c low (both.here.low - low) =
                sym (same_given g told docs (below ++ above) below (both.here.low - low) low
                (λ p from_low to. group_alone g told below above p (docs p) (from_absent both.here.low p above from (omega (arith, to, at))))) in
                let upper : standing_from a told above c both.here.low (told.cursor - both.here.low) ≡ standing_from a told (below ++ above) c both.here.low (told.cursor - both.here.low) =
                sym (same_given g told docs (below ++ above) above (told.cursor - both.here.low) both.here.low
                (λ p from_mid to. behind_alone g told below above p (docs p) (below_absent both.here.low p below under from_mid))) in
                (λ i. (one_is ∙ lower) i ++ (other_is ∙ upper) i)
                ∙ (sym
                (ap (λ (l : List StoredRow). standing_from a told l c low (told.cursor - low)) is
                ∙ (ap (standing_from a told (below ++ above) c low) count
                ∙ (parts_given g told docs (below ++ above) (both.here.low - low) low (told.cursor - both.here.low)
                ∙ ap (λ k. standing_from a told (below ++ above) c low (both.here.low - low) ++ standing_from a told (below ++ above) c k (told.cursor - both.here.low)) at))))
