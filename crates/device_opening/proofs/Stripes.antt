-- What reads of a span and of copies tell together.
use Rattle.std.proofs.Common.{◌≤◌, min, Ok, Err, arith}
use Rattle.device_log.specs.Image.{Image, IsImage}
use Rattle.logged_disk.specs.Device.{DeviceState as Device}
use Rattle.stripe_header.specs.declared.area.Area.{Area}
use Rattle.stripe_header.specs.declared.states.SpanFault.{SpanFault}
use Rattle.stripe_header.specs.Layout.{content_of, device_blocks}
use Rattle.device_reads.specs.declared.reads.ReadFault.{ReadFault}
use Rattle.device_reads.specs.declared.reads.ReadFault.TheVariants.{DeviceFault, Memory}
use Rattle.device_reads.specs.Reads.{Fails, Reads}
use Rattle.device_reads.proofs.Telling.{fails_as, fails_then, reads_as, reads_then, wants_behind}
use Rattle.reopening.specs.declared.reader.OpenFault.{OpenFault}
use Rattle.reopening.specs.declared.reader.OpenFault.TheVariants as open_faults
use Rattle.reopening.specs.Device.{IsAreaOn}
use Rattle.reopening.specs.Faults.{IsOpenFault}
use Rattle.device_opening.specs.declared.copies.Copies.{Copies}
use Rattle.device_opening.specs.declared.device.NewestRead.{NewestRead}
use Rattle.device_opening.specs.declared.fault.OpeningFault.{OpeningFault}
use Rattle.device_opening.specs.declared.fault.OpeningFault.TheVariants as faults
use Rattle.device_opening.specs.declared.newest.Chosen.{Chosen}
use Rattle.device_opening.specs.Copies.{AreCopiesOf, IsChosen, IsLaid, IsNewestRead}
use Rattle.device_opening.specs.Faults.{IsFaultIn, IsFaultOf, SpanIs, StaysShut, copies_fault, read_fault}

-- ---- of a stripe

module _ (a : Area) (s t : Device) where
  pub copies_stop : (e : ReadFault) → Fails 1 (content_of a) 3 s t e → IsFaultIn a s t (read_fault e)
  copies_stop (DeviceFault count) fails = fails
  copies_stop (Memory e) fails = fails

  module _ (copies : Copies) (reads : Reads 1 (content_of a) 3 s t (AreCopiesOf a copies)) where
    pub copies_refused : (f : OpenFault) → ((c : Image) → IsImage c → AreCopiesOf a copies c → IsOpenFault a c f) → IsFaultIn a s t (copies_fault f)
    copies_refused (open_faults.NoCopy one other) is =
        reads_as 1 (content_of a) (content_of a) 3 3 s t (AreCopiesOf a copies) (λ c. IsOpenFault a c (open_faults.NoCopy one other)) (omega arith) (omega arith) is reads
    copies_refused (open_faults.BadDirectory side segment fault) is =
        reads_as 1 (content_of a) (content_of a) 3 3 s t (AreCopiesOf a copies) (λ c. IsOpenFault a c (open_faults.BadDirectory side segment fault)) (omega arith) (omega arith) is reads
    copies_refused (open_faults.Memory e) is = wants_behind 1 (content_of a) 3 s t (AreCopiesOf a copies) e reads

    pub copy_chosen : (chosen : Chosen) → ((c : Image) → IsImage c → AreCopiesOf a copies c → IsChosen a c chosen) → Reads 1 (content_of a) 3 s t (λ c. IsChosen a c chosen)
    copy_chosen chosen is = reads_as 1 (content_of a) (content_of a) 3 3 s t (AreCopiesOf a copies) (λ c. IsChosen a c chosen) (omega arith) (omega arith) is reads

-- ---- of a device

module _ (s t : Device) where
  pub span_stops : (e : ReadFault) → Fails 0 (min 1 s.size) 1 s t e → IsFaultOf s t (read_fault e)
  span_stops (DeviceFault count) fails = fails_as 0 (min 1 s.size) s.size 1 4 s t (DeviceFault count) (omega arith) (omega arith) fails
  span_stops (Memory e) fails = fails_as 0 (min 1 s.size) s.size 1 4 s t (Memory e) (omega arith) (omega arith) fails

  pub span_refused : (f : SpanFault) → Reads 0 (min 1 s.size) 1 s t (λ c. SpanIs (c 0) s.size (Err f)) → IsFaultOf s t (faults.BadSpan f)
  span_refused f reads = reads

  module _ (a : Area) (laid : IsLaid s.size a) (front : Reads 0 (min 1 s.size) 1 s t (λ c. SpanIs (c 0) s.size (Ok a))) (u : Device) where
    abbrev Lies : Image → Type 0
    Lies c = IsAreaOn (c 0) s.size a

    first : Reads 0 1 1 s t Lies
    first = reads_as 0 (min 1 s.size) 1 1 1 s t Lies Lies (omega arith) (omega arith) (λ c image is. is) front

    room : device_blocks a ≤ s.size
    room = laid.room

    refused_as : (f : OpenFault) → Reads 1 (content_of a) 3 t u (λ c. IsOpenFault a c f) → StaysShut s u f
    refused_as f reads = (a, laid, reads_then 0 1 (content_of a) 1 3 s t u Lies (λ c. IsOpenFault a c f) first reads)

    stops_as : (e : ReadFault) → Fails 1 (content_of a) 3 t u e → Fails 0 s.size 4 s u e
    stops_as e fails = fails_as 0 (content_of a) s.size 4 4 s u e (omega (arith, room)) (omega arith) (fails_then 0 1 (content_of a) 1 3 s t u Lies e first fails)

    pub stripe_refused : (f : OpeningFault) → IsFaultIn a t u f → IsFaultOf s u f
    stripe_refused (faults.BadSpan fault) is = absurd is
    stripe_refused (faults.NoCopy one other) is = refused_as (open_faults.NoCopy one other) is
    stripe_refused (faults.BadDirectory side segment fault) is = refused_as (open_faults.BadDirectory side segment fault) is
    stripe_refused (faults.DeviceFault count) is = stops_as (DeviceFault count) is
    stripe_refused (faults.Memory e) is = stops_as (Memory e) is

    pub stripe_read : (chosen : Chosen) → Reads 1 (content_of a) 3 t u (λ c. IsChosen a c chosen)
        → Reads 0 (content_of a) 4 s u (IsNewestRead s.size (record { area = a; chosen = chosen }))
    stripe_read chosen reads =
        let r : NewestRead = record { area = a; chosen = chosen } in
        reads_as 0 (content_of a) (content_of a) 4 4 s u (λ c. Lies c × IsChosen a c chosen) (IsNewestRead s.size r) (omega arith) (omega arith)
        (λ c image is. record { lies = is.0; chosen = is.1 })
        (reads_then 0 1 (content_of a) 1 3 s t u Lies (λ c. IsChosen a c chosen) first reads)
