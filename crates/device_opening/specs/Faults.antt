-- Why a device does not open, by what its reads say of each image that they agree with.
use Rattle.std.specs.Prelude.{ℕ, List, Result, Ok, Err, min, ⊤}
use Rattle.logged_disk.specs.Device.{DeviceState as Device}
use Rattle.stripe_header.specs.declared.area.Area.{Area}
use Rattle.stripe_header.specs.declared.states.SpanFault.{SpanFault}
use Rattle.stripe_header.specs.Layout.{content_of}
use Rattle.device_reads.specs.declared.reads.ReadFault.{ReadFault}
use Rattle.device_reads.specs.declared.reads.ReadFault.TheVariants as read_faults
use Rattle.device_reads.specs.Reads.{Fails, Reads}
use Rattle.reopening.specs.declared.reader.OpenFault.{OpenFault}
use Rattle.reopening.specs.declared.reader.OpenFault.TheVariants as open_faults
use Rattle.reopening.specs.Device.{IsAreaOn, IsSpanFaultOn}
use Rattle.reopening.specs.Faults.{IsOpenFault}
use Rattle.device_opening.specs.Copies.{IsLaid}
use Rattle.device_opening.specs.declared.fault.OpeningFault.{OpeningFault}
use Rattle.device_opening.specs.declared.fault.OpeningFault.TheVariants as faults

-- why a device was not read to the end as a fault of an opening
abbrev pub read_fault : ReadFault → OpeningFault
read_fault (read_faults.DeviceFault count) = faults.DeviceFault count
read_fault (read_faults.Memory e) = faults.Memory e

-- so of what its copies show
abbrev pub copies_fault : OpenFault → OpeningFault
copies_fault (open_faults.NoCopy a b) = faults.NoCopy a b
copies_fault (open_faults.BadDirectory side segment fault) = faults.BadDirectory side segment fault
copies_fault (open_faults.Memory e) = faults.Memory e

-- what is told by the first block of a device of so many
abbrev pub SpanIs : List ℕ → ℕ → Result Area SpanFault → Type 0
SpanIs first size (Ok a) = IsAreaOn first size a
SpanIs first size (Err fault) = IsSpanFaultOn first size fault

-- a stripe lies on the device, which has room for it; its copies were read alone, and by each image that the reads agree with it
-- does not open for this
abbrev pub StaysShut : (old new : Device) → OpenFault → Type 0
StaysShut old new fault =
    (a : Area) × IsLaid old.size a × Reads 0 (content_of a) 4 old new (λ c. IsAreaOn (c 0) old.size a × IsOpenFault a c fault)

-- of each image that the reads of the copies of a stripe agree with, that is why it does not open; a device's fault is that
-- of the last call
abbrev pub IsFaultIn : Area → (old new : Device) → OpeningFault → Type 0
IsFaultIn a old new (faults.BadSpan fault) = ⊥
IsFaultIn a old new (faults.NoCopy one other) = Reads 1 (content_of a) 3 old new (λ c. IsOpenFault a c (open_faults.NoCopy one other))
IsFaultIn a old new (faults.BadDirectory side segment fault) =
    Reads 1 (content_of a) 3 old new (λ c. IsOpenFault a c (open_faults.BadDirectory side segment fault))
IsFaultIn a old new (faults.DeviceFault count) = Fails 1 (content_of a) 3 old new (read_faults.DeviceFault count)
IsFaultIn a old new (faults.Memory e) = Fails 1 (content_of a) 3 old new (read_faults.Memory e)

-- Whatever image the reads of a device agree with has this fault. A device's fault is that of the last call; where memory is
-- wanting, nothing is said of the image.
abbrev pub IsFaultOf : (old new : Device) → OpeningFault → Type 0
IsFaultOf old new (faults.BadSpan fault) = Reads 0 (min 1 old.size) 1 old new (λ c. IsSpanFaultOn (c 0) old.size fault)
IsFaultOf old new (faults.NoCopy a b) = StaysShut old new (open_faults.NoCopy a b)
IsFaultOf old new (faults.BadDirectory side segment fault) = StaysShut old new (open_faults.BadDirectory side segment fault)
IsFaultOf old new (faults.DeviceFault count) = Fails 0 old.size 4 old new (read_faults.DeviceFault count)
IsFaultOf old new (faults.Memory e) = Fails 0 old.size 4 old new (read_faults.Memory e)

-- so of a reading of whatever length
abbrev pub IsFaultWithin : (old new : Device) → OpeningFault → Type 0
IsFaultWithin old new (faults.DeviceFault count) = (most : ℕ) × Fails 0 old.size most old new (read_faults.DeviceFault count)
IsFaultWithin old new (faults.Memory e) = (most : ℕ) × Fails 0 old.size most old new (read_faults.Memory e)
IsFaultWithin old new fault = IsFaultOf old new fault

-- where a device was read to the end, or has a fault of what was read
abbrev pub WhereRead : {T : Type 0} → Result T OpeningFault → Type 0 → Type 0
WhereRead (Ok x) P = P
WhereRead (Err (faults.DeviceFault count)) P = ⊤
WhereRead (Err (faults.Memory e)) P = ⊤
WhereRead (Err fault) P = P
