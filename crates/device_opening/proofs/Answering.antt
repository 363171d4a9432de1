-- Results by what holds of them.
use Rattle.std.proofs.Common.{ℕ, ◌≤◌, Result, Ok, Err, arith}
use Rattle.std.specs.declared.alloc.AllocError.{AllocError}
use Rattle.device_log.specs.Image.{Image}
use Rattle.logged_disk.specs.Device.{DeviceState as Device}
use Rattle.device_reads.specs.declared.reads.ReadFault.TheVariants.{Memory}
use Rattle.device_reads.specs.Reads.{Fails, Reads}
use Rattle.device_reads.proofs.Telling.{reads_as, wants_behind}
use Rattle.std.specs.Prelude.{IfErr, IfOk, IsErrAnd, OnOk}

pub err_as : {T E : Type 0} {Q : E → Type 0} (r : Result T E) (P : E → Type 0) → IsErrAnd r Q → ((y : E) → Q y → P y) → IfErr r P
err_as (Ok x) P is f = tt
err_as (Err y) P is f = f y is

pub err_map : {T E : Type 0} {Q : E → Type 0} (r : Result T E) (P : E → Type 0) → ((y : E) → Q y → P y) → IfErr r Q → IfErr r P
err_map (Ok x) P f is = tt
err_map (Err y) P f is = f y is

pub ok_map : {T E : Type 0} {Q : T → Type 0} (r : Result T E) (P : T → Type 0) → ((x : T) → Q x → P x) → IfOk r Q → IfOk r P
ok_map (Ok x) P f is = f x is
ok_map (Err y) P f is = tt

pub done_map : {T E : Type 0} {P Q : Type 0} (r : Result T E) → (P → Q) → OnOk r P → OnOk r Q
done_map (Ok x) f is = f is
done_map (Err y) f is = tt

-- memory was wanting behind reads
pub wants_after : (low high top most : ℕ) (s t : Device) (P : Image → Type 0) (e : AllocError) → high ≤ top → Reads low high most s t P → Fails low top most s t (Memory e)
wants_after low high top most s t P e within reads =
    wants_behind low top most s t P e (reads_as low high top most most s t P P within (omega arith) (λ c image is. is) reads)
