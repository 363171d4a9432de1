-- Where a stripe lies, by what was read of the first block.
use Rattle.std.proofs.Common.{◌≡◌, ℕ, ◌+◌, ◌/◌, ◌≢◌, min, List, length, Result, Ok, Err, refl, ap, subst, ◌∙◌, arith}
use Rattle.std.specs.Prelude.{IfErr, IfOk}
use Rattle.device_log.specs.Image.{span}
use Rattle.device_log.proofs.Spans.{span_one}
use Rattle.logged_disk.specs.Device.{DeviceState as Device}
use Rattle.stripe_header.specs.declared.area.Area.{Area}
use Rattle.stripe_header.specs.declared.states.SpanFault.{SpanFault}
use Rattle.stripe_header.specs.declared.states.SpanFault.TheVariants.{Geometry}
use Rattle.device_reads.specs.Reads.{Reads}
use Rattle.device_reads.proofs.Telling.{reads_as, reads_none}
use Rattle.reopening.specs.Device.{IsAreaOn, IsSpanFaultOn}
use Rattle.device_opening.specs.Faults.{SpanIs}

-- a device without a block has none
pub no_block : (s : Device) → s.size ≡ 0 → Reads 0 (min 1 s.size) 1 s s (λ c. SpanIs (c 0) s.size (Err Geometry))
no_block s empty =
    reads_none 0 (min 1 s.size) 1 s (λ c. SpanIs (c 0) s.size (Err Geometry)) (omega arith)
    (λ c image. record {
      short = λ none. refl;
      faulty = λ told some is. absurd (omega (arith, some, empty));
      unlaid = λ some is. absurd (omega (arith, some, empty));
    })

span_is : (first : List ℕ) (size : ℕ) (r : Result Area SpanFault) → IfOk r (IsAreaOn first size) → IfErr r (IsSpanFaultOn first size) → SpanIs first size r
span_is first size (Ok a) area fault = area
span_is first size (Err f) area fault = fault

pub span_as_read : (old new : Device) (block : List ℕ) (size : ℕ) (r : Result Area SpanFault) → old.size ≢ 0 → size ≡ old.size → length block ≡ 512
    → IfOk r (IsAreaOn block size) → IfErr r (IsSpanFaultOn block size)
    → Reads 0 (0 + length block / 512) 1 old new (λ c. block ≡ span c 0 (length block / 512)) → Reads 0 (min 1 old.size) 1 old new (λ c. SpanIs (c 0) old.size r)
span_as_read old new block size r some same long area fault reads =
    let one : length block / 512 ≡ 1 = ap (λ n. n / 512) long in
    let is : SpanIs block old.size r = subst (λ (n : ℕ). SpanIs block n r) same (span_is block size r area fault) in
    reads_as 0 (0 + length block / 512) (min 1 old.size) 1 1 old new (λ c. block ≡ span c 0 (length block / 512)) (λ c. SpanIs (c 0) old.size r) (omega (arith, one, some)) (omega arith)
    (λ c image told. subst (λ (l : List ℕ). SpanIs l old.size r) (told ∙ (ap (span c 0) one ∙ span_one c 0)) is) reads
