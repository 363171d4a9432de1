-- What a check says, by what was read.
use Rattle.std.proofs.Common.{◌≡◌, ℕ, ◌+◌, ◌*◌, ◌≤◌, ◌<◌, min, Bool, true, false, List, [], ◌++◌, length, Some, None, Option, Err, refl, sym, ap, subst, ◌∙◌, inl, inr, arith}
use Rattle.std.specs.declared.alloc.AllocError.{AllocError}
use Rattle.device_log.specs.Image.{Image}
use Rattle.logged_disk.specs.Device.{DeviceState as Device}
use Rattle.stripe_header.specs.declared.area.Area.{Area}
use Rattle.stripe_header.specs.declared.states.SpanFault.{SpanFault}
use Rattle.stripe_header.specs.Layout.{content_of, device_blocks}
use Rattle.stripe_header.specs.Reading.{span_fault}
use Rattle.device_reads.specs.declared.reads.ReadFault.{ReadFault}
use Rattle.device_reads.specs.declared.reads.ReadFault.TheVariants.{DeviceFault, Memory}
use Rattle.device_reads.specs.Reads.{Reads}
use Rattle.device_reads.proofs.Telling.{reads_as, wants_behind}
use Rattle.reopening.specs.Device.{IsAreaOn, IsSpanFaultOn}
use Rattle.reopening.specs.Faults.{IsOpenFault}
use Rattle.reopening.specs.declared.reader.OpenFault.{OpenFault}
use Rattle.reopening.specs.declared.reader.OpenFault.TheVariants as open_faults
use Rattle.reopening.specs.Opens.{dropped_at, opens_to}
use Rattle.reopening.proofs.Areas.{one_area}
use Rattle.reopening.proofs.Whole.{faults_open}
use Rattle.device_opening.specs.declared.opening.OpeningRead.{OpeningRead}
use Rattle.device_opening.specs.declared.fault.OpeningFault.{OpeningFault}
use Rattle.device_opening.specs.declared.fault.OpeningFault.TheVariants as faults
use Rattle.device_opening.specs.Faults.{IsFaultWithin, StaysShut, WhereRead}
use Rattle.device_opening.specs.Opening.{IsOpeningRead, opening_read}
use Rattle.inspections.specs.Check.{SaysOpening, FailsOnce, ReadsOnce, dropped_line, opened_line, stop_of}

module _ (s t : Device) where
  module _ (r : OpeningRead) (reads : Reads 0 s.size (4 + 2 * length r.rows.items) s t (IsOpeningRead s.size r)) where
    abbrev most : ℕ
    most = 4 + 2 * length r.rows.items

    pub opened_checks : (text : List ℕ) (opens : Bool) → text ≡ opened_line (opening_read r) ++ dropped_line r.dropped → opens ≡ true → ReadsOnce s t (λ c. SaysOpening s.size c text opens)
    opened_checks text opens says is_open = (
      most,
      reads_as 0 s.size s.size most most s t (IsOpeningRead s.size r) (λ c. SaysOpening s.size c text opens) (omega arith) (omega arith)
          (λ c image is. inr (record {
            area = r.area;
            lies = is.lies;
            newest = r.taken.newest;
            newest_is = is.taken.newest;
            opening = opening_read r;
            opening_is = is.opens;
            text_is = says ∙ ap (λ n. opened_line (opening_read r) ++ dropped_line n) is.dropped;
            opens_is = is_open;
          })) reads,
    )

    pub opened_wants : (e : AllocError) → FailsOnce s t (Memory e)
    opened_wants e = (most, wants_behind 0 s.size most s t (IsOpeningRead s.size r) e reads)

  -- where a stripe lies the first block has no fault
  unlaid : (first : List ℕ) (f : SpanFault) → IsSpanFaultOn first s.size f → (a : Area) → IsAreaOn first s.size a → ⊥
  unlaid first f fault a lies =
      let room : device_blocks a ≤ s.size = lies.room in
      (fault.unlaid (omega (arith, room)) lies.tells.accepted).1 a lies

  module _ (text : List ℕ) (opens : Bool) (none : text ≡ []) (shut : opens ≡ false) where
    pub span_checks : (f : SpanFault) → Reads 0 (min 1 s.size) 1 s t (λ c. IsSpanFaultOn (c 0) s.size f) → ReadsOnce s t (λ c. SaysOpening s.size c text opens)
    span_checks f reads = (
      1,
      reads_as 0 (min 1 s.size) s.size 1 1 s t (λ c. IsSpanFaultOn (c 0) s.size f) (λ c. SaysOpening s.size c text opens) (omega arith) (omega arith)
          (λ c image is. inl (record { none = λ a lies. absurd (unlaid (c 0) f is a lies); text_is = none; shut = shut })) reads,
    )

    pub shut_checks : (f : OpenFault) → ((a : Area) (c : Image) → IsOpenFault a c f → opens_to a c ≡ None) → StaysShut s t f → ReadsOnce s t (λ c. SaysOpening s.size c text opens)
    shut_checks f nothing stays =
        let a = stays.0 in
        let room : device_blocks a ≤ s.size = stays.1.room in (
          4,
          reads_as 0 (content_of a) s.size 4 4 s t (λ c. IsAreaOn (c 0) s.size a × IsOpenFault a c f) (λ c. SaysOpening s.size c text opens) (omega (arith, room)) (omega arith)
              (λ c image is. inl (record {
                none = λ b lies. ap (λ (x : Area). opens_to x c) (one_area (c 0) s.size s.size b a lies is.0) ∙ nothing a c is.1;
                text_is = none;
                shut = shut;
              })) stays.2,
        )

    -- a fault of what was read
    pub fault_checks : (f : OpeningFault) → stop_of f ≡ None → IsFaultWithin s t f → ReadsOnce s t (λ c. SaysOpening s.size c text opens)
    fault_checks (faults.BadSpan f) told is = span_checks f is
    fault_checks (faults.NoCopy one other) told is = shut_checks (open_faults.NoCopy one other) (λ a c. (faults_open a c).0 one other) is
    fault_checks (faults.BadDirectory side segment f) told is = shut_checks (open_faults.BadDirectory side segment f) (λ a c. (faults_open a c).1 side segment f) is
    fault_checks (faults.DeviceFault count) told is = absurd cc
    fault_checks (faults.Memory e) told is = absurd cc
