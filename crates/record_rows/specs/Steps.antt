-- Steps of a stripe that syncs, with calls of the device, each worked by hand.
use Rattle.std.specs.Prelude.{ℕ, ◌≡◌, ◌*◌, ◌-◌, ◌^◌, ◌≤◌, true, false, List, [], ◌∷◌, ◌++◌, Some, None, length}
use Rattle.std.specs.List.{repeat}
use Rattle.device_log.specs.Calls.{Call, RefusedCall, Synced, ToWrite, Wrote}
use Rattle.tape_base.specs.declared.digests.Digest.{Digest}
use Rattle.doc_header.specs.Reading.{document_digest}
use Rattle.cache_model.specs.declared.record.Rec.TheVariants as rec
use Rattle.cache_model.specs.Legal.{IsStep, format_records}
use Rattle.cache_model.specs.Permit.{CleanSync, Drain, Exhausted, Faulted, Flush, NoSync, Permit, Sync, SyncBegin, SyncRuns, SyncStep}
use Rattle.cache_model.specs.State.{State, after_all, nothing_yet}
use Rattle.record_rows.specs.Worked.{IsBlock, a, behind_format, behind_opening, put_of_no_bytes, synced, wide}
use Rattle.record_rows.specs.Rows.{at_end_in_parts, clean_sync, once_refused, while_it_runs}

-- a step of a stripe that syncs
abbrev pub with_calls : List Call → Permit
with_calls events = record { packed = true; syncs = true; now = 0; past = []; events = events }

-- the bytes of a gate behind its first one
abbrev pub gate_zeros : List ℕ
gate_zeros = repeat 511 (0 ∷ [])

-- a gate is opened, or shut
abbrev pub gate_written : ℕ → Call
gate_written gate = Wrote gate (1 ∷ gate_zeros)

abbrev pub shut : ℕ → Call
shut gate = Wrote gate (0 ∷ gate_zeros)

-- the calls of a sync into the second copy, the newest first: its gate is known to be shut
abbrev pub calls_of_sync : List ℕ → List Call
calls_of_sync body = Synced ∷ gate_written 2 ∷ Synced ∷ Wrote 11 body ∷ Synced ∷ []

-- a body: a header, six blocks of directory and a footer
abbrev pub IsCopyBody : List ℕ → Type 0
IsCopyBody body = length body ≡ 512 * 8

-- ---- a sync of an empty buffer

-- it is recorded with its end, on those calls
abbrev pub AnEmptySyncIsAStep : Type 0
AnEmptySyncIsAStep = (body : List ℕ) → IsCopyBody body
    → IsStep (with_calls (calls_of_sync body)) (behind_format []) (Sync ∷ []) (synced 2 64 false) None

-- also where the buffer begins right below 2^62, since it takes no place
abbrev pub at_tape_end : State
at_tape_end = behind_format (rec.Began (2 ^ 62 - 1) (2 ^ 62 - 49) ∷ [])

abbrev pub AnEmptySyncAtTheTapeEndIsAStep : Type 0
AnEmptySyncAtTheTapeEndIsAStep = (body : List ℕ) → IsCopyBody body
    → IsStep (with_calls (calls_of_sync body)) at_tape_end (Sync ∷ []) (synced 2 (2 ^ 62 - 1) false) None

-- there it is not refused
abbrev pub ARefusedSyncAtTheTapeEndIsNoStep : Type 0
ARefusedSyncAtTheTapeEndIsNoStep = IsStep (with_calls []) at_tape_end (Sync ∷ []) [] (Some Exhausted) → ⊥

-- ---- a buffer, and the sync that names it

-- one object is in the buffer
abbrev pub with_one : Digest → State
with_one digest = behind_format (put_of_no_bytes 64 1 a digest)

-- the buffer is written before the sync
abbrev pub AWriteBeforeItsSyncIsAStep : Type 0
AWriteBeforeItsSyncIsAStep = (body block : List ℕ) → IsCopyBody body → IsBlock block
    → IsStep (with_calls (calls_of_sync body ++ (Wrote 19 block ∷ []))) (with_one (document_digest block)) (Sync ∷ []) (synced 2 65 false ++ (rec.Began 65 9 ∷ [])) None

-- ---- a sync in parts

-- while one goes on another one is refused, with its serial, and the device is asked nothing
abbrev pub ASecondOneIsRefused : Type 0
ASecondOneIsRefused = IsStep (with_calls []) while_it_runs (SyncBegin ∷ []) [] (Some (SyncRuns 2))

-- its last part ends it
abbrev pub ALastPartIsAStep : Type 0
ALastPartIsAStep = (body : List ℕ) → IsCopyBody body
    → IsStep (with_calls (Synced ∷ gate_written 2 ∷ Synced ∷ Wrote 11 body ∷ [])) while_it_runs (SyncStep true ∷ [])
    (rec.SyncDone 2 ∷ []) None

-- a part that the device refuses leaves it
abbrev pub ARefusedPartIsAStep : Type 0
ARefusedPartIsAStep = IsStep (with_calls (RefusedCall (ToWrite 11 8 []) 1 ∷ [])) while_it_runs (SyncStep true ∷ []) (rec.Fault 1 ∷ []) (Some (Faulted 1))

-- a sync in parts of a directory of 321 blocks
abbrev pub while_parts_are_left : State
while_parts_are_left = after_all nothing_yet (format_records wide ++ rec.SyncBegun 2 64 false true ∷ [])

-- a part of 64 blocks that is not the last one leaves it
abbrev pub APartIsAStep : Type 0
APartIsAStep = (part : List ℕ) → length part ≡ 512 * 64
    → IsStep (with_calls (Wrote 326 part ∷ [])) while_parts_are_left (SyncStep false ∷ []) [] None

-- where none goes on there is no part to write
abbrev pub NoPartWithoutASync : Type 0
NoPartWithoutASync = IsStep (with_calls []) (behind_format []) (SyncStep true ∷ []) [] (Some NoSync)

-- ---- behind a refused call

-- the device refuses to take the gate with which the sync in parts was to be ended, before another one
abbrev pub refused_gate : List Call
refused_gate = RefusedCall (ToWrite 2 1 []) 1 ∷ []

-- that may be the fault alone
abbrev pub ARefusedEndIsAStep : Type 0
ARefusedEndIsAStep = IsStep (with_calls refused_gate) while_it_runs (Sync ∷ []) (rec.Fault 1 ∷ []) (Some (Faulted 1))

-- ---- a sync in parts at the end of a lap

-- a part of it that the device refuses is a fault, and behind that another one is refused still, with the same serial
abbrev pub ARefusedPartLeavesTheSync : Type 0
ARefusedPartLeavesTheSync =
    ((left : List ℕ) → IsStep (with_calls (RefusedCall (ToWrite 3 8 left) 1 ∷ [])) at_end_in_parts (SyncStep true ∷ []) (rec.Fault 1 ∷ []) (Some (Faulted 1)))
    × IsStep (with_calls []) once_refused (SyncBegin ∷ []) [] (Some (SyncRuns 5))

-- ---- a stripe that is closed

-- a clean copy of an empty buffer, behind a drain that finds nothing to write
abbrev pub AClosedStripeIsAStep : Type 0
AClosedStripeIsAStep = (body : List ℕ) → IsCopyBody body
    → IsStep (with_calls (calls_of_sync body)) (behind_format []) (Drain ∷ CleanSync ∷ []) (synced 2 64 true) None

-- behind its opening it is closed again, under the next serial: the gate of the older copy is open, and is shut first
abbrev pub AMarkedStripeMayBeClosed : Type 0
AMarkedStripeMayBeClosed = (body : List ℕ) → IsCopyBody body
    → IsStep (with_calls (Synced ∷ gate_written 2 ∷ Synced ∷ Wrote 11 body ∷ Synced ∷ shut 2 ∷ [])) (behind_opening clean_sync []) (Drain ∷ CleanSync ∷ []) (synced 4 66 true) None
