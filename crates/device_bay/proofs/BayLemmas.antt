-- What a bay's log may note behind what it has, and what the devices tell that came back.
use Rattle.std.proofs.Common.{◌≡◌, ℕ, ◌<◌, ◌≤◌, ◌==◌, ◌&&◌, Bool, true, false, if◌then◌else◌, List, [], ◌∷◌, None, Some, slice_index, length, refl, sym, ◌∙◌, ap, subst, arith}
use Rattle.std.specs.Prelude.{All}
use Rattle.std.proofs.lemmas.List.{length_push}
use Rattle.std.proofs.lemmas.List.Elements.{All-nil, All-push, All-same}
use Rattle.device_log.specs.Calls.{Call, Read, Wrote, Synced, RefusedCall, Told, PowerCut, Flipped}
use Rattle.device_log.specs.Faults.{faults_of, next_count}
use Rattle.device_log.specs.DeviceLog.{calls_of}
use Rattle.device_log.proofs.FaultLaws.{untold_has_none}
use Rattle.logged_disk.specs.Device.{DeviceState}
use Rattle.logged_disk.specs.MemDisk.{mem_state}
use Rattle.logged_disk.specs.declared.mem_disk.MemDisk.{MemDisk}
use Rattle.device_bay.specs.Entry.{BayEntry}
use Rattle.device_bay.specs.Calls.{BayCall, Gave, RefusedAttach, TookBack, Gift, IsBayLog, IsDevice, are_bay_counts, bay_faults, gifts_of, number_behind, out_of, returned_by}
use Rattle.device_bay.specs.Bay.{IsNewDevice}
use Rattle.device_bay.specs.Register.{IsRegister, calls_in, calls_of_entries}
use Rattle.device_bay.specs.declared.register.Register.{Register}
use Rattle.device_bay.specs.Returns.{IsMemReturn, has_refusal, ZeroHasNoRefusal, UntoldReturnsUnfailed, ReturnsTellByLog, UnturnedReturnsTell}

-- ---- one more call

pub nothing_called : IsBayLog []
nothing_called = record { counted = refl; all = refl; devices = All-nil IsDevice }

pub gave_is_log : (name : List ℕ) (blocks : ℕ) (past : List BayCall) → IsBayLog past → IsBayLog (Gave name blocks ∷ past)
gave_is_log name blocks past is =
    let gift : Gift = record { name = name; blocks = blocks } in
    let more = length_push (gifts_of past) gift in
    let before = is.all in
    record { counted = is.counted; all = omega (arith, more, before); devices = is.devices }

pub refused_is_log : (name : List ℕ) (blocks count : ℕ) (past : List BayCall) → count ≡ next_count (bay_faults past) → IsBayLog past
    → IsBayLog (RefusedAttach name blocks count ∷ past)
refused_is_log name blocks count past next is =
    let same : (count == next_count (bay_faults past)) ≡ true = grind (arith, next) in
    record { counted = ap (λ b. b && are_bay_counts past) same ∙ is.counted; all = is.all; devices = is.devices }

pub took_is_log : (s : DeviceState) (past : List BayCall) → IsDevice s → 0 < out_of past → IsBayLog past → IsBayLog (TookBack s ∷ past)
took_is_log s past device out is =
    let more = length_push (returned_by past) s in
    let before = is.all in
    record {
      counted = is.counted;
      all = omega (arith, more, before, out);
      devices = All-push IsDevice (returned_by past) s is.devices device;
    }

pub took_is_register : {D : Type 0} (state : D → DeviceState) (old new : Register D) (s : DeviceState)
    → calls_in state new ≡ TookBack s ∷ calls_in state old → new.given ≡ old.given → new.faults ≡ old.faults → IsDevice s
    → 0 < out_of (calls_in state old) → IsRegister state old → IsRegister state new
took_is_register state old new s calls given faults device out is = record {
  is_log = subst IsBayLog (sym calls) (took_is_log s (calls_in state old) device out is.is_log);
  given_is = given ∙ (is.given_is ∙ ap (λ past. number_behind (length (gifts_of past))) (sym calls));
  faults_are = faults ∙ (is.faults_are ∙ ap bay_faults (sym calls));
}

-- ---- devices in memory

-- a call without a device gives nothing back
none_back : (gives : Bool) (name : List ℕ) (blocks count : ℕ) (older : List BayCall)
    → returned_by ((if gives then Gave name blocks else RefusedAttach name blocks count) ∷ older) ≡ returned_by older
none_back true name blocks count older = refl
none_back false name blocks count older = refl

mem_return : (disk : MemDisk) → IsMemReturn (mem_state disk)
mem_return disk = record {
  obeys = disk.is_memory.obeys;
  untold = λ none. disk.is_memory.counted ∙ untold_has_none (calls_of disk.log) none disk.is_memory.obeys;
}

pub mem_returns : (entries : List (BayEntry MemDisk)) → All IsMemReturn (returned_by (calls_of_entries mem_state entries))
unfolding calls_of_entries
mem_returns [] = All-nil IsMemReturn
mem_returns ((numbers, (name, None)) ∷ entries) =
    let older = calls_of_entries mem_state entries in
    All-same IsMemReturn _ (returned_by older)
    (none_back (slice_index numbers 0 == 0) name (slice_index numbers 1) (slice_index numbers 2) older) (mem_returns entries)
mem_returns ((numbers, (name, Some disk)) ∷ entries) =
    All-push IsMemReturn (returned_by (calls_of_entries mem_state entries)) (mem_state disk) (mem_returns entries) (mem_return disk)

-- ---- counts

none_refused : (past : List Call) → faults_of past ≡ 0 → has_refusal past ≡ false
unfolding faults_of has_refusal
none_refused [] zero = refl
none_refused (Read at bytes ∷ older) zero = none_refused older zero
none_refused (Wrote at bytes ∷ older) zero = none_refused older zero
none_refused (Synced ∷ older) zero = none_refused older zero
none_refused (RefusedCall what count ∷ older) zero = absurd (omega (arith, zero))
none_refused (Told act ∷ older) zero = none_refused older zero
none_refused (PowerCut choice left ∷ older) zero = none_refused older zero
none_refused (Flipped at byte ∷ older) zero = none_refused older zero

pub zero_has_no_refusal : ZeroHasNoRefusal
zero_has_no_refusal s is zero = none_refused s.past (sym is.counted ∙ zero)

pub untold_has_no_fault : UntoldReturnsUnfailed
untold_has_no_fault s is has none =
    is.counted ∙ untold_has_none s.past none (is.obeys has)

-- ---- devices that tell their content

pub told_by_log : ReturnsTellByLog
told_by_log s is seen none = record { trusted = is.tells seen; unturned = none }

pub unturned_tells : UnturnedReturnsTell
unturned_tells s is has none = record { trusted = is.switched has; unturned = none }

-- ---- a device as it is attached

no_faults : (past : List Call) → past ≡ [] → faults_of past ≡ 0
unfolding faults_of
no_faults past none = ap faults_of none

pub new_memory : (blocks : ℕ) (calls : List BayCall) (disk : MemDisk) → blocks ≤ (mem_state disk).size → (mem_state disk).number ≡ number_behind (length (gifts_of calls))
    → (mem_state disk).past ≡ [] → IsNewDevice blocks calls (mem_state disk)
new_memory blocks calls disk size number none = record {
  size = size;
  number_is = number;
  past_is = none;
  faults = disk.is_memory.counted ∙ no_faults (calls_of disk.log) none;
  settled = refl;
}
