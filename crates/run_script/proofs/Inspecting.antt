-- What comes of looking at a device, by the calls of its bay and of the device.
use Rattle.std.proofs.Common.{◌≡◌, ℕ, ◌+◌, ◌≤◌, Bool, List, [], ◌∷◌, ◌++◌, length, length-append, Result, Ok, Err, Some, refl, sym, ap, subst, ◌∙◌, inl, inr, ◌⊎◌, arith}
use Rattle.std.specs.Prelude.{◌≢◌, IfErr, IfOk, OnOk, string_bytes, ⊤}
use Rattle.device_log.specs.Image.{Image}
use Rattle.device_log.specs.Streams.{SinkWrite, SourceRead}
use Rattle.logged_disk.specs.Device.{DeviceState as Device}
use Rattle.device_bay.specs.Calls.{AttachRefusal, BayCall, Gave, Gift, RefusedAttach, TookBack, gifts_of, names_of, number_behind, out_of, refusals_of, returned_by}
use Rattle.device_bay.specs.Bay.{IsNewDevice}
use Rattle.script_run.specs.Ledger.{InOrder, Ledger, ledger_behind}
use Rattle.device_reads.specs.declared.reads.ReadFault.{ReadFault}
use Rattle.device_reads.specs.declared.reads.ReadFault.TheVariants.{DeviceFault, Memory}
use Rattle.device_reads.specs.Reads.{AreReads, Fails, Reads, Tell}
use Rattle.device_reads.proofs.Telling.{reads_as, whole_few, whole_reads, whole_tells}
use Rattle.inspections.specs.Check.{FailsOnce, ReadsOnce, SaysOpening}
use Rattle.inspections.specs.Inspect.{Says}
use Rattle.inspections.specs.declared.device.Inspection.{Inspection}
use Rattle.run_promise.specs.declared.status.Status.{Status}
use Rattle.run_promise.specs.declared.status.Status.TheVariants as status
use Rattle.run_promise.specs.Story.{Refusals, refusals_around}
use Rattle.run_promise.specs.Top.{ReadsFailed}
use Rattle.run_script.specs.Commands.{RefusesLook}
use Rattle.run_script.specs.Inspects.{FaultsInspection, InspectsDevice, LooksAt, PrintsFault, PrintsInspection, PrintsLines, PrintsSaid, Sayings, WantsInspection}

-- a device was attached and came back
module _ (name : List ℕ) (past later : List BayCall) (device : Device) (is : later ≡ TookBack device ∷ Gave name 0 ∷ past) where
  pub names_are : names_of later ≡ names_of past ++ name ∷ []
  names_are = ap names_of is

  pub returned_are : returned_by later ≡ returned_by past ++ device ∷ []
  returned_are = ap returned_by is

  pub refusals_are : refusals_of later ≡ refusals_of past
  refusals_are = ap refusals_of is

  pub out_is : out_of later ≡ out_of past
  out_is = let same = ap out_of is in omega (arith, same)

  pub order_is : device.number ≡ number_behind (length (gifts_of past)) → InOrder (length (gifts_of past)) [] past later
  order_is number =
      let gift : Gift = record { name = name; blocks = 0 } in
      let gifts : length (gifts_of later) ≡ length (gifts_of past ++ gift ∷ []) = ap (λ l. length (gifts_of l)) is in
      let more : length (gifts_of past ++ gift ∷ []) ≡ length (gifts_of past) + 1 = length-append (gifts_of past) (gift ∷ []) in
      record {
        devices = device ∷ [];
        returned = returned_are;
        numbered = (number, tt);
        rest = record { numbered = tt; all = omega (arith, gifts, more) };
      }

-- it was only read, by few calls
abbrev pub ReadsFew : (IsFew : ℕ → Type 0) → (fresh device : Device) → (Image → Type 0) → Type 0
ReadsFew IsFew fresh device P = (most : ℕ) × ((n : ℕ) → n ≤ most → IsFew n) × Reads 0 fresh.size most fresh device P

-- so up to a read that failed, or to where memory was wanting
abbrev pub FailsFew : (IsFew : ℕ → Type 0) → (fresh device : Device) → ReadFault → Type 0
FailsFew IsFew fresh device e = (most : ℕ) × ((n : ℕ) → n ≤ most → IsFew n) × Fails 0 fresh.size most fresh device e

-- what was said
abbrev pub SaysOf : Sayings → ℕ → Inspection → Image → Type 0
SaysOf Said size said c = Said size c (string_bytes said.text) said.opens

-- an inspection makes four calls at most
pub four_read : (said : Result Inspection ReadFault) (fresh device : Device) → IfOk said (λ i. Reads 0 fresh.size 4 fresh device (SaysOf Says fresh.size i))
    → IfOk said (λ i. ReadsFew (λ n. n ≤ 4) fresh device (SaysOf Says fresh.size i))
four_read (Ok i) fresh device reads = (4, (λ n le. le), reads)
four_read (Err e) fresh device reads = tt

pub four_fail : (said : Result Inspection ReadFault) (fresh device : Device) → IfErr said (Fails 0 fresh.size 4 fresh device) → IfErr said (FailsFew (λ n. n ≤ 4) fresh device)
four_fail (Ok i) fresh device fails = tt
four_fail (Err e) fresh device fails = (4, (λ n le. le), fails)

-- and a check any number
pub any_read : (said : Result Inspection ReadFault) (fresh device : Device) → IfOk said (λ i. ReadsOnce fresh device (SaysOf SaysOpening fresh.size i))
    → IfOk said (λ i. ReadsFew (λ n. ⊤) fresh device (SaysOf SaysOpening fresh.size i))
any_read (Ok i) fresh device reads = (reads.0, (λ n le. tt), reads.1)
any_read (Err e) fresh device reads = tt

pub any_fail : (said : Result Inspection ReadFault) (fresh device : Device) → IfErr said (FailsOnce fresh device) → IfErr said (FailsFew (λ n. ⊤) fresh device)
any_fail (Ok i) fresh device fails = tt
any_fail (Err e) fresh device fails = (fails.0, (λ n le. tt), fails.1)

-- the device was looked at, or it or memory failed
module _ (Said : Sayings) (IsFew : ℕ → Type 0) (name : List ℕ) (past later : List BayCall) (old new : List SinkWrite) (s : Status) (fresh device : Device) (begins : IsNewDevice 0 past fresh)
    (is : later ≡ TookBack device ∷ Gave name 0 ∷ past) where
  abbrev Outcome : Type 0
  Outcome = PrintsInspection Said device old new s ⊎ (FaultsInspection device old new s ⊎ WantsInspection old new s)

  size_is : (P : Image → Type 0) → ReadsFew IsFew fresh device P → fresh.size ≡ device.size
  size_is P reads = sym reads.2.keeps.size

  came_back : (P : Image → Type 0) → ReadsFew IsFew fresh device P → Outcome → InspectsDevice Said IsFew name old new (refusals_around (refusals_of past) (refusals_of later)) (ledger_behind past) (ledger_behind later) s
  came_back P reads out = record {
    device = device;
    attached = names_are name past later device is;
    returned = returned_are name past later device is;
    unrefused = refusals_are name past later device is;
    reads = subst (λ (n : ℕ). AreReads 0 n device.past) (size_is P reads) (whole_reads 0 fresh.size reads.0 fresh device P begins.past_is reads.2);
    few = reads.1 (length device.past) (whole_few 0 fresh.size reads.0 fresh device P begins.past_is reads.2);
    out = out;
  }

  printed : (said : Inspection) → ReadsFew IsFew fresh device (SaysOf Said fresh.size said) → device.faults ≡ fresh.faults → PrintsLines (string_bytes said.text) said.opens old new s → PrintsInspection Said device old new s
  printed said reads same out = record {
    text = string_bytes said.text;
    opens = said.opens;
    unrefused = same ∙ begins.faults;
    says = subst (λ (n : ℕ). Tell device.past (λ c. Said n c (string_bytes said.text) said.opens)) (size_is (SaysOf Said fresh.size said) reads) (whole_tells 0 fresh.size reads.0 fresh device (SaysOf Said fresh.size said) begins.past_is reads.2);
    out = out;
  }

  faulted : (count : ℕ) → FailsFew IsFew fresh device (DeviceFault count) → PrintsFault old new s ⊎ WantsInspection old new s → Outcome
  faulted count fails (inl out) = inr (inl (record { count = count; last_call = fails.2.1; out = out }))
  faulted count fails (inr wants) = inr (inr wants)

  pub inspected : (said : Result Inspection ReadFault) → IfOk said (λ i. ReadsFew IsFew fresh device (SaysOf Said fresh.size i)) → OnOk said (device.faults ≡ fresh.faults) → IfErr said (FailsFew IsFew fresh device) → PrintsSaid said old new s
      → LooksAt Said IsFew name old new (refusals_around (refusals_of past) (refusals_of later)) (ledger_behind past) (ledger_behind later) s
  inspected (Ok said) reads same fails out = inl (came_back (SaysOf Said fresh.size said) reads (inl (printed said reads same out)))
  inspected (Err (DeviceFault count)) reads same fails out = inl (came_back (λ c. Unit {0}) (fails.0, fails.1, fails.2.0) (faulted count fails out))
  inspected (Err (Memory e)) reads same fails out = inl (came_back (λ c. Unit {0}) (fails.0, fails.1, fails.2.0) (inr (inr out)))

  number_is : (said : Result Inspection ReadFault) → IfOk said (λ i. ReadsFew IsFew fresh device (SaysOf Said fresh.size i)) → IfErr said (FailsFew IsFew fresh device) → device.number ≡ fresh.number
  number_is (Ok said) reads fails = reads.2.keeps.number
  number_is (Err e) reads fails = fails.2.0.keeps.number

  pub inspected_order : (said : Result Inspection ReadFault) → IfOk said (λ i. ReadsFew IsFew fresh device (SaysOf Said fresh.size i)) → IfErr said (FailsFew IsFew fresh device) → InOrder (length (gifts_of past)) [] past later
  inspected_order said reads fails = order_is name past later device is (number_is said reads fails ∙ begins.number_is)

-- the attach was refused
module _ (name : List ℕ) (past later : List BayCall) (count : ℕ) (is : later ≡ RefusedAttach name 0 count ∷ past) where
  unattached : ledger_behind later ≡ ledger_behind past
  unattached = ap ledger_behind is

  abbrev refusal : AttachRefusal
  refusal = record { name = name; blocks = 0; count = count }

  refused_is : refusals_of later ≡ refusals_of past ++ refusal ∷ []
  refused_is = ap refusals_of is

  module _ (old new : List SinkWrite) (s : Status) where
    abbrev Concluded : Type 0
    Concluded = WantsInspection old new s ⊎ PrintsFault old new s

    pub unattached_concludes : (Said : Sayings) (IsFew : ℕ → Type 0) → Concluded → LooksAt Said IsFew name old new (refusals_around (refusals_of past) (refusals_of later)) (ledger_behind past) (ledger_behind later) s
    unattached_concludes Said IsFew (inl wants) = inr (inr (record { wants = wants; unattached = unattached }))
    unattached_concludes Said IsFew (inr out) = inr (inl (record { count = count; refused = refused_is; unattached = unattached; out = out }))

    pub one_refused : Concluded → RefusesLook (refusals_of past) (refusals_of later) s
    one_refused (inl wants) = subst (λ (t : Status). RefusesLook (refusals_of past) (refusals_of later) t) (sym wants.0) (inr (refusal, refused_is))
    one_refused (inr out) = subst (λ (t : Status). RefusesLook (refusals_of past) (refusals_of later) t) (sym out.0) (inr (refusal, refused_is))

-- no attach was refused
pub none_refused : (before now : List AttachRefusal) (s : Status) → now ≡ before → RefusesLook before now s
none_refused before now status.Done is = is
none_refused before now status.Usage is = is
none_refused before now status.BadScript is = is
none_refused before now status.ReadFault is = is
none_refused before now status.WriteFault is = is
none_refused before now status.BayFault is = inl is
none_refused before now status.LineTooLong is = is
none_refused before now status.NoCache is = is
none_refused before now status.OutOfMemory is = inl is
none_refused before now status.TooManyLines is = is

-- ---- the statuses of an inspection

abbrev pub CanBe : Status → Type 0
CanBe status.Done = Unit {0}
CanBe status.WriteFault = Unit {0}
CanBe status.BayFault = Unit {0}
CanBe status.NoCache = Unit {0}
CanBe status.OutOfMemory = Unit {0}
CanBe s = ⊥

lines_can_be : (text : List ℕ) (opens : Bool) (old new : List SinkWrite) (s : Status) → PrintsLines text opens old new s → CanBe s
lines_can_be text opens old new status.Done out = tt
lines_can_be text opens old new status.Usage out = out
lines_can_be text opens old new status.BadScript out = out
lines_can_be text opens old new status.ReadFault out = out
lines_can_be text opens old new status.WriteFault out = tt
lines_can_be text opens old new status.BayFault out = tt
lines_can_be text opens old new status.LineTooLong out = out
lines_can_be text opens old new status.NoCache out = tt
lines_can_be text opens old new status.OutOfMemory out = tt
lines_can_be text opens old new status.TooManyLines out = out

module _ (Said : Sayings) (IsFew : ℕ → Type 0) (name : List ℕ) (old new : List SinkWrite) (bay : Refusals) (before now : Ledger) (s : Status) where
  is_bay_fault : s ≡ status.BayFault → CanBe s
  is_bay_fault is = subst CanBe (sym is) tt

  is_out_of_memory : s ≡ status.OutOfMemory → CanBe s
  is_out_of_memory is = subst CanBe (sym is) tt

  out_can_be : (device : Device) → PrintsInspection Said device old new s ⊎ (FaultsInspection device old new s ⊎ WantsInspection old new s) → CanBe s
  out_can_be device (inl printed) = lines_can_be printed.text printed.opens old new s printed.out
  out_can_be device (inr (inl fault)) = is_bay_fault fault.out.0
  out_can_be device (inr (inr wants)) = is_out_of_memory wants.0

  pub can_be : LooksAt Said IsFew name old new bay before now s → CanBe s
  can_be (inl device) = out_can_be device.device device.out
  can_be (inr (inl refused)) = is_bay_fault refused.out.0
  can_be (inr (inr wants)) = is_out_of_memory wants.wants.0

pub is_no_usage : (s : Status) → CanBe s → s ≢ status.Usage
is_no_usage s can is = subst CanBe is can

-- no read of a source failed
pub none_failed : (first : List SourceRead) (s : Status) → CanBe s → ReadsFailed first first s
none_failed first status.Done can = refl
none_failed first status.Usage can = absurd can
none_failed first status.BadScript can = absurd can
none_failed first status.ReadFault can = absurd can
none_failed first status.WriteFault can = refl
none_failed first status.BayFault can = refl
none_failed first status.LineTooLong can = absurd can
none_failed first status.NoCache can = refl
none_failed first status.OutOfMemory can = inl refl
none_failed first status.TooManyLines can = absurd can
