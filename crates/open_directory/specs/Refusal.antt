-- When each call is refused.
use Rattle.std.specs.Prelude.{◌≡◌, ℕ, ◌==◌, if◌then◌else◌, List, length, Option, Some, None, Result, Ok, Err}
use Rattle.open_directory.specs.declared.refusal.OpenRefusal.{OpenRefusal}
use Rattle.open_directory.specs.declared.refusal.OpenRefusal.TheVariants.{TooManyWriters, NoSuchWriter, Memory}
use Rattle.open_directory.specs.declared.kept.KeptPut.{KeptPut}
use Rattle.open_directory.specs.Directory.{Held, is_kept_open}

-- as many writers are open as may be
abbrev pub opening_refusal : Held → Option OpenRefusal
opening_refusal held = if length held.writers == 64 then Some TooManyWriters else None

-- no writer of the put is open
abbrev pub writing_refusal : ℕ → List (ℕ × KeptPut) → Option OpenRefusal
writing_refusal put puts = if is_kept_open put puts then None else Some NoSuchWriter

-- a call is refused as the reason says; where there is none, only memory can be wanting
abbrev pub RefusesCall : {X : Type 0} → Result X OpenRefusal → Option OpenRefusal → Type 0
RefusesCall (Ok x) refusal = refusal ≡ None
RefusesCall (Err (Memory e)) refusal = refusal ≡ None
RefusesCall (Err fault) refusal = refusal ≡ Some fault

-- a call is refused as the reason says, and never for memory
abbrev pub RefusesOnly : {X : Type 0} → Result X OpenRefusal → Option OpenRefusal → Type 0
RefusesOnly (Ok x) refusal = refusal ≡ None
RefusesOnly (Err fault) refusal = refusal ≡ Some fault

-- memory was wanting
abbrev pub IsWantOfMemory : {X : Type 0} → Result X OpenRefusal → Type 0
IsWantOfMemory (Ok x) = ⊥
IsWantOfMemory (Err (Memory e)) = Unit {0}
IsWantOfMemory (Err fault) = ⊥
