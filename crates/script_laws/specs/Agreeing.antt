-- What a script prints is fixed by its bytes, where nothing was displaced and no device was in trouble.
use Rattle.std.specs.Prelude.{ℕ, ◌≡◌, List, [], All, map, option_map}
use Rattle.std.specs.List.{AllByRecursion}
use Rattle.model_laws.specs.Agreeing.{without_digests}
use Rattle.model_laws.specs.RoomLaws.{TellNoDisplacement}
use Rattle.script_run.specs.Run.{Harm, IsHarmless, Run}
use Rattle.script_run.specs.Turn.{Turn}
use Rattle.script_run.specs.Behind.{harms_of}
use Rattle.script_run.specs.Takes.{output_of, run_after}

-- nothing was displaced in these turns
abbrev pub NoneDisplaced : List Turn → Type 0
NoneDisplaced turns = AllByRecursion (λ (turn : Turn). TellNoDisplacement turn.added) turns

-- of no device a fault or damage was told
abbrev pub NoneHarmed : Run → Type 0
NoneHarmed run = All IsHarmless (harms_of run)

-- what was told of a device but for its calls
abbrev pub without_calls : Harm → Harm
without_calls harm = record harm { calls = [] }

-- a run but for what its devices alone fix: their calls, and the digests of the documents of its session
abbrev pub without_devices : Run → Run
without_devices run = record run {
  state = option_map without_digests run.state;
  calls = [];
  last = option_map without_digests run.last;
  ended = map without_calls run.ended;
}

-- with either turns the lines print the same, and leave the same but for what the devices fix
pub record AreSame (run : Run) (lines : List (List ℕ)) (one other : List Turn) : Type 0 where
  pub output : output_of run lines one ≡ output_of run lines other
  pub left : without_devices (run_after run lines one) ≡ without_devices (run_after run lines other)
