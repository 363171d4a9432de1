-- What the lines of turns leave in a sink.
use Rattle.std.specs.Prelude.{◌≡◌, ◌⊎◌, ℕ, List, [], Option, Some, None, Result, Ok, Err}
use Rattle.device_log.specs.Streams.{SinkWrite}
use Rattle.script_grammar.specs.Texts.{last_line}
use Rattle.run_promise.specs.declared.status.Status.{Status}
use Rattle.run_promise.specs.declared.status.Status.TheVariants as status
use Rattle.run_promise.specs.Story.{SendsFront, SinkTook}
use Rattle.run_promise.specs.Top.{WentOut, status_of}
use Rattle.run_script.specs.declared.run.Ending.{Ending}
use Rattle.run_script.specs.declared.run.Ending.TheVariants.{Done, Stopped, WriteFault, OutOfMemory}
use Rattle.work_script.specs.Turns.{WorkTurn, turn_texts}
use Rattle.work_script.specs.Ending.{CutsTurn, SendsSome}

-- a text went out; or its write failed, and a front of it did; or there was no memory for it
abbrev pub WritesText : {T : Type 0} → (old new : List SinkWrite) → List ℕ → Result T Ending → Type 0
WritesText old new text (Ok done) = SinkTook old new text
WritesText old new text (Err WriteFault) = SendsFront old new [] text
WritesText old new text (Err OutOfMemory) = new ≡ old
WritesText old new text (Err _) = ⊥

-- the lines of these turns did, or some of them
abbrev pub PrintsTurns : {T : Type 0} → (old new : List SinkWrite) → List WorkTurn → Result T Ending → Type 0
PrintsTurns old new turns (Ok done) = SinkTook old new (turn_texts 1 turns)
PrintsTurns old new turns (Err WriteFault) = CutsTurn old new turns []
PrintsTurns old new turns (Err OutOfMemory) = SendsSome old new turns []
PrintsTurns old new turns (Err _) = ⊥

-- the status of an ending, and its last line, if it has one, or a front of it; or memory was wanting for that
abbrev pub Says : (old new : List SinkWrite) → Ending → Status → Type 0
Says old new Done s = (s ≡ status.Done) × (new ≡ old)
Says old new (Stopped last) s = ((s ≡ status.OutOfMemory) × (new ≡ old)) ⊎ ((s ≡ status_of last) × WentOut old new [] (last_line last))
Says old new WriteFault s = (s ≡ status.WriteFault) × (new ≡ old)
Says old new OutOfMemory s = (s ≡ status.OutOfMemory) × (new ≡ old)

-- the status of turns, where there was memory for all of them, and their lines
abbrev pub SaysTurns : (old new : List SinkWrite) → Option (List WorkTurn) → Status → Type 0
SaysTurns old new None s = (s ≡ status.OutOfMemory) × (new ≡ old)
SaysTurns old new (Some turns) status.Done = SinkTook old new (turn_texts 1 turns)
SaysTurns old new (Some turns) status.WriteFault = CutsTurn old new turns []
SaysTurns old new (Some turns) status.OutOfMemory = SendsSome old new turns []
SaysTurns old new (Some turns) _ = ⊥
