-- Where a line before the jobs leaves a run.
use Rattle.std.specs.Prelude.{ℕ, List}
use Rattle.device_log.specs.Streams.{SourceRead, SinkWrite}
use Rattle.script_run.specs.Run.{Run}
use Rattle.script_run.specs.Ledger.{Ledger}
use Rattle.run_promise.specs.Outline.{Outline}
use Rattle.run_promise.specs.Story.{GoesOn}
use Rattle.work_script.specs.declared.before.Next.{Next}
use Rattle.work_script.specs.declared.before.Next.TheVariants.{Line, Jobs}
use Rattle.work_script.specs.Before.{ComesToSplit}

-- it goes on, or has come to `split`
abbrev pub GoesOrSplits : (first : List SourceRead) → (taken_first : List SinkWrite) → Ledger → (now : List SourceRead) → (unread : List ℕ) → ℕ → (taken : List SinkWrite) → Ledger → (Outline → Type 0) → (Run → Type 0) → Next → Type 0
GoesOrSplits first taken_first ledger_first now unread given taken ledger Outlined Plays Line = GoesOn first taken_first ledger_first now unread given taken ledger Outlined Plays
GoesOrSplits first taken_first ledger_first now unread given taken ledger Outlined Plays Jobs = ComesToSplit first taken_first ledger_first now unread given taken ledger Outlined Plays
