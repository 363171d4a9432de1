-- What is concluded where memory was wanting to read the words.
use Rattle.std.proofs.Common.{List, Option, Some, None, inl}
use Rattle.device_log.specs.Streams.{SourceRead, SinkWrite}
use Rattle.script_run.specs.Ledger.{Ledger}
use Rattle.command_words.specs.Words.{MayWantMemory, Wish, help, version, replay, work, inspect, check}
use Rattle.run_promise.specs.declared.status.Status.TheVariants as status
use Rattle.run_promise.specs.Story.{Refusals}
use Rattle.run_promise.specs.Top.{EachBack, EachBackOrMore}
use Rattle.run_script.proofs.Commands.{unread_words}
use Rattle.run_script.proofs.Ends.{nothing_back, nothing_ends}
use Rattle.work_script.specs.Commands.{ConcludesAll}

pub unread_all : (first : List SourceRead) (old : List SinkWrite) (bay : Refusals) (before : Ledger) (wish : Option Wish) → MayWantMemory wish → ConcludesAll wish first first old old bay before before status.OutOfMemory
unread_all first old bay before None may = unread_words first old bay before None may
unread_all first old bay before (Some help) may = absurd may
unread_all first old bay before (Some version) may = absurd may
unread_all first old bay before (Some replay) may = unread_words first old bay before (Some replay) may
unread_all first old bay before (Some (work workers)) may =
    inl (nothing_ends first old (EachBack before before) (EachBackOrMore before before) (λ t none own names. inl (nothing_back before t none own names)) bay)
unread_all first old bay before (Some (check name)) may = unread_words first old bay before (Some (check name)) may
unread_all first old bay before (Some (inspect name)) may = unread_words first old bay before (Some (inspect name)) may
