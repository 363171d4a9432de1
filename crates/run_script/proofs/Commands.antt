-- What is concluded where memory was wanting to read the words.
use Rattle.std.proofs.Common.{List, Option, Some, None, refl, inl, inr}
use Rattle.device_log.specs.Streams.{SourceRead, SinkWrite}
use Rattle.script_run.specs.Ledger.{Ledger}
use Rattle.command_words.specs.Words.{MayWantMemory, Wish, help, version, replay, work, inspect, check}
use Rattle.run_promise.specs.declared.status.Status.TheVariants as status
use Rattle.run_promise.specs.Story.{Refusals}
use Rattle.run_promise.specs.Top.{EachBack, EachBackOrMore}
use Rattle.device_bay.specs.Calls.{AttachRefusal}
use Rattle.run_script.specs.Commands.{ConcludesAs, IsUsageBy, RefusesAs}
use Rattle.run_script.proofs.Ends.{nothing_back, nothing_ends}

-- memory was wanting to read the words
module _ (first : List SourceRead) (old : List SinkWrite) (bay : Refusals) (before : Ledger) where
  pub unread_words : (wish : Option Wish) → MayWantMemory wish → ConcludesAs wish first first old old bay before before status.OutOfMemory
  unread_words None may = (inr (refl, refl), (refl, refl))
  unread_words (Some help) may = absurd may
  unread_words (Some version) may = absurd may
  unread_words (Some replay) may = nothing_ends first old (EachBack before before) (EachBackOrMore before before) (λ t none own names. inl (nothing_back before t none own names)) bay
  unread_words (Some (work workers)) may = (inr (refl, refl), (refl, refl))
  unread_words (Some (check name)) may = (refl, inr (inr (record { wants = (refl, refl); unattached = refl })))
  unread_words (Some (inspect name)) may = (refl, inr (inr (record { wants = (refl, refl); unattached = refl })))

pub unread_usage : (wish : Option Wish) → IsUsageBy wish status.OutOfMemory
unread_usage None = inr refl
unread_usage (Some help) = λ e. cc
unread_usage (Some version) = λ e. cc
unread_usage (Some replay) = λ e. cc
unread_usage (Some (work workers)) = inr refl
unread_usage (Some (check name)) = λ e. cc
unread_usage (Some (inspect name)) = λ e. cc

-- no attach was refused
pub unread_refusals : (wish : Option Wish) (past : List AttachRefusal) → RefusesAs wish past past status.OutOfMemory
unread_refusals None past = inl refl
unread_refusals (Some help) past = inl refl
unread_refusals (Some version) past = inl refl
unread_refusals (Some replay) past = inl refl
unread_refusals (Some (work workers)) past = inl refl
unread_refusals (Some (check name)) past = inl refl
unread_refusals (Some (inspect name)) past = inl refl
