-- The laws of `headline` at the script.
use Rattle.std.proofs.Common.{◌≡◌, ◌∙◌, ℕ, List, [], ◌∷◌, ◌++◌, append_assoc, length, refl, sym, ap, subst, lit<, lit≤, inl, inr}
use Rattle.std.specs.Prelude.{Option, Some, take, drop}
use Rattle.std.specs.List.{AllByRecursion}
use Rattle.device_log.specs.Streams.{taken_by}
use Rattle.edge_io.specs.Laws.{SpelledAreLines}
use Rattle.edge_io.specs.Lines.{lines_of}
use Rattle.edge_io.specs.Text.{spelled, text_read}
use Rattle.logged_disk.specs.Device.{DeviceState as Device, TellsAll, has_flip}
use Rattle.script_grammar.specs.declared.line.LineAnswer.TheVariants as line
use Rattle.script_grammar.specs.declared.step.Step.{Step}
use Rattle.script_grammar.specs.declared.step.Step.TheVariants as step
use Rattle.script_grammar.specs.declared.answer.StepAnswer.{StepAnswer}
use Rattle.script_grammar.specs.declared.answer.StepAnswer.TheVariants as answer
use Rattle.script_grammar.specs.Grammar.{reading_of}
use Rattle.script_run.specs.Run.{fresh}
use Rattle.script_run.specs.Takes.{IsRun}
use Rattle.cache_model.specs.declared.cause.Cause.TheVariants as cause
use Rattle.cache_model.specs.declared.record.Rec.TheVariants as rec
use Rattle.line_laws.specs.Along.{AreOfSession}
use Rattle.run_promise.specs.declared.status.Status.{Status}
use Rattle.headline.specs.Account.{Account, AllTell, HistoryTells, HonestRunsAreWhole, RunLogs}
use Rattle.headline.specs.Answered.{AnsweredPutWasCompleted, AnsweredRemovalWasRecorded, CompletedWasAnswered, RecordsBehind, RemovalWasAnswered}
use Rattle.headline.specs.Bodies.{GotIsTheBody, PutTookItsBody}
use Rattle.headline.specs.Endings.{DoneWhereFine, IsFine, LostItsPower}
use Rattle.headline.specs.Fixed.{AreSteady, SourceFixesSink}
use Rattle.headline.specs.Misses
use Rattle.headline.specs.Misses.{NeverPutWasNone}
use Rattle.headline.specs.Readers.{EndIsRead}
use Rattle.headline.specs.Reads
use Rattle.headline.specs.Reads.{DidBefore, GotIsWhole, HitIsWhole}
use Rattle.headline.specs.Standing
use Rattle.headline.specs.Standing.{FoundIsListed, RemovedWasRecorded}
use Rattle.headline.specs.Verdicts.{MissesAreCaused}
use Rattle.worked_runs.specs.History.{TheScriptIsAnswered, script_answers, script_output}
use Rattle.worked_runs.specs.Script.{alternate_of_a, body_of_a, key_of_a, line_to_put, line_to_remove, name_of_reader, script_lines, script_turns, turn_at_last, turn_of_put, turn_of_removal}
use Rattle.worked_runs.specs.Sentences.{EachRunIsDone, EachRunPrintsIt, ItWasRemoved, NothingWasPut, TheEndIsRead, TheGetIsWhole, TheGotIsTheBody, TheHistoryIsWhole, TheHitIsWhole, TheMissIsCaused, ThePutIsListed, ThePutTookItsBody, ThePutWasAnswered, ThePutWasCompleted, TheRemovalWasAnswered, TheRemovalWasRecorded}
use Rattle.worked_runs.specs.Told.{TellsScript, TheScriptIsConcluded, script_device, script_logs, script_writes}
use Rattle.worked_runs.proofs.Along.{HasNoSwitch, are_of_session, are_run, are_switchless, reads_front, switchless_at, takes_front}
use Rattle.worked_runs.proofs.Fine.{is_fine, lines_are}
use Rattle.worked_runs.proofs.Readings.{get_is_read, next_is_read, opening_is_read, put_is_read, removal_is_read}
use Rattle.worked_runs.proofs.Script.{are_read, are_taken, steps_with}
use Rattle.worked_runs.proofs.Tells.{lines_are_takeable, taken_lines}

-- one line of the script, with its answer
module _ (said : TheScriptIsAnswered) (a : Account script_logs) (tells : TellsScript a) where
  history : (before : List (List ℕ)) (bytes : List ℕ) (later : List (List ℕ)) (front rest : List (Option StepAnswer)) (asks : Step)
      (told : StepAnswer)
      → reading_of bytes ≡ line.Step asks → script_lines ≡ before ++ bytes ∷ later → script_answers ≡ front ++ Some told ∷ rest
      → length front ≡ length before
      → HistoryTells a before asks told
  history before bytes later front rest asks told reading lines answers many = record {
    bytes = bytes;
    reading = reading;
    later = later;
    lines_are = tells.told_are ∙ lines;
    front = front;
    rest = rest;
    answers_are = rw (tells.told_are, tells.turns_are) (said ∙ answers);
    as_many = many;
  }

  first_get : HistoryTells a (take 1 script_lines) (step.Get key_of_a []) (answer.Miss cause.NeverPut)
  first_get = history _ _ (drop 2 script_lines) (take 1 script_answers) (drop 2 script_answers) _ _ get_is_read refl refl refl

  second_get : HistoryTells a (take 6 script_lines) (step.Get key_of_a []) (answer.Got 1 1 body_of_a)
  second_get = history _ _ (drop 7 script_lines) (take 6 script_answers) (drop 7 script_answers) _ _ get_is_read refl refl refl

  opening : HistoryTells a (take 3 script_lines) (step.OpenRead name_of_reader key_of_a []) (answer.Hit 1 1)
  opening = history _ _ (drop 4 script_lines) (take 3 script_answers) (drop 4 script_answers) _ _ opening_is_read refl refl refl

  ending : HistoryTells a (take 5 script_lines) (step.Next name_of_reader) (answer.End 1)
  ending = history _ _ (drop 6 script_lines) (take 5 script_answers) (drop 6 script_answers) _ _ next_is_read refl refl refl

  put_told : HistoryTells a (take 2 script_lines) (step.Put key_of_a body_of_a [] []) (answer.Put 1 1 1)
  put_told = history _ _ (drop 3 script_lines) (take 2 script_answers) (drop 3 script_answers) _ _ put_is_read refl refl refl

  removal_told : HistoryTells a (take 7 script_lines) (step.Remove key_of_a) (answer.Removed 1)
  removal_told = history _ _ (drop 8 script_lines) (take 7 script_answers) (drop 8 script_answers) _ _ removal_is_read refl refl refl

  last_get : HistoryTells a (take 8 script_lines) (step.Get key_of_a []) (answer.Miss cause.Removed)
  last_get = history _ _ [] (take 8 script_answers) [] _ _ get_is_read refl refl refl

pub get_is_whole : GotIsWhole → TheScriptIsAnswered → TheGetIsWhole
get_is_whole law said a tells = law script_logs a (take 6 script_lines) key_of_a [] 1 1 body_of_a (second_get said a tells)

pub hit_is_whole : HitIsWhole → TheScriptIsAnswered → TheHitIsWhole
hit_is_whole law said a tells = law script_logs a (take 3 script_lines) name_of_reader key_of_a [] 1 1 (opening said a tells)

pub end_is_read : EndIsRead → TheScriptIsAnswered → TheEndIsRead
end_is_read law said a tells = law script_logs a (take 5 script_lines) name_of_reader 1 (ending said a tells)

pub put_is_listed : FoundIsListed → TheScriptIsAnswered → ThePutIsListed
put_is_listed law said a tells =
    law script_logs a (take 6 script_lines) (step.Get key_of_a []) (answer.Got 1 1 body_of_a) key_of_a [] 1
    (Standing.FindsPut.gets 1 body_of_a) (second_get said a tells)

pub nothing_was_put : NeverPutWasNone → TheScriptIsAnswered → NothingWasPut
nothing_was_put law said a tells =
    law script_logs a (take 1 script_lines) (step.Get key_of_a []) (answer.Miss cause.NeverPut) key_of_a
    (Misses.MissesKey.gets []) (first_get said a tells)

pub miss_is_caused : MissesAreCaused → TheScriptIsAnswered → TheMissIsCaused
miss_is_caused law said a tells =
    law script_logs a (take 1 script_lines) (step.Get key_of_a []) key_of_a [] cause.NeverPut Reads.AsksFor.gets (first_get said a tells)

pub it_was_removed : RemovedWasRecorded → TheScriptIsAnswered → ItWasRemoved
it_was_removed law said a tells =
    law script_logs a (take 8 script_lines) (step.Get key_of_a []) (answer.Miss cause.Removed) key_of_a
    (Misses.MissesKey.gets []) (last_get said a tells)

-- ---- from records to answers

front_is_run : (n : ℕ) → IsRun fresh (take n script_lines) (take n script_turns)
front_is_run n =
    are_run fresh (take n script_lines) (take n (steps_with key_of_a)) (take n script_turns)
    (reads_front n script_lines (steps_with key_of_a) are_read)
    (takes_front n fresh (steps_with key_of_a) script_turns (are_taken key_of_a))

-- what these turns did of the script
module _ (a : Account script_logs) (tells : TellsScript a) where
  put_recorded : RecordsBehind a (take 2 script_lines) (rec.Committed 1 key_of_a 1 (alternate_of_a ∷ []))
  put_recorded = record {
    bytes = line_to_put;
    later = drop 3 script_lines;
    lines_are = tells.told_are;
    did = record {
      earlier = take 2 script_turns;
      turn = turn_of_put key_of_a;
      later = drop 3 script_turns;
      turns_are = tells.turns_are;
      legal = front_is_run 2;
    };
    among = inr (inr (inr (inr (inl refl))));
  }

  removal_recorded : RecordsBehind a (take 7 script_lines) (rec.Removed 1 key_of_a)
  removal_recorded = record {
    bytes = line_to_remove;
    later = drop 8 script_lines;
    lines_are = tells.told_are;
    did = record {
      earlier = take 7 script_turns;
      turn = turn_of_removal key_of_a;
      later = drop 8 script_turns;
      turns_are = tells.turns_are;
      legal = front_is_run 7;
    };
    among = inl refl;
  }

pub put_was_answered : CompletedWasAnswered → ThePutWasAnswered
unfolding put_recorded
put_was_answered law a tells = law script_logs a (take 2 script_lines) 1 key_of_a 1 (alternate_of_a ∷ []) (put_recorded a tells)

pub removal_was_answered : RemovalWasAnswered → TheRemovalWasAnswered
removal_was_answered law a tells = law script_logs a (take 7 script_lines) 1 key_of_a (removal_recorded a tells)

-- ---- from answers to records

pub put_was_completed : AnsweredPutWasCompleted → TheScriptIsAnswered → ThePutWasCompleted
put_was_completed law said a tells =
    law script_logs a (take 2 script_lines) (step.Put key_of_a body_of_a [] []) 1 1 1 (put_told said a tells)

pub removal_was_recorded : AnsweredRemovalWasRecorded → TheScriptIsAnswered → TheRemovalWasRecorded
removal_was_recorded law said a tells = law script_logs a (take 7 script_lines) (step.Remove key_of_a) 1 (removal_told said a tells)

-- ---- the body of the put

-- none of the lines behind the put begins another session
keep_session : AreOfSession (take 5 (drop 3 script_lines))
keep_session =
    are_of_session (take 5 (drop 3 script_lines)) (take 5 (drop 3 (steps_with key_of_a)))
    (opening_is_read, (next_is_read, (next_is_read, (get_is_read, (removal_is_read, tt)))))
    (refl, (refl, (refl, (refl, (refl, tt)))))

before_last : (a : Account script_logs) → TellsScript a → DidBefore a.turns (take 8 script_lines)
before_last a tells =
    record { earlier = take 8 script_turns; turn = turn_at_last key_of_a; later = []; turns_are = tells.turns_are; legal = front_is_run 8 }

pub put_took_body : PutTookItsBody → TheScriptIsAnswered → ThePutTookItsBody
unfolding before_last history put_told
put_took_body law said a tells =
    (law script_logs a (take 2 script_lines) (take 5 (drop 3 script_lines)) key_of_a body_of_a [] [] 1 1 1 (put_told said a tells)
    keep_session (before_last a tells)).0

-- the third of some lines
abbrev third_of_lines : List (List ℕ) → List ℕ
third_of_lines (first ∷ second ∷ third ∷ lines) = third
third_of_lines _ = []

pub got_is_body : GotIsTheBody → TheGotIsTheBody
got_is_body law m b put size fragments got bytes at gets =
    let same : line_to_put ≡ at.bytes = ap third_of_lines (sym gets.lines_are ∙ at.lines_are) in
    law m b (take 2 script_lines) (take 3 (drop 3 script_lines)) key_of_a key_of_a body_of_a bytes [] [] [] put size fragments got at
    (keep_session.0, (keep_session.1.0, (keep_session.1.1.0, tt)))
    (subst (λ (third : List ℕ). HistoryTells b (take 2 script_lines ++ third ∷ take 3 (drop 3 script_lines)) (step.Get key_of_a [])
    (answer.Got put got bytes)) same gets)

-- ---- the device

pub device_tells : TellsAll script_device
unfolding has_flip
device_tells = record { trusted = lit≤ tt; unturned = refl }

pub all_tell : AllTell script_logs
all_tell devices are = subst (λ (ds : List Device). AllByRecursion TellsAll ds) are (device_tells, tt)

pub history_is_whole : HonestRunsAreWhole → TheHistoryIsWhole
history_is_whole law a = law script_logs all_tell a

pub output_is : (output : List ℕ) → taken_by script_writes ≡ taken_by [] ++ output → output ≡ script_output
unfolding taken_by
output_is output taken = sym taken

pub each_run_prints : SourceFixesSink → TheScriptIsConcluded → AreSteady script_logs → EachRunPrintsIt
each_run_prints law concluded first m concluded_too same steady = elim (law script_logs m concluded concluded_too same first steady) [
  | inl alike ↦ inl (alike.taken_too ∙ ap (λ (output : List ℕ). taken_by m.old ++ output) (output_is alike.output alike.taken))
  | inr one ↦ inr one
]

-- ---- the text

text_is_fine : SpelledAreLines → IsFine (spelled script_lines)
text_is_fine law = is_fine law script_lines taken_lines.each (lit≤ tt) (lit< tt) lines_are_takeable

-- no line of the script cuts a power
no_cut : SpelledAreLines → (m : RunLogs) (s : Status) (lost : LostItsPower m s) → text_read lost.reads ≡ spelled script_lines → ⊥
no_cut law m s lost text =
    let cut = lost.cut in
    let all : script_lines ≡ lost.lines ++ lines_of lost.held =
    lines_are law script_lines taken_lines.each (lit≤ tt) (lit< tt) lines_are_takeable lost.lines lost.held (sym text ∙ lost.taken.all)
    lost.taken.each in
    let here : lost.lines ++ lines_of lost.held ≡ cut.before ++ cut.bytes ∷ (cut.later ++ lines_of lost.held) =
    ap (λ (lines : List (List ℕ)). lines ++ lines_of lost.held) cut.are ∙ append_assoc cut.before (cut.bytes ∷ cut.later) (lines_of lost.held) in
    let none =
    subst (AllByRecursion (λ (bytes : List ℕ). HasNoSwitch (reading_of bytes))) (all ∙ here)
    (are_switchless script_lines (steps_with key_of_a) are_read (refl, (refl, (refl, (refl, (refl, (refl, (refl, (refl, (refl, tt)))))))))) in
    let told : HasNoSwitch (line.Step (step.Cut cut.choice)) =
    subst HasNoSwitch cut.cuts (switchless_at cut.before cut.bytes (cut.later ++ lines_of lost.held) none) in
    cc

pub each_run_is_done : DoneWhereFine → SpelledAreLines → EachRunIsDone
each_run_is_done law lines m s concluded failed begun memory read wrote attached texts =
    elim (law m s concluded failed begun memory read wrote attached (λ reads since. subst IsFine (sym (texts reads since)) (text_is_fine lines))) [
      | inl done ↦ inl done
      | inr (inl lost) ↦ inr lost
      | inr (inr lost) ↦ absurd (no_cut lines m s lost (texts lost.reads lost.since))
    ]
