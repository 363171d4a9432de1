-- The laws of `headline` on the run of the nine lines as a whole.
use Rattle.std.proofs.Common.{◌≡◌, ◌∙◌, ℕ, ◌+◌, List, [], ◌∷◌, ◌++◌, length, refl, sym, ap, subst, arith, inl, inr, true, false, append-nil}
use Rattle.std.specs.Prelude.{take}
use Rattle.std.specs.List.{AllByRecursion}
use Rattle.std.proofs.Math.Seq.{take-append_seam}
use Rattle.tape_base.specs.declared.keys.Key.{Key}
use Rattle.device_log.specs.Streams.{SourceRead, refused_reads, taken_by}
use Rattle.edge_io.specs.Laws.{SpelledAreLines}
use Rattle.edge_io.specs.Lines.{lines_of}
use Rattle.edge_io.specs.Source.{NoReadFailed}
use Rattle.edge_io.specs.Text.{text_read}
use Rattle.device_log.specs.Calls.{Call}
use Rattle.device_log.specs.Faults.{is_untold}
use Rattle.logged_disk.specs.Device.{DeviceState as Device, has_cut, has_flip}
use Rattle.cache_model.specs.declared.record.Rec.{Rec}
use Rattle.cache_model.specs.declared.record.Rec.TheVariants as rec
use Rattle.cache_model.specs.Permit.{IsAmong}
use Rattle.model_laws.specs.Agreeing.{IsUntroubled, is_trouble}
use Rattle.model_laws.specs.Purging.{is_device_trouble}
use Rattle.model_laws.proofs.Among.{among_behind}
use Rattle.script_grammar.specs.Grammar.{reading_of}
use Rattle.script_grammar.specs.declared.line.LineAnswer.TheVariants as line
use Rattle.script_grammar.specs.declared.step.Step.{Step}
use Rattle.script_run.specs.Run.{Run, fresh}
use Rattle.script_run.specs.Turn.{Turn}
use Rattle.script_run.specs.Ledger.{IsLeftAlone}
use Rattle.script_run.specs.Behind.{after_line}
use Rattle.script_run.specs.Takes.{IsRun, output_of}
use Rattle.script_run.proofs.Listed.{is_among}
use Rattle.script_laws.proofs.Among.{among_left}
use Rattle.script_laws.specs.Parting.{AreUntroubled, DisplacesPiece, IsUntroubledUpTo, MeetsDeviceTrouble, both_displace, first_in_trouble, second_in_trouble, told_apart}
use Rattle.run_promise.specs.Story.{Taken}
use Rattle.run_promise.specs.Top.{ComeBackSteady}
use Rattle.run_promise.specs.declared.status.Status.TheVariants as status
use Rattle.headline.specs.Account.{Account, IsDeviceBehind, IsDeviceOf, begun_in, sessions_begun}
use Rattle.headline.specs.Endings.{EndsAreCaused, RunsAreTold}
use Rattle.headline.specs.Fixed.{AreAlone, AreSwitched, SwitchedRunsAreSteady}
use Rattle.headline.specs.Parting.{HistoriesAgreeBeforeTrouble, HistoryBegins, RunsAgreeBeforeTrouble}
use Rattle.headline.specs.Troubles.{CountsAreReached, NoFalseDamage, NoFalseFaults}
use Rattle.worked_runs.specs.Script.{key_of_a, line_to_format, script_lines, script_turns, turns_with}
use Rattle.worked_runs.specs.Told.{TellsScript, TheScriptIsConcluded, script_device, script_logs, script_reads}
use Rattle.worked_runs.specs.Whole.{EachHistoryPrintsIt, EachRunAgrees, NoCountIsTold, NoDamageIsTold, NoFaultIsTold, TheRunEnds, TheRunIsSteady, TheRunIsTold}
use Rattle.worked_runs.proofs.Along.{AreRead, begun_by_step}
use Rattle.worked_runs.proofs.Readings.{format_is_read}
use Rattle.worked_runs.proofs.Script.{are_read, steps_with}
use Rattle.worked_runs.proofs.Sentences.{all_tell, device_tells, output_is}
use Rattle.worked_runs.proofs.Tells.{taken_lines}

-- ---- its account and its end

none_failed : NoReadFailed [] script_reads
unfolding refused_reads
none_failed = refl

-- lines that are all of the text of its reads are the nine
lines_are : SpelledAreLines → (reads : List SourceRead) (lines : List (List ℕ)) (held : List ℕ) → script_reads ≡ reads ++ []
    → Taken (text_read reads) lines held → held ≡ [] → lines ≡ script_lines
lines_are law reads lines held since taken none =
    let same : script_reads ≡ reads = since ∙ append-nil reads in
    let one : lines_of (text_read reads) ≡ lines ++ lines_of held = ap lines_of taken.all ∙ law lines held taken.each in
    let all : lines_of (text_read reads) ≡ lines ++ [] = one ∙ ap (λ (bytes : List ℕ). lines ++ lines_of bytes) none in
    let nine : lines_of (text_read script_reads) ≡ script_lines ++ [] =
    ap lines_of taken_lines.all ∙ law script_lines [] taken_lines.each in
    let both : lines ++ [] ≡ script_lines ++ [] = sym all ∙ (ap (λ (r : List SourceRead). lines_of (text_read r)) (sym same) ∙ nine) in
    sym (append-nil lines) ∙ (both ∙ append-nil script_lines)

pub run_is_told : RunsAreTold → SpelledAreLines → TheScriptIsConcluded → TheRunIsTold
run_is_told law texts concluded =
    let told = law script_logs status.Done concluded none_failed (λ (e : status.Done ≡ status.Usage). cc) in
    (told.0, lines_are texts told.0.reads told.0.lines told.0.held told.0.since told.0.taken told.1.ends.1, told.1)

pub run_ends : EndsAreCaused → SpelledAreLines → TheScriptIsConcluded → TheRunEnds
run_ends law texts concluded =
    let e = law script_logs status.Done concluded none_failed (λ (e : status.Done ≡ status.Usage). cc) in
    (e, lines_are texts e.reads e.lines e.held e.since e.taken e.ends.1)

-- ---- the device behind its first line

begun_apart : (lines more : List (List ℕ)) → sessions_begun (lines ++ more) ≡ sessions_begun lines + sessions_begun more
begun_apart [] more = omega arith
begun_apart (bytes ∷ lines) more = omega (arith, begun_apart lines more)

abbrev begun_by : List Step → ℕ
begun_by [] = 0
begun_by (asks ∷ steps) = begun_by_step asks + begun_by steps

begun_is : (lines : List (List ℕ)) (steps : List Step) → AreRead lines steps → sessions_begun lines ≡ begun_by steps
begun_is [] [] reads = refl
begun_is [] (asks ∷ steps) reads = absurd reads
begun_is (bytes ∷ lines) [] reads = absurd reads
begun_is (bytes ∷ lines) (asks ∷ steps) reads =
    let first : begun_in (reading_of bytes) ≡ begun_by_step asks = ap begun_in reads.0 in
    omega (arith, first, begun_is lines steps reads.1)

one_is_begun : sessions_begun script_lines ≡ 1
one_is_begun = begun_is script_lines (steps_with key_of_a) are_read

abbrev first_of_lines : List (List ℕ) → List ℕ
first_of_lines [] = []
first_of_lines (bytes ∷ lines) = bytes

behind_first : (first : List ℕ) (lines later : List (List ℕ)) → script_lines ≡ (first ∷ lines) ++ later → sessions_begun (first ∷ lines) ≡ 1
behind_first first lines later are =
    let total : sessions_begun ((first ∷ lines) ++ later) ≡ 1 = ap sessions_begun (sym are) ∙ one_is_begun in
    let apart : sessions_begun ((first ∷ lines) ++ later) ≡ sessions_begun (first ∷ lines) + sessions_begun later =
    begun_apart (first ∷ lines) later in
    let begins : begun_in (reading_of line_to_format) ≡ 1 = ap begun_in format_is_read in
    let same : line_to_format ≡ first = ap first_of_lines are in
    let here : begun_in (reading_of first) ≡ 1 = ap (λ (bytes : List ℕ). begun_in (reading_of bytes)) (sym same) ∙ begins in
    omega (arith, total, apart, here)

device_behind : (first : List ℕ) (lines later : List (List ℕ)) → script_lines ≡ (first ∷ lines) ++ later
    → IsDeviceBehind script_logs (first ∷ lines) script_device
device_behind first lines later are = record { earlier = []; later = []; returned = refl; which = behind_first first lines later are }

-- no line behind the first begins a session
none_behind_first : (first : List ℕ) (lines : List (List ℕ)) (bytes : List ℕ) (later : List (List ℕ)) (asks : Step)
    → script_lines ≡ (first ∷ lines) ++ bytes ∷ later → reading_of bytes ≡ line.Step asks → begun_in (line.Step asks) ≡ 0
none_behind_first first lines bytes later asks are reading =
    let total : sessions_begun ((first ∷ lines) ++ bytes ∷ later) ≡ 1 = ap sessions_begun (sym are) ∙ one_is_begun in
    let apart : sessions_begun ((first ∷ lines) ++ bytes ∷ later) ≡ sessions_begun (first ∷ lines) + sessions_begun (bytes ∷ later) =
    begun_apart (first ∷ lines) (bytes ∷ later) in
    let here : begun_in (reading_of bytes) ≡ begun_in (line.Step asks) = ap begun_in reading in
    omega (arith, total, apart, here, behind_first first lines (bytes ∷ later) are)

device_of : (first : List ℕ) (lines : List (List ℕ)) (bytes : List ℕ) (later : List (List ℕ)) (asks : Step)
    → script_lines ≡ (first ∷ lines) ++ bytes ∷ later → reading_of bytes ≡ line.Step asks
    → IsDeviceOf script_logs (first ∷ lines) asks script_device
device_of first lines bytes later asks are reading = record {
  earlier = [];
  later = [];
  returned = refl;
  which = omega (arith, behind_first first lines (bytes ∷ later) are, none_behind_first first lines bytes later asks are reading);
}

pub no_count_is_told : CountsAreReached → NoCountIsTold
no_count_is_told law a tells first lines asks said answers =
    let of = device_of first lines answers.bytes answers.later asks (sym tells.lines_are ∙ answers.lines_are) answers.reading in
    let most = law script_logs a (first ∷ lines) asks said script_device answers of in
    omega (arith, most)

pub no_fault_is_told : NoFalseFaults → NoFaultIsTold
no_fault_is_told law a tells first lines asks said answers =
    let of = device_of first lines answers.bytes answers.later asks (sym tells.told_are ∙ answers.lines_are) answers.reading in
    law script_logs a (first ∷ lines) asks said script_device answers of refl

pub no_damage_is_told : NoFalseDamage → NoDamageIsTold
no_damage_is_told law a tells first lines asks said answers =
    let behind = device_behind first lines (answers.bytes ∷ answers.later) (sym tells.told_are ∙ answers.lines_are) in
    law script_logs a (first ∷ lines) asks said script_device answers behind device_tells

-- ---- the device came back steady

comes_back_steady : ComeBackSteady script_logs.before.returned script_logs.now.returned
comes_back_steady = record {
  devices = script_device ∷ [];
  returned = refl;
  steady = ((λ switched alone. record { tells = device_tells; unfaulted = refl }), tt);
}

is_switched : AreSwitched script_logs
is_switched devices are =
    subst (λ (ds : List Device). AllByRecursion (λ (device : Device). device.has_switch ≡ true) ds) are (refl, tt)

left_alone : IsLeftAlone script_device.past
unfolding is_untold has_cut has_flip
left_alone = record { untold = refl; uncut = refl; unturned = refl }

is_alone : AreAlone script_logs
is_alone devices are = subst (λ (ds : List Device). AllByRecursion (λ (device : Device). IsLeftAlone device.past) ds) are (left_alone, tt)

pub run_is_steady : SwitchedRunsAreSteady → TheRunIsSteady
run_is_steady law = law script_logs comes_back_steady is_switched is_alone

-- ---- other runs

-- none of the nine turns recorded trouble or displaced a piece
calm : (key : Key) → AreUntroubled (turns_with key)
calm key = (
  (refl, (refl, tt)),
  (
    (refl, tt),
    (
      (refl, (refl, (refl, (refl, (refl, tt))))),
      (
        (refl, tt),
        (
          (refl, tt),
          (
            (refl, tt),
            (
              (refl, (refl, (refl, (refl, tt)))),
              (
                (refl, tt),
                ((refl, tt), tt),
              ),
            ),
          ),
        ),
      ),
    ),
  ),
)

no_device_trouble : (told : Rec) → is_trouble told ≡ false → is_device_trouble told ≡ true → ⊥
no_device_trouble (rec.Fault count) none some = cc
no_device_trouble (rec.Damaged piece place kept found) none some = cc
no_device_trouble _ none some = cc

calm_turn : (turn : Turn) → IsAmong turn script_turns → IsUntroubled turn.added
calm_turn turn among = is_among (λ (t : Turn). IsUntroubled t.added) turn script_turns (calm key_of_a) among

calm_record : (turn : Turn) (told : Rec) → IsAmong turn script_turns → IsAmong told turn.added → is_trouble told ≡ false
calm_record turn told among recorded = is_among (λ (r : Rec). is_trouble r ≡ false) told turn.added (calm_turn turn among) recorded

not_in_trouble : (turn : Turn) → IsAmong turn script_turns → MeetsDeviceTrouble turn → ⊥
not_in_trouble turn among trouble = no_device_trouble trouble.told (calm_record turn trouble.told among trouble.among) trouble.tells

displaces_none : (turn : Turn) → IsAmong turn script_turns → DisplacesPiece turn → ⊥
displaces_none turn among displaces =
    let none : is_trouble (rec.Displaced displaces.piece displaces.segment displaces.live) ≡ false =
    calm_record turn (rec.Displaced displaces.piece displaces.segment displaces.live) among displaces.recorded in
    cc

as_many : (run : Run) (lines : List (List ℕ)) (turns : List Turn) → IsRun run lines turns → length turns ≡ length lines
as_many run [] [] is = refl
as_many run [] (turn ∷ turns) is = absurd is
as_many run (bytes ∷ lines) [] is = absurd is
as_many run (bytes ∷ lines) (turn ∷ turns) is = omega (arith, as_many (after_line run turn bytes) lines turns is.1)

-- what the histories of this run and of another one have of some of its first lines
module _ (a : Account script_logs) (tells : TellsScript a) (lines : List (List ℕ)) (one : HistoryBegins a lines) where
  are_first : one.earlier ≡ take (length lines) script_turns
  are_first =
      let all : script_turns ≡ one.earlier ++ one.later = sym tells.turns_are ∙ one.turns_are in
      let first : take (length one.earlier) script_turns ≡ one.earlier =
      ap (take (length one.earlier)) all ∙ take-append_seam one.earlier one.later in
      sym first ∙ ap (λ (n : ℕ). take n script_turns) (as_many fresh lines one.earlier one.legal)

  among_script : (before : List (List ℕ)) (upto : IsUntroubledUpTo fresh before one.earlier) → IsAmong upto.turn script_turns
  among_script before upto =
      let all : script_turns ≡ one.earlier ++ one.later = sym tells.turns_are ∙ one.turns_are in
      let here : IsAmong upto.turn one.earlier =
      subst (IsAmong upto.turn) (sym upto.turns_are) (among_behind upto.turn upto.earlier upto.later) in
      subst (IsAmong upto.turn) (sym all) (among_left upto.turn one.earlier one.later here)

-- none of the nine told a switch anything
all_silent : AllByRecursion (λ (turn : Turn). turn.told ≡ []) script_turns
all_silent = (refl, (refl, (refl, (refl, (refl, (refl, (refl, (refl, (refl, tt)))))))))

told_none : (turn : Turn) (call : Call) → IsAmong turn script_turns → turn.told ≡ call ∷ [] → ⊥
told_none turn call among told = let none : turn.told ≡ [] = is_among (λ (x : Turn). x.told ≡ []) turn script_turns all_silent among in cc

pub history_prints : HistoriesAgreeBeforeTrouble → EachHistoryPrintsIt
history_prints law a tells m b lines left more are others =
    let alike = law script_logs m a b lines left more (tells.told_are ∙ are) others in
    record {
      begins = alike.other;
      prints = elim alike.agree [
        | inl same ↦ inl (sym same.output ∙ ap (output_of fresh lines) (are_first a tells lines alike.one))
        | inr p ↦ elim p.part [
          | first_in_trouble t ↦ absurd (not_in_trouble p.first.turn (among_script a tells lines alike.one p.before p.first) t)
          | second_in_trouble t ↦ inr (
            p.second.turn,
            subst (IsAmong p.second.turn) (sym p.second.turns_are) (among_behind p.second.turn p.second.earlier p.second.later),
            inl t,
          )
          | both_displace d e ↦ absurd (displaces_none p.first.turn (among_script a tells lines alike.one p.before p.first) d)
          | told_apart apart ↦ elim apart [
            | inl one ↦ absurd (told_none p.first.turn one.call (among_script a tells lines alike.one p.before p.first) one.told)
            | inr other ↦ inr (
              p.second.turn,
              subst (IsAmong p.second.turn) (sym p.second.turns_are) (among_behind p.second.turn p.second.earlier p.second.later),
              inr (other.call, other.told),
            )
          ]
        ]
      ];
    }

pub run_agrees : RunsAgreeBeforeTrouble → TheScriptIsConcluded → EachRunAgrees
run_agrees law concluded m concluded_too same tell = elim (law script_logs m concluded concluded_too same all_tell tell) [
  | inl alike ↦ inl (alike.taken_too ∙ ap (λ (output : List ℕ). taken_by m.old ++ output) (output_is alike.output alike.taken))
  | inr part ↦ inr part
]
