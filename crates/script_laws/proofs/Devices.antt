-- What a line is asked, gives, prints and leaves goes by a run and a turn but for what the devices alone fix.
use Rattle.std.proofs.Common.{◌≡◌, ℕ, List, [], ◌∷◌, ◌++◌, refl, sym, ◌∙◌, ap, Bool, true, false}
use Rattle.std.specs.Prelude.{Option, Some, None, if◌then◌else◌, length, map, option_map, unwrap_or}
use Rattle.std.proofs.lemmas.List.{map-append}
use Rattle.tape_base.specs.declared.keys.Key.{Key}
use Rattle.device_log.specs.Calls.{Call}
use Rattle.cache_model.specs.declared.answer.ReadAnswer.{ReadAnswer}
use Rattle.cache_model.specs.declared.answer.ReadAnswer.TheVariants as read
use Rattle.cache_model.specs.declared.cause.Cause.{Cause}
use Rattle.cache_model.specs.declared.cause.Cause.TheVariants as cause
use Rattle.cache_model.specs.declared.record.Rec.{Rec}
use Rattle.cache_model.specs.declared.record.Rec.TheVariants as rec
use Rattle.cache_model.specs.State.{State, PutRow, after_all, fragment_piece, nothing_yet, put_of}
use Rattle.cache_model.specs.Verdict.{cause_of_piece}
use Rattle.cache_model.specs.Permit.{Reason, Lost}
use Rattle.model_laws.specs.Agreeing.{without_copy_digest, without_digests}
use Rattle.model_laws.proofs.Digests.{cause_too, miss_too}
use Rattle.model_laws.proofs.DigestSteps.{digests_twice}
use Rattle.script_grammar.specs.declared.step.Step.{Step}
use Rattle.script_grammar.specs.declared.step.Step.TheVariants as step
use Rattle.script_grammar.specs.declared.answer.Refused.TheVariants as refused
use Rattle.script_grammar.specs.declared.answer.StepAnswer.{StepAnswer}
use Rattle.script_grammar.specs.declared.answer.StepAnswer.TheVariants as answer
use Rattle.script_run.specs.Run.{Harm, Run, at_hand, held_by, put_written_by, reader_by}
use Rattle.script_run.specs.Turn.{Turn, is_told, later, lookup_in, no_turn, told_in}
use Rattle.script_run.specs.Asked.{asked}
use Rattle.script_run.specs.Answers.{feed_said, if_free, if_has, lookup_said, next_said, get_said, put_said, refusal_said, remove_said, said, session_said, took_of}
use Rattle.script_run.specs.Behind.{at_moment, cut_off, harm_of, harms_of, in_session, with_format}
use Rattle.script_run.specs.Takes.{GivesOwn}
use Rattle.script_laws.specs.Agreeing.{without_calls, without_devices}

-- a turn but for what its device did for its step, and for the digests of copies
abbrev pub without_device : Turn → Turn
without_device turn = record turn { added = map without_copy_digest turn.added; device = no_turn.device }

-- ---- records

pub told_too : (added : List Rec) → told_in (map without_copy_digest added) ≡ told_in added
told_too [] = refl
told_too (rec.Moved piece from place digest ∷ added) = ap (later None) (told_too added)
told_too (r ∷ added) = ap (later (is_told r)) (told_too added)

pub lookup_too : (added : List Rec) → lookup_in (map without_copy_digest added) ≡ lookup_in added
lookup_too [] = refl
lookup_too (rec.Moved piece from place digest ∷ added) = lookup_too added
lookup_too (rec.ReadOpened reader actor key request answer ∷ added) = refl
lookup_too (r ∷ added) = lookup_too added

-- ---- what is asked and given

pub asked_too : (run : Run) (s : State) (step : Step) → asked run s step ≡ asked (without_devices run) (without_digests s) step
asked_too run s (step.Format name segments buckets content agg reach fragment generation alternates) = refl
asked_too run s _ = refl

pub gives_too : (run : Run) (s : State) (turn : Turn) (step : Step) → GivesOwn run s turn step
    → GivesOwn (without_devices run) (without_digests s) turn step
gives_too run s turn (step.Format name segments buckets content agg reach fragment generation alternates) own = own
gives_too run s turn _ own = own

-- ---- what is answered

lost_by : (t : State) (put index : ℕ) (o : Option PutRow)
    → unwrap_or (option_map (λ (w : PutRow). cause_of_piece t (fragment_piece w.key put index)) o) cause.NeverPut
    ≡ unwrap_or (option_map (λ (w : PutRow). cause_of_piece (without_digests t) (fragment_piece w.key put index)) o) cause.NeverPut
lost_by t put index None = refl
lost_by t put index (Some w) = sym (cause_too t (fragment_piece w.key put index))

refusal_too : (t : State) (took : Option ℕ) (why : Reason) → refusal_said t took why ≡ refusal_said (without_digests t) took why
refusal_too t took (Lost put index) = ap (λ (c : Cause). answer.Refused (refused.Lost index c) took) (lost_by t put index (put_of t put))
refusal_too t took why = refl

said_too : (t : State) (took : Option ℕ) (why : Option Reason) (whole : StepAnswer)
    → said t took why whole ≡ said (without_digests t) took why whole
said_too t took None whole = refl
said_too t took (Some why) whole = refusal_too t took why

has_too : (o : Option ℕ) (one other : ℕ → StepAnswer) → ((n : ℕ) → one n ≡ other n) → if_has o one ≡ if_has o other
has_too None one other same = refl
has_too (Some n) one other same = same n

fed_by : (run : Run) (t : State) (body : List ℕ) (why : Option Reason) (put : ℕ) (sealed : Bool)
    → (if sealed then answer.Refused refused.Sealed (Some 0) else said t (Some (took_of run t put)) why (answer.Took (length body)))
    ≡ (if sealed then answer.Refused refused.Sealed (Some 0) else said (without_digests t) (Some (took_of run t put)) why (answer.Took (length body)))
fed_by run t body why put true = refl
fed_by run t body why put false = said_too t (Some (took_of run t put)) why (answer.Took (length body))

fed_too : (run : Run) (t : State) (body : List ℕ) (why : Option Reason) (put : ℕ)
    → feed_said run t body why put ≡ feed_said (without_devices run) (without_digests t) body why put
fed_too run t body why put = fed_by run t body why put (run.streams put).sealed

looked_too : (t : State) (reader : ℕ) (o : Option ReadAnswer) → lookup_said t reader o ≡ lookup_said (without_digests t) reader o
looked_too t reader (Some (read.Hit put)) = refl
looked_too t reader (Some (read.Follow put)) = refl
looked_too t reader (Some (read.Miss why)) = refl
looked_too t reader None = refl

removed_too : (s : State) (key : Key) (added : List Rec)
    → remove_said s key added ≡ remove_said (without_digests s) key (map without_copy_digest added)
removed_too s key [] = ap answer.Absent (sym (miss_too s key))
removed_too s key (rec.Removed put k ∷ added) = refl
removed_too s key (rec.Moved piece from place digest ∷ added) = ap answer.Absent (sym (miss_too s key))
removed_too s key (r ∷ added) = ap answer.Absent (sym (miss_too s key))

pub says_too : (run : Run) (s t : State) (turn : Turn) (step : Step)
    → session_said run s t turn step ≡ session_said (without_devices run) (without_digests s) (without_digests t) (without_device turn) step
says_too run s t turn (step.Format name segments buckets content agg reach fragment generation alternates) = refl
says_too run s t turn (step.Put key body request response) = said_too t None turn.refused (put_said t s.next_put)
says_too run s t turn (step.Get key request) =
    ap (λ (told : Option Rec). get_said turn.given told (lookup_in turn.added)) (sym (told_too turn.added))
    ∙ ap (get_said turn.given (told_in (map without_copy_digest turn.added))) (sym (lookup_too turn.added))
says_too run s t turn (step.OpenWrite actor key pin request response) = ap (if_free (held_by run actor)) (said_too t None turn.refused (answer.Writer s.next_put))
says_too run s t turn (step.Feed actor body) = has_too (put_written_by run actor) _ _ (fed_too run t body turn.refused)
says_too run s t turn (step.Close actor) = has_too (put_written_by run actor) _ _ (λ put. said_too t None turn.refused (put_said t put))
says_too run s t turn (step.Abort actor) = refl
says_too run s t turn (step.OpenRead actor key request) =
    ap (if_free (held_by run actor)) (looked_too t s.next_reader (lookup_in turn.added) ∙ ap (lookup_said (without_digests t) s.next_reader) (sym (lookup_too turn.added)))
says_too run s t turn (step.Next actor) = has_too (reader_by run actor) _ _ (λ reader. ap (next_said turn.given) (sym (told_too turn.added)))
says_too run s t turn (step.Done actor) = refl
says_too run s t turn (step.Remove key) = removed_too s key turn.added
says_too run s t turn step.Flush = said_too t None turn.refused _
says_too run s t turn (step.Now at) = refl
says_too run s t turn (step.Fail nth) = refl
says_too run s t turn (step.StopAfter calls) = refl
says_too run s t turn (step.Flip place byte) = refl
says_too run s t turn (step.Cut choice) = refl

-- ---- what is left

twice : (harms : List Harm) → map without_calls (map without_calls harms) ≡ map without_calls harms
twice [] = refl
twice (harm ∷ harms) = ap (λ (rest : List Harm). without_calls harm ∷ rest) (twice harms)

-- what was told of all devices, but for their calls
told_harms : (run : Run) (o : Option State)
    → map without_calls (run.ended ++ harm_of run.calls o) ≡ map without_calls run.ended ++ harm_of [] (option_map without_digests o)
told_harms run None = map-append without_calls run.ended []
told_harms run (Some s) = map-append without_calls run.ended (harm_of run.calls (Some s))

-- of the device at hand, whether a session stands on it or not
at_hand_too : (state last : Option State) → option_map without_digests (at_hand state last) ≡ at_hand (option_map without_digests state) (option_map without_digests last)
at_hand_too None last = refl
at_hand_too (Some s) last = refl

told_own : (run : Run) → map without_calls (harms_of run)
    ≡ map without_calls run.ended ++ harm_of [] (at_hand (option_map without_digests run.state) (option_map without_digests run.last))
told_own run =
    told_harms run (at_hand run.state run.last)
    ∙ ap (λ (o : Option State). map without_calls run.ended ++ harm_of [] o) (at_hand_too run.state run.last)

-- a run but for these, where another state and another last one are left and other devices were given back
left_as : Run → (state last : Option State) → List Harm → Run
left_as run state last ended = record run { state = state; calls = []; last = last; ended = ended }

state_twice : (o : Option State) → option_map without_digests o ≡ option_map without_digests (option_map without_digests o)
state_twice None = refl
state_twice (Some s) = ap (λ (t : State). Some t) (digests_twice s)

left_twice : (run : Run) (state last : Option State) → left_as run (option_map without_digests state) (option_map without_digests last) (map without_calls run.ended)
    ≡ left_as run (option_map without_digests (option_map without_digests state)) (option_map without_digests (option_map without_digests last)) (map without_calls (map without_calls run.ended))
left_twice run state last =
    ap (λ (o : Option State). left_as run o (option_map without_digests last) (map without_calls run.ended)) (state_twice state)
    ∙ (ap (λ (o : Option State). left_as run (option_map without_digests (option_map without_digests state)) o (map without_calls run.ended)) (state_twice last)
    ∙ ap (left_as run (option_map without_digests (option_map without_digests state)) (option_map without_digests (option_map without_digests last))) (sym (twice run.ended)))

pub leaves_too : (run : Run) (s t : State) (turn : Turn) (step : Step)
    → without_devices (in_session run s t turn step) ≡ without_devices (in_session (without_devices run) (without_digests s) (without_digests t) (without_device turn) step)
unfolding left_as
leaves_too run s t turn (step.Format name segments buckets content agg reach fragment generation alternates) =
    left_twice (in_session run s t turn (step.Format name segments buckets content agg reach fragment generation alternates)) (Some t) run.last
leaves_too run s t turn step = left_twice (in_session run s t turn step) (Some t) run.last

-- a cut leaves the same, whatever the log tells of it
pub cut_too : (run : Run) (s : State) (turn : Turn) → without_devices (cut_off run s turn) ≡ without_devices (cut_off (without_devices run) (without_digests s) no_turn)
unfolding left_as
cut_too run s turn = left_twice (cut_off run s turn) None (Some s)

run_twice : (run : Run) → without_devices run ≡ without_devices (without_devices run)
unfolding left_as
run_twice run = left_twice run run.state run.last

pub format_too : (run : Run) (name : List ℕ) (calls : List Call) (added : List Rec)
    → without_devices (with_format run name calls added) ≡ without_devices (with_format (without_devices run) name [] added)
unfolding left_as
format_too run name calls added =
    ap (left_as (with_format run name [] added) (Some (without_digests (after_all nothing_yet added))) None)
    (told_own run ∙ sym (ap (map without_calls) (sym (told_own run)) ∙ twice (harms_of run) ∙ told_own run))

pub moment_too : (run : Run) (at : ℕ) → without_devices (at_moment run at) ≡ without_devices (at_moment (without_devices run) at)
moment_too run at = ap (λ (x : Run). record x { now = at }) (run_twice run)
