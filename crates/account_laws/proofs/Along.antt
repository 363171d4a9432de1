-- What the lines of a legal history leave: how many sessions they began, that no piece is lost by a fault, and what the
-- devices that came back show of it.
use Rattle.std.proofs.Common.{◌≡◌, ℕ, ◌+◌, List, [], ◌∷◌, ◌++◌, length, refl, sym, ◌∙◌, ap, subst, arith, append-nil, length-append, Bool, false, true}
use Rattle.std.specs.Prelude.{Option, Some, None, if◌then◌else◌}
use Rattle.std.proofs.lemmas.Bool.{false_from_ne_true}
use Rattle.std.proofs.lemmas.List.{append_cancel_left}
use Rattle.device_log.specs.Calls.{Call}
use Rattle.logged_disk.specs.Device.{DeviceState as Device, TellsAll}
use Rattle.cache_model.specs.State.{State, after_all, nothing_yet}
use Rattle.cache_model.specs.Damage.{has_damage}
use Rattle.cache_model.proofs.Found.{no_truth}
use Rattle.script_grammar.specs.declared.line.LineAnswer.{LineAnswer}
use Rattle.script_grammar.specs.declared.line.LineAnswer.TheVariants as line
use Rattle.script_grammar.specs.declared.step.Step.{Step}
use Rattle.script_grammar.specs.declared.answer.StepAnswer.{StepAnswer}
use Rattle.script_grammar.specs.Grammar.{reading_of}
use Rattle.script_run.specs.Run.{Harm, Run, at_hand, fresh}
use Rattle.script_run.specs.Turn.{Turn, calls_in}
use Rattle.script_run.specs.Asked.{asked}
use Rattle.script_run.specs.Behind.{after_line, after_reading, harm_in, harm_of, harm_of_format, harms_of}
use Rattle.script_run.specs.Takes.{IsRun, ReadingTakes, SessionTakes, run_after}
use Rattle.script_run.specs.Losses.{NoLossIsAFault}
use Rattle.script_run.specs.Ledger.{GoesOnFrom}
use Rattle.script_run.specs.Goes.{StepGoes, begins, begins_session, cuts_off, fails, stays, tells_bare, waits, works}
use Rattle.script_run.proofs.Lift.{goes, states_keep}
use Rattle.script_run.proofs.Losses.{formats_lose_none, losses_stay}
use Rattle.script_laws.specs.Damages.{DamageStays}
use Rattle.headline.specs.Account.{AreBack, ComeBackFrom, RunLogs, begun_in, sessions_begun, IsDeviceAt}
use Rattle.account_laws.proofs.Devices.{goes_on}

-- ---- sessions

-- one more, where the line begins one
begun_one : (ended : List Harm) (h : Harm) (b : Bool) → b ≡ true → length (ended ++ h ∷ []) ≡ length ended + (if b then 1 else 0)
begun_one ended h b begun = subst (λ x. length (ended ++ h ∷ []) ≡ length ended + (if x then 1 else 0)) (sym begun) (omega (arith, length-append ended (h ∷ [])))

begun_none : (m n : ℕ) (b : Bool) → b ≡ false → m ≡ n → m ≡ n + (if b then 1 else 0)
begun_none m n b keeps same = subst (λ x. m ≡ n + (if x then 1 else 0)) (sym keeps) (omega (arith, same))

-- the session goes on, with other harm
session_length : (ended : List Harm) (calls : List Call) (h : Harm) (o : Option State) (s : State) → o ≡ Some s → length (ended ++ h ∷ []) ≡ length (ended ++ harm_of calls o)
session_length ended calls h o s e =
    subst (λ (x : Option State). length (ended ++ h ∷ []) ≡ length (ended ++ harm_of calls x)) (sym e)
    (omega (arith, length-append ended (h ∷ []), length-append ended (harm_in calls s ∷ [])))

-- whatever calls its device made
calls_length : (ended : List Harm) (calls others : List Call) (o : Option State) → length (ended ++ harm_of calls o) ≡ length (ended ++ harm_of others o)
calls_length ended calls others None = refl
calls_length ended calls others (Some s) = omega (arith, length-append ended (harm_in calls s ∷ []), length-append ended (harm_in others s ∷ []))

step_length : (run : Run) (turn : Turn) {st : Step} {said : StepAnswer} {after : Run} → StepGoes run turn st said after → length (harms_of after) ≡ length (harms_of run) + begun_in (line.Step st)
step_length run turn {st = st} (stays bad same none) = begun_none _ _ (begins_session st) same refl
step_length run turn {st = st} (waits at same none) = begun_none _ _ (begins_session st) same refl
step_length run turn {st = st} (works s same e takes) =
    begun_none _ _ (begins_session st) same (session_length run.ended run.calls (harm_in (calls_in turn ++ run.calls) (after_all s turn.added)) (at_hand run.state run.last) s (ap (λ (x : Option State). at_hand x run.last) e))
step_length run turn (cuts_off choice s e cut) =
    begun_none _ _ false refl (session_length run.ended run.calls (harm_in (calls_in turn ++ run.calls) s) (at_hand run.state run.last) s (ap (λ (x : Option State). at_hand x run.last) e))
step_length run turn {st = st} (tells_bare t same e last takes only) =
    begun_none _ _ (begins_session st) same (calls_length run.ended (calls_in turn ++ run.calls) run.calls (at_hand run.state run.last))
step_length run turn {st = st} (begins name g begun is) = begun_one (harms_of run) (harm_in turn.device.events (after_all nothing_yet turn.added)) (begins_session st) begun
step_length run turn {st = st} (fails name count begun is refuses) =
    ap length (append-nil (harms_of run ++ harm_of_format turn.device.events count ∷ []))
    ∙ begun_one (harms_of run) (harm_of_format turn.device.events count) (begins_session st) begun

reading_length : (run : Run) (turn : Turn) (l : LineAnswer) → ReadingTakes run turn l → length (harms_of (after_reading run turn l)) ≡ length (harms_of run) + begun_in l
reading_length run turn (line.Step st) takes = step_length run turn (goes run turn st takes)
reading_length run turn line.Nothing takes = omega arith
reading_length run turn (line.Bad fault) takes = absurd takes

pub run_length : (lines : List (List ℕ)) (turns : List Turn) (run : Run) → IsRun run lines turns → length (harms_of (run_after run lines turns)) ≡ length (harms_of run) + sessions_begun lines
run_length [] [] run is = omega arith
run_length [] (turn ∷ turns) run is = absurd is
run_length (bytes ∷ lines) [] run is = absurd is
run_length (bytes ∷ lines) (turn ∷ turns) run is =
    omega (arith, reading_length run turn (reading_of bytes) is.0, run_length lines turns (after_line run turn bytes) is.1)

-- ---- losses

abbrev LossesWhere : Option State → Type 0
LossesWhere None = Unit {0}
LossesWhere (Some s) = NoLossIsAFault s

pub no_loss : (lines : List (List ℕ)) (turns : List Turn) (s : State) → IsRun fresh lines turns → (run_after fresh lines turns).state ≡ Some s → NoLossIsAFault s
no_loss lines turns s is e =
    subst LossesWhere e (states_keep LossesWhere (λ run s turn st takes h. losses_stay s turn.added h) (formats_lose_none nothing_yet) tt lines turns fresh is tt)

-- ---- what a device shows of it

-- the calls that were told are in its log, and where it told its content to the end, no damage was told
pub record IsSeen (h : Harm) (d : Device) : Type 0 where
  pub calls : GoesOnFrom h.calls d.past
  pub unharmed : TellsAll d → h.damaged ≡ false

abbrev pub AreSeen : List Harm → List Device → Type 0
AreSeen [] ds = Unit {0}
AreSeen (h ∷ hs) [] = ⊥
AreSeen (h ∷ hs) (d ∷ ds) = IsSeen h d × AreSeen hs ds

back_seen : (hs : List Harm) (ds : List Device) → AreBack hs ds → AreSeen hs ds
back_seen [] ds b = tt
back_seen (h ∷ hs) [] b = absurd b
back_seen (h ∷ hs) (d ∷ ds) b = (record { calls = b.0.made; unharmed = b.0.unharmed }, back_seen hs ds b.1)

front_seen : (hs more : List Harm) (ds : List Device) → AreSeen (hs ++ more) ds → AreSeen hs ds
front_seen [] more ds s = tt
front_seen (h ∷ hs) more [] s = absurd s
front_seen (h ∷ hs) more (d ∷ ds) s = (s.0, front_seen hs more ds s.1)

last_seen : (hs : List Harm) (h g : Harm) (ds : List Device) → ((d : Device) → IsSeen h d → IsSeen g d) → AreSeen (hs ++ h ∷ []) ds → AreSeen (hs ++ g ∷ []) ds
last_seen [] h g [] f s = absurd s
last_seen [] h g (d ∷ ds) f s = (f d s.0, tt)
last_seen (x ∷ hs) h g [] f s = absurd s
last_seen (x ∷ hs) h g (d ∷ ds) f s = (s.0, last_seen hs h g ds f s.1)

seen_at : (hs : List Harm) (h : Harm) (earlier : List Device) (d : Device) (later : List Device) → AreSeen (hs ++ h ∷ []) (earlier ++ d ∷ later) → length earlier ≡ length hs → IsSeen h d
seen_at [] h [] d later s n = s.0
seen_at [] h (x ∷ earlier) d later s n = absurd (omega (arith, n))
seen_at (x ∷ hs) h [] d later s n = absurd (omega (arith, n))
seen_at (x ∷ hs) h (y ∷ earlier) d later s n = seen_at hs h earlier d later s.1 (omega (arith, n))

module _ (law : DamageStays) (ds : List Device) where
  session_seen : (run : Run) (s : State) (turn : Turn) (st : Step) → SessionTakes run s turn st → (d : Device) → IsSeen (harm_in (calls_in turn ++ run.calls) (after_all s turn.added)) d → IsSeen (harm_in run.calls s) d
  session_seen run s turn st takes d h = record {
    calls = goes_on run.calls (calls_in turn ++ run.calls) d.past (record { later = calls_in turn; is = refl }) h.calls;
    unharmed = λ tells. false_from_ne_true (has_damage s) (λ e. no_truth (sym (law turn.device s (asked run s st) turn.added turn.refused takes.legal e) ∙ h.unharmed tells));
  }

  -- before the calls of a turn the same was told
  calls_seen : (run : Run) (turn : Turn) (o : Option State) → AreSeen (run.ended ++ harm_of (calls_in turn ++ run.calls) o) ds → AreSeen (run.ended ++ harm_of run.calls o) ds
  calls_seen run turn None h = h
  calls_seen run turn (Some s) h =
      last_seen run.ended (harm_in (calls_in turn ++ run.calls) s) (harm_in run.calls s) ds
      (λ d seen. record { calls = goes_on run.calls (calls_in turn ++ run.calls) d.past (record { later = calls_in turn; is = refl }) seen.calls; unharmed = seen.unharmed }) h

  goes_seen : (run : Run) (turn : Turn) {st : Step} {said : StepAnswer} {after : Run} → StepGoes run turn st said after → AreSeen (harms_of after) ds → AreSeen (harms_of run) ds
  goes_seen run turn (stays bad same none) h = h
  goes_seen run turn (waits at same none) h = h
  goes_seen run turn {st = st} (works s same e takes) h =
      subst (λ (x : Option State). AreSeen (run.ended ++ harm_of run.calls (at_hand x run.last)) ds) (sym e)
      (last_seen run.ended (harm_in (calls_in turn ++ run.calls) (after_all s turn.added)) (harm_in run.calls s) ds (session_seen run s turn st takes) h)
  goes_seen run turn (cuts_off choice s e cut) h =
      subst (λ (x : Option State). AreSeen (run.ended ++ harm_of run.calls (at_hand x run.last)) ds) (sym e) (calls_seen run turn (Some s) h)
  goes_seen run turn (tells_bare t same e last takes only) h = calls_seen run turn (at_hand run.state run.last) h
  goes_seen run turn (begins name g same is) h = front_seen (harms_of run) (harm_in turn.device.events (after_all nothing_yet turn.added) ∷ []) ds h
  goes_seen run turn (fails name count same is refuses) h =
      front_seen (harms_of run) (harm_of_format turn.device.events count ∷ []) ds (front_seen (harms_of run ++ harm_of_format turn.device.events count ∷ []) [] ds h)

  pub reading_seen : (run : Run) (turn : Turn) (l : LineAnswer) → ReadingTakes run turn l → AreSeen (harms_of (after_reading run turn l)) ds → AreSeen (harms_of run) ds
  reading_seen run turn (line.Step st) takes h = goes_seen run turn (goes run turn st takes) h
  reading_seen run turn line.Nothing takes h = h
  reading_seen run turn (line.Bad fault) takes h = absurd takes

  pub run_seen : (lines : List (List ℕ)) (turns : List Turn) (run : Run) → IsRun run lines turns → AreSeen (harms_of (run_after run lines turns)) ds → AreSeen (harms_of run) ds
  run_seen [] turns run is h = h
  run_seen (bytes ∷ lines) [] run is h = absurd is
  run_seen (bytes ∷ lines) (turn ∷ turns) run is h =
      reading_seen run turn (reading_of bytes) is.0 (run_seen lines turns (after_line run turn bytes) is.1 h)

-- the device of a line shows what was told of its session
pub device_seen : (l : RunLogs) (n : ℕ) (device : Device) (ended : List Harm) (h : Harm) (ds : List Device) → l.now.returned ≡ l.before.returned ++ ds → AreSeen (ended ++ h ∷ []) ds
    → IsDeviceAt l n device → n ≡ length ended + 1 → IsSeen h device
device_seen l n device ended h ds returned seen at begun =
    let same : ds ≡ at.earlier ++ device ∷ at.later = append_cancel_left l.before.returned ds (at.earlier ++ device ∷ at.later) (sym returned ∙ at.returned) in
    seen_at ended h at.earlier device at.later (subst (λ (xs : List Device). AreSeen (ended ++ h ∷ []) xs) same seen) (omega (arith, begun, at.which))

-- what the devices that came back show of a run from which the others went on
pub all_seen : (law : DamageStays) (l : RunLogs) (run : Run) (after : List (List ℕ)) (later : List Turn) → IsRun run after later → (come : ComeBackFrom l (harms_of (run_after run after later)))
    → AreSeen (harms_of run) come.devices
all_seen law l run after later goes come = run_seen law come.devices after later run goes (back_seen (harms_of (run_after run after later)) come.devices come.told)
