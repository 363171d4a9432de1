-- Two runs of the same lines are the same up to the first line that recorded trouble.
use Rattle.std.proofs.Common.{◌≡◌, ℕ, List, [], ◌∷◌, ◌++◌, ◌⊎◌, inl, inr, Bool, true, false, refl, sym, ◌∙◌, ap, subst}
use Rattle.std.specs.Prelude.{Option, Some, None, option_map}
use Rattle.std.specs.List.{AllByRecursion}
use Rattle.tape_base.specs.declared.geometries.BadGeometry.{BadGeometry}
use Rattle.tape_base.specs.declared.geometries.Geometry.{Geometry}
use Rattle.tape_base.specs.Limits.{first_refusal}
use Rattle.cache_model.specs.declared.record.Rec.{Rec}
use Rattle.cache_model.specs.declared.record.Rec.TheVariants as rec
use Rattle.cache_model.specs.State.{State, after_all}
use Rattle.cache_model.specs.Permit.{Intent, IsAmong, Reason}
use Rattle.cache_model.specs.Legal.{IsStep, format_records}
use Rattle.cache_model.proofs.Found.{no_truth}
use Rattle.model_laws.specs.Agreeing.{AreLike, HoldTheSame, IsUntroubled, StepsAgree, TellTheSame, is_trouble, without_digests}
use Rattle.model_laws.specs.Purging.{DisplacementsAgree, TellNoDeviceTrouble, is_device_trouble}
use Rattle.model_laws.specs.RoomLaws.{TellNoDisplacement, is_displacement}
use Rattle.model_laws.proofs.Purging.{all_untroubled}
use Rattle.script_grammar.specs.declared.step.Step.{Step}
use Rattle.script_grammar.specs.declared.step.Step.TheVariants as step
use Rattle.script_grammar.specs.declared.line.LineAnswer.{LineAnswer}
use Rattle.script_grammar.specs.declared.line.LineAnswer.TheVariants as line
use Rattle.script_grammar.specs.Grammar.{reading_of}
use Rattle.script_grammar.specs.Texts.{answer_line}
use Rattle.script_run.specs.Run.{Run}
use Rattle.script_run.specs.Turn.{Turn, lookup_in, no_turn, told_in}
use Rattle.script_run.specs.Asked.{asked}
use Rattle.script_run.specs.Answers.{format_said, session_said, step_said, switch_said, tried_said}
use Rattle.script_run.specs.Behind.{after_cut, after_format, after_line, after_reading, at_moment, behind, cut_off, in_session, tried_format, with_calls_of, with_format}
use Rattle.script_run.proofs.Listed.{is_among}
use Rattle.script_run.specs.Takes.{BareTakes, CutTakes, FormatTakes, GivesOwn, IfBare, IsRun, LineTakes, ReadingTakes, SessionTakes, Takes, line_text, output_of, reading_text, run_after}
use Rattle.script_laws.specs.Agreeing.{AreSame, without_devices}
use Rattle.script_run.specs.Switch.{CutsNothing, CutsPower, OnlyTells, TreatsSwitch, order_of_step}
use Rattle.script_run.proofs.Lift.{no_bare, only_tells}
use Rattle.device_log.specs.declared.choice.CutChoice.{CutChoice}
use Rattle.device_log.specs.Calls.{Call, PowerCut}
use Rattle.cache_answers.specs.declared.answers.SwitchOrder.TheVariants as order
use Rattle.script_grammar.specs.declared.answer.StepAnswer.{StepAnswer}
use Rattle.script_grammar.specs.declared.answer.StepAnswer.TheVariants as answer
use Rattle.cache_answers.specs.declared.answers.SwitchOrder.{SwitchOrder}
use Rattle.cache_answers.specs.Orders.{call_of_order}
use Rattle.script_laws.specs.Parting.{AreToldApart, DisplacesPiece, IsUntroubledUpTo, LinesPart, MeetsDeviceTrouble, TurnsPart, both_displace, first_in_trouble, second_in_trouble, told_apart}
use Rattle.script_laws.proofs.Formats.{same_numbers, untroubled_format}
use Rattle.script_laws.proofs.Devices.{asked_too, cut_too, format_too, gives_too, leaves_too, lookup_too, moment_too, says_too, told_too, without_device}
use Rattle.script_laws.proofs.Alike.{same_given}

-- two runs print the same, and leave the same but for what the devices fix
record IsSame (text other_text : List ℕ) (next other_next : Run) : Type 0 where
  printed : text ≡ other_text
  left : without_devices next ≡ without_devices other_next

-- so two runs of the same lines do
abbrev IsPlayedSame : (u v : Run) (lines : List (List ℕ)) (one other : List Turn) → Type 0
IsPlayedSame u v lines one other = IsSame (output_of u lines one) (output_of v lines other) (run_after u lines one) (run_after v lines other)

-- up to one of the lines they do, and in that one they part
record PartBetween (u v : Run) (lines : List (List ℕ)) (one other : List Turn) : Type 0 where
  before : List (List ℕ)
  bytes : List ℕ
  after : List (List ℕ)
  lines_are : lines ≡ before ++ bytes ∷ after
  first : IsUntroubledUpTo u before one
  second : IsUntroubledUpTo v before other
  same : IsPlayedSame u v before first.earlier second.earlier
  part : TurnsPart first.turn second.turn

-- ---- trouble

-- a test passes none of these records, or one
abbrev NoneOrOne : (Rec → Bool) → List Rec → Type 0
NoneOrOne test recs = AllByRecursion (λ r. test r ≡ false) recs ⊎ ((told : Rec) × IsAmong told recs × (test told ≡ true))

first_or_later : (test : Rec → Bool) (r : Rec) (recs : List Rec) (b : Bool) → test r ≡ b → NoneOrOne test recs → NoneOrOne test (r ∷ recs)
first_or_later test r recs true e rest = inr (r, inl refl, e)
first_or_later test r recs false e (inl none) = inl (e, none)
first_or_later test r recs false e (inr later) = inr (later.0, inr later.1, later.2)

none_or_one : (test : Rec → Bool) (recs : List Rec) → NoneOrOne test recs
none_or_one test [] = inl tt
none_or_one test (r ∷ recs) = first_or_later test r recs (test r) refl (none_or_one test recs)

trouble_or_not : (turn : Turn) → TellNoDeviceTrouble turn.added ⊎ MeetsDeviceTrouble turn
trouble_or_not turn = elim (none_or_one is_device_trouble turn.added) [
  | inl none ↦ inl none
  | inr one ↦ inr (record { told = one.0; among = one.1; tells = one.2 })
]

piece_of : (turn : Turn) (told : Rec) → IsAmong told turn.added → is_displacement told ≡ true → DisplacesPiece turn
piece_of turn (rec.Displaced piece segment live) among tells = record { piece = piece; segment = segment; live = live; recorded = among }
piece_of turn told among tells = no_truth (sym tells)

displaces_or_not : (turn : Turn) → TellNoDisplacement turn.added ⊎ DisplacesPiece turn
displaces_or_not turn = elim (none_or_one is_displacement turn.added) [ inl none ↦ inl none | inr one ↦ inr (piece_of turn one.0 one.1 one.2) ]

displaces_none : (turn : Turn) → IsUntroubled turn.added → DisplacesPiece turn → ⊥
displaces_none turn none d = no_truth (is_among (λ r. is_trouble r ≡ false) (rec.Displaced d.piece d.segment d.live) turn.added none d.recorded)

-- whether there are no calls
abbrev is_empty : List Call → Bool
is_empty [] = true
is_empty (call ∷ calls) = false

bare_only : (turn : Turn) (last : Option State) (asks : Step) → BareTakes turn last asks → OnlyTells turn
bare_only turn None asks takes = no_bare turn asks takes
bare_only turn (Some t) asks takes = only_tells turn t asks takes

-- ---- one line

-- turns that are the same but for their devices
module _ (u v : Run) (s t : State) (a b : Turn) (step : Step) (runs : without_devices u ≡ without_devices v)
    (states : HoldTheSame s t) where
  pub asked_same : asked v t step ≡ asked u s step
  asked_same =
      asked_too v t step
      ∙ ap (λ (run : Run). asked run (without_digests t) step) (sym runs)
      ∙ ap (λ (x : State). asked (without_devices u) x step) (sym states)
      ∙ sym (asked_too u s step)

  pub given_same : TellTheSame a.added b.added → GivesOwn u s a step → GivesOwn v t b step → a.given ≡ b.given
  given_same told own other_own =
      let there : GivesOwn (without_devices u) (without_digests s) b step =
      subst (λ (x : State). GivesOwn (without_devices u) x b step) (sym states)
      (subst (λ (run : Run). GivesOwn run (without_digests t) b step) (sym runs) (gives_too v t b step other_own)) in
      same_given (without_devices u) (without_digests s) a b step
      (sym (told_too a.added) ∙ ap told_in told ∙ told_too b.added) (sym (lookup_too a.added) ∙ ap lookup_in told ∙ lookup_too b.added)
      (gives_too u s a step own) there

  pub turns_same : TellTheSame a.added b.added → a.refused ≡ b.refused → a.given ≡ b.given → a.told ≡ b.told → without_device a ≡ without_device b
  turns_same told refused given switch = λ i. record { added = told i; refused = refused i; device = no_turn.device; given = given i; told = switch i }

  module _ (s2 t2 : State) (behind : HoldTheSame s2 t2) (turns : without_device a ≡ without_device b) where
    pub said_same : session_said u s s2 a step ≡ session_said v t t2 b step
    said_same =
        says_too u s s2 a step
        ∙ ap (λ (run : Run). session_said run (without_digests s) (without_digests s2) (without_device a) step) runs
        ∙ ap (λ (x : State). session_said (without_devices v) x (without_digests s2) (without_device a) step) states
        ∙ ap (λ (x : State). session_said (without_devices v) (without_digests t) x (without_device a) step) behind
        ∙ ap (λ (turn : Turn). session_said (without_devices v) (without_digests t) (without_digests t2) turn step) turns
        ∙ sym (says_too v t t2 b step)

    pub left_same : without_devices (in_session u s s2 a step) ≡ without_devices (in_session v t t2 b step)
    left_same =
        leaves_too u s s2 a step
        ∙ ap (λ (run : Run). without_devices (in_session run (without_digests s) (without_digests s2) (without_device a) step)) runs
        ∙ ap (λ (x : State). without_devices (in_session (without_devices v) x (without_digests s2) (without_device a) step)) states
        ∙ ap (λ (x : State). without_devices (in_session (without_devices v) (without_digests t) x (without_device a) step)) behind
        ∙ ap (λ (turn : Turn). without_devices (in_session (without_devices v) (without_digests t) (without_digests t2) turn step)) turns
        ∙ sym (leaves_too v t t2 b step)

-- a line that does nothing tells nothing
nothing_told : (turn : Turn) → turn ≡ no_turn → IsUntroubled turn.added
nothing_told turn is = subst (λ (x : Turn). IsUntroubled x.added) (sym is) tt

same_state : (s t : State) → Some (without_digests s) ≡ Some (without_digests t) → HoldTheSame s t
same_state s t same = cc

-- ---- what switches are told

-- a line that is no format and sets no moment tells both switches the same, but for what a cut left
abbrev IsToldSame : Step → Turn → Turn → Type 0
IsToldSame (step.Format name segments buckets content agg reach fragment generation alternates) a b = Unit {0}
IsToldSame (step.Now at) a b = Unit {0}
IsToldSame (step.Cut choice) a b = is_empty a.told ≡ is_empty b.told
IsToldSame _ a b = a.told ≡ b.told

abbrev IsReadSame : LineAnswer → Turn → Turn → Type 0
IsReadSame (line.Step asks) a b = IsToldSame asks a b
IsReadSame line.Nothing a b = Unit {0}
IsReadSame (line.Bad fault) a b = Unit {0}

step_back : (asks : Step) (a b : Turn) → IsToldSame asks a b → IsToldSame asks b a
step_back (step.Format name segments buckets content agg reach fragment generation alternates) a b h = tt
step_back (step.Now at) a b h = tt
step_back (step.Cut choice) a b h = sym h
step_back _ a b h = sym h

told_back : (reading : LineAnswer) (a b : Turn) → IsReadSame reading a b → IsReadSame reading b a
told_back (line.Step asks) a b h = step_back asks a b h
told_back line.Nothing a b h = tt
told_back (line.Bad fault) a b h = tt

orders_told : (g h : Geometry) (o : Option SwitchOrder) (a b : Turn) → g ≡ h → TreatsSwitch g o a → TreatsSwitch h o b → (a.told ≡ b.told) ⊎ AreToldApart a b
orders_told g h None a b same one other = inl (one ∙ sym other)
orders_told g h (Some o) a b same one other = elim one.1 [
  | inl told ↦ elim other.1 [
    | inl too ↦ inl (told ∙ (ap (λ (x : Geometry). call_of_order x o ∷ []) same ∙ sym too))
    | inr none ↦ inr (inl (record { call = call_of_order g o; told = told; none = none }))
  ]
  | inr none ↦ elim other.1 [
    | inl too ↦ inr (inr (record { call = call_of_order h o; told = too; none = none }))
    | inr none_too ↦ inl (none ∙ sym none_too)
  ]
]

-- what a cut told, or nothing
cut_told : (choice : CutChoice) (a : Turn) → CutsPower choice a ⊎ (a.told ≡ []) → ((call : Call) × (a.told ≡ call ∷ [])) ⊎ (a.told ≡ [])
cut_told choice a (inl cut) = inl (PowerCut choice cut.left, cut.told)
cut_told choice a (inr none) = inr none

cuts_told : (a b : Turn) → ((call : Call) × (a.told ≡ call ∷ [])) ⊎ (a.told ≡ []) → ((call : Call) × (b.told ≡ call ∷ [])) ⊎ (b.told ≡ [])
    → (is_empty a.told ≡ is_empty b.told) ⊎ AreToldApart a b
cuts_told a b (inl is) (inl too) = inl (ap is_empty is.1 ∙ sym (ap is_empty too.1))
cuts_told a b (inl is) (inr none) = inr (inl (record { call = is.0; told = is.1; none = none }))
cuts_told a b (inr none) (inl too) = inr (inr (record { call = too.0; told = too.1; none = none }))
cuts_told a b (inr none) (inr none_too) = inl (ap is_empty none ∙ sym (ap is_empty none_too))

session_cut : (run : Run) (s : State) (a : Turn) (choice : CutChoice) → CutTakes run s a choice → CutsPower choice a ⊎ (a.told ≡ [])
session_cut run s a choice (inl takes) = inr takes.1.told
session_cut run s a choice (inr cut) = inl cut

-- of a bare device
orders_bare : (o : SwitchOrder) (a b : Turn) (last other : Option State) → option_map without_digests last ≡ option_map without_digests other
    → IfBare last (λ t. OnlyTells a × TreatsSwitch t.geometry (Some o) a) → IfBare other (λ t. OnlyTells b × TreatsSwitch t.geometry (Some o) b)
    → (a.told ≡ b.told) ⊎ AreToldApart a b
orders_bare o a b None other same takes other_takes = absurd takes
orders_bare o a b (Some s) None same takes other_takes = absurd other_takes
orders_bare o a b (Some s) (Some t) same takes other_takes =
    orders_told s.geometry t.geometry (Some o) a b (ap (λ (x : State). x.geometry) (same_state s t same)) takes.1 other_takes.1

cut_bare : (choice : CutChoice) (a : Turn) (last : Option State) → IfBare last (λ t. CutsPower choice a ⊎ CutsNothing a) → CutsPower choice a ⊎ (a.told ≡ [])
cut_bare choice a None takes = absurd takes
cut_bare choice a (Some t) (inl cut) = inl cut
cut_bare choice a (Some t) (inr none) = inr none.told

bare_told : (u v : Run) (a b : Turn) (last other : Option State) (asks : Step) → option_map without_digests last ≡ option_map without_digests other
    → BareTakes a last asks → BareTakes b other asks → IsToldSame asks a b ⊎ AreToldApart a b
bare_told u v a b last other (step.Fail nth) same takes other_takes = orders_bare (order.Fail nth) a b last other same takes other_takes
bare_told u v a b last other (step.StopAfter calls) same takes other_takes = orders_bare (order.StopAfter calls) a b last other same takes other_takes
bare_told u v a b last other (step.Cut choice) same takes other_takes =
    cuts_told a b (cut_told choice a (cut_bare choice a last takes)) (cut_told choice b (cut_bare choice b other other_takes))
bare_told u v a b last other _ same takes other_takes = absurd takes

steps_told : (u v : Run) (a b : Turn) (o p : Option State) (asks : Step) → option_map without_digests o ≡ option_map without_digests p
    → option_map without_digests u.last ≡ option_map without_digests v.last → Takes u a o asks → Takes v b p asks
    → IsToldSame asks a b ⊎ AreToldApart a b
steps_told u v a b o p (step.Format name segments buckets content agg reach fragment generation alternates) states lasts takes other_takes = inl tt
steps_told u v a b o p (step.Now at) states lasts takes other_takes = inl tt
steps_told u v a b (Some s) (Some t) (step.Cut choice) states lasts takes other_takes =
    cuts_told a b (cut_told choice a (session_cut u s a choice takes)) (cut_told choice b (session_cut v t b choice other_takes))
steps_told u v a b (Some s) (Some t) asks states lasts takes other_takes =
    orders_told s.geometry t.geometry (order_of_step asks) a b (ap (λ (x : State). x.geometry) (same_state s t states)) takes.switch other_takes.switch
steps_told u v a b None None asks states lasts takes other_takes = bare_told u v a b u.last v.last asks lasts takes other_takes
steps_told u v a b None (Some t) asks states lasts takes other_takes = absurd cc
steps_told u v a b (Some s) None asks states lasts takes other_takes = absurd cc

reading_told : (u v : Run) (a b : Turn) (reading : LineAnswer) → without_devices u ≡ without_devices v → ReadingTakes u a reading → ReadingTakes v b reading
    → IsReadSame reading a b ⊎ AreToldApart a b
reading_told u v a b (line.Step asks) runs takes other_takes = steps_told u v a b u.state v.state asks (ap (λ (run : Run). run.state) runs) (ap (λ (run : Run). run.last) runs) takes other_takes
reading_told u v a b line.Nothing runs takes other_takes = inl tt
reading_told u v a b (line.Bad fault) runs takes other_takes = inl tt

module _ (agree : StepsAgree) (displace : DisplacementsAgree) where
  same_session : (u v : Run) (s t : State) (a b : Turn) (step : Step) → without_devices u ≡ without_devices v → HoldTheSame s t
      → SessionTakes u s a step → SessionTakes v t b step → a.told ≡ b.told → IsUntroubled a.added → TellNoDeviceTrouble b.added
      → IsUntroubled b.added × IsSame (answer_line (session_said u s (after_all s a.added) a step)) (answer_line (session_said v t (after_all t b.added) b step)) (in_session u s (after_all s a.added) a step) (in_session v t (after_all t b.added) b step)
  same_session u v s t a b step runs states takes other_takes switch calm quiet =
      let moment : u.now ≡ v.now = ap (λ (run : Run). run.now) runs in
      let like : AreLike a.device b.device = record { unsynced = takes.unsynced; other_unsynced = other_takes.unsynced; moment = takes.moment ∙ moment ∙ sym other_takes.moment } in
      let legal : IsStep b.device t (asked u s step) b.added b.refused =
      subst (λ (intents : List Intent). IsStep b.device t intents b.added b.refused) (asked_same u v s t a b step runs states) other_takes.legal in
      let other_calm : IsUntroubled b.added =
      displace a.device b.device s t (asked u s step) a.added b.added a.refused b.refused like (takes.packs ∙ sym other_takes.packs) states calm quiet takes.legal legal in
      let same : TellTheSame a.added b.added × HoldTheSame (after_all s a.added) (after_all t b.added) × (a.refused ≡ b.refused) =
      agree a.device b.device s t (asked u s step) a.added b.added a.refused b.refused like states calm other_calm takes.legal legal in
      let given : a.given ≡ b.given = given_same u v s t a b step runs states same.0 takes.own other_takes.own in
      let turns : without_device a ≡ without_device b = turns_same u v s t a b step runs states same.0 same.2 given switch in (
        other_calm,
        record {
          printed = ap answer_line (said_same u v s t a b step runs states (after_all s a.added) (after_all t b.added) same.1 turns);
          left = left_same u v s t a b step runs states (after_all s a.added) (after_all t b.added) same.1 turns;
        },
      )

  same_tried : (u v : Run) (a b : Turn) (name : List ℕ) (segments buckets content agg reach fragment generation alternates : ℕ) (bad : Option BadGeometry) → without_devices u ≡ without_devices v
      → FormatTakes a segments buckets content agg reach fragment generation alternates bad → FormatTakes b segments buckets content agg reach fragment generation alternates bad
      → IsUntroubled a.added → TellNoDeviceTrouble b.added
      → IsUntroubled b.added × IsSame (answer_line (format_said a bad)) (answer_line (format_said b bad)) (after_format u a name bad) (after_format v b name bad)
  same_tried u v a b name segments buckets content agg reach fragment generation alternates (Some bad) runs takes other_takes calm quiet =
      (subst IsUntroubled (takes.0 ∙ sym other_takes.0) calm, record { printed = refl; left = runs })
  same_tried u v a b name segments buckets content agg reach fragment generation alternates None runs takes other_takes calm quiet =
      let one = untroubled_format is_trouble (λ count. refl) a takes.0 a.refused refl takes.2 calm in
      let other = untroubled_format is_device_trouble (λ count. refl) b other_takes.0 b.refused refl other_takes.2 quiet in
      let same : a.added ≡ b.added =
      one.1 ∙ (ap format_records (same_numbers takes.0 other_takes.0 segments buckets content agg reach fragment generation alternates takes.1 other_takes.1) ∙ sym other.1) in (
        subst IsUntroubled same calm,
        record {
          printed =
              ap (λ (why : Option Reason). answer_line (tried_said a.added why)) one.0
              ∙ (ap (λ (added : List Rec). answer_line (tried_said added None)) same
              ∙ sym (ap (λ (why : Option Reason). answer_line (tried_said b.added why)) other.0));
          left =
              ap (λ (why : Option Reason). without_devices (tried_format u a name why)) one.0
              ∙ (format_too u name a.device.events a.added
              ∙ (ap (λ (run : Run). without_devices (with_format run name [] a.added)) runs
              ∙ (ap (λ (added : List Rec). without_devices (with_format (without_devices v) name [] added)) same
              ∙ (sym (format_too v name b.device.events b.added)
              ∙ sym (ap (λ (why : Option Reason). without_devices (tried_format v b name why)) other.0)))));
        },
      )

  -- a device was cut or told something, or neither was
  same_answer : (whole : StepAnswer) (one other : List Call) → is_empty one ≡ is_empty other → switch_said one whole ≡ switch_said other whole
  same_answer whole [] [] same = refl
  same_answer whole [] (call ∷ calls) same = no_truth same
  same_answer whole (call ∷ calls) [] same = no_truth (sym same)
  same_answer whole (call ∷ calls) (other ∷ others) same = refl

  same_bare : (u v : Run) (a b : Turn) (whole : StepAnswer) → without_devices u ≡ without_devices v → OnlyTells a → OnlyTells b → is_empty a.told ≡ is_empty b.told
      → IsUntroubled b.added × IsSame (answer_line (switch_said a.told whole)) (answer_line (switch_said b.told whole)) (with_calls_of u a) (with_calls_of v b)
  same_bare u v a b whole runs only other same =
      (subst IsUntroubled (sym other.added) tt, record { printed = ap answer_line (same_answer whole a.told b.told same); left = runs })

  same_cut : (u v : Run) (s t : State) (a b : Turn) (choice : CutChoice) → without_devices u ≡ without_devices v → HoldTheSame s t
      → CutTakes u s a choice → CutTakes v t b choice → is_empty a.told ≡ is_empty b.told → IsUntroubled a.added → TellNoDeviceTrouble b.added
      → IsUntroubled b.added × IsSame (answer_line (switch_said a.told answer.Cut)) (answer_line (switch_said b.told answer.Cut)) (after_cut u s a choice a.told) (after_cut v t b choice b.told)
  same_cut u v s t a b choice runs states (inl takes) (inl other_takes) switch calm quiet =
      let same = same_session u v s t a b (step.Cut choice) runs states takes.0 other_takes.0 (takes.1.told ∙ sym other_takes.1.told) calm quiet in (
        same.0,
        record {
          printed = same.1.printed;
          left = ap (λ told. without_devices (after_cut u s a choice told)) takes.1.told
              ∙ (same.1.left ∙ sym (ap (λ told. without_devices (after_cut v t b choice told)) other_takes.1.told));
        },
      )
  same_cut u v s t a b choice runs states (inl takes) (inr cut) switch calm quiet = no_truth (sym (ap is_empty takes.1.told) ∙ (switch ∙ ap is_empty cut.told))
  same_cut u v s t a b choice runs states (inr cut) (inl takes) switch calm quiet = no_truth (sym (ap is_empty takes.1.told) ∙ (sym switch ∙ ap is_empty cut.told))
  same_cut u v s t a b choice runs states (inr one) (inr other) switch calm quiet = (
    subst IsUntroubled (sym other.only.added) tt,
    record {
      printed = ap answer_line (same_answer answer.Cut a.told b.told switch);
      left = ap (λ told. without_devices (after_cut u s a choice told)) one.told
          ∙ (cut_too u s a
          ∙ (ap (λ (run : Run). without_devices (cut_off run (without_digests s) no_turn)) runs
          ∙ (ap (λ (x : State). without_devices (cut_off (without_devices v) x no_turn)) states
          ∙ (sym (cut_too v t b) ∙ sym (ap (λ told. without_devices (after_cut v t b choice told)) other.told)))));
    },
  )

  same_step : (u v : Run) (a b : Turn) (o p : Option State) (step : Step) → without_devices u ≡ without_devices v
      → option_map without_digests o ≡ option_map without_digests p
      → Takes u a o step → Takes v b p step → IsToldSame step a b
      → IsUntroubled a.added → TellNoDeviceTrouble b.added
      → IsUntroubled b.added × IsSame (answer_line (step_said u a o step)) (answer_line (step_said v b p step)) (behind u a o step) (behind v b p step)
  same_step u v a b o p (step.Format name segments buckets content agg reach fragment generation alternates) runs states takes other_takes switch calm quiet =
      same_tried u v a b name segments buckets content agg reach fragment generation alternates (first_refusal segments buckets content agg reach fragment alternates) runs takes other_takes calm quiet
  same_step u v a b o p (step.Now at) runs states takes other_takes switch calm quiet =
      (nothing_told b other_takes, record { printed = refl; left = moment_too u at ∙ ap (λ (run : Run). without_devices (at_moment run at)) runs ∙ sym (moment_too v at) })
  same_step u v a b (Some s) (Some t) (step.Cut choice) runs states takes other_takes switch calm quiet =
      same_cut u v s t a b choice runs (same_state s t states) takes other_takes switch calm quiet
  same_step u v a b None None (step.Fail nth) runs states takes other_takes switch calm quiet =
      same_bare u v a b answer.Armed runs (bare_only a u.last (step.Fail nth) takes) (bare_only b v.last (step.Fail nth) other_takes) (ap is_empty switch)
  same_step u v a b None None (step.StopAfter calls) runs states takes other_takes switch calm quiet =
      same_bare u v a b answer.Armed runs (bare_only a u.last (step.StopAfter calls) takes) (bare_only b v.last (step.StopAfter calls) other_takes) (ap is_empty switch)
  same_step u v a b None None (step.Cut choice) runs states takes other_takes switch calm quiet =
      same_bare u v a b answer.Cut runs (bare_only a u.last (step.Cut choice) takes) (bare_only b v.last (step.Cut choice) other_takes) switch
  same_step u v a b (Some s) (Some t) step runs states takes other_takes switch calm quiet =
      same_session u v s t a b step runs (same_state s t states) takes other_takes switch calm quiet
  same_step u v a b None None step runs states takes other_takes switch calm quiet = absurd takes
  same_step u v a b None (Some t) step runs states takes other_takes switch calm quiet = absurd cc
  same_step u v a b (Some s) None step runs states takes other_takes switch calm quiet = absurd cc

  same_reading : (u v : Run) (a b : Turn) (reading : LineAnswer) → without_devices u ≡ without_devices v → ReadingTakes u a reading
      → ReadingTakes v b reading → IsReadSame reading a b
      → IsUntroubled a.added → TellNoDeviceTrouble b.added
      → IsUntroubled b.added × IsSame (reading_text u a reading) (reading_text v b reading) (after_reading u a reading) (after_reading v b reading)
  same_reading u v a b (line.Step s) runs takes other_takes switch calm quiet =
      same_step u v a b u.state v.state s runs (ap (λ (run : Run). run.state) runs) takes other_takes switch calm quiet
  same_reading u v a b line.Nothing runs takes other_takes switch calm quiet = (nothing_told b other_takes, record { printed = refl; left = runs })
  same_reading u v a b (line.Bad fault) runs takes other_takes switch calm quiet = absurd takes

  -- where neither device is in trouble the turns of a line are the same, or both displace a piece
  parts_or_not : (u v : Run) (bytes : List ℕ) (a b : Turn) → without_devices u ≡ without_devices v → LineTakes u a bytes → LineTakes v b bytes
      → IsReadSame (reading_of bytes) a b
      → TurnsPart a b ⊎ (IsUntroubled a.added × IsUntroubled b.added × IsSame (line_text u a bytes) (line_text v b bytes) (after_line u a bytes) (after_line v b bytes))
  parts_or_not u v bytes a b runs takes other_takes switch = elim (trouble_or_not a) [
    | inr t ↦ inl (first_in_trouble t)
    | inl quiet ↦ elim (trouble_or_not b) [
      | inr t ↦ inl (second_in_trouble t)
      | inl other_quiet ↦ elim (displaces_or_not a) [
        | inl stays ↦
            let calm : IsUntroubled a.added = all_untroubled a.added stays quiet in
            let same = same_reading u v a b (reading_of bytes) runs takes other_takes switch calm other_quiet in
            inr (calm, same.0, same.1)
        | inr d ↦ elim (displaces_or_not b) [
          | inr f ↦ inl (both_displace d f)
          | inl stays ↦
              let calm : IsUntroubled b.added = all_untroubled b.added stays other_quiet in
              absurd (displaces_none a (same_reading v u b a (reading_of bytes) (sym runs) other_takes takes (told_back (reading_of bytes) a b switch) calm quiet).0 d)
        ]
      ]
    ]
  ]

  -- so it is, or the line is for the switch of a device that one of them has not
  line_parts : (u v : Run) (bytes : List ℕ) (a b : Turn) → without_devices u ≡ without_devices v → LineTakes u a bytes → LineTakes v b bytes
      → TurnsPart a b ⊎ (IsUntroubled a.added × IsUntroubled b.added × IsSame (line_text u a bytes) (line_text v b bytes) (after_line u a bytes) (after_line v b bytes))
  line_parts u v bytes a b runs takes other_takes = elim (reading_told u v a b (reading_of bytes) runs takes other_takes) [
    | inr apart ↦ inl (told_apart apart)
    | inl switch ↦ parts_or_not u v bytes a b runs takes other_takes switch
  ]

  -- ---- all lines

  -- a first line that is the same goes before the others
  joined : (u v : Run) (bytes : List ℕ) (lines : List (List ℕ)) (a b : Turn) (one other : List Turn)
      → IsSame (line_text u a bytes) (line_text v b bytes) (after_line u a bytes) (after_line v b bytes)
      → IsPlayedSame (after_line u a bytes) (after_line v b bytes) lines one other
      → IsPlayedSame u v (bytes ∷ lines) (a ∷ one) (b ∷ other)
  joined u v bytes lines a b one other first rest = record {
    printed =
        ap (λ (text : List ℕ). text ++ output_of (after_line u a bytes) lines one) first.printed
        ∙ ap (λ (output : List ℕ). line_text v b bytes ++ output) rest.printed;
    left = rest.left;
  }

  parts_here : (u v : Run) (bytes : List ℕ) (lines : List (List ℕ)) (a b : Turn) (one other : List Turn)
      → without_devices u ≡ without_devices v
      → TurnsPart a b → PartBetween u v (bytes ∷ lines) (a ∷ one) (b ∷ other)
  parts_here u v bytes lines a b one other runs part = record {
    before = [];
    bytes = bytes;
    after = lines;
    lines_are = refl;
    first = record { earlier = []; turn = a; later = one; turns_are = refl; legal = tt; untroubled = tt };
    second = record { earlier = []; turn = b; later = other; turns_are = refl; legal = tt; untroubled = tt };
    same = record { printed = refl; left = runs };
    part = part;
  }

  abbrev up_to_next : (u : Run) (bytes : List ℕ) (before : List (List ℕ)) (a : Turn) (one : List Turn) → LineTakes u a bytes
      → IsUntroubled a.added
      → IsUntroubledUpTo (after_line u a bytes) before one → IsUntroubledUpTo u (bytes ∷ before) (a ∷ one)
  up_to_next u bytes before a one takes quiet f = record {
    earlier = a ∷ f.earlier;
    turn = f.turn;
    later = f.later;
    turns_are = ap (λ (turns : List Turn). a ∷ turns) f.turns_are;
    legal = (takes, f.legal);
    untroubled = (quiet, f.untroubled);
  }

  parts_later : (u v : Run) (bytes : List ℕ) (lines : List (List ℕ)) (a b : Turn) (one other : List Turn) → LineTakes u a bytes
      → LineTakes v b bytes
      → IsUntroubled a.added → IsUntroubled b.added
      → IsSame (line_text u a bytes) (line_text v b bytes) (after_line u a bytes) (after_line v b bytes)
      → PartBetween (after_line u a bytes) (after_line v b bytes) lines one other → PartBetween u v (bytes ∷ lines) (a ∷ one) (b ∷ other)
  parts_later u v bytes lines a b one other takes other_takes quiet other_quiet here p = record {
    before = bytes ∷ p.before;
    bytes = p.bytes;
    after = p.after;
    lines_are = ap (λ (xs : List (List ℕ)). bytes ∷ xs) p.lines_are;
    first = up_to_next u bytes p.before a one takes quiet p.first;
    second = up_to_next v bytes p.before b other other_takes other_quiet p.second;
    same = joined u v bytes p.before a b p.first.earlier p.second.earlier here p.same;
    part = p.part;
  }

  -- where neither turn recorded trouble the line is the same, and the lines behind it go on
  next_line : (u v : Run) (bytes : List ℕ) (lines : List (List ℕ)) (a b : Turn) (one other : List Turn) → LineTakes u a bytes
      → LineTakes v b bytes
      → IsUntroubled a.added → IsUntroubled b.added
      → IsSame (line_text u a bytes) (line_text v b bytes) (after_line u a bytes) (after_line v b bytes)
      → IsPlayedSame (after_line u a bytes) (after_line v b bytes) lines one other ⊎ PartBetween (after_line u a bytes) (after_line v b bytes) lines one other
      → IsPlayedSame u v (bytes ∷ lines) (a ∷ one) (b ∷ other) ⊎ PartBetween u v (bytes ∷ lines) (a ∷ one) (b ∷ other)
  next_line u v bytes lines a b one other takes other_takes quiet other_quiet here (inl rest) = inl (joined u v bytes lines a b one other here rest)
  next_line u v bytes lines a b one other takes other_takes quiet other_quiet here (inr p) =
      inr (parts_later u v bytes lines a b one other takes other_takes quiet other_quiet here p)

  agree_between : (u v : Run) (lines : List (List ℕ)) (one other : List Turn) → without_devices u ≡ without_devices v → IsRun u lines one
      → IsRun v lines other → IsPlayedSame u v lines one other ⊎ PartBetween u v lines one other
  agree_between u v [] [] [] runs legal other_legal = inl (record { printed = refl; left = runs })
  agree_between u v [] [] (b ∷ other) runs legal other_legal = absurd other_legal
  agree_between u v [] (a ∷ one) other runs legal other_legal = absurd legal
  agree_between u v (bytes ∷ lines) [] other runs legal other_legal = absurd legal
  agree_between u v (bytes ∷ lines) (a ∷ one) [] runs legal other_legal = absurd other_legal
  agree_between u v (bytes ∷ lines) (a ∷ one) (b ∷ other) runs legal other_legal = elim (line_parts u v bytes a b runs legal.0 other_legal.0) [
    | inl part ↦ inr (parts_here u v bytes lines a b one other runs part)
    | inr same ↦ next_line u v bytes lines a b one other legal.0 other_legal.0 same.0 same.1 same.2
        (agree_between (after_line u a bytes) (after_line v b bytes) lines one other same.2.left legal.1 other_legal.1)
  ]

  pub lines_agree_before_trouble : (run : Run) (lines : List (List ℕ)) (one other : List Turn) → IsRun run lines one → IsRun run lines other
      → AreSame run lines one other ⊎ LinesPart run lines one other
  lines_agree_before_trouble run lines one other legal other_legal = elim (agree_between run run lines one other refl legal other_legal) [
    | inl same ↦ inl (record { output = same.printed; left = same.left })
    | inr p ↦ inr (record {
      before = p.before;
      bytes = p.bytes;
      after = p.after;
      lines_are = p.lines_are;
      first = p.first;
      second = p.second;
      same = record { output = p.same.printed; left = p.same.left };
      part = p.part;
    })
  ]
