-- What a line makes of an outline.
use Rattle.std.proofs.Common.{◌≡◌, ℕ, true, false, List, [], ◌∷◌, ◌++◌, refl, sym, ◌∙◌, ap, subst, arith, inl, inr, ◌<◌, Result, Ok, Err}
use Rattle.std.specs.List.{AllByRecursion}
use Rattle.std.specs.Prelude.{Bool, Option, Some, None, IfOk, IfErr, IsSome, is_some, map, option_map}
use Rattle.std.proofs.lemmas.List.{append-nil, append_assoc}
use Rattle.device_log.specs.Calls.{Call}
use Rattle.logged_disk.specs.Device.{DeviceState as Device}
use Rattle.logged_disk.specs.declared.device.Disk.{Ghosts as DiskGhosts}
use Rattle.cache_calls.specs.declared.calls.Calls.{Ghosts as CallsGhosts}
use Rattle.tape_base.specs.declared.geometries.BadGeometry.{BadGeometry}
use Rattle.tape_base.specs.Limits.{first_refusal}
use Rattle.cache_model.specs.State.{State}
use Rattle.script_grammar.specs.declared.step.Step.{Step}
use Rattle.script_grammar.specs.declared.step.Step.TheVariants as step
use Rattle.script_grammar.specs.declared.answer.Refused.TheVariants as refused
use Rattle.script_grammar.specs.declared.answer.StepAnswer.{StepAnswer}
use Rattle.script_grammar.specs.declared.answer.StepAnswer.TheVariants as answer
use Rattle.script_run.specs.Answers.{number_of_bad}
use Rattle.script_run.specs.Run.{Harm, Run, at_hand, loosened, no_harm}
use Rattle.script_run.specs.Turn.{Turn}
use Rattle.script_run.specs.Behind.{harm_in, with_calls_of}
use Rattle.script_run.specs.Switch.{is_of_device, is_of_switch}
use Rattle.cache_model.proofs.Found.{no_truth}
use Rattle.cache_replay.specs.declared.session.Bare.{Bare}
use Rattle.cache_replay.specs.declared.session.Replay.{Replay}
use Rattle.cache_replay.specs.declared.session.Part.{Part}
use Rattle.cache_replay.specs.declared.stop.Stop.{Stop}
use Rattle.cache_replay.specs.declared.stop.Stop.TheVariants.{BayFault, Memory, NoCache}
use Rattle.run_promise.specs.Outline.{IsAnswerOf, IsFormatAnswer, Outline, attached, begun, begun_by, count_in, doubted, stands_behind, switch_told, told_behind, with_told_count, with_told_switch}
use Rattle.run_promise.specs.Outline.{outline_in, raised, told_of}
use Rattle.cache_replay.specs.Session.{AnswerTellsCount, AreLater, IsLaterDevice, return_of}
use Rattle.run_promise.specs.Needs.{AttachesAs, NeedsSession}
use Rattle.cache_replay.specs.Stop.{IsSessionStop}
use Rattle.cache_replay.specs.Plays.{CallsAt, IsUntoldAt}
use Rattle.cache_replay.specs.Replay.{IsAlone, IsLeftAtEnd, IsOutlined, IsReplay, Outlines, bare_return, returns_in, stays, tried}
use Rattle.cache_replay.proofs.OnPart.{later_device}
use Rattle.logged_disk.proofs.GoingOn.{stays_put}
use Rattle.script_run.specs.Ledger.{AreReached, Deals, GoesOnFrom, Ledger}

-- ---- what a bay tells

pub same_ledger : (names others : List (List ℕ)) (returned came : List Device) → others ≡ names → came ≡ returned
    → (let new : Ledger = record { names = others; returned = came } in new) ≡ record { names = names; returned = returned }
same_ledger names others returned came called back =
    ap (λ l. let new : Ledger = record { names = l; returned = came } in new) called ∙ ap (λ l. let new : Ledger = record { names = names; returned = l } in new) back

-- no device comes back and none is attached
pub no_deals : (ledger : Ledger) → Deals ledger ledger [] []
no_deals ledger = record {
  back = record { devices = []; returned = sym (append-nil ledger.returned); reached = tt };
  attached = sym (append-nil ledger.names);
}

-- ---- devices that go on

-- the calls with which its log begins are those with which it begins as it goes on
pub from_later : (calls : List Call) (old new : Device) → IsLaterDevice old new → GoesOnFrom calls old.past → GoesOnFrom calls new.past
from_later calls old new goes h = record {
  later = goes.made.later ++ h.later;
  is = goes.made.is ∙ (ap (λ made. goes.made.later ++ made) h.is ∙ sym (append_assoc goes.made.later h.later calls));
}

-- it has a switch or none, as before
pub switched_later : (told : List Bool) (old new : Device) → IsLaterDevice old new → AllByRecursion (λ has. old.has_switch ≡ has) told
    → AllByRecursion (λ has. new.has_switch ≡ has) told
switched_later told old new goes h = subst (λ s. AllByRecursion (λ has. s ≡ has) told) (sym goes.switch) h

-- what was told of a device is told of it as it goes on, but that it made no more calls
pub reached_later : (harms : List Harm) (old new : List Device) → AreLater old new → AreReached harms old → AreReached (map loosened harms) new
reached_later [] [] [] later h = tt
reached_later [] [] (d ∷ new) later h = absurd later
reached_later [] (d ∷ old) new later h = absurd h
reached_later (harm ∷ harms) [] new later h = absurd h
reached_later (harm ∷ harms) (d ∷ old) [] later h = absurd later
reached_later (harm ∷ harms) (d ∷ old) (e ∷ new) later h = (
  record {
    made = from_later harm.calls d e later.0 h.0.made;
    all = λ no. cc;
    counted = omega (arith, h.0.counted, later.0.faults);
    unharmed = λ told. h.0.unharmed (later.0.tells told);
    switched = switched_later harm.switches d e later.0 h.0.switched;
  },
  reached_later harms old new later.1 h.1,
)

-- devices that stay go on
pub later_all : (devices : List Device) → AreLater devices devices
later_all [] = tt
later_all (d ∷ devices) = (later_device (omega arith) (stays_put d), later_all devices)

-- and so do they behind others
later_more : (old new rest : List Device) → AreLater old new → AreLater (old ++ rest) (new ++ rest)
later_more [] [] rest later = later_all rest
later_more [] (e ∷ new) rest later = absurd later
later_more (d ∷ old) [] rest later = absurd later
later_more (d ∷ old) (e ∷ new) rest later = (later.0, later_more old new rest later.1)

-- a step that works on a session begins none
begun_none : (o : Outline) (s : Step) (said : StepAnswer) → NeedsSession s → begun_by o s said ≡ o
begun_none o (step.Format name segments buckets content agg reach fragment generation alternates) said needs = absurd needs
begun_none o _ said needs = refl

-- what is told of the switch of a device
abbrev pub AreSwitched : Option Bool → List Device → Type 0
AreSwitched None devices = Unit {0}
AreSwitched (Some has) devices = AllByRecursion (λ (d : Device). d.has_switch ≡ has) devices

-- what a line tells beside a count: what is the step's alone, and of the switch of the session's device; and it ends no session
pub record TellsBeside (s : Step) (said : StepAnswer) (devices : List Device) : Type 0 where
  pub fixed : IsAnswerOf s said
  pub switch : AreSwitched (switch_told s said) devices
  pub stands : (b : Bool) → stands_behind s said b ≡ b

-- of a line on a session that is not for its switch that is nothing
pub nothing_beside : (s : Step) (said : StepAnswer) (devices : List Device) → NeedsSession s → is_of_switch s ≡ false → TellsBeside s said devices
nothing_beside (step.Format name segments buckets content agg reach fragment generation alternates) said devices needs other = absurd needs
nothing_beside (step.Now moment) said devices needs other = absurd needs
nothing_beside (step.Fail nth) said devices needs other = no_truth other
nothing_beside (step.StopAfter calls) said devices needs other = no_truth other
nothing_beside (step.Flip place byte) said devices needs other = no_truth other
nothing_beside (step.Cut choice) said devices needs other = no_truth other
nothing_beside _ said devices needs other = record { fixed = tt; switch = tt; stands = λ b. refl }

-- it is told of the session's device
told_switched : (told : Option Bool) (session : Option Harm) (stands : Bool) (ended : List Harm) (names : List (List ℕ)) (devices : List Device) → AreSwitched told devices
    → AreReached (told_of session) devices
    → AreReached (told_of (with_told_switch told (record { session = session; stands = stands; ended = ended; names = names })).session) devices
told_switched None session stands ended names devices is h = h
told_switched (Some has) None stands ended names devices is h = h
told_switched (Some has) (Some harm) stands ended names [] is h = absurd h
told_switched (Some has) (Some harm) stands ended names (d ∷ devices) is h = (
  record { made = h.0.made; all = h.0.all; counted = h.0.counted; unharmed = h.0.unharmed; switched = (is.0, h.0.switched) },
  h.1,
)

switch_stands : (told : Option Bool) (o : Outline) → (with_told_switch told o).stands ≡ o.stands
switch_stands None o = refl
switch_stands (Some has) o = refl

switch_ended : (told : Option Bool) (o : Outline) → (with_told_switch told o).ended ≡ o.ended
switch_ended None o = refl
switch_ended (Some has) o = refl

switch_names : (told : Option Bool) (o : Outline) → (with_told_switch told o).names ≡ o.names
switch_names None o = refl
switch_names (Some has) o = refl

-- what is told of a device, and doubted
abbrev doubt : Harm → Harm
doubt harm = record harm { damaged = true }

some_still : (state : Option State) (calls others : List Call) → IsSome (option_map (λ s. loosened (harm_in calls s)) state)
    → IsSome (option_map doubt (option_map (λ s. loosened (harm_in others s)) state))
some_still None calls others h = h
some_still (Some s) calls others h = refl

-- what is told of a device by the count 0
joins_none : (session : Option Harm) (returns : List Device) → AreReached (told_of session) returns → AreReached (told_of (option_map (raised 0) session)) returns
joins_none None returns h = h
joins_none (Some harm) [] h = absurd h
joins_none (Some harm) (d ∷ returns) h = (record { made = h.0.made; all = λ no. cc; counted = omega (arith, h.0.counted); unharmed = h.0.unharmed; switched = h.0.switched }, h.1)

module _ {S W R : Type 0} {c : CallsGhosts S W R} where
  abbrev pub Returns : Option (Part S W R c) → List Device
  Returns part = return_of part

  -- the count that is told is one that the device reached
  joins : (session : Option Harm) (count : ℕ) (old new : Option (Part S W R c)) (said : StepAnswer) → count ≡ count_in said → AreLater (Returns old) (Returns new)
      → AnswerTellsCount new said
      → AreReached (told_of session) (Returns old) → AreReached (told_of (option_map (raised count) session)) (Returns new)
  joins session count old None said is later tells h = absurd tells
  joins None count None (Some b) said is later tells h = absurd later
  joins None count (Some a) (Some b) said is later tells h = absurd h
  joins (Some harm) count None (Some b) said is later tells h = absurd h
  joins (Some harm) count (Some a) (Some b) said is later tells h = (
    record {
      made = from_later harm.calls _ _ later.0 h.0.made;
      all = λ no. cc;
      counted = omega (arith, h.0.counted, later.0.faults, tells, is);
      unharmed = λ told. h.0.unharmed (later.0.tells told);
      switched = switched_later harm.switches _ _ later.0 h.0.switched;
    },
    tt,
  )

  has_session : (session : Option Harm) (old new : Option (Part S W R c)) (said : StepAnswer) → AreLater (Returns old) (Returns new) → AnswerTellsCount new said
      → AreReached (told_of session) (Returns old) → IsSome session
  has_session session old None said later tells h = absurd tells
  has_session None None (Some b) said later tells h = absurd later
  has_session None (Some a) (Some b) said later tells h = absurd h
  has_session (Some harm) old (Some b) said later tells h = refl

-- what is told of a session whose calls another run has goes on
module _ {S W R : Type 0} {c : CallsGhosts S W R} where
  -- where the calls of a device are those of another run, they are told of it, and where it did not tell its content that is doubted
  recalled : (state : Option State) (calls : List Call) (later : Run) (count : ℕ) (part : Option (Part S W R c)) → CallsAt later part
      → IsUntoldAt part → AreReached (told_of (option_map (raised count) (option_map (λ s. loosened (harm_in calls s)) state))) (Returns part)
      → AreReached (told_of (option_map (raised count) (option_map doubt (option_map (λ s. loosened (harm_in later.calls s)) state))))
      (Returns part)
  recalled None calls later count part are untold h = h
  recalled (Some s) calls later count None are untold h = absurd h
  recalled (Some s) calls later count (Some part) are untold h = (
    record {
      made = record { later = []; is = are };
      all = λ no. cc;
      counted = h.0.counted;
      unharmed = λ tells. absurd (untold tells);
      switched = tt;
    },
    tt,
  )

  later_part : (old new : Option (Part S W R c)) → AreLater (Returns old) (Returns new) → is_some new ≡ is_some old
  later_part None None later = refl
  later_part None (Some b) later = absurd later
  later_part (Some a) None later = absurd later
  later_part (Some a) (Some b) later = refl

  -- where there is none the others are the same
  none_more : (harms : List Harm) (old new : Option (Part S W R c)) (rest : List Device) → old ≡ None → AreLater (Returns old) (Returns new)
      → AreReached harms (Returns old ++ rest) → AreReached harms (Returns new ++ rest)
  none_more harms (Some part) new rest none later h = cc
  none_more harms None None rest none later h = h
  none_more harms None (Some part) rest none later h = absurd later

  told_part : (part : Option (Part S W R c)) (said : StepAnswer) → AnswerTellsCount part said → is_some part ≡ true
  told_part None said tells = absurd tells
  told_part (Some part) said tells = refl

module _ {D S W R : Type 0} {d : DiskGhosts D} {c : CallsGhosts S W R} where
  -- a line on a session, behind which so much is told of its device
  joined_outlines : (o : Outline) (s : Step) (new : Replay D S W R d c) (said : StepAnswer) (ledger : Ledger) → NeedsSession s → IsSome o.session
      → (is_of_device s ≡ false → o.stands ≡ true) → o.stands ≡ is_some new.session.part
      → TellsBeside s said (returns_in new) → AreReached (told_of (option_map (raised (count_in said)) o.session)) (returns_in new)
      → Outlines o s new said ledger ledger
  joined_outlines o s new said ledger needs some standing stands beside h =
      let same : begun_by o s said ≡ o = begun_none o s said needs in
      let told : Option Bool = switch_told s said in
      let counted : Outline = with_told_count o (count_in said) in
      let after : told_behind o s said ≡ with_told_switch told counted = ap (λ x. with_told_switch told (with_told_count x (count_in said))) same in
      record {
        answered = record { session = λ x. some; stands = λ x. standing; fixed = beside.fixed };
        outlined = record {
          reached = subst (λ (x : Outline). AreReached (told_of x.session) (returns_in new)) (sym after)
              (told_switched told counted.session counted.stands counted.ended counted.names (returns_in new) beside.switch h);
          stands = beside.stands (told_behind o s said).stands ∙ (ap (λ (x : Outline). x.stands) after ∙ (switch_stands told counted ∙ stands));
        };
        harms = [];
        ended = ap (λ (x : Outline). x.ended) after ∙ (switch_ended told counted ∙ sym (append-nil o.ended));
        names = [];
        named = ap (λ (x : Outline). x.names) after ∙ (switch_names told counted ∙ sym (append-nil o.names));
        deals = no_deals ledger;
      }

  -- ---- beside a session there is no bare device

  lone_returns : (part : Option (Part S W R c)) (bare : Option (Bare D d)) (said : StepAnswer) → AnswerTellsCount part said → IsAlone part bare
      → (return_of part ++ bare_return bare) ≡ return_of part
  lone_returns None bare said tells alone = absurd tells
  lone_returns (Some part) None said tells alone = refl
  lone_returns (Some part) (Some bare) said tells alone = absurd alone

  earlier_tells : (old new : Option (Part S W R c)) (said : StepAnswer) → AreLater (Returns old) (Returns new) → AnswerTellsCount new said
      → (bare : Option (Bare D d)) → IsAlone old bare → (return_of old ++ bare_return bare) ≡ return_of old
  earlier_tells old None said later tells bare alone = absurd tells
  earlier_tells None (Some b) said later tells bare alone = absurd later
  earlier_tells (Some a) (Some b) said later tells None alone = refl
  earlier_tells (Some a) (Some b) said later tells (Some bare) alone = absurd alone

  still_alone : (old new : Option (Part S W R c)) (bare : Option (Bare D d)) → AreLater (Returns old) (Returns new) → IsAlone old bare → IsAlone new bare
  still_alone old None bare later alone = tt
  still_alone old (Some b) None later alone = tt
  still_alone None (Some b) (Some bare) later alone = absurd later
  still_alone (Some a) (Some b) (Some bare) later alone = absurd alone

  -- a line on a session makes no bare device
  module _ (old new : Replay D S W R d c) (is : IsReplay old) (same : new.bare ≡ old.bare) (later : AreLater (Returns old.session.part) (Returns new.session.part)) where
    pub alone_then : IsAlone new.session.part new.bare
    alone_then = subst (IsAlone new.session.part) (sym same) (still_alone old.session.part new.session.part old.bare later is.alone)

    -- the device at hand goes on
    pub returns_later : AreLater (returns_in old) (returns_in new)
    returns_later = subst (λ b. AreLater (returns_in old) (Returns new.session.part ++ bare_return b)) (sym same)
        (later_more (Returns old.session.part) (Returns new.session.part) (bare_return old.bare) later)

    module _ (said : StepAnswer) (tells : AnswerTellsCount new.session.part said) where
      returns_before : returns_in old ≡ Returns old.session.part
      returns_before = earlier_tells old.session.part new.session.part said later tells old.bare is.alone

      returns_behind : returns_in new ≡ Returns new.session.part
      returns_behind = lone_returns new.session.part new.bare said tells alone_then

      part_stands : (o : Outline) → IsOutlined o old → o.stands ≡ is_some new.session.part
      part_stands o h = h.stands ∙ sym (later_part old.session.part new.session.part later)

      session_outlines : (o : Outline) (s : Step) (ledger : Ledger) → NeedsSession s → TellsBeside s said (Returns new.session.part) → IsOutlined o old
          → Outlines o s new said ledger ledger
      session_outlines o s ledger needs beside h =
          let reached : AreReached (told_of o.session) (Returns old.session.part) = subst (AreReached (told_of o.session)) returns_before h.reached in
          joined_outlines o s new said ledger needs (has_session o.session old.session.part new.session.part said later tells reached)
          (λ other. part_stands o h ∙ told_part new.session.part said tells) (part_stands o h)
          (subst (TellsBeside s said) (sym returns_behind) beside)
          (subst (AreReached (told_of (option_map (raised (count_in said)) o.session))) (sym returns_behind)
          (joins o.session (count_in said) old.session.part new.session.part said refl later tells reached))

      -- a line on a session that showed a pair: the calls of its turn are told of the device as well, and all that is told of it is
      -- doubted
      pub shown_outlines : (run : Run) (turn : Turn) (s : Step) (ledger : Ledger) → NeedsSession s → TellsBeside s said (Returns new.session.part)
          → CallsAt (with_calls_of run turn) new.session.part → IsUntoldAt new.session.part → IsOutlined (outline_in run) old
          → Outlines (doubted (outline_in (with_calls_of run turn))) s new said ledger ledger
      shown_outlines run turn s ledger needs beside calls untold h =
          let state : Option State = at_hand run.state run.last in
          let reached : AreReached (told_of (outline_in run).session) (Returns old.session.part) = subst (AreReached (told_of (outline_in run).session)) returns_before h.reached in
          joined_outlines (doubted (outline_in (with_calls_of run turn))) s new said ledger needs
          (some_still state run.calls (with_calls_of run turn).calls
          (has_session (outline_in run).session old.session.part new.session.part said later tells reached))
          (λ other. part_stands (outline_in run) h ∙ told_part new.session.part said tells) (part_stands (outline_in run) h)
          (subst (TellsBeside s said) (sym returns_behind) beside)
          (subst (AreReached (told_of (option_map (raised (count_in said)) (doubted (outline_in (with_calls_of run turn))).session))) (sym returns_behind)
          (recalled state run.calls (with_calls_of run turn) (count_in said) new.session.part calls untold
          (joins (outline_in run).session (count_in said) old.session.part new.session.part said refl later tells reached)))

    pub all_outlines : (result : Result StepAnswer Stop) (s : Step) (ledger : Ledger) → NeedsSession s
        → IfOk result (AnswerTellsCount new.session.part) → IfOk result (λ said. TellsBeside s said (Returns new.session.part))
        → IfOk result (λ said. (o : Outline) → IsOutlined o old → Outlines o s new said ledger ledger)
    all_outlines (Ok said) s ledger needs tells beside = λ o h. session_outlines said tells o s ledger needs beside h
    all_outlines (Err why) s ledger needs tells beside = tt

    -- without a session all stays
    none_left : (harms : List Harm) → old.session.part ≡ None → AreReached harms (returns_in old) → AreReached harms (returns_in new)
    none_left harms none h = subst (λ b. AreReached harms (Returns new.session.part ++ bare_return b)) (sym same)
        (none_more harms old.session.part new.session.part (bare_return old.bare) none later h)

    pub all_left : (result : Result StepAnswer Stop) (s : Step) (ledger : Ledger) → NeedsSession s → IfErr result (IsSessionStop old.session)
        → IfErr result (λ why. (harms : List Harm) → AreReached harms (returns_in old) → IsLeftAtEnd harms s new ledger ledger why)
    all_left (Ok said) s ledger needs stop = tt
    all_left (Err Memory) s ledger needs stop = λ harms h. tried needs refl (reached_later harms (returns_in old) (returns_in new) returns_later h) refl
    all_left (Err NoCache) s ledger needs stop = λ harms h. stays (none_left harms stop h) refl
    all_left (Err BayFault) s ledger needs stop = absurd stop

  -- ---- formats, and the moment

  -- a format that ended the run before it did anything, whatever it answered
  pub all_stays_left : {T : Type 0} (result : Result T Stop) (name : List ℕ) (replay : Replay D S W R d c) (before now : Ledger) → now ≡ before
      → IfErr result (λ why. (harms : List Harm) (s : Step) → AttachesAs name s → AreReached harms (returns_in replay) → IsLeftAtEnd harms s replay before now why)
  all_stays_left (Ok x) name replay before now same = tt
  all_stays_left (Err why) name replay before now same = λ harms s attaches h. stays h same

  -- a line that begins no session and tells no count
  still_outlines : (o : Outline) (s : Step) (new : Replay D S W R d c) (said : StepAnswer) (ledger : Ledger) → (NeedsSession s → ⊥) → begun_by o s said ≡ o → count_in said ≡ 0
      → IsAnswerOf s said → switch_told s said ≡ None → ((b : Bool) → stands_behind s said b ≡ b) → IsOutlined o new → Outlines o s new said ledger ledger
  still_outlines o s new said ledger free same none fixed silent still h =
      let after : told_behind o s said ≡ with_told_count o 0 =
      ap (λ x. with_told_switch x (with_told_count (begun_by o s said) (count_in said))) silent
      ∙ (ap (λ x. with_told_count x (count_in said)) same ∙ ap (with_told_count o) none) in
      record {
        answered = record { session = λ needs. absurd (free needs); stands = λ needs. absurd (free needs); fixed = fixed };
        outlined = record {
          reached = subst (λ (x : Outline). AreReached (told_of x.session) (returns_in new)) (sym after) (joins_none o.session (returns_in new) h.reached);
          stands = still (told_behind o s said).stands ∙ (ap (λ (x : Outline). x.stands) after ∙ h.stands);
        };
        harms = [];
        ended = ap (λ (x : Outline). x.ended) after ∙ sym (append-nil o.ended);
        names = [];
        named = ap (λ (x : Outline). x.names) after ∙ sym (append-nil o.names);
        deals = no_deals ledger;
      }

  -- the moment is set
  pub moment_outlines : (o : Outline) (at : ℕ) (old new : Replay D S W R d c) (said : StepAnswer) (ledger : Ledger) → said ≡ answer.Now at → new.session.part ≡ old.session.part
      → new.bare ≡ old.bare → IsOutlined o old → Outlines o (step.Now at) new said ledger ledger
  moment_outlines o at old new said ledger is same bare h =
      still_outlines o (step.Now at) new said ledger (λ needs. needs) refl (ap count_in is) is refl (λ b. refl) (record {
        reached = subst (λ part. AreReached (told_of o.session) (Returns part ++ bare_return new.bare)) (sym same)
            (subst (λ b. AreReached (told_of o.session) (Returns old.session.part ++ bare_return b)) (sym bare) h.reached);
        stands = h.stands ∙ ap is_some (sym same);
      })

  -- numbers that are refused change nothing
  pub refused_outlines : (o : Outline) (name : List ℕ) (segments buckets content agg reach fragment generation alternates number : ℕ) (bad : BadGeometry)
      (replay : Replay D S W R d c) (ledger : Ledger)
      → first_refusal segments buckets content agg reach fragment alternates ≡ Some bad → number ≡ number_of_bad bad → IsOutlined o replay
      → Outlines o (step.Format name segments buckets content agg reach fragment generation alternates) replay (answer.Refused (refused.Geometry number) None) ledger ledger
  refused_outlines o name segments buckets content agg reach fragment generation alternates number bad replay ledger is numbered h =
      still_outlines o (step.Format name segments buckets content agg reach fragment generation alternates) replay (answer.Refused (refused.Geometry number) None) ledger
      (λ needs. needs) (ap (begun o name (answer.Refused (refused.Geometry number) None)) is) refl
      (subst (IsFormatAnswer content agg (answer.Refused (refused.Geometry number) None)) (sym is) (ap (λ n. answer.Refused (refused.Geometry n) None) numbered)) refl (λ b. refl) h

  -- a session begins
  pub format_outlines : (o : Outline) (name : List ℕ) (segments buckets content agg reach fragment generation alternates cursor floor : ℕ) (new : Replay D S W R d c)
      (before now : Ledger)
      → first_refusal segments buckets content agg reach fragment alternates ≡ None → cursor ≡ content → floor ≡ agg → AreReached (loosened no_harm ∷ []) (returns_in new)
      → is_some new.session.part ≡ true → Deals before now (told_of o.session) (name ∷ [])
      → Outlines o (step.Format name segments buckets content agg reach fragment generation alternates) new (answer.Formatted 1 cursor floor) before now
  format_outlines o name segments buckets content agg reach fragment generation alternates cursor floor new before now is at low h part deals =
      let said : StepAnswer = answer.Formatted 1 cursor floor in
      let after : told_behind o (step.Format name segments buckets content agg reach fragment generation alternates) said ≡ with_told_count (attached o name said) 0 =
      ap (λ x. with_told_count (begun o name said x) 0) is in
      record {
        answered = record {
          session = λ needs. absurd needs;
          stands = λ needs. absurd needs;
          fixed = subst (IsFormatAnswer content agg said) (sym is)
              (inl (ap (λ n. answer.Formatted 1 n floor) at ∙ ap (answer.Formatted 1 content) low));
        };
        outlined = record {
          reached = subst (λ (x : Outline). AreReached (told_of x.session) (returns_in new)) (sym after)
              (joins_none (Some (loosened no_harm)) (returns_in new) h);
          stands = ap (λ (x : Outline). x.stands) after ∙ sym part;
        };
        harms = told_of o.session;
        ended = ap (λ (x : Outline). x.ended) after;
        names = name ∷ [];
        named = ap (λ (x : Outline). x.names) after;
        deals = deals;
      }

  -- a device refused a call of its format
  pub failed_outlines : (o : Outline) (name : List ℕ) (segments buckets content agg reach fragment generation alternates count : ℕ) (new : Replay D S W R d c)
      (before now : Ledger)
      → first_refusal segments buckets content agg reach fragment alternates ≡ None → 0 < count → returns_in new ≡ [] → is_some new.session.part ≡ false
      → Deals before now (told_of o.session ++ raised count no_harm ∷ []) (name ∷ [])
      → Outlines o (step.Format name segments buckets content agg reach fragment generation alternates) new (answer.DeviceFault count None) before now
  failed_outlines o name segments buckets content agg reach fragment generation alternates count new before now is some none part deals =
      let said : StepAnswer = answer.DeviceFault count None in
      let after : told_behind o (step.Format name segments buckets content agg reach fragment generation alternates) said ≡ with_told_count (attached o name said) count =
      ap (λ x. with_told_count (begun o name said x) count) is in
      record {
        answered = record {
          session = λ needs. absurd needs;
          stands = λ needs. absurd needs;
          fixed = subst (IsFormatAnswer content agg said) (sym is) (inr (count, some, refl));
        };
        outlined = record {
          reached = subst (λ (x : Outline). AreReached (told_of x.session) (returns_in new)) (sym after) (subst (AreReached []) (sym none) tt);
          stands = ap (λ (x : Outline). x.stands) after ∙ sym part;
        };
        harms = told_of o.session ++ raised count no_harm ∷ [];
        ended = ap (λ (x : Outline). x.ended) after ∙ append_assoc o.ended (told_of o.session) (raised count no_harm ∷ []);
        names = name ∷ [];
        named = ap (λ (x : Outline). x.names) after;
        deals = deals;
      }
