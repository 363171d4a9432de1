-- What a format makes of a session and its bay.
use Rattle.std.proofs.Common.{◌≡◌, ℕ, ◌+◌, ◌-◌, ◌*◌, ◌≤◌, List, [], ◌∷◌, ◌++◌, length, length-append, refl, sym, ◌∙◌, ap, subst, arith, inl, Result, Ok, Err}
use Rattle.std.specs.Prelude.{IfErr, Some, None, is_some}
use Rattle.std.specs.Result.{IsErr, IsErrAnd}
use Rattle.std.proofs.lemmas.List.{append-nil, append_assoc}
use Rattle.tape_base.specs.declared.geometries.Geometry.{Geometry}
use Rattle.tape_base.specs.declared.geometries.BadGeometry.{BadGeometry}
use Rattle.tape_base.specs.Geometry.{HasNumbers, budget_of}
use Rattle.tape_base.specs.Limits.{first_refusal}
use Rattle.tape_base.specs.Place.{device_blocks, device_blocks_of, floor_of}
use Rattle.device_log.specs.Calls.{Call}
use Rattle.device_log.specs.Along.{Stopped, Went}
use Rattle.cache_model.specs.declared.record.Rec.TheVariants as rec
use Rattle.cache_model.specs.Permit.{Faulted}
use Rattle.sha2.specs.Sha256.{digest_bytes, sha256}
use Rattle.stripe_header.specs.Spelling.{covered_bytes, foot_bytes, head_bytes, numbers_of}
use Rattle.stripe_header.proofs.CopyLaws.{length-head}
use Rattle.stripe_copies.specs.Format.{IsFirstBody, IsRefusedFormat, first_state, format_calls}
use Rattle.stripe_copies.specs.declared.format.FormatFault.TheVariants as fault
use Rattle.std.specs.declared.alloc.AllocError.{AllocError}
use Rattle.logged_disk.specs.Device.{DeviceState as Device, IsAfter}
use Rattle.logged_disk.specs.declared.device.Disk.{Ghosts as DiskGhosts}
use Rattle.logged_disk.proofs.GoingOn.{stays_put}
use Rattle.cache_replay.proofs.OnPart.{later_device}
use Rattle.device_bay.specs.Calls.{BayCall, Gave, TookBack, names_of, out_of, refusals_of, returned_by}
use Rattle.device_bay.specs.Bay.{IsNewDevice}
use Rattle.cache_model.specs.Legal.{format_records}
use Rattle.cache_model.proofs.Found.{no_truth}
use Rattle.cache_calls.specs.declared.calls.Calls.{Ghosts as CallsGhosts}
use Rattle.cache_calls.specs.Begins.{Begins}
use Rattle.cache_calls.specs.Keeping.{IsAtRest}
use Rattle.script_grammar.specs.declared.step.Step.TheVariants as step
use Rattle.script_grammar.specs.declared.answer.Refused.TheVariants as refused
use Rattle.script_grammar.specs.declared.answer.StepAnswer.{StepAnswer}
use Rattle.script_grammar.specs.declared.answer.StepAnswer.TheVariants as answer
use Rattle.script_run.specs.Run.{Harm, Run, no_harm}
use Rattle.script_run.specs.Turn.{Turn, no_turn}
use Rattle.script_run.specs.Answers.{format_said, number_of_bad}
use Rattle.script_run.specs.Behind.{after_format, harm_of_format, own_harm, with_format}
use Rattle.script_run.specs.Ledger.{AreReached, Deals, IsReached, KeepsOrder, Ledger, ledger_behind}
use Rattle.script_run.specs.Takes.{FormatTakes, HasBlocksOfCopy, LaysOut}
use Rattle.cache_replay.specs.declared.session.Part.{Part}
use Rattle.cache_replay.specs.declared.session.Replay.{Replay}
use Rattle.cache_replay.specs.declared.stop.Stop.{Stop}
use Rattle.cache_replay.specs.declared.stop.Stop.TheVariants.{BayFault, Memory, NoCache}
use Rattle.cache_replay.specs.declared.beginning.Tried.{Tried}
use Rattle.cache_replay.specs.declared.beginning.Tried.TheVariants as tried
use Rattle.cache_replay.specs.Session.{AreLater, IsLaterDevice, at_in, slots_in}
use Rattle.cache_replay.specs.Replay.{DeviceMoves, IsReplay, PlaysOn, actors_in, devices_in, returns_in, ended as both_came}
use Rattle.cache_replay.specs.Deals.{AnswersStep, FormatsAs, GivesBack, GivesNone, HasFailed}
use Rattle.run_promise.specs.Outline.{raised, told_of}
use Rattle.cache_replay.specs.Stop.{IsFormatStop, RefusesAtStop, StopsStep}
use Rattle.cache_replay.proofs.Beginnings.{none_begins, none_plays, none_returns, session_begins, session_plays, session_reached, session_returns}
use Rattle.cache_replay.proofs.Order.{order_gave, order_same, order_stays, order_then, order_took}
use Rattle.cache_replay.proofs.Outlines.{all_stays_left, failed_outlines, format_outlines, no_deals, refused_outlines, same_ledger}
use Rattle.cache_replay.proofs.Unharming.{plays_reached}

-- ---- what was told of devices

-- one device more
pub reach_more : (harms : List Harm) (devices : List Device) (harm : Harm) (d : Device) → IsReached harm d → AreReached harms devices
    → AreReached (harms ++ harm ∷ []) (devices ++ d ∷ [])
reach_more [] [] harm d reached h = (reached, tt)
reach_more [] (x ∷ devices) harm d reached h = absurd h
reach_more (other ∷ harms) [] harm d reached h = absurd h
reach_more (other ∷ harms) (x ∷ devices) harm d reached h = (h.0, reach_more harms devices harm d reached h.1)

-- nothing is told of a device that made no call
none_reached : (d : Device) → d.past ≡ [] → IsReached no_harm d
none_reached d none = record { made = record { later = []; is = none }; all = λ yes. none; counted = omega arith; unharmed = λ trusted. refl; switched = tt }

-- so much is told of the last one
last_reached : (harms : List Harm) (harm other : Harm) (devices : List Device) → ((d : Device) → IsReached harm d → IsReached other d) → AreReached (harms ++ harm ∷ []) devices
    → AreReached (harms ++ other ∷ []) devices
last_reached [] harm other [] weaker h = absurd h
last_reached [] harm other (d ∷ devices) weaker h = (weaker d h.0, h.1)
last_reached (x ∷ harms) harm other [] weaker h = absurd h
last_reached (x ∷ harms) harm other (d ∷ devices) weaker h = (h.0, last_reached harms harm other devices weaker h.1)

-- by its count alone, whatever its calls were
failed_loosely : (before after : Ledger) (harms : List Harm) (calls : List Call) (count : ℕ) (names : List (List ℕ)) → Deals before after (harms ++ harm_of_format calls count ∷ []) names
    → Deals before after (harms ++ raised count no_harm ∷ []) names
failed_loosely before after harms calls count names deals = record {
  back = record {
    devices = deals.back.devices;
    returned = deals.back.returned;
    reached = last_reached harms (harm_of_format calls count) (raised count no_harm) deals.back.devices
        (λ d h. record { made = record { later = d.past; is = sym (append-nil d.past) }; all = λ no. cc; counted = omega (arith, h.counted); unharmed = λ tells. refl; switched = tt })
        deals.back.reached;
  };
  attached = deals.attached;
}

-- a device that was attached goes on as another one
later_behind : (own : List Device) (old new : Device) → IsLaterDevice old new → AreLater (own ++ old ∷ []) (own ++ new ∷ [])
later_behind [] old new later = (later, tt)
later_behind (d ∷ own) old new later = (later_device (omega arith) (stays_put d), later_behind own old new later)

-- the device that was attached goes on, and that of the session before comes back
tried_order : (own : List Device) (device back : Device) (name : List ℕ) (blocks : ℕ) (before given after : List BayCall) → IsLaterDevice device back → given ≡ Gave name blocks ∷ before
    → IsNewDevice blocks before device → KeepsOrder (own ++ back ∷ []) given (back ∷ []) after → KeepsOrder own before (back ∷ []) after
tried_order own device back name blocks before given after later gave attached gives =
    order_then own (own ++ back ∷ []) (back ∷ []) before given after
    (order_then own (own ++ device ∷ []) (own ++ back ∷ []) before given given (order_gave device own name blocks before given gave attached)
    (order_stays (own ++ device ∷ []) (own ++ back ∷ []) given (later_behind own device back later))) gives

-- the floor behind a format stands a buffer above the tape's first place
pub first_floor_is : (segments buckets content agg reach fragment generation alternates : ℕ) (g : Geometry) (floor : ℕ)
    → HasNumbers g segments buckets content agg reach fragment generation alternates
    → floor ≡ floor_of g g.content → floor ≡ agg
first_floor_is segments buckets content agg reach fragment generation alternates g floor numbers is = is ∙ (plus_minus g.content g.agg ∙ numbers.has_agg)
  where
    plus_minus : (a b : ℕ) → a + b - a ≡ b
    plus_minus a b = omega arith

-- a format that was done, with these calls of its device
abbrev format_turn : Geometry → List Call → Turn
format_turn g calls = record { added = format_records g; refused = None; device = record no_turn.device { events = calls }; given = []; told = [] }

-- one whose device refused one of these calls
abbrev failed_turn : List Call → ℕ → Turn
failed_turn calls count = record { added = rec.Fault count ∷ []; refused = Some (Faulted count); device = record no_turn.device { events = calls }; given = []; told = [] }

-- ---- the calls of a format

foot_length : (serial : ℕ) (bytes : List ℕ) → length (foot_bytes serial (sha256 bytes)) ≡ 512
unfolding foot_bytes sha256 digest_bytes
foot_length serial bytes = refl

-- the first copy has the blocks of a copy
first_length : (g : Geometry) (body : List ℕ) → IsFirstBody g body → HasBlocksOfCopy g body
first_length g body first =
    let front : List ℕ = covered_bytes 2 (numbers_of g) (first_state g) first.image in
    let head : List ℕ = head_bytes 2 (numbers_of g) (first_state g) in
    let foot : List ℕ = foot_bytes 1 (sha256 front) in
    omega (
      arith,
      ap length first.is,
      first.empty.whole,
      length-append front foot,
      length-append head first.image,
      length-head 2 (numbers_of g) (first_state g),
      foot_length 1 front,
    )

-- the device of the session before came back behind an attach
pub format_deals : (harms : List Harm) (own : List Device) (name : List ℕ) (blocks : ℕ) (before given after : List BayCall) → AreReached harms own
    → given ≡ Gave name blocks ∷ before → GivesBack own given after → Deals (ledger_behind before) (ledger_behind after) harms (name ∷ [])
format_deals harms own name blocks before given after reached gave gives = record {
  back = record { devices = own; returned = gives.back ∙ ap (λ past. returned_by past ++ own) gave; reached = reached };
  attached = gives.names ∙ ap names_of gave;
}

-- and behind it the device that was attached in vain
pub format_left : (harms : List Harm) (own : List Device) (name : List ℕ) (blocks : ℕ) (harm : Harm) (device : Device) (before given ended after : List BayCall) → IsReached harm device
    → AreReached harms own → given ≡ Gave name blocks ∷ before → GivesBack own given ended → after ≡ TookBack device ∷ ended
    → Deals (ledger_behind before) (ledger_behind after) (harms ++ harm ∷ []) (name ∷ [])
format_left harms own name blocks harm device before given ended after last reached gave gives took = record {
  back = record {
    devices = own ++ device ∷ [];
    returned = ap returned_by took ∙ (ap (λ r. r ++ device ∷ []) (gives.back ∙ ap (λ past. returned_by past ++ own) gave) ∙ append_assoc (returned_by before) own (device ∷ []));
    reached = reach_more harms own harm device last reached;
  };
  attached = ap names_of took ∙ (gives.names ∙ ap names_of gave);
}

format_out : (b v e own : ℕ) {a n : ℕ} → v ≡ b + 1 → e + own ≡ v → a ≡ e - 1 → n ≡ 0 → own ≤ b → a + own ≡ b + n
format_out b v e own gave gives took none held = omega (arith, gave, gives, took, none, held)

module _ {D S W R : Type 0} {d : DiskGhosts D} {c : CallsGhosts S W R} where
  -- ---- formats

  -- numbers that are refused change nothing
  pub format_refused : (run : Run) (name : List ℕ) (segments buckets content agg reach fragment generation alternates number : ℕ) (bad : BadGeometry)
      (session : Replay D S W R d c) (ledger : Ledger)
      → first_refusal segments buckets content agg reach fragment alternates ≡ Some bad → number ≡ number_of_bad bad → PlaysOn run session
      → DeviceMoves run (step.Format name segments buckets content agg reach fragment generation alternates) session (answer.Refused (refused.Geometry number) None) ledger ledger
  format_refused run name segments buckets content agg reach fragment generation alternates number bad session ledger is numbered plays = record {
    moves = record {
      turn = no_turn;
      takes = subst (λ o. FormatTakes no_turn segments buckets content agg reach fragment generation alternates o) (sym is) (refl, refl);
      plays = subst (λ o. PlaysOn (after_format run no_turn name o) session) (sym is) plays;
      says = ap (format_said no_turn) is ∙ ap (λ n. answer.Refused (refused.Geometry n) None) (sym numbered);
    };
    harms = [];
    ended = ap (λ o. (after_format run no_turn name o).ended) is ∙ sym (append-nil run.ended);
    names = [];
    named = ap (λ o. (after_format run no_turn name o).names) is ∙ sym (append-nil run.names);
    deals = no_deals ledger;
  }

  -- a session begins with the geometry of its line
  pub format_done : (run : Run) (name : List ℕ) (segments buckets content agg reach fragment generation alternates : ℕ) (g : Geometry) (calls : List Call) (floor : ℕ) (new : Replay D S W R d c)
      (before now : Ledger)
      → first_refusal segments buckets content agg reach fragment alternates ≡ None → floor ≡ floor_of g g.content
      → LaysOut g calls → HasNumbers g segments buckets content agg reach fragment generation alternates
      → PlaysOn (with_format run name calls (format_records g)) new → Deals before now (own_harm run) (name ∷ [])
      → DeviceMoves run (step.Format name segments buckets content agg reach fragment generation alternates) new (answer.Formatted 1 g.content floor) before now
  format_done run name segments buckets content agg reach fragment generation alternates g calls floor new before now is floored laid numbers plays deals = record {
    moves = record {
      turn = format_turn g calls;
      takes = subst (λ o. FormatTakes (format_turn g calls) segments buckets content agg reach fragment generation alternates o) (sym is) (g, numbers, (refl, laid), refl);
      plays = subst (λ o. PlaysOn (after_format run (format_turn g calls) name o) new) (sym is) plays;
      says = ap (format_said (format_turn g calls)) is ∙ ap (λ n. answer.Formatted 1 g.content n) (sym floored);
    };
    harms = own_harm run;
    ended = ap (λ o. (after_format run (format_turn g calls) name o).ended) is;
    names = name ∷ [];
    named = ap (λ o. (after_format run (format_turn g calls) name o).names) is;
    deals = deals;
  }

  -- none does, for the device refused a call
  pub format_faulted : (run : Run) (name : List ℕ) (segments buckets content agg reach fragment generation alternates : ℕ) (g : Geometry) (count : ℕ) (new : Replay D S W R d c)
      (before after : List BayCall) (old : Replay D S W R d c)
      → first_refusal segments buckets content agg reach fragment alternates ≡ None
      → HasNumbers g segments buckets content agg reach fragment generation alternates
      → (failed : HasFailed name g count old new before after) → PlaysOn run old → AreReached (own_harm run) (returns_in old)
      → DeviceMoves run (step.Format name segments buckets content agg reach fragment generation alternates) new (answer.DeviceFault count None) (ledger_behind before) (ledger_behind after)
  format_faulted run name segments buckets content agg reach fragment generation alternates g count new before after old is numbers failed plays reached =
      let turn : Turn = failed_turn failed.calls count in
      let more : List Harm = own_harm run ++ harm_of_format failed.calls count ∷ [] in
      record {
        moves = record {
          turn = turn;
          takes = subst (λ o. FormatTakes turn segments buckets content agg reach fragment generation alternates o) (sym is) (g, numbers, (refl, failed.some, failed.stopped), refl);
          plays = subst (λ o. PlaysOn (after_format run turn name o) new) (sym is) (failed.plays run plays);
          says = ap (format_said turn) is;
        };
        harms = more;
        ended = ap (λ o. (after_format run turn name o).ended) is ∙ append_assoc run.ended (own_harm run) (harm_of_format failed.calls count ∷ []);
        names = name ∷ [];
        named = ap (λ o. (after_format run turn name o).names) is;
        deals = failed.deals (own_harm run) reached;
      }

  -- a format that ended the run before it had a device, which left all as it was
  pub format_stopped : (name : List ℕ) (geometry : Geometry) (session : Replay D S W R d c) (before after : List BayCall) (result : Result Tried Stop) → IsErr result
      → IsReplay session
      → IfErr result (IsFormatStop name (device_blocks_of geometry) before after) → RefusesAtStop before after result → GivesNone before after
      → FormatsAs name geometry session session before after result
  format_stopped name geometry session before after (Ok x) ended h stop refusals gives = no_truth (sym ended)
  format_stopped name geometry session before after (Err why) ended h stop refusals gives = record {
    replay = h;
    tried = tt;
    left = all_stays_left {T = Tried} (Err why) name session (ledger_behind before) (ledger_behind after)
        (same_ledger (names_of before) (names_of after) (returned_by before) (returned_by after) gives.names gives.back);
    stop = stop;
    out = ap (λ n. n + devices_in session) gives.out;
    names = refl;
    order = gives.order (returns_in session);
    refusals = refusals;
  }

  -- one that began a session, behind that of the session before
  pub format_begun : (name : List ℕ) (geometry : Geometry) (old new : Replay D S W R d c) (part : Part S W R c) (device : Device) (before given after : List BayCall)
      → Begins c.at c.holds c.stands geometry device part.cache
      → IsAtRest (at_in part) → length part.page.items ≡ 512 * budget_of geometry → new.session.part ≡ Some part → new.bare ≡ None → ((n : ℕ) → slots_in new.session n ≡ None) → actors_in new ≡ actors_in old
      → new.session.now ≡ old.session.now
      → IsNewDevice (device_blocks_of geometry) before device → given ≡ Gave name (device_blocks_of geometry) ∷ before → GivesBack (returns_in old) given after
      → FormatsAs name geometry old new before after (Ok tried.Begun)
  format_begun name geometry old new part device before given after begins rest page is lone none names now attached gave gives = record {
    replay = session_begins geometry device part begins new is lone none rest page;
    tried = record {
      calls = (at_in part).device.past;
      laid = (
        begins.laid.body,
        first_length geometry begins.laid.body begins.laid.first,
        subst (λ (past : List Call). Went (format_calls geometry begins.laid.body) past (at_in part).device.past) attached.past_is begins.laid.made.went,
      );
      plays = λ run plays. session_plays geometry device part begins new is lone none old run name names now plays;
      begun = session_reached geometry device part begins new is lone none;
      stands = ap is_some is;
      deals = λ harms reached. format_deals harms (returns_in old) name (device_blocks_of geometry) before given after reached gave gives;
    };
    left = tt;
    stop = tt;
    out = gives.out ∙ (ap out_of gave ∙ ap (λ o. out_of before + length o) (sym (session_returns geometry device part begins new is lone none)));
    names = names;
    order = subst (λ o. KeepsOrder (returns_in old) before o after) (sym (session_returns geometry device part begins new is lone none))
        (tried_order (returns_in old) device (at_in part).device name (device_blocks_of geometry) before given after
        (later_device (omega (arith, attached.faults)) begins.laid.goes) gave attached (gives.order ((at_in part).device ∷ [])));
    refusals = gives.refusals ∙ ap refusals_of gave;
  }

  -- a device that was attached, and went on as another one, came back
  module _ (name : List ℕ) (geometry : Geometry) (old new : Replay D S W R d c) (device back : Device) (before given ended after : List BayCall) (none : new.session.part ≡ None) (lone : new.bare ≡ None)
      (slots : (n : ℕ) → slots_in new.session n ≡ None) (names : actors_in new ≡ actors_in old) (attached : IsNewDevice (device_blocks_of geometry) before device)
      (gave : given ≡ Gave name (device_blocks_of geometry) ∷ before) (gives : GivesBack (returns_in old) given ended) (took : after ≡ TookBack back ∷ ended)
      (held : devices_in old ≤ out_of before) where
    came_out : out_of after + devices_in old ≡ out_of before + devices_in new
    came_out = format_out (out_of before) (out_of given) (out_of ended) (devices_in old) (ap out_of gave) gives.out (ap out_of took) (ap length (none_returns new none lone slots)) held

    came_order : IsAfter device back → KeepsOrder (returns_in old) before (returns_in new) after
    came_order goes = subst (λ o. KeepsOrder (returns_in old) before o after) (sym (none_returns new none lone slots))
        (order_then (returns_in old) (back ∷ []) [] before ended after
        (tried_order (returns_in old) device back name (device_blocks_of geometry) before given ended (later_device (omega (arith, attached.faults)) goes) gave attached (gives.order (back ∷ [])))
        (order_took back [] ended after took))

    -- one that wanted memory, and made no call
    pub format_wanted : (e : AllocError) → IsRefusedFormat geometry device back (fault.Memory e) → FormatsAs name geometry old new before after (Err Memory)
    format_wanted e refused = record {
      replay = none_begins new none lone slots;
      tried = tt;
      left = λ harms step attaches reached. both_came name attaches (none_returns new none lone slots)
          (format_left harms (returns_in old) name (device_blocks_of geometry) no_harm back before given ended after (none_reached back (refused.unlaid ∙ attached.past_is)) reached gave gives took) refl;
      stop = tt;
      out = came_out;
      names = names;
      order = came_order refused.goes;
      refusals = λ other. ap refusals_of took ∙ (gives.refusals ∙ ap refusals_of gave);
    }

    -- one that refused a call
    pub format_failed : (count : ℕ) → new.session.now ≡ old.session.now → IsRefusedFormat geometry device back (fault.Device count) → FormatsAs name geometry old new before after (Ok (tried.Refused count))
    format_failed count now refused =
        let calls : List Call = format_calls geometry refused.unlaid.body in
        let counted : Stopped calls count device.past back.past =
        subst (λ (n : ℕ). Stopped calls n device.past back.past) (sym refused.unlaid.counted) refused.unlaid.stopped in
        record {
          replay = none_begins new none lone slots;
          tried = record {
            calls = back.past;
            stopped = (
              refused.unlaid.body,
              first_length geometry refused.unlaid.body refused.unlaid.first,
              subst (λ (past : List Call). Stopped calls count past back.past) attached.past_is counted,
            );
            some = refused.unlaid.some;
            none = none_returns new none lone slots;
            stands = ap is_some none;
            plays = λ run plays. none_plays new none lone slots old run name back.past count names now plays;
            deals = λ harms reached.
                format_left harms (returns_in old) name (device_blocks_of geometry) (harm_of_format back.past count) back before given ended after
                (record { made = record { later = []; is = refl }; all = λ yes. refl; counted = omega (arith, refused.unlaid.counted); unharmed = λ tells. refl; switched = tt }) reached gave gives took;
          };
          left = tt;
          stop = tt;
          out = came_out;
          names = names;
          order = came_order refused.goes;
          refusals = ap refusals_of took ∙ (gives.refusals ∙ ap refusals_of gave);
        }

-- ---- as a line

same_names : (a b : List (List ℕ)) → a ≡ b → length a ≤ length b + 1
same_names a b is = omega (arith, ap length is)

module _ {D S W R : Type 0} {d : DiskGhosts D} {c : CallsGhosts S W R} (name : List ℕ) (segments buckets content agg reach fragment generation alternates : ℕ) where
  -- numbers that were refused
  pub line_refused : (number : ℕ) (bad : BadGeometry) (session : Replay D S W R d c) (past : List BayCall) → IsReplay session
      → first_refusal segments buckets content agg reach fragment alternates ≡ Some bad → number ≡ number_of_bad bad
      → AnswersStep (step.Format name segments buckets content agg reach fragment generation alternates) session session past past
      (Ok (answer.Refused (refused.Geometry number) None))
  line_refused number bad session past h is numbered = record {
    replay = h;
    ends = λ run plays. inl (format_refused run name segments buckets content agg reach fragment generation alternates number bad session (ledger_behind past) is numbered plays);
    outline = λ o told. refused_outlines o name segments buckets content agg reach fragment generation alternates number bad session (ledger_behind past) is numbered told;
    left = tt;
    stop = tt;
    out = refl;
    names = same_names (actors_in session) (actors_in session) refl;
    order = order_same (returns_in session) past;
    refusals = refl;
  }

  module _ (geometry : Geometry) (old new : Replay D S W R d c) (before after : List BayCall)
      (accepted : first_refusal segments buckets content agg reach fragment alternates ≡ None)
      (numbers : HasNumbers geometry segments buckets content agg reach fragment generation alternates) where
    -- a session that began
    pub line_begun : (floor : ℕ) → IsReplay old → floor ≡ floor_of geometry geometry.content → FormatsAs name geometry old new before after (Ok tried.Begun)
        → AnswersStep (step.Format name segments buckets content agg reach fragment generation alternates) old new before after (Ok (answer.Formatted 1 geometry.content floor))
    line_begun floor h floored formats = record {
      replay = formats.replay;
      ends = λ run plays. inl (format_done run name segments buckets content agg reach fragment generation alternates geometry formats.tried.calls floor new (ledger_behind before)
          (ledger_behind after) accepted floored formats.tried.laid numbers
          (formats.tried.plays run plays) (formats.tried.deals (own_harm run) (plays_reached run old h plays)));
      outline = λ o told. format_outlines o name segments buckets content agg reach fragment generation alternates geometry.content floor new (ledger_behind before)
          (ledger_behind after) accepted
          numbers.has_content (first_floor_is segments buckets content agg reach fragment generation alternates geometry floor numbers floored) formats.tried.begun formats.tried.stands
          (formats.tried.deals (told_of o.session) told.reached);
      left = tt;
      stop = tt;
      out = formats.out;
      names = same_names (actors_in new) (actors_in old) formats.names;
      order = formats.order;
      refusals = formats.refusals;
    }

    -- a device that refused a call
    pub line_failed : (count : ℕ) → IsReplay old → FormatsAs name geometry old new before after (Ok (tried.Refused count))
        → AnswersStep (step.Format name segments buckets content agg reach fragment generation alternates) old new before after (Ok (answer.DeviceFault count None))
    line_failed count h formats = record {
      replay = formats.replay;
      ends = λ run plays. inl (format_faulted run name segments buckets content agg reach fragment generation alternates geometry count new before after old accepted numbers formats.tried plays
          (plays_reached run old h plays));
      outline = λ o told. failed_outlines o name segments buckets content agg reach fragment generation alternates count new (ledger_behind before)
          (ledger_behind after) accepted formats.tried.some formats.tried.none formats.tried.stands
          (failed_loosely (ledger_behind before) (ledger_behind after) (told_of o.session) formats.tried.calls count (name ∷ []) (formats.tried.deals (told_of o.session) told.reached));
      left = tt;
      stop = tt;
      out = formats.out;
      names = same_names (actors_in new) (actors_in old) formats.names;
      order = formats.order;
      refusals = formats.refusals;
    }

    -- the device has the blocks of the line's numbers
    same_blocks : device_blocks_of geometry ≡ device_blocks segments buckets content
    same_blocks =
        ap (λ n. device_blocks n geometry.buckets geometry.content) numbers.has_segments
        ∙ (ap (λ n. device_blocks segments n geometry.content) numbers.has_buckets ∙ ap (device_blocks segments buckets) numbers.has_content)

    stops_step : (why : Stop) → IsFormatStop name (device_blocks_of geometry) before after why
        → StopsStep old (step.Format name segments buckets content agg reach fragment generation alternates) before after why
    stops_step NoCache stop = absurd stop
    stops_step BayFault stop = record {
      refusal = record { name = name; blocks = device_blocks_of geometry; count = stop.0 };
      attaches = (refl, same_blocks, accepted);
      refuses = stop.1;
    }
    stops_step Memory stop = tt

    line_stopped_by : (why : Stop) → FormatsAs name geometry old new before after (Err why)
        → AnswersStep (step.Format name segments buckets content agg reach fragment generation alternates) old new before after (Err why)
    line_stopped_by why formats = record {
      replay = formats.replay;
      ends = tt;
      outline = tt;
      left = λ harms told. formats.left harms (step.Format name segments buckets content agg reach fragment generation alternates) (refl, accepted) told;
      stop = stops_step why formats.stop;
      out = formats.out;
      names = same_names (actors_in new) (actors_in old) formats.names;
      order = formats.order;
      refusals = formats.refusals;
    }

    -- or the run ended
    pub line_stopped : (why : Stop) (result : Result StepAnswer Stop) → IsErrAnd result (λ e. e ≡ why) → FormatsAs name geometry old new before after (Err why)
        → AnswersStep (step.Format name segments buckets content agg reach fragment generation alternates) old new before after result
    line_stopped why (Ok said) is formats = absurd is
    line_stopped why (Err e) is formats = subst (λ w. AnswersStep (step.Format name segments buckets content agg reach fragment generation alternates) old new before after
        (Err w)) (sym is) (line_stopped_by why formats)
