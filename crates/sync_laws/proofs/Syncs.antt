-- What is known behind a whole sync, by what its device noted.
use Rattle.std.proofs.Common.{◌≡◌, ℕ, Bool, true, false, if◌then◌else◌, List, ◌++◌, All, sym, subst, ◌∙◌}
use Rattle.tape_base.specs.declared.pieces.PieceId.{PieceId}
use Rattle.device_log.specs.Image.{Image}
use Rattle.device_log.specs.Calls.{Call}
use Rattle.device_log.specs.Seen.{seen_of}
use Rattle.device_log.specs.Faults.{IsEntry}
use Rattle.device_log.specs.Along.{Along, Stopped}
use Rattle.logged_disk.specs.Device.{DeviceState as Device, IsAfter}
use Rattle.stripe_header.specs.declared.area.Side.{Side}
use Rattle.stripe_header.specs.declared.states.CopyState.{CopyState}
use Rattle.dir_table.specs.declared.rows.StoredRow.{StoredRow}
use Rattle.dir_sync.specs.SyncCalls.{opening_calls, past_behind, shutting_calls}
use Rattle.dir_sync.proofs.Touched.{stopped_some, went_behind}
use Rattle.stripe_copies.specs.declared.copies.SyncStop.{SyncStop}
use Rattle.stripe_copies.specs.Copies.{IsBrokenOff, Opening, Shutting, StopsAt, Writing, sync_calls, target_of, writing_calls}
use Rattle.stripe_copies.proofs.Calls.{behind_both}
use Rattle.cache_model.specs.Contents.{Content}
use Rattle.cache_model.specs.State.{Mark}
use Rattle.reopening.specs.Guards.{OpensToOne}
use Rattle.reopening.specs.Lasting.{TakesUpOne}
use Rattle.sync_laws.specs.KnownCopies.{AreCalls, CopiesHold, CopiesHoldOn, IsDue, PassesTo, OpensToKnown, KnownCopies, SyncsBreakOff, SyncsTurn, known_broken_off, known_turned}
use Rattle.sync_laws.proofs.Phases.{GuardsPass}
use Rattle.sync_laws.proofs.Whole.{behind_opening, opening, shutting, stops, turns, writing}

-- what is known by the log of a device holds on it
known_on : (v : KnownCopies) (old new : Device) → IsAfter old new → CopiesHold v old.settled old.first new.past → CopiesHoldOn v new
known_on v old new on known =
    subst (λ (b : Bool). CopiesHold v b new.first new.past) (sym on.settled)
    (subst (λ (i : Image). CopiesHold v old.settled i new.past) (sym on.first) known)

-- from the serial of the newest copy on
from_finished : (w : KnownCopies) (settled : Bool) (first : Image) (old new : List Call)
    → w.newest.copy.told.serial ≡ w.copies.finished
    → Along (OpensToOne w.copies.area (TakesUpOne w.marks) w.newest.copy.told.serial) settled first old new
    → Along (OpensToKnown w) settled first old new
from_finished w settled first old new is along =
    subst (λ (n : ℕ). Along (OpensToOne w.copies.area (TakesUpOne w.marks) n) settled first old new) is along

pub syncs_turn : SyncsTurn
syncs_turn w s stored m content old new on known due went =
    let body = went.body in
    let target = target_of w.copies in
    let shut = w.copies.shut in
    let calls = sync_calls w.copies.area target shut body in
    let behind = behind_opening w s stored m content old.settled old.first old.past on.image known due body went.of in
    let is : new.past ≡ behind =
    went_behind calls old.past new.past went.made.went
    ∙ behind_both (shutting_calls target shut) (writing_calls w.copies.area target body ++ opening_calls target) old.past in
    let all : All IsEntry behind = subst (All IsEntry) is on.log.entries in
    let behind_all = turns w s stored m content old.settled old.first old.past on.image known due body went.of all in
    let v = known_turned w s m body (seen_of old.first old.past) in
    record {
      moments = from_finished w old.settled old.first old.past new.past known.serial
          (subst (Along (OpensToOne w.copies.area (TakesUpOne w.marks) w.newest.copy.told.serial) old.settled old.first old.past) (sym is) behind_all.1);
      known = known_on v old new on.after (subst (CopiesHold v old.settled old.first) (sym is) behind_all.0);
    }

module _ (w : KnownCopies) (s : CopyState) (stored : List StoredRow) (m : Mark) (content : PieceId → Content) (stop : SyncStop) (shut : Bool)
    (old new : Device) (on : AreCalls old new) (known : CopiesHoldOn w old) (due : IsDue w s stored m content (seen_of old.first old.past))
    (broken : IsBrokenOff w.copies s stored stop shut old new) where
  abbrev target : Side
  target = target_of w.copies

  abbrev body : List ℕ
  body = broken.body

  abbrev clear_behind : Bool → ℕ
  clear_behind durable = if durable then m.end else w.clear

  abbrev Pass : Bool → ℕ → Type 0
  Pass known_shut clear = GuardsPass w.copies.area w.marks w.newest old.settled old.first known_shut clear old.past new.past

  moved : (known_shut durable : Bool) → shut ≡ known_shut → stop.durable ≡ durable → Pass known_shut (clear_behind durable) → Pass shut (clear_behind stop.durable)
  moved known_shut durable same is p = subst (λ (b : Bool). Pass b (clear_behind stop.durable)) (sym same) (subst (λ (d : Bool). Pass known_shut (clear_behind d)) (sym is) p)

  pass : StopsAt w.copies.area target w.copies.shut body stop shut old.past new.past → Pass shut (clear_behind stop.durable)
  pass (Shutting stopped durable same) =
      let made = stopped_some (shutting_calls target w.copies.shut) stop.count old.past new.past stopped in
      let part = shutting w s stored m content old.settled old.first old.past on.image known due body broken.of new.past on.log.entries made in
      moved w.copies.shut false same durable part.0
  pass (Writing stopped durable same) =
      let before = past_behind (shutting_calls target w.copies.shut) old.past in
      let made = stopped_some (writing_calls w.copies.area target body) stop.count before new.past stopped in
      moved true true same durable
      (writing w s stored m content old.settled old.first old.past on.image known due body broken.of new.past on.log.entries made)
  pass (Opening stopped durable same) =
      let one = shutting_calls target w.copies.shut in
      let two = writing_calls w.copies.area target body in
      let before = past_behind two (past_behind one old.past) in
      let made = stopped_some (opening_calls target) stop.count before new.past
      (subst (λ (p : List Call). Stopped (opening_calls target) stop.count p new.past) (behind_both one two old.past) stopped) in
      let part = opening w s stored m content old.settled old.first old.past on.image known due body broken.of new.past on.log.entries made in
      moved false true same durable part.0

  pub breaks_off : PassesTo w (known_broken_off w s m stop shut) old new
  breaks_off =
      let p = pass broken.stopped in
      record {
        moments = from_finished w old.settled old.first old.past new.past known.serial p.moments;
        known = known_on (known_broken_off w s m stop shut) old new on.after
            (stops w s stored m content old.settled old.first old.past on.image known due body broken.of stop shut new.past p);
      }

pub syncs_break_off : SyncsBreakOff
syncs_break_off = breaks_off
