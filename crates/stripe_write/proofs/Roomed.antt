-- A put that is finished behind the flush that its vector may need.
use Rattle.std.proofs.Common.{◌≡◌, ℕ, ◌+◌, ◌≤◌, List, [], ◌∷◌, ◌++◌, refl, sym, ◌∙◌, ap, subst, arith, Bool, true, false, length, Result, Ok, Err}
use Rattle.std.specs.Prelude.{Some, is_some, ◌-◌, ◌/◌, IfErr, MatchBool}
use Rattle.std.proofs.lemmas.Bool.{le-leb}
use Rattle.tape_base.specs.declared.geometries.Geometry.{Geometry}
use Rattle.tape_base.specs.Blocks.{blocks_of}
use Rattle.tape_base.specs.Geometry.{budget_of}
use Rattle.device_log.specs.Calls.{Call}
use Rattle.logged_disk.specs.Device.{DeviceState as Device, IsAfter}
use Rattle.cache_model.specs.declared.cause.Cause.{Cause}
use Rattle.cache_model.specs.declared.record.Rec.{Rec}
use Rattle.cache_model.specs.declared.record.Rec.TheVariants as rec
use Rattle.cache_model.specs.State.{PutRow, State, after_all, fragment_piece, live_row_of}
use Rattle.cache_model.specs.Kept.{Kept, state_of, with_records}
use Rattle.cache_model.specs.Verdict.{live_vector_of}
use Rattle.cache_model.specs.Tape.{IsSound}
use Rattle.cache_model.specs.Permit.{Commit, End, Exhausted, Fails, Faulted, Finish, Lost, Permit, Reason, Stays}
use Rattle.cache_model.specs.Legal.{Does, DoesFinish, IsCut, MakesRoom, vector_length}
use Rattle.cache_model.specs.Room.{has_room}
use Rattle.cache_model.proofs.SoundFlush.{flush_is_sound}
use Rattle.cache_model.proofs.Steps.{grows_on}
use Rattle.cache_answers.specs.declared.answers.Refusal.{Refusal}
use Rattle.cache_answers.specs.declared.answers.Refusal.TheVariants as refusal
use Rattle.piece_answers.specs.declared.answer.Stop.{Stop}
use Rattle.piece_answers.specs.declared.answer.Stop.TheVariants as stop
use Rattle.cache_model.specs.Live.{LiveBefore}
use Rattle.piece_answers.specs.Flush.{StopsWith}
use Rattle.cache_model.specs.Limits.{ReachesLimit}
use Rattle.piece_answers.specs.Place.{RoomsAsAsked}
use Rattle.stripe_core.specs.Stripe.{AnswersOrWants}
use Rattle.piece_answers.proofs.Covering.{covers_first, covers_last, never_syncs, own_covers, own_permit}
use Rattle.cache_answers.specs.declared.answers.Receipt.{Receipt}
use Rattle.stripe_write.specs.declared.weighing.Vectors.{Vectors}
use Rattle.stripe_write.specs.declared.writer.Writer.{Writer}
use Rattle.stripe_write.specs.Closing.{AreSpelled, IsReadFor, SpendsAll}
use Rattle.stripe_write.specs.Finishing.{Finishes, FinishesAsRead, FinishesWhere, IsFirstLost, VectorStops, bytes_now, finish_end, finish_intents}
use Rattle.stripe_write.proofs.Completing.{IsClosing, cuts_at_hand, is_current, is_cut, live_to, small_picked}
use Rattle.stripe_write.proofs.Gathering.{room_leaves}
use Rattle.stripe_write.proofs.Keeping.{KeepsVectors, keeps_flush, read_stays}
use Rattle.stripe_write.proofs.Reaching.{flush_reaches}
use Rattle.stripe_write.proofs.Ended.{own_number}
use Rattle.stripe_write.proofs.Spending.{nothing_more, one_group, state_behind, then_more}

-- ---- a lost fragment

first_lost_ends : (p : Permit) (s : State) (w : Writer) (v : Vectors) (c : IsClosing s w) (index : ℕ) → s.displaced ≡ [] → AreSpelled s.geometry w v → IsReadFor s w v → has_room s (bytes_now s w v) ≡ true
    → IsFirstLost s w (Some index) → Does p s (Finish w.put (length w.table.rows)) (rec.Aborted w.put w.key ∷ []) (Fails (Lost w.put index))
first_lost_ends p s w v c index none spelled read room first =
    let number : c.row.put ≡ w.put = own_number w.put s.puts c.row c.writing.found in
    let now = is_current s w v c none spelled read in
    DoesFinish.loses c.row index refl (record {
      cut = is_cut s w c spelled.fits;
      room = subst (λ n. has_room s n ≡ true) now.size room;
      some = first.0;
      within = first.1;
      before = live_to s w c (index - 1) first.2;
      lost = ap (λ k. live_row_of s (fragment_piece k w.put index)) c.key_is ∙ first.3;
    }) (ap (λ n. rec.Aborted n w.key ∷ []) (sym number) ∙ ap (λ k. rec.Aborted c.row.put k ∷ []) (sym c.key_is))

pub loses : {packed : Bool} (now : ℕ) (old new : Kept) (before after : List Call) (w : Writer) (v : Vectors) (c : IsClosing (state_of old) w) (index : ℕ) (why : Cause) (x : Refusal) → AreSpelled (state_of old).geometry w v
    → has_room (state_of old) (bytes_now (state_of old) w v) ≡ true → IsFirstLost (state_of old) w (Some index) → x ≡ refusal.Lost index why → new ≡ with_records old (rec.Aborted w.put w.key ∷ [])
    → FinishesAsRead packed now before after old new w v (Err x)
loses now old new before after w v c index why x spelled room first is adds = record {
  does = λ p packs at covers none read.
      let s : State = state_of old in
      let d = first_lost_ends p s w v c index none spelled read room first in
      let f : Finishes p old new w (Err (refusal.Lost index why)) = record {
        added = rec.Aborted w.put w.key ∷ [];
        adds = adds;
        does = λ rest reason. one_group p s (Finish w.put (length w.table.rows)) (rec.Aborted w.put w.key ∷ []) (Fails (Lost w.put index)) d (Commit w.put ∷ rest) reason;
        number = tt;
      } in
      subst (λ (r : Refusal). Finishes p old new w (Err r)) (sym is) f;
}

-- ---- the flush before it

-- what made room leaves what is asked, or nothing was recorded
room_grows : (p : Permit) (s : State) (w : Writer) (row : PutRow) (size : ℕ) (added : List Rec) (b : Bool) → size ≡ vector_length s w.put → IsCut s w.put (length w.table.rows) row
    → MatchBool b (added ≡ []) (MakesRoom p s size added Stays) → (rest : List Rec) (e : End) → SpendsAll p (after_all s added) (finish_intents w) rest e → SpendsAll p s (finish_intents w) (added ++ rest) e
room_grows p s w row size added true is cut none rest e h =
    subst (λ recs. SpendsAll p (after_all s recs) (finish_intents w) rest e → SpendsAll p s (finish_intents w) (recs ++ rest) e) (sym none) (λ x. x) h
room_grows p s w row size added false is cut makes rest e h = λ others why.
    let d : Does p s (Finish w.put (length w.table.rows)) added Stays = DoesFinish.rooms row cut (subst (λ n. MakesRoom p s n added Stays) is makes) in
    grows_on (one_group p s (Finish w.put (length w.table.rows)) added Stays d (Commit w.put ∷ others) why) (h others why)

-- it leaves the vectors that are live as they are
pub room_keeps : (now : ℕ) (old new : Kept) (before : List Call) (after : Device) (bytes : ℕ) (r : Result (Unit {0}) Stop)
    → RoomsAsAsked now old new before after bytes r → KeepsVectors (state_of old) (state_of new)
room_keeps now old new before after bytes r room =
    let s : State = state_of old in
    let there : state_of new ≡ after_all s room.added = state_behind old new room.added room.adds in
    subst (KeepsVectors s) (sym there) (keeps_flush s room.added room.kinds (subst (LiveBefore s) there room.live))

module _ (packed : Bool) (now : ℕ) (old mid new : Kept) (first between last : Device) (w : Writer) (v : Vectors) (c : IsClosing (state_of old) w) (spelled : AreSpelled (state_of old).geometry w v) where
  abbrev s : State
  s = state_of old

  pub behind_room : (u : Unit {0}) (result : Result Receipt Refusal) → IsAfter first between → IsAfter between last → RoomsAsAsked now old mid first.past between (bytes_now s w v) (Ok u)
      → FinishesAsRead packed now between.past last.past mid new w v result → FinishesAsRead packed now first.past last.past old new w v result
  behind_room u result f l room ends = record {
    does = λ p packs at covers none read.
        let there : state_of mid ≡ after_all s room.added = state_behind old mid room.added room.adds in
        let keeps : KeepsVectors s (state_of mid) = room_keeps now old mid first.past between (bytes_now s w v) (Ok u) room in
        let here = is_current s w v c none spelled read in
        let makes = room.does p at (covers_first p first.past between.past last.past l.made l.past covers) in
        let rest = ends.does p packs at (covers_last p first.past between.past last.past f.made f.past covers) (keeps.displaced none) (read_stays s (state_of mid) w v keeps read) in
        record {
          added = room.added ++ rest.added;
          adds = then_more old mid new room.added rest.added room.adds rest.adds;
          does = room_grows p s w c.row (bytes_now s w v) room.added (has_room s (bytes_now s w v)) here.size (is_cut s w c spelled.fits) makes rest.added (finish_end w result)
              (subst (λ t. SpendsAll p t (finish_intents w) rest.added (finish_end w result)) there rest.does);
          number = rest.number;
        };
  }

-- a flush that stops at the limit adds nothing
exhausted_empty : {p : Permit} {s : State} {bytes : ℕ} {added : List Rec} {e : End} → p.syncs ≡ false → MakesRoom p s bytes added e → e ≡ Fails Exhausted → added ≡ []
exhausted_empty off (MakesRoom.flushes full m) q = cc
exhausted_empty off (MakesRoom.stops count full m) q = cc
exhausted_empty off (MakesRoom.exhausted full above is) q = is
exhausted_empty off (MakesRoom.syncs f full sync behind) q = absurd (never_syncs off sync)

-- no room is made
module _ (packed : Bool) (now : ℕ) (old new : Kept) (before : List Call) (after : Device) (w : Writer) (v : Vectors) (c : IsClosing (state_of old) w) (spelled : AreSpelled (state_of old).geometry w v) where
  abbrev t : State
  t = state_of old

  stopped_by : (p : Permit) (added : List Rec) (reason : Reason) → t.displaced ≡ [] → IsReadFor t w v → MakesRoom p t (bytes_now t w v) added (Fails reason) → SpendsAll p t (finish_intents w) added (Fails reason)
  stopped_by p added reason none read makes = λ rest why.
      let here = is_current t w v c none spelled read in
      let d : Does p t (Finish w.put (length w.table.rows)) added (Fails reason) = DoesFinish.rooms c.row (is_cut t w c spelled.fits) (subst (λ n. MakesRoom p t n added (Fails reason)) here.size makes) in
      one_group p t (Finish w.put (length w.table.rows)) added (Fails reason) d (Commit w.put ∷ rest) why

  limit_at : (number : ℕ) → t.displaced ≡ [] → IsReadFor t w v → has_room t (bytes_now t w v) ≡ false → StopsWith t after.faults (stop.Exhausted number) → VectorStops t w (refusal.Exhausted number)
  limit_at number none read full stops =
      let here = is_current t w v c none spelled read in
      (cuts_at_hand t w c, subst (λ n. ReachesLimit t n number) here.size (flush_reaches t (bytes_now t w v) after.faults number full stops))

  pub no_room_ends : (why : Refusal) → AnswersOrWants {X = Unit {0}} (Err why) (RoomsAsAsked now old new before after (bytes_now t w v)) ⊥ → has_room t (bytes_now t w v) ≡ false
      → AnswersOrWants {X = Unit {0}} (Err why) (λ r. IfErr r (StopsWith t after.faults)) ⊥ → FinishesAsRead packed now before after.past old new w v (Err why)
  no_room_ends (refusal.DeviceFault count) room full stops = record {
    does = λ p packs at covers none read. record { added = room.added; adds = room.adds; does = stopped_by p room.added (Faulted count) none read (room.does p at covers); number = tt };
  }
  no_room_ends (refusal.Exhausted number) room full stops = record {
    does = λ p packs at covers none read.
        let makes = room.does p at covers in
        let same : new ≡ old = room.adds ∙ (ap (with_records old) (exhausted_empty covers.unsynced makes refl) ∙ nothing_more old) in
        record {
          added = room.added;
          adds = room.adds;
          does = stopped_by p room.added Exhausted none read makes;
          number = subst (λ k. VectorStops (state_of k) w (refusal.Exhausted number)) (sym same) (limit_at number none read full stops);
        };
  }
  no_room_ends _ room full stops = absurd room

-- which answers come then
pub no_room_where : (s t : State) (w : Writer) (faults : ℕ) (why : Refusal)
    → AnswersOrWants {X = Unit {0}} (Err why) (λ r. IfErr r (StopsWith s faults)) ⊥ → FinishesWhere t w (Err why)
no_room_where s t w faults (refusal.DeviceFault count) stops = tt
no_room_where s t w faults (refusal.Exhausted number) stops = stops.1
no_room_where s t w faults _ stops = absurd stops

-- ---- room for either vector

-- the copies of a flush take half a buffer at most
flush_filled : {p : Permit} {s : State} {bytes : ℕ} {added : List Rec} {e : End} → p.syncs ≡ false → IsSound s → MakesRoom p s bytes added e → e ≡ Stays → (after_all s added).filled ≤ budget_of s.geometry
flush_filled {p} {s} off sound (MakesRoom.flushes full m) q =
    subst (λ recs. (after_all s recs).filled ≤ budget_of s.geometry) (sym m.is) (flush_is_sound p s p.now m.outcomes sound m.are).2
flush_filled off sound (MakesRoom.stops count full m) q = cc
flush_filled off sound (MakesRoom.exhausted full above is) q = cc
flush_filled off sound (MakesRoom.syncs f full sync behind) q = absurd (never_syncs off sync)

half_fits : (filled blocks agg : ℕ) → filled ≤ agg / 2 → blocks ≤ agg / 2 → filled + blocks ≤ agg
half_fits filled blocks agg a b = omega (arith, a, b)

room_for_either : (p : Permit) (s t : State) (w : Writer) (v : Vectors) (added : List Rec) (b : Bool) → p.syncs ≡ false → IsSound s → t ≡ after_all s added → t.geometry ≡ s.geometry → AreSpelled s.geometry w v
    → MatchBool b (added ≡ []) (MakesRoom p s (bytes_now s w v) added Stays) → has_room t (bytes_now s w v) ≡ true → has_room t (bytes_now t w v) ≡ true
room_for_either p s t w v added true off sound is g spelled none room =
    let same : t ≡ s = is ∙ ap (after_all s) none in
    subst (λ x. has_room t (bytes_now x w v) ≡ true) (sym same) room
room_for_either p s t w v added false off sound is g spelled makes room =
    let filled : t.filled ≤ budget_of s.geometry = subst (λ (x : State). x.filled ≤ budget_of s.geometry) (sym is) (flush_filled off sound makes refl) in
    let small = small_picked s.geometry w v (is_some (live_vector_of t w.key)) spelled in
    le-leb (t.filled + blocks_of (bytes_now t w v)) t.geometry.agg
    (subst (λ (x : Geometry). t.filled + blocks_of (bytes_now t w v) ≤ x.agg) (sym g) (half_fits t.filled (blocks_of (bytes_now t w v)) s.geometry.agg filled small))

pub room_is_made : (now : ℕ) (old new : Kept) (before : List Call) (after : Device) (w : Writer) (v : Vectors) (u : Unit {0}) → IsSound (state_of old) → AreSpelled (state_of old).geometry w v
    → RoomsAsAsked now old new before after (bytes_now (state_of old) w v) (Ok u) → has_room (state_of new) (bytes_now (state_of old) w v) ≡ true → has_room (state_of new) (bytes_now (state_of new) w v) ≡ true
room_is_made now old new before after w v u sound spelled h room =
    let s : State = state_of old in
    let p : Permit = own_permit now before after.past in
    room_for_either p s (state_of new) w v h.added (has_room s (bytes_now s w v)) refl sound (state_behind old new h.added h.adds) (room_leaves now old new before after (bytes_now s w v) (Ok u) h).geometry spelled
    (h.does p refl (own_covers now before after.past)) room
