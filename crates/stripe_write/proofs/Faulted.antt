-- What the device refuses is recorded, also where nothing is known of what vectors list.
use Rattle.std.proofs.Common.{◌≡◌, ℕ, ◌+◌, Bool, false, List, [], ◌∷◌, ◌++◌, length, refl, sym, ◌∙◌, ap, subst, inl, inr, Result, Ok, Err}
use Rattle.std.specs.Prelude.{IfErr, Some, None}
use Rattle.tape_base.specs.declared.pieces.PieceId.{PieceId}
use Rattle.device_log.specs.Calls.{Call}
use Rattle.logged_disk.specs.Device.{DeviceState as Device}
use Rattle.cache_model.specs.declared.record.Rec.{Rec}
use Rattle.cache_model.specs.declared.record.Rec.TheVariants as rec
use Rattle.cache_model.specs.State.{State}
use Rattle.cache_model.specs.Kept.{Kept}
use Rattle.cache_model.specs.Due.{due_pieces}
use Rattle.cache_model.specs.Outcomes.{stopped_front_of}
use Rattle.cache_model.specs.Permit.{Done, End, Fails, Faulted, Fragment, Intent, IsAmong, Permit, Stays, Weigh, Work, work_after}
use Rattle.cache_model.specs.Legal.{Advances, Does, DoesFlush, DoesFragment, DoesWeigh, MakesRoom, MayGrow, MayStop, more, nothing}
use Rattle.cache_model.specs.Syncing.{Unmarks}
use Rattle.cache_model.proofs.Found.{no_truth, none_is}
use Rattle.piece_answers.specs.declared.answer.Placed.{Placed}
use Rattle.piece_answers.specs.Covers.{Covers, SpendsFirst, calls_since}
use Rattle.piece_answers.specs.Place.{PlacesVector, RoomsAsAsked}
use Rattle.piece_answers.proofs.Covering.{never_syncs, own_covers}
use Rattle.piece_answers.proofs.Groups.{never_unmarks}
use Rattle.cache_answers.specs.declared.answers.Refusal.{Refusal}
use Rattle.cache_answers.specs.declared.answers.Refusal.TheVariants as refusal
use Rattle.stripe_core.specs.Stripe.{AnswersOrWants}
use Rattle.stripe_write.specs.declared.writer.Writer.{Writer}
use Rattle.stripe_write.specs.Closing.{SpendsAll, WeighsAsAsked}
use Rattle.stripe_answers.specs.Faults.{RefusalHasRecord}
use Rattle.stripe_write.specs.Others.{AddsOfPut}
use Rattle.stripe_write.specs.Resting.{RestsAsAsked}
use Rattle.stripe_write.proofs.Spending.{then_more}
use Rattle.cache_calls.specs.Asked.{rest_asks}
use Rattle.stripe_write.specs.Writers.{written_as}

-- ---- the step of one call

-- the one that the call alone makes, at a moment, of a directory that displaces or that does not
abbrev pub alone : (packed : Bool) (now : ℕ) (before after : List Call) → Permit
alone packed now before after =
    record { packed = packed; syncs = false; now = now; past = []; events = calls_since before after }

pub covers_alone : (packed : Bool) (now : ℕ) (before after : List Call) → Covers (alone packed now before after) before after
covers_alone packed now before after = record { unsynced = refl; knows = (own_covers now before after).knows }

-- ---- among records

pub among_first : (r : Rec) (xs ys : List Rec) → IsAmong r xs → IsAmong r (xs ++ ys)
among_first r [] ys h = absurd h
among_first r (x ∷ xs) ys (inl is) = inl is
among_first r (x ∷ xs) ys (inr h) = inr (among_first r xs ys h)

pub among_last : (r : Rec) (xs ys : List Rec) → IsAmong r ys → IsAmong r (xs ++ ys)
among_last r [] ys h = h
among_last r (x ∷ xs) ys h = inr (among_last r xs ys h)

-- ---- what ends at a fault

same_count : (count other : ℕ) → Fails (Faulted count) ≡ Fails (Faulted other) → count ≡ other
same_count count other e = cc

-- a flush that stops
stop_recorded : {p : Permit} {s : State} {count : ℕ} {added : List Rec} → MayStop p s count added → IsAmong (rec.Fault count) added
stop_recorded {p} {s} {count} {added} m =
    subst (IsAmong (rec.Fault count)) (sym m.is)
    (among_last (rec.Fault count) (stopped_front_of (due_pieces s p.now) m.outcomes) (rec.Fault count ∷ []) (inl refl))

pub flush_recorded : {p : Permit} {s : State} {added : List Rec} {e : End} (count : ℕ) → p.syncs ≡ false → e ≡ Fails (Faulted count)
    → DoesFlush p s added e → IsAmong (rec.Fault count) added
flush_recorded count off is (DoesFlush.empty quiet filled none) = cc
flush_recorded count off is (DoesFlush.flushes m) = cc
flush_recorded {added = added} count off is (DoesFlush.stops other m) =
    subst (λ n. IsAmong (rec.Fault n) added) (same_count other count is) (stop_recorded m)
flush_recorded count off is (DoesFlush.exhausted quiet filled over none) = cc
flush_recorded count off is (DoesFlush.syncs sync) = absurd (never_syncs off sync)

pub room_recorded : {p : Permit} {s : State} {bytes : ℕ} {added : List Rec} {e : End} (count : ℕ) → p.syncs ≡ false
    → e ≡ Fails (Faulted count) → MakesRoom p s bytes added e → IsAmong (rec.Fault count) added
room_recorded count off is (MakesRoom.flushes full m) = cc
room_recorded {added = added} count off is (MakesRoom.stops other full m) =
    subst (λ n. IsAmong (rec.Fault n) added) (same_count other count is) (stop_recorded m)
room_recorded count off is (MakesRoom.exhausted full over none) = cc
room_recorded count off is (MakesRoom.syncs f full sync behind) = absurd (never_syncs off sync)

unmarks_none : {p : Permit} {s : State} {added : List Rec} {e : End} → p.syncs ≡ false → Unmarks p s added e → ⊥
unmarks_none {p} {s} off (Unmarks.unmarks must below is) = no_truth (sym must.must ∙ never_unmarks p s off)
unmarks_none {p} {s} off (Unmarks.stays count must below c) = no_truth (sym must.must ∙ never_unmarks p s off)
unmarks_none {p} {s} off (Unmarks.stops count must below marked c is) = no_truth (sym must.must ∙ never_unmarks p s off)
unmarks_none {p} {s} off (Unmarks.exhausted must over is) = no_truth (sym must.must ∙ never_unmarks p s off)

-- the next fragment
fragment_recorded : {p : Permit} {s : State} {put index : ℕ} {payload : List ℕ} {added : List Rec} {e : End} (count : ℕ) → p.syncs ≡ false
    → e ≡ Fails (Faulted count) → DoesFragment p s put index payload added e → IsAmong (rec.Fault count) added
fragment_recorded count off is (DoesFragment.unmarks w next place d) = absurd (unmarks_none off d)
fragment_recorded count off is (DoesFragment.places done m) = cc
fragment_recorded count off is (DoesFragment.rooms w next m) = room_recorded count off is m
fragment_recorded count off is (DoesFragment.exhausted w over next none) = cc

-- ---- what is asked ends at a fault

-- in one group of records
abbrev EndsRecorded : Permit → Intent → Type 0
EndsRecorded p i = (s : State) (added : List Rec) (count : ℕ) → Does p s i added (Fails (Faulted count)) → IsAmong (rec.Fault count) added

none_left : {p : Permit} {s : State} {w after : Work} {recs : List Rec} → w.intents ≡ [] → MayGrow p s w recs after → after.refused ≡ w.refused
none_left is nothing = refl
none_left {p} {s} {w} is (more added between one others) = absurd (subst (λ intents. Advances p s intents w.refused added between) is one)

-- what is asked alone, and was not refused yet
abbrev asked_alone : Intent → Work
asked_alone i = record { intents = i ∷ []; refused = None }

ended : (p : Permit) (i : Intent) (s : State) (count : ℕ) (added tail : List Rec) (between after : Work) → EndsRecorded p i
    → after.refused ≡ Some (Faulted count) → (between.intents ≡ [] → after.refused ≡ between.refused)
    → (between ≡ asked_alone i → IsAmong (rec.Fault count) tail) → (e : End) → Does p s i added e → between ≡ work_after i [] None e
    → IsAmong (rec.Fault count) (added ++ tail)
ended p i s count added tail between after told refused last on Stays d is = among_last (rec.Fault count) added tail (on is)
ended p i s count added tail between after told refused last on Done d is =
    let none : after.refused ≡ None = last (ap (λ (w : Work). w.intents) is) ∙ ap (λ (w : Work). w.refused) is in
    none_is (sym none ∙ refused)
ended p i s count added tail between after told refused last on (Fails reason) d is =
    let why : after.refused ≡ Some reason = last (ap (λ (w : Work). w.intents) is) ∙ ap (λ (w : Work). w.refused) is in
    let same : reason ≡ Faulted count = cc in
    among_first (rec.Fault count) added tail (told s added count (subst (λ r. Does p s i added (Fails r)) same d))

-- in one group or more
grown_recorded : (p : Permit) (i : Intent) {s : State} {w after : Work} {recs : List Rec} (count : ℕ) → EndsRecorded p i
    → after.refused ≡ Some (Faulted count) → w ≡ asked_alone i → MayGrow p s w recs after → IsAmong (rec.Fault count) recs
grown_recorded p i count told refused is nothing = none_is (sym (ap (λ (w : Work). w.refused) is) ∙ refused)
grown_recorded p i {s} {w} {after} count told refused is (more {rest = tail} added between one others) =
    let group = subst (λ (x : Work). Advances p s x.intents x.refused added between) is one in
    ended p i s count added tail between after told refused (λ none. none_left none others)
    (λ same. grown_recorded p i count told refused same others) group.0 group.1 group.2

-- a fragment that the device refuses
pub cut_recorded : {p : Permit} {s : State} {put index : ℕ} {payload : List ℕ} {added : List Rec} (count : ℕ) → p.syncs ≡ false
    → SpendsFirst p s (Fragment put index payload) added (Fails (Faulted count)) → IsAmong (rec.Fault count) added
cut_recorded {p} {s} {put} {index} {payload} {added} count off h =
    grown_recorded p (Fragment put index payload) count (λ t recs n d. fragment_recorded n off refl d) refl refl (h [] None)

-- ---- a close that the device refuses

-- the rest
rest_group : {p : Permit} {s : State} (w : Writer) (items : List ℕ) {added : List Rec} (count : ℕ) → p.syncs ≡ false
    → SpendsAll p s (rest_asks (written_as w) items) added (Fails (Faulted count)) → IsAmong (rec.Fault count) added
rest_group w [] count off h = none_is (sym (none_left refl (h [] None)))
rest_group {p} w (byte ∷ bytes) count off h =
    grown_recorded p (Fragment w.put (length w.table.rows + 1) (byte ∷ bytes)) count (λ t recs n d. fragment_recorded n off refl d) refl refl (h [] None)

pub rest_recorded : (packed : Bool) (now : ℕ) (old new : Kept) (before : List Call) (after : Device) (w : Writer) (why : Refusal)
    → AnswersOrWants {X = Unit {0}} (Err why) (RestsAsAsked packed now old new before after w) ⊥ → RefusalHasRecord old new why
rest_recorded packed now old new before after w (refusal.DeviceFault count) h = record {
  added = h.added;
  adds = h.adds;
  among = rest_group w w.gathered.items count refl
      (h.does (alone packed now before after.past) refl refl (covers_alone packed now before after.past));
}
rest_recorded packed now old new before after w _ h = tt

-- the room for the vector
pub room_refused : (now : ℕ) (old new : Kept) (before : List Call) (after : Device) (bytes : ℕ) (why : Refusal)
    → AnswersOrWants {X = Unit {0}} (Err why) (RoomsAsAsked now old new before after bytes) ⊥ → RefusalHasRecord old new why
room_refused now old new before after bytes (refusal.DeviceFault count) h = record {
  added = h.added;
  adds = h.adds;
  among = room_recorded count refl refl (h.does (alone false now before after.past) refl (covers_alone false now before after.past));
}
room_refused now old new before after bytes _ h = tt

-- the vector, for which the device is not asked
pub vector_recorded : (packed : Bool) (old new : Kept) (before after : List Call) (id : PieceId) (pin start : ℕ) (payload : List ℕ) (wanting : Type 0)
    (why : Refusal) → AnswersOrWants {X = Placed} (Err why) (PlacesVector packed old new before after id pin start payload) wanting
    → RefusalHasRecord old new why
vector_recorded packed old new before after id pin start payload wanting (refusal.DeviceFault count) h = absurd h.places.at
vector_recorded packed old new before after id pin start payload wanting _ h = tt

-- the weighing
weigh_group : {p : Permit} {s : State} {put rest : ℕ} {added : List Rec} {e : End} (count : ℕ) → e ≡ Fails (Faulted count)
    → DoesWeigh p s put rest added e → IsAmong (rec.Fault count) added
weigh_group count end (DoesWeigh.weighs w writing read fits none) = cc
weigh_group count end (DoesWeigh.too_large w writing read large is) = cc
weigh_group count end (DoesWeigh.damaged w row found writing live d is) = cc
weigh_group {added = added} count end (DoesWeigh.faulted w row other writing live written counts is) =
    subst (λ n. IsAmong (rec.Fault n) added) (same_count other count end) (subst (IsAmong (rec.Fault other)) (sym is) (inl refl))

pub weigh_recorded : {old new : Kept} {before after : Device} {w : Writer} (why : Refusal)
    → WeighsAsAsked before after old new w (Err why) → RefusalHasRecord old new why
weigh_recorded {old} {new} {before} {after} {w} (refusal.DeviceFault count) h =
    let p = alone false 0 before.past after.past in
    let weighs = h.does p (covers_alone false 0 before.past after.past) in
    record {
      added = weighs.added;
      adds = weighs.adds;
      among = grown_recorded p (Weigh w.put (length w.gathered.items)) count (λ t recs n d. weigh_group n refl d) refl refl (weighs.does [] None);
    }
weigh_recorded _ h = tt

-- behind more records
pub recorded_behind : {X : Type 0} {put : ℕ} (old mid new : Kept) (result : Result X Refusal) → AddsOfPut put old mid
    → IfErr result (RefusalHasRecord mid new) → IfErr result (RefusalHasRecord old new)
recorded_behind old mid new (Err (refusal.DeviceFault count)) first h = record {
  added = first.added ++ h.added;
  adds = then_more old mid new first.added h.added first.adds h.adds;
  among = among_last (rec.Fault count) first.added h.added h.among;
}
recorded_behind old mid new (Ok x) first h = tt
recorded_behind old mid new (Err _) first h = tt
