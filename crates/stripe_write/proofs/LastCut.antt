-- The rest of a sealed writer is cut.
use Rattle.std.proofs.Common.{◌≡◌, ℕ, ◌<◌, List, [], ◌∷◌, ◌++◌, length, refl, sym, ◌∙◌, ap, subst, arith, Bool, true, false, inl, inr, ◌⊎◌, ◌*◌, Ok, Err}
use Rattle.std.specs.Prelude.{option_map, unwrap_or, Result}
use Rattle.std.specs.List.{AllByRecursion}
use Rattle.std.proofs.lemmas.List.{append-nil}
use Rattle.device_log.specs.Calls.{Call}
use Rattle.logged_disk.specs.Device.{DeviceState as Device}
use Rattle.tape_base.specs.Digest.{digest_of}
use Rattle.fragment_table.specs.Table.{TableRow, made_row, total_length}
use Rattle.cache_model.specs.declared.record.Rec.{Rec}
use Rattle.cache_model.specs.State.{State, put_of}
use Rattle.cache_model.specs.Kept.{Kept, state_of}
use Rattle.cache_model.specs.Permit.{Done, Exhausted, Fails, Faulted, Permit, Reason}
use Rattle.cache_model.specs.Verdict.{is_open}
use Rattle.cache_model.specs.Legal.{MayGrow, is_writing}
use Rattle.piece_answers.specs.declared.answer.Placed.{Placed}
use Rattle.cache_answers.specs.declared.answers.Refusal.{Refusal}
use Rattle.cache_answers.specs.declared.answers.Refusal.TheVariants as refusal
use Rattle.piece_answers.specs.declared.answer.Stop.{Stop}
use Rattle.piece_answers.specs.declared.answer.Stop.TheVariants as stop
use Rattle.piece_answers.specs.Covers.{SpendsFirst}
use Rattle.piece_answers.specs.Flush.{AreOfFlush}
use Rattle.piece_answers.specs.Place.{CutsAsAsked, IsCutAs, IsStoppedAs}
use Rattle.stripe_core.specs.Stripe.{AnswersOrWants, HasMemory}
use Rattle.stripe_write.specs.declared.writer.Writer.{Writer}
use Rattle.stripe_write.specs.Closing.{SpendsAll}
use Rattle.stripe_write.specs.Resting.{IsRestAs, RestsAsAsked}
use Rattle.cache_model.specs.Subjects.{IsOfPut}
use Rattle.stripe_write.specs.Others.{AddsOfPut}
use Rattle.stripe_write.specs.Writes.{IsReady, next_start}
use Rattle.stripe_write.proofs.Flushed.{flush_is_own, flush_leaves}
use Rattle.stripe_write.proofs.Spending.{nothing_more, state_behind}
use Rattle.stripe_write.proofs.Cutting.{cut_is_own, cut_row, next_no_vector}
use Rattle.stripe_write.proofs.Ended.{open_put}
use Rattle.cache_calls.specs.Actors.{IsWriterOf, IsAllCut, IsAtHand}
use Rattle.cache_calls.specs.Asked.{cuts_next, rest_rows, rows_at_close, rest_asks}
use Rattle.cache_calls.specs.Writers.{piece_cut_next}
use Rattle.stripe_write.specs.Writers.{written_as}

-- nothing is asked where nothing is gathered
none_shape : (packed : Bool) (s : State) (faults : ℕ) (w : Writer) (payload : List ℕ) (u : Unit {0}) → length payload ≡ 0 → IsRestAs packed s faults w payload [] (Ok u)
none_shape packed s faults w [] u e = refl
none_shape packed s faults w (byte ∷ bytes) u e = absurd (omega (arith, e))

none_spends : (p : Permit) (s : State) (w : Writer) (payload : List ℕ) → length payload ≡ 0
    → SpendsAll p s (rest_asks (written_as w) payload) [] Done
none_spends p s w [] e = λ rest why. MayGrow.nothing
none_spends p s w (byte ∷ bytes) e = absurd (omega (arith, e))

pub rest_none : {packed : Bool} (now : ℕ) (kept : Kept) (before : List Call) (after : Device) (w : Writer) (u : Unit {0}) → length w.gathered.items ≡ 0 → RestsAsAsked packed now kept kept before after w (Ok u)
rest_none {packed} now kept before after w u e = record {
  added = [];
  adds = sym (nothing_more kept);
  shape = none_shape packed (state_of kept) after.faults w w.gathered.items u e;
  does = λ p packs at covers. none_spends p (state_of kept) w w.gathered.items e;
}

-- a rest that is cut
cut_shape : (packed : Bool) (s : State) (faults : ℕ) (w : Writer) (payload : List ℕ) (added : List Rec) (placed : Placed) (u : Unit {0}) → 0 < length payload → IsCutAs packed s (piece_cut_next (written_as w)) w.pin (next_start w) payload added placed
    → IsRestAs packed s faults w payload added (Ok u)
cut_shape packed s faults w [] added placed u some c = absurd (omega (arith, some))
cut_shape packed s faults w (byte ∷ bytes) added placed u some c = (placed, c)

cut_spends : (p : Permit) (s : State) (w : Writer) (payload : List ℕ) (added : List Rec) → 0 < length payload → SpendsFirst p s (cuts_next (written_as w) payload) added Done → SpendsAll p s (rest_asks (written_as w) payload) added Done
cut_spends p s w [] added some h = absurd (omega (arith, some))
cut_spends p s w (byte ∷ bytes) added some h = h

pub rest_cut : {packed : Bool} (now : ℕ) (old new : Kept) (before : List Call) (after : Device) (w : Writer) (placed : Placed) (u : Unit {0}) → 0 < length w.gathered.items
    → CutsAsAsked packed now old new before after (piece_cut_next (written_as w)) w.pin (next_start w) w.gathered.items (Ok placed) → RestsAsAsked packed now old new before after w (Ok u)
rest_cut {packed} now old new before after w placed u some h = record {
  added = h.added;
  adds = h.adds;
  shape = cut_shape packed (state_of old) after.faults w w.gathered.items h.added placed u some h.shape;
  does = λ p packs at covers. cut_spends p (state_of old) w w.gathered.items h.added some (h.does p packs at covers);
}

-- a rest that is not
stop_shape : (packed : Bool) (s : State) (faults : ℕ) (w : Writer) (payload : List ℕ) (added : List Rec) (why : Stop) → 0 < length payload → IsStoppedAs s faults payload added why → IsRestAs packed s faults w payload added (Err why)
stop_shape packed s faults w [] added why some h = absurd (omega (arith, some))
stop_shape packed s faults w (byte ∷ bytes) added why some h = h

stop_spends : (p : Permit) (s : State) (w : Writer) (payload : List ℕ) (added : List Rec) (reason : Reason) → 0 < length payload → SpendsFirst p s (cuts_next (written_as w) payload) added (Fails reason) → SpendsAll p s (rest_asks (written_as w) payload) added (Fails reason)
stop_spends p s w [] added reason some h = absurd (omega (arith, some))
stop_spends p s w (byte ∷ bytes) added reason some h = h

-- where the rest is refused, and memory is not wanting, what was asked of it fails
pub rest_refused : (packed : Bool) (now : ℕ) (old new : Kept) (before : List Call) (after : Device) (w : Writer) (why : Refusal) → 0 < length w.gathered.items → HasMemory {X = Placed} (Err why)
    → AnswersOrWants {X = Placed} (Err why) (CutsAsAsked packed now old new before after (piece_cut_next (written_as w)) w.pin (next_start w) w.gathered.items) (new ≡ old)
    → AnswersOrWants {X = Unit {0}} (Err why) (RestsAsAsked packed now old new before after w) ⊥
rest_refused packed now old new before after w (refusal.DeviceFault count) some memory h = record {
  added = h.added;
  adds = h.adds;
  shape = stop_shape packed (state_of old) after.faults w w.gathered.items h.added (stop.DeviceFault count) some h.shape;
  does = λ p packs at covers. stop_spends p (state_of old) w w.gathered.items h.added (Faulted count) some (h.does p packs at covers);
}
rest_refused packed now old new before after w (refusal.Exhausted number) some memory h = record {
  added = h.added;
  adds = h.adds;
  shape = stop_shape packed (state_of old) after.faults w w.gathered.items h.added (stop.Exhausted number) some h.shape;
  does = λ p packs at covers. stop_spends p (state_of old) w w.gathered.items h.added Exhausted some (h.does p packs at covers);
}
rest_refused packed now old new before after w (refusal.Memory e) some memory h = memory
rest_refused packed now old new before after w _ some memory h = h

-- ---- what its records leave

-- where it is not cut they are those of a flush
stopped_kinds : (packed : Bool) (s : State) (faults : ℕ) (w : Writer) (payload : List ℕ) (added : List Rec) (why : Stop) → IsRestAs packed s faults w payload added (Err why) → AreOfFlush added
stopped_kinds packed s faults w [] added why none = subst AreOfFlush (sym none) tt
stopped_kinds packed s faults w (byte ∷ bytes) added why h = h.kinds

pub rest_puts : {packed : Bool} (now : ℕ) (old new : Kept) (before : List Call) (after : Device) (w : Writer) (why : Stop) → RestsAsAsked packed now old new before after w (Err why) → (state_of new).puts ≡ (state_of old).puts
rest_puts {packed} now old new before after w why h =
    ap (λ (x : State). x.puts) (state_behind old new h.added h.adds) ∙ (flush_leaves (state_of old) h.added (stopped_kinds packed (state_of old) after.faults w w.gathered.items h.added why h.shape)).puts

-- they are its put's own
rest_is_own : (packed : Bool) (s : State) (faults : ℕ) (w : Writer) (payload : List ℕ) (added : List Rec) (u : Unit {0}) → IsRestAs packed s faults w payload added (Ok u) → AllByRecursion (IsOfPut w.put) added
rest_is_own packed s faults w [] added u none = subst (AllByRecursion (IsOfPut w.put)) (sym none) tt
rest_is_own packed s faults w (byte ∷ bytes) added u h = cut_is_own s (piece_cut_next (written_as w)) w.pin (next_start w) (byte ∷ bytes) added h.0 (next_no_vector w) h.1

pub rest_own : {packed : Bool} (now : ℕ) (old new : Kept) (before : List Call) (after : Device) (w : Writer) (result : Result (Unit {0}) Stop) → RestsAsAsked packed now old new before after w result → AddsOfPut w.put old new
rest_own {packed} now old new before after w (Ok u) h = record { added = h.added; adds = h.adds; own = rest_is_own packed (state_of old) after.faults w w.gathered.items h.added u h.shape }
rest_own {packed} now old new before after w (Err why) h = record { added = h.added; adds = h.adds; own = flush_is_own w.put h.added (stopped_kinds packed (state_of old) after.faults w w.gathered.items h.added why h.shape) }

not_all_cut : (w : Writer) (P : Type 0) → 0 < length w.gathered.items → IsAllCut (written_as w) ⊎ P → P
not_all_cut w P some (inl all) = let none : length w.gathered.items ≡ 0 = ap length all.empty in absurd (omega (arith, some, none))
not_all_cut w P some (inr whole) = whole

pub rest_ready : (s : State) (w : Writer) → is_writing s w.put ≡ true → IsWriterOf s (written_as w) → w.sealed ≡ true → 0 < length w.gathered.items → 0 < w.table.room → IsReady s w
rest_ready s w writing own sealed some room =
    let o = open_put (put_of s w.put) writing in
    let here : IsAtHand s.geometry o.0 (written_as w) = own o.0 o.1 o.2 in
    record {
      row = o.0;
      found = o.1;
      is_open = o.2;
      key_is = here.key_is;
      request_is = here.request_is;
      response_is = here.response_is;
      pin_is = here.pin_is;
      cuts_are = here.cuts_are;
      whole = not_all_cut w (total_length o.0.cuts ≡ length o.0.cuts * s.geometry.fragment) some here.whole;
      few = rw (sym here.cuts_are) (here.more some);
      some = some;
      small = omega (arith, here.few);
      last = inl sealed;
      room = room;
    }

-- the put is open behind a cut
pub cut_open : {packed : Bool} (now : ℕ) (kept new : Kept) (before : List Call) (after : Device) (w next : Writer) (placed : Placed) → IsReady (state_of kept) w
    → CutsAsAsked packed now kept new before after (piece_cut_next (written_as w)) w.pin (next_start w) w.gathered.items (Ok placed) → next.put ≡ w.put → is_writing (state_of new) next.put ≡ true
cut_open now kept new before after w next placed r h put =
    let row = cut_row (state_of kept) (state_of new) w h.added placed r h.shape (state_behind kept new h.added h.adds) in
    ap (is_writing (state_of new)) put ∙ (ap (λ o. unwrap_or (option_map is_open o) false) row ∙ rw r.is_open refl)

-- ---- the fragments of the put then

row_of_some : (payload : List ℕ) → 0 < length payload → made_row (length payload) (digest_of payload).0 ∷ [] ≡ rest_rows payload
row_of_some [] some = absurd (omega (arith, some))
row_of_some (byte ∷ bytes) some = refl

-- the rest that is cut is the last
pub cut_rest_rows : (w new : Writer) → 0 < length w.gathered.items
    → new.table.rows ≡ w.table.rows ++ made_row (length w.gathered.items) (digest_of w.gathered.items).0 ∷ []
    → new.table.rows ≡ rows_at_close (written_as w)
cut_rest_rows w new some rows = rows ∙ ap (λ (last : List TableRow). w.table.rows ++ last) (row_of_some w.gathered.items some)

-- where there is none they are those that were cut
pub no_rest_rows : (w : Writer) → w.gathered.items ≡ [] → w.table.rows ≡ rows_at_close (written_as w)
no_rest_rows w none = sym (ap (λ bytes. w.table.rows ++ rest_rows bytes) none ∙ append-nil w.table.rows)
