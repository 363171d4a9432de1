-- A sync that is asked for is made: it has the next serial, and ends, or goes on in parts.
use Rattle.std.proofs.Common.{◌≡◌, ℕ, ◌<◌, List, [], ◌∷◌, ◌++◌, refl, sym, ◌∙◌, ap, arith, Bool, true, false}
use Rattle.cache_model.specs.declared.record.Rec.{Rec}
use Rattle.cache_model.specs.declared.record.Rec.TheVariants as rec
use Rattle.cache_model.specs.State.{State, Row, after_all, cursor_next, state_after}
use Rattle.cache_model.specs.Permit.{Permit, Intent, Sync, SyncBegin, Drain, CleanSync, Done}
use Rattle.cache_model.specs.Due.{due_pieces}
use Rattle.cache_model.specs.Outcomes.{Copy, Outcome, copies_of, flush_tail, moved_record, moved_records}
use Rattle.cache_model.specs.Syncing
use Rattle.cache_model.specs.Syncing.{AtOnce, DoesCleanSync, DoesSync, InParts, MaySyncBehind, MaySyncEmpty, Syncing, ended_records, next_serial, sync_records}
use Rattle.cache_model.specs.Legal
use Rattle.cache_model.specs.Legal.{Does, DoesDrain}
use Rattle.cache_model.proofs.Steps.{after_all-append}
use Rattle.cache_model.proofs.Syncing.{AllLeaveSyncs, LeavesSyncs, after_syncs, ended_of, tail_leaves_syncs}
use Rattle.step_laws.specs.AskLaws.{IsSynced, IsSyncBegun, IsSyncMade}
use Rattle.session_laws.proofs.AskSyncs.{parts_shape, whole_shape}

-- ---- what is left of syncs and of the cursor

-- a record that speaks of no sync leaves the last one that finished, and the one that goes on
one_left : (s : State) (r : Rec) → LeavesSyncs r → ((state_after s r).finished ≡ s.finished) × ((state_after s r).running ≡ s.running)
one_left s (rec.Formatted geometry) h = absurd h
one_left s (rec.Opened geometry serial cursor floor next_put clean list) h = absurd h
one_left s (rec.SyncBegun serial cursor clean in_parts) h = absurd h
one_left s (rec.SyncDone serial) h = absurd h
one_left s _ h = (refl, refl)

syncs_left : (s : State) (recs : List Rec) → AllLeaveSyncs recs → ((after_all s recs).finished ≡ s.finished) × ((after_all s recs).running ≡ s.running)
syncs_left s [] h = (refl, refl)
syncs_left s (r ∷ recs) h =
    let one = one_left s r h.0 in
    let rest = syncs_left (state_after s r) recs h.1 in
    (rest.0 ∙ one.0, rest.1 ∙ one.1)

-- copies leave the buffer where it began
moved_cursor : (s t : State) (copies : List Copy) → (after_all s (moved_records t copies)).cursor ≡ s.cursor
moved_cursor s t [] = refl
moved_cursor s t (c ∷ copies) = moved_cursor (state_after s (moved_record t c)) (state_after t (moved_record t c)) copies

-- a buffer begins at the cursor of its record
tail_cursor : (s t : State) (rows : List Row) (outcomes : List Outcome) → (after_all t (flush_tail s rows outcomes)).cursor ≡ cursor_next s
tail_cursor s t rows outcomes = moved_cursor _ _ (copies_of rows outcomes)

-- ---- the forms

-- the state behind a sync that ends, and behind one that goes on
abbrev ended_at : State → List Rec → ℕ → Bool → State
ended_at s before cursor clean = after_all (after_all s before) (rec.SyncBegun (next_serial s) cursor clean false ∷ rec.SyncDone (next_serial s) ∷ [])

abbrev begun_at : State → List Rec → ℕ → State
begun_at s before cursor = after_all (after_all s before) (rec.SyncBegun (next_serial s) cursor false true ∷ [])

made : (s : State) (clean : Bool) (added before behind : List Rec) (cursor : ℕ)
    → added ≡ before ++ rec.SyncBegun (next_serial s) cursor clean false ∷ rec.SyncDone (next_serial s) ∷ behind → AllLeaveSyncs behind
    → (after_all (ended_at s before cursor clean) behind).cursor ≡ cursor → IsSyncMade s clean added
made s clean added before behind cursor is leave at =
    let left = syncs_left (ended_at s before cursor clean) behind leave in
    let all : after_all s added ≡ after_all (ended_at s before cursor clean) behind = ap (after_all s) is ∙ after_all-append s before _ in
    let here : (after_all s added).cursor ≡ cursor = ap (λ (t : State). t.cursor) all ∙ at in
    record {
      before = before;
      behind = behind;
      is = is ∙ ap (λ c. before ++ rec.SyncBegun (next_serial s) c clean false ∷ rec.SyncDone (next_serial s) ∷ behind) (sym here);
      finished = ap (λ (t : State). t.finished) all ∙ left.0;
      over = ap (λ (t : State). t.running) all ∙ left.1;
    }

begun : (s : State) (added before behind : List Rec) (cursor : ℕ) → added ≡ before ++ rec.SyncBegun (next_serial s) cursor false true ∷ behind → AllLeaveSyncs behind
    → (after_all (begun_at s before cursor) behind).cursor ≡ cursor → IsSyncBegun s added
begun s added before behind cursor is leave at =
    let left = syncs_left (begun_at s before cursor) behind leave in
    let all : after_all s added ≡ after_all (begun_at s before cursor) behind = ap (after_all s) is ∙ after_all-append s before _ in
    let here : (after_all s added).cursor ≡ cursor = ap (λ (t : State). t.cursor) all ∙ at in
    record {
      before = before;
      behind = behind;
      is = is ∙ ap (λ c. before ++ rec.SyncBegun (next_serial s) c false true ∷ behind) (sym here);
      running = ap (λ (t : State). t.running) all ∙ left.1;
    }

-- ---- behind a buffer, and of an empty one

goes_made : (p : Permit) (s : State) (added : List Rec) → MaySyncBehind p AtOnce s added → IsSyncMade s false added
goes_made p s added m =
    let rows : List Row = due_pieces s p.now in
    let d = whole_shape p AtOnce s added refl refl m in
    made s false added d.0 (flush_tail s rows m.outcomes) (cursor_next s) d.1 (tail_leaves_syncs s rows m.outcomes)
    (tail_cursor s (ended_at s d.0 (cursor_next s) false) rows m.outcomes)

goes_begun : (p : Permit) (s : State) (added : List Rec) → MaySyncBehind p InParts s added → IsSyncBegun s added
goes_begun p s added m =
    let rows : List Row = due_pieces s p.now in
    let d = parts_shape p s added m in
    begun s added d.0 (flush_tail s rows m.outcomes) (cursor_next s) d.1 (tail_leaves_syncs s rows m.outcomes)
    (tail_cursor s (begun_at s d.0 (cursor_next s)) rows m.outcomes)

-- the end of a sync in parts leaves the cursor
ended_cursor : (s : State) → (after_all s (ended_records s)).cursor ≡ s.cursor
ended_cursor s = ap (λ (t : State). t.cursor) (after_syncs s (ended_records s) (ended_of s))

empty_made : (p : Permit) (s : State) (added : List Rec) → MaySyncEmpty p AtOnce s added → IsSyncMade s false added
empty_made p s added m = made s false added (ended_records s) [] s.cursor m.is tt (ended_cursor s)

empty_begun : (p : Permit) (s : State) (added : List Rec) → MaySyncEmpty p InParts s added → IsSyncBegun s added
empty_begun p s added m = begun s added (ended_records s) [] s.cursor m.is tt (ended_cursor s)

-- ---- what is asked

sync_made : (p : Permit) (s : State) (added : List Rec) → DoesSync p AtOnce s added Done → IsSyncMade s false added
sync_made p s added (Syncing.DoesSync.goes m) = goes_made p s added m
sync_made p s added (Syncing.DoesSync.empty m) = empty_made p s added m

sync_begun : (p : Permit) (s : State) (added : List Rec) → DoesSync p InParts s added Done → IsSyncBegun s added
sync_begun p s added (Syncing.DoesSync.goes m) = goes_begun p s added m
sync_begun p s added (Syncing.DoesSync.empty m) = empty_begun p s added m

clean_made : (p : Permit) (s : State) (added : List Rec) → DoesCleanSync p s added Done → IsSyncMade s true added
clean_made p s added (Syncing.DoesCleanSync.syncs on quiet none rests below is) = made s true added [] [] s.cursor is tt refl

drain_made : (p : Permit) (s : State) (added : List Rec) → 0 < s.filled → DoesDrain p s added Done → IsSyncMade s false added
drain_made p s added some (Legal.DoesDrain.empty on quiet none filled is) = absurd (omega (arith, some, filled))
drain_made p s added some (Legal.DoesDrain.syncs none filled d) = sync_made p s added d

pub asked_is_synced : (p : Permit) (s : State) (i : Intent) (added : List Rec) → Does p s i added Done → IsSynced s i added
asked_is_synced p s Sync added d = sync_made p s added d
asked_is_synced p s SyncBegin added d = sync_begun p s added d
asked_is_synced p s CleanSync added d = clean_made p s added d
asked_is_synced p s Drain added d = λ some. drain_made p s added some d
asked_is_synced p s _ added d = tt
