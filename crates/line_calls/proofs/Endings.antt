-- What becomes of a put that is closed, along the records.
use Rattle.std.proofs.Common.{◌≡◌, ℕ, List, [], ◌∷◌, ◌++◌, length, refl, sym, ◌∙◌, ap, subst, Bool, false, cond}
use Rattle.std.specs.Prelude.{Option, Some, None, ◌==◌, option_map, unwrap_or, filter, find}
use Rattle.std.proofs.lemmas.Bool.{eq-eqb}
use Rattle.tape_base.specs.Digest.{digest_of}
use Rattle.tape_base.specs.declared.keys.Key.{Key}
use Rattle.fragment_table.specs.Table.{TableRow, made_row, total_length}
use Rattle.alternate_vector.specs.Alternates.{Stored}
use Rattle.cache_model.specs.declared.record.Rec.{Rec}
use Rattle.cache_model.specs.declared.record.Rec.TheVariants as rec
use Rattle.cache_model.specs.State.{Closed, GivenUp, PutRow, Row, State, after_all, list_of_piece, list_of_put, put_of, state_after, vector_piece, with_cut, with_writing}
use Rattle.cache_model.specs.Verdict.{cuts_of, is_open}
use Rattle.cache_model.specs.Permit.{Commit, Done, End, Exhausted, Fails, Faulted, Finish, Fragment, Intent, Lost, ManyFragments, ManyWriters, NoSync, Permit, Reason, Stays}
use Rattle.cache_model.specs.Permit.{StillMoving, StillOpen, SyncRuns, TooLarge, Weigh, Work, is_cleanup, work_after}
use Rattle.cache_model.specs.Legal.{Advances, Does, DoesCommit, DoesFinish, DoesFragment, DoesWeigh, MakesRoom, MayGrow, is_writing, more, next_fragment_of, nothing, stays_behind}
use Rattle.cache_model.specs.Legal.{vector_length, vector_payload}
use Rattle.cache_model.specs.Due.{due_pieces}
use Rattle.cache_model.specs.Syncing.{DoesSync, MaySyncBehind, Syncing, Unmarks, WhereDue}
use Rattle.cache_model.specs.Outcomes.{flush_records}
use Rattle.cache_model.specs.Room.{greatest_pin, placed_record}
use Rattle.cache_model.proofs.Steps.{after_all-append, none_left}
use Rattle.cache_model.proofs.ByNumber.{find-changed}
use Rattle.cache_model.proofs.Found.{no_truth, number_of}
use Rattle.cache_model.proofs.Syncing.{flush_among_syncs}
use Rattle.script_run.proofs.Synced.{AllSyncing, IsSyncing, unmark_syncing}
use Rattle.line_calls.proofs.KeptPuts.{displaced_puts, flush_leaves}

-- ---- what closing asks of a put

abbrev pub IsClosing : ℕ → Intent → Type 0
IsClosing put (Weigh q rest) = q ≡ put
IsClosing put (Fragment q index payload) = q ≡ put
IsClosing put (Finish q fragments) = q ≡ put
IsClosing put (Commit q) = q ≡ put
IsClosing put _ = ⊥

abbrev pub AreClosing : ℕ → List Intent → Type 0
AreClosing put [] = Unit {0}
AreClosing put (i ∷ is) = IsClosing put i × AreClosing put is

-- a commit comes last
abbrev pub EndsInCommit : ℕ → List Intent → Type 0
EndsInCommit put [] = ⊥
EndsInCommit put (i ∷ []) = i ≡ Commit put
EndsInCommit put (i ∷ j ∷ is) = EndsInCommit put (j ∷ is)

-- the rows behind what is asked, where all of it is done
abbrev pub rows_behind : Intent → List TableRow → List TableRow
rows_behind (Fragment q index payload) rows = rows ++ made_row (length payload) (digest_of payload).0 ∷ []
rows_behind _ rows = rows

abbrev pub rows_then : List Intent → List TableRow → List TableRow
rows_then [] rows = rows
rows_then (i ∷ is) rows = rows_then is (rows_behind i rows)

abbrev pub key_of : State → ℕ → Option Key
key_of s put = option_map (λ (p : PutRow). p.key) (put_of s put)

-- it is not open once it was committed or given up
abbrev pub IsEnded : Option Reason → State → ℕ → List TableRow → Option Key → Type 0
IsEnded None t put rows key = (is_writing t put ≡ false) × (cuts_of t put ≡ rows)
IsEnded (Some (TooLarge q bytes)) t put rows key = is_writing t put ≡ false
IsEnded (Some (Lost q index)) t put rows key = (is_writing t put ≡ false) × (key_of t put ≡ key)
IsEnded (Some Exhausted) t put rows key = Unit {0}
IsEnded (Some (Faulted count)) t put rows key = Unit {0}
IsEnded (Some ManyWriters) t put rows key = Unit {0}
IsEnded (Some (ManyFragments q)) t put rows key = Unit {0}
IsEnded (Some (SyncRuns serial)) t put rows key = Unit {0}
IsEnded (Some NoSync) t put rows key = Unit {0}
IsEnded (Some (StillOpen writers readers)) t put rows key = Unit {0}
IsEnded (Some (StillMoving blocks)) t put rows key = Unit {0}

-- all of an intent is done
pub record IsDone (i : Intent) (s t : State) (put : ℕ) : Type 0 where
  pub cuts : cuts_of t put ≡ rows_behind i (cuts_of s put)
  pub key : key_of t put ≡ key_of s put
  pub ended : i ≡ Commit put → is_writing t put ≡ false

-- ---- one record

same_puts : (s t : State) (put : ℕ) → t.puts ≡ s.puts → put_of t put ≡ put_of s put
same_puts s t put h = ap (find (λ (p : PutRow). p.put == put)) h

abbrev cuts_in : Option PutRow → List TableRow
cuts_in o = unwrap_or (option_map (λ (p : PutRow). p.cuts) o) []

abbrev open_in : Option PutRow → Bool
open_in o = unwrap_or (option_map is_open o) false

changed_put : (s t : State) (put : ℕ) (f : PutRow → PutRow) → ((x : PutRow) → (f x).put ≡ x.put) → t.puts ≡ Rattle.cache_model.specs.State.change_put put f s.puts
    → put_of t put ≡ option_map f (put_of s put)
changed_put s t put f keeps h =
    ap (find (λ (p : PutRow). p.put == put)) h ∙ (find-changed (λ (p : PutRow). p.put) f keeps put put s.puts
    ∙ ap (λ b. cond b (option_map f (put_of s put)) (put_of s put)) (eq-eqb put put refl))

closed_in : (o : Option PutRow) → open_in (option_map (with_writing Closed) o) ≡ false
closed_in None = refl
closed_in (Some row) = refl

given_up_in : (o : Option PutRow) → open_in (option_map (with_writing GivenUp) o) ≡ false
given_up_in None = refl
given_up_in (Some row) = refl

closed_cuts : (o : Option PutRow) → cuts_in (option_map (with_writing Closed) o) ≡ cuts_in o
closed_cuts None = refl
closed_cuts (Some row) = refl

abbrev keys_in : Option PutRow → Option Key
keys_in o = option_map (λ (p : PutRow). p.key) o

same_keys : (f : PutRow → PutRow) (o : Option PutRow) → ((x : PutRow) → (f x).key ≡ x.key) → keys_in (option_map f o) ≡ keys_in o
same_keys f None keeps = refl
same_keys f (Some row) keeps = ap (λ (k : Key). Some k) (keeps row)

committed : (s : State) (put : ℕ) (w : PutRow) (bytes : ℕ) (listed : List Stored) → IsDone (Commit put) s (state_after s (rec.Committed put w.key bytes listed)) put
committed s put w bytes listed =
    let t : State = state_after s (rec.Committed put w.key bytes listed) in
    let is : put_of t put ≡ option_map (with_writing Closed) (put_of s put) = changed_put s t put (with_writing Closed) (λ x. refl) refl in
    record {
      cuts = ap cuts_in is ∙ closed_cuts (put_of s put);
      key = ap keys_in is ∙ same_keys (with_writing Closed) (put_of s put) (λ x. refl);
      ended = λ e. ap open_in is ∙ closed_in (put_of s put);
    }

pub record IsGivenUp (s t : State) (put : ℕ) : Type 0 where
  pub ended : is_writing t put ≡ false
  pub key : key_of t put ≡ key_of s put

given_up : (s : State) (put : ℕ) (w : PutRow) → put_of s put ≡ Some w → IsGivenUp s (after_all s (rec.Aborted w.put w.key ∷ [])) put
given_up s put w found =
    let number : w.put ≡ put = number_of s put w found in
    let is : put_of (state_after s (rec.Aborted put w.key)) put ≡ option_map (with_writing GivenUp) (put_of s put) =
    changed_put s (state_after s (rec.Aborted put w.key)) put (with_writing GivenUp) (λ x. refl) refl in
    subst (λ n. IsGivenUp s (state_after s (rec.Aborted n w.key)) put) (sym number)
    (record { ended = ap open_in is ∙ given_up_in (put_of s put); key = ap keys_in is ∙ same_keys (with_writing GivenUp) (put_of s put) (λ x. refl) })

cut_done : (s : State) (put index : ℕ) (payload : List ℕ) (w : PutRow) → put_of s put ≡ Some w
    → IsDone (Fragment put index payload) s (state_after s (rec.Cut put index (length payload) (digest_of payload))) put
cut_done s put index payload w found =
    let row : TableRow = made_row (length payload) (digest_of payload).0 in
    let is : put_of (state_after s (rec.Cut put index (length payload) (digest_of payload))) put ≡ option_map (with_cut row) (put_of s put) =
    changed_put s (state_after s (rec.Cut put index (length payload) (digest_of payload))) put (with_cut row) (λ x. refl) refl in
    record {
      cuts = ap cuts_in is ∙ (ap (λ o. cuts_in (option_map (with_cut row) o)) found ∙ ap (λ (o : Option PutRow). cuts_in o ++ row ∷ []) (sym found));
      key = ap keys_in is ∙ same_keys (with_cut row) (put_of s put) (λ x. refl);
      ended = λ e. cc;
    }

-- ---- syncs

sync_puts : (s : State) (r : Rec) → IsSyncing r → (state_after s r).puts ≡ s.puts
sync_puts s (rec.SyncBegun serial cursor clean in_parts) h = refl
sync_puts s (rec.SyncDone serial) h = refl
sync_puts s (rec.Damaged piece place kept found) h = refl
sync_puts s (rec.Fault count) h = refl
sync_puts s _ h = absurd h

syncing_puts : (s : State) (recs : List Rec) → AllSyncing recs → (after_all s recs).puts ≡ s.puts
syncing_puts s [] h = refl
syncing_puts s (r ∷ recs) h = syncing_puts (state_after s r) recs h.1 ∙ sync_puts s r h.0

-- a flush among syncs
synced_puts : (p : Permit) (k : Syncing) (s : State) (added : List Rec) → MaySyncBehind p k s added → (after_all s added).puts ≡ s.puts
synced_puts p k s added m = ap (λ (t : State). t.puts) (flush_among_syncs p k s added m).1 ∙ flush_leaves s (due_pieces s p.now) m.outcomes

-- ---- one group of records

abbrev HasFailed : Reason → State → State → ℕ → Type 0
HasFailed (TooLarge q bytes) s t put = IsGivenUp s t put
HasFailed (Lost q index) s t put = IsGivenUp s t put
HasFailed _ s t put = Unit {0}

-- behind a group for what was asked first
abbrev IsGroup : Intent → End → State → State → ℕ → Type 0
IsGroup i Stays s t put = put_of t put ≡ put_of s put
IsGroup i Done s t put = IsDone i s t put
IsGroup i (Fails why) s t put = HasFailed why s t put

not_a_commit : (i : Intent) (s t : State) (put : ℕ) → (i ≡ Commit put → ⊥) → ((rows : List TableRow) → rows_behind i rows ≡ rows) → put_of t put ≡ put_of s put → IsDone i s t put
not_a_commit i s t put other rows same = record { cuts = ap cuts_in same ∙ sym (rows (cuts_of s put)); key = ap keys_in same; ended = λ e. absurd (other e) }

then_same : (i : Intent) (s mid t : State) (put : ℕ) → put_of t put ≡ put_of mid put → IsDone i s mid put → IsDone i s t put
then_same i s mid t put same done = record { cuts = ap cuts_in same ∙ done.cuts; key = ap keys_in same ∙ done.key; ended = λ e. ap open_in same ∙ done.ended e }

synced_group : (p : Permit) (s : State) (i : Intent) (put : ℕ) (added : List Rec) (e : End) → DoesSync p WhereDue s added e → IsGroup i (stays_behind e) s (after_all s added) put
synced_group p s i put added e (DoesSync.goes m) = same_puts s (after_all s added) put (synced_puts p WhereDue s added m)
synced_group p s i put added e (DoesSync.stops count m) = tt
synced_group p s i put added e (DoesSync.empty m) = no_truth (sym m.asked)
synced_group p s i put added e (DoesSync.empty_stops count m) = tt
synced_group p s i put added e (DoesSync.stays count can first c) = tt
synced_group p s i put added e (DoesSync.exhausted may high is) = tt
synced_group p s i put added e (DoesSync.runs serial on quiet parts runs is) = tt

-- a mark that is taken back
unmarked_group : (p : Permit) (s : State) (i : Intent) (put : ℕ) (added : List Rec) (e : End) → Unmarks p s added e → IsGroup i e s (after_all s added) put
unmarked_group p s i put added e (Unmarks.unmarks must below is) =
    same_puts s (after_all s added) put (syncing_puts s added (unmark_syncing p s added Stays (Unmarks.unmarks must below is)))
unmarked_group p s i put added e (Unmarks.stays count must below c) = tt
unmarked_group p s i put added e (Unmarks.stops count must below marked c is) = tt
unmarked_group p s i put added e (Unmarks.exhausted must high is) = tt

rooms_group : (p : Permit) (s : State) (i : Intent) (put bytes : ℕ) (added : List Rec) (e : End) → MakesRoom p s bytes added e → IsGroup i e s (after_all s added) put
rooms_group p s i put bytes added e (MakesRoom.flushes full may) =
    subst (λ (rs : List Rec). put_of (after_all s rs) put ≡ put_of s put) (sym may.is) (same_puts s (after_all s (flush_records s (due_pieces s p.now) may.outcomes)) put
    (flush_leaves s (due_pieces s p.now) may.outcomes))
rooms_group p s i put bytes added e (MakesRoom.stops count full may) = tt
rooms_group p s i put bytes added e (MakesRoom.exhausted full above none) = tt
rooms_group p s i put bytes added e (MakesRoom.syncs end full sync is) = subst (λ x. IsGroup i x s (after_all s added) put) (sym is) (synced_group p s i put added end sync)

weigh_group : (p : Permit) (s : State) (put rest : ℕ) (added : List Rec) (e : End) → DoesWeigh p s put rest added e → IsGroup (Weigh put rest) e s (after_all s added) put
weigh_group p s put rest added e (DoesWeigh.weighs w writing read fits none) =
    subst (λ (rs : List Rec). IsDone (Weigh put rest) s (after_all s rs) put) (sym none) (not_a_commit (Weigh put rest) s s put (λ e. cc) (λ rows. refl) refl)
weigh_group p s put rest added e (DoesWeigh.too_large w writing read above is) = subst (λ (rs : List Rec). IsGivenUp s (after_all s rs) put) (sym is)
    (given_up s put w writing.found)
weigh_group p s put rest added e (DoesWeigh.damaged w row other writing live damage is) = subst (λ (rs : List Rec). put_of (after_all s rs) put ≡ put_of s put) (sym is) refl
weigh_group p s put rest added e (DoesWeigh.faulted w row count writing live written counts is) = tt

fragment_group : (p : Permit) (s : State) (put index : ℕ) (payload : List ℕ) (added : List Rec) (e : End) → DoesFragment p s put index payload added e
    → IsGroup (Fragment put index payload) e s (after_all s added) put
fragment_group p s put index payload added e (DoesFragment.places done may) =
    let mid : State = state_after s (rec.Cut put index (length payload) (digest_of payload)) in
    let tail : List Rec = placed_record s (next_fragment_of may.w) may.w.pin (total_length may.w.cuts) (length payload) payload ∷ [] in
    let puts : (after_all s added).puts ≡ mid.puts =
    ap (λ (rs : List Rec). (after_all s rs).puts) may.is ∙ (ap (λ (x : State). x.puts) (after_all-append mid may.displaced tail)
    ∙ displaced_puts p s _ may.displaced may.displaces mid) in
    subst (λ x. IsGroup (Fragment put index payload) x s (after_all s added) put) (sym done)
    (then_same (Fragment put index payload) s mid (after_all s added) put (same_puts mid (after_all s added) put puts) (cut_done s put index payload may.w may.cut.writing.found))
fragment_group p s put index payload added e (DoesFragment.unmarks w next place unmark) = unmarked_group p s (Fragment put index payload) put added e unmark
fragment_group p s put index payload added e (DoesFragment.rooms w next room) = rooms_group p s (Fragment put index payload) put (length payload) added e room
fragment_group p s put index payload added e (DoesFragment.exhausted w fails next nope) = subst (λ x. IsGroup (Fragment put index payload) x s (after_all s added) put)
    (sym fails) tt

finish_group : (p : Permit) (s : State) (put fragments : ℕ) (added : List Rec) (e : End) → DoesFinish p s put fragments added e
    → IsGroup (Finish put fragments) e s (after_all s added) put
finish_group p s put fragments added e (DoesFinish.places done may) =
    let tail : List Rec = placed_record s (vector_piece may.w.key put) (greatest_pin (list_of_put s put)) 0 (vector_length s put) (vector_payload s put) ∷ [] in
    let puts : (after_all s added).puts ≡ s.puts =
    ap (λ (rs : List Rec). (after_all s rs).puts) may.is ∙ (ap (λ (x : State). x.puts) (after_all-append s may.displaced tail)
    ∙ displaced_puts p s _ may.displaced may.displaces s) in
    subst (λ x. IsGroup (Finish put fragments) x s (after_all s added) put) (sym done)
    (not_a_commit (Finish put fragments) s (after_all s added) put (λ e. cc) (λ rows. refl) (same_puts s (after_all s added) put puts))
finish_group p s put fragments added e (DoesFinish.unmarks w cut live place unmark) = unmarked_group p s (Finish put fragments) put added e unmark
finish_group p s put fragments added e (DoesFinish.rooms w cut room) = rooms_group p s (Finish put fragments) put _ added e room
finish_group p s put fragments added e (DoesFinish.loses w index fails lost is) =
    subst (λ x. IsGroup (Finish put fragments) x s (after_all s added) put) (sym fails)
    (subst (λ (rs : List Rec). IsGivenUp s (after_all s rs) put) (sym is) (given_up s put w lost.cut.writing.found))
finish_group p s put fragments added e (DoesFinish.exhausted w fails cut live nope) = subst (λ x. IsGroup (Finish put fragments) x s (after_all s added) put) (sym fails) tt

commit_group : (p : Permit) (s : State) (put : ℕ) (added : List Rec) (e : End) → DoesCommit s put added e → IsGroup (Commit put) e s (after_all s added) put
commit_group p s put added e (DoesCommit.commits w found open_ pending is) = subst (λ (rs : List Rec). IsDone (Commit put) s (after_all s rs) put) (sym is)
    (committed s put w (total_length w.cuts) (list_of_piece s (vector_piece w.key put)))

group : (p : Permit) (s : State) (i : Intent) (put : ℕ) (added : List Rec) (e : End) → IsClosing put i → Does p s i added e → IsGroup i e s (after_all s added) put
group p s (Weigh q rest) put added e is does = subst (λ n. IsGroup (Weigh q rest) e s (after_all s added) n) is (weigh_group p s q rest added e does)
group p s (Fragment q index payload) put added e is does = subst (λ n. IsGroup (Fragment q index payload) e s (after_all s added) n) is
    (fragment_group p s q index payload added e does)
group p s (Finish q fragments) put added e is does = subst (λ n. IsGroup (Finish q fragments) e s (after_all s added) n) is (finish_group p s q fragments added e does)
group p s (Commit q) put added e is does = subst (λ n. IsGroup (Commit q) e s (after_all s added) n) is (commit_group p s q added e does)
group p s _ put added e is does = absurd is

-- ---- a whole step

no_cleanup : (put : ℕ) (is : List Intent) → AreClosing put is → filter is_cleanup is ≡ []
no_cleanup put [] h = refl
no_cleanup put (Weigh q rest ∷ is) h = no_cleanup put is h.1
no_cleanup put (Fragment q index payload ∷ is) h = no_cleanup put is h.1
no_cleanup put (Finish q fragments ∷ is) h = no_cleanup put is h.1
no_cleanup put (Commit q ∷ is) h = no_cleanup put is h.1
no_cleanup put _ h = absurd h.0

failed : (why : Reason) (s t : State) (put : ℕ) (rows : List TableRow) → HasFailed why s t put → IsEnded (Some why) t put rows (key_of s put)
failed (TooLarge q bytes) s t put rows h = h.ended
failed (Lost q index) s t put rows h = (h.ended, h.key)
failed Exhausted s t put rows h = tt
failed (Faulted count) s t put rows h = tt
failed ManyWriters s t put rows h = tt
failed (ManyFragments q) s t put rows h = tt
failed (SyncRuns serial) s t put rows h = tt
failed NoSync s t put rows h = tt
failed (StillOpen writers readers) s t put rows h = tt
failed (StillMoving blocks) s t put rows h = tt

abbrev then_ : Option Reason → Work
then_ why = record { intents = []; refused = why }

abbrev Further : ℕ → State → List Rec → Option Reason → Work → Option Key → Type 0
Further put t rest after between key = (js : List Intent) → between ≡ record { intents = js; refused = None } → AreClosing put js → EndsInCommit put js
    → IsEnded after (after_all t rest) put (rows_then js (cuts_of t put)) (key_of t put)

done_last : (p : Permit) (s t : State) (i : Intent) (put : ℕ) (rest : List Rec) (after : Option Reason) → i ≡ Commit put → IsDone i s t put
    → MayGrow p t (then_ None) rest (then_ after)
    → IsEnded after (after_all t rest) put (rows_behind i (cuts_of s put)) (key_of s put)
done_last p s t i put rest after is done grows =
    let none = none_left p t None rest (then_ after) grows in
    subst (λ (o : Option Reason). IsEnded o (after_all t rest) put (rows_behind i (cuts_of s put)) (key_of s put)) none.1
    (subst (λ (rs : List Rec). IsEnded None (after_all t rs) put (rows_behind i (cuts_of s put)) (key_of s put)) (sym none.0) (done.ended is, done.cuts))

step_on : (p : Permit) (s : State) (i : Intent) (is : List Intent) (put : ℕ) (added : List Rec) (e : End) (rest : List Rec) (after : Option Reason) → IsClosing put i
    → AreClosing put is → EndsInCommit put (i ∷ is)
    → IsGroup i e s (after_all s added) put → MayGrow p (after_all s added) (work_after i is None e) rest (then_ after)
    → Further put (after_all s added) rest after (work_after i is None e) (key_of s put) → IsEnded after (after_all (after_all s added) rest) put
    (rows_then (i ∷ is) (cuts_of s put)) (key_of s put)
step_on p s i is put added Stays rest after first others ends group_ grows further =
    subst (λ k. IsEnded after (after_all (after_all s added) rest) put (rows_then (i ∷ is) (cuts_of s put)) k) (ap keys_in group_)
    (subst (λ rows. IsEnded after (after_all (after_all s added) rest) put (rows_then (i ∷ is) rows) (key_of (after_all s added) put)) (ap cuts_in group_)
    (further (i ∷ is) refl (first, others) ends))
step_on p s i [] put added Done rest after first others ends group_ grows further = done_last p s (after_all s added) i put rest after ends group_ grows
step_on p s i (j ∷ is) put added Done rest after first others ends group_ grows further =
    subst (λ k. IsEnded after (after_all (after_all s added) rest) put (rows_then (j ∷ is) (rows_behind i (cuts_of s put))) k) group_.key
    (subst (λ rows. IsEnded after (after_all (after_all s added) rest) put (rows_then (j ∷ is) rows) (key_of (after_all s added) put)) group_.cuts
    (further (j ∷ is) refl others ends))
step_on p s i is put added (Fails why) rest after first others ends group_ grows further =
    let none = none_left p (after_all s added) (Some why) rest (then_ after)
    (subst (λ (js : List Intent). MayGrow p (after_all s added) (record { intents = js; refused = Some why }) rest (then_ after)) (no_cleanup put is others) grows) in
    subst (λ (o : Option Reason). IsEnded o (after_all (after_all s added) rest) put (rows_then (i ∷ is) (cuts_of s put)) (key_of s put)) none.1
    (subst (λ (rs : List Rec). IsEnded (Some why) (after_all (after_all s added) rs) put (rows_then (i ∷ is) (cuts_of s put)) (key_of s put)) (sym none.0)
    (failed why s (after_all s added) put _ group_))

-- behind all that closing does, the put is complete, or given up, or was refused by the device
pub ended_along : {p : Permit} {s : State} {w after : Work} {recs : List Rec} → MayGrow p s w recs after → (put : ℕ) (is : List Intent) (why : Option Reason)
    → w ≡ record { intents = is; refused = None }
    → after ≡ then_ why → AreClosing put is → EndsInCommit put is → IsEnded why (after_all s recs) put (rows_then is (cuts_of s put)) (key_of s put)
ended_along nothing put [] why e f all ends = absurd ends
ended_along nothing put (i ∷ is) why e f all ends = let clash : [] ≡ i ∷ is = ap (λ (x : Work). x.intents) (sym f ∙ e) in cc
ended_along (more {rest = rest} added between one others) put [] why e f all ends = absurd ends
ended_along {p} {s} {w} {after} (more {rest = rest} added between one others) put (i ∷ is) why e f all ends =
    let first : Advances p s (i ∷ is) None added between = subst (λ (x : Work). Advances p s x.intents x.refused added between) e one in
    let grows : MayGrow p (after_all s added) (work_after i is None first.0) rest (then_ why) = subst (λ x. MayGrow p (after_all s added) x rest (then_ why)) first.2
    (subst (λ x. MayGrow p (after_all s added) between rest x) f others) in
    subst (λ x. IsEnded why x put (rows_then (i ∷ is) (cuts_of s put)) (key_of s put)) (sym (after_all-append s added rest))
    (step_on p s i is put added first.0 rest why all.0 all.1 ends (group p s i put added first.0 all.0 first.1) grows
    (λ js at closing ends_. ended_along others put js why (first.2 ∙ at) f closing ends_))
