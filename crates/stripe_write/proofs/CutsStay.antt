-- A put that is finished keeps what it has cut.
use Rattle.std.proofs.Common.{◌≡◌, ℕ, List, [], ◌∷◌, refl, sym, ◌∙◌, ap, subst, Bool, true, false, cond, Result}
use Rattle.std.specs.Prelude.{Option, Some, None, ◌==◌, filter, find, if◌then◌else◌, map, option_map, unwrap_or}
use Rattle.std.specs.List.{AllByRecursion}
use Rattle.tape_base.specs.declared.pieces.PieceId.{PieceId}
use Rattle.device_log.specs.Calls.{Call}
use Rattle.fragment_table.specs.Table.{TableRow}
use Rattle.cache_model.specs.declared.record.Rec.{Rec}
use Rattle.cache_model.specs.declared.record.Rec.TheVariants as rec
use Rattle.cache_model.specs.State.{Closed, GivenUp, PutRow, Row, State, Writing, after_all, change_put, state_after, with_writing}
use Rattle.cache_model.specs.Kept.{Kept, state_of}
use Rattle.cache_model.specs.Verdict.{cuts_of}
use Rattle.cache_model.specs.Permit.{Commit, Done, End, Fails, Finish, Intent, Permit, Reason, Stays, Work, is_cleanup, work_after}
use Rattle.cache_model.specs.Legal.{Advances, Does, DoesCommit, DoesFinish, MakesRoom, MayGrow, more, nothing}
use Rattle.cache_model.specs.Due.{due_pieces}
use Rattle.cache_model.specs.Outcomes.{Copy, Outcome, began_record, copies_of, flush_records, flush_tail, front_of, moved_record, moved_records}
use Rattle.cache_model.specs.Room.{MayDisplace, displaced_record}
use Rattle.cache_model.proofs.Aside.{AllAside, IsAside}
use Rattle.cache_model.proofs.ByNumber.{find-changed}
use Rattle.cache_model.proofs.SoundFlush.{front_aside, stopped_aside}
use Rattle.cache_model.proofs.Steps.{all_append}
use Rattle.cache_model.proofs.Syncing.{unmark_aside}
use Rattle.piece_answers.proofs.Covering.{never_syncs}
use Rattle.cache_answers.specs.declared.answers.Receipt.{Receipt}
use Rattle.cache_answers.specs.declared.answers.Refusal.{Refusal}
use Rattle.stripe_write.specs.declared.weighing.Vectors.{Vectors}
use Rattle.stripe_write.specs.declared.writer.Writer.{Writer}
use Rattle.stripe_write.specs.Closing.{IsReadFor}
use Rattle.stripe_write.specs.Finishing.{Finishes, FinishesAsRead}
use Rattle.stripe_write.proofs.Faulted.{alone, covers_alone}
use Rattle.stripe_write.proofs.Spending.{state_behind}

-- ---- records that cut nothing

-- the record begins no session and no put, and cuts nothing
abbrev CutsNone : Rec → Type 0
CutsNone (rec.Formatted geometry) = ⊥
CutsNone (rec.Opened geometry serial cursor floor next_put clean list) = ⊥
CutsNone (rec.WriteOpened actor put key request response pin) = ⊥
CutsNone (rec.Cut put index length digest) = ⊥
CutsNone _ = Unit {0}

abbrev CutNone : List Rec → Type 0
CutNone recs = AllByRecursion CutsNone recs

abbrev cuts_in : Option PutRow → List TableRow
cuts_in o = unwrap_or (option_map (λ (p : PutRow). p.cuts) o) []

changed_cuts : (writing : Writing) (o : Option PutRow) (b : Bool) → cuts_in (cond b (option_map (with_writing writing) o) o) ≡ cuts_in o
changed_cuts writing None true = refl
changed_cuts writing None false = refl
changed_cuts writing (Some p) true = refl
changed_cuts writing (Some p) false = refl

-- a put at another stage has the cuts that it had
still_cuts : (puts : List PutRow) (writing : Writing) (other put : ℕ)
    → cuts_in (find (λ (p : PutRow). p.put == put) (change_put other (with_writing writing) puts))
    ≡ cuts_in (find (λ (p : PutRow). p.put == put) puts)
still_cuts puts writing other put =
    ap cuts_in (find-changed (λ (p : PutRow). p.put) (with_writing writing) (λ p. refl) other put puts)
    ∙ changed_cuts writing (find (λ (p : PutRow). p.put == put) puts) (other == put)

one_cuts : (s : State) (r : Rec) (put : ℕ) → CutsNone r → cuts_of (state_after s r) put ≡ cuts_of s put
one_cuts s (rec.Formatted geometry) put h = absurd h
one_cuts s (rec.Opened geometry serial cursor floor next_put clean list) put h = absurd h
one_cuts s (rec.WriteOpened actor q key request response pin) put h = absurd h
one_cuts s (rec.Cut q index length digest) put h = absurd h
one_cuts s (rec.Committed q key length list) put h = still_cuts s.puts Closed q put
one_cuts s (rec.Aborted q key) put h = still_cuts s.puts GivenUp q put
one_cuts s _ put h = refl

all_cuts : (s : State) (recs : List Rec) (put : ℕ) → CutNone recs → cuts_of (after_all s recs) put ≡ cuts_of s put
all_cuts s [] put all = refl
all_cuts s (r ∷ recs) put all = all_cuts (state_after s r) recs put all.1 ∙ one_cuts s r put all.0

-- ---- which these are

aside_cuts : (r : Rec) → IsAside r → CutsNone r
aside_cuts (rec.Formatted geometry) h = absurd h.0
aside_cuts (rec.Opened geometry serial cursor floor next_put clean list) h = absurd h.0
aside_cuts (rec.WriteOpened actor put key request response pin) h = absurd h.1
aside_cuts (rec.Cut put index length digest) h = absurd h.1
aside_cuts _ h = tt

aside_cut : (recs : List Rec) → AllAside recs → CutNone recs
aside_cut [] h = tt
aside_cut (r ∷ recs) h = (aside_cuts r h.0, aside_cut recs h.1)

moved_cut : (s : State) (copies : List Copy) → CutNone (moved_records s copies)
moved_cut s [] = tt
moved_cut s (c ∷ copies) = (tt, moved_cut (state_after s (moved_record s c)) copies)

flush_cut : (s : State) (rows : List Row) (outcomes : List Outcome) → CutNone (flush_records s rows outcomes)
flush_cut s rows outcomes =
    all_append CutsNone (front_of rows outcomes) (flush_tail s rows outcomes)
    (aside_cut (front_of rows outcomes) (front_aside rows outcomes))
    (tt, moved_cut (state_after (after_all s (front_of rows outcomes)) (began_record s)) (copies_of rows outcomes))

displaced_cut : (segment live : ℕ) (rows : List Row) → CutNone (map (displaced_record segment live) rows)
displaced_cut segment live [] = tt
displaced_cut segment live (row ∷ rows) = (tt, displaced_cut segment live rows)

displaces_cut : (p : Permit) (s : State) (piece : PieceId) (recs : List Rec) → MayDisplace p s piece recs → CutNone recs
displaces_cut p s piece recs m = subst CutNone (sym m.is) (displaced_cut _ _ m.purged)

-- ---- groups of records that finish a put, in a step that does not sync

room_cut : {p : Permit} {s : State} {bytes : ℕ} {added : List Rec} {e : End} → p.syncs ≡ false → MakesRoom p s bytes added e → CutNone added
room_cut {p} {s} off (MakesRoom.flushes full m) = subst CutNone (sym m.is) (flush_cut s (due_pieces s p.now) m.outcomes)
room_cut {p} {s} off (MakesRoom.stops count full m) =
    subst CutNone (sym m.is) (aside_cut _ (stopped_aside (due_pieces s p.now) m.outcomes count))
room_cut off (MakesRoom.exhausted full above is) = subst CutNone (sym is) tt
room_cut off (MakesRoom.syncs f full sync behind) = absurd (never_syncs off sync)

finish_cut : (p : Permit) (s : State) (put fragments : ℕ) (added : List Rec) (e : End) → p.syncs ≡ false
    → DoesFinish p s put fragments added e → CutNone added
finish_cut p s put fragments added e off (DoesFinish.unmarks w cut whole place d) = aside_cut added (unmark_aside p s added e d)
finish_cut p s put fragments added e off (DoesFinish.places done m) =
    subst CutNone (sym m.is) (all_append CutsNone m.displaced _ (displaces_cut p s _ m.displaced m.displaces) (tt, tt))
finish_cut p s put fragments added e off (DoesFinish.rooms w cut m) = room_cut off m
finish_cut p s put fragments added e off (DoesFinish.loses w index done lost is) = subst CutNone (sym is) (tt, tt)
finish_cut p s put fragments added e off (DoesFinish.exhausted w done cut whole none) = subst CutNone (sym none.is) tt

-- a put is to be finished, or committed
abbrev IsOfFinish : Intent → Type 0
IsOfFinish (Finish put fragments) = Unit {0}
IsOfFinish (Commit put) = Unit {0}
IsOfFinish _ = ⊥

commit_cut : {s : State} {put : ℕ} {added : List Rec} {e : End} → DoesCommit s put added e → CutNone added
commit_cut (DoesCommit.commits w found writing pending is) = subst CutNone (sym is) (tt, tt)

group_cut : (p : Permit) (s : State) (i : Intent) (added : List Rec) (e : End) → p.syncs ≡ false → IsOfFinish i
    → Does p s i added e → CutNone added
group_cut p s (Finish put fragments) added e off of d = finish_cut p s put fragments added e off d
group_cut p s (Commit put) added e off of d = commit_cut d
group_cut p s _ added e off of d = absurd of

-- what is left of it
left_by : (i : Intent) (is : List Intent) (b : Bool) → IsOfFinish i → AllByRecursion IsOfFinish is
    → AllByRecursion IsOfFinish (if b then i ∷ is else is)
left_by i is true one all = (one, all)
left_by i is false one all = all

cleanup_left : (is : List Intent) → AllByRecursion IsOfFinish is → AllByRecursion IsOfFinish (filter is_cleanup is)
cleanup_left [] all = tt
cleanup_left (i ∷ is) all = left_by i (filter is_cleanup is) (is_cleanup i) all.0 (cleanup_left is all.1)

work_left : (i : Intent) (is : List Intent) (why : Option Reason) (e : End) → IsOfFinish i → AllByRecursion IsOfFinish is
    → AllByRecursion IsOfFinish (work_after i is why e).intents
work_left i is why Stays one all = (one, all)
work_left i is why Done one all = all
work_left i is why (Fails reason) one all = cleanup_left is all

advance_cut : (p : Permit) (s : State) (is : List Intent) (why : Option Reason) (added : List Rec) (after : Work)
    → p.syncs ≡ false → AllByRecursion IsOfFinish is → Advances p s is why added after → CutNone added × AllByRecursion IsOfFinish after.intents
advance_cut p s [] why added after off all h = absurd h
advance_cut p s (i ∷ is) why added after off all h = (
  group_cut p s i added h.0 off all.0 h.1,
  subst (λ (w : Work). AllByRecursion IsOfFinish w.intents) (sym h.2) (work_left i is why h.0 all.0 all.1),
)

grown_cut : {p : Permit} {s : State} {w after : Work} {added : List Rec} → p.syncs ≡ false → AllByRecursion IsOfFinish w.intents
    → MayGrow p s w added after → CutNone added
grown_cut off all nothing = tt
grown_cut {p} {s} {w} off all (more {rest = rest} added between one others) =
    let first = advance_cut p s w.intents w.refused added between off all one in
    all_append CutsNone added rest first.0 (grown_cut off first.1 others)

-- ---- a put that is finished

-- where the key's vector is the one that was read
pub finished_cuts : {packed : Bool} (now : ℕ) (old new : Kept) (before after : List Call) (w : Writer) (v : Vectors)
    (result : Result Receipt Refusal) → FinishesAsRead packed now before after old new w v result → (state_of old).displaced ≡ [] → IsReadFor (state_of old) w v → (put : ℕ)
    → cuts_of (state_of new) put ≡ cuts_of (state_of old) put
finished_cuts {packed} now old new before after w v result ends none read put =
    let p : Permit = alone packed now before after in
    let f : Finishes p old new w result = ends.does p refl refl (covers_alone packed now before after) none read in
    ap (λ (t : State). cuts_of t put) (state_behind old new f.added f.adds)
    ∙ all_cuts (state_of old) f.added put (grown_cut refl (tt, (tt, tt)) (f.does [] None))
