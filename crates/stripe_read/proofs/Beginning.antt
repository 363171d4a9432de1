-- The reader that a lookup opens.
use Rattle.std.proofs.Common.{◌≡◌, ℕ, ◌≤◌, List, [], ◌∷◌, ◌++◌, refl, sym, ◌∙◌, ap, subst, arith, inl, inr, Bool, cond}
use Rattle.std.specs.declared.alloc.AllocError.{AllocError}
use Rattle.std.specs.Prelude.{Option, Some, None, Result, Ok, Err, IfOk, OnErr, IsOk, find, ◌==◌}
use Rattle.std.proofs.lemmas.Bool.{eq-eqb}
use Rattle.tape_base.specs.declared.actors.Actor.{Actor}
use Rattle.tape_base.specs.declared.keys.Key.{Key}
use Rattle.device_log.specs.Calls.{Call}
use Rattle.logged_disk.specs.Device.{DeviceState as Device}
use Rattle.logged_disk.proofs.GoingOn.{told_before}
use Rattle.alternate_vector.specs.Field.{Field}
use Rattle.cache_model.specs.declared.answer.ReadAnswer.{ReadAnswer}
use Rattle.cache_model.specs.declared.answer.ReadAnswer.TheVariants as read
use Rattle.cache_model.specs.declared.record.Rec.TheVariants as rec
use Rattle.cache_model.specs.State.{ReaderRow, Row, State, after_all, state_after, table_of_hit}
use Rattle.cache_model.specs.Kept.{Kept, state_of, with_records}
use Rattle.cache_model.specs.Verdict.{live_vector_of}
use Rattle.cache_model.specs.Permit.{Done, Look, Permit}
use Rattle.cache_model.specs.Legal.{Does, DoesLook, IsQuiet}
use Rattle.cache_model.specs.Vectors.{IsVectorAs}
use Rattle.call_laws.specs.Untold.{Untold}
use Rattle.call_laws.proofs.Kept.{untold_later}
use Rattle.piece_answers.specs.Covers.{Covers}
use Rattle.held_pieces.specs.Still.{IsStill}
use Rattle.stripe_answers.proofs.Seeing.{seen_before, still_seen}
use Rattle.stripe_read.specs.declared.opening.Looked.{Looked}
use Rattle.stripe_read.specs.declared.opening.Looked.TheVariants as looked
use Rattle.cache_answers.specs.declared.answers.Opened.{Opened}
use Rattle.stripe_read.specs.declared.reader.Reader.{Reader}
use Rattle.stripe_read.specs.Lookups.{IsFound, LooksUp, MissIsCounted, Opens, answer_of_looked, lookup_adds, opened_as}
use Rattle.stripe_read.proofs.Looking.{hit_adds, key_pair_wider, nothing_recorded}
use Rattle.stripe_read.proofs.Staying.{LeavesReaders, cause_leaves, state_behind, two_calls}
use Rattle.stripe_read.proofs.Counted.{trouble_later}
use Rattle.cache_calls.specs.Actors.{IsOpenReader, IsReaderOf}
use Rattle.cache_calls.specs.Readers.{vector_trouble, answer_in, open_adds, IfReader, TellsReader}
use Rattle.stripe_read.specs.Readers.{reading_as}

-- ---- records

answer_as : (number : ℕ) (key : Key) (found : Looked) → answer_in (opened_as number key found) ≡ answer_of_looked found
answer_as number key (looked.Hit chosen) = refl
answer_as number key (looked.Follow put) = refl
answer_as number key (looked.Miss why) = refl

trouble_leaves : (s : State) (o : Option Row) (answer : ReadAnswer) → LeavesReaders s (after_all s (vector_trouble o answer))
trouble_leaves s None answer = record { readers = refl; pending = refl; number = refl }
trouble_leaves s (Some row) (read.Hit put) = record { readers = refl; pending = refl; number = refl }
trouble_leaves s (Some row) (read.Follow put) = record { readers = refl; pending = refl; number = refl }
trouble_leaves s (Some row) (read.Miss why) = cause_leaves s row why

looked_leaves : (k k1 : Kept) (key : Key) (answer : ReadAnswer) → k1 ≡ with_records k (lookup_adds (state_of k) key answer) → LeavesReaders (state_of k) (state_of k1)
looked_leaves k k1 key answer is =
    subst (LeavesReaders (state_of k)) (sym (state_behind k k1 (lookup_adds (state_of k) key answer) is)) (trouble_leaves (state_of k) (live_vector_of (state_of k) key) answer)

-- ---- the reader

found_first : (n : ℕ) (row : ReaderRow) (rows : List ReaderRow) → row.reader ≡ n → find (λ (x : ReaderRow). x.reader == n) (row ∷ rows) ≡ Some row
found_first n row rows is = ap (λ (b : Bool). cond b (Some row) (find (λ (x : ReaderRow). x.reader == n) rows)) (eq-eqb row.reader n is)

abbrev opens_now : State → Actor → Key → List Field → Looked → State
opens_now t who key request found = state_after t (rec.ReadOpened t.next_reader who key request (answer_of_looked found))

open_as : (t : State) (who : Actor) (key : Key) (request : List Field) (found : Looked) → IfReader (λ own. IsOpenReader (opens_now t who key request found) (reading_as own)) (opened_as t.next_reader key found)
open_as t who key request (looked.Hit chosen) = record {
  row = record { actor = who.0; reader = t.next_reader; key = key; put = chosen.put; table = Some (table_of_hit t key request); next = 1 };
  found = found_first t.next_reader (record { actor = who.0; reader = t.next_reader; key = key; put = chosen.put; table = Some (table_of_hit t key request); next = 1 }) t.readers refl;
  key_is = refl;
  put_is = refl;
  next_is = refl;
  hit = refl;
  first = omega arith;
}
open_as t who key request (looked.Follow put) = record {
  row = record { actor = who.0; reader = t.next_reader; key = key; put = put; table = None; next = 1 };
  found = found_first t.next_reader (record { actor = who.0; reader = t.next_reader; key = key; put = put; table = None; next = 1 }) t.readers refl;
  key_is = refl;
  put_is = refl;
  next_is = refl;
  hit = refl;
  first = omega arith;
}
open_as t who key request (looked.Miss why) = tt

-- it has the fragments of the alternate
own_as : (t : State) (who : Actor) (key : Key) (request : List Field) (found : Looked) → Rattle.stripe_read.specs.Lookups.HasTable t key request found
    → IfReader (λ own. IsReaderOf (opens_now t who key request found) (reading_as own)) (opened_as t.next_reader key found)
own_as t who key request (looked.Hit chosen) table = record {
  actor = who.0;
  found = found_first t.next_reader (record { actor = who.0; reader = t.next_reader; key = key; put = chosen.put; table = Some (table_of_hit t key request); next = 1 }) t.readers refl
      ∙ ap (λ rows. let row : ReaderRow = record { actor = who.0; reader = t.next_reader; key = key; put = chosen.put; table = Some rows; next = 1 } in Some row) (sym table);
}
own_as t who key request (looked.Follow put) table =
    record { actor = who.0; found = found_first t.next_reader (record { actor = who.0; reader = t.next_reader; key = key; put = put; table = None; next = 1 }) t.readers refl }
own_as t who key request (looked.Miss why) table = tt

-- a hit is looked up with nothing recorded
table_behind : (k k1 : Kept) (key : Key) (request : List Field) (found : Looked) → k1 ≡ with_records k (lookup_adds (state_of k) key (answer_of_looked found)) → Rattle.stripe_read.specs.Lookups.HasTable (state_of k) key request found
    → Rattle.stripe_read.specs.Lookups.HasTable (state_of k1) key request found
table_behind k k1 key request (looked.Hit chosen) is table =
    let same : k1 ≡ k = nothing_recorded k k1 (is ∙ ap (with_records k) (hit_adds (state_of k) key chosen.put)) in
    table ∙ ap (λ x. table_of_hit (state_of x) key request) (sym same)
table_behind k k1 key request (looked.Follow put) is table = tt
table_behind k k1 key request (looked.Miss why) is table = tt

-- ---- what it tells

miss_later : (before after : ℕ) (s : State) (key : Key) (answer : ReadAnswer) → before ≤ after → MissIsCounted before s key answer → MissIsCounted after s key answer
miss_later before after s key (read.Miss why) h (inl is) = inl is
miss_later before after s key (read.Miss why) h (inr counted) = inr (trouble_later before after (live_vector_of s key) why h counted)
miss_later before after s key _ h counted = tt

tells_as : (number : ℕ) (key : Key) (found : Looked) → TellsReader reading_as number (opened_as number key found)
tells_as number key (looked.Hit chosen) = (refl, refl, refl)
tells_as number key (looked.Follow put) = (refl, refl, refl)
tells_as number key (looked.Miss why) = tt

-- ---- the call

module _ (k k0 k1 k2 : Kept) (who : Actor) (key : Key) (request : List Field) (found : Looked) (opened : Opened Reader) (same : k0 ≡ k) (looks : k1 ≡ with_records k0 (lookup_adds (state_of k0) key (answer_of_looked found)))
    (opens : k2 ≡ with_records k1 (rec.ReadOpened (state_of k1).next_reader who key request (answer_of_looked found) ∷ [])) (is : opened ≡ opened_as (state_of k1).next_reader key found) where
  looks_first : k1 ≡ with_records k (lookup_adds (state_of k) key (answer_of_looked found))
  looks_first = looks ∙ ap (λ x. with_records x (lookup_adds (state_of x) key (answer_of_looked found))) same

  number : (state_of k1).next_reader ≡ (state_of k).next_reader
  number = (looked_leaves k k1 key (answer_of_looked found) looks_first).number

  state_is : state_of k2 ≡ opens_now (state_of k1) who key request found
  state_is = state_behind k1 k2 (rec.ReadOpened (state_of k1).next_reader who key request (answer_of_looked found) ∷ []) opens

  pub begun_adds : k2 ≡ with_records k (open_adds (state_of k) who key request (answer_in opened))
  begun_adds =
      two_calls k k1 k2 (lookup_adds (state_of k) key (answer_of_looked found)) (rec.ReadOpened (state_of k1).next_reader who key request (answer_of_looked found) ∷ []) looks_first opens
      ∙ (ap (λ n. with_records k (lookup_adds (state_of k) key (answer_of_looked found) ++ rec.ReadOpened n who key request (answer_of_looked found) ∷ [])) number
      ∙ ap (λ a. with_records k (open_adds (state_of k) who key request a)) (sym (ap answer_in is ∙ answer_as (state_of k1).next_reader key found)))

  pub begun_quiet : IsQuiet (state_of k) → IsQuiet (state_of k2)
  begun_quiet quiet = subst IsQuiet (sym state_is) (quiet_now (answer_of_looked found) ((looked_leaves k k1 key (answer_of_looked found) looks_first).pending ∙ quiet))
    where
      quiet_now : (a : ReadAnswer) → IsQuiet (state_of k1) → IsQuiet (state_after (state_of k1) (rec.ReadOpened (state_of k1).next_reader who key request a))
      quiet_now a h = h

  pub begun_tells : TellsReader reading_as (state_of k).next_reader opened
  begun_tells = subst (λ n. TellsReader reading_as n opened) number (subst (TellsReader reading_as (state_of k1).next_reader) (sym is) (tells_as (state_of k1).next_reader key found))

  pub begun_reader : IfReader (λ own. IsOpenReader (state_of k2) (reading_as own)) opened
  begun_reader = subst (λ t. IfReader (λ own. IsOpenReader t (reading_as own)) opened) (sym state_is) (subst (IfReader (λ own. IsOpenReader (opens_now (state_of k1) who key request found) (reading_as own))) (sym is) (open_as (state_of k1) who key request found))

  begun_own : Rattle.stripe_read.specs.Lookups.HasTable (state_of k) key request found → IfReader (λ own. IsReaderOf (state_of k2) (reading_as own)) opened
  begun_own table =
      subst (λ t. IfReader (λ own. IsReaderOf t (reading_as own)) opened) (sym state_is)
      (subst (IfReader (λ own. IsReaderOf (opens_now (state_of k1) who key request found) (reading_as own))) (sym is) (own_as (state_of k1) who key request found (table_behind k k1 key request found looks_first table)))

  begun_does : (p : Permit) → IsQuiet (state_of k) → IsFound p (state_of k) key request found → Does p (state_of k) (Look who.0 key request) (open_adds (state_of k) who key request (answer_in opened)) Done
  begun_does p quiet h =
      subst (λ a. Does p (state_of k) (Look who.0 key request) (open_adds (state_of k) who key request a) Done) (sym (ap answer_in is ∙ answer_as (state_of k1).next_reader key found))
      (DoesLook.looks (record { who = who; before = lookup_adds (state_of k) key (answer_of_looked found); answer = answer_of_looked found; number = refl; quiet = quiet; right = h.right; is = refl }))

  pub begun_opens : (old older new newer : Device) → older.past ≡ old.past → IsStill new newer → IsQuiet (state_of k) → LooksUp (state_of k0) older new key request found → Opens (state_of k) (state_of k2) old newer who key request opened
  begun_opens old older new newer from still quiet l =
      let m : LooksUp (state_of k) older new key request found = subst (λ x. LooksUp (state_of x) older new key request found) same l in
      record {
        seen = still_seen old new newer (seen_before old older new from m.seen) still;
        does = λ p covers each.
            elim (m.answers p (subst (λ (calls : List Call). Covers p calls new.past) (sym from) (subst (Covers p old.past) still.past covers)) each) [
              | inl h ↦ inl (begun_does p quiet h, begun_own h.table)
              | inr collide ↦ (
                  let later = untold_later IsVectorAs new newer (told_before new newer still.goes) in
                  inr (key_pair_wider (Untold new IsVectorAs) (Untold newer IsVectorAs) later p (state_of k) key collide)
                  )
            ];
        counted =
            subst (MissIsCounted newer.faults (state_of k) key)
            (sym (ap answer_in is ∙ answer_as (state_of k1).next_reader key found))
            (miss_later new.faults newer.faults (state_of k) key (answer_of_looked found) (omega (arith, still.faults)) m.counted);
      }

-- ---- by what the call came to

module _ (k k0 k1 k2 : Kept) (who : Actor) (key : Key) (request : List Field) (found : Looked) (same : k0 ≡ k) (looks : k1 ≡ with_records k0 (lookup_adds (state_of k0) key (answer_of_looked found))) where
  abbrev AddsIt : Result (Opened Reader) AllocError → Type 0
  AddsIt r = IfOk r (λ (opened : Opened Reader). k2 ≡ with_records k1 (rec.ReadOpened (state_of k1).next_reader who key request (answer_of_looked found) ∷ []))

  abbrev OpensIt : Result (Opened Reader) AllocError → Type 0
  OpensIt r = IfOk r (λ opened. opened ≡ opened_as (state_of k1).next_reader key found)

  pub quiet_then : (r : Result (Opened Reader) AllocError) → AddsIt r → OpensIt r → IsOk r → IsQuiet (state_of k) → IsQuiet (state_of k2)
  quiet_then (Ok opened) adds opens ok quiet = begun_quiet k k0 k1 k2 who key request found opened same looks adds opens quiet
  quiet_then (Err e) adds opens ok quiet = cc

  pub adds_then : (r : Result (Opened Reader) AllocError) → AddsIt r → OpensIt r → IfOk r (λ opened. k2 ≡ with_records k (open_adds (state_of k) who key request (answer_in opened)))
  adds_then (Ok opened) adds opens = begun_adds k k0 k1 k2 who key request found opened same looks adds opens
  adds_then (Err e) adds opens = tt

  pub reader_then : (r : Result (Opened Reader) AllocError) → AddsIt r → OpensIt r → IfOk r (IfReader (λ own. IsOpenReader (state_of k2) (reading_as own)))
  reader_then (Ok opened) adds opens = begun_reader k k0 k1 k2 who key request found opened same looks adds opens
  reader_then (Err e) adds opens = tt

  pub opens_then : (old older new newer : Device) (r : Result (Opened Reader) AllocError) → AddsIt r → OpensIt r → older.past ≡ old.past → IsStill new newer → IsQuiet (state_of k) → LooksUp (state_of k0) older new key request found
      → IfOk r (Opens (state_of k) (state_of k2) old newer who key request)
  opens_then old older new newer (Ok opened) adds opens from still quiet l = begun_opens k k0 k1 k2 who key request found opened same looks adds opens old older new newer from still quiet l
  opens_then old older new newer (Err e) adds opens from still quiet l = tt

  pub tells_then : (r : Result (Opened Reader) AllocError) → AddsIt r → OpensIt r → IfOk r (TellsReader reading_as (state_of k).next_reader)
  tells_then (Ok opened) adds opens = begun_tells k k0 k1 k2 who key request found opened same looks adds opens
  tells_then (Err e) adds opens = tt

-- memory is not wanting
pub never_fails : (r : Result (Opened Reader) AllocError) (P : Type 0) → IsOk r → OnErr r P
never_fails (Ok opened) P ok = tt
never_fails (Err e) P ok = cc
