-- Each call keeps the actors in step with the records.
use Rattle.std.proofs.Common.{◌≡◌, ◌≤◌, ℕ, ◌+◌, ◌-◌, true, false, cond, List, [], ◌∷◌, ◌++◌, Option, Some, None, refl, sym, ap, subst, ◌∙◌, arith}
use Rattle.std.specs.Prelude.{Bool, not, ◌==◌, OnErr, Result, Ok, Err, option_map}
use Rattle.std.specs.Map.{lookup}
use Rattle.tape_base.specs.declared.keys.Key.{Key}
use Rattle.tape_base.specs.declared.actors.Actor.{Actor}
use Rattle.tape_base.specs.declared.digests.Digest.{Digest}
use Rattle.tape_base.specs.declared.geometries.Geometry.{Geometry}
use Rattle.alternate_vector.specs.Field.{Field}
use Rattle.alternate_vector.specs.Alternates.{Stored}
use Rattle.fragment_table.specs.Table.{TableRow, made_row}
use Rattle.open_directory.specs.declared.kept.Writer.{Writer}
use Rattle.open_directory.specs.declared.kept.KeptPut.{KeptPut}
use Rattle.open_directory.specs.declared.kept.Reader.{Reader}
use Rattle.open_directory.specs.Directory.{Held, changed, is_number, is_kept_open, kept_put, new_put, new_reader, one_fewer, with_follower, with_open_writer, puts_without, reader_at, unless_done, with_cuts, with_followers, with_phase, with_reader, with_reader_room, with_room, without_done, held_without_reader, moved, ended as ended_in, kept_with_cut as cut_in}
use Rattle.cache_model.specs.declared.cause.Cause.{Cause}
use Rattle.cache_model.specs.declared.answer.ReadAnswer.TheVariants as read
use Rattle.cache_model.specs.declared.record.Rec.TheVariants as rec
use Rattle.cache_model.specs.State.{PutRow, ReaderRow, State, Writing, Closed, GivenUp, after_all, change_put, nothing_yet, opened_put, put_of, reader_of, state_after, table_of_hit, with_writing, with_cut as cut_row}
use Rattle.cache_model.specs.Verdict.{is_open as is_open_row}
use Rattle.cache_model.specs.Opening.{Opening}
use Rattle.cache_model.specs.Openings.{opened_records}
use Rattle.cache_model.specs.Legal.{format_records}
use Rattle.stripe_actors.specs.Actors.{ActorsSeen, AreActors, IsKeptAs, IsPutOf, IsReaderOfRow, NumbersFallBelow, RiseWithin, phase_of_put, put_numbers, reader_numbers}
use Rattle.open_directory.proofs.Rising.{found_inserted, found_removed}
use Rattle.open_directory.proofs.Standing.{eq_number}
use Rattle.stripe_actors.proofs.Numbered.{found_changed, found_unless_done, rise_changed, rises_within}
use Rattle.stripe_actors.proofs.Rows.{fall_from, fall_without, numbers-changed, writers-cut, writers-ended}
use Rattle.cache_model.proofs.ByNumber.{find-changed, find-without}
use Rattle.stripe_actors.proofs.Kept.{kept_along, kept_anew, kept_either, kept_mapped, kept_or, kept_unless_done, reader_along, reader_either, reader_mapped}

abbrev pub seen_of : Held → ℕ → ℕ → ActorsSeen
seen_of held next_put next_reader = record { held = held; next_put = next_put; next_reader = next_reader }

-- only these four of a state's values speak of actors
pub alike_in_step : (s t : State) (a : ActorsSeen) → t.puts ≡ s.puts → t.readers ≡ s.readers → t.next_put ≡ s.next_put → t.next_reader ≡ s.next_reader → AreActors s a → AreActors t a
alike_in_step s t a puts readers next_put next_reader h = record {
  next_put = h.next_put ∙ sym next_put;
  next_reader = h.next_reader ∙ sym next_reader;
  writers = rw puts h.writers;
  puts = λ q. rw puts (h.puts q);
  readers = λ q. rw readers (h.readers q);
  puts_fall = rw (puts, next_put) h.puts_fall;
  readers_fall = rw (readers, next_reader) h.readers_fall;
}

-- ---- nobody

pub begun_in_step : (geometry : Geometry) (held : Held) → held.writers ≡ [] → held.puts ≡ [] → held.readers ≡ [] → AreActors (after_all nothing_yet (format_records geometry)) (seen_of held 1 1)
begun_in_step geometry held writers puts readers = record {
  next_put = refl;
  next_reader = refl;
  writers = writers;
  puts = λ q. subst (λ (es : List (ℕ × KeptPut)). IsKeptAs None (kept_put q es)) (sym puts) tt;
  readers = λ q. reader_along None None None (lookup (is_number q) held.readers) refl (ap (λ (es : List (ℕ × Reader)). lookup (is_number q) es) readers) tt;
  puts_fall = omega arith;
  readers_fall = omega arith;
}

-- so at the beginning that an opening makes: it knows no put and no reader
pub behind_in_step : (geometry : Geometry) (o : Opening) (held : Held) (next_put : ℕ) → held.writers ≡ [] → held.puts ≡ [] → held.readers ≡ [] → 1 ≤ next_put
    → o.next_put ≡ next_put → AreActors (after_all nothing_yet (opened_records geometry o)) (seen_of held next_put 1)
behind_in_step geometry o held next_put writers puts readers some same = record {
  next_put = sym same;
  next_reader = refl;
  writers = writers;
  puts = λ q. subst (λ (es : List (ℕ × KeptPut)). IsKeptAs None (kept_put q es)) (sym puts) tt;
  readers = λ q. reader_along None None None (lookup (is_number q) held.readers) refl (ap (λ (es : List (ℕ × Reader)). lookup (is_number q) es) readers) tt;
  puts_fall = omega (arith, some, same);
  readers_fall = omega arith;
}

-- ---- writers

abbrev pub new_writer : ℕ → Key → List Field → List Field → Writer
new_writer put key request response = record { put = put; key = key; request = request; response = response }

pub opened_in_step : (s : State) (held new : Held) (put next_reader room : ℕ) (who : Actor) (key : Key) (request response : List Field) (pin : ℕ)
    → new ≡ with_open_writer (new_writer put key request response) room held
    → AreActors s (seen_of held put next_reader)
    → AreActors (state_after s (rec.WriteOpened who put key request response pin)) (seen_of new (put + 1) next_reader)
opened_in_step s held new put next_reader room who key request response pin is h =
    subst (λ (x : Held). AreActors (state_after s (rec.WriteOpened who put key request response pin)) (seen_of x (put + 1) next_reader)) (sym is) (record {
      next_put = refl;
      next_reader = h.next_reader;
      writers = ap (λ (ws : List Writer). ws ++ new_writer put key request response ∷ []) h.writers;
      puts = λ q. kept_along _ _ _ _
          (ap (λ (b : Bool). cond b (Some row) (put_of s q)) (eq_number put q))
          (found_inserted q put (new_put room) held.puts)
          (kept_either (is_number put q) (Some row) (put_of s q) (Some (new_put room)) (kept_put q held.puts) same (h.puts q));
      readers = h.readers;
      puts_fall = (omega arith, subst (λ (n : ℕ). NumbersFallBelow n (put_numbers s.puts)) (sym h.next_put) h.puts_fall);
      readers_fall = h.readers_fall;
    })
  where
    row : PutRow
    row = opened_put who.0 put key request response pin

    same : IsPutOf (opened_put who.0 put key request response pin) (new_put room)
    same = record { standing = refl; cuts = refl }

pub room_in_step : (s : State) (held new : Held) (next_put next_reader put room : ℕ) → new ≡ record held { puts = with_room put room held.puts }
    → AreActors s (seen_of held next_put next_reader) → AreActors s (seen_of new next_put next_reader)
room_in_step s held new next_put next_reader put room is h =
    subst (λ (x : Held). AreActors s (seen_of x next_put next_reader)) (sym is) (record {
      next_put = h.next_put;
      next_reader = h.next_reader;
      writers = h.writers;
      puts = λ q. kept_along _ _ _ _ refl (found_changed roomy put q held.puts)
          (kept_or (is_number put q) (put_of s q) (option_map roomy (kept_put q held.puts)) (kept_put q held.puts) (kept_anew roomy same (put_of s q) (kept_put q held.puts) (h.puts q)) (h.puts q));
      readers = h.readers;
      puts_fall = h.puts_fall;
      readers_fall = h.readers_fall;
    })
  where
    roomy : KeptPut → KeptPut
    roomy = λ kept. with_cuts kept.cuts.rows room kept

    same : (p : PutRow) (kept : KeptPut) → IsPutOf p kept → IsPutOf p (with_cuts kept.cuts.rows room kept)
    same p kept g = record { standing = g.standing; cuts = g.cuts }

pub cut_in_step : (s : State) (held new : Held) (next_put next_reader put index length room : ℕ) (digest : Digest)
    → new ≡ record held { puts = cut_in put (made_row length digest.0) room held.puts }
    → AreActors s (seen_of held next_put next_reader) → AreActors (state_after s (rec.Cut put index length digest)) (seen_of new next_put next_reader)
cut_in_step s held new next_put next_reader put index length room digest is h =
    subst (λ (x : Held). AreActors (state_after s (rec.Cut put index length digest)) (seen_of x next_put next_reader)) (sym is) (record {
      next_put = h.next_put;
      next_reader = h.next_reader;
      writers = h.writers ∙ sym (writers-cut put row s.puts);
      puts = λ q. kept_along _ _ _ _
          (find-changed (λ (p : PutRow). p.put) (cut_row row) (λ p. refl) put q s.puts ∙ ap (λ (b : Bool). cond b (option_map (cut_row row) (put_of s q)) (put_of s q)) (eq_number put q))
          (found_changed longer put q held.puts)
          (kept_either (is_number put q) (option_map (cut_row row) (put_of s q)) (put_of s q) (option_map longer (kept_put q held.puts)) (kept_put q held.puts)
          (kept_mapped (cut_row row) longer (λ p o. o) same (put_of s q) (kept_put q held.puts) (h.puts q)) (h.puts q));
      readers = h.readers;
      puts_fall = subst (λ (ns : List ℕ). NumbersFallBelow s.next_put ns) (sym (numbers-changed (λ (p : PutRow). p.put) (cut_row row) (λ p. refl) put s.puts)) h.puts_fall;
      readers_fall = h.readers_fall;
    })
  where
    row : TableRow
    row = made_row length digest.0

    longer : KeptPut → KeptPut
    longer = λ kept. with_cuts (kept.cuts.rows ++ made_row length digest.0 ∷ []) room kept

    same : (p : PutRow) (kept : KeptPut) → IsPutOf p kept → IsPutOf (cut_row (made_row length digest.0) p) (with_cuts (kept.cuts.rows ++ made_row length digest.0 ∷ []) room kept)
    same p kept g = record { standing = g.standing; cuts = ap (λ (rows : List TableRow). rows ++ made_row length digest.0 ∷ []) g.cuts }

-- the put of a writer that ends
ended_in_step : (s : State) (held new : Held) (next_put next_reader put : ℕ) (writing : Writing) → ((p : PutRow) → is_open_row (with_writing writing p) ≡ false)
    → RiseWithin 1 next_put held.puts → new ≡ ended_in (phase_of_put writing) put held
    → AreActors s (seen_of held next_put next_reader) → AreActors (record s { puts = change_put put (with_writing writing) s.puts }) (seen_of new next_put next_reader)
ended_in_step s held new next_put next_reader put writing ends rise is h =
    subst (λ (x : Held). AreActors (record s { puts = change_put put (with_writing writing) s.puts }) (seen_of x next_put next_reader)) (sym is) (record {
      next_put = h.next_put;
      next_reader = h.next_reader;
      writers = ap (λ (ws : List Writer). ended_writers ws) h.writers ∙ sym (writers-ended writing ends put s.puts);
      puts = λ q. kept_along _ _ _ _
          (find-changed (λ (p : PutRow). p.put) (with_writing writing) (λ p. refl) put q s.puts ∙ ap (λ (b : Bool). cond b (option_map (with_writing writing) (put_of s q)) (put_of s q)) (eq_number put q))
          (found_unless_done put q 1 next_put phased (rise_changed (with_phase (phase_of_put writing)) put 1 next_put held.puts rise) ∙ again q (is_number put q) refl)
          (kept_either (is_number put q) (option_map (with_writing writing) (put_of s q)) (put_of s q) (unless_done (option_map (with_phase (phase_of_put writing)) (kept_put q held.puts))) (kept_put q held.puts)
          (kept_unless_done (option_map (with_writing writing) (put_of s q)) (option_map (with_phase (phase_of_put writing)) (kept_put q held.puts))
          (kept_mapped (with_writing writing) (with_phase (phase_of_put writing)) (λ p o. ends p) same (put_of s q) (kept_put q held.puts) (h.puts q)))
          (h.puts q));
      readers = h.readers;
      puts_fall = subst (λ (ns : List ℕ). NumbersFallBelow s.next_put ns) (sym (numbers-changed (λ (p : PutRow). p.put) (with_writing writing) (λ p. refl) put s.puts)) h.puts_fall;
      readers_fall = h.readers_fall;
    })
  where
    phased : List (ℕ × KeptPut)
    phased = changed (with_phase (phase_of_put writing)) put held.puts

    ended_writers : List Writer → List Writer
    ended_writers = λ ws. (ended_in (phase_of_put writing) put (record held { writers = ws })).writers

    same : (p : PutRow) (kept : KeptPut) → IsPutOf p kept → IsPutOf (with_writing writing p) (with_phase (phase_of_put writing) kept)
    same p kept g = record { standing = refl; cuts = g.cuts }

    again : (q : ℕ) (b : Bool) → is_number put q ≡ b
        → cond (is_number put q) (unless_done (kept_put q (changed (with_phase (phase_of_put writing)) put held.puts))) (kept_put q (changed (with_phase (phase_of_put writing)) put held.puts))
        ≡ cond (is_number put q) (unless_done (option_map (with_phase (phase_of_put writing)) (kept_put q held.puts)))
        (kept_put q held.puts)
    again q true t =
        ap (λ (o : Option KeptPut). cond (is_number put q) (unless_done o) o) (found_changed (with_phase (phase_of_put writing)) put q held.puts) ∙ rw t refl
    again q false t =
        ap (λ (o : Option KeptPut). cond (is_number put q) (unless_done o) o) (found_changed (with_phase (phase_of_put writing)) put q held.puts) ∙ rw t refl

pub closed_in_step : (s : State) (held new : Held) (next_put next_reader put : ℕ) (key : Key) (length : ℕ) (list : List Stored)
    → RiseWithin 1 next_put held.puts → new ≡ ended_in (phase_of_put Closed) put held
    → AreActors s (seen_of held next_put next_reader) → AreActors (state_after s (rec.Committed put key length list)) (seen_of new next_put next_reader)
closed_in_step s held new next_put next_reader put key length list rise is h =
    alike_in_step (record s { puts = change_put put (with_writing Closed) s.puts }) (state_after s (rec.Committed put key length list)) (seen_of new next_put next_reader) refl refl refl refl
    (ended_in_step s held new next_put next_reader put Closed (λ p. refl) rise is h)

pub aborted_in_step : (s : State) (held new : Held) (next_put next_reader put : ℕ) (key : Key)
    → RiseWithin 1 next_put held.puts → new ≡ ended_in (phase_of_put GivenUp) put held
    → AreActors s (seen_of held next_put next_reader) → AreActors (state_after s (rec.Aborted put key)) (seen_of new next_put next_reader)
aborted_in_step s held new next_put next_reader put key rise is h =
    alike_in_step (record s { puts = change_put put (with_writing GivenUp) s.puts }) (state_after s (rec.Aborted put key)) (seen_of new next_put next_reader) refl refl refl refl
    (ended_in_step s held new next_put next_reader put GivenUp (λ p. refl) rise is h)

-- ---- readers

pub on_err : {X E P : Type 0} (r : Result X E) → P → OnErr r P
on_err (Ok x) p = tt
on_err (Err e) p = p

pub reader_room_in_step : (s : State) (held new : Held) (next_put next_reader room : ℕ) → new ≡ with_reader_room room held
    → AreActors s (seen_of held next_put next_reader) → AreActors s (seen_of new next_put next_reader)
reader_room_in_step s held new next_put next_reader room is h =
    subst (λ (x : Held). AreActors s (seen_of x next_put next_reader)) (sym is) (record {
      next_put = h.next_put;
      next_reader = h.next_reader;
      writers = h.writers;
      puts = h.puts;
      readers = h.readers;
      puts_fall = h.puts_fall;
      readers_fall = h.readers_fall;
    })

reading_in_step : (s : State) (held new : Held) (next_put reader put room : ℕ) (row : ReaderRow) → row.reader ≡ reader → IsReaderOfRow row (new_reader put 1 held.puts)
    → new ≡ with_reader_room room (with_reader reader put 1 held)
    → AreActors s (seen_of held next_put reader) → AreActors (record s { readers = row ∷ s.readers; next_reader = reader + 1 }) (seen_of new next_put (reader + 1))
reading_in_step s held new next_put reader put room row numbered same is h =
    subst (λ (x : Held). AreActors (record s { readers = row ∷ s.readers; next_reader = reader + 1 }) (seen_of x next_put (reader + 1))) (sym is) (record {
      next_put = h.next_put;
      next_reader = refl;
      writers = h.writers;
      puts = λ q. by_open q (is_kept_open put held.puts);
      readers = λ q. reader_along _ _ _ _
          (ap (λ (i : ℕ). cond (i == q) (Some row) (reader_of s q)) numbered ∙ ap (λ (b : Bool). cond b (Some row) (reader_of s q)) (eq_number reader q))
          (found_inserted q reader (new_reader put 1 held.puts) held.readers)
          (reader_either (is_number reader q) (Some row) (reader_of s q) (Some (new_reader put 1 held.puts)) (reader_at q held) same (h.readers q));
      puts_fall = h.puts_fall;
      readers_fall = (omega arith, subst (λ (n : ℕ). NumbersFallBelow n (reader_numbers s.readers)) (sym h.next_reader ∙ sym numbered) h.readers_fall);
    })
  where
    more : KeptPut → KeptPut
    more = λ kept. with_followers (kept.followers + 1) kept

    kept_same : (p : PutRow) (kept : KeptPut) → IsPutOf p kept → IsPutOf p (with_followers (kept.followers + 1) kept)
    kept_same p kept g = record { standing = g.standing; cuts = g.cuts }

    by_open : (q : ℕ) (b : Bool) → IsKeptAs (put_of s q) (kept_put q (cond b (with_follower put held.puts) held.puts))
    by_open q true = kept_along _ _ _ _ refl (found_changed more put q held.puts)
        (kept_or (is_number put q) (put_of s q) (option_map more (kept_put q held.puts)) (kept_put q held.puts) (kept_anew more kept_same (put_of s q) (kept_put q held.puts) (h.puts q)) (h.puts q))
    by_open q false = h.puts q

pub hit_in_step : (s : State) (held new : Held) (next_put reader put room : ℕ) (who : Actor) (key : Key) (request : List Field)
    → new ≡ with_reader_room room (with_reader reader put 1 held)
    → AreActors s (seen_of held next_put reader) → AreActors (state_after s (rec.ReadOpened reader who key request (read.Hit put))) (seen_of new next_put (reader + 1))
hit_in_step s held new next_put reader put room who key request is h =
    reading_in_step s held new next_put reader put room (record { actor = who.0; reader = reader; key = key; put = put; table = Some (table_of_hit s key request); next = 1 })
    refl (record { put = refl; next = refl; counted = omega arith; follows = λ none. absurd (cc) }) is h

pub follow_in_step : (s : State) (held new : Held) (next_put reader put room : ℕ) (who : Actor) (key : Key) (request : List Field) → is_kept_open put held.puts ≡ true
    → new ≡ with_reader_room room (with_reader reader put 1 held)
    → AreActors s (seen_of held next_put reader) → AreActors (state_after s (rec.ReadOpened reader who key request (read.Follow put))) (seen_of new next_put (reader + 1))
follow_in_step s held new next_put reader put room who key request open_now is h =
    reading_in_step s held new next_put reader put room (record { actor = who.0; reader = reader; key = key; put = put; table = None; next = 1 })
    refl (record { put = refl; next = refl; counted = omega arith; follows = λ none. open_now }) is h

pub missed_in_step : (s : State) (held : Held) (next_put reader : ℕ) (who : Actor) (key : Key) (request : List Field) (why : Cause)
    → AreActors s (seen_of held next_put reader) → AreActors (state_after s (rec.ReadOpened reader who key request (read.Miss why))) (seen_of held next_put (reader + 1))
missed_in_step s held next_put reader who key request why h = record {
  next_put = h.next_put;
  next_reader = refl;
  writers = h.writers;
  puts = h.puts;
  readers = h.readers;
  puts_fall = h.puts_fall;
  readers_fall = let same : reader ≡ s.next_reader = h.next_reader in fall_from s.next_reader (reader + 1) (reader_numbers s.readers) (omega arith) h.readers_fall;
}

pub gave_in_step : (s : State) (held new : Held) (next_put next_reader reader index length : ℕ) → new ≡ moved reader (index + 1) held
    → AreActors s (seen_of held next_put next_reader) → AreActors (state_after s (rec.Gave reader index length)) (seen_of new next_put next_reader)
gave_in_step s held new next_put next_reader reader index length is h =
    subst (λ (x : Held). AreActors (state_after s (rec.Gave reader index length)) (seen_of x next_put next_reader)) (sym is) (record {
      next_put = h.next_put;
      next_reader = h.next_reader;
      writers = h.writers;
      puts = h.puts;
      readers = λ q. reader_along _ _ _ _
          (find-changed (λ (r : ReaderRow). r.reader) further (λ r. refl) reader q s.readers ∙ ap (λ (b : Bool). cond b (option_map further (reader_of s q)) (reader_of s q)) (eq_number reader q))
          (found_changed onward reader q held.readers)
          (reader_either (is_number reader q) (option_map further (reader_of s q)) (reader_of s q) (option_map onward (reader_at q held)) (reader_at q held)
          (reader_mapped further onward same (reader_of s q) (reader_at q held) (h.readers q)) (h.readers q));
      puts_fall = h.puts_fall;
      readers_fall = subst (λ (ns : List ℕ). NumbersFallBelow s.next_reader ns) (sym (numbers-changed (λ (r : ReaderRow). r.reader) further (λ r. refl) reader s.readers)) h.readers_fall;
    })
  where
    further : ReaderRow → ReaderRow
    further = λ r. record r { next = index + 1 }

    onward : Reader → Reader
    onward = λ r. record r { next = index + 1 }

    same : (row : ReaderRow) (r : Reader) → IsReaderOfRow row r
        → IsReaderOfRow (record row { next = index + 1 }) (record r { next = index + 1 })
    same row r g = record { put = g.put; next = refl; counted = omega arith; follows = g.follows }

pub left_in_step : (s : State) (held new : Held) (next_put next_reader reader room : ℕ) → RiseWithin 1 next_put held.puts → RiseWithin 1 next_reader held.readers
    → new ≡ with_reader_room room (held_without_reader reader held)
    → AreActors s (seen_of held next_put next_reader) → AreActors (state_after s (rec.ReadClosed reader)) (seen_of new next_put next_reader)
left_in_step s held new next_put next_reader reader room puts_rise readers_rise is h =
    subst (λ (x : Held). AreActors (state_after s (rec.ReadClosed reader)) (seen_of x next_put next_reader)) (sym is) (record {
      next_put = h.next_put;
      next_reader = h.next_reader;
      writers = h.writers;
      puts = λ q. by_reader q (reader_at reader held);
      readers = λ q. reader_along _ _ _ _
          (find-without (λ (r : ReaderRow). r.reader) reader q s.readers ∙ ap (λ (b : Bool). cond b None (reader_of s q)) (eq_number reader q))
          (found_removed reader q 1 held.readers (rises_within 1 next_reader held.readers readers_rise))
          (reader_either (is_number reader q) None (reader_of s q) None (reader_at q held) tt (h.readers q));
      puts_fall = h.puts_fall;
      readers_fall = fall_without (λ (r : ReaderRow). r.reader) (λ (r : ReaderRow). not (r.reader == reader)) s.next_reader s.readers h.readers_fall;
    })
  where
    fewer : KeptPut → KeptPut
    fewer = λ kept. with_followers (kept.followers - 1) kept

    kept_same : (p : PutRow) (kept : KeptPut) → IsPutOf p kept → IsPutOf p (with_followers (kept.followers - 1) kept)
    kept_same p kept g = record { standing = g.standing; cuts = g.cuts }

    fewer_kept : (put q : ℕ) → IsKeptAs (put_of s q) (kept_put q (one_fewer put held.puts))
    fewer_kept put q = kept_along _ _ _ _ refl (found_changed fewer put q held.puts)
        (kept_or (is_number put q) (put_of s q) (option_map fewer (kept_put q held.puts)) (kept_put q held.puts) (kept_anew fewer kept_same (put_of s q) (kept_put q held.puts) (h.puts q)) (h.puts q))

    by_follows : (q put : ℕ) (b : Bool) → IsKeptAs (put_of s q) (kept_put q (cond b (without_done put (one_fewer put held.puts)) held.puts))
    by_follows q put true = kept_along _ _ _ _ refl (found_unless_done put q 1 next_put (one_fewer put held.puts) (rise_changed fewer put 1 next_put held.puts puts_rise))
        (kept_or (is_number put q) (put_of s q) (unless_done (kept_put q (one_fewer put held.puts))) (kept_put q (one_fewer put held.puts))
        (kept_unless_done (put_of s q) (kept_put q (one_fewer put held.puts)) (fewer_kept put q)) (fewer_kept put q))
    by_follows q put false = h.puts q

    by_reader : (q : ℕ) (o : Option Reader) → IsKeptAs (put_of s q) (kept_put q (puts_without o held.puts))
    by_reader q None = h.puts q
    by_reader q (Some r) = by_follows q r.put r.follows
