-- What is kept has numbers that were given, after each call.
use Rattle.std.proofs.Common.{◌≡◌, ℕ, ◌+◌, ◌-◌, ◌<◌, ◌≤◌, true, false, cond, List, [], ◌∷◌, ◌++◌, Option, Some, None, sym, subst, arith}
use Rattle.std.specs.Prelude.{Bool}
use Rattle.fragment_table.specs.Table.{TableRow}
use Rattle.open_directory.specs.declared.kept.KeptPut.{KeptPut}
use Rattle.open_directory.specs.declared.kept.Reader.{Reader}
use Rattle.open_directory.specs.declared.kept.Writer.{Writer}
use Rattle.open_directory.specs.declared.kept.Phase.{Phase}
use Rattle.open_directory.specs.Directory.{Held, changed, ended, held_without_reader, is_kept_open, kept_with_cut, moved, new_put, new_reader, one_fewer, puts_without, reader_at, with_cuts, with_follower, with_followers, with_open_writer, with_phase, with_reader, with_reader_room, with_room, without_done}
use Rattle.cache_model.specs.Room.{limit}
use Rattle.stripe_actors.specs.Actors.{HasGivenNumbers, RiseWithin}
use Rattle.stripe_actors.proofs.Numbered.{rise_changed, rise_inserted, rise_removed, rise_unless_done}
use Rattle.stripe_actors.proofs.InStep.{seen_of}

-- a longer range
rise_to : {X : Type 0} (low high above : ℕ) (es : List (ℕ × X)) → high ≤ above → RiseWithin low high es → RiseWithin low above es
rise_to low high above [] le h = let k : low ≤ high = h in omega arith
rise_to low high above (e ∷ es) le h = (h.0, rise_to (e.0 + 1) high above es le h.1)

pub begun_numbered : (held : Held) → held.puts ≡ [] → held.readers ≡ [] → HasGivenNumbers (seen_of held 1 1)
begun_numbered held puts readers = record {
  puts = subst (λ (es : List (ℕ × KeptPut)). RiseWithin 1 1 es) (sym puts) (omega arith);
  readers = subst (λ (es : List (ℕ × Reader)). RiseWithin 1 1 es) (sym readers) (omega arith);
  below = omega arith;
}

pub behind_numbered : (held : Held) (next_put : ℕ) → held.puts ≡ [] → held.readers ≡ [] → 1 ≤ next_put → next_put < limit → HasGivenNumbers (seen_of held next_put 1)
behind_numbered held next_put puts readers some below = record {
  puts = subst (λ (es : List (ℕ × KeptPut)). RiseWithin 1 next_put es) (sym puts) some;
  readers = subst (λ (es : List (ℕ × Reader)). RiseWithin 1 1 es) (sym readers) (omega arith);
  below = below;
}

pub opened_numbered : (held new : Held) (put next_reader room : ℕ) (writer : Writer) → writer.put ≡ put → put + 1 < limit → new ≡ with_open_writer writer room held
    → HasGivenNumbers (seen_of held put next_reader) → HasGivenNumbers (seen_of new (put + 1) next_reader)
opened_numbered held new put next_reader room writer numbered below is h =
    subst (λ (x : Held). HasGivenNumbers (seen_of x (put + 1) next_reader)) (sym is) (record {
      puts = rw numbered (rise_inserted put 1 (new_put room) held.puts h.puts);
      readers = h.readers;
      below = below;
    })

-- the puts are changed, and the readers are as they were
changed_numbered : (held new : Held) (next_put next_reader n : ℕ) (f : KeptPut → KeptPut) → new ≡ record held { puts = changed f n held.puts }
    → HasGivenNumbers (seen_of held next_put next_reader) → HasGivenNumbers (seen_of new next_put next_reader)
changed_numbered held new next_put next_reader n f is h =
    subst (λ (x : Held). HasGivenNumbers (seen_of x next_put next_reader)) (sym is) (record {
      puts = rise_changed f n 1 next_put held.puts h.puts;
      readers = h.readers;
      below = h.below;
    })

pub room_numbered : (held new : Held) (next_put next_reader put room : ℕ) → new ≡ record held { puts = with_room put room held.puts }
    → HasGivenNumbers (seen_of held next_put next_reader) → HasGivenNumbers (seen_of new next_put next_reader)
room_numbered held new next_put next_reader put room is h = changed_numbered held new next_put next_reader put (λ kept. with_cuts kept.cuts.rows room kept) is h

pub cut_numbered : (held new : Held) (next_put next_reader put room : ℕ) (row : TableRow) → new ≡ record held { puts = kept_with_cut put row room held.puts }
    → HasGivenNumbers (seen_of held next_put next_reader) → HasGivenNumbers (seen_of new next_put next_reader)
cut_numbered held new next_put next_reader put room row is h = changed_numbered held new next_put next_reader put (λ kept. with_cuts (kept.cuts.rows ++ row ∷ []) room kept) is h

pub ended_numbered : (held new : Held) (next_put next_reader put : ℕ) (phase : Phase) → new ≡ ended phase put held
    → HasGivenNumbers (seen_of held next_put next_reader) → HasGivenNumbers (seen_of new next_put next_reader)
ended_numbered held new next_put next_reader put phase is h =
    subst (λ (x : Held). HasGivenNumbers (seen_of x next_put next_reader)) (sym is) (record {
      puts = rise_unless_done put 1 next_put (changed (with_phase phase) put held.puts) (rise_changed (with_phase phase) put 1 next_put held.puts h.puts);
      readers = h.readers;
      below = h.below;
    })

pub reader_room_numbered : (held new : Held) (next_put next_reader room : ℕ) → new ≡ with_reader_room room held
    → HasGivenNumbers (seen_of held next_put next_reader) → HasGivenNumbers (seen_of new next_put next_reader)
reader_room_numbered held new next_put next_reader room is h =
    subst (λ (x : Held). HasGivenNumbers (seen_of x next_put next_reader)) (sym is) (record { puts = h.puts; readers = h.readers; below = h.below })

pub reading_numbered : (held new : Held) (next_put reader put room : ℕ) → new ≡ with_reader_room room (with_reader reader put 1 held)
    → HasGivenNumbers (seen_of held next_put reader) → HasGivenNumbers (seen_of new next_put (reader + 1))
reading_numbered held new next_put reader put room is h =
    subst (λ (x : Held). HasGivenNumbers (seen_of x next_put (reader + 1))) (sym is) (record {
      puts = by_open (is_kept_open put held.puts);
      readers = rise_inserted reader 1 (new_reader put 1 held.puts) held.readers h.readers;
      below = h.below;
    })
  where
    by_open : (b : Bool) → RiseWithin 1 next_put (cond b (with_follower put held.puts) held.puts)
    by_open true = rise_changed (λ kept. with_followers (kept.followers + 1) kept) put 1 next_put held.puts h.puts
    by_open false = h.puts

pub missed_numbered : (held : Held) (next_put reader : ℕ) → HasGivenNumbers (seen_of held next_put reader) → HasGivenNumbers (seen_of held next_put (reader + 1))
missed_numbered held next_put reader h = record { puts = h.puts; readers = rise_to 1 reader (reader + 1) held.readers (omega arith) h.readers; below = h.below }

pub moved_numbered : (held new : Held) (next_put next_reader reader next : ℕ) → new ≡ moved reader next held
    → HasGivenNumbers (seen_of held next_put next_reader) → HasGivenNumbers (seen_of new next_put next_reader)
moved_numbered held new next_put next_reader reader next is h =
    subst (λ (x : Held). HasGivenNumbers (seen_of x next_put next_reader)) (sym is) (record {
      puts = h.puts;
      readers = rise_changed (λ (r : Reader). record r { next = next }) reader 1 next_reader held.readers h.readers;
      below = h.below;
    })

pub left_numbered : (held new : Held) (next_put next_reader reader room : ℕ) → new ≡ with_reader_room room (held_without_reader reader held)
    → HasGivenNumbers (seen_of held next_put next_reader) → HasGivenNumbers (seen_of new next_put next_reader)
left_numbered held new next_put next_reader reader room is h =
    subst (λ (x : Held). HasGivenNumbers (seen_of x next_put next_reader)) (sym is) (record {
      puts = by_reader (reader_at reader held);
      readers = rise_removed reader 1 next_reader held.readers h.readers;
      below = h.below;
    })
  where
    by_follows : (put : ℕ) (b : Bool) → RiseWithin 1 next_put (cond b (without_done put (one_fewer put held.puts)) held.puts)
    by_follows put true =
        rise_unless_done put 1 next_put (one_fewer put held.puts) (rise_changed (λ kept. with_followers (kept.followers - 1) kept) put 1 next_put held.puts h.puts)
    by_follows put false = h.puts

    by_reader : (o : Option Reader) → RiseWithin 1 next_put (puts_without o held.puts)
    by_reader None = h.puts
    by_reader (Some r) = by_follows r.put r.follows
