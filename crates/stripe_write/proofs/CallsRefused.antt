-- What a call of a writer comes to where it is refused.
use Rattle.std.proofs.Common.{◌≡◌, ◌<◌, ℕ, Bool, false, List, length, refl, sym, subst, Result, Ok, Err, IfErr, IfOk}
use Rattle.std.specs.declared.alloc.AllocError.{AllocError}
use Rattle.tape_base.specs.declared.actors.Actor.{Actor}
use Rattle.tape_base.specs.declared.keys.Key.{Key}
use Rattle.logged_disk.specs.declared.device.Disk.{Ghosts as DiskGhosts}
use Rattle.dir_table.specs.declared.directory.Directory.{Ghosts as DirectoryGhosts}
use Rattle.cache_chronicle.specs.declared.chronicle.Chronicle.{Ghosts as ChronicleGhosts}
use Rattle.alternate_vector.specs.Field.{Field}
use Rattle.cache_model.specs.Kept.{state_of}
use Rattle.cache_model.specs.State.{State, most_fragments}
use Rattle.held_pieces.specs.Still.{IsStill}
use Rattle.cache_answers.specs.declared.answers.Refusal.{Refusal}
use Rattle.cache_answers.specs.declared.answers.Refusal.TheVariants as refusal
use Rattle.stripe_core.specs.declared.stripe.Stripe.{Stripe}
use Rattle.stripe_answers.specs.Acts.{OpensAsAsked}
use Rattle.stripe_core.specs.Between.{Continues, Rests}
use Rattle.stripe_core.specs.Stripe.{kept_in, seen_in, state_in}
use Rattle.stripe_core.proofs.Continuing.{continues_still, rests_with}
use Rattle.stripe_core.proofs.Stills.{unstopped}
use Rattle.stripe_answers.proofs.Wanting.{holds_anyway}
use Rattle.stripe_write.specs.declared.writer.Writer.{Writer}
use Rattle.stripe_answers.specs.Numbers.{StopsExhausted}
use Rattle.stripe_write.specs.Writers.{HasOpenWriter, written_as}
use Rattle.stripe_write.specs.Writes.{IsOverflow, OpensInStripe, OverflowsInStripe, SameWriter, WritesInStripe, WritesWhere}
use Rattle.stripe_write.proofs.Gathering.{same_as, same_writer, writes_none, writes_over}
use Rattle.cache_calls.specs.Actors.{IsWriterOf}
use Rattle.cache_calls.specs.Writers.{IsTaking, HasTaken}
use Rattle.cache_calls.specs.Standing.{IsToldWritten}

-- ---- one fragment too many

over_where : (s : State) (w : Writer) (bytes : List ℕ) (result : Result ℕ Refusal) → IsOverflow result → IsTaking s (written_as w)
    → 0 < length bytes → length w.table.rows ≡ most_fragments → WritesWhere s w bytes result
over_where s w bytes (Err refusal.TooManyFragments) over taking some full = (taking, some, full)
over_where s w bytes (Err (refusal.Memory e)) over taking some full = taking
over_where s w bytes (Ok n) over taking some full = absurd over
over_where s w bytes (Err _) over taking some full = absurd over

over_number : (t : State) (bytes : ℕ) (result : Result ℕ Refusal) → IsOverflow result → IfErr result (StopsExhausted t bytes)
over_number t bytes (Err refusal.TooManyFragments) over = tt
over_number t bytes (Err (refusal.Memory e)) over = tt
over_number t bytes (Ok n) over = absurd over
over_number t bytes (Err _) over = absurd over

over_gathers : (P : ℕ → Type 0) (result : Result ℕ Refusal) → IsOverflow result → IfOk result P
over_gathers P (Ok n) over = absurd over
over_gathers P (Err why) over = tt

module _ {D R C : Type 0} {d : DiskGhosts D} {r : DirectoryGhosts R} {c : ChronicleGhosts C} where
  -- no writer opens
  pub open_refused : (s t : Stripe D R C d r c) (who : Actor) (key : Key) (request response : List Field) (pin : ℕ) (why : Refusal)
      (result : Result Writer Refusal) → result ≡ Err why → Rests s t → kept_in t ≡ kept_in s → (seen_in t).device ≡ (seen_in s).device
      → OpensAsAsked (state_in s) who key request response pin (Err why) → OpensInStripe s t who key request response pin result
  open_refused s t who key request response pin why result is rests same still does =
      subst (OpensInStripe s t who key request response pin) (sym is)
      (record { rests = rests; adds = tt; err = same; does = does; writer = tt; empty = tt; unsealed = tt; still = still })

  -- memory is wanting for bytes
  pub write_wanting : {packed : Bool} (now : ℕ) (s t : Stripe D R C d r c) (was later : Writer) (bytes : List ℕ) (e : AllocError)
      (result : Result ℕ Refusal) → result ≡ Err (refusal.Memory e) → HasOpenWriter s was → was.sealed ≡ false → Continues s t
      → kept_in t ≡ kept_in s → IsStill (seen_in s).device (seen_in t).device → SameWriter was later
      → WritesInStripe packed now s t was later bytes result
  write_wanting {packed} now s t was later bytes e result is own unsealed continues records still same =
      subst (WritesInStripe packed now s t was later bytes) (sym is) (record {
        rests =
            rests_with (IsToldWritten (state_in s) (written_as was) bytes (Err (refusal.Memory e))) s t
            (continues_still s t continues records own.resting);
        writes = (own.is_open, unsealed);
        number = tt;
        does =
            writes_none now (kept_in s) (kept_in t) (seen_in s).device.past (seen_in t).device was bytes (Err (refusal.Memory e)) records
            refl;
        writer = same_writer (state_in t) was later same (subst (λ k. IsWriterOf (state_of k) (written_as was)) (sym records) own.writer);
        gathers = tt;
        same = same;
        untouched = still;
      })

  -- there would be one fragment too many
  pub write_over : {packed : Bool} (now : ℕ) (s t : Stripe D R C d r c) (w : Writer) (bytes : List ℕ) (result : Result ℕ Refusal)
      → HasOpenWriter s w → w.sealed ≡ false → 0 < length bytes → length w.table.rows ≡ most_fragments
      → OverflowsInStripe s t w result → WritesInStripe packed now s t w w bytes result
  write_over now s t w bytes result own unsealed some full over = record {
    rests = rests_with (IsToldWritten (state_in s) (written_as w) bytes result) s t over.rests;
    writes = over_where (state_in s) w bytes result over.refused (own.is_open, unsealed) some full;
    number = over_number (state_in t) (state_in s).geometry.fragment result over.refused;
    does =
        writes_over now (kept_in s) (kept_in t) (seen_in s).device.past (seen_in t).device w bytes result over.refused over.adds
        over.does;
    writer = over.writer;
    gathers = over_gathers (λ n. HasTaken (state_in s).geometry (written_as w) bytes n (written_as w)) result over.refused;
    same = holds_anyway result (SameWriter w w) (same_as w);
    untouched = unstopped result (IsStill (seen_in s).device (seen_in t).device) over.still;
  }
