-- What reading the next fragment comes to where memory is wanting, and behind memory that was made first.
use Rattle.std.proofs.Common.{◌≡◌, List, ℕ, refl, sym, ap, subst, ◌⊎◌}
use Rattle.std.proofs.lemmas.Result.{on_err_weaker}
use Rattle.std.specs.declared.alloc.AllocError.{AllocError}
use Rattle.std.specs.Prelude.{Result, Err, IfOk, OnErr}
use Rattle.logged_disk.specs.declared.device.Disk.{Ghosts as DiskGhosts}
use Rattle.dir_table.specs.declared.directory.Directory.{Ghosts as DirectoryGhosts}
use Rattle.cache_chronicle.specs.declared.chronicle.Chronicle.{Ghosts as ChronicleGhosts}
use Rattle.cache_model.specs.Kept.{Kept, state_of, with_records}
use Rattle.held_pieces.specs.Still.{IsStill}
use Rattle.stripe_core.specs.declared.stripe.Stripe.{Stripe}
use Rattle.stripe_core.specs.Between.{Between, Continues, Proceeds}
use Rattle.stripe_core.specs.Stripe.{IsStripe, kept_in, seen_in, state_in}
use Rattle.stripe_core.proofs.Continuing.{continues_proceeds, proceeds_then, still_resting}
use Rattle.stripe_core.proofs.Stills.{still_then}
use Rattle.stripe_read.specs.declared.reader.Reader.{Reader}
use Rattle.cache_answers.specs.declared.answers.NextPiece.{NextPiece}
use Rattle.stripe_read.specs.Readers.{HasOpenReader, reading_as}
use Rattle.stripe_read.specs.Nexts.{ReadsNextInStripe}
use Rattle.stripe_read.proofs.Giving.{given_prepared}
use Rattle.stripe_read.proofs.Harmless.{behind_unharmed}
use Rattle.stripe_answers.proofs.Wanting.{holds_anyway, nothing_answered}
use Rattle.cache_calls.specs.Actors.{IsOpenReader, IsReaderOf}
use Rattle.cache_calls.specs.Readers.{read_adds, IsOtherNext}

module _ {D R C : Type 0} {d : DiskGhosts D} {r : DirectoryGhosts R} {c : ChronicleGhosts C} where
  -- the reader is open where no record was added
  pub still_open : (s t : Stripe D R C d r c) (own : Reader) → IsStripe t → kept_in t ≡ kept_in s → HasOpenReader s own
      → HasOpenReader t own
  still_open s t own stripe same at = record {
    resting = still_resting s t stripe same at.resting;
    reader = subst (λ (k : Kept). IsOpenReader (state_of k) (reading_as own)) (sym same) at.reader;
  }

  -- nothing is read, and nothing recorded
  pub next_wanting : (s t : Stripe D R C d r c) (own : Reader) (result : Result NextPiece AllocError)
      (into : List ℕ) (e : AllocError) → result ≡ Err e → HasOpenReader s own → IsStripe t → Proceeds s t → Between s t ⊎ IsOtherNext (state_in s) (reading_as own)
      → kept_in t ≡ kept_in s
      → IsStill (seen_in s).device (seen_in t).device → ReadsNextInStripe s t own own result into
  next_wanting s t own result into e wanting at stripe proceeds unharmed same still =
      let there = still_open s t own stripe same at in
      record {
        resting = there.resting;
        proceeds = proceeds;
        unharmed = unharmed;
        adds = nothing_answered result _ e wanting;
        reads = nothing_answered result _ e wanting;
        goes = nothing_answered result _ e wanting;
        reader = there.reader;
        keeps = λ has. subst (λ (k : Kept). IsReaderOf (state_of k) (reading_as own)) (sym same) has;
        err = holds_anyway result _ same;
        same = holds_anyway result _ refl;
        untouched = holds_anyway result _ still;
      }

  -- what is read behind memory that was made is read from before it on
  pub next_prepared : (s t u : Stripe D R C d r c) (was now : Reader) (result : Result NextPiece AllocError) (into : List ℕ)
      → Continues s t → kept_in t ≡ kept_in s → IsStill (seen_in s).device (seen_in t).device
      → ReadsNextInStripe t u was now result into → ReadsNextInStripe s u was now result into
  next_prepared s t u was now result into made same still h = record {
    resting = h.resting;
    proceeds = proceeds_then s t u (continues_proceeds s t made) h.proceeds;
    unharmed =
        behind_unharmed (seen_in s).device (seen_in t).device (seen_in u).device (kept_in s) (kept_in t) (kept_in u)
        (λ (x : IsOtherNext (state_in t) (reading_as was)). subst (λ (k : Kept). IsOtherNext (state_of k) (reading_as was)) same x) made.between h.unharmed;
    adds = subst (λ (k : Kept). IfOk result (λ answer. kept_in u ≡ with_records k (read_adds (state_of k) (reading_as was) answer))) same h.adds;
    reads =
        given_prepared (state_in s) (state_in t) (seen_in s) (seen_in t) (seen_in u) was result into (ap state_of same) still.past
        (λ contents. made.contents contents tt) h.reads;
    goes = h.goes;
    reader = h.reader;
    keeps = λ has. h.keeps (subst (λ (k : Kept). IsReaderOf (state_of k) (reading_as was)) (sym same) has);
    err = subst (λ (k : Kept). OnErr result (kept_in u ≡ k)) same h.err;
    same = h.same;
    untouched = on_err_weaker result (still_then (seen_in s).device (seen_in t).device (seen_in u).device still) h.untouched;
  }
