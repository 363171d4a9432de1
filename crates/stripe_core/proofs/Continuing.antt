-- What every call keeps, of no call and of one behind another.
use Rattle.std.proofs.Common.{◌≡◌, ◌<◌, ◌≤◌, refl, sym, ◌∙◌, ap, subst, arith}
use Rattle.logged_disk.specs.Device.{DeviceState as Device, TellsAll}
use Rattle.logged_disk.specs.declared.device.Disk.{Ghosts as DiskGhosts}
use Rattle.logged_disk.proofs.GoingOn.{goes_further, stays_as}
use Rattle.dir_table.specs.declared.directory.Directory.{Ghosts as DirectoryGhosts}
use Rattle.cache_chronicle.specs.declared.chronicle.Chronicle.{Ghosts as ChronicleGhosts}
use Rattle.cache_model.specs.State.{State}
use Rattle.cache_model.specs.Kept.{Kept, count_of, state_of}
use Rattle.cache_model.specs.Legal.{IsQuiet}
use Rattle.cache_model.specs.Contents.{AnyContents, Contents, contents_of_vectors}
use Rattle.stripe_actors.specs.Actors.{AreActors, reader_room_of}
use Rattle.stripe_actors.specs.Calls.{StayInStep}
use Rattle.stripe_core.specs.declared.stripe.Stripe.{Stripe}
use Rattle.stripe_core.specs.Between.{Between, Continues, ContinuesWith, IsResting, Proceeds, Rests, RestsWith, StandIn}
use Rattle.cyclone.specs.Cyclone.{Seen}
use Rattle.piece_answers.specs.Ahead.{IsMadeFor}
use Rattle.held_pieces.specs.Held.{IsHeld}
use Rattle.piece_answers.specs.Standing.{AreStanding}
use Rattle.power_cuts.proofs.Surviving.{survives_on, survives_still}
use Rattle.stripe_answers.specs.Named.{IsNamed}
use Rattle.stripe_core.specs.Stripe.{IsSpared, IsStripe, kept_in, seen_in, state_in}
use Rattle.stripe_core.proofs.Between.{accounted_none, accounted_then, between-trans, between_same}
use Rattle.piece_answers.proofs.Documents.{documents_stay}

-- a device that stays counts no less
pub no_less : (a b : Device) → b ≡ a → a.faults ≤ b.faults
no_less a b same =
    let counts : b.faults ≡ a.faults = ap (λ (d : Device). d.faults) same in
    omega (arith, counts)

-- what is told stands, where it does on a device that tells its content
pub standing_where_told : (contents : Contents) (s : State) (c : Seen) → (TellsAll c.device → AreStanding contents s c) → AreStanding contents s c
standing_where_told contents s c h = record {
  buffered = λ tells. (h tells).buffered tells;
  written = λ tells. (h tells).written tells;
  recorded = λ tells. (h tells).recorded tells;
}

module _ {D R C : Type 0} {d : DiskGhosts D} {r : DirectoryGhosts R} {c : ChronicleGhosts C} where
  pub between_then : (s t u : Stripe D R C d r c) → Between s t → Between t u → Between s u
  between_then s t u first next =
      between-trans (seen_in s).device (seen_in t).device (seen_in u).device (kept_in s) (kept_in t) (kept_in u) first next

  -- ---- in the midst of a call

  pub continues_same : (t : Stripe D R C d r c) → IsStripe t → Continues t t
  continues_same t stripe = record {
    stripe = stripe;
    between = between_same (seen_in t).device (seen_in t).device (kept_in t) (kept_in t) refl refl;
    contents = λ contents told stands. stands;
    later = omega arith;
  }

  -- with the same records and the same tape, where the actors stay in step, and memory is made for no more than there is
  pub continues_beside : (t u : Stripe D R C d r c) → IsStripe t → kept_in u ≡ kept_in t → seen_in u ≡ seen_in t
      → StayInStep t.actors u.actors → IsSpared u.units u.flushes (c.room u.pieces.chronicle) (seen_in u) → u.units ≤ reader_room_of u.actors
      → IsMadeFor (state_in t).geometry u.ahead → Continues t u
  continues_beside t u stripe kept seen step spared readers ahead =
      let device : (seen_in u).device ≡ (seen_in t).device = ap (λ (y : Seen). y.device) seen in
      let stands : (contents : Contents) → StandIn contents t → StandIn contents u = λ contents h.
      subst (λ (k : Kept). AreStanding contents (state_of k) (seen_in u)) (sym kept)
      (subst (AreStanding contents (state_in t)) (sym seen) h) in
      record {
        stripe = record {
          pieces = subst (λ (k : Kept). IsHeld (state_of k) (seen_in u)) (sym kept) (subst (IsHeld (state_in t)) (sym seen) stripe.pieces);
          actors = subst (λ (k : Kept). AreActors (state_of k) u.actors) (sym kept) (step (state_in t) stripe.actors);
          spared = spared;
          named = subst (λ (k : Kept). IsNamed (state_of k)) (sym kept) stripe.named;
          readers = readers;
          ahead = subst (λ (k : Kept). IsMadeFor (state_of k).geometry u.ahead) (sym kept) ahead;
          none = ap (λ (k : Kept). (state_of k).displaced) kept ∙ stripe.none;
          vectors = stands contents_of_vectors stripe.vectors;
          documents = documents_stay stripe.documents stands;
          numbered = subst (λ (k : Kept). (state_of k).next_reader < count_of k) (sym kept) stripe.numbered;
        };
        between = between_same (seen_in t).device (seen_in u).device (kept_in t) (kept_in u) device kept;
        contents = λ contents told. stands contents;
        later = no_less (seen_in t).device (seen_in u).device device;
      }

  -- of calls that place something, where what is to be told of both is told
  pub continues_with_then : (Told First Next : Contents → Type 0) (s t u : Stripe D R C d r c)
      → ((contents : Contents) → TellsAll (seen_in u).device → Told contents → First contents × Next contents)
      → ContinuesWith First s t → ContinuesWith Next t u → ContinuesWith Told s u
  continues_with_then Told First Next s t u both first next = record {
    stripe = next.stripe;
    between = between_then s t u first.between next.between;
    contents = λ contents told stands. standing_where_told contents (state_in u) (seen_in u) (λ tells.
        let both_told = both contents tells told in
        next.contents contents both_told.1 (first.contents contents both_told.0 stands));
    later = omega (arith, first.later, next.later);
  }

  pub continues_then : (s t u : Stripe D R C d r c) → Continues s t → Continues t u → Continues s u
  continues_then s t u first next = continues_with_then AnyContents AnyContents AnyContents s t u (λ contents tells told. (tt, tt)) first next

  -- what places nothing may be told to place anything
  pub continues_with : (Told : Contents → Type 0) (s t : Stripe D R C d r c) → Continues s t → ContinuesWith Told s t
  continues_with Told s t continues = record {
    stripe = continues.stripe;
    between = continues.between;
    contents = λ contents told stands. continues.contents contents tt stands;
    later = continues.later;
  }

  -- what adds no record, and then what places something, of which the state is asked what to tell
  pub continues_behind : (Placed : State → Contents → Type 0) (s t u : Stripe D R C d r c) → Continues s t → kept_in t ≡ kept_in s → ContinuesWith (Placed (state_in t)) t u
      → ContinuesWith (Placed (state_in s)) s u
  continues_behind Placed s t u first same next =
      continues_with_then (Placed (state_in s)) AnyContents (Placed (state_in t)) s t u
      (λ contents tells told. (tt, subst (λ k. Placed (state_of k) contents) (sym same) told)) first next

  -- ---- from rest to rest

  pub rests_same : (t : Stripe D R C d r c) → IsResting t → Rests t t
  rests_same t resting = record {
    resting = resting;
    between = between_same (seen_in t).device (seen_in t).device (kept_in t) (kept_in t) refl refl;
    contents = λ contents told stands. stands;
    later = omega arith;
  }

  pub rests_with_then : (Told First Next : Contents → Type 0) (s t u : Stripe D R C d r c)
      → ((contents : Contents) → TellsAll (seen_in u).device → Told contents → First contents × Next contents)
      → RestsWith First s t → RestsWith Next t u → RestsWith Told s u
  rests_with_then Told First Next s t u both first next = record {
    resting = next.resting;
    between = between_then s t u first.between next.between;
    contents = λ contents told stands. standing_where_told contents (state_in u) (seen_in u) (λ tells.
        let both_told = both contents tells told in
        next.contents contents both_told.1 (first.contents contents both_told.0 stands));
    later = omega (arith, first.later, next.later);
  }

  pub rests_then : (s t u : Stripe D R C d r c) → Rests s t → Rests t u → Rests s u
  rests_then s t u first next = rests_with_then AnyContents AnyContents AnyContents s t u (λ contents tells told. (tt, tt)) first next

  pub rests_with : (Told : Contents → Type 0) (s t : Stripe D R C d r c) → Rests s t → RestsWith Told s t
  rests_with Told s t rests = record {
    resting = rests.resting;
    between = rests.between;
    contents = λ contents told stands. rests.contents contents tt stands;
    later = rests.later;
  }

  pub rests_continues : (s t : Stripe D R C d r c) → Rests s t → Continues s t
  rests_continues s t rests = record { stripe = rests.resting.stripe; between = rests.between; contents = rests.contents; later = rests.later }

  pub continues_with_rests : (Told : Contents → Type 0) (s t : Stripe D R C d r c) → ContinuesWith Told s t → IsQuiet (state_in t) → RestsWith Told s t
  continues_with_rests Told s t continues quiet = record {
    resting = record { stripe = continues.stripe; quiet = quiet };
    between = continues.between;
    contents = continues.contents;
    later = continues.later;
  }

  pub continues_rests : (s t : Stripe D R C d r c) → Continues s t → IsQuiet (state_in t) → Rests s t
  continues_rests s t continues quiet = continues_with_rests AnyContents s t continues quiet

  -- behind a call that adds no record the stripe is still at rest
  pub still_resting : (s t : Stripe D R C d r c) → IsStripe t → kept_in t ≡ kept_in s → IsResting s → IsResting t
  still_resting s t stripe same resting = record { stripe = stripe; quiet = subst (λ k. IsQuiet (state_of k)) (sym same) resting.quiet }

  pub continues_still : (s t : Stripe D R C d r c) → Continues s t → kept_in t ≡ kept_in s → IsResting s → Rests s t
  continues_still s t continues same resting = record {
    resting = still_resting s t continues.stripe same resting;
    between = continues.between;
    contents = continues.contents;
    later = continues.later;
  }

  pub then_rests : (s t u : Stripe D R C d r c) → Continues s t → Rests t u → Rests s u
  then_rests s t u first next = record {
    resting = next.resting;
    between = between_then s t u first.between next.between;
    contents = λ contents told stands. next.contents contents tt (first.contents contents tt stands);
    later = omega (arith, first.later, next.later);
  }

  pub continues_further : (s t u : Stripe D R C d r c) → Continues s t → Continues t u → IsQuiet (state_in u) → Rests s u
  continues_further s t u first next quiet = continues_rests s u (continues_then s t u first next) quiet

  -- ---- whatever the device tells

  pub proceeds_same : (t : Stripe D R C d r c) → Proceeds t t
  proceeds_same t = record {
    goes = stays_as (seen_in t).device (seen_in t).device refl;
    accounted = accounted_none (seen_in t).device.past (seen_in t).device.past (kept_in t) (kept_in t) refl refl;
    survives = survives_still (seen_in t).device (seen_in t).device (state_in t) (state_in t) refl (record { geometry = refl; marks = refl; finished = refl });
    contents = λ contents told stands. stands;
    later = omega arith;
  }

  pub proceeds_then : (s t u : Stripe D R C d r c) → Proceeds s t → Proceeds t u → Proceeds s u
  proceeds_then s t u first next = record {
    goes = goes_further (seen_in s).device (seen_in t).device (seen_in u).device first.goes next.goes;
    accounted =
        accounted_then (seen_in s).device.past (seen_in t).device.past (seen_in u).device.past (kept_in s) (kept_in t) (kept_in u)
        first.accounted next.accounted;
    survives = survives_on (seen_in s).device (seen_in t).device (seen_in u).device (state_in s) (state_in t) (state_in u) next.goes first.survives next.survives;
    contents = λ contents told stands. next.contents contents tt (first.contents contents tt stands);
    later = omega (arith, first.later, next.later);
  }

  pub continues_proceeds : (s t : Stripe D R C d r c) → Continues s t → Proceeds s t
  continues_proceeds s t continues =
      record { goes = continues.between.goes; accounted = continues.between.accounted; survives = continues.between.survives; contents = continues.contents; later = continues.later }

  pub rests_proceeds : (s t : Stripe D R C d r c) → Rests s t → Proceeds s t
  rests_proceeds s t rests = record { goes = rests.between.goes; accounted = rests.between.accounted; survives = rests.between.survives; contents = rests.contents; later = rests.later }
