-- What is known of the copies behind a format.
use Rattle.std.proofs.Common.{◌≡◌, ℕ, true, false, List, [], refl, sym, subst, arith}
use Rattle.std.specs.List.{AllByRecursion}
use Rattle.cache_model.specs.State.{Row}
use Rattle.cache_model.specs.Tape.{AreRising}
use Rattle.reopening.specs.Alike.{has_place}
use Rattle.reopening.specs.Named.{AreNotAtOdds, is_row_at}
use Rattle.stripe_header.specs.declared.area.Side.TheVariants as sides
use Rattle.stripe_header.specs.Layout.{stripe_blocks}
use Rattle.stripe_header.specs.Spelling.{copy_bytes, numbers_of, span_bytes}
use Rattle.dir_sync.specs.Moments.{IsBarred}
use Rattle.stripe_copies.specs.Format.{first_state}
use Rattle.reopening.specs.Guards.{OtherShut}
use Rattle.format_laws.proofs.Opening.{first_says, format_is_guarded, made}
use Rattle.format_laws.proofs.Standing.{none_pending, second_is_shut}
use Rattle.format_laws.proofs.Telling.{span_length}
use Rattle.sync_laws.specs.KnownCopies.{EmptyIsDue, FormatHolds, IsNamed, elements_of, known_first}
use Rattle.sync_laws.proofs.Phases.{beside_this}

pub format_holds : FormatHolds
format_holds a old new is generation image log =
    let told = span_bytes 2 (numbers_of a.geometry) (stripe_blocks a) in
    let written = copy_bytes 2 (numbers_of a.geometry) (first_state a.geometry) is.laid.first.image in
    let barred : IsBarred sides.B new.settled new.first new.past =
    subst (λ p. IsBarred sides.B new.settled new.first p) (sym (made a old new new.first is)) (record {
      still = none_pending new.first told written old.past new.settled 2;
      shut = second_is_shut new.first told written old.past (span_length (numbers_of a.geometry) (stripe_blocks a));
    }) in
    let w = known_first a new in
    let g = format_is_guarded a old new new.settled new.first is generation image log in
    record {
      directory = is.directory;
      begun = omega arith;
      side = refl;
      serial = refl;
      cursor = refl;
      guards = beside_this a w.marks w.newest new.settled new.first new.past g (OtherShut barred);
      own = record { says = first_says a.geometry; ends = omega arith; reach = omega arith };
      beside = refl;
    }

none_there : (p : ℕ) → false ≡ true → is_row_at [] p ≡ true
none_there p is = absurd cc

pub empty_due : EmptyIsDue
empty_due w s m content c serial among tells none rising below clear onward =
    let g = w.copies.area.geometry in
    let X = λ (rows : List Row). AreRising m.low rows m.end in
    record {
      serial = serial;
      among = among;
      tells = tells;
      rising = subst X (sym none) rising;
      below = below;
      clear = clear;
      onward = onward;
      each = subst (AllByRecursion (λ (row : Row). IsNamed w.copies.area s [] c row (content row.id))) (sym none) tt;
      no_more = subst (λ (rows : List Row). (p : ℕ) → has_place p (elements_of g s []) ≡ true → is_row_at rows p ≡ true) (sym none) none_there;
      even = subst AreNotAtOdds (sym none) (record { apart = tt; keys = λ i j d low high. absurd (omega (arith, high)); lengths = tt });
    }
