-- Behind a format its sync is held: its copy has no entry, so that it names no place.
use Rattle.std.proofs.Common.{◌≡◌, ◌<◌, ◌^◌, inl, inr, ℕ, Bool, true, false, List, [], refl, sym, ap, subst, ◌∙◌, arith}
use Rattle.device_log.specs.Image.{Image, IsImage}
use Rattle.device_log.specs.Faults.{IsLog}
use Rattle.device_log.specs.Seen.{seen_of}
use Rattle.device_log.proofs.SeenLaws.{seen_is_image}
use Rattle.tape_base.specs.declared.geometries.Geometry.{Geometry}
use Rattle.tape_base.specs.Place.{directory_blocks_of}
use Rattle.logged_disk.specs.Device.{DeviceState as Device}
use Rattle.stripe_header.specs.declared.area.Area.{Area}
use Rattle.stripe_header.specs.declared.area.Side.TheVariants as sides
use Rattle.stripe_header.specs.Layout.{stripe_blocks}
use Rattle.stripe_header.specs.Spelling.{copy_bytes, numbers_of, span_bytes}
use Rattle.dir_sync.specs.Moments.{IsBarred}
use Rattle.stripe_copies.specs.Format.{IsLaidOut, first_state}
use Rattle.cache_model.specs.State.{Mark}
use Rattle.reopening.specs.Alike.{has_place}
use Rattle.reopening.specs.Guards.{AreGuarded, HeldCopy, OtherShut, held_at_rest}
use Rattle.reopening.specs.Lasting.{TakesUpOne}
use Rattle.format_laws.specs.Laid.{IsAreaLaidOut, behind_format, first_copy}
use Rattle.format_laws.proofs.Opening.{format_is_guarded, format_lists_none, made}
use Rattle.format_laws.proofs.Standing.{none_pending, second_is_shut}
use Rattle.format_laws.proofs.Telling.{span_length}
use Rattle.power_cuts.specs.Surviving.{FormatsHold, HoldsSyncOn}

area_holds : (a : Area) (old new : Device) → IsAreaLaidOut a old new → a.geometry.generation < 2 ^ 64 → IsImage new.first → IsLog new.past
    → HoldsSyncOn a (behind_format a.geometry) new
area_holds a old new is generation image log =
    let c : Image = seen_of new.first new.past in
    let whole = seen_is_image new.first new.past image log.entries in
    let none = format_lists_none a old new new.settled new.first is whole in
    let first : HeldCopy = record { copy = first_copy a.geometry; end = 0; image = c } in
    let full = format_is_guarded a old new new.settled new.first is generation image log in
    let told = span_bytes 2 (numbers_of a.geometry) (stripe_blocks a) in
    let written = copy_bytes 2 (numbers_of a.geometry) (first_state a.geometry) is.laid.first.image in
    let barred : IsBarred sides.B new.settled new.first new.past =
    subst (λ p. IsBarred sides.B new.settled new.first p) (sym (made a old new new.first is)) (record {
      still = none_pending new.first told written old.past new.settled 2;
      shut = second_is_shut new.first told written old.past (span_length (numbers_of a.geometry) (stripe_blocks a));
    }) in
    record {
      of_geometry = record { geometry = refl; directory = is.directory };
      newest = first;
      serial = refl;
      names_none = refl;
      guards = record {
        span = full.span;
        gate = full.gate;
        copy = record {
          opens = record {
            image = full.copy.opens.image;
            tells = full.copy.opens.tells;
            sound = full.copy.opens.sound;
            ends = λ p below there. absurd (let e : false ≡ true = sym (ap (has_place p) none) ∙ there in cc e);
            found = full.copy.opens.found;
          };
          held = λ j guarded. elim guarded [
            | inl body ↦ full.copy.held j (inl body)
            | inr named ↦ absurd (omega (arith, named.2))
          ];
        };
        other = OtherShut barred;
      };
      barred = barred;
    }

pub formats_hold : FormatsHold
formats_hold a g old new of_geometry generation image log laid =
    subst (λ h. HoldsSyncOn a (behind_format h) new) of_geometry.geometry
    (area_holds a old new
    (record {
      directory = of_geometry.directory ∙ ap directory_blocks_of (sym of_geometry.geometry);
      laid = subst (λ h. IsLaidOut h old new) (sym of_geometry.geometry) laid;
    })
    (subst (λ h. h.generation < 2 ^ 64) (sym of_geometry.geometry) generation) image log)
