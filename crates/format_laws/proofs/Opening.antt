-- What is seen behind a format opens to the empty sync, and is guarded by the first copy.
use Rattle.std.proofs.Common.{◌≡◌, ◌+◌, ◌-◌, ◌*◌, ◌<◌, ◌^◌, ℕ, Bool, true, false, List, [], ◌∷◌, length, slice_index, Some, refl, sym, ap, subst, ◌∙◌, arith, inl}
use Rattle.std.specs.Prelude.{IsTrue}
use Rattle.std.proofs.lemmas.Bool.{le-ltb}
use Rattle.std.proofs.Math.Nat.{mod_self}
use Rattle.device_log.specs.Image.{Image, IsImage}
use Rattle.device_log.specs.Calls.{Call}
use Rattle.device_log.specs.Seen.{MayLeave, seen_of}
use Rattle.device_log.proofs.Spans.{span_same}
use Rattle.device_log.proofs.SeenLaws.{seen_is_image}
use Rattle.logged_disk.specs.Device.{DeviceState as Device}
use Rattle.tape_base.specs.declared.geometries.Geometry.{Geometry}
use Rattle.tape_base.specs.Place.{directory_blocks_of}
use Rattle.stripe_header.specs.declared.area.Area.{Area}
use Rattle.stripe_header.specs.declared.area.Side.TheVariants as sides
use Rattle.stripe_header.specs.Layout.{stripe_blocks}
use Rattle.stripe_header.specs.Reading.{copy_told}
use Rattle.stripe_header.specs.Spelling.{IsCopy, copy_bytes, may_say, numbers_of, span_bytes}
use Rattle.stripe_header.proofs.CopyLaws.{again}
use Rattle.dir_table.specs.Wrap.{stored_from}
use Rattle.dir_sync.specs.Moments.{IsOpen, IsShut}
use Rattle.dir_sync.proofs.Stages.{shut_as}
use Rattle.stripe_copies.specs.Format.{IsEmptyImage, first_state}
use Rattle.stripe_copies.proofs.Copy.{body_length}
use Rattle.cache_model.specs.declared.findings.FoundRow.{FoundRow}
use Rattle.cache_model.specs.State.{mark_of_format, mark_of_opening}
use Rattle.reopening.specs.Newest.{IsBeaten, body_at, bound_of, copy_at, directory_at, newest_of, unless_fault}
use Rattle.reopening.specs.Opens.{found_of, is_sound, opening_at, opening_with, rows_at, rows_told}
use Rattle.reopening.specs.Device.{TellsArea}
use Rattle.reopening.specs.Guards.{AreGuarded, HasSpan, OpensToOne, held_at_rest}
use Rattle.reopening.specs.Lasting.{OpensNow, TakesUpOne}
use Rattle.reopening.specs.Alike.{has_place}
use Rattle.reopening.proofs.Guarded.{rest_guarded}
use Rattle.reopening.proofs.Keeping.{all_found}
use Rattle.reopening.proofs.Whole.{image_is_sound, opens_newest}
use Rattle.reopening.proofs.Winning.{copy_shut, wins}
use Rattle.format_laws.specs.Laid.{FormattedIsGuarded, FormattedOpensNow, IsAreaLaidOut, behind_format, first_copy}
use Rattle.format_laws.proofs.Telling.{span_length, span_tells}
use Rattle.format_laws.proofs.Standing.{body_seen, directory_seen, first_open, formatted, none_pending, second_is_shut, span_seen}

-- a stripe whose second lap begins may say so
pub first_says : (g : Geometry) → IsTrue (may_say g (first_state g))
first_says g =
    let fits = g.accepted in
    rw (
      le-ltb g.content g.content (omega arith),
      le-ltb (2 ^ 62 - 1) g.content (omega (arith, fits.content_fits.1)),
      mod_self g.content,
      le-ltb g.content (0 + g.agg) (omega (arith, fits.content_fits.0)),
    ) refl

-- an image whose first copy is that of a format, and whose second gate is shut
record IsSeen (a : Area) (image : List ℕ) (c : Image) : Type 0 where
  whole : IsImage c
  opened : IsOpen sides.A c
  closed : IsShut sides.B c
  body : body_at a c sides.A ≡ copy_bytes 2 (numbers_of a.geometry) (first_state a.geometry) image

module _ (a : Area) (image : List ℕ) (c : Image) (blocks : a.directory ≡ directory_blocks_of a.geometry)
    (empty : IsEmptyImage a.geometry image) (is : IsSeen a image c) where
  abbrev g : Geometry
  g = a.geometry

  accepted : copy_at a c sides.A ≡ Some (first_state g)
  accepted =
      let copy : IsCopy (body_at a c sides.A) 2 g (first_state g) image =
      record { says = first_says g; of_version = inl refl; spelled = is.body } in
      let read = again g (c 1) (body_at a c sides.A) 2 (first_state g) image is.opened copy in
      ap (λ f. unless_fault f (copy_told (body_at a c sides.A))) read.0 ∙ ap Some read.1

  newest : newest_of a c ≡ Some (first_copy g)
  newest =
      wins a c (first_copy g) accepted
      (subst (λ o. IsBeaten o sides.A 1) (sym (copy_shut a c sides.B is.closed)) tt)

  directory : directory_at a c sides.A ≡ image
  directory =
      directory_seen c is.whole (numbers_of g) (first_state g) image 3 a.directory
      (empty.whole ∙ ap (λ n. 512 * n) (sym blocks)) is.body

  sound : is_sound g (directory_at a c sides.A) ≡ true
  sound = ap (is_sound g) directory ∙ image_is_sound g image empty.sound

  no_row : rows_at a c (first_copy g) ≡ []
  unfolding rows_told
  no_row = ap (rows_told g (first_state g)) directory ∙ ap (stored_from (bound_of g (first_state g))) empty.rows

  none_found : found_of a (first_state g) (rows_at a c (first_copy g)) c ≡ []
  none_found = all_found a c (first_copy g) [] (record {
    rising = tt;
    stand = tt;
    no_more = λ p there. absurd (let e : false ≡ true = sym (ap (has_place p) no_row) ∙ there in cc e);
    alone = tt;
    lengths = tt;
  })

  taken_up : TakesUpOne (mark_of_format g ∷ []) (opening_at a c (first_copy g))
  taken_up = (
    mark_of_format g,
    inl refl,
    ap (λ (f : List FoundRow). mark_of_opening (opening_with g (first_state g) f)) none_found,
  )

  one_opens : OpensToOne a (TakesUpOne (mark_of_format g ∷ [])) 1 c
  one_opens = record {
    opening = opening_at a c (first_copy g);
    opens = opens_newest a c (first_copy g) newest sound;
    found = taken_up;
    later = omega arith;
  }

-- ---- what a cut may leave behind the calls of a format

module _ (a : Area) (settled : Bool) (first : Image) (old : List Call) (image : List ℕ)
    (blocks : a.directory ≡ directory_blocks_of a.geometry) (empty : IsEmptyImage a.geometry image) where
  abbrev told : List ℕ
  told = span_bytes 2 (numbers_of a.geometry) (stripe_blocks a)

  abbrev written : List ℕ
  written = copy_bytes 2 (numbers_of a.geometry) (first_state a.geometry) image

  abbrev past : List Call
  past = formatted first told written old

  size : length told ≡ 512
  size = span_length (numbers_of a.geometry) (stripe_blocks a)

  long : length written ≡ 512 * (a.directory + 2)
  long =
      body_length (numbers_of a.geometry) (first_state a.geometry) image a.directory
      (empty.whole ∙ ap (λ n. 512 * n) (sym blocks))

  left : (c : Image) → MayLeave settled first past c → IsSeen a image c
  left c may =
      let same : (j : ℕ) → c j ≡ seen_of first past j = λ j. may.still j (none_pending first told written old settled j) in
      record {
        whole = may.image;
        opened = ap (λ (l : List ℕ). slice_index l 0) (same 1) ∙ first_open first told written old;
        closed = shut_as sides.B c (seen_of first past) (same 2) (second_is_shut first told written old size);
        body = span_same c (seen_of first past) 3 (a.directory + 2) (λ j low high. same j)
            ∙ body_seen first told written old (a.directory + 2) long;
      }

  none_listed : IsImage (seen_of first past) → rows_at a (seen_of first past) (first_copy a.geometry) ≡ []
  none_listed whole =
      no_row a image (seen_of first past) blocks empty (left (seen_of first past) (record { image = whole; still = λ j none. refl }))

  opens : OpensNow a (behind_format a.geometry) settled first past
  opens c may = one_opens a image c blocks empty (left c may)

  guarded : a.geometry.generation < 2 ^ 64 → IsImage (seen_of first past)
      → AreGuarded a (TakesUpOne (behind_format a.geometry).marks) (held_at_rest (first_copy a.geometry) first past)
      settled first past
  guarded generation whole =
      let c = seen_of first past in
      let is = left c (record { image = whole; still = λ j none. refl }) in
      let span : HasSpan a c =
      subst (λ b. TellsArea b a) (sym (span_seen first told written old size)) (span_tells a generation) in
      rest_guarded a (mark_of_format a.geometry ∷ []) (first_copy a.geometry) settled first past whole
      (none_pending first told written old settled) span (newest a image c blocks empty is) (sound a image c blocks empty is)
      (taken_up a image c blocks empty is)

-- the calls of a format were made
pub made : (a : Area) (old new : Device) (first : Image) (is : IsAreaLaidOut a old new)
    → new.past ≡ formatted first (span_bytes 2 (numbers_of a.geometry) (stripe_blocks a))
    (copy_bytes 2 (numbers_of a.geometry) (first_state a.geometry) is.laid.first.image) old.past
made a old new first is =
    let body = is.laid.first in
    let span = λ (d : ℕ). span_bytes 2 (numbers_of a.geometry) (2 * d + a.geometry.content + 6) in
    is.laid.made.went
    ∙ (ap (λ d. formatted first (span d) is.laid.body old.past) (sym is.directory)
    ∙ ap (λ b. formatted first (span a.directory) b old.past) body.is)

-- its copy has no entry
pub format_lists_none : (a : Area) (old new : Device) (settled : Bool) (first : Image) → IsAreaLaidOut a old new
    → IsImage (seen_of first new.past) → rows_at a (seen_of first new.past) (first_copy a.geometry) ≡ []
format_lists_none a old new settled first is whole =
    let same = made a old new first is in
    subst (λ p. rows_at a (seen_of first p) (first_copy a.geometry) ≡ []) (sym same)
    (none_listed a settled first old.past is.laid.first.image is.directory is.laid.first.empty
    (subst (λ p. IsImage (seen_of first p)) same whole))

pub format_opens : FormattedOpensNow
format_opens a old new settled first is =
    subst (OpensNow a (behind_format a.geometry) settled first) (sym (made a old new first is))
    (opens a settled first old.past is.laid.first.image is.directory is.laid.first.empty)

pub format_is_guarded : FormattedIsGuarded
format_is_guarded a old new settled first is generation image log =
    let whole : IsImage (seen_of first new.past) = seen_is_image first new.past image log.entries in
    let same = made a old new first is in
    let marks = (behind_format a.geometry).marks in
    let n = first_copy a.geometry in
    subst (λ p. AreGuarded a (TakesUpOne marks) (held_at_rest n first p) settled first p) (sym same)
    (guarded a settled first old.past is.laid.first.image is.directory is.laid.first.empty generation
    (subst (λ p. IsImage (seen_of first p)) same whole))
