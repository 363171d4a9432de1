-- What is known while content is written, and where more syncs may be found.
use Rattle.std.proofs.Common.{◌≡◌, ◌≢◌, ◌≤◌, ◌<◌, ◌+◌, ◌++◌, inl, inr, ℕ, Bool, true, false, if◌then◌else◌, List, slice_index, refl, sym, ap, subst, ◌∙◌, arith}
use Rattle.tape_base.specs.Place.{reach_of}
use Rattle.device_log.specs.Image.{Image}
use Rattle.device_log.specs.Calls.{Call}
use Rattle.device_log.specs.Seen.{seen_of}
use Rattle.stripe_header.specs.declared.area.Area.{Area}
use Rattle.stripe_header.specs.declared.area.Side.{Side}
use Rattle.stripe_header.specs.declared.area.Side.TheVariants as sides
use Rattle.stripe_header.specs.Layout.{block_of_place, content_of, gate_of, other_side}
use Rattle.cache_model.specs.State.{Mark}
use Rattle.reopening.specs.Newest.{bound_of}
use Rattle.reopening.specs.Alike.{IsInBody}
use Rattle.reopening.specs.Guards.{HeldCopy, IsCopyKept, IsGuarded, IsNoHarm, OpensToOne, OtherNext, OtherOld, OtherShut}
use Rattle.reopening.specs.Lasting.{TakesUpOne}
use Rattle.reopening.specs.Stages.{StaysIn}
use Rattle.reopening.proofs.Apart.{clean_windows_apart, windows_apart}
use Rattle.reopening.proofs.Guarded.{images_open, span_stays}
use Rattle.reopening.proofs.Lasting.{among_more}
use Rattle.sync_laws.specs.KnownCopies.{CopiesHold, IsClear, IsKnownBeside, CopiesOpen, CopiesStay, CopiesWiden, KnownCopies, spared_to}
use Rattle.sync_laws.proofs.Carrying.{barred_on, kept_on, old_on}
use Rattle.sync_laws.proofs.Watching.{gate_few}

pub copies_open : CopiesOpen
copies_open w settled first past known c may =
    let opens = images_open w.copies.area w.marks w.newest settled first past c known.guards may in
    subst (λ (n : ℕ). OpensToOne w.copies.area (TakesUpOne w.marks) n c) known.serial opens.1

-- ---- content is written

body_below : (a : Area) (side : Side) (j : ℕ) → IsInBody a side j → j < content_of a
body_below a sides.A j is = omega (arith, is.1)
body_below a sides.B j is = omega (arith, is.1)

-- a place that a copy names, and one of content that is clear of it
apart : (a : Area) (from to : ℕ) (h : HeldCopy) → IsClear a from to h → (p q : ℕ) → bound_of a.geometry h.copy.told ≤ p → p < h.end
    → from ≤ q → q < to → block_of_place a p ≢ block_of_place a q
apart a from to h clear p q low below behind high = by h.copy.told.clean refl where
  by : (clean : Bool) → h.copy.told.clean ≡ clean → block_of_place a p ≢ block_of_place a q
  by true is =
      let reach : to ≤ h.copy.told.cursor + a.geometry.agg =
      subst (λ b. to ≤ (if b then h.copy.told.cursor + a.geometry.agg else reach_of a.geometry h.copy.told.cursor)) is clear.reach in
      clean_windows_apart a h.copy.told from p q clear.says is low (omega (arith, below, clear.ends)) behind (omega (arith, high, reach))
  by false is =
      let reach : to ≤ reach_of a.geometry h.copy.told.cursor =
      subst (λ b. to ≤ (if b then h.copy.told.cursor + a.geometry.agg else reach_of a.geometry h.copy.told.cursor)) is clear.reach in
      windows_apart a h.copy.told from p q clear.says is low (omega (arith, below, clear.ends)) behind (omega (arith, high, reach))

module _ (w : KnownCopies) (settled : Bool) (first : Image) (old new : List Call) (known : CopiesHold w settled first old)
    (stays : (j : ℕ) → ((q : ℕ) → w.clear ≤ q → q < spared_to w.copies.area.geometry w.newest.copy.told
    → j ≢ block_of_place w.copies.area q) → StaysIn settled first old new j) where
  abbrev a : Area
  a = w.copies.area

  abbrev to : ℕ
  to = spared_to w.copies.area.geometry w.newest.copy.told

  low_stays : (j : ℕ) → j < content_of a → StaysIn settled first old new j
  low_stays j few = stays j (λ q from below e. omega (arith, e, few))

  gate_stays : (side : Side) → StaysIn settled first old new (gate_of side)
  gate_stays side = let few = gate_few side in low_stays (gate_of side) (omega (arith, few))

  guarded_stays : (h : HeldCopy) → IsClear a w.clear to h → (j : ℕ) → IsGuarded a h j → StaysIn settled first old new j
  guarded_stays h clear j (inl body) = low_stays j (body_below a h.copy.side j body)
  guarded_stays h clear j (inr (p, low, below, is)) =
      stays j (λ q behind high e. apart a w.clear to h clear p q low below behind high (sym is ∙ e))

  abbrev Beside : Type 0
  Beside = (other : IsNoHarm a (TakesUpOne w.marks) w.newest settled first new)
      × IsKnownBeside a w.marks w.newest w.copies.shut w.clear settled first new other

  beside_stays : (other : IsNoHarm a (TakesUpOne w.marks) w.newest settled first old)
      → IsKnownBeside a w.marks w.newest w.copies.shut w.clear settled first old other → Beside
  beside_stays (OtherShut is) shut =
      let other = other_side w.newest.copy.side in
      (OtherShut (barred_on settled first old new other (gate_stays other) is), shut)
  beside_stays (OtherOld is) shut =
      let other = other_side w.newest.copy.side in
      (OtherOld (old_on settled first old new a w.newest.copy (λ j there. low_stays j (body_below a other j there)) is), shut)
  beside_stays (OtherNext h side later kept) next =
      (OtherNext h side later (kept_on settled first old new a (TakesUpOne w.marks) h (guarded_stays h next.1) kept), next)

  pub content_stays : CopiesHold w settled first new
  content_stays =
      let zero = low_stays 0 (omega arith) in
      let gate = gate_stays w.newest.copy.side in
      let other = beside_stays known.guards.other known.beside in
      let g = known.guards in
      record {
        directory = known.directory;
        begun = known.begun;
        side = known.side;
        serial = known.serial;
        cursor = known.cursor;
        guards = record {
          span = (zero.0 g.span.0, span_stays a (seen_of first old) (seen_of first new) (sym zero.1) g.span.1);
          gate = (gate.0 g.gate.0, ap (λ (l : List ℕ). slice_index l 0) gate.1 ∙ g.gate.1);
          copy = kept_on settled first old new a (TakesUpOne w.marks) w.newest (guarded_stays w.newest known.own) g.copy;
          other = other.0;
        };
        own = known.own;
        beside = other.1;
      }

pub copies_stay : CopiesStay
copies_stay = content_stays

-- ---- more may be found, and content is clear from a higher place on

module _ (a : Area) (added marks : List Mark) (settled : Bool) (first : Image) (past : List Call) where
  kept_widely : (h : HeldCopy) → IsCopyKept a (TakesUpOne marks) h settled first past → IsCopyKept a (TakesUpOne (added ++ marks)) h settled first past
  kept_widely h kept =
      let o = kept.opens in
      let f = o.found in
      record {
        opens = record { image = o.image; tells = o.tells; sound = o.sound; ends = o.ends; found = (f.0, among_more added marks f.0 f.1, f.2) };
        held = kept.held;
      }

  clear_higher : (from clear to : ℕ) (h : HeldCopy) → from ≤ clear → IsClear a from to h → IsClear a clear to h
  clear_higher from clear to h le is = record { says = is.says; ends = let e = is.ends in omega (arith, e, le); reach = is.reach }

  beside_widely : (newest : HeldCopy) (shut : Bool) (from clear : ℕ) → from ≤ clear → (other : IsNoHarm a (TakesUpOne marks) newest settled first past)
      → IsKnownBeside a marks newest shut from settled first past other
      → (wide : IsNoHarm a (TakesUpOne (added ++ marks)) newest settled first past)
      × IsKnownBeside a (added ++ marks) newest shut clear settled first past wide
  beside_widely newest shut from clear le (OtherShut is) known = (OtherShut is, known)
  beside_widely newest shut from clear le (OtherOld is) known = (OtherOld is, known)
  beside_widely newest shut from clear le (OtherNext h side later kept) known =
      (OtherNext h side later (kept_widely h kept), (known.0, clear_higher from clear (spared_to a.geometry newest.copy.told) h le known.1))

pub copies_widen : CopiesWiden
copies_widen w added clear settled first past le known =
    let a = w.copies.area in
    let g = known.guards in
    let other = beside_widely a added w.marks settled first past w.newest w.copies.shut w.clear clear le g.other known.beside in
    record {
      directory = known.directory;
      begun = known.begun;
      side = known.side;
      serial = known.serial;
      cursor = known.cursor;
      guards = record { span = g.span; gate = g.gate; copy = kept_widely a added w.marks settled first past w.newest g.copy; other = other.0 };
      own = clear_higher a added w.marks settled first past w.clear clear (spared_to a.geometry w.newest.copy.told) w.newest le known.own;
      beside = other.1;
    }
