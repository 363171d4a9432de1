-- Pieces that were looked at, and one more behind them.
use Rattle.std.proofs.Common.{◌≡◌, ℕ, ◌+◌, ◌-◌, ◌*◌, ◌≤◌, List, [], ◌∷◌, ◌++◌, refl, sym, ◌∙◌, ap, subst, arith, false, take, append_assoc}
use Rattle.std.proofs.lemmas.List.{append-nil}
use Rattle.std.specs.List.{AllByRecursion}
use Rattle.logged_disk.specs.Device.{DeviceState as Device, IsAsked, SeenStays, seen as content_of}
use Rattle.logged_disk.proofs.GoingOn.{goes_further, stays_put, told_before}
use Rattle.tape_base.specs.declared.geometries.Geometry.{Geometry}
use Rattle.tape_base.specs.Geometry.{budget_of}
use Rattle.tape_base.specs.Place.{block_of}
use Rattle.device_log.specs.Image.{Image}
use Rattle.device_log.proofs.Spans.{span_same}
use Rattle.doc_header.proofs.Stands.{part_in_front}
use Rattle.cache_model.specs.State.{State, Row, after_all}
use Rattle.cache_model.specs.Permit.{Permit}
use Rattle.cache_model.specs.Outcomes.{AreOutcomes, Copied, IsOutcome, NoRoom, Outcome, ReadRefused, Spoiled, front_of, left_behind, records_of}
use Rattle.cache_model.proofs.Steps.{after_all-append, all_append}
use Rattle.cache_model.proofs.Aside.{aside_leaves}
use Rattle.cache_model.proofs.Sound.{buffer_left}
use Rattle.cache_model.proofs.SoundFlush.{aside_of}
use Rattle.piece_answers.specs.declared.ahead.Ahead.{Ahead}
use Rattle.piece_answers.specs.declared.ahead.Fate.{Fate}
use Rattle.piece_answers.specs.Ahead.{AreFates, IsFate, StandFrom, StandsAt, blocks_taken_by, taken_by_all}
use Rattle.piece_answers.specs.Looks.{HasLookedAhead, LooksOn}
use Rattle.piece_answers.specs.Standing.{AreAsSeen, IsAsSeen}
use Rattle.piece_answers.specs.Faults.{CountsUpTo, HasEffects, effects_among, effects_of}
use Rattle.piece_answers.proofs.Effects.{effects_none, effects_then}
use Rattle.piece_answers.proofs.Covering.{covers_first, covers_last}
use Rattle.cache_model.specs.Damage.{TellNoDamage, tells_damage}

-- ---- lists of the same length

abbrev ArePaired : List Row → List Outcome → Type 0
ArePaired [] [] = Unit {0}
ArePaired [] (o ∷ outcomes) = ⊥
ArePaired (row ∷ rows) [] = ⊥
ArePaired (row ∷ rows) (o ∷ outcomes) = ArePaired rows outcomes

paired : (rows : List Row) (outcomes : List Outcome) (fates : List Fate) → AreFates rows outcomes fates → ArePaired rows outcomes
paired [] [] fates h = tt
paired [] (o ∷ outcomes) [] h = absurd h
paired [] (o ∷ outcomes) (f ∷ fates) h = absurd h
paired (row ∷ rows) [] [] h = absurd h
paired (row ∷ rows) [] (f ∷ fates) h = absurd h
paired (row ∷ rows) (o ∷ outcomes) [] h = absurd h
paired (row ∷ rows) (o ∷ outcomes) (f ∷ fates) h = paired rows outcomes fates h.1

fates_more : (rows : List Row) (outcomes : List Outcome) (fates : List Fate) (row : Row) (o : Outcome) (f : Fate) → AreFates rows outcomes fates → IsFate row o f
    → AreFates (rows ++ row ∷ []) (outcomes ++ o ∷ []) (fates ++ f ∷ [])
fates_more [] [] [] row o f h k = (k, tt)
fates_more [] [] (g ∷ fates) row o f h k = absurd h
fates_more [] (x ∷ outcomes) [] row o f h k = absurd h
fates_more [] (x ∷ outcomes) (g ∷ fates) row o f h k = absurd h
fates_more (r ∷ rows) [] [] row o f h k = absurd h
fates_more (r ∷ rows) [] (g ∷ fates) row o f h k = absurd h
fates_more (r ∷ rows) (x ∷ outcomes) [] row o f h k = absurd h
fates_more (r ∷ rows) (x ∷ outcomes) (g ∷ fates) row o f h k = (h.0, fates_more rows outcomes fates row o f h.1 k)

front_more : (rows : List Row) (outcomes : List Outcome) (row : Row) (o : Outcome) → ArePaired rows outcomes
    → front_of (rows ++ row ∷ []) (outcomes ++ o ∷ []) ≡ front_of rows outcomes ++ records_of row o
front_more [] [] row o h = append-nil (records_of row o)
front_more [] (x ∷ outcomes) row o h = absurd h
front_more (r ∷ rows) [] row o h = absurd h
front_more (r ∷ rows) (x ∷ outcomes) row o h = ap (λ recs. records_of r x ++ recs) (front_more rows outcomes row o h) ∙ sym (append_assoc (records_of r x) (front_of rows outcomes) (records_of row o))

taken_more : (rows : List Row) (outcomes : List Outcome) (row : Row) (o : Outcome) → ArePaired rows outcomes
    → taken_by_all (rows ++ row ∷ []) (outcomes ++ o ∷ []) ≡ taken_by_all rows outcomes + blocks_taken_by row o
taken_more [] [] row o h = omega arith
taken_more [] (x ∷ outcomes) row o h = absurd h
taken_more (r ∷ rows) [] row o h = absurd h
taken_more (r ∷ rows) (x ∷ outcomes) row o h = omega (arith, taken_more rows outcomes row o h)

-- ---- what is seen

-- on an image that shows the same
seen_before : (g : Geometry) (c d : Image) (row : Row) (o : Outcome) → ((j : ℕ) → d j ≡ c j) → IsAsSeen g d row o → IsAsSeen g c row o
seen_before g c d row NoRoom same h = tt
seen_before g c d row (Copied bytes) same h = h ∙ span_same d c (block_of g row.place) row.blocks (λ j low high. same j)
seen_before g c d row (Spoiled found) same h = tt
seen_before g c d row (ReadRefused count) same h = tt

seen_more : (g : Geometry) (c : Image) (rows : List Row) (outcomes : List Outcome) (row : Row) (o : Outcome) → ArePaired rows outcomes → AreAsSeen g c rows outcomes → IsAsSeen g c row o
    → AreAsSeen g c (rows ++ row ∷ []) (outcomes ++ o ∷ [])
seen_more g c [] [] row o p h k = (k, tt)
seen_more g c [] (x ∷ outcomes) row o p h k = absurd p
seen_more g c (r ∷ rows) [] row o p h k = absurd p
seen_more g c (r ∷ rows) (x ∷ outcomes) row o p h k = (h.0, seen_more g c rows outcomes row o p h.1 k)

-- ---- the memory

still_stands : (at end : ℕ) (row : Row) (o : Outcome) (old new : List ℕ) → at + blocks_taken_by row o ≤ end → take (512 * end) new ≡ take (512 * end) old → StandsAt at row o old → StandsAt at row o new
still_stands at end row NoRoom old new within same h = tt
still_stands at end row (Copied bytes) old new within same h = part_in_front (512 * end) (512 * at) (512 * row.blocks) new old (omega arith) same ∙ h
still_stands at end row (Spoiled found) old new within same h = tt
still_stands at end row (ReadRefused count) old new within same h = tt

stand_more : (at end : ℕ) (rows : List Row) (outcomes : List Outcome) (row : Row) (o : Outcome) (old new : List ℕ) → ArePaired rows outcomes → at + taken_by_all rows outcomes ≡ end
    → take (512 * end) new ≡ take (512 * end) old → StandFrom at rows outcomes old → StandsAt end row o new → StandFrom at (rows ++ row ∷ []) (outcomes ++ o ∷ []) new
stand_more at end [] [] row o old new p is same h k = (subst (λ n. StandsAt n row o new) (let e : end ≡ at = omega (arith, is) in e) k, tt)
stand_more at end [] (x ∷ outcomes) row o old new p is same h k = absurd p
stand_more at end (r ∷ rows) [] row o old new p is same h k = absurd p
stand_more at end (r ∷ rows) (x ∷ outcomes) row o old new p is same h k = (
  still_stands at end r x old new (omega (arith, is)) same h.0,
  stand_more (at + blocks_taken_by r x) end rows outcomes row o old new p (omega (arith, is)) same h.1 k,
)

-- ---- the outcomes

left_is : (left : ℕ) (row : Row) (o : Outcome) → left_behind left row o ≡ left - blocks_taken_by row o
left_is left row NoRoom = omega arith
left_is left row (Copied bytes) = refl
left_is left row (Spoiled found) = refl
left_is left row (ReadRefused count) = refl

outcomes_more : (p : Permit) (s : State) (left : ℕ) (rows : List Row) (outcomes : List Outcome) (row : Row) (o : Outcome) → AreOutcomes p s left rows outcomes
    → IsOutcome p (after_all s (front_of rows outcomes)) (left - taken_by_all rows outcomes) row o → AreOutcomes p s left (rows ++ row ∷ []) (outcomes ++ o ∷ [])
outcomes_more p s left [] [] row o h k = (subst (λ n. IsOutcome p s n row o) (let e : left - 0 ≡ left = omega arith in e) k, tt)
outcomes_more p s left [] (x ∷ outcomes) row o h k = absurd h
outcomes_more p s left (r ∷ rows) [] row o h k = absurd h
outcomes_more p s left (r ∷ rows) (x ∷ outcomes) row o h k =
    let behind : left - (blocks_taken_by r x + taken_by_all rows outcomes) ≡ left_behind left r x - taken_by_all rows outcomes = omega (arith, left_is left r x) in (
      h.0,
      outcomes_more p (after_all s (records_of r x)) (left_behind left r x) rows outcomes row o h.1
          (subst (λ n. IsOutcome p (after_all (after_all s (records_of r x)) (front_of rows outcomes)) n row o) behind
          (subst (λ t. IsOutcome p t (left - (blocks_taken_by r x + taken_by_all rows outcomes)) row o) (after_all-append s (records_of r x) (front_of rows outcomes)) k)),
    )

-- the records of a piece tell no later fault
fault_within : (s : State) (row : Row) (o : Outcome) (faults : ℕ) → s.fault ≤ faults → CountsUpTo faults o → (after_all s (records_of row o)).fault ≤ faults
fault_within s row NoRoom faults h k = h
fault_within s row (Copied bytes) faults h k = h
fault_within s row (Spoiled found) faults h k = h
fault_within s row (ReadRefused count) faults h k = k

-- the calls that were refused
effects_more : (outcomes : List Outcome) (o : Outcome) → effects_among (outcomes ++ o ∷ []) ≡ effects_among outcomes ++ effects_of o
effects_more [] o = append-nil (effects_of o)
effects_more (x ∷ outcomes) o = ap (λ counts. effects_of x ++ counts) (effects_more outcomes o) ∙ sym (append_assoc (effects_of x) (effects_among outcomes) (effects_of o))

-- a device counts on
later_count : (before after : ℕ) (o : Outcome) → before ≤ after → CountsUpTo before o → CountsUpTo after o
later_count before after NoRoom last h = h
later_count before after (Copied bytes) last h = h
later_count before after (Spoiled found) last h = h
later_count before after (ReadRefused count) last h = omega (arith, last, h)

pub counted_later : (before after : ℕ) (outcomes : List Outcome) → before ≤ after → AllByRecursion (CountsUpTo before) outcomes → AllByRecursion (CountsUpTo after) outcomes
counted_later before after [] last h = tt
counted_later before after (o ∷ outcomes) last h = (later_count before after o last h.0, counted_later before after outcomes last h.1)

-- ---- one piece more

pub looked_none : (s : State) (device : Device) (a : Ahead) → a.fates.items ≡ [] → s.fault ≤ device.faults → HasLookedAhead s device device [] 0 a
looked_none s device a none low = record {
  outcomes = [];
  fates = subst (AreFates [] []) (sym none) tt;
  stand = tt;
  taken = refl;
  unharmed = λ told. tt;
  exact = λ told. tt;
  goes = stays_put device;
  faults = effects_none device.past device.past refl;
  counted = tt;
  are = λ p covers. tt;
  beside = record { geometry = refl; cursor = refl; fault = low };
}

pub looked_more : (s : State) (before mid after : Device) (rows : List Row) (row : Row) (at end : ℕ) (old new : Ahead) → IsAsked mid after → SeenStays before mid
    → HasLookedAhead s before mid rows at old → LooksOn s mid after row at end old new → HasLookedAhead s before after (rows ++ row ∷ []) end new
looked_more s before mid after rows row at end old new asked stays h k =
    let last : mid.faults ≤ after.faults = asked.later in
    let pair : ArePaired rows h.outcomes = paired rows h.outcomes old.fates.items h.fates in
    let t : State = after_all s (front_of rows h.outcomes) in
    let front : front_of (rows ++ row ∷ []) (h.outcomes ++ k.outcome ∷ []) ≡ front_of rows h.outcomes ++ records_of row k.outcome = front_more rows h.outcomes row k.outcome pair in
    let behind : after_all s (front_of (rows ++ row ∷ []) (h.outcomes ++ k.outcome ∷ [])) ≡ after_all t (records_of row k.outcome) =
    ap (after_all s) front ∙ after_all-append s (front_of rows h.outcomes) (records_of row k.outcome) in
    let low : t.fault ≤ mid.faults = h.beside.fault in
    let buffer = buffer_left t (records_of row k.outcome) (aside_leaves (records_of row k.outcome) (aside_of row k.outcome)) in
    record {
      outcomes = h.outcomes ++ k.outcome ∷ [];
      fates = subst (AreFates (rows ++ row ∷ []) (h.outcomes ++ k.outcome ∷ [])) (sym k.notes) (fates_more rows h.outcomes old.fates.items row k.outcome k.note h.fates k.fate);
      stand = stand_more 0 at rows h.outcomes row k.outcome old.bytes.items new.bytes.items pair (omega (arith, h.taken)) k.stay h.stand k.stands;
      taken = omega (arith, k.taken, h.taken, taken_more rows h.outcomes row k.outcome pair);
      unharmed = λ told.
          subst TellNoDamage (sym front)
          (all_append (λ r. tells_damage r ≡ false) (front_of rows h.outcomes) (records_of row k.outcome) (h.unharmed (told_before mid after asked.goes told)) (k.unharmed told));
      exact = λ told. seen_more s.geometry (content_of before) rows h.outcomes row k.outcome pair (h.exact (told_before mid after asked.goes told))
          (seen_before s.geometry (content_of before) (content_of mid) row k.outcome stays (k.exact told));
      goes = goes_further before mid after h.goes asked.goes;
      faults = subst (HasEffects before.past after.past) (sym (effects_more h.outcomes k.outcome)) (effects_then before.past mid.past after.past (effects_among h.outcomes) (effects_of k.outcome) h.faults k.faults);
      counted = all_append (CountsUpTo after.faults) h.outcomes (k.outcome ∷ []) (counted_later mid.faults after.faults h.outcomes last h.counted) (k.count, tt);
      are = λ p covers.
          outcomes_more p s (budget_of s.geometry) rows h.outcomes row k.outcome (h.are p (covers_first p before.past mid.past after.past asked.goes.made asked.goes.past covers))
          (subst (λ n. IsOutcome p t (budget_of s.geometry - n) row k.outcome) h.taken
          (k.is p t (covers_last p before.past mid.past after.past h.goes.made h.goes.past covers) h.beside));
      beside = record {
        geometry = ap (λ (x : State). x.geometry) behind ∙ (buffer.0 ∙ h.beside.geometry);
        cursor = ap (λ (x : State). x.cursor) behind ∙ (buffer.1 ∙ h.beside.cursor);
        fault = subst (λ (x : State). x.fault ≤ after.faults) (sym behind) (fault_within t row k.outcome after.faults (omega arith) k.count);
      };
    }
