-- What a writer that is fed does, one write behind the other.
use Rattle.std.proofs.Common.{◌≡◌, ℕ, ◌+◌, ◌-◌, ◌<◌, ◌≤◌, List, [], ◌∷◌, ◌++◌, inl, inr, refl, sym, ◌∙◌, ap, subst, arith, Bool, true, false, length, take}
use Rattle.std.specs.Prelude.{Option, Some, option_map, unwrap_or, find, ◌==◌, ◌&&◌, not, min, nat_lt, if◌then◌else◌, MatchBool}
use Rattle.std.specs.List.{AllByRecursion}
use Rattle.std.proofs.lemmas.Bool.{eqb-true, eq-eqb, ltb-true, lt-ltb}
use Rattle.std.proofs.lemmas.Bool.Decides.{eqb_tells}
use Rattle.std.proofs.lemmas.List.{length-append, length-take-le}
use Rattle.tape_base.specs.declared.pieces.PieceId.{PieceId}
use Rattle.tape_base.specs.Digest.{digest_of}
use Rattle.fragment_table.specs.Table.{TableRow, made_row, total_length}
use Rattle.cache_model.specs.declared.record.Rec.{Rec}
use Rattle.cache_model.specs.declared.record.Rec.TheVariants as rec
use Rattle.cache_model.specs.State.{PutRow, State, after_all, change_put, most_fragments, put_of, state_after, with_cut}
use Rattle.cache_model.specs.Kept.{state_of}
use Rattle.cache_model.specs.Permit.{Permit, Intent, Overflow}
use Rattle.cache_model.specs.Room.{MayDisplace, placed_record}
use Rattle.cache_model.specs.Verdict.{cuts_of, is_open}
use Rattle.cache_model.specs.Legal.{is_writing}
use Rattle.cache_model.specs.Pair.{Documents}
use Rattle.cache_model.specs.Vectors.{IsVectorAs}
use Rattle.cache_model.proofs.Found.{cuts_found}
use Rattle.cache_model.proofs.ByNumber.{find-changed}
use Rattle.cache_model.proofs.Sound.{buffer_left, displaced_leave}
use Rattle.cache_model.proofs.Steps.{after_all-append}
use Rattle.step_laws.proofs.Told.{displaced_behind}
use Rattle.logged_disk.specs.Device.{TellsAll}
use Rattle.call_laws.specs.Untold.{Untold}
use Rattle.call_laws.specs.Moments.{At, Facts, permit_of}
use Rattle.call_laws.specs.Progress.{AllDone, Progress}
use Rattle.call_laws.specs.Serves.{Serves, ServesFrom}
use Rattle.call_laws.proofs.Joined.{state_behind}
use Rattle.call_laws.proofs.Kept.{untold_later}
use Rattle.call_laws.proofs.Known.{serves_wider}
use Rattle.cache_calls.specs.Actors.{IsAtHand, IsWriterOf, WriterSeen}
use Rattle.cache_model.specs.Subjects.{IsOfFlush, IsOfPut}
use Rattle.cache_calls.specs.Adds.{AddsOnly}
use Rattle.cache_calls.specs.Asked.{cuts_next, fed_asks, fills_fragment, gathered_with, is_overflow, next_payload, taken_of, write_asks}
use Rattle.cache_calls.specs.Keeping.{state_at}
use Rattle.cache_calls.specs.Writers.{CutsAs, HasTaken, IsTaking, TakesBytes, fragment_records, piece_cut_next}
use Rattle.script_run.proofs.Ended.{IsFoundOpen, open_row}
use Rattle.line_calls.proofs.CutBodies.{not_most}

-- ---- what is added

-- no put is another behind some records
pub record SamePuts (s t : State) : Type 0 where
  pub puts : t.puts ≡ s.puts
  pub geometry : t.geometry ≡ s.geometry

one_of_flush : (s : State) (r : Rec) → IsOfFlush r → SamePuts s (state_after s r)
one_of_flush s (rec.Began cursor floor) h = record { puts = refl; geometry = refl }
one_of_flush s (rec.Moved piece from place digest) h = record { puts = refl; geometry = refl }
one_of_flush s (rec.Unsaved piece place fault) h = record { puts = refl; geometry = refl }
one_of_flush s (rec.Damaged piece place kept found) h = record { puts = refl; geometry = refl }
one_of_flush s (rec.Fault count) h = record { puts = refl; geometry = refl }
one_of_flush s _ h = absurd h

-- those of a flush
pub flush_leaves : (s : State) (recs : List Rec) → AllByRecursion IsOfFlush recs → SamePuts s (after_all s recs)
flush_leaves s [] h = record { puts = refl; geometry = refl }
flush_leaves s (r ∷ recs) h =
    let first : SamePuts s (state_after s r) = one_of_flush s r h.0 in
    let others : SamePuts (state_after s r) (after_all (state_after s r) recs) = flush_leaves (state_after s r) recs h.1 in
    record { puts = others.puts ∙ first.puts; geometry = others.geometry ∙ first.geometry }

-- nor behind those of what an entry displaces
pushed_leave : (p : Permit) (s t : State) (piece : PieceId) (displaced : List Rec) → MayDisplace p s piece displaced → SamePuts t (after_all t displaced)
pushed_leave p s t piece displaced m = record {
  puts = subst (λ recs. (after_all t recs).puts ≡ t.puts) (sym m.is) (displaced_behind t _ _ m.purged 0).puts;
  geometry = (buffer_left t displaced (displaced_leave p s piece displaced m)).0;
}

-- ---- what is asked

no_overflow : (w : WriterSeen) (bytes : List ℕ) → (0 < length bytes → length w.cuts < most_fragments) → is_overflow w bytes ≡ false
no_overflow w bytes few = by (nat_lt 0 (length bytes)) refl
  where
    by : (b : Bool) → nat_lt 0 (length bytes) ≡ b → (b && length w.cuts == most_fragments) ≡ false
    by true e = not_most (length w.cuts) (few (ltb-true 0 (length bytes) e))
    by false e = refl

module _ (s : State) (w : WriterSeen) (bytes : List ℕ) (taking : IsTaking s w) where
  asks_fed : write_asks s w bytes ≡ fed_asks s w bytes
  asks_fed =
      ap (λ b. if b && not w.sealed then fed_asks s w bytes else []) taking.0 ∙ ap (λ b. if true && not b then fed_asks s w bytes else []) taking.1

  abbrev next : List Intent
  next = if fills_fragment s.geometry w (taken_of s.geometry w bytes) then cuts_next w (next_payload s w bytes) ∷ [] else []

  asks_next : (0 < length bytes → length w.cuts < most_fragments) → write_asks s w bytes ≡ next
  asks_next few = asks_fed ∙ ap (λ b. if b then Overflow w.put ∷ [] else next) (no_overflow w bytes few)

  -- the next fragment, where it has gathered
  pub asks_cut : (0 < length bytes → length w.cuts < most_fragments) → fills_fragment s.geometry w (taken_of s.geometry w bytes) ≡ true
      → write_asks s w bytes ≡ cuts_next w (next_payload s w bytes) ∷ []
  asks_cut few cut = asks_next few ∙ ap (λ b. if b then cuts_next w (next_payload s w bytes) ∷ [] else []) cut

  -- nothing, where it has not
  pub asks_none : (0 < length bytes → length w.cuts < most_fragments) → fills_fragment s.geometry w (taken_of s.geometry w bytes) ≡ false → write_asks s w bytes ≡ []
  asks_none few cut = asks_next few ∙ ap (λ b. if b then cuts_next w (next_payload s w bytes) ∷ [] else []) cut

  -- one fragment too many
  pub asks_many : 0 < length bytes → length w.cuts ≡ most_fragments → write_asks s w bytes ≡ Overflow w.put ∷ []
  asks_many some full = asks_fed ∙ ap (λ b. if b then Overflow w.put ∷ [] else next) over
    where
      over : is_overflow w bytes ≡ true
      over = ap (λ b. b && length w.cuts == most_fragments) (lt-ltb 0 (length bytes) some) ∙ eq-eqb (length w.cuts) most_fragments full

-- a sealed writer is asked nothing
pub asks_sealed : (s : State) (w : WriterSeen) (bytes : List ℕ) → w.sealed ≡ true → write_asks s w bytes ≡ []
asks_sealed s w bytes sealed = ap (λ b. if is_writing s w.put && not b then fed_asks s w bytes else []) sealed ∙ nothing (is_writing s w.put)
  where
    nothing : (b : Bool) → (if b && false then fed_asks s w bytes else []) ≡ []
    nothing true = refl
    nothing false = refl

-- ---- the put behind a cut

pub found_changed : (put : ℕ) (f : PutRow → PutRow) (puts : List PutRow) (w : PutRow) → ((x : PutRow) → (f x).put ≡ x.put) → find (λ p. p.put == put) puts ≡ Some w
    → find (λ p. p.put == put) (change_put put f puts) ≡ Some (f w)
found_changed put f puts w keeps found =
    find-changed (λ (p : PutRow). p.put) f keeps put put puts ∙ rw (eq-eqb put put refl) (ap (option_map f) found)

abbrev row_for : List ℕ → TableRow
row_for payload = made_row (length payload) (digest_of payload).0

module _ (old new : At) (w : WriterSeen) (payload : List ℕ) (c : CutsAs old new w payload) where
  abbrev room : State
  room = after_all (state_at old) c.room

  room_left : SamePuts (state_at old) room
  room_left = flush_leaves (state_at old) c.room c.kinds

  abbrev cut : State
  cut = state_after room (rec.Cut w.put (length w.cuts + 1) (length payload) (digest_of payload))

  abbrev placed : Rec
  placed = placed_record room (piece_cut_next w) w.pin (total_length w.cuts) (length payload) payload

  pushed_left : SamePuts cut (after_all cut c.displaced)
  pushed_left = let p : Permit = permit_of 0 old [] in pushed_leave p room cut (piece_cut_next w) c.displaced (c.pushed p refl)

  cut_state : state_at new ≡ state_after (after_all cut c.displaced) placed
  cut_state =
      let recs : List Rec = fragment_records room w payload c.displaced in
      state_behind old.kept new.kept (c.room ++ recs) c.adds ∙ (after_all-append (state_at old) c.room recs ∙ after_all-append cut c.displaced (placed ∷ []))

  cut_found : (row : PutRow) → put_of (state_at old) w.put ≡ Some row → put_of (state_at new) w.put ≡ Some (with_cut (row_for payload) row)
  cut_found row found =
      ap (λ (x : State). put_of x w.put) cut_state
      ∙ (ap (find (λ (p : PutRow). p.put == w.put)) pushed_left.puts
      ∙ found_changed w.put (with_cut (row_for payload)) room.puts row (λ x. refl) (ap (find (λ (p : PutRow). p.put == w.put)) room_left.puts ∙ found))

  cut_geometry : (state_at new).geometry ≡ (state_at old).geometry
  cut_geometry = ap (λ (x : State). x.geometry) cut_state ∙ (pushed_left.geometry ∙ room_left.geometry)

-- ---- what is told later

-- pairs of vectors, where the device did not tell its content up to this moment
abbrev pub PairsAt : At → Documents
PairsAt a = Untold a.device IsVectorAs

-- one of an earlier moment is one of a later one
pub serves_later : {now : ℕ} {a b : At} {asked : List Intent} {o : Progress} {before known : Facts} (last : At) → (TellsAll last.device → TellsAll b.device)
    → ServesFrom (PairsAt b) now a b asked o before known → ServesFrom (PairsAt last) now a b asked o before known
serves_later {b = b} last told f = serves_wider (PairsAt b) (PairsAt last) (untold_later IsVectorAs b.device last.device told) f

-- ---- a write that took bytes

pub record Wrote (now : ℕ) (old new : At) (w v : WriterSeen) (bytes : List ℕ) (n : ℕ) : Type 0 where
  pub own : IsWriterOf (state_at old) w
  pub takes : TakesBytes old new w bytes n
  pub serves : Serves now old new (write_asks (state_at old) w bytes) AllDone
  pub adds : AddsOnly (IsOfPut w.put) old new
  pub gathers : HasTaken (state_at old).geometry w bytes n v
  pub next_own : IsWriterOf (state_at new) v
  pub told : TellsAll new.device → TellsAll old.device

-- where it stands then: what the put has cut is what the writer has
pub record Stands (old new : At) (w v : WriterSeen) : Type 0 where
  pub writing : is_writing (state_at new) w.put ≡ true
  pub geometry : (state_at new).geometry ≡ (state_at old).geometry
  pub cuts : cuts_of (state_at new) w.put ≡ v.cuts

-- it cut a fragment
pub record Cuts (now : ℕ) (old new : At) (w v : WriterSeen) (bytes : List ℕ) (n : ℕ) : Type 0 where
  pub stands : Stands old new w v
  pub serves : Serves now old new (cuts_next w (gathered_with w bytes n) ∷ []) AllDone
  pub full : length w.gathered + n ≡ (state_at old).geometry.fragment
  pub row : TableRow
  pub rows : v.cuts ≡ w.cuts ++ row ∷ []
  pub size : row.length ≡ (state_at old).geometry.fragment
  pub empty : v.gathered ≡ []

-- or gathered
pub record Gathers (now : ℕ) (old new : At) (w v : WriterSeen) (bytes : List ℕ) (n : ℕ) : Type 0 where
  pub stands : Stands old new w v
  pub serves : Serves now old new [] AllDone
  pub short : length w.gathered + n < (state_at old).geometry.fragment
  pub rows : v.cuts ≡ w.cuts
  pub items : v.gathered ≡ w.gathered ++ take n bytes

-- how many were taken
pub takes_within : (f g len n : ℕ) → g < f → n ≡ min len (f - g) → (n ≤ len) × (g + n ≤ f)
takes_within f g len n few is = (omega (arith, is), omega (arith, is, few))

pub writing_found : (s : State) (put : ℕ) (row : PutRow) → put_of s put ≡ Some row → is_writing s put ≡ is_open row
writing_found s put row h = ap (λ (o : Option PutRow). unwrap_or (option_map is_open o) false) h

pub few_of : (s : State) (w : WriterSeen) → is_writing s w.put ≡ true → IsWriterOf s w → length w.gathered < s.geometry.fragment
few_of s w writing own = let o : IsFoundOpen s w.put = open_row s w.put writing in (own o.w o.found o.is_open).few

module _ (now : ℕ) (old new : At) (w v : WriterSeen) (bytes : List ℕ) (n : ℕ) (h : Wrote now old new w v bytes n) where
  abbrev s : State
  s = state_at old

  abbrev t : State
  t = state_at new

  abbrev payload : List ℕ
  payload = gathered_with w bytes n

  pub few : length w.gathered < s.geometry.fragment
  few = few_of s w h.takes.taking.0 h.own

  pub within : (n ≤ length bytes) × (length w.gathered + n ≤ s.geometry.fragment)
  within = takes_within s.geometry.fragment (length w.gathered) (length bytes) n few h.takes.count

  taken_size : length payload ≡ length w.gathered + n
  taken_size = length-append w.gathered (take n bytes) ∙ ap (λ k. length w.gathered + k) (length-take-le n bytes within.0)

  -- what it did
  cut_as : fills_fragment s.geometry w n ≡ true → CutsAs old new w payload
  cut_as cut = subst (λ b. MatchBool b (CutsAs old new w payload) (new.kept ≡ old.kept)) cut h.takes.cuts

  as_it_was : fills_fragment s.geometry w n ≡ false → new.kept ≡ old.kept
  as_it_was cut = subst (λ b. MatchBool b (CutsAs old new w payload) (new.kept ≡ old.kept)) cut h.takes.cuts

  pub cuts : fills_fragment s.geometry w n ≡ true → Cuts now old new w v bytes n
  cuts cut =
      let o : IsFoundOpen s w.put = open_row s w.put h.takes.taking.0 in
      let c : CutsAs old new w payload = cut_as cut in
      let found : put_of t w.put ≡ Some (with_cut (row_for payload) o.w) = cut_found old new w payload c o.w o.found in
      let there : IsAtHand t.geometry (with_cut (row_for payload) o.w) v = h.next_own (with_cut (row_for payload) o.w) (ap (put_of t) h.gathers.put ∙ found) o.is_open in
      let full : length w.gathered + n ≡ s.geometry.fragment = eqb-true (length w.gathered + n) s.geometry.fragment cut in
      record {
        stands = record {
          writing = writing_found t w.put (with_cut (row_for payload) o.w) found ∙ (sym (writing_found s w.put o.w o.found) ∙ h.takes.taking.0);
          geometry = cut_geometry old new w payload c;
          cuts = cuts_found t w.put (with_cut (row_for payload) o.w) found ∙ there.cuts_are;
        };
        serves =
            subst (λ is. Serves now old new is AllDone)
            (asks_cut s w bytes h.takes.taking h.takes.few (subst (λ k. fills_fragment s.geometry w k ≡ true) h.takes.count cut)
            ∙ ap (λ k. cuts_next w (gathered_with w bytes k) ∷ []) (sym h.takes.count)) h.serves;
        full = full;
        row = row_for payload;
        rows = sym there.cuts_are ∙ ap (λ cs. cs ++ row_for payload ∷ []) (h.own o.w o.found o.is_open).cuts_are;
        size = taken_size ∙ full;
        empty = h.gathers.gathered ∙ ap (λ b. if b then [] else payload) cut;
      }

  pub gathers : fills_fragment s.geometry w n ≡ false → Gathers now old new w v bytes n
  gathers cut =
      let o : IsFoundOpen s w.put = open_row s w.put h.takes.taking.0 in
      let state : t ≡ s = ap state_of (as_it_was cut) in
      let found : put_of t w.put ≡ Some o.w = ap (λ (x : State). put_of x w.put) state ∙ o.found in
      let there : IsAtHand t.geometry o.w v = h.next_own o.w (ap (put_of t) h.gathers.put ∙ found) o.is_open in
      record {
        stands = record {
          writing = ap (λ (x : State). is_writing x w.put) state ∙ h.takes.taking.0;
          geometry = ap (λ (x : State). x.geometry) state;
          cuts = cuts_found t w.put o.w found ∙ there.cuts_are;
        };
        serves = subst (λ is. Serves now old new is AllDone)
            (asks_none s w bytes h.takes.taking h.takes.few
            (subst (λ k. fills_fragment s.geometry w k ≡ false) h.takes.count cut)) h.serves;
        short = below (length w.gathered + n) s.geometry.fragment cut within.1;
        rows = sym there.cuts_are ∙ (h.own o.w o.found o.is_open).cuts_are;
        items = h.gathers.gathered ∙ ap (λ b. if b then [] else payload) cut;
      }
    where
      below : (a b : ℕ) → (a == b) ≡ false → a ≤ b → a < b
      below a b ne le = elim (eqb_tells a b) [ inl e ↦ let clash : true ≡ false = sym e.0 ∙ ne in cc | inr e ↦ omega (arith, e.1, le) ]

  -- where bytes are left, a fragment was cut
  pub cut_or_all : n < length bytes → fills_fragment s.geometry w n ≡ true
  cut_or_all left = eq-eqb (length w.gathered + n) s.geometry.fragment (all s.geometry.fragment (length w.gathered) (length bytes) n few h.takes.count left)
    where
      all : (f g len k : ℕ) → g < f → k ≡ min len (f - g) → k < len → g + k ≡ f
      all f g len k few is left = omega (arith, few, is, left)
