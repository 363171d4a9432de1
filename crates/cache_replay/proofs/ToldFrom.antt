-- What is told of the fragments that a writer cuts as it is fed and closed.
use Rattle.std.proofs.Common.{◌≡◌, ℕ, ◌+◌, ◌-◌, ◌*◌, ◌<◌, ◌≤◌, List, [], ◌++◌, inl, inr, refl, sym, ◌∙◌, ap, subst, arith, true, false, length, take, drop}
use Rattle.std.specs.Prelude.{Some, None, IfSome}
use Rattle.std.proofs.lemmas.List.{drop-drop, take_all}
use Rattle.std.proofs.Math.Seq.{take-append-add, take-length}
use Rattle.tape_base.specs.declared.geometries.Geometry.{Geometry}
use Rattle.tape_base.specs.declared.keys.Key.{Key}
use Rattle.fragment_table.specs.Table.{TableRow, total_length}
use Rattle.cache_model.specs.State.{PutRow, State, fragment_piece, put_of}
use Rattle.cache_model.specs.Verdict.{cuts_of}
use Rattle.cache_model.specs.Legal.{is_writing}
use Rattle.cache_model.proofs.Found.{cuts_found, same_some}
use Rattle.cache_model.specs.Contents.{Content, Contents, TellsVectors}
use Rattle.call_laws.specs.Moments.{At}
use Rattle.cache_calls.specs.Actors.{IsAtHand, IsWriterOf, WriterSeen}
use Rattle.cache_calls.specs.Asked.{gathered_with}
use Rattle.cache_calls.specs.Keeping.{state_at}
use Rattle.cache_calls.specs.Standing.{IsToldClosed, IsToldNext}
use Rattle.script_run.specs.Own.{piece_of}
use Rattle.script_run.proofs.Ended.{IsFoundOpen, open_row}
use Rattle.cache_replay.specs.Feeding.{IsFed}
use Rattle.cache_replay.specs.Putting.{IsFreshWriter}
use Rattle.cache_replay.specs.Session.{IsOpenWriter}
use Rattle.line_calls.specs.Standing.{IsToldFrom, TellsPut}
use Rattle.cache_replay.proofs.FeedEnds.{rest_is, rows_count}
use Rattle.line_calls.proofs.FeedRounds.{Cuts, Wrote}
use Rattle.cache_replay.proofs.PutsGrown.{GrowsFrom, told_grown}

-- ---- fragments

-- behind those that were cut each has an index less by so many
pub piece_behind : (f cut : ℕ) (body : List ℕ) (index : ℕ) → cut < index
    → piece_of f body index ≡ piece_of f (drop (cut * f) body) (index - cut)
piece_behind f cut body index behind =
    ap (λ k. take f (drop k body)) shifted ∙ ap (take f) (sym (drop-drop ((index - cut - 1) * f) (cut * f) body))
  where
    shifted : (index - 1) * f ≡ cut * f + (index - cut - 1) * f
    shifted = let sum : index - 1 ≡ cut + (index - cut - 1) = omega (arith, behind) in ap (λ k. k * f) sum ∙ (omega arith)

first_piece : (f : ℕ) (body : List ℕ) → piece_of f body 1 ≡ take f body
first_piece f body = let none : (1 - 1) * f ≡ 0 = omega arith in ap (λ k. take f (drop k body)) none

same_content : (a b : ℕ) (xs ys : List ℕ) → a ≡ b → xs ≡ ys
    → let one : Content = record { start = a; payload = xs } in one ≡ record { start = b; payload = ys }
same_content a b xs ys start payload =
    ap (λ n. let c : Content = record { start = n; payload = xs } in c) start
    ∙ ap (λ bytes. let c : Content = record { start = b; payload = bytes } in c) payload

told_same : (contents : Contents) (a b : Key) (put index : ℕ) (x y : Content) → a ≡ b → x ≡ y
    → IfSome (contents (fragment_piece a put index) None) (λ c. c ≡ x) → IfSome (contents (fragment_piece b put index) None) (λ c. c ≡ y)
told_same contents a b put index x y key same told =
    subst (λ k. IfSome (contents (fragment_piece k put index) None) (λ c. c ≡ y)) key
    (subst (λ z. IfSome (contents (fragment_piece a put index) None) (λ c. c ≡ z)) same told)

-- ---- the put, later

-- it has what the writer has cut, under its key
pub record IsLater (s t : State) (w : WriterSeen) : Type 0 where
  pub row : PutRow
  pub found : put_of t w.put ≡ Some row
  pub key : row.key ≡ w.key
  pub more : length w.cuts ≤ length row.cuts
  pub geometry : t.geometry ≡ s.geometry

pub later_of : (s t : State) (w : WriterSeen) → is_writing s w.put ≡ true → IsWriterOf s w → GrowsFrom s t w.put → IsLater s t w
later_of s t w writing own g =
    let o : IsFoundOpen s w.put = open_row s w.put writing in
    let hand : IsAtHand s.geometry o.w w = own o.w o.found o.is_open in
    let grown = g.grown o.w o.found in
    let cuts : length o.w.cuts ≡ length w.cuts = ap length hand.cuts_are in
    record { row = grown.now; found = grown.found; key = grown.key ∙ hand.key_is; more = omega (arith, cuts, grown.more); geometry = g.geometry }

-- the writer has gathered less than a fragment
pub gathered_few : (s t : State) (w : WriterSeen) → t.geometry ≡ s.geometry → IsOpenWriter s w → length w.gathered < t.geometry.fragment
gathered_few s t w same at_hand =
    let o : IsFoundOpen s w.put = open_row s w.put at_hand.writing in
    let hand : IsAtHand s.geometry o.w w = at_hand.writer o.w o.found o.is_open in
    subst (λ (g : Geometry). length w.gathered < g.fragment) (sym same) hand.few

-- an unsealed one has cut whole fragments alone: of a writer at hand, where `whole_cuts` is of what the run says that it took
all_whole : (s : State) (w : WriterSeen) → is_writing s w.put ≡ true → IsWriterOf s w → w.sealed ≡ false
    → total_length w.cuts ≡ length w.cuts * s.geometry.fragment
all_whole s w writing own unsealed =
    let o : IsFoundOpen s w.put = open_row s w.put writing in
    let hand : IsAtHand s.geometry o.w w = own o.w o.found o.is_open in
    elim hand.whole [
      | inl cut ↦ (let clash : true ≡ false = sym cut.sealed ∙ unsealed in cc)
      | inr whole ↦ subst (λ (rows : List TableRow). total_length rows ≡ length rows * s.geometry.fragment) hand.cuts_are whole
    ]

-- ---- all that a writer cuts

-- it is told as of a writer that goes on, where it is of a body that has the same fragments there
pub told_from : (t : State) (w : WriterSeen) (bytes body : List ℕ) (contents : Contents)
    → ((row : PutRow) → put_of t w.put ≡ Some row → (index : ℕ) → length w.cuts < index → index ≤ length row.cuts
    → piece_of t.geometry.fragment body index ≡ piece_of t.geometry.fragment (w.gathered ++ bytes) (index - length w.cuts))
    → TellsVectors contents → TellsPut t w.put body contents → IsToldFrom t w bytes contents
told_from t w bytes body contents same vectors told = record {
  vectors = vectors;
  cut = λ row found index behind within.
      let f : ℕ = t.geometry.fragment in
      told_same contents row.key row.key w.put index _ _ refl
      (same_content ((index - 1) * f) ((index - 1) * f) (piece_of f body index) (piece_of f (w.gathered ++ bytes) (index - length w.cuts)) refl
      (same row found index behind within)) (told row found index (omega (arith, behind)) within);
}

-- what it cuts last, as it is closed, is all that it had gathered: the rest of the body behind what it had cut
module _ (s t : State) (w : WriterSeen) (body : List ℕ) (later : IsLater s t w) (few : length w.gathered < t.geometry.fragment)
    (rest : w.gathered ≡ drop (total_length w.cuts) body)
    (whole : length w.cuts < length later.row.cuts → total_length w.cuts ≡ length w.cuts * t.geometry.fragment) where
  rest_told : (contents : Contents) → TellsPut t w.put body contents → length w.cuts < length (cuts_of t w.put)
      → IsToldNext w w.gathered contents
  rest_told contents told more =
      let f : ℕ = t.geometry.fragment in
      let index : ℕ = length w.cuts + 1 in
      let rows : length (cuts_of t w.put) ≡ length later.row.cuts = ap length (cuts_found t w.put later.row later.found) in
      let less : index - 1 ≡ length w.cuts = omega arith in
      let start : (index - 1) * f ≡ total_length w.cuts = ap (λ k. k * f) less ∙ sym (whole (omega (arith, more, rows))) in
      let piece : piece_of f body index ≡ w.gathered =
      ap (λ k. take f (drop k body)) start ∙ (ap (take f) (sym rest) ∙ take_all f w.gathered (omega (arith, few))) in
      told_same contents later.row.key w.key w.put index _ _ later.key
      (same_content ((index - 1) * f) (total_length w.cuts) (piece_of f body index) w.gathered start piece)
      (told later.row later.found index (omega arith) (omega (arith, more, rows)))

  pub told_closed : (contents : Contents) → TellsVectors contents → TellsPut t w.put body contents → IsToldClosed t w contents
  told_closed contents vectors told = record { rest = rest_told contents told; vectors = vectors }

-- ---- a body that is put whole

-- of what a new writer cuts it is told that it is of what it takes
pub fresh_told : (s t : State) (w : WriterSeen) (body : List ℕ) (contents : Contents) → IsFreshWriter w → GrowsFrom s t w.put
    → TellsVectors contents × TellsPut t w.put body contents → IsToldFrom s w body contents
fresh_told s t w body contents fresh grows told =
    told_from s w body body contents (λ row found index behind within.
    let f : ℕ = s.geometry.fragment in
    let from : index - 0 ≡ index = omega arith in
    sym (ap (λ xs. piece_of f (xs ++ body) (index - length w.cuts)) fresh.gathered
    ∙ (ap (λ (rows : List TableRow). piece_of f body (index - length rows)) fresh.cuts ∙ ap (piece_of f body) from)))
    told.0 (told_grown s t w.put body contents grows told.1)

-- all was fed
module _ (s t : State) (w v : WriterSeen) (body : List ℕ) (taken : ℕ) (contents : Contents) (fresh : IsFreshWriter w)
    (fed : IsFed w body taken v)
    (whole : taken ≡ length body) (own : IsOpenWriter s v) (grows : GrowsFrom s t v.put) (told : TellsVectors contents × TellsPut t w.put body contents) where
  rest_of_body : v.gathered ≡ drop (total_length v.cuts) body
  rest_of_body =
      fed.gathered [] (ap total_length (sym fresh.cuts))
      ∙ ap (drop (total_length v.cuts)) (ap (λ xs. xs ++ take taken body) fresh.gathered ∙ (ap (λ k. take k body) whole ∙ take-length body))

  pub closed_told : IsToldClosed t v contents
  closed_told =
      told_closed s t v body (later_of s t v own.writing own.writer grows) (gathered_few s t v grows.geometry own) rest_of_body
      (λ more. all_whole s v own.writing own.writer (fed.sealed ∙ fresh.unsealed) ∙ ap (λ (g : Geometry). length v.cuts * g.fragment) (sym grows.geometry))
      contents told.0 (subst (λ q. TellsPut t q body contents) (sym fed.put) told.1)

-- ---- a fragment was cut

module _ (now : ℕ) (old new : At) (w v : WriterSeen) (bytes : List ℕ) (n : ℕ) (h : Wrote now old new w v bytes n) (c : Cuts now old new w v bytes n) where
  abbrev s : State
  s = state_at old

  abbrev f : ℕ
  f = s.geometry.fragment

  abbrev all : List ℕ
  all = w.gathered ++ bytes

  count : length v.cuts ≡ length w.cuts + 1
  count = rows_count c

  writes_on : is_writing (state_at new) v.put ≡ true
  writes_on = subst (λ q. is_writing (state_at new) q ≡ true) (sym h.gathers.put) c.stands.writing

  same_key : GrowsFrom s (state_at new) w.put → v.key ≡ w.key
  same_key g =
      let later : IsLater s (state_at new) w = later_of s (state_at new) w h.takes.taking.0 h.own g in
      let o : IsFoundOpen (state_at new) v.put = open_row (state_at new) v.put writes_on in
      let same : later.row ≡ o.w = same_some later.row o.w (put_of (state_at new) w.put) later.found (ap (put_of (state_at new)) (sym h.gathers.put) ∙ o.found) in
      sym (h.next_own o.w o.found o.is_open).key_is ∙ (ap (λ (row : PutRow). row.key) (sym same) ∙ later.key)

  -- what is later than the writer behind the cut is later than the one before it
  pub later_before : GrowsFrom s (state_at new) w.put → (t : State) → IsLater (state_at new) t v → IsLater s t w
  later_before g t later = record {
    row = later.row;
    found = ap (put_of t) (sym h.gathers.put) ∙ later.found;
    key = later.key ∙ same_key g;
    more = omega (arith, count, later.more);
    geometry = later.geometry ∙ g.geometry;
  }

  -- the writer behind the cut is that of the records
  pub later_behind : GrowsFrom s (state_at new) w.put → IsLater (state_at new) (state_at new) v
  later_behind g =
      let later : IsLater s (state_at new) w = later_of s (state_at new) w h.takes.taking.0 h.own g in
      let cuts : later.row.cuts ≡ v.cuts = sym (cuts_found (state_at new) w.put later.row later.found) ∙ c.stands.cuts in
      let size : length later.row.cuts ≡ length v.cuts = ap length cuts in
      record {
        row = later.row;
        found = ap (put_of (state_at new)) h.gathers.put ∙ later.found;
        key = later.key ∙ sym (same_key g);
        more = omega (arith, size);
        geometry = refl;
      }

  module _ (grows : GrowsFrom s (state_at new) w.put) (t : State) (later : IsLater (state_at new) t v) (contents : Contents) (told : IsToldFrom t w bytes contents) where
    size_is : t.geometry.fragment ≡ f
    size_is = ap (λ (g : Geometry). g.fragment) (later.geometry ∙ grows.geometry)

    -- of the fragment that was cut
    pub next_told : IsToldNext w (gathered_with w bytes n) contents
    next_told =
        let index : ℕ = length w.cuts + 1 in
        let size : ℕ = t.geometry.fragment in
        let first : index - length w.cuts ≡ 1 = omega arith in
        let less : index - 1 ≡ length w.cuts = omega arith in
        let start : (index - 1) * size ≡ total_length w.cuts =
        ap (λ k. k * size) less ∙ (ap (λ k. length w.cuts * k) size_is ∙ sym (all_whole s w h.takes.taking.0 h.own h.takes.taking.1)) in
        let piece : piece_of size all (index - length w.cuts) ≡ gathered_with w bytes n =
        ap (piece_of size all) first ∙ (first_piece size all ∙ (ap (λ k. take k all) (size_is ∙ sym c.full) ∙ take-append-add w.gathered bytes n)) in
        told_same contents later.row.key w.key w.put index _ _ (later.key ∙ same_key grows)
        (same_content ((index - 1) * size) (total_length w.cuts) (piece_of size all (index - length w.cuts)) (gathered_with w bytes n) start piece)
        (told.cut later.row (ap (put_of t) (sym h.gathers.put) ∙ later.found) index (omega arith) (omega (arith, later.more, count)))

    piece_is : (index : ℕ) → length v.cuts < index
        → piece_of t.geometry.fragment all (index - length w.cuts) ≡ piece_of t.geometry.fragment (v.gathered ++ drop n bytes) (index - length v.cuts)
    piece_is index above =
        let one_less : index - length w.cuts - 1 ≡ index - length v.cuts = omega (arith, count, above) in
        let once : 1 * f ≡ f = omega arith in
        subst (λ k. piece_of k all (index - length w.cuts) ≡ piece_of k (v.gathered ++ drop n bytes) (index - length v.cuts)) (sym size_is)
        (piece_behind f 1 all (index - length w.cuts) (omega (arith, count, above))
        ∙ (ap (piece_of f (drop (1 * f) all)) one_less
        ∙ ap (λ xs. piece_of f xs (index - length v.cuts)) (ap (λ k. drop k all) once ∙ sym (rest_is c))))

    -- and of those that are cut next
    pub others_told : IsToldFrom t v (drop n bytes) contents
    others_told = record {
      vectors = told.vectors;
      cut = λ row found index above within.
          told_same contents row.key row.key v.put index _ _ refl
          (same_content ((index - 1) * t.geometry.fragment) ((index - 1) * t.geometry.fragment) (piece_of t.geometry.fragment all (index - length w.cuts))
          (piece_of t.geometry.fragment (v.gathered ++ drop n bytes) (index - length v.cuts)) refl (piece_is index above))
          (subst (λ q. IfSome (contents (fragment_piece row.key q index) None) (λ c. c ≡ record {
            start = (index - 1) * t.geometry.fragment;
            payload = piece_of t.geometry.fragment all (index - length w.cuts);
          })) (sym h.gathers.put) (told.cut row (ap (put_of t) (sym h.gathers.put) ∙ found) index (omega (arith, count, above)) within));
    }
