-- How feeding ends: one write behind the other, up to the last.
use Rattle.std.proofs.Common.{◌≡◌, ℕ, ◌+◌, ◌-◌, ◌<◌, ◌≤◌, List, [], ◌∷◌, ◌++◌, sym, ◌∙◌, ap, subst, arith, true, false, length, take, drop}
use Rattle.std.specs.Prelude.{Option, Some, None, IfSome, ◌==◌}
use Rattle.std.proofs.lemmas.List.{append_assoc, length-append, length-drop, length-take-le}
use Rattle.std.proofs.Math.Seq.{take-append-add, drop-append-add, take-add}
use Rattle.std.proofs.lemmas.List.Sums.{sum_by-append}
use Rattle.tape_base.specs.declared.geometries.Geometry.{Geometry}
use Rattle.fragment_table.specs.Table.{TableRow, total_length}
use Rattle.cache_model.specs.State.{State, most_fragments}
use Rattle.cache_model.specs.Verdict.{cuts_of}
use Rattle.cache_model.specs.Permit.{Fragment, Intent}
use Rattle.logged_disk.specs.Device.{TellsAll}
use Rattle.call_laws.specs.Moments.{At}
use Rattle.call_laws.specs.Serves.{Serves}
use Rattle.call_laws.proofs.Served.{serves_first}
use Rattle.cache_answers.specs.declared.answers.Refusal.{Refusal}
use Rattle.cache_answers.specs.declared.answers.Refusal.TheVariants as refusal
use Rattle.cache_calls.specs.Actors.{WriterSeen}
use Rattle.cache_model.specs.Subjects.{IsOfPut}
use Rattle.cache_calls.specs.Adds.{AddsOnly}
use Rattle.cache_calls.specs.Asked.{cuts_next, gathered_with}
use Rattle.cache_calls.specs.Keeping.{state_at}
use Rattle.script_run.specs.Asked.{feed_intents, rest_behind, whole_fragments}
use Rattle.cache_replay.specs.Replies.{count_of_refusal}
use Rattle.cache_replay.specs.Feeding.{FeedsAsAsked, FeedsWhere, IsCutUp, IsCutWhere, IsFed, IsOpenBehind, feed_progress, taken_by_feed}
use Rattle.line_calls.proofs.CutBodies.{cut_first, not_most, rest_first, whole_first}
use Rattle.line_calls.proofs.FeedRounds.{Cuts, Wrote, few, serves_later, within}
use Rattle.cache_replay.proofs.Frames.{adds_then}

-- ---- what holds where feeding ends

pub record Ends (now : ℕ) (old new : At) (w v : WriterSeen) (bytes : List ℕ) (taken : ℕ) (why : Option Refusal) : Type 0 where
  pub feeds : FeedsWhere now old new w bytes why
  pub counts : IfSome why (λ refused. count_of_refusal refused ≤ new.device.faults)
  pub takes : taken ≡ taken_by_feed (state_at new) w bytes why
  pub fed : IsFed w bytes taken v
  pub cut : IsCutWhere (state_at old).geometry.fragment w bytes why v
  pub writing : IsOpenBehind (state_at new) w.put why
  pub own : AddsOnly (IsOfPut w.put) old new
  pub grown : total_length w.cuts ≤ total_length (cuts_of (state_at new) w.put)
  pub told : TellsAll new.device → TellsAll old.device

pub total_more : (rows more : List TableRow) (row : TableRow) → more ≡ rows ++ row ∷ [] → total_length more ≡ total_length rows + row.length
total_more rows more row is =
    let total : total_length (rows ++ row ∷ []) ≡ total_length rows + total_length (row ∷ []) = sum_by-append (λ (r : TableRow). r.length) rows (row ∷ []) in
    ap total_length is ∙ (total ∙ ap (λ k. total_length rows + k) (one row))
  where
    one : (r : TableRow) → total_length (r ∷ []) ≡ r.length
    one r = omega arith

pub length_more : (rows more : List TableRow) (row : TableRow) → more ≡ rows ++ row ∷ [] → length more ≡ length rows + 1
length_more rows more row is = ap length is ∙ length-append rows (row ∷ [])

-- ---- a fragment is cut, and then the rest is fed

module _ {now : ℕ} {old mid : At} {w v : WriterSeen} {bytes : List ℕ} {n : ℕ} (c : Cuts now old mid w v bytes n) where
  pub rows_count : length v.cuts ≡ length w.cuts + 1
  rows_count = length_more w.cuts v.cuts c.row c.rows

  -- what is left stands behind the fragment
  pub rest_is : v.gathered ++ drop n bytes ≡ drop (state_at old).geometry.fragment (w.gathered ++ bytes)
  rest_is =
      ap (λ xs. xs ++ drop n bytes) c.empty ∙ sym (ap (λ k. drop k (w.gathered ++ bytes)) (sym c.full) ∙ drop-append-add w.gathered bytes n)

module _ (now : ℕ) (old mid new : At) (w v end : WriterSeen) (bytes : List ℕ) (n : ℕ) (h : Wrote now old mid w v bytes n) (c : Cuts now old mid w v bytes n) where
  abbrev s : State
  s = state_at old

  abbrev f : ℕ
  f = s.geometry.fragment

  abbrev all : List ℕ
  all = w.gathered ++ bytes

  some : 0 < f
  some = s.geometry.accepted.fragment_fits.0

  in_time : n ≤ length bytes
  in_time = (within now old mid w v bytes n h).0

  whole : f ≤ length all
  whole = let size : length all ≡ length w.gathered + length bytes = length-append w.gathered bytes in omega (arith, size, c.full, in_time)

  take_is : take f all ≡ gathered_with w bytes n
  take_is = ap (λ k. take k all) (sym c.full) ∙ take-append-add w.gathered bytes n

  bytes_some : 0 < length bytes
  bytes_some = let few : length w.gathered < f = few now old mid w v bytes n h in omega (arith, few, c.full, in_time)

  room : (length w.cuts == most_fragments) ≡ false
  room = not_most (length w.cuts) (h.takes.few bytes_some)

  rows_total : total_length v.cuts ≡ total_length w.cuts + f
  rows_total = total_more w.cuts v.cuts c.row c.rows ∙ ap (λ k. total_length w.cuts + k) c.size

  intents_are : feed_intents f w.put (length w.cuts) all
      ≡ cuts_next w (gathered_with w bytes n) ∷ feed_intents (state_at mid).geometry.fragment v.put (length v.cuts) (v.gathered ++ drop n bytes)
  intents_are =
      cut_first f w.put (length w.cuts) all some whole room
      ∙ (ap (λ xs. Fragment w.put (length w.cuts + 1) xs ∷ feed_intents f w.put (length w.cuts + 1) (drop f all)) take_is
      ∙ ap (λ is. cuts_next w (gathered_with w bytes n) ∷ is)
      (ap (feed_intents f w.put (length w.cuts + 1)) (sym (rest_is c))
      ∙ (ap (λ k. feed_intents f w.put k (v.gathered ++ drop n bytes)) (sym (rows_count c))
      ∙ (ap (λ q. feed_intents f q (length v.cuts) (v.gathered ++ drop n bytes)) (sym h.gathers.put)
      ∙ ap (λ (g : Geometry). feed_intents g.fragment v.put (length v.cuts) (v.gathered ++ drop n bytes)) (sym c.stands.geometry)))))

  asks : (why : Option Refusal) → (TellsAll new.device → TellsAll mid.device) → FeedsAsAsked now mid new v (drop n bytes) why
      → FeedsAsAsked now old new w bytes why
  asks why told rest = record {
    open_still = h.takes.taking.1;
    serves = subst (λ (is : List Intent). Serves now old new is (feed_progress w.put why)) (sym intents_are)
        (serves_first (serves_later new told c.serves) (subst (λ q. Serves now mid new
        (feed_intents (state_at mid).geometry.fragment v.put (length v.cuts) (v.gathered ++ drop n bytes)) (feed_progress q why)) h.gathers.put rest.serves));
  }

  then_feeds : (why : Option Refusal) → (TellsAll new.device → TellsAll mid.device) → FeedsWhere now mid new v (drop n bytes) why
      → FeedsWhere now old new w bytes why
  then_feeds None told rest = asks None told rest
  then_feeds (Some refusal.TooManyFragments) told rest = asks (Some refusal.TooManyFragments) told rest
  then_feeds (Some (refusal.DeviceFault count)) told rest = asks (Some (refusal.DeviceFault count)) told rest
  then_feeds (Some (refusal.Exhausted number)) told rest = asks (Some (refusal.Exhausted number)) told rest
  then_feeds (Some (refusal.Memory e)) told rest = tt
  then_feeds (Some refusal.Sealed) told rest = let clash : true ≡ false = sym rest.0 ∙ (h.gathers.sealed ∙ h.takes.taking.1) in cc
  then_feeds (Some refusal.TooManyWriters) told rest = absurd rest
  then_feeds (Some refusal.NoSuchWriter) told rest = absurd rest
  then_feeds (Some (refusal.VectorTooLarge size)) told rest = absurd rest
  then_feeds (Some (refusal.Lost index cause)) told rest = absurd rest

  then_takes : (more : ℕ) (why : Option Refusal) → total_length v.cuts ≤ total_length (cuts_of (state_at new) v.put) → more ≡ taken_by_feed (state_at new) v (drop n bytes) why
      → n + more ≡ taken_by_feed (state_at new) w bytes why
  then_takes more None grown is =
      let left : length (drop n bytes) ≡ length bytes - n = length-drop n bytes in
      let more_is : more ≡ length (drop n bytes) = is in
      omega (arith, left, more_is, in_time)
  then_takes more (Some why) grown is =
      let none : length v.gathered ≡ 0 = ap length c.empty in
      let more_is : more ≡ total_length (cuts_of (state_at new) v.put) - (total_length v.cuts + length v.gathered) = is in
      ap (λ m. n + m) more_is
      ∙ (sum (total_length (cuts_of (state_at new) v.put)) (total_length v.cuts) (length v.gathered) (total_length w.cuts) (length w.gathered) f grown none rows_total c.full
      ∙ ap (λ q. total_length (cuts_of (state_at new) q) - (total_length w.cuts + length w.gathered)) h.gathers.put)
    where
      sum : (t r g a b whole_ : ℕ) → r ≤ t → g ≡ 0 → r ≡ a + whole_ → b + n ≡ whole_ → n + (t - (r + g)) ≡ t - (a + b)
      sum t r g a b whole_ le none total full = omega (arith, le, none, total, full)

  then_fed : (more : ℕ) → IsFed v (drop n bytes) more end → IsFed w bytes (n + more) end
  then_fed more rest = record {
    put = rest.put ∙ h.gathers.put;
    sealed = rest.sealed ∙ h.gathers.sealed;
    gathered = λ front size.
        let longer : List ℕ = front ++ gathered_with w bytes n in
        let gathered : length (gathered_with w bytes n) ≡ f =
        length-append w.gathered (take n bytes) ∙ (ap (λ k. length w.gathered + k) (length-take-le n bytes in_time) ∙ c.full) in
        let sized : length longer ≡ total_length v.cuts =
        length-append front (gathered_with w bytes n) ∙ (ap (λ k. length front + k) gathered ∙ (ap (λ k. k + f) size ∙ sym rows_total)) in
        rest.gathered longer sized
        ∙ ap (drop (total_length end.cuts))
        (ap (λ xs. longer ++ (xs ++ take more (drop n bytes))) c.empty
        ∙ (append_assoc front (gathered_with w bytes n) (take more (drop n bytes))
        ∙ ap (λ xs. front ++ xs) (append_assoc w.gathered (take n bytes) (take more (drop n bytes)) ∙ ap (λ xs. w.gathered ++ xs) (sym (take-add n more bytes)))));
    within =
        let none : length v.gathered ≡ 0 = ap length c.empty in
        omega (arith, rest.within, none, rows_total, c.full);
  }

  then_cut : (why : Option Refusal) → IsCutWhere (state_at mid).geometry.fragment v (drop n bytes) why end → IsCutWhere f w bytes why end
  then_cut None rest =
      let here : IsCutUp f v (drop n bytes) end = subst (λ (g : Geometry). IsCutUp g.fragment v (drop n bytes) end) c.stands.geometry rest in
      record {
        fragments = here.fragments ∙ (ap (λ xs. length v.cuts + whole_fragments f xs) (rest_is c)
            ∙ (counts (length v.cuts) (length w.cuts) (whole_fragments f (drop f all)) (rows_count c) ∙ ap (λ k. length w.cuts + k) (sym (whole_first f all some whole))));
        rest = here.rest ∙ (ap (rest_behind f) (rest_is c) ∙ sym (rest_first f all some whole));
      }
    where
      counts : (a b k : ℕ) → a ≡ b + 1 → a + k ≡ b + (k + 1)
      counts a b k is = omega (arith, is)
  then_cut (Some why) rest = tt

  pub then_ends : (more : ℕ) (why : Option Refusal) → Ends now mid new v end (drop n bytes) more why → Ends now old new w end bytes (n + more) why
  then_ends more why rest = record {
    feeds = then_feeds why rest.told rest.feeds;
    counts = rest.counts;
    takes = then_takes more why rest.grown rest.takes;
    fed = then_fed more rest.fed;
    cut = then_cut why rest.cut;
    writing = subst (λ q. IsOpenBehind (state_at new) q why) h.gathers.put rest.writing;
    own = adds_then (IsOfPut w.put) old mid new h.adds (subst (λ q. AddsOnly (IsOfPut q) mid new) h.gathers.put rest.own);
    grown =
        let up : total_length v.cuts ≤ total_length (cuts_of (state_at new) w.put) =
        subst (λ q. total_length v.cuts ≤ total_length (cuts_of (state_at new) q)) h.gathers.put rest.grown in
        omega (arith, up, rows_total);
    told = λ tells. h.told (rest.told tells);
  }
