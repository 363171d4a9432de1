-- A writer that is fed, between two writes.
use Rattle.std.proofs.Common.{◌≡◌, ℕ, ◌+◌, ◌-◌, ◌<◌, ◌≤◌, List, sym, subst, arith, true, length, drop, take, Ok, Err}
use Rattle.std.specs.Prelude.{Option, Some, None}
use Rattle.std.proofs.lemmas.List.{drop-drop, length-drop, take_all}
use Rattle.logged_disk.specs.Device.{TellsAll}
use Rattle.cache_model.specs.State.{State}
use Rattle.cache_model.specs.Legal.{is_writing}
use Rattle.cache_model.specs.Contents.{Contents}
use Rattle.call_laws.specs.Moments.{At}
use Rattle.call_laws.specs.Serves.{Serves}
use Rattle.cache_answers.specs.declared.answers.Refusal.{Refusal}
use Rattle.cache_calls.specs.Actors.{IsWriterOf, WriterSeen}
use Rattle.cache_model.specs.Subjects.{IsOfPut}
use Rattle.cache_calls.specs.Adds.{AddsOnly}
use Rattle.cache_calls.specs.Asked.{gathered_with, refused_at, write_asks}
use Rattle.cache_calls.specs.Keeping.{IsAtRest, KeepsUnharmed, state_at}
use Rattle.cache_calls.specs.Standing.{IsToldNext, IsToldWritten, StaysStanding}
use Rattle.cache_calls.specs.Writers.{Writes}
use Rattle.cache_calls.proofs.Keeping.{keeps_then}
use Rattle.cache_replay.specs.Feeding.{HasFed}
use Rattle.line_calls.specs.Standing.{IsToldFrom}
use Rattle.line_calls.proofs.FeedRounds.{Cuts, Wrote, cut_or_all, cuts, few, within}
use Rattle.cache_replay.proofs.FeedEnds.{Ends, then_ends}
use Rattle.cache_replay.proofs.FeedWhole.{last_ends}
use Rattle.cache_replay.proofs.FeedRefused.{refused_ends}
use Rattle.cache_replay.proofs.PutsGrown.{GrowsFrom, put_grows}
use Rattle.cache_replay.proofs.ToldFrom.{IsLater, later_before, later_behind, later_of, next_told, others_told}

-- what is left, as the code names it
abbrev pub part : List ℕ → ℕ → List ℕ
part bytes taken = take (length bytes - taken) (drop taken bytes)

-- however it ends with what is left, so it ends with all
abbrev pub Onward : (now : ℕ) (old mid : At) (w v : WriterSeen) (bytes : List ℕ) (taken : ℕ) → Type 0
Onward now old mid w v bytes taken =
    (new : At) (end : WriterSeen) (more : ℕ) (why : Option Refusal) → Ends now mid new v end (drop taken bytes) more why → Ends now old new w end bytes (taken + more) why

-- before the first write
pub onward_from_none : (now : ℕ) (old : At) (w : WriterSeen) (bytes : List ℕ) → Onward now old old w w bytes 0
onward_from_none now old w bytes = λ new end more why ends. subst (λ m. Ends now old new w end bytes m why) (none more) ends
  where
    none : (a : ℕ) → a ≡ 0 + a
    none a = omega arith

-- a write that left bytes over
one_more : (now : ℕ) (old mid next : At) (w v u : WriterSeen) (bytes : List ℕ) (taken n : ℕ) → n < length (drop taken bytes) → Wrote now mid next v u (drop taken bytes) n
    → Onward now old mid w v bytes taken → Onward now old next w u bytes (taken + n)
one_more now old mid next w v u bytes taken n left h onward = λ new end more why ends.
    let rest : Ends now next new u end (drop n (drop taken bytes)) more why = subst (λ xs. Ends now next new u end xs more why) (sym (drop-drop n taken bytes)) ends in
    subst (λ m. Ends now old new w end bytes m why) (sum taken n more)
    (onward new end (n + more) why
    (then_ends now mid next new v u end (drop taken bytes) n h
    (cuts now mid next v u (drop taken bytes) n h (cut_or_all now mid next v u (drop taken bytes) n h left)) more why rest))
  where
    sum : (a b c : ℕ) → a + (b + c) ≡ (a + b) + c
    sum a b c = omega arith

-- Where all fragments are told that are cut up to some later state, what stood at first stands; and those are told that are still
-- to be cut.
abbrev pub StandsOn : {S : Type 0} → (S → At) → (S → Contents → Type 0) → (first mid : S) → (w v : WriterSeen) → List ℕ → ℕ → Type 0
StandsOn at stands first mid w v bytes taken = (contents : Contents) (t : State) → IsLater (state_at (at mid)) t v → IsToldFrom t w bytes contents
    → (stands first contents → stands mid contents) × IsToldFrom t v (drop taken bytes) contents

-- the first cache, and the one behind the writes so far
pub record Turned {S : Type 0} (at : S → At) (holds : S → Type 0) (stands : S → Contents → Type 0) (now : ℕ) (first mid : S) (w v : WriterSeen)
    (bytes : List ℕ) (taken : ℕ) : Type 0 where
  pub keeps : KeepsUnharmed at holds first mid
  pub writer : IsWriterOf (state_at (at mid)) v
  pub writing : is_writing (state_at (at mid)) v.put ≡ true
  pub within : taken ≤ length bytes
  pub onward : Onward now (at first) (at mid) w v bytes taken
  pub told : StandsOn at stands first mid w v bytes taken

-- what is known at the end
pub fed_at : (now : ℕ) (old new : At) (w v : WriterSeen) (bytes : List ℕ) (taken : ℕ) (why : Option Refusal) → Ends now old new w v bytes taken why → taken ≤ length bytes
    → IsWriterOf (state_at new) v → HasFed old new w bytes taken why v
fed_at now old new w v bytes taken why ends most own = record {
  own = ends.own;
  writer = own;
  fed = ends.fed;
  most = most;
  taken_is = ends.takes;
  cut = ends.cut;
  writing = ends.writing;
  counts = ends.counts;
}

module _ {S : Type 0} (at : S → At) (holds : S → Type 0) (stands : S → Contents → Type 0) (now : ℕ) (first mid next : S) (w v u : WriterSeen)
    (bytes : List ℕ) (taken : ℕ) (turned : Turned at holds stands now first mid w v bytes taken) where
  abbrev left : List ℕ
  left = drop taken bytes

  part_is : part bytes taken ≡ left
  part_is = let cut : length left ≡ length bytes - taken = length-drop taken bytes in take_all (length bytes - taken) left (omega (arith, cut))

  left_size : length left + taken ≡ length bytes
  left_size = let cut : length left ≡ length bytes - taken = length-drop taken bytes in let in_time : taken ≤ length bytes = turned.within in omega (arith, cut, in_time)

  pub refuses : (why : Refusal) → Writes (at mid) (at next) v (part bytes taken) (Err why)
      → Serves now (at mid) (at next) (write_asks (state_at (at mid)) v (part bytes taken)) (refused_at v.put (write_asks (state_at (at mid)) v (part bytes taken)) why)
      → AddsOnly (IsOfPut v.put) (at mid) (at next) → (TellsAll (at next).device → TellsAll (at mid).device) → u ≡ v
      → Ends now (at first) (at next) w u bytes taken (Some why)
  refuses why gives serves adds told same =
      subst (λ m. Ends now (at first) (at next) w u bytes m (Some why)) (no_more taken)
      (turned.onward (at next) u 0 (Some why)
      (subst (λ x. Ends now (at mid) (at next) v x left 0 (Some why)) (sym same)
      (refused_ends now (at mid) (at next) v left turned.writer turned.writing why
      (subst (λ xs. Writes (at mid) (at next) v xs (Err why)) part_is gives)
      (subst (λ xs. Serves now (at mid) (at next) (write_asks (state_at (at mid)) v xs) (refused_at v.put (write_asks (state_at (at mid)) v xs) why)) part_is serves) adds told)))
    where
      no_more : (k : ℕ) → k + 0 ≡ k
      no_more k = omega arith

  -- what a refused call leaves of the put, for whatever it records
  later : IsAtRest (at next) → AddsOnly (IsOfPut v.put) (at mid) (at next) → IsLater (state_at (at mid)) (state_at (at next)) v
  later rest adds = later_of (state_at (at mid)) (state_at (at next)) v turned.writing turned.writer (put_grows (at mid) (at next) rest v.put v.put adds)

  -- nothing was cut that is to be told
  pub refused_stands : (why : Refusal) → IsAtRest (at next) → AddsOnly (IsOfPut v.put) (at mid) (at next)
      → StaysStanding stands (IsToldWritten (state_at (at mid)) v (part bytes taken) (Err why)) mid next
      → StaysStanding stands (IsToldFrom (state_at (at next)) w bytes) first next
  refused_stands why rest adds stays = λ contents told before. stays contents tt ((turned.told contents (state_at (at next)) (later rest adds) told).0 before)

  module _ (n : ℕ) (told : Wrote now (at mid) (at next) v u (part bytes taken) n) where
    h : Wrote now (at mid) (at next) v u left n
    h = subst (λ xs. Wrote now (at mid) (at next) v u xs n) part_is told

    -- what a write takes is no more than what is left, and something where it leaves some
    pub bounds : taken + n ≤ length bytes
    bounds = let most : n ≤ length left = (within now (at mid) (at next) v u left n h).0 in omega (arith, most, left_size)

    leaves_some : (taken + n ≡ length bytes → ⊥) → n < length left
    leaves_some other = below n taken (length bytes) (length left) bounds other left_size
      where
        below : (k m b c : ℕ) → m + k ≤ b → (m + k ≡ b → ⊥) → c + m ≡ b → k < c
        below k m b c le ne sum = omega (arith, le, ne, sum)

    cut_some : (taken + n ≡ length bytes → ⊥) → Cuts now (at mid) (at next) v u left n
    cut_some other = cuts now (at mid) (at next) v u left n h (cut_or_all now (at mid) (at next) v u left n h (leaves_some other))

    -- so less is left each time
    pub smaller : (taken + n ≡ length bytes → ⊥) → length bytes - (taken + n) < length bytes - taken
    smaller other =
        let full = (cut_some other).full in
        let less = few now (at mid) (at next) v u left n h in
        let le = bounds in
        omega (arith, full, less, le)

    pub all_ends : taken + n ≡ length bytes → Ends now (at first) (at next) w u bytes (taken + n) None
    all_ends whole = turned.onward (at next) u n None (last_ends now (at mid) (at next) v u left n h (omega (arith, whole, left_size)))

    module _ (rest : IsAtRest (at next)) (stays : StaysStanding stands (IsToldWritten (state_at (at mid)) v (part bytes taken) (Ok n)) mid next) where
      grows : GrowsFrom (state_at (at mid)) (state_at (at next)) v.put
      grows = put_grows (at mid) (at next) rest v.put v.put h.adds

      -- a fragment that was cut is told
      cut_stays : (contents : Contents) → (Cuts now (at mid) (at next) v u left n → IsToldNext v (gathered_with v left n) contents) → stands mid contents
          → stands next contents
      cut_stays contents cut = stays contents
          (subst (λ xs. IsToldWritten (state_at (at mid)) v xs (Ok n) contents) (sym part_is) (λ yes. cut (cuts now (at mid) (at next) v u left n h yes)))

      pub all_stand : StaysStanding stands (IsToldFrom (state_at (at next)) w bytes) first next
      all_stand = λ contents all before.
          let both = turned.told contents (state_at (at next)) (later rest h.adds) all in
          cut_stays contents (λ c.
          let behind = later_behind now (at mid) (at next) v u left n h c grows in
          next_told now (at mid) (at next) v u left n h c grows (state_at (at next)) behind contents both.1) (both.0 before)

      stands_on : (taken + n ≡ length bytes → ⊥) → StandsOn at stands first next w u bytes (taken + n)
      stands_on other contents t after all =
          let c = cut_some other in
          let both = turned.told contents t (later_before now (at mid) (at next) v u left n h c grows t after) all in (
            λ before. cut_stays contents (λ c. next_told now (at mid) (at next) v u left n h c grows t after contents both.1) (both.0 before),
            subst (λ xs. IsToldFrom t u xs contents) (drop-drop n taken bytes) (others_told now (at mid) (at next) v u left n h c grows t after contents both.1),
          )

    pub goes_on : (taken + n ≡ length bytes → ⊥) → KeepsUnharmed at holds mid next → IsAtRest (at next)
        → StaysStanding stands (IsToldWritten (state_at (at mid)) v (part bytes taken) (Ok n)) mid next
        → Turned at holds stands now first next w u bytes (taken + n)
    goes_on other keeps rest stays = record {
      keeps = keeps_then turned.keeps keeps;
      writer = h.next_own;
      writing = subst (λ q. is_writing (state_at (at next)) q ≡ true) (sym h.gathers.put) (cut_some other).stands.writing;
      within = bounds;
      onward = one_more now (at first) (at mid) (at next) w v u bytes taken n (leaves_some other) h turned.onward;
      told = stands_on rest stays other;
    }
