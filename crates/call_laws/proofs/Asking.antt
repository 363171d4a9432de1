-- A lookup asks the device for the vector of its key.
use Rattle.std.proofs.Common.{◌≡◌, ℕ, ◌+◌, ◌<◌, ◌≤◌, arith, true, false, List, [], ◌∷◌, refl, sym, ◌∙◌, ap, subst, inl, inr}
use Rattle.std.specs.Prelude.{Some, None}
use Rattle.device_log.specs.Calls.{Call}
use Rattle.tape_base.specs.declared.keys.Key.{Key}
use Rattle.tape_base.specs.Place.{block_of}
use Rattle.alternate_vector.specs.Field.{Field}
use Rattle.cache_model.specs.declared.record.Rec.{Rec}
use Rattle.cache_model.specs.State.{Row, State, after_all}
use Rattle.cache_model.specs.Kept.{state_of}
use Rattle.cache_model.specs.Verdict.{live_vector_of}
use Rattle.cache_model.specs.Permit.{End, Intent, Look, Permit, Stays, Work, to_do, work_after}
use Rattle.cache_model.specs.Given
use Rattle.cache_model.specs.Given.{IsGiven, IsRead, IsReadWhereLive, IsWritten, Trouble}
use Rattle.cache_model.specs.Legal
use Rattle.cache_model.specs.Legal.{DoesLook, IsLookup, MayGrow}
use Rattle.cache_model.specs.Pair.{Documents, IsPairNext, IsPairOf, ShowsPair}
use Rattle.cache_model.specs.ToRead
use Rattle.cache_model.specs.ToRead.{IsToRead}
use Rattle.cache_model.proofs.Found.{same_some}
use Rattle.cache_model.proofs.Steps.{Goes, alone, seen}
use Rattle.call_laws.specs.Moments.{At, Facts, permit_of}
use Rattle.call_laws.specs.Progress.{AllDone}
use Rattle.call_laws.specs.Serves.{ServesFrom}
use Rattle.call_laws.specs.Backed.{WasAsked, gave, failed}
use Rattle.call_laws.proofs.Whole.{encloses_own}

-- what a step gave or refused for a piece that was written out
module _ (p : Permit) (s : State) (row : Row) (written : IsWritten s row) where
  of_given : (bytes : List ℕ) → IsGiven p s row bytes → WasAsked (block_of s.geometry row.place) row.blocks p.events
  of_given bytes h = gave bytes h.whole h.given

  not_buffered : s.cursor ≤ row.place → WasAsked (block_of s.geometry row.place) row.blocks p.events
  not_buffered high = absurd (no written high)
    where
      no : row.place < s.cursor → s.cursor ≤ row.place → ⊥
      no low high = omega arith

  of_read : IsRead p s row → WasAsked (block_of s.geometry row.place) row.blocks p.events
  of_read (Given.IsRead.buffered high) = not_buffered high
  of_read (Given.IsRead.given bytes h digest) = of_given bytes h

-- where nothing is left, nothing is left behind it
none_next : (p : Permit) (s : State) (w : Work) (recs : List Rec) (after : Work) → w.intents ≡ [] → MayGrow p s w recs after → after.intents ≡ []
none_next p s w recs after none h = elim (seen h) [
  | inl same ↦ ap (λ (v : Work). v.intents) (sym same.1) ∙ none
  | inr goes ↦ absurd (subst (λ (is : List Intent). Legal.Advances p s is w.refused goes.added goes.between) none goes.first)
]

module _ (p : Permit) (s : State) (actor : ℕ) (key : Key) (request : List Field) (row : Row) (live : live_vector_of s key ≡ Some row) (written : IsWritten s row) where
  of_trouble : (other : Row) (before : List Rec) (why : Rattle.cache_model.specs.declared.cause.Cause.Cause) → other ≡ row
      → Trouble p s other before why → WasAsked (block_of s.geometry row.place) row.blocks p.events
  of_trouble other before why same (Given.Trouble.faulted count there h) =
      subst (λ (r : Row). WasAsked (block_of s.geometry r.place) r.blocks p.events) same (failed count h.refused)
  of_trouble other before why same (Given.Trouble.damaged found h) =
      subst (λ (r : Row). WasAsked (block_of s.geometry r.place) r.blocks p.events) same (gave h.bytes h.given.whole h.given.given)

  of_lookup : (before : List Rec) (answer : Rattle.cache_model.specs.declared.answer.ReadAnswer.ReadAnswer) → IsLookup p s key request before answer
      → WasAsked (block_of s.geometry row.place) row.blocks p.events
  of_lookup before answer (Legal.IsLookup.verdict h) = of_read p s row written (subst (IsReadWhereLive p s) live h)
  of_lookup before answer (Legal.IsLookup.trouble other b why there h) = of_trouble other b why (same_some other row (live_vector_of s key) there live) h

  of_look : (added : List Rec) (e : End) → DoesLook p s actor key request added e → WasAsked (block_of s.geometry row.place) row.blocks p.events
  of_look added e (Legal.DoesLook.looks m) = of_lookup m.before m.answer m.right

  never_stays : (added : List Rec) (e : End) → DoesLook p s actor key request added e → e ≡ Stays → ⊥
  never_stays added e (Legal.DoesLook.looks m) same = cc

  of_spent : (added : List Rec) → MayGrow p s (to_do (Look actor key request ∷ [])) added (to_do [])
      → WasAsked (block_of s.geometry row.place) row.blocks p.events
  of_spent added h = let one = alone p s (Look actor key request) added None never_stays h in of_look added one.0 one.1

  looked : (added : List Rec) (e : End) → DoesLook p s actor key request added e → (work_after (Look actor key request) [] None e).intents ≡ []
  looked added e (Legal.DoesLook.looks m) = refl

  -- the pair is of that vector
  of_next : (t : State) (left : List Intent) → t ≡ s → left ≡ Look actor key request ∷ [] → (IsPlaced : Documents) → IsPairNext IsPlaced p t left
      → WasAsked (block_of s.geometry row.place) row.blocks p.events
  of_next t left here asked IsPlaced pair =
      let h = subst (λ (is : List Intent). IsPairNext IsPlaced p s is) asked (subst (λ u. IsPairNext IsPlaced p u left) here pair) in
      of_row h.row h.read h.pair
    where
      of_row : (other : Row) → IsToRead p s (Look actor key request) other → IsPairOf IsPlaced p s other
          → WasAsked (block_of s.geometry row.place) row.blocks p.events
      of_row other (ToRead.IsToRead.asked_for found) h =
          let same : other ≡ row = same_some other row (live_vector_of s key) found live in
          let there : IsWritten s other = subst (IsWritten s) (sym same) written in
          subst (λ (r : Row). WasAsked (block_of s.geometry r.place) r.blocks p.events) same (of_given p s other there h.bytes (h.given there))
      of_row other (ToRead.IsToRead.copied flushes can copied) h = absurd (no flushes)
        where
          no : false ≡ true → ⊥
          no e = cc

  of_shown : (IsPlaced : Documents) (added : List Rec) → ShowsPair IsPlaced p s (Look actor key request ∷ []) added
      → WasAsked (block_of s.geometry row.place) row.blocks p.events
  of_shown IsPlaced added v = elim (seen v.grows) [
    | inl same ↦ of_next (after_all s v.before) v.left.intents (ap (after_all s) same.0) (sym (ap (λ (w : Work). w.intents) same.1)) IsPlaced v.pair
    | inr goes ↦ absurd (nothing_next goes)
  ]
    where
      nothing_next : Goes p s (to_do (Look actor key request ∷ [])) v.before v.left → ⊥
      nothing_next goes =
          let over : goes.between.intents ≡ [] = ap (λ (w : Work). w.intents) goes.first.2 ∙ looked goes.added goes.first.0 goes.first.1 in
          subst (λ (is : List Intent). IsPairNext IsPlaced p (after_all s v.before) is) (none_next p _ goes.between goes.rest v.left over goes.behind) v.pair

pub lookups_ask : (IsPlaced : Documents) (before known : Facts) (now : ℕ) (a b : At) (actor : ℕ) (key : Key) (request : List Field) (row : Row)
    → (call : ServesFrom IsPlaced now a b (Look actor key request ∷ []) AllDone before known)
    → before (state_of a.kept)
    → live_vector_of (state_of a.kept) key ≡ Some row → IsWritten (state_of a.kept) row
    → WasAsked (block_of (state_of a.kept).geometry row.place) row.blocks call.calls
lookups_ask IsPlaced before known now a b actor key request row call k live written =
    let p : Permit = permit_of now a call.calls in
    elim ((call.does p [] (encloses_own now a call.calls)).from k) [
      | inl v ↦ of_spent p (state_of a.kept) actor key request row live written call.added v.spends
      | inr pair ↦ of_shown p (state_of a.kept) actor key request row live written IsPlaced call.added pair
    ]
