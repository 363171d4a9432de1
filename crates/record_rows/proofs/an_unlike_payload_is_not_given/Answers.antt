use Rattle.std.proofs.Common.{◌≡◌, List, ℕ, [], ◌∷◌, ◌++◌, length, refl, sym, ap, subst, arith}
use Rattle.std.specs.Prelude.{Some}
use Rattle.device_log.specs.Calls.{Read}
use Rattle.fragment_table.specs.Table.{TableRow}
use Rattle.cache_model.specs.declared.answer.NextAnswer.{NextAnswer}
use Rattle.cache_model.specs.declared.cause.Cause.{Cause}
use Rattle.cache_model.specs.declared.record.Rec.{Rec}
use Rattle.cache_model.specs.declared.record.Rec.TheVariants as rec
use Rattle.cache_model.specs.State.{ReaderRow, Row, State, reader_of}
use Rattle.cache_model.specs.Permit.{End, Permit, ReadOn, Stays}
use Rattle.cache_model.specs.Given
use Rattle.cache_model.specs.Given.{Trouble}
use Rattle.cache_model.specs.Legal
use Rattle.cache_model.specs.Legal.{DoesReadOn, IsReading, ReadTrouble, answer_record}
use Rattle.cache_model.proofs.Found.{same_some}
use Rattle.cache_model.proofs.Steps.{alone}
use Rattle.record_rows.specs.Steps.{with_calls}
use Rattle.record_rows.specs.Unlike.{AreOthers, before_reading}
use Rattle.record_rows.proofs.an_unlike_payload_is_not_given.Goals as goal

abbrev given : List Rec
given = rec.Gave 1 1 4 ∷ []

abbrev reads : List ℕ → Permit
reads block = with_calls (Read 19 block ∷ [])

ends_at_once : (there block : List ℕ) (added : List Rec) (e : End) → DoesReadOn (reads block) (before_reading there) 1 added e → e ≡ Stays → ⊥
ends_at_once there block added e (Legal.DoesReadOn.reads_on answer m) h = cc

-- one record stands alone
no_two : (x y : Rec) → given ≡ x ∷ y ∷ [] → ⊥
no_two x y h = let two : 1 ≡ 2 = ap length h in absurd (omega (arith, two))

troubled : {p : Permit} {s : State} {row : Row} {before : List Rec} {why : Cause} (last : Rec) → Trouble p s row before why → given ≡ before ++ last ∷ [] → ⊥
troubled last (Given.Trouble.faulted count w m) h = no_two _ last h
troubled last (Given.Trouble.damaged found d) h = no_two _ last h

broken : {p : Permit} {s : State} {row : Row} {entry : TableRow} {before : List Rec} {why : Cause} (last : Rec) → ReadTrouble p s row entry before why
    → given ≡ before ++ last ∷ [] → ⊥
broken last (Legal.ReadTrouble.troubled before why t) h = troubled last t h
broken last (Legal.ReadTrouble.mismatched found read unlike) h = no_two _ last h

-- the verdict asks for the payload that is listed
none_given : (there block : List ℕ) (r : ReaderRow) (before : List Rec) (answer : NextAnswer) → AreOthers there → reader_of (before_reading there) 1 ≡ Some r
    → IsReading (reads block) (before_reading there) r before answer → given ≡ before ++ answer_record 1 answer ∷ [] → ⊥
none_given there block r before answer others reading (Legal.IsReading.verdict x listed) h =
    let as_listed = subst (Legal.IsNextAsListed (before_reading there)) (sym (same_some _ r (reader_of (before_reading there) 1) refl reading)) listed in
    others.differ (sym (as_listed _ _ refl refl _ refl))
none_given there block r before answer others reading (Legal.IsReading.trouble entry row b why n live t) h = broken (answer_record 1 answer) t h

by_group : (there block : List ℕ) (e : End) → AreOthers there → DoesReadOn (reads block) (before_reading there) 1 given e → ⊥
by_group there block e others (Legal.DoesReadOn.reads_on answer m) = none_given there block m.r m.before answer others m.reading m.right m.is

pub returns : goal.returns
returns c = λ there block others step. let one = alone (reads block) (before_reading there) (ReadOn 1) given _ (ends_at_once there block) step.grows in by_group there block one.0 others one.1
