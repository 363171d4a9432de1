-- Records beside the pieces: they open no put, cut and place nothing, displace nothing and begin no buffer.
use Rattle.std.proofs.Common.{ℕ, List, [], ◌∷◌, ◌++◌}
use Rattle.std.specs.List.{AllByRecursion}
use Rattle.tape_base.specs.declared.keys.Key.{Key}
use Rattle.fragment_table.specs.Table.{TableRow}
use Rattle.alternate_vector.specs.Field.{Field}
use Rattle.cache_model.specs.declared.answer.NextAnswer.{NextAnswer}
use Rattle.cache_model.specs.declared.answer.NextAnswer.TheVariants as next
use Rattle.cache_model.specs.declared.answer.ReadAnswer.{ReadAnswer}
use Rattle.cache_model.specs.declared.cause.Cause.{Cause}
use Rattle.cache_model.specs.declared.record.Rec.{Rec}
use Rattle.cache_model.specs.declared.record.Rec.TheVariants as rec
use Rattle.cache_model.specs.State.{State, Row, ReaderRow}
use Rattle.cache_model.specs.Permit.{Permit}
use Rattle.cache_model.specs.Given
use Rattle.cache_model.specs.Legal
use Rattle.cache_model.specs.Legal.{answer_record}
use Rattle.cache_model.proofs.Sound.{LeavesTape, AllLeaveTape}
use Rattle.cache_model.proofs.Steps.{all_append}

-- the record opens no put, cuts nothing and displaces nothing
abbrev pub LeavesPuts : Rec → Type 0
LeavesPuts (rec.WriteOpened actor put key request response pin) = ⊥
LeavesPuts (rec.Cut put index length digest) = ⊥
LeavesPuts (rec.Displaced piece segment live) = ⊥
LeavesPuts _ = Unit {0}

abbrev pub IsAside : Rec → Type 0
IsAside r = LeavesTape r × LeavesPuts r

abbrev pub AllAside : List Rec → Type 0
AllAside recs = AllByRecursion IsAside recs

pub aside_leaves : (recs : List Rec) → AllAside recs → AllLeaveTape recs
aside_leaves [] h = tt
aside_leaves (r ∷ recs) h = (h.0.0, aside_leaves recs h.1)

-- one record of those
abbrev pub OneAside : Type 0
OneAside = (Unit {0} × Unit {0}) × Unit {0}

pub one_aside : OneAside
one_aside = ((tt, tt), tt)

trouble_aside : (p : Permit) (s : State) (row : Row) (before : List Rec) (why : Cause) → Given.Trouble p s row before why → AllAside before
trouble_aside p s row before why (Given.Trouble.faulted count w m) = one_aside
trouble_aside p s row before why (Given.Trouble.damaged found d) = one_aside

pub lookup_aside : (p : Permit) (s : State) (key : Key) (request : List Field) (before : List Rec) (answer : ReadAnswer) → Legal.IsLookup p s key request before answer → AllAside before
lookup_aside p s key request before answer (Legal.IsLookup.verdict r) = tt
lookup_aside p s key request before answer (Legal.IsLookup.trouble row b why live t) = trouble_aside p s row before why t

fragment_aside : (p : Permit) (s : State) (row : Row) (entry : TableRow) (before : List Rec) (why : Cause) → Legal.ReadTrouble p s row entry before why → AllAside before
fragment_aside p s row entry before why (Legal.ReadTrouble.troubled b c t) = trouble_aside p s row before why t
fragment_aside p s row entry before why (Legal.ReadTrouble.mismatched found read unlike) = one_aside

reading_aside : (p : Permit) (s : State) (r : ReaderRow) (before : List Rec) (answer : NextAnswer) → Legal.IsReading p s r before answer → AllAside before
reading_aside p s r before answer (Legal.IsReading.verdict x listed) = tt
reading_aside p s r before answer (Legal.IsReading.trouble entry row b why n live t) = fragment_aside p s row entry before why t

answer_aside : (reader : ℕ) (answer : NextAnswer) → IsAside (answer_record reader answer)
answer_aside reader (next.Gave index length) = (tt, tt)
answer_aside reader (next.Ended length) = (tt, tt)
answer_aside reader (next.Waited cut) = (tt, tt)
answer_aside reader (next.Broke why) = (tt, tt)

pub reading_on_aside : (p : Permit) (s : State) (reader : ℕ) (answer : NextAnswer) (added : List Rec) (m : Legal.MayReadOn p s reader answer added) → AllAside (m.before ++ answer_record reader answer ∷ [])
reading_on_aside p s reader answer added m = all_append IsAside m.before _ (reading_aside p s m.r m.before answer m.right) (answer_aside reader answer, tt)
