-- What a step gives is fixed by what its records tell, whatever its device did.
use Rattle.std.proofs.Common.{◌≡◌, ℕ, List, sym, ◌∙◌, ap, subst}
use Rattle.std.specs.Prelude.{Option, Some, None}
use Rattle.cache_model.specs.declared.answer.ReadAnswer.{ReadAnswer}
use Rattle.cache_model.specs.declared.answer.ReadAnswer.TheVariants as read
use Rattle.cache_model.specs.declared.record.Rec.{Rec}
use Rattle.cache_model.specs.declared.record.Rec.TheVariants as rec
use Rattle.cache_model.specs.State.{State, ReaderRow, reader_of}
use Rattle.cache_model.proofs.Found.{same_some}
use Rattle.script_grammar.specs.declared.step.Step.{Step}
use Rattle.script_grammar.specs.declared.step.Step.TheVariants as step
use Rattle.script_run.specs.Run.{Run, reader_by}
use Rattle.script_run.specs.Turn.{Turn, lookup_in, told_in}
use Rattle.script_run.specs.Own.{piece_of}
use Rattle.script_run.specs.Takes.{GivesOwn, IsBody, IsNextPiece, IsPiece}

same_body : (run : Run) (a b : List ℕ) (told : Option Rec) (looked : Option ReadAnswer) → IsBody run a told looked
    → IsBody run b told looked → a ≡ b
same_body run a b (Some (rec.Ended reader size)) (Some (read.Hit put)) x y = x ∙ sym y
same_body run a b _ _ x y = x ∙ sym y

same_fragment : (run : Run) (s : State) (reader : ℕ) (a b : List ℕ) (told : Option Rec) → IsPiece run s reader a told
    → IsPiece run s reader b told → a ≡ b
same_fragment run s reader a b (Some (rec.Gave number index size)) x y =
    let same : x.0 ≡ y.0 = same_some x.0 y.0 (reader_of s reader) x.1 y.1 in
    x.2 ∙ (ap (λ (r : ReaderRow). piece_of s.geometry.fragment (run.streams r.put).bytes index) same ∙ sym y.2)
same_fragment run s reader a b _ x y = x ∙ sym y

same_next : (run : Run) (s : State) (a b : Turn) (reader : Option ℕ) → told_in a.added ≡ told_in b.added → IsNextPiece run s a reader
    → IsNextPiece run s b reader → a.given ≡ b.given
same_next run s a b None told x y = x ∙ sym y
same_next run s a b (Some reader) told x y =
    same_fragment run s reader a.given b.given (told_in a.added) x (subst (IsPiece run s reader b.given) (sym told) y)

pub same_given : (run : Run) (s : State) (a b : Turn) (step : Step) → told_in a.added ≡ told_in b.added
    → lookup_in a.added ≡ lookup_in b.added
    → GivesOwn run s a step → GivesOwn run s b step → a.given ≡ b.given
same_given run s a b (step.Get key request) told looked x y =
    same_body run a.given b.given (told_in a.added) (lookup_in a.added) x
    (subst (λ (o : Option ReadAnswer). IsBody run b.given (told_in a.added) o) (sym looked) (subst (λ (o : Option Rec). IsBody run b.given o (lookup_in b.added)) (sym told) y))
same_given run s a b (step.Next actor) told looked x y = same_next run s a b (reader_by run actor) told x y
same_given run s a b _ told looked x y = x ∙ sym y
