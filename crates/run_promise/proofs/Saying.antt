-- The answers of a run, and its outline.
use Rattle.std.proofs.Common.{◌≡◌, ℕ, List, [], ◌∷◌, ◌++◌, refl, ◌∙◌, ap, arith, subst, sym, inl, inr, ◌<◌}
use Rattle.std.specs.Prelude.{All, Bool, Option, Some, None, max, option_map, IsSome}
use Rattle.std.proofs.lemmas.List.Elements.{All-append, All-cons, All-head, All-nil, All-tail}
use Rattle.tape_base.specs.declared.geometries.BadGeometry.{BadGeometry}
use Rattle.tape_base.specs.Limits.{first_refusal}
use Rattle.script_grammar.specs.declared.line.LineAnswer.{LineAnswer}
use Rattle.script_grammar.specs.declared.line.LineAnswer.TheVariants as line
use Rattle.script_grammar.specs.declared.step.Step.{Step}
use Rattle.script_grammar.specs.declared.step.Step.TheVariants as step
use Rattle.script_grammar.specs.declared.answer.StepAnswer.{StepAnswer}
use Rattle.script_grammar.specs.declared.answer.StepAnswer.TheVariants as answer
use Rattle.script_grammar.specs.Grammar.{reading_of}
use Rattle.script_run.specs.Run.{Harm, Run, loosened, no_harm}
use Rattle.script_run.specs.Turn.{Turn}
use Rattle.script_run.specs.Behind.{after_line}
use Rattle.script_run.specs.Takes.{output_of, reading_text}
use Rattle.run_promise.specs.Outline.{Outline, all_told, begun, begun_by, count_in, raised, told_of, IsAnswered, IsFormatAnswer, attached, switch_told, switched, with_told_count, with_told_switch}
use Rattle.run_promise.specs.Lines.{AreAnswered, IsReadAs, TellsNone, answers_of, outline_of, outline_read, reading_answer, text_of, texts_of}

-- ---- what is printed

same_text : (run : Run) (turn : Turn) (read : LineAnswer) → text_of (reading_answer run turn read) ≡ reading_text run turn read
same_text run turn (line.Step step) = refl
same_text run turn line.Nothing = refl
same_text run turn (line.Bad fault) = refl

pub texts_are_output : (run : Run) (lines : List (List ℕ)) (turns : List Turn) → texts_of (answers_of run lines turns) ≡ output_of run lines turns
texts_are_output run [] turns = refl
texts_are_output run (bytes ∷ lines) [] = refl
texts_are_output run (bytes ∷ lines) (turn ∷ turns) =
    ap (λ text. text ++ texts_of (answers_of (after_line run turn bytes) lines turns)) (same_text run turn (reading_of bytes))
    ∙ ap (λ rest. reading_text run turn (reading_of bytes) ++ rest) (texts_are_output (after_line run turn bytes) lines turns)

-- ---- counts that are all 0

pub All-front : {X : Type 0} (P : X → Type 0) (xs ys : List X) → All P (xs ++ ys) → All P xs
All-front P [] ys all = All-nil P
All-front P (x ∷ xs) ys all = All-cons P x xs (All-head P x (xs ++ ys) all) (All-front P xs ys (All-tail P x (xs ++ ys) all))

pub All-behind : {X : Type 0} (P : X → Type 0) (xs ys : List X) → All P (xs ++ ys) → All P ys
All-behind P [] ys all = all
All-behind P (x ∷ xs) ys all = All-behind P xs ys (All-tail P x (xs ++ ys) all)

abbrev IsNone : Harm → Type 0
IsNone harm = harm.fault ≡ 0

-- the greater of two counts is 0
joined_none : (ended : List Harm) (session : Option Harm) (count : ℕ) → All IsNone (ended ++ told_of (option_map (raised count) session)) → All IsNone (ended ++ told_of session) × (IsSome session → count ≡ 0)
joined_none ended None count all = (all, λ some. cc)
joined_none ended (Some harm) count all =
    let last : max count harm.fault ≡ 0 = All-head IsNone (raised count harm) [] (All-behind IsNone ended (raised count harm ∷ []) all) in
    let mine : harm.fault ≡ 0 = omega (arith, last) in
    (All-append IsNone ended (harm ∷ []) (All-front IsNone ended (raised count harm ∷ []) all) (All-cons IsNone harm [] mine (All-nil IsNone)), λ some. omega (arith, last))

-- whether a device has a switch is no fault
switched_none : (ended : List Harm) (session : Option Harm) (has : Bool) → All IsNone (ended ++ told_of (option_map (switched has) session))
    → All IsNone (ended ++ told_of session)
switched_none ended None has all = all
switched_none ended (Some harm) has all =
    All-append IsNone ended (harm ∷ []) (All-front IsNone ended (switched has harm ∷ []) all)
    (All-cons IsNone harm [] (All-head IsNone (switched has harm) [] (All-behind IsNone ended (switched has harm ∷ []) all)) (All-nil IsNone))

told_none : (o : Outline) (told : Option Bool) → All IsNone (all_told (with_told_switch told o)) → All IsNone (all_told o)
told_none o None all = all
told_none o (Some has) all = switched_none o.ended o.session has all

-- so it was before a device was attached
attached_none : (o : Outline) (name : List ℕ) (said : StepAnswer) → All IsNone (all_told (attached o name said)) → All IsNone (all_told o)
attached_none o name (answer.DeviceFault count took) all =
    All-front IsNone (all_told o) (raised count no_harm ∷ []) (All-front IsNone (all_told o ++ raised count no_harm ∷ []) [] all)
attached_none o name _ all = All-front IsNone (all_told o) (told_of (Some (loosened no_harm))) all

begun_none : (o : Outline) (name : List ℕ) (said : StepAnswer) (bad : Option BadGeometry) → All IsNone (all_told (begun o name said bad)) → All IsNone (all_told o)
begun_none o name said None all = attached_none o name said all
begun_none o name said (Some bad) all = all

begun_by_none : (o : Outline) (step : Step) (said : StepAnswer) → All IsNone (all_told (begun_by o step said)) → All IsNone (all_told o)
begun_by_none o (step.Format name segments buckets content agg reach fragment generation alternates) said all =
    begun_none o name said (first_refusal segments buckets content agg reach fragment alternates) all
begun_by_none o _ said all = all

-- of a format no fault was told where none was of its device
format_none : (o : Outline) (name : List ℕ) (content agg : ℕ) (said : StepAnswer) (bad : Option BadGeometry) → IsFormatAnswer content agg said bad
    → All IsNone (all_told (begun o name said bad)) → count_in said ≡ 0
format_none o name content agg said (Some bad) is all = ap count_in is
format_none o name content agg said None (inl is) all = ap count_in is
format_none o name content agg said None (inr fault) all =
    let here : All IsNone (all_told (attached o name (answer.DeviceFault fault.0 None))) = subst (λ x. All IsNone (all_told (attached o name x))) fault.2 all in
    let last : max fault.0 0 ≡ 0 =
    All-head IsNone (raised fault.0 no_harm) [] (All-behind IsNone (all_told o) (raised fault.0 no_harm ∷ []) (All-front IsNone (all_told o ++ raised fault.0 no_harm ∷ []) [] here)) in
    absurd (omega (arith, last, fault.1))

-- nor of any other step
step_none : (o : Outline) (step : Step) (said : StepAnswer) → IsAnswered o step said → All IsNone (all_told (begun_by o step said))
    → (IsSome (begun_by o step said).session → count_in said ≡ 0) → count_in said ≡ 0
step_none o (step.Format name segments buckets content agg reach fragment generation alternates) said is all some =
    format_none o name content agg said (first_refusal segments buckets content agg reach fragment alternates) is.fixed all
step_none o (step.Now moment) said is all some = ap count_in is.fixed
step_none o _ said is all some = some (is.session tt)

-- no line before told a fault, nor does this one
read_none : (o : Outline) (read : LineAnswer) (said : Option StepAnswer) → IsReadAs o read said → All IsNone (all_told (outline_read o read said)) → TellsNone said × All IsNone (all_told o)
read_none o (line.Step step) (Some said) is all =
    let next : Outline = begun_by o step said in
    let here = joined_none next.ended next.session (count_in said) (told_none (with_told_count next (count_in said)) (switch_told step said) all) in
    (step_none o step said is here.0 here.1, begun_by_none o step said here.0)
read_none o (line.Step step) None is all = absurd is
read_none o line.Nothing None is all = (tt, all)
read_none o line.Nothing (Some said) is all = absurd is
read_none o (line.Bad fault) said is all = absurd is

all_none : (o : Outline) (lines : List (List ℕ)) (answers : List (Option StepAnswer)) → AreAnswered o lines answers → All IsNone (all_told (outline_of o lines answers))
    → All TellsNone answers × All IsNone (all_told o)
all_none o [] [] are all = (All-nil TellsNone, all)
all_none o [] (said ∷ answers) are all = absurd are
all_none o (bytes ∷ lines) [] are all = absurd are
all_none o (bytes ∷ lines) (said ∷ answers) are all =
    let rest = all_none (outline_read o (reading_of bytes) said) lines answers are.1 all in
    let here = read_none o (reading_of bytes) said are.0 rest.1 in
    (All-cons TellsNone said answers here.0 rest.0, here.1)

pub counts_are_kept : (o : Outline) (lines : List (List ℕ)) (answers : List (Option StepAnswer)) → AreAnswered o lines answers → All IsNone (all_told (outline_of o lines answers)) → All TellsNone answers
counts_are_kept o lines answers are all = (all_none o lines answers are all).0
