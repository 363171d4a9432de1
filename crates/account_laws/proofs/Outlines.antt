-- What the answers of lines tell of devices.
use Rattle.std.proofs.Common.{◌≡◌, ℕ, ◌+◌, List, [], ◌∷◌, ◌++◌, length, refl, ◌∙◌, arith, length-append, ◌<◌, sym, ap, subst, append-nil, inl, inr, ◌⊎◌}
use Rattle.std.specs.Prelude.{Bool, false, IsSome, Option, Some, None, map, option_map, if◌then◌else◌, is_none}
use Rattle.device_log.specs.Calls.{Call}
use Rattle.tape_base.specs.declared.geometries.BadGeometry.{BadGeometry}
use Rattle.tape_base.specs.Limits.{first_refusal}
use Rattle.cache_model.specs.State.{State}
use Rattle.device_log.specs.declared.choice.CutChoice.{CutChoice}
use Rattle.cache_model.proofs.Found.{no_truth}
use Rattle.script_grammar.specs.declared.line.LineAnswer.{LineAnswer}
use Rattle.script_grammar.specs.declared.line.LineAnswer.TheVariants as line
use Rattle.script_grammar.specs.declared.step.Step.{Step}
use Rattle.script_grammar.specs.declared.step.Step.TheVariants as step
use Rattle.script_grammar.specs.declared.answer.StepAnswer.{StepAnswer}
use Rattle.script_grammar.specs.declared.answer.StepAnswer.TheVariants as answer
use Rattle.script_grammar.specs.Grammar.{reading_of}
use Rattle.script_run.specs.Run.{Harm, Run, fresh, loosened, no_harm, at_hand}
use Rattle.script_run.specs.Turn.{Turn, calls_in}
use Rattle.script_run.specs.Behind.{harm_in, harm_of, harms_of, own_harm, with_calls_of}
use Rattle.script_run.specs.Takes.{run_after}
use Rattle.run_promise.specs.Outline.{Outline, all_told, begun, blank_outline, begun_by, count_in, doubted, outline_in, raised, told_of, with_told_count, IsAnswered, IsFormatAnswer, attached, has_switch_in, outline_after, switch_told, switched, with_told_switch}
use Rattle.run_promise.specs.Lines.{AreAnswered, IsReadAs, outline_of, outline_read}
use Rattle.run_promise.specs.Story.{ShownAlong, DevicesTold, all_in}
use Rattle.headline.specs.Account.{ComeBackFrom, RunLogs, begun_in, doubted_harms, sessions_begun}
use Rattle.headline.specs.Endings.{CutSince}
use Rattle.headline.proofs.Honest.{doubt}
use Rattle.line_laws.specs.Along.{AreOfSession, KeepsSession}
use Rattle.account_laws.proofs.Devices.{AreWithin, IsWithin, all_within_self, all_within_trans, come_within, goes_on_none, within_behind, within_front}

-- ---- more is told behind each line

raised_within : (count : ℕ) (h : Harm) → IsWithin h (raised count h)
raised_within count h = record { faults = omega arith; damage = λ e. e; calls = goes_on_none h.calls; switches = λ has told. told }

own_within : (count : ℕ) (session : Option Harm) → AreWithin (told_of session) (told_of (option_map (raised count) session))
own_within count None = tt
own_within count (Some h) = (raised_within count h, tt)

joined_within : (o : Outline) (count : ℕ) → AreWithin (all_told o) (all_told (with_told_count o count))
joined_within o count = within_behind o.ended (told_of o.session) (told_of (option_map (raised count) o.session)) (own_within count o.session)

-- of its switch too
own_switched : (has : Bool) (session : Option Harm) → AreWithin (told_of session) (told_of (option_map (switched has) session))
own_switched has None = tt
own_switched has (Some h) = (record { faults = omega arith; damage = λ e. e; calls = goes_on_none h.calls; switches = λ is told. told.1 }, tt)

switch_within : (told : Option Bool) (o : Outline) → AreWithin (all_told o) (all_told (with_told_switch told o))
switch_within None o = all_within_self (all_told o)
switch_within (Some has) o = within_behind o.ended (told_of o.session) (told_of (option_map (switched has) o.session)) (own_switched has o.session)

attached_within : (o : Outline) (name : List ℕ) (said : StepAnswer) → AreWithin (all_told o) (all_told (attached o name said))
attached_within o name (answer.DeviceFault count took) =
    subst (AreWithin (all_told o)) (sym (append-nil (all_told o ++ raised count no_harm ∷ []))) (within_front (all_told o) (raised count no_harm ∷ []))
attached_within o name _ = within_front (all_told o) (loosened no_harm ∷ [])

begun_within : (o : Outline) (name : List ℕ) (said : StepAnswer) (bad : Option BadGeometry) → AreWithin (all_told o) (all_told (begun o name said bad))
begun_within o name said None = attached_within o name said
begun_within o name said (Some bad) = all_within_self (all_told o)

begun_by_within : (o : Outline) (step : Step) (said : StepAnswer) → AreWithin (all_told o) (all_told (begun_by o step said))
begun_by_within o (step.Format name segments buckets content agg reach fragment generation alternates) said =
    begun_within o name said (first_refusal segments buckets content agg reach fragment alternates)
begun_by_within o _ said = all_within_self (all_told o)

read_within : (o : Outline) (read : LineAnswer) (said : Option StepAnswer) → AreWithin (all_told o) (all_told (outline_read o read said))
read_within o (line.Step step) (Some said) =
    let next : Outline = begun_by o step said in
    let counted : Outline = with_told_count next (count_in said) in
    all_within_trans (all_told o) (all_told counted) (all_told (outline_after o step said))
    (all_within_trans (all_told o) (all_told next) (all_told counted) (begun_by_within o step said) (joined_within next (count_in said)))
    (switch_within (switch_told step said) counted)
read_within o (line.Step step) None = all_within_self (all_told o)
read_within o line.Nothing said = all_within_self (all_told o)
read_within o (line.Bad fault) said = all_within_self (all_told o)

pub outline_within : (o : Outline) (lines : List (List ℕ)) (answers : List (Option StepAnswer)) → AreWithin (all_told o) (all_told (outline_of o lines answers))
outline_within o [] answers = all_within_self (all_told o)
outline_within o (bytes ∷ lines) [] = all_within_self (all_told o)
outline_within o (bytes ∷ lines) (said ∷ answers) =
    let next : Outline = outline_read o (reading_of bytes) said in
    all_within_trans (all_told o) (all_told next) (all_told (outline_of next lines answers)) (read_within o (reading_of bytes) said) (outline_within next lines answers)

-- what is doubted was told of a run whose device made more calls, and of its outline
doubted_told : (calls : List Call) (state : Option State)
    → AreWithin (map doubt (harm_of calls state)) (told_of (option_map doubt (option_map (λ s. loosened (harm_in calls s)) state)))
doubted_told calls None = tt
doubted_told calls (Some s) = (record { faults = omega arith; damage = λ e. e; calls = goes_on_none calls; switches = λ has told. told }, tt)

doubted_calls : (calls made : List Call) (state : Option State) → AreWithin (harm_of calls state) (map doubt (harm_of (made ++ calls) state))
doubted_calls calls made None = tt
doubted_calls calls made (Some s) = (record { faults = omega arith; damage = λ e. refl; calls = record { later = made; is = refl }; switches = λ has told. told }, tt)

called_within : (run : Run) (turn : Turn) → AreWithin (harms_of run) (doubted_harms (with_calls_of run turn))
called_within run turn =
    within_behind run.ended (own_harm run) (map doubt (harm_of (calls_in turn ++ run.calls) (at_hand run.state run.last)))
    (doubted_calls run.calls (calls_in turn) (at_hand run.state run.last))

doubted_within : (run : Run) → AreWithin (doubted_harms run) (all_told (doubted (outline_in run)))
doubted_within run =
    within_behind run.ended (map doubt (own_harm run)) (told_of (doubted (outline_in run)).session) (doubted_told run.calls (at_hand run.state run.last))

-- what the records told before a pair was shown, and the calls of the turn that shows it, are told in the end; of its device
-- what is told is doubted
pub shown_made : (l : RunLogs) (lines : List (List ℕ)) (answers : List (Option StepAnswer)) (Devices : DevicesTold → Type 0) (Behind : Outline → Type 0) → ((t : DevicesTold) → Devices t → ComeBackFrom l (all_in t))
    → (p : ShownAlong lines answers Devices Behind)
    → ComeBackFrom l (doubted_harms (with_calls_of (run_after fresh p.before p.earlier) p.turn))
shown_made l lines answers Devices Behind back p =
    let run : Run = with_calls_of (run_after fresh p.before p.earlier) p.turn in
    let first : Outline = doubted (outline_in run) in
    let last : Outline = outline_of first (p.bytes ∷ p.after) p.rest in
    come_within l (doubted_harms run) (all_told last)
    (all_within_trans (doubted_harms run) (all_told first) (all_told last) (doubted_within run) (outline_within first (p.bytes ∷ p.after) p.rest))
    (back _ p.outline.devices)

pub shown_before : (l : RunLogs) (run : Run) (turn : Turn) → ComeBackFrom l (doubted_harms (with_calls_of run turn)) → ComeBackFrom l (harms_of run)
shown_before l run turn come = come_within l (harms_of run) (doubted_harms (with_calls_of run turn)) (called_within run turn) come

-- ---- how many sessions were begun

same_length : {X : Type 0} (xs ys zs : List X) → length ys ≡ length zs → length (xs ++ ys) ≡ length (xs ++ zs)
same_length xs ys zs h = omega (arith, length-append xs ys, length-append xs zs, h)

own_length : (count : ℕ) (session : Option Harm) → length (told_of (option_map (raised count) session)) ≡ length (told_of session)
own_length count None = refl
own_length count (Some h) = refl

switch_length : (told : Option Bool) (o : Outline) → length (all_told (with_told_switch told o)) ≡ length (all_told o)
switch_length None o = refl
switch_length (Some has) o = same_length o.ended (told_of (option_map (switched has) o.session)) (told_of o.session) (own_switch_length has o.session)
  where
    own_switch_length : (has : Bool) (session : Option Harm) → length (told_of (option_map (switched has) session)) ≡ length (told_of session)
    own_switch_length has None = refl
    own_switch_length has (Some h) = refl

attached_length : (o : Outline) (name : List ℕ) (said : StepAnswer) → length (all_told (attached o name said)) ≡ length (all_told o) + 1
attached_length o name (answer.DeviceFault count took) =
    ap length (append-nil (all_told o ++ raised count no_harm ∷ [])) ∙ length-append (all_told o) (raised count no_harm ∷ [])
attached_length o name _ = length-append (all_told o) (loosened no_harm ∷ [])

begun_length : (o : Outline) (name : List ℕ) (said : StepAnswer) (bad : Option BadGeometry)
    → length (all_told (begun o name said bad)) ≡ length (all_told o) + (if is_none bad then 1 else 0)
begun_length o name said None = attached_length o name said
begun_length o name said (Some bad) = omega arith

begun_by_length : (o : Outline) (step : Step) (said : StepAnswer) → length (all_told (begun_by o step said)) ≡ length (all_told o) + begun_in (line.Step step)
begun_by_length o (step.Format name segments buckets content agg reach fragment generation alternates) said =
    begun_length o name said (first_refusal segments buckets content agg reach fragment alternates)
begun_by_length o _ said = omega arith

pub read_length : (o : Outline) (read : LineAnswer) (said : Option StepAnswer) → IsReadAs o read said → length (all_told (outline_read o read said)) ≡ length (all_told o) + begun_in read
read_length o (line.Step step) (Some said) is =
    let next : Outline = begun_by o step said in
    switch_length (switch_told step said) (with_told_count next (count_in said))
    ∙ (same_length next.ended (told_of (option_map (raised (count_in said)) next.session)) (told_of next.session) (own_length (count_in said) next.session)
    ∙ begun_by_length o step said)
read_length o (line.Step step) None is = absurd is
read_length o line.Nothing said is = omega arith
read_length o (line.Bad fault) said is = absurd is

pub outline_length : (o : Outline) (lines : List (List ℕ)) (answers : List (Option StepAnswer)) → AreAnswered o lines answers
    → length (all_told (outline_of o lines answers)) ≡ length (all_told o) + sessions_begun lines
outline_length o [] [] are = omega arith
outline_length o [] (said ∷ answers) are = absurd are
outline_length o (bytes ∷ lines) [] are = absurd are
outline_length o (bytes ∷ lines) (said ∷ answers) are =
    omega (arith, read_length o (reading_of bytes) said are.0, outline_length (outline_read o (reading_of bytes) said) lines answers are.1)

-- where no session stands in the end, none was begun, or the last device refused a call of its format
none_raised : (count : ℕ) (session : Option Harm) → option_map (raised count) session ≡ None → session ≡ None
none_raised count None e = refl
none_raised count (Some h) e = absurd cc

-- of the device that was given back last a fault was told
pub record EndsFaulted (ended : List Harm) : Type 0 where
  pub front : List Harm
  pub harm : Harm
  pub is : ended ≡ front ++ harm ∷ []
  pub faulted : 0 < harm.fault

-- no session was begun meanwhile, and none stood
pub record BeginsNone (o after : Outline) (begun : ℕ) : Type 0 where
  pub session : o.session ≡ None
  pub none : begun ≡ 0
  pub ended : after.ended ≡ o.ended

format_none : (o : Outline) (name : List ℕ) (content agg : ℕ) (said : StepAnswer) (bad : Option BadGeometry) → IsFormatAnswer content agg said bad
    → (with_told_count (begun o name said bad) (count_in said)).session ≡ None
    → BeginsNone o (with_told_count (begun o name said bad) (count_in said)) (if is_none bad then 1 else 0)
    ⊎ EndsFaulted (with_told_count (begun o name said bad) (count_in said)).ended
format_none o name content agg said (Some bad) is e = inl (record { session = none_raised (count_in said) o.session e; none = refl; ended = refl })
format_none o name content agg said None (inl is) e =
    absurd (some_attached (subst (λ x. (with_told_count (attached o name x) (count_in x)).session ≡ None) is e))
  where
    some_attached : Some (raised 0 (loosened no_harm)) ≡ None → ⊥
    some_attached h = cc
format_none o name content agg said None (inr fault) e =
    inr (subst (λ x. EndsFaulted (with_told_count (attached o name x) (count_in x)).ended) (sym fault.2)
    (record { front = all_told o; harm = raised fault.0 no_harm; is = refl; faulted = omega (arith, fault.1) }))

-- nor by a line for a switch
none_told : (has : Bool) (session : Option Harm) → option_map (switched has) session ≡ None → session ≡ None
none_told has None e = refl
none_told has (Some h) e = absurd cc

none_switched : (o : Outline) (said : StepAnswer) → (with_told_switch (Some (has_switch_in said)) (with_told_count o (count_in said))).session ≡ None
    → BeginsNone o (with_told_switch (Some (has_switch_in said)) (with_told_count o (count_in said))) 0
    ⊎ EndsFaulted (with_told_switch (Some (has_switch_in said)) (with_told_count o (count_in said))).ended
none_switched o said e =
    inl (record {
      session = none_raised (count_in said) o.session (none_told (has_switch_in said) (option_map (raised (count_in said)) o.session) e);
      none = refl;
      ended = refl;
    })

step_none : (o : Outline) (step : Step) (said : StepAnswer) → IsAnswered o step said → (outline_after o step said).session ≡ None
    → BeginsNone o (outline_after o step said) (begun_in (line.Step step)) ⊎ EndsFaulted (outline_after o step said).ended
step_none o (step.Format name segments buckets content agg reach fragment generation alternates) said is e =
    format_none o name content agg said (first_refusal segments buckets content agg reach fragment alternates) is.fixed e
step_none o (step.Fail nth) said is e = none_switched o said e
step_none o (step.StopAfter calls) said is e = none_switched o said e
step_none o (step.Flip place byte) said is e = none_switched o said e
step_none o (step.Cut choice) said is e = inl (record {
  session = none_raised (count_in said) o.session (none_told (has_switch_in said) (option_map (raised (count_in said)) o.session) e);
  none = refl;
  ended = refl;
})
step_none o _ said is e = inl (record { session = none_raised (count_in said) o.session e; none = refl; ended = refl })

read_none : (o : Outline) (read : LineAnswer) (said : Option StepAnswer) → IsReadAs o read said → (outline_read o read said).session ≡ None
    → BeginsNone o (outline_read o read said) (begun_in read) ⊎ EndsFaulted (outline_read o read said).ended
read_none o (line.Step step) (Some said) is e = step_none o step said is e
read_none o (line.Step step) None is e = absurd is
read_none o line.Nothing said is e = inl (record { session = e; none = refl; ended = refl })
read_none o (line.Bad fault) said is e = absurd is

pub none_begun : (o : Outline) (lines : List (List ℕ)) (answers : List (Option StepAnswer)) → AreAnswered o lines answers
    → (outline_of o lines answers).session ≡ None
    → BeginsNone o (outline_of o lines answers) (sessions_begun lines) ⊎ EndsFaulted (outline_of o lines answers).ended
none_begun o [] [] are e = inl (record { session = e; none = refl; ended = refl })
none_begun o [] (said ∷ answers) are e = absurd are
none_begun o (bytes ∷ lines) [] are e = absurd are
none_begun o (bytes ∷ lines) (said ∷ answers) are e =
    let next : Outline = outline_read o (reading_of bytes) said in
    elim (none_begun next lines answers are.1 e) [
      | inr faulted ↦ inr faulted
      | inl rest ↦ elim (read_none o (reading_of bytes) said are.0 rest.session) [
        | inr faulted ↦ inr (subst EndsFaulted (sym rest.ended) faulted)
        | inl here ↦ inl (record { session = here.session; none = omega (arith, here.none, rest.none); ended = rest.ended ∙ here.ended })
      ]
    ]

-- ---- where a device is at hand with no session on it

-- before the line it was so too, and the line begins no session; or the line cut its power
abbrev IsFallen : Outline → LineAnswer → Type 0
IsFallen o read = ((IsSome o.session × (o.stands ≡ false)) × KeepsSession read) ⊎ ((choice : CutChoice) × (read ≡ line.Step (step.Cut choice)))

some_mapped : {X : Type 0} (f : X → X) (o : Option X) → IsSome (option_map f o) → IsSome o
some_mapped f None some = some
some_mapped f (Some x) some = refl

format_fallen : (o : Outline) (name : List ℕ) (said : StepAnswer) (bad : Option BadGeometry) → IsSome (with_told_count (begun o name said bad) (count_in said)).session
    → (begun o name said bad).stands ≡ false → (IsSome o.session × (o.stands ≡ false)) × (is_none bad ≡ false)
format_fallen o name said (Some bad) some fallen = ((some_mapped (raised (count_in said)) o.session some, fallen), refl)
format_fallen o name (answer.DeviceFault count took) None some fallen = absurd cc
format_fallen o name _ None some fallen = no_truth fallen

step_fallen : (o : Outline) (asks : Step) (said : StepAnswer) → IsSome (outline_after o asks said).session → (outline_after o asks said).stands ≡ false → IsFallen o (line.Step asks)
step_fallen o (step.Format name segments buckets content agg reach fragment generation alternates) said some fallen =
    inl (format_fallen o name said (first_refusal segments buckets content agg reach fragment alternates) some fallen)
step_fallen o (step.Cut choice) said some fallen = inr (choice, refl)
step_fallen o (step.Fail nth) said some fallen = inl ((some_mapped (raised (count_in said)) o.session (some_mapped (switched (has_switch_in said)) _ some), fallen), refl)
step_fallen o (step.StopAfter calls) said some fallen = inl ((some_mapped (raised (count_in said)) o.session (some_mapped (switched (has_switch_in said)) _ some), fallen), refl)
step_fallen o (step.Flip place byte) said some fallen = inl ((some_mapped (raised (count_in said)) o.session (some_mapped (switched (has_switch_in said)) _ some), fallen), refl)
step_fallen o _ said some fallen = inl ((some_mapped (raised (count_in said)) o.session some, fallen), refl)

read_fallen : (o : Outline) (read : LineAnswer) (said : Option StepAnswer) → IsReadAs o read said → IsSome (outline_read o read said).session
    → (outline_read o read said).stands ≡ false → IsFallen o read
read_fallen o (line.Step asks) (Some said) is some fallen = step_fallen o asks said some fallen
read_fallen o (line.Step asks) None is some fallen = absurd is
read_fallen o line.Nothing said is some fallen = inl ((some, fallen), tt)
read_fallen o (line.Bad fault) said is some fallen = absurd is

cut_later : (bytes : List ℕ) (lines : List (List ℕ)) → CutSince lines → CutSince (bytes ∷ lines)
cut_later bytes lines c = record {
  before = bytes ∷ c.before;
  bytes = c.bytes;
  later = c.later;
  are = ap (λ (xs : List (List ℕ)). bytes ∷ xs) c.are;
  choice = c.choice;
  cuts = c.cuts;
  same_session = c.same_session;
}

-- so a line cut its power, where one was begun
fallen_along : (o : Outline) (lines : List (List ℕ)) (answers : List (Option StepAnswer)) → AreAnswered o lines answers → IsSome (outline_of o lines answers).session
    → (outline_of o lines answers).stands ≡ false → ((IsSome o.session × (o.stands ≡ false)) × AreOfSession lines) ⊎ CutSince lines
fallen_along o [] [] are some fallen = inl ((some, fallen), tt)
fallen_along o [] (said ∷ answers) are some fallen = absurd are
fallen_along o (bytes ∷ lines) [] are some fallen = absurd are
fallen_along o (bytes ∷ lines) (said ∷ answers) are some fallen =
    elim (fallen_along (outline_read o (reading_of bytes) said) lines answers are.1 some fallen) [
      | inr later ↦ inr (cut_later bytes lines later)
      | inl now ↦ elim (read_fallen o (reading_of bytes) said are.0 now.0.0 now.0.1) [
        | inl old ↦ inl (old.0, (old.1, now.1))
        | inr cut ↦ inr (record { before = []; bytes = bytes; later = lines; are = refl; choice = cut.0; cuts = cut.1; same_session = now.1 })
      ]
    ]

pub cut_since : (lines : List (List ℕ)) (answers : List (Option StepAnswer)) → AreAnswered blank_outline lines answers → IsSome (outline_of blank_outline lines answers).session
    → (outline_of blank_outline lines answers).stands ≡ false → CutSince lines
cut_since lines answers are some fallen = elim (fallen_along blank_outline lines answers are some fallen) [
  | inl old ↦ no_truth (sym old.0.0)
  | inr cut ↦ cut
]

-- ---- the outline at a line

-- the lines before a line, it, and those behind it, each answered as it may be
pub record AreSplit (o : Outline) (before : List (List ℕ)) (front : List (Option StepAnswer)) (read : LineAnswer) (said : Option StepAnswer) (later : List (List ℕ)) (rest : List (Option StepAnswer)) : Type 0 where
  pub first : AreAnswered o before front
  pub here : IsReadAs (outline_of o before front) read said
  pub behind : AreAnswered (outline_read (outline_of o before front) read said) later rest

pub split_answers : (o : Outline) (before : List (List ℕ)) (bytes : List ℕ) (later : List (List ℕ)) (front : List (Option StepAnswer)) (said : Option StepAnswer) (rest : List (Option StepAnswer))
    → length front ≡ length before → AreAnswered o (before ++ bytes ∷ later) (front ++ said ∷ rest) → AreSplit o before front (reading_of bytes) said later rest
split_answers o [] bytes later [] said rest n are = record { first = tt; here = are.0; behind = are.1 }
split_answers o [] bytes later (f ∷ front) said rest n are = absurd (omega (arith, n))
split_answers o (b ∷ before) bytes later [] said rest n are = absurd (omega (arith, n))
split_answers o (b ∷ before) bytes later (f ∷ front) said rest n are =
    let h = split_answers (outline_read o (reading_of b) f) before bytes later front said rest (omega (arith, n)) are.1 in
    record { first = (are.0, h.first); here = h.here; behind = h.behind }

pub outline_split : (o : Outline) (before : List (List ℕ)) (bytes : List ℕ) (later : List (List ℕ)) (front : List (Option StepAnswer)) (said : Option StepAnswer) (rest : List (Option StepAnswer))
    → length front ≡ length before
    → outline_of o (before ++ bytes ∷ later) (front ++ said ∷ rest) ≡ outline_of (outline_read (outline_of o before front) (reading_of bytes) said) later rest
outline_split o [] bytes later [] said rest n = refl
outline_split o [] bytes later (f ∷ front) said rest n = absurd (omega (arith, n))
outline_split o (b ∷ before) bytes later [] said rest n = absurd (omega (arith, n))
outline_split o (b ∷ before) bytes later (f ∷ front) said rest n = outline_split (outline_read o (reading_of b) f) before bytes later front said rest (omega (arith, n))
