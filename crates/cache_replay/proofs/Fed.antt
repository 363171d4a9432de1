-- What a line of bytes makes of a writer.
use Rattle.std.proofs.Common.{◌≡◌, ℕ, ◌+◌, ◌-◌, ◌≤◌, List, [], ◌++◌, length, take, drop, refl, sym, ◌∙◌, ap, subst, arith, Bool, true, false, append-nil, append_assoc}
use Rattle.std.proofs.Common.{length-append, length-drop}
use Rattle.std.specs.Prelude.{Option, Some, None, IfSome, if◌then◌else◌}
use Rattle.std.proofs.lemmas.Bool.{eq-eqb}
use Rattle.std.proofs.lemmas.List.{take-append-drop, length-take-le}
use Rattle.fragment_table.specs.Table.{TableRow, total_length}
use Rattle.cache_model.specs.Kept.{state_of}
use Rattle.cache_model.specs.State.{State}
use Rattle.cache_model.specs.Verdict.{cuts_of}
use Rattle.cache_model.specs.Permit.{Exhausted, Faulted, ManyFragments, Reason}
use Rattle.cache_model.specs.Legal.{IsQuiet}
use Rattle.call_laws.specs.Moments.{At}
use Rattle.call_laws.specs.Progress as progress
use Rattle.call_laws.specs.Progress.{AllDone, EndsWith, Progress}
use Rattle.call_laws.specs.Serves.{Serves}
use Rattle.cache_answers.specs.declared.answers.Refusal.{Refusal}
use Rattle.cache_answers.specs.declared.answers.Refusal.TheVariants as refusal
use Rattle.cache_calls.specs.Actors.{WriterSeen}
use Rattle.cache_calls.specs.Adds.{IsAsItWas}
use Rattle.cache_calls.specs.Keeping.{plain_setting, state_at}
use Rattle.script_grammar.specs.declared.answer.Refused.TheVariants as refused
use Rattle.script_grammar.specs.declared.answer.StepAnswer.{StepAnswer}
use Rattle.script_grammar.specs.declared.answer.StepAnswer.TheVariants as answer
use Rattle.script_run.specs.Run.{Run, Stream, put_written_by, with_value}
use Rattle.script_run.specs.Answers as says
use Rattle.script_run.specs.Answers.{feed_said, said, took_of}
use Rattle.script_run.specs.Behind as behind
use Rattle.script_run.specs.Behind.{fed, of_put, still_open, streams_fed}
use Rattle.cache_replay.specs.Feeding.{FeedsWhere, IsFed, feed_asks, taken_by_feed}
use Rattle.run_promise.specs.Outline.{count_in}
use Rattle.cache_replay.specs.Replies.{count_of_refusal, fed_answer, refusal_answer, refused_answer}
use Rattle.cache_replay.specs.Plays.{IsStreamOf}
use Rattle.cache_replay.specs.Session.{IsOpenWriter}
use Rattle.cache_replay.specs.WriterLines.{FeedsLine, IsPlayed, WriterDoes}
use Rattle.line_calls.proofs.Whole.{serves_whole}
use Rattle.cache_replay.proofs.WriterSteps.{LeftOpen, cuts_at, feeding_asks, has_put, held_open, of_left, writer_ends}

-- what it took is that before and what it took now
pub stream_fed : (stream : Stream) (w new : WriterSeen) (body : List ℕ) (taken : ℕ) → IsStreamOf stream w → IsFed w body taken new → taken ≤ length body
    → IsStreamOf (fed stream body taken) new
stream_fed stream w new body taken of fed_ most =
    let front : List ℕ = take (total_length w.cuts) stream.bytes in
    let whole : front ++ w.gathered ≡ stream.bytes = ap (λ (b : List ℕ). front ++ b) of.gathered ∙ take-append-drop (total_length w.cuts) stream.bytes in
    let size : length front ≡ total_length w.cuts = length-take-le (total_length w.cuts) stream.bytes of.within in
    let more : length (take taken body) ≡ taken = length-take-le taken body most in
    let sum : length w.gathered ≡ length stream.bytes - total_length w.cuts = ap length of.gathered ∙ length-drop (total_length w.cuts) stream.bytes in
    record {
      gathered = fed_.gathered front size ∙ ap (drop (total_length new.cuts)) (sym (append_assoc front w.gathered (take taken body))
          ∙ ap (λ (b : List ℕ). b ++ take taken body) whole);
      within = subst (λ k. total_length new.cuts ≤ k) (sym (length-append stream.bytes (take taken body))) (omega (arith, fed_.within, more, sum, of.within));
      sealed = fed_.sealed ∙ of.sealed;
    }

module _ (now : ℕ) (a b : At) (plain : a.setting ≡ plain_setting) (quiet : IsQuiet (state_at b)) (w last : WriterSeen) (body : List ℕ) (taken : ℕ) (left : Option WriterSeen)
    (own : IsOpenWriter (state_at a) w) (fed_ : IsFed w body taken last) (most : taken ≤ length body) (open_left : LeftOpen (state_at b) last left) where
  abbrev s : State
  s = state_at a

  abbrev t : State
  t = state_at b

  -- how far the fragments that were cut are behind what it had gathered
  abbrev cut_since : ℕ
  cut_since = taken_by_feed t w body (Some refusal.Sealed)

  -- the bytes of which the fragments are cut are those of before, and what it took
  took_is : (run : Run) (name : List ℕ) → IsPlayed run name s w → took_of run t w.put ≡ cut_since
  took_is run name played =
      let of = played.stream in
      let sum : length w.gathered ≡ length (run.streams w.put).bytes - total_length w.cuts = ap length of.gathered ∙ length-drop (total_length w.cuts) (run.streams w.put).bytes in
      let all : length (run.streams w.put).bytes ≡ total_length w.cuts + length w.gathered = omega (arith, sum, of.within) in
      ap (λ k. total_length (cuts_of t w.put) - k) all

  -- fed, with this reason not to go on
  fed_moves : {o : Progress} (why : Option Reason) (said_ : StepAnswer) → EndsWith o why → w.sealed ≡ false → Serves now a b (feed_asks s w body) o
      → ((run : Run) → took_of run t w.put ≡ cut_since → behind.taken_in_line run t body why w.put ≡ taken)
      → ((run : Run) → took_of run t w.put ≡ cut_since → said t (Some (took_of run t w.put)) why (answer.Took (length body)) ≡ said_)
      → WriterDoes now a b (FeedsLine body) w left (Some said_)
  fed_moves why said_ ends unsealed serves takes is_said = λ run name moment played.
      let nope : (run.streams w.put).sealed ≡ false = sym played.stream.sealed ∙ unsealed in
      let has = has_put run name s w played in
      let took = took_is run name played in
      let x : Stream = fed (run.streams w.put) body (behind.taken_in_line run t body why w.put) in
      let at : of_put run (put_written_by run name) (streams_fed run t body why) last.put ≡ fed (run.streams w.put) body taken =
      ap (λ o. of_put run o (streams_fed run t body why) last.put) has
      ∙ (ap (λ (b : Bool). (if b then run.streams else with_value run.streams w.put x) last.put) nope
      ∙ (ap (λ (b : Bool). if b then x else run.streams last.put) (eq-eqb last.put w.put fed_.put) ∙ ap (fed (run.streams w.put) body) (takes run took))) in
      writer_ends run name a b now plain moment (FeedsLine body) (feed_asks s w body) why left said_
      (feeding_asks run name s w body played own ∙ ap (λ (b : Bool). if b then [] else feed_asks s w body) nope)
      (serves_whole why ends plain quiet played.told serves)
      (λ legal there known. record {
        held = ap (still_open t) played.held ∙ held_open t w.put last left fed_.put open_left;
        stream = of_left (λ v. IsStreamOf (of_put run (put_written_by run name) (streams_fed run t body why) v.put) v) t last left open_left
            (λ o. subst (λ y. IsStreamOf y last) (sym at) (stream_fed (run.streams w.put) w last body taken played.stream fed_ most));
        says = ap (λ o. says.if_has o (feed_said run t body why)) has
            ∙ (ap (λ (b : Bool). if b then answer.Refused refused.Sealed (Some 0) else said t (Some (took_of run t w.put)) why (answer.Took (length body))) nope
            ∙ is_said run took);
      })

  none_taken : IsAsItWas a b → cut_since ≡ 0
  none_taken same =
      let rows : cuts_of t w.put ≡ w.cuts = ap (λ k. cuts_of (state_of k) w.put) same ∙ cuts_at s w own in
      ap (λ (r : List TableRow). total_length r - (total_length w.cuts + length w.gathered)) rows ∙ (omega arith)

  -- a sealed writer takes nothing
  sealed_moves : w.sealed ≡ true → Serves now a b [] AllDone → IsAsItWas a b → taken ≡ cut_since
      → WriterDoes now a b (FeedsLine body) w left (Some (refusal_answer refusal.Sealed (Some taken)))
  sealed_moves sealed serves same is = λ run name moment played.
      let yea : (run.streams w.put).sealed ≡ true = sym played.stream.sealed ∙ sealed in
      let zero : taken ≡ 0 = is ∙ none_taken same in
      let has = has_put run name s w played in
      let stream : IsStreamOf (run.streams w.put) last =
      subst (λ (x : Stream). IsStreamOf x last) (ap (λ (b : List ℕ). let y : Stream = record { bytes = b; sealed = (run.streams w.put).sealed } in y)
      (ap (λ k. (run.streams w.put).bytes ++ take k body) zero ∙ append-nil (run.streams w.put).bytes))
      (stream_fed (run.streams w.put) w last body taken played.stream fed_ most) in
      let at : of_put run (put_written_by run name) (streams_fed run t body None) last.put ≡ run.streams w.put =
      ap (λ o. of_put run o (streams_fed run t body None) last.put) has
      ∙ (ap (λ (b : Bool). (if b then run.streams else with_value run.streams w.put (fed (run.streams w.put) body (length body))) last.put) yea ∙ ap run.streams fed_.put) in
      writer_ends run name a b now plain moment (FeedsLine body) [] None left (refusal_answer refusal.Sealed (Some taken))
      (feeding_asks run name s w body played own ∙ ap (λ (b : Bool). if b then [] else feed_asks s w body) yea)
      (serves_whole None progress.EndsWith.in_full plain quiet played.told serves)
      (λ legal there known. record {
        held = ap (still_open t) played.held ∙ held_open t w.put last left fed_.put open_left;
        stream =
            of_left (λ v. IsStreamOf (of_put run (put_written_by run name) (streams_fed run t body None) v.put) v) t last left open_left
            (λ o. subst (λ y. IsStreamOf y last) (sym at) stream);
        says = ap (λ o. says.if_has o (feed_said run t body None)) has
            ∙ (ap (λ (b : Bool). if b then answer.Refused refused.Sealed (Some 0) else said t (Some (took_of run t w.put)) None (answer.Took (length body))) yea
            ∙ ap (λ (k : ℕ). answer.Refused refused.Sealed (Some k)) (sym zero));
      })

  -- each answer
  pub feeds_line : (why : Option Refusal) → FeedsWhere now a b w body why → taken ≡ taken_by_feed t w body why
      → WriterDoes now a b (FeedsLine body) w left (fed_answer (length body) taken why)
  feeds_line None h is = fed_moves None _ progress.EndsWith.in_full h.open_still h.serves (λ run took. sym is) (λ run took. refl)
  feeds_line (Some refusal.TooManyFragments) h is = fed_moves (Some (ManyFragments w.put)) _ (progress.EndsWith.refused (ManyFragments w.put)) h.open_still h.serves
      (λ run took. took ∙ sym is)
      (λ run took. ap (λ (k : ℕ). answer.Refused refused.TooManyFragments (Some k)) (took ∙ sym is))
  feeds_line (Some (refusal.DeviceFault count)) h is = fed_moves (Some (Faulted count)) _ (progress.EndsWith.refused (Faulted count)) h.open_still h.serves
      (λ run took. took ∙ sym is)
      (λ run took. ap (λ (k : ℕ). answer.DeviceFault count (Some k)) (took ∙ sym is))
  feeds_line (Some (refusal.Exhausted number)) h is = fed_moves (Some Exhausted) _ (progress.EndsWith.refused Exhausted) h.open_still h.serves (λ run took. took ∙ sym is)
      (λ run took. ap (λ (k : ℕ). answer.Refused refused.Exhausted (Some k)) (took ∙ sym is))
  feeds_line (Some refusal.Sealed) h is = sealed_moves h.0 h.1 h.2 is
  feeds_line (Some (refusal.Memory e)) h is = tt
  feeds_line (Some refusal.TooManyWriters) h is = absurd h
  feeds_line (Some refusal.NoSuchWriter) h is = absurd h
  feeds_line (Some (refusal.VectorTooLarge size)) h is = absurd h
  feeds_line (Some (refusal.Lost index cause)) h is = absurd h

-- ---- the count that is told

pub refused_counts : (why : Refusal) (took : Option ℕ) (n : ℕ) → count_of_refusal why ≤ n → IfSome (refused_answer why took) (λ said. count_in said ≤ n)
refused_counts (refusal.Memory e) took n h = tt
refused_counts refusal.TooManyWriters took n h = h
refused_counts refusal.TooManyFragments took n h = h
refused_counts (refusal.VectorTooLarge size) took n h = h
refused_counts (refusal.Lost index why) took n h = h
refused_counts refusal.Sealed took n h = h
refused_counts (refusal.Exhausted number) took n h = h
refused_counts (refusal.DeviceFault count) took n h = h
refused_counts refusal.NoSuchWriter took n h = h

pub fed_counts : (size taken : ℕ) (refused : Option Refusal) (n : ℕ) → IfSome refused (λ why. count_of_refusal why ≤ n)
    → IfSome (fed_answer size taken refused) (λ said. count_in said ≤ n)
fed_counts size taken None n h = omega arith
fed_counts size taken (Some why) n h = refused_counts why (Some taken) n h
