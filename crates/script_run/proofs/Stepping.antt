-- Each line leaves what stands that of what writers took, or shows two documents of one SHA-256.
use Rattle.std.proofs.Common.{◌≡◌, ℕ, ◌+◌, ◌*◌, ◌≤◌, List, [], ◌∷◌, ◌++◌, length, drop, refl, sym, ◌∙◌, ap, subst, arith, inl, inr, ◌⊎◌, Bool, true, false, length-append}
use Rattle.std.specs.Prelude.{Option, Some, None, if◌then◌else◌, option_map, unwrap_or}
use Rattle.std.proofs.lemmas.List.{drop-append-le}
use Rattle.tape_base.specs.declared.keys.Key.{Key}
use Rattle.alternate_vector.specs.Field.{Field}
use Rattle.fragment_table.specs.Table.{TableRow, total_length}
use Rattle.cache_model.specs.declared.record.Rec.{Rec}
use Rattle.cache_model.specs.State.{State, PutRow, Open, after_all, put_of}
use Rattle.cache_model.specs.Verdict.{cuts_of}
use Rattle.cache_model.specs.Permit.{Permit, Intent, Write, GiveUp, Look, ReadOn, StopReading, Reason, End, Stays, to_do}
use Rattle.cache_model.specs.Legal
use Rattle.cache_model.specs.Legal.{Does, IsQuiet, IsStep, is_writing}
use Rattle.cache_model.specs.Pair.{ShowsPair}
use Rattle.cache_model.specs.Tape.{IsSound}
use Rattle.step_laws.specs.StepLaws.{AsksLast, WriterIsEnded}
use Rattle.cache_model.specs.Vectors.{AreTold}
use Rattle.cache_model.proofs.Steps.{alone}
use Rattle.cache_model.proofs.Found.{cuts_found, no_truth, number_of, same_some}
use Rattle.step_laws.proofs.ToldFlush.{go_on}
use Rattle.script_grammar.specs.declared.step.Step.{Step}
use Rattle.script_grammar.specs.declared.step.Step.TheVariants as step
use Rattle.script_run.specs.Run.{Run, Holding, Stream, gathered_of, held_by, no_stream, reader_by, with_value, put_written_by}
use Rattle.script_run.specs.Asked.{asked, asks_if_free, asks_if_has, body_intents, closing, feed_intents, feeding, put_intents}
use Rattle.script_run.specs.Turn.{Turn}
use Rattle.script_run.specs.Behind.{fed, of_put, seals, streams_behind, streams_closed, streams_fed, streams_opened, taken_in_line, with_bytes}
use Rattle.script_run.specs.Own.{AreOwn, ArePayloadsOwn, AreWriting, IsOwnPut, IsPlacedAs, rows_of_parts}
use Rattle.script_run.specs.Takes.{offered, streams_offered, streams_with}
use Rattle.script_run.proofs.Saying.{Kind, Stands}
use Rattle.script_run.proofs.Payloads.{kept_kind, kept_stands, stands_kept}
use Rattle.script_run.proofs.Fragments.{own_kind, own_stands, stands_own}
use Rattle.script_run.proofs.Held.{IsHeld, quiet_whole}
use Rattle.script_run.proofs.Grown.{AllFit, held_grown, held_write}
use Rattle.script_run.proofs.Showing.{none_shown, same_instead, same_with, shown_as}
use Rattle.script_run.proofs.Streams.{stands_begins, stands_longer, stands_sealed, stands_shorter, stands_unsealed}
use Rattle.script_run.proofs.Values.{value_here}
use Rattle.script_run.proofs.Fitting.{IsRest, all_fit_append, body_fits, closing_fits, cuts_fit}
use Rattle.script_run.proofs.Ended.{EndsOrSeals, IsFoundOpen, close_ends, not_writing, open_row}

-- what stands behind records that leave nothing displaced
record StandsBehind (kind : Kind) (streams : ℕ → Stream) (t : State) : Type 0 where
  stands : Stands kind t streams
  displaced : t.displaced ≡ []

-- a step leaves what stands, or a copy in it shows two documents of one SHA-256
abbrev Steps : Kind → Permit → (ℕ → Stream) → (ℕ → Stream) → State → List Intent → List Rec → Type 0
Steps kind p before behind s asks added = StandsBehind kind behind (after_all s added) ⊎ ShowsPair (kind.documents before) p s asks added

-- a step whose asks fit
stepped : (kind : Kind) (p : Permit) (s : State) (streams : ℕ → Stream) (intents : List Intent) (added : List Rec) (why : Option Reason) → IsSound s → s.displaced ≡ [] → IsQuiet s → Stands kind s streams
    → AllFit s.geometry.fragment streams intents → IsStep p s intents added why → Steps kind p streams streams s intents added
stepped kind p s streams intents added why sound none quiet stands fits step =
    let h : IsHeld kind s.geometry streams s = record { geometry = refl; stands = stands; displaced = none; pending = quiet_whole s streams quiet } in
    go_on (held_grown kind s.geometry streams fits sound h step.grows) (λ behind. inl (record { stands = behind.stands; displaced = behind.displaced }))

-- ---- lines that give no bytes

-- what only some may ask fits
free_fits : (fragment : ℕ) (streams : ℕ → Stream) (o : Option Holding) (i : Intent) → AllFit fragment streams (i ∷ []) → AllFit fragment streams (asks_if_free o (i ∷ []))
free_fits fragment streams None i fits = fits
free_fits fragment streams (Some holding) i fits = tt

has_fits : (fragment : ℕ) (streams : ℕ → Stream) (o : Option ℕ) (i : ℕ → Intent) → ((n : ℕ) → AllFit fragment streams (i n ∷ [])) → AllFit fragment streams (asks_if_has o (λ n. i n ∷ []))
has_fits fragment streams None i fits = tt
has_fits fragment streams (Some n) i fits = fits n

-- ---- a whole put

ends_behind : (last : Intent) (is : List Intent) → AsksLast last (is ++ last ∷ [])
ends_behind last [] = refl
ends_behind last (i ∷ []) = refl
ends_behind last (i ∷ j ∷ is) = ends_behind last (j ∷ is)

put_leaves : (kind : Kind) (ended : WriterIsEnded) (run : Run) (s : State) (turn : Turn) (key : Key) (body : List ℕ) (request response : List Field)
    → IsSound s → s.displaced ≡ [] → IsQuiet s → Stands kind s run.streams → IsStep turn.device s (put_intents s key body request response) turn.added turn.refused
    → Steps kind turn.device (with_bytes run.streams s.next_put body) (with_bytes run.streams s.next_put body) s (put_intents s key body request response) turn.added
put_leaves kind ended run s turn key body request response sound none quiet stands step =
    let put : ℕ = s.next_put in
    let sealed : Stream = record { bytes = body; sealed = true } in
    let streams : ℕ → Stream = with_value run.streams put sealed in
    let here : streams put ≡ sealed = value_here sealed (run.streams put) put put refl in
    let all : AllFit s.geometry.fragment streams (body_intents s.geometry.fragment put (streams put).bytes) =
    body_fits s.geometry.fragment streams put (ap (λ (x : Stream). x.sealed) here) in
    let fits : AllFit s.geometry.fragment streams (body_intents s.geometry.fragment put body) =
    subst (λ (x : Stream). AllFit s.geometry.fragment streams (body_intents s.geometry.fragment put x.bytes)) here all in
    let behind : Steps kind turn.device streams streams s (put_intents s key body request response) turn.added =
    stepped kind turn.device s streams (put_intents s key body request response) turn.added turn.refused sound none quiet (stands_begins kind s run.streams sealed stands)
    (λ small. (tt, all_fit_append s.geometry.fragment streams (body_intents s.geometry.fragment put body) (GiveUp put ∷ []) fits (λ a. (tt, tt)))) step in
    let over : is_writing (after_all s turn.added) put ≡ false =
    ended turn.device s (put_intents s key body request response) turn.added turn.refused put (ends_behind (GiveUp put) (Write 0 key request response 0 ∷ body_intents s.geometry.fragment put body)) step in
    elim behind [
      | inl leaves ↦ inl (record { stands = stands_unsealed kind (after_all s turn.added) run.streams put body false (not_writing (after_all s turn.added) put over) leaves.stands; displaced = leaves.displaced })
      | inr shown ↦ inr (shown_as kind turn.device streams (with_bytes run.streams put body) s (to_do (put_intents s key body request response)) turn.added
          (same_instead run.streams put sealed (record { bytes = body; sealed = false }) refl) shown)
    ]

-- ---- a writer that opens

never_stays : (p : Permit) (s : State) (actor : ℕ) (key : Key) (request response : List Field) (pin : ℕ) (added : List Rec) (e : End) → Does p s (Write actor key request response pin) added e → e ≡ Stays → ⊥
never_stays p s actor key request response pin added e (Legal.DoesWrite.opens m) stays = cc
never_stays p s actor key request response pin added e (Legal.DoesWrite.many q m is) stays = cc
never_stays p s actor key request response pin added e (Legal.DoesWrite.exhausted q m l is) stays = cc

-- it makes no copy
written_leaves : (kind : Kind) (run : Run) (s : State) (turn : Turn) (actor : ℕ) (key : Key) (request response : List Field) (pin : ℕ) → s.displaced ≡ [] → IsQuiet s → Stands kind s run.streams
    → IsStep turn.device s (Write actor key request response pin ∷ []) turn.added turn.refused → StandsBehind kind (with_value run.streams s.next_put no_stream) (after_all s turn.added)
written_leaves kind run s turn actor key request response pin none quiet stands step =
    let streams : ℕ → Stream = with_value run.streams s.next_put no_stream in
    let begins : Stands kind s streams = stands_begins kind s run.streams no_stream stands in
    let h : IsHeld kind s.geometry streams s = record { geometry = refl; stands = begins; displaced = none; pending = quiet_whole s streams quiet } in
    let does = alone turn.device s (Write actor key request response pin) turn.added turn.refused (never_stays turn.device s actor key request response pin) step.grows in
    let behind : IsHeld kind s.geometry streams (after_all s turn.added) = held_write kind s.geometry streams turn.device s actor key request response pin turn.added does.0 h does.1 in
    record { stands = behind.stands; displaced = behind.displaced }

opened_leaves : (kind : Kind) (run : Run) (s : State) (turn : Turn) (actor : ℕ) (key : Key) (request response : List Field) (pin : ℕ) (o : Option Holding) → IsSound s → s.displaced ≡ [] → IsQuiet s → Stands kind s run.streams
    → IsStep turn.device s (asks_if_free o (Write actor key request response pin ∷ [])) turn.added turn.refused
    → Steps kind turn.device run.streams (streams_opened run s o) s (asks_if_free o (Write actor key request response pin ∷ [])) turn.added
opened_leaves kind run s turn actor key request response pin None sound none quiet stands step = inl (written_leaves kind run s turn actor key request response pin none quiet stands step)
opened_leaves kind run s turn actor key request response pin (Some holding) sound none quiet stands step = stepped kind turn.device s run.streams [] turn.added turn.refused sound none quiet stands tt step

-- ---- a writer that is fed

-- what was cut was taken
taken_covers : (run : Run) (t : State) (body : List ℕ) (why : Option Reason) (put : ℕ) (w : PutRow) → put_of t put ≡ Some w → total_length w.cuts ≤ length ((run.streams put).bytes ++ body)
    → total_length w.cuts ≤ length (run.streams put).bytes + taken_in_line run t body why put
taken_covers run t body None put w found within = omega (arith, within, length-append (run.streams put).bytes body)
taken_covers run t body (Some why) put w found within =
    let same : total_length (cuts_of t put) ≡ total_length w.cuts = ap total_length (cuts_found t put w found) in
    omega (arith, same)

module _ (kind : Kind) (run : Run) (s : State) (turn : Turn) (body : List ℕ) (put : ℕ) (sound : IsSound s) (none : s.displaced ≡ []) (quiet : IsQuiet s) (stands : Stands kind s run.streams) where
  abbrev Taken : List ℕ
  Taken = (run.streams put).bytes

  -- the stream with all of the line
  abbrev longer : Stream
  longer = offered (run.streams put) body

  abbrev Asks : List Intent
  Asks = feed_intents s.geometry.fragment put (length (cuts_of s put)) (gathered_of run s put ++ body)

  -- what is gathered with the line stands behind what is cut
  gathered_is : (w : PutRow) → put_of s put ≡ Some w → w.writing ≡ Open → (run.streams put).sealed ≡ false
      → gathered_of run s put ++ body ≡ drop (length (cuts_of s put) * s.geometry.fragment) (Taken ++ body)
  gathered_is w found is_open unsealed =
      let p : IsOwnPut s run.streams w = stands.puts put w found in
      let number : w.put ≡ put = number_of s put w found in
      let stream : run.streams w.put ≡ run.streams put = ap run.streams number in
      let cuts : cuts_of s put ≡ w.cuts = cuts_found s put w found in
      let within : total_length w.cuts ≤ length Taken = subst (λ (x : Stream). total_length w.cuts ≤ length x.bytes) stream p.cuts.within in
      let full : total_length w.cuts ≡ length w.cuts * s.geometry.fragment = p.full is_open (ap (λ (x : Stream). x.sealed) stream ∙ unsealed) in
      ap (λ (rows : List TableRow). drop (total_length rows) Taken ++ body) cuts
      ∙ (sym (drop-append-le (total_length w.cuts) Taken body within)
      ∙ (ap (λ n. drop n (Taken ++ body)) full ∙ ap (λ (rows : List TableRow). drop (length rows * s.geometry.fragment) (Taken ++ body)) (sym cuts)))

  fed_open : is_writing s put ≡ true → (run.streams put).sealed ≡ false
      → IsStep turn.device s Asks turn.added turn.refused
      → Steps kind turn.device (with_value run.streams put longer) (with_value run.streams put (fed (run.streams put) body (taken_in_line run (after_all s turn.added) body turn.refused put))) s Asks turn.added
  fed_open writing unsealed step =
      let f : IsFoundOpen s put = open_row s put writing in
      let streams : ℕ → Stream = with_value run.streams put longer in
      let here : streams put ≡ longer = value_here longer (run.streams put) put put refl in
      let opens : (w : PutRow) → put_of s put ≡ Some w → w.writing ≡ Open = λ w found. subst (λ (x : PutRow). x.writing ≡ Open) (same_some f.w w (put_of s put) f.found found) f.is_open in
      let gathered : gathered_of run s put ++ body ≡ drop (length (cuts_of s put) * s.geometry.fragment) (streams put).bytes =
      gathered_is f.w f.found f.is_open unsealed ∙ ap (λ (x : Stream). drop (length (cuts_of s put) * s.geometry.fragment) x.bytes) (sym here) in
      let t : State = after_all s turn.added in
      let behind : Steps kind turn.device streams streams s Asks turn.added =
      stepped kind turn.device s streams Asks turn.added turn.refused sound none quiet
      (stands_longer kind s run.streams put body opens unsealed stands)
      (cuts_fit s.geometry.fragment streams put (length (gathered_of run s put ++ body)) (length (cuts_of s put)) (gathered_of run s put ++ body) gathered) step in
      elim behind [
        | inl leaves ↦ inl (record {
          stands = stands_shorter kind t run.streams put Taken body (run.streams put).sealed (taken_in_line run t body turn.refused put) (taken_covers run t body turn.refused put) leaves.stands;
          displaced = leaves.displaced;
        })
        | inr shown ↦ inr shown
      ]

  -- a sealed writer takes nothing
  fed_by : (b : Bool) → (run.streams put).sealed ≡ b → is_writing s put ≡ true
      → IsStep turn.device s (if b then [] else Asks) turn.added turn.refused
      → Steps kind turn.device (if b then run.streams else with_value run.streams put longer)
      (if b then run.streams else with_value run.streams put (fed (run.streams put) body (taken_in_line run (after_all s turn.added) body turn.refused put))) s (if b then [] else Asks) turn.added
  fed_by true sealed writing step = stepped kind turn.device s run.streams [] turn.added turn.refused sound none quiet stands tt step
  fed_by false unsealed writing step = fed_open writing unsealed step

feeds_leaves : (kind : Kind) (run : Run) (s : State) (turn : Turn) (body : List ℕ) (o : Option ℕ) → ((put : ℕ) → o ≡ Some put → is_writing s put ≡ true) → IsSound s → s.displaced ≡ [] → IsQuiet s → Stands kind s run.streams
    → IsStep turn.device s (asks_if_has o (feeding run s body)) turn.added turn.refused
    → Steps kind turn.device (of_put run o (streams_offered run body)) (of_put run o (streams_fed run (after_all s turn.added) body turn.refused)) s (asks_if_has o (feeding run s body)) turn.added
feeds_leaves kind run s turn body None writing sound none quiet stands step = stepped kind turn.device s run.streams [] turn.added turn.refused sound none quiet stands tt step
feeds_leaves kind run s turn body (Some put) writing sound none quiet stands step = fed_by kind run s turn body put sound none quiet stands (run.streams put).sealed refl (writing put refl) step

-- ---- a writer that closes

-- what is gathered stands behind what is cut
rest_by : (kind : Kind) (run : Run) (s : State) (put : ℕ) (o : Option PutRow) → put_of s put ≡ o → Stands kind s run.streams
    → total_length (cuts_of s put) ≡ total_length (rows_of_parts s.geometry.fragment (run.streams put).bytes 1 (length (cuts_of s put)))
rest_by kind run s put None e stands = let none : cuts_of s put ≡ [] = ap (λ (o : Option PutRow). unwrap_or (option_map (λ (p : PutRow). p.cuts) o) []) e in rw none refl
rest_by kind run s put (Some w) e stands =
    let p : IsOwnPut s run.streams w = stands.puts put w e in
    let number : w.put ≡ put = number_of s put w e in
    let rows : w.cuts ≡ rows_of_parts s.geometry.fragment (run.streams put).bytes 1 (length w.cuts) =
    subst (λ n. w.cuts ≡ rows_of_parts s.geometry.fragment (run.streams n).bytes 1 (length w.cuts)) number p.cuts.rows in
    rw (cuts_found s put w e) (ap total_length rows)

sealed_again : (kind : Kind) (run : Run) (t : State) (put : ℕ) (why : Option Reason) (b : Bool) → seals why ≡ b → EndsOrSeals t put why
    → Stands kind t (with_value run.streams put (record { bytes = (run.streams put).bytes; sealed = true }))
    → Stands kind t (with_value run.streams put (if b then record { bytes = (run.streams put).bytes; sealed = true } else run.streams put))
sealed_again kind run t put why true e ends stands = stands
sealed_again kind run t put why false e (inl seal) stands = no_truth (sym seal ∙ e)
sealed_again kind run t put why false e (inr over) stands = stands_unsealed kind t run.streams put (run.streams put).bytes (run.streams put).sealed over stands

closed_leaves : (kind : Kind) (run : Run) (s : State) (turn : Turn) (put : ℕ) → IsSound s → s.displaced ≡ [] → IsQuiet s → Stands kind s run.streams → IsStep turn.device s (closing run s put) turn.added turn.refused
    → Steps kind turn.device run.streams (streams_closed run turn.refused put) s (closing run s put) turn.added
closed_leaves kind run s turn put sound none quiet stands step =
    let sealed : Stream = record { bytes = (run.streams put).bytes; sealed = true } in
    let streams : ℕ → Stream = with_value run.streams put sealed in
    let here : streams put ≡ sealed = value_here sealed (run.streams put) put put refl in
    let cut : ℕ = length (cuts_of s put) in
    let rest : gathered_of run s put ≡ drop (total_length (rows_of_parts s.geometry.fragment (run.streams put).bytes 1 cut)) (run.streams put).bytes =
    ap (λ n. drop n (run.streams put).bytes) (rest_by kind run s put (put_of s put) refl stands) in
    let is_rest : IsRest s.geometry.fragment streams put cut (gathered_of run s put) = record {
      is = subst (λ (x : Stream). gathered_of run s put ≡ drop (total_length (rows_of_parts s.geometry.fragment x.bytes 1 cut)) x.bytes) (sym here) rest;
      sealed = ap (λ (x : Stream). x.sealed) here;
    } in
    let behind : Steps kind turn.device streams streams s (closing run s put) turn.added =
    stepped kind turn.device s streams (closing run s put) turn.added turn.refused sound none quiet (stands_sealed kind s run.streams put stands) (closing_fits s.geometry.fragment streams put cut (gathered_of run s put) is_rest) step in
    elim behind [
      | inl leaves ↦ inl (record {
        stands = sealed_again kind run (after_all s turn.added) put turn.refused (seals turn.refused) refl (close_ends turn.device s put cut (gathered_of run s put) turn.added turn.refused step) leaves.stands;
        displaced = leaves.displaced;
      })
      | inr shown ↦ inr (shown_as kind turn.device streams run.streams s (to_do (closing run s put)) turn.added (same_with run.streams put sealed refl) shown)
    ]

closes_leaves : (kind : Kind) (run : Run) (s : State) (turn : Turn) (o : Option ℕ) → IsSound s → s.displaced ≡ [] → IsQuiet s → Stands kind s run.streams → IsStep turn.device s (asks_if_has o (closing run s)) turn.added turn.refused
    → Steps kind turn.device run.streams (of_put run o (streams_closed run turn.refused)) s (asks_if_has o (closing run s)) turn.added
closes_leaves kind run s turn None sound none quiet stands step = stepped kind turn.device s run.streams [] turn.added turn.refused sound none quiet stands tt step
closes_leaves kind run s turn (Some put) sound none quiet stands step = closed_leaves kind run s turn put sound none quiet stands step

-- ---- each line

steps_leave : (kind : Kind) (ended : WriterIsEnded) (run : Run) (s : State) (turn : Turn) (step : Step) → IsSound s → s.displaced ≡ [] → IsQuiet s → Stands kind s run.streams → AreWriting run s
    → IsStep turn.device s (asked run s step) turn.added turn.refused
    → Steps kind turn.device (streams_with run s step) (streams_behind run s (after_all s turn.added) turn step) s (asked run s step) turn.added
steps_leave kind ended run s turn (step.Format name segments buckets content agg reach fragment generation alternates) sound none quiet stands writing step =
    stepped kind turn.device s run.streams [] turn.added turn.refused sound none quiet stands tt step
steps_leave kind ended run s turn (step.Put key body request response) sound none quiet stands writing step = put_leaves kind ended run s turn key body request response sound none quiet stands step
steps_leave kind ended run s turn (step.Get key request) sound none quiet stands writing step = stepped kind turn.device s run.streams _ turn.added turn.refused sound none quiet stands (λ a. (tt, λ b. (tt, λ c. (tt, tt)))) step
steps_leave kind ended run s turn (step.OpenWrite actor key pin request response) sound none quiet stands writing step = opened_leaves kind run s turn _ key request response pin (held_by run actor) sound none quiet stands step
steps_leave kind ended run s turn (step.Feed actor body) sound none quiet stands writing step = feeds_leaves kind run s turn body (put_written_by run actor) (writing actor) sound none quiet stands step
steps_leave kind ended run s turn (step.Close actor) sound none quiet stands writing step = closes_leaves kind run s turn (put_written_by run actor) sound none quiet stands step
steps_leave kind ended run s turn (step.Abort actor) sound none quiet stands writing step =
    stepped kind turn.device s run.streams _ turn.added turn.refused sound none quiet stands (has_fits s.geometry.fragment run.streams (put_written_by run actor) (λ put. GiveUp put) (λ n a. (tt, tt))) step
steps_leave kind ended run s turn (step.OpenRead actor key request) sound none quiet stands writing step =
    stepped kind turn.device s run.streams _ turn.added turn.refused sound none quiet stands (free_fits s.geometry.fragment run.streams (held_by run actor) (Look _ key request) (λ a. (tt, tt))) step
steps_leave kind ended run s turn (step.Next actor) sound none quiet stands writing step =
    stepped kind turn.device s run.streams _ turn.added turn.refused sound none quiet stands (has_fits s.geometry.fragment run.streams (reader_by run actor) (λ reader. ReadOn reader) (λ n a. (tt, tt))) step
steps_leave kind ended run s turn (step.Done actor) sound none quiet stands writing step =
    stepped kind turn.device s run.streams _ turn.added turn.refused sound none quiet stands (has_fits s.geometry.fragment run.streams (reader_by run actor) (λ reader. StopReading reader) (λ n a. (tt, tt))) step
steps_leave kind ended run s turn (step.Remove key) sound none quiet stands writing step = stepped kind turn.device s run.streams _ turn.added turn.refused sound none quiet stands (λ a. (tt, tt)) step
steps_leave kind ended run s turn step.Flush sound none quiet stands writing step = stepped kind turn.device s run.streams _ turn.added turn.refused sound none quiet stands (λ a. (tt, tt)) step
steps_leave kind ended run s turn (step.Now at) sound none quiet stands writing step = stepped kind turn.device s run.streams [] turn.added turn.refused sound none quiet stands tt step
steps_leave kind ended run s turn (step.Fail nth) sound none quiet stands writing step = stepped kind turn.device s run.streams [] turn.added turn.refused sound none quiet stands tt step
steps_leave kind ended run s turn (step.StopAfter calls) sound none quiet stands writing step = stepped kind turn.device s run.streams [] turn.added turn.refused sound none quiet stands tt step
steps_leave kind ended run s turn (step.Flip place byte) sound none quiet stands writing step = stepped kind turn.device s run.streams [] turn.added turn.refused sound none quiet stands tt step
steps_leave kind ended run s turn (step.Cut choice) sound none quiet stands writing step = stepped kind turn.device s run.streams [] turn.added turn.refused sound none quiet stands tt step

pub steps_own : (ended : WriterIsEnded) (run : Run) (s : State) (turn : Turn) (step : Step) → IsSound s → AreTold s → IsQuiet s → AreOwn s run.streams → AreWriting run s
    → IsStep turn.device s (asked run s step) turn.added turn.refused
    → AreOwn (after_all s turn.added) (streams_behind run s (after_all s turn.added) turn step)
    ⊎ ShowsPair (IsPlacedAs (streams_with run s step)) turn.device s (asked run s step) turn.added
steps_own ended run s turn step sound told quiet own writing legal =
    elim (steps_leave own_kind ended run s turn step sound told.displaced quiet (stands_own s run.streams own) writing legal) [
      | inl leaves ↦ inl (own_stands (after_all s turn.added) (streams_behind run s (after_all s turn.added) turn step) leaves.stands)
      | inr v ↦ inr v
    ]

pub steps_keep : (ended : WriterIsEnded) (run : Run) (s : State) (turn : Turn) (step : Step) → IsSound s → s.displaced ≡ [] → IsQuiet s → ArePayloadsOwn s run.streams → AreWriting run s
    → IsStep turn.device s (asked run s step) turn.added turn.refused
    → ArePayloadsOwn (after_all s turn.added) (streams_behind run s (after_all s turn.added) turn step)
    × ((after_all s turn.added).displaced ≡ [])
steps_keep ended run s turn step sound none quiet kept writing legal =
    elim (steps_leave kept_kind ended run s turn step sound none quiet (stands_kept s run.streams kept) writing legal) [
      | inl leaves ↦ (kept_stands (after_all s turn.added) (streams_behind run s (after_all s turn.added) turn step) leaves.stands, leaves.displaced)
      | inr v ↦ absurd (none_shown turn.device s (to_do (asked run s step)) turn.added v)
    ]
