-- What a reader was given stays the front of what the writer of its put took.
use Rattle.std.proofs.Common.{◌≡◌, ℕ, ◌-◌, ◌*◌, ◌<◌, ◌≤◌, List, [], length, take, refl, sym, ◌∙◌, ap, subst, arith, inl, inr, Bool, true, false, eqb-true}
use Rattle.std.specs.Prelude.{Option, Some, None, if◌then◌else◌, option_map, unwrap_or, ◌==◌}
use Rattle.std.proofs.Math.Nat.{mul-le-mul_left, mul_comm}
use Rattle.std.proofs.lemmas.List.{take-append-le}
use Rattle.fragment_table.specs.Table.{TableRow, total_length}
use Rattle.cache_model.specs.State.{State, PutRow, ReaderRow, Open, Closed, put_of, reader_of}
use Rattle.cache_model.specs.Verdict.{cuts_of}
use Rattle.cache_model.specs.Legal.{IsQuiet, is_writing}
use Rattle.cache_model.specs.Permit.{Reason}
use Rattle.cache_model.proofs.Found.{none_is, number_of, same_some}
use Rattle.script_grammar.specs.declared.step.Step.{Step}
use Rattle.script_grammar.specs.declared.step.Step.TheVariants as step
use Rattle.script_run.specs.Run.{Holding, Run, Stream, held_by, put_written_by, with_value}
use Rattle.script_run.specs.Turn.{Turn}
use Rattle.script_run.specs.Behind.{fed, of_put, seals, streams_behind, streams_closed, streams_fed, streams_opened, taken_in_line}
use Rattle.script_run.specs.Own.{ArePayloadsOwn, IsOwnPut, IsOwnReader, IsTableOfHit}
use Rattle.script_run.proofs.Ended.{IsFoundOpen, open_row}
use Rattle.script_run.proofs.Finding.{found_in, found_true}
use Rattle.script_run.proofs.Values.{other_than, value_by}
use Rattle.line_laws.specs.Along.{IsOpenAt, StandsKept}

-- ---- readers

-- an open reader has begun
pub own_begun : (s : State) (streams : ℕ → Stream) (n : ℕ) (r : ReaderRow) → ArePayloadsOwn s streams → reader_of s n ≡ Some r
    → n < s.next_reader
own_begun s streams n r own found =
    let o : IsOwnReader s r = found_in (IsOwnReader s) _ s.readers r own.readers found in
    subst (λ k. k < s.next_reader) (eqb-true r.reader n (found_true (λ (x : ReaderRow). x.reader == n) s.readers r found)) o.begun

pub reader_begun : (run : Run) (s : State) (n : ℕ) (r : ReaderRow) → StandsKept run s → reader_of s n ≡ Some r → n < s.next_reader
reader_begun run s n r stands found = own_begun s run.streams n r stands.kept found

-- ---- a put that may be fed

-- a reader of an open put follows its writer, and was given no more than that has cut
open_count : (s : State) (r : ReaderRow) (w : PutRow) (o : Option (List TableRow)) → IsQuiet s → put_of s r.put ≡ Some w → w.writing ≡ Open → IsTableOfHit s r o
    → r.next - 1 ≤ length (unwrap_or o (cuts_of s r.put)) → r.next - 1 ≤ length w.cuts
open_count s r w None quiet found is_open table within =
    subst (λ (o : Option PutRow). r.next - 1 ≤ length (unwrap_or (option_map (λ (p : PutRow). p.cuts) o) [])) found within
open_count s r w (Some table) quiet found is_open t within =
    let same : t.w ≡ w = same_some t.w w (put_of s r.put) t.found found in
    elim t.complete [
      | inl closed ↦ (let both : Open ≡ Closed = sym is_open ∙ (ap (λ (x : PutRow). x.writing) (sym same) ∙ closed) in cc)
      | inr pending ↦ none_is (sym quiet ∙ pending)
    ]

-- the fragments that it was given are whole
cut_within : (run : Run) (s : State) (n : ℕ) (r : ReaderRow) → StandsKept run s → IsQuiet s → IsOpenAt s n r → is_writing s r.put ≡ true → (run.streams r.put).sealed ≡ false
    → (r.next - 1) * s.geometry.fragment ≤ length (run.streams r.put).bytes
cut_within run s n r stands quiet at writing unsealed =
    let f : IsFoundOpen s r.put = open_row s r.put writing in
    let w : PutRow = f.w in
    let p : IsOwnPut s run.streams w = stands.kept.puts r.put w f.found in
    let stream : run.streams w.put ≡ run.streams r.put = ap run.streams (number_of s r.put w f.found) in
    let o : IsOwnReader s r = found_in (IsOwnReader s) _ s.readers r stands.kept.readers at.found in
    let full : total_length w.cuts ≡ length w.cuts * s.geometry.fragment = p.full f.is_open (ap (λ (x : Stream). x.sealed) stream ∙ unsealed) in
    let within : total_length w.cuts ≤ length (run.streams r.put).bytes = subst (λ (x : Stream). total_length w.cuts ≤ length x.bytes) stream p.cuts.within in
    let count : r.next - 1 ≤ length w.cuts = open_count s r w r.table quiet f.found f.is_open o.table at.within in
    let most : s.geometry.fragment * (r.next - 1) ≤ s.geometry.fragment * length w.cuts = mul-le-mul_left s.geometry.fragment count in
    omega (arith, full, within, most, mul_comm s.geometry.fragment (r.next - 1), mul_comm s.geometry.fragment (length w.cuts))

-- ---- streams

-- another put's stream is told otherwise
front_beside : (a put m : ℕ) (streams : ℕ → Stream) (x : Stream) → (m ≡ put → ⊥) → take a (streams m).bytes ≡ take a (with_value streams put x m).bytes
front_beside a put m streams x other = ap (λ (y : Stream). take a y.bytes) (sym (other_than x (streams m) m put other))

-- the stream of a put goes on from that front
front_with : (a put m : ℕ) (streams : ℕ → Stream) (x : Stream) → (m ≡ put → take a (streams put).bytes ≡ take a x.bytes) → take a (streams m).bytes ≡ take a (with_value streams put x m).bytes
front_with a put m streams x here =
    value_by (λ (y : Stream). take a (streams m).bytes ≡ take a y.bytes) x (streams m) m put (λ same. ap (λ k. take a (streams k).bytes) same ∙ here same) (λ other. refl)

fed_by : (a put m k : ℕ) (run : Run) (body : List ℕ) (b : Bool) → (run.streams put).sealed ≡ b → (m ≡ put → (run.streams put).sealed ≡ false → a ≤ length (run.streams put).bytes)
    → take a (run.streams m).bytes ≡ take a ((if b then run.streams else with_value run.streams put (fed (run.streams put) body k)) m).bytes
fed_by a put m k run body true sealed within = refl
fed_by a put m k run body false unsealed within =
    front_with a put m run.streams (fed (run.streams put) body k) (λ same. sym (take-append-le a (run.streams put).bytes (take k body) (within same unsealed)))

sealed_bytes : (x : Stream) (b : Bool) → x.bytes ≡ (if b then (record { bytes = x.bytes; sealed = true }) else x).bytes
sealed_bytes x true = refl
sealed_bytes x false = refl

module _ (run : Run) (s t : State) (n : ℕ) (r : ReaderRow) (stands : StandsKept run s) (quiet : IsQuiet s) (at : IsOpenAt s n r) where
  abbrev Given : ℕ
  Given = (r.next - 1) * s.geometry.fragment

  not_next : r.put ≡ s.next_put → ⊥
  not_next same = let below : r.put < s.next_put = at.begun in omega (arith, below, same)

  opened_front : (o : Option Holding) → take Given (run.streams r.put).bytes ≡ take Given (streams_opened run s o r.put).bytes
  opened_front None = front_beside Given s.next_put r.put run.streams _ not_next
  opened_front (Some holding) = refl

  fed_front : (body : List ℕ) (why : Option Reason) (o : Option ℕ) → ((put : ℕ) → o ≡ Some put → is_writing s put ≡ true)
      → take Given (run.streams r.put).bytes ≡ take Given (of_put run o (streams_fed run t body why) r.put).bytes
  fed_front body why None writing = refl
  fed_front body why (Some put) writing =
      fed_by Given put r.put (taken_in_line run t body why put) run body (run.streams put).sealed refl (λ same unsealed.
      let here : is_writing s r.put ≡ true = subst (λ k. is_writing s k ≡ true) (sym same) (writing put refl) in
      let open_here : (run.streams r.put).sealed ≡ false = subst (λ k. (run.streams k).sealed ≡ false) (sym same) unsealed in
      subst (λ k. Given ≤ length (run.streams k).bytes) same (cut_within run s n r stands quiet at here open_here))

  closed_front : (why : Option Reason) (o : Option ℕ) → take Given (run.streams r.put).bytes ≡ take Given (of_put run o (streams_closed run why) r.put).bytes
  closed_front why None = refl
  closed_front why (Some put) = front_with Given put r.put run.streams _ (λ same. ap (take Given) (sealed_bytes (run.streams put) (seals why)))

  -- each line leaves that front
  pub fronts : (turn : Turn) (step : Step) → take Given (run.streams r.put).bytes ≡ take Given (streams_behind run s t turn step r.put).bytes
  fronts turn (step.Put key body request response) = front_beside Given s.next_put r.put run.streams _ not_next
  fronts turn (step.OpenWrite actor key pin request response) = opened_front (held_by run actor)
  fronts turn (step.Feed actor body) = fed_front body turn.refused (put_written_by run actor) (stands.writing actor)
  fronts turn (step.Close actor) = closed_front turn.refused (put_written_by run actor)
  fronts turn _ = refl
