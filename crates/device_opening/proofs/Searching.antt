-- How a search goes through a stretch.
use Rattle.std.proofs.Common.{◌≡◌, ℕ, ◌+◌, ◌-◌, ◌*◌, ◌/◌, ◌≤◌, ◌<◌, List, [], ◌∷◌, ◌++◌, length, length-append, append-nil, append_assoc, slice_get, Option, Some, None, refl, sym, ap, subst, ◌∙◌, arith}
use Rattle.std.specs.List.{cons_option}
use Rattle.device_log.specs.Image.{Image, span}
use Rattle.device_log.proofs.Spans.{span_none}
use Rattle.logged_disk.specs.Device.{DeviceState as Device}
use Rattle.dir_table.specs.declared.rows.StoredRow.{StoredRow}
use Rattle.cache_model.specs.declared.findings.FoundRow.{FoundRow}
use Rattle.device_reads.specs.declared.reads.ReadFault.{ReadFault}
use Rattle.device_reads.specs.Reads.{Fails, Reads}
use Rattle.device_reads.proofs.Telling.{fails_as, fails_then, reads_as, reads_none, reads_then}
use Rattle.reopening.specs.Documents.{document_at}
use Rattle.reopening.specs.Tests.{standing_at, standing_from}
use Rattle.device_opening.specs.declared.search.Search.{Search}
use Rattle.device_opening.specs.declared.stretch.Stretch.{Stretch}
use Rattle.device_opening.specs.Tape.{Ascend, IsSearch, IsUnderWay, Shows, StandBelow, StandFrom, end_of_stretch, end_of_window}
use Rattle.device_opening.proofs.Elements.{ascend_from, skip_given, stop_given, take_given}

-- what is left is what stands at elements that ascend, and the device was only read for what is found
pub record IsReached (stretch : Stretch) (rows rest : List StoredRow) (search : Search) (s t : Device) : Type 0 where
  pub ascend : Ascend 0 rest
  pub fewer : length rest ≤ length rows
  pub search_is : IsSearch stretch search
  pub reads : Reads stretch.first (end_of_window search.window) (2 * (length rows - length rest)) s t (IsUnderWay stretch rows rest search)
  pub unrefused : t.faults ≡ s.faults

-- the first stands from its own place on, and below the next one
pub first_from : (rest : List StoredRow) (row : StoredRow) → Ascend 0 rest → slice_get rest 0 ≡ Some row → StandFrom row.place rest
first_from [] row up is = absurd cc
first_from (r ∷ rest) row up is =
    let same : r ≡ row = cc in
    let from : StandFrom r.place (r ∷ rest) = ascend_from r.place (r ∷ rest) (omega arith, up.1) in
    subst (λ (x : StoredRow). StandFrom x.place (r ∷ rest)) same from

pub behind_fewer : (rest group behind : List StoredRow) (row : StoredRow) → rest ≡ group ++ behind → slice_get rest 0 ≡ Some row → StandFrom (row.place + 1) behind → length behind < length rest
behind_fewer rest [] [] row is first from =
    absurd (let none : slice_get [] 0 ≡ Some row = ap (λ (l : List StoredRow). slice_get l 0) (sym is) ∙ first in cc)
behind_fewer rest [] (r ∷ behind) row is first from =
    let there : Some r ≡ Some row = ap (λ (l : List StoredRow). slice_get l 0) (sym is) ∙ first in
    let same : r ≡ row = cc in
    let place : r.place ≡ row.place = ap (λ (x : StoredRow). x.place) same in
    absurd (omega (arith, from.0, place))
behind_fewer rest (r ∷ group) behind row is first from =
    let all = ap length is in
    let parts = length-append group behind in
    omega (arith, all, parts)

module _ (stretch : Stretch) (rows : List StoredRow) (s : Device) where
  abbrev first : ℕ
  first = stretch.first

  abbrev Stands : List FoundRow → Image → Type 0
  Stands all c = all ≡ standing_from stretch.area stretch.told rows c stretch.low (stretch.high - stretch.low)

  pub begun : (search : Search) → stretch.low ≤ stretch.high → Ascend 0 rows → search.window.first ≡ stretch.first → search.window.bytes.items ≡ [] → search.found.items ≡ [] → search.next ≡ stretch.low
      → IsReached stretch rows rows search s s
  begun search order up from none found next =
      let long : length search.window.bytes.items ≡ 0 = ap length none in
      record {
        ascend = up;
        fewer = omega arith;
        search_is = record {
          next = (omega (arith, next), omega (arith, next, order));
          rising = omega (arith, from);
          limit = omega (arith, from, long);
        };
        reads = reads_none first (end_of_window search.window) (2 * (length rows - length rows)) s (IsUnderWay stretch rows rows search) (omega (arith, from))
            (λ c image.
            let zero : length search.window.bytes.items / 512 ≡ 0 = omega (arith, long) in
            record {
              shows = none ∙ (sym (span_none c search.window.first) ∙ ap (λ k. span c search.window.first k) (sym zero));
              found = (λ i. found i ++ standing_from stretch.area stretch.told rows c (next i) (stretch.high - next i));
            });
        unrefused = refl;
      }

  module _ (search : Search) (t : Device) where
    -- elements of places that are passed are passed over
    pub passed : (rest group behind : List StoredRow) (place : ℕ) → rest ≡ group ++ behind → StandBelow (place + 1) group → Ascend 0 behind → length behind ≤ length rest → place < search.next
        → IsReached stretch rows rest search s t → IsReached stretch rows behind search s t
    passed rest group behind place is below up fewer past reached =
        let more : length rest ≤ length rows = reached.fewer in
        record {
          ascend = up;
          fewer = omega (arith, fewer, more);
          search_is = reached.search_is;
          reads = reads_as first (end_of_window search.window) (end_of_window search.window) (2 * (length rows - length rest)) (2 * (length rows - length behind)) s t
              (IsUnderWay stretch rows rest search) (IsUnderWay stretch rows behind search) (omega arith) (omega (arith, fewer))
              (λ c image way. record {
                shows = way.shows;
                found = ap (λ l. search.found.items ++ l)
                    (sym (ap (λ (l : List StoredRow). standing_from stretch.area stretch.told l c search.next (stretch.high - search.next)) is
                    ∙ skip_given stretch.area.geometry stretch.told (document_at stretch.area c) group behind place below search.next (stretch.high - search.next) past))
                    ∙ way.found;
              }) reached.reads;
          unrefused = reached.unrefused;
        }

    -- nothing more stands
    pub all_found : (rest : List StoredRow) → StandFrom stretch.high rest → IsReached stretch rows rest search s t
        → Reads first (end_of_stretch stretch) (2 * length rows) s t (Stands search.found.items)
    all_found rest from reached =
        reads_as first (end_of_window search.window) (end_of_stretch stretch) (2 * (length rows - length rest)) (2 * length rows) s t
        (IsUnderWay stretch rows rest search) (Stands search.found.items) reached.search_is.limit (omega arith)
        (λ c image way.
        sym (append-nil search.found.items)
        ∙ (ap (λ l. search.found.items ++ l) (sym (stop_given stretch.area.geometry stretch.told (document_at stretch.area c) rest search.next stretch.high from))
        ∙ way.found))
        reached.reads

    pub look_fails : (rest : List StoredRow) (u : Device) (e : ReadFault) → 0 < length rest → IsReached stretch rows rest search s t
        → Fails (end_of_window search.window) (end_of_stretch stretch) 2 t u e → Fails first (end_of_stretch stretch) (2 * length rows) s u e
    look_fails rest u e some reached fails =
        let fewer : length rest ≤ length rows = reached.fewer in
        fails_as first (end_of_stretch stretch) (end_of_stretch stretch) (2 * (length rows - length rest) + 2) (2 * length rows) s u e (omega arith) (omega (arith, some, fewer))
        (fails_then first (end_of_window search.window) (end_of_stretch stretch) (2 * (length rows - length rest)) 2 s t u (IsUnderWay stretch rows rest search) e reached.reads fails)

    module _ (next : Search) (u : Device) (rest group behind : List StoredRow) (place : ℕ) (is : rest ≡ group ++ behind) (below : StandBelow (place + 1) group) (above : StandFrom (place + 1) behind) where
      cons_there : (xs ys zs : List FoundRow) (o : Option FoundRow) → ys ≡ xs ++ cons_option o [] → ys ++ zs ≡ xs ++ cons_option o zs
      cons_there xs ys zs None more = ap (λ l. l ++ zs) more ∙ append_assoc xs [] zs
      cons_there xs ys zs (Some x) more = ap (λ l. l ++ zs) more ∙ append_assoc xs (x ∷ []) zs

      -- what stands at the next place was found
      pub looked : Ascend 0 behind → StandFrom place rest → length behind < length rest → search.next ≤ place → place < stretch.high → IsSearch stretch next → next.next ≡ place + 1 → u.faults ≡ t.faults
          → Reads (end_of_window search.window) (end_of_window next.window) 2 t u
          (λ c. Shows search.window c → Shows next.window c × (next.found.items ≡ search.found.items ++ cons_option (standing_at stretch.area stretch.told group c place) []))
          → IsReached stretch rows rest search s t → IsReached stretch rows behind next s u
      looked up from fewer low high search_is step same reads reached =
          let more : length rest ≤ length rows = reached.fewer in
          let New : Image → Type 0 = λ c. Shows search.window c → Shows next.window c × (next.found.items ≡ search.found.items ++ cons_option (standing_at stretch.area stretch.told group c place) []) in
          record {
            ascend = up;
            fewer = omega (arith, fewer, more);
            search_is = search_is;
            reads = reads_as first (end_of_window next.window) (end_of_window next.window) (2 * (length rows - length rest) + 2) (2 * (length rows - length behind)) s u
                (λ c. IsUnderWay stretch rows rest search c × New c) (IsUnderWay stretch rows behind next) (omega arith) (omega (arith, fewer, more))
                (λ c image told.
                let way = told.0 in
                let new = told.1 way.shows in
                let docs = document_at stretch.area c in
                let g = stretch.area.geometry in
                let all : standing_from stretch.area stretch.told rest c search.next (stretch.high - search.next)
                ≡ cons_option (standing_at stretch.area stretch.told group c place) (standing_from stretch.area stretch.told behind c (place + 1) (stretch.high - (place + 1))) =
                ap (λ (l : List StoredRow). standing_from stretch.area stretch.told l c search.next (stretch.high - search.next)) is
                ∙ take_given g stretch.told docs group behind place below search.next stretch.high low high (subst (StandFrom place) is from) above in
                record {
                  shows = new.0;
                  found = ap (λ k. next.found.items ++ standing_from stretch.area stretch.told behind c k (stretch.high - k)) step
                      ∙ (cons_there search.found.items next.found.items (standing_from stretch.area stretch.told behind c (place + 1) (stretch.high - (place + 1))) (standing_at stretch.area stretch.told group c place) new.1
                      ∙ (ap (λ l. search.found.items ++ l) (sym all) ∙ way.found));
                })
                (reads_then first (end_of_window search.window) (end_of_window next.window) (2 * (length rows - length rest)) 2 s t u (IsUnderWay stretch rows rest search) New reached.reads reads);
            unrefused = same ∙ reached.unrefused;
          }

-- none are left
pub none_from : (rest : List StoredRow) (high : ℕ) → slice_get rest 0 ≡ None → StandFrom high rest
none_from [] high is = tt
none_from (r ∷ rest) high is = absurd cc

-- the first stands at or above a place, and so do all
pub all_from : (rest : List StoredRow) (row : StoredRow) (high : ℕ) → Ascend 0 rest → slice_get rest 0 ≡ Some row → high ≤ row.place → StandFrom high rest
all_from [] row high up is le = tt
all_from (r ∷ rest) row high up is le =
    let same : r ≡ row = cc in
    let place : r.place ≡ row.place = ap (λ (x : StoredRow). x.place) same in
    ascend_from high (r ∷ rest) (omega (arith, place, le), up.1)
