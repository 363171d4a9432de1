-- What stands stays what writers took where what one of them took is told otherwise, as far as its put has
-- not cut that.
use Rattle.std.proofs.Common.{◌≡◌, ℕ, ◌+◌, ◌*◌, ◌<◌, ◌≤◌, List, ◌++◌, length, take, refl, sym, ◌∙◌, ap, subst, arith, Bool, true, false, length-append, length-take, eqb-true}
use Rattle.std.specs.Prelude.{min, Some, if◌then◌else◌, ◌==◌}
use Rattle.std.proofs.Math.Seq.{take-append-add}
use Rattle.fragment_table.specs.Table.{total_length}
use Rattle.cache_model.specs.State.{State, PutRow, Open, put_of}
use Rattle.cache_model.proofs.Found.{no_truth, number_of}
use Rattle.cache_model.proofs.Steps.{all_as}
use Rattle.script_run.specs.Run.{Stream, with_value}
use Rattle.script_run.specs.Own.{AreCuts, IsOwnPut}
use Rattle.script_run.proofs.Saying.{AllTellAlike, Kind, Stands, TellAlike, IsRow}
use Rattle.script_run.proofs.Cuts.{HaveCut, cuts_of_other, have_longer, have_same, have_shorter}
use Rattle.script_run.proofs.Values.{value_by, value_here}

pub tells_itself : (s : State) (a : ℕ → Stream) (w : PutRow) → IsOwnPut s a w → TellAlike s.geometry.fragment w (a w.put) (a w.put)
tells_itself s a w p = record { cut = have_same s.geometry.fragment (length w.cuts) (a w.put).bytes; within = p.cuts.within; whole = p.whole; full = p.full }

put_told : (s : State) (a b : ℕ → Stream) (w : PutRow) → TellAlike s.geometry.fragment w (a w.put) (b w.put) → IsOwnPut s a w → IsOwnPut s b w
put_told s a b w t p = record {
  begun = p.begun;
  cuts = cuts_of_other s.geometry.fragment (a w.put).bytes (b w.put).bytes w.cuts p.cuts t.cut t.within;
  whole = t.whole;
  full = t.full;
}

pub stands_told : (kind : Kind) (s : State) (a b : ℕ → Stream) → AllTellAlike s a b → Stands kind s a → Stands kind s b
stands_told kind s a b told own = record {
  puts = λ put w found. put_told s a b w (told put w found) (own.puts put w found);
  rows = all_as (IsRow kind s a) (IsRow kind s b) (λ row o. (kind.told s a b row told o.0, o.1)) s.rows own.rows;
  readers = own.readers;
}

-- ---- one stream is another

both_by : (P : Stream → Stream → Type 0) (x y z : Stream) (m put : ℕ) (b : Bool) → (m == put) ≡ b → (m ≡ put → P x y) → P (if b then x else z) (if b then x else z) → P (if b then x else z) (if b then y else z)
both_by P x y z m put true e here there = here (eqb-true m put e)
both_by P x y z m put false e here there = there

-- the stream of one put is told otherwise
pub stands_with : (kind : Kind) (s : State) (a : ℕ → Stream) (put : ℕ) (y : Stream) → ((w : PutRow) → put_of s put ≡ Some w → IsOwnPut s a w → w.put ≡ put → TellAlike s.geometry.fragment w (a w.put) y)
    → Stands kind s a → Stands kind s (with_value a put y)
stands_with kind s a put y here own = stands_told kind s a (with_value a put y) (λ n w found. value_by (TellAlike s.geometry.fragment w (a w.put)) y (a w.put) w.put put
    (λ same. here w (subst (λ m. put_of s m ≡ Some w) (sym (number_of s n w found) ∙ same) found) (own.puts n w found) same)
    (λ other. tells_itself s a w (own.puts n w found))) own

pub stands_instead : (kind : Kind) (s : State) (a : ℕ → Stream) (put : ℕ) (x y : Stream)
    → ((w : PutRow) → put_of s put ≡ Some w → AreCuts s.geometry.fragment x.bytes w.cuts → TellAlike s.geometry.fragment w x x → TellAlike s.geometry.fragment w x y)
    → Stands kind s (with_value a put x) → Stands kind s (with_value a put y)
stands_instead kind s a put x y here own = stands_told kind s (with_value a put x) (with_value a put y) (λ n w found.
    let itself : TellAlike s.geometry.fragment w (with_value a put x w.put) (with_value a put x w.put) = tells_itself s (with_value a put x) w (own.puts n w found) in
    both_by (TellAlike s.geometry.fragment w) x y (a w.put) w.put put (w.put == put) refl
    (λ same. here w (subst (λ m. put_of s m ≡ Some w) (sym (number_of s n w found) ∙ same) found)
    (subst (λ (z : Stream). AreCuts s.geometry.fragment z.bytes w.cuts) (value_here x (a w.put) w.put put same) (own.puts n w found).cuts)
    (subst (λ (z : Stream). TellAlike s.geometry.fragment w z z) (value_here x (a w.put) w.put put same) itself))
    itself) own

-- a put that has not begun has cut nothing
pub stands_begins : (kind : Kind) (s : State) (a : ℕ → Stream) (y : Stream) → Stands kind s a → Stands kind s (with_value a s.next_put y)
stands_begins kind s a y own = stands_with kind s a s.next_put y (λ w found p same. let below : w.put < s.next_put = p.begun in absurd (omega (arith, below, same))) own

-- a writer is sealed
pub stands_sealed : (kind : Kind) (s : State) (a : ℕ → Stream) (put : ℕ) → Stands kind s a → Stands kind s (with_value a put (record { bytes = (a put).bytes; sealed = true }))
stands_sealed kind s a put own = stands_with kind s a put (record { bytes = (a put).bytes; sealed = true }) (λ w found p same.
    let bytes : (a w.put).bytes ≡ (a put).bytes = ap (λ n. (a n).bytes) same in
    record {
      cut = subst (λ (xs : List ℕ). HaveCut s.geometry.fragment (length w.cuts) (a w.put).bytes xs) bytes (have_same s.geometry.fragment (length w.cuts) (a w.put).bytes);
      within = subst (λ (xs : List ℕ). total_length w.cuts ≤ length xs) bytes p.cuts.within;
      whole = λ closed. p.whole closed ∙ ap length bytes;
      full = λ is_open unsealed. no_truth unsealed;
    }) own

-- a writer whose put is not open is told sealed or not
pub stands_unsealed : (kind : Kind) (s : State) (a : ℕ → Stream) (put : ℕ) (bytes : List ℕ) (sealed : Bool) → ((w : PutRow) → put_of s put ≡ Some w → w.writing ≡ Open → ⊥)
    → Stands kind s (with_value a put (record { bytes = bytes; sealed = true })) → Stands kind s (with_value a put (record { bytes = bytes; sealed = sealed }))
stands_unsealed kind s a put bytes sealed over own = stands_instead kind s a put (record { bytes = bytes; sealed = true }) (record { bytes = bytes; sealed = sealed })
    (λ w found c t. record { cut = t.cut; within = t.within; whole = t.whole; full = λ is_open unsealed. absurd (over w found is_open) }) own

-- an open writer that is not sealed takes more
pub stands_longer : (kind : Kind) (s : State) (a : ℕ → Stream) (put : ℕ) (more : List ℕ) → ((w : PutRow) → put_of s put ≡ Some w → w.writing ≡ Open) → (a put).sealed ≡ false
    → Stands kind s a → Stands kind s (with_value a put (record { bytes = (a put).bytes ++ more; sealed = (a put).sealed }))
stands_longer kind s a put more opens unsealed own = stands_with kind s a put (record { bytes = (a put).bytes ++ more; sealed = (a put).sealed }) (λ w found p same.
    let stream : a w.put ≡ a put = ap a same in
    let is_open : w.writing ≡ Open = opens w found in
    let full : total_length w.cuts ≡ length w.cuts * s.geometry.fragment = p.full is_open (ap (λ (x : Stream). x.sealed) stream ∙ unsealed) in
    let within : total_length w.cuts ≤ length (a put).bytes = subst (λ (x : Stream). total_length w.cuts ≤ length x.bytes) stream p.cuts.within in
    record {
      cut = subst (λ (x : Stream). HaveCut s.geometry.fragment (length w.cuts) x.bytes ((a put).bytes ++ more)) (sym stream)
          (have_longer s.geometry.fragment (length w.cuts) (a put).bytes more (omega (arith, within, full)));
      within = omega (arith, within, length-append (a put).bytes more);
      whole = λ closed. absurd cc;
      full = λ o u. full;
    }) own

-- and of what it was given it took no less than was cut
pub stands_shorter : (kind : Kind) (s : State) (a : ℕ → Stream) (put : ℕ) (bytes more : List ℕ) (sealed : Bool) (n : ℕ) → ((w : PutRow) → put_of s put ≡ Some w → total_length w.cuts ≤ length (bytes ++ more) → total_length w.cuts ≤ length bytes + n)
    → Stands kind s (with_value a put (record { bytes = bytes ++ more; sealed = sealed })) → Stands kind s (with_value a put (record { bytes = bytes ++ take n more; sealed = sealed }))
stands_shorter kind s a put bytes more sealed n taken own = stands_instead kind s a put (record { bytes = bytes ++ more; sealed = sealed }) (record { bytes = bytes ++ take n more; sealed = sealed }) shorter own
  where
    front : take (length bytes + n) (bytes ++ more) ≡ bytes ++ take n more
    front = take-append-add bytes more n

    size : length (bytes ++ take n more) ≡ min (length bytes + n) (length (bytes ++ more))
    size = ap length (sym front) ∙ length-take (length bytes + n) (bytes ++ more)

    shorter : (w : PutRow) → put_of s put ≡ Some w → AreCuts s.geometry.fragment (bytes ++ more) w.cuts → TellAlike s.geometry.fragment w (record { bytes = bytes ++ more; sealed = sealed }) (record { bytes = bytes ++ more; sealed = sealed })
        → TellAlike s.geometry.fragment w (record { bytes = bytes ++ more; sealed = sealed }) (record { bytes = bytes ++ take n more; sealed = sealed })
    shorter w found c t =
        let enough : total_length w.cuts ≤ length bytes + n = taken w found t.within in
        record {
          cut = subst (λ (xs : List ℕ). HaveCut s.geometry.fragment (length w.cuts) (bytes ++ more) xs) front (have_shorter s.geometry.fragment (bytes ++ more) w.cuts (length bytes + n) c enough);
          within = omega (arith, size, enough, t.within);
          whole = λ closed. let all : total_length w.cuts ≡ length (bytes ++ more) = t.whole closed in omega (arith, size, enough, all);
          full = t.full;
        }
