-- What is told of the rest of a writer that closes.
use Rattle.std.proofs.Common.{◌≡◌, ℕ, ◌+◌, ◌<◌, List, [], ◌∷◌, ◌++◌, length, sym, ◌∙◌, ap, subst, arith, true}
use Rattle.std.proofs.lemmas.List.{length-append}
use Rattle.fragment_table.specs.Table.{TableRow}
use Rattle.cache_model.specs.State.{State, put_of}
use Rattle.cache_model.specs.Verdict.{cuts_of}
use Rattle.cache_model.specs.Legal.{is_writing}
use Rattle.cache_model.proofs.Found.{cuts_found}
use Rattle.cache_model.specs.Contents.{Contents}
use Rattle.stripe_write.specs.declared.writer.Writer.{Writer}
use Rattle.stripe_write.specs.Writes.{SameWriter}
use Rattle.stripe_write.proofs.Ended.{open_put}
use Rattle.stripe_write.proofs.ToldPieces.{told_same}
use Rattle.cache_calls.specs.Actors.{IsWriterOf}
use Rattle.cache_calls.specs.Asked.{rest_rows, rows_at_close}
use Rattle.cache_calls.specs.Standing.{IsToldNext, IsToldClosed}
use Rattle.stripe_write.specs.Writers.{written_as}

-- an open put has cut what its writer has in its table
pub cuts_at : (s : State) (w : Writer) → is_writing s w.put ≡ true → IsWriterOf s (written_as w) → cuts_of s w.put ≡ w.table.rows
cuts_at s w writing own =
    let o = open_put (put_of s w.put) writing in
    cuts_found s w.put o.0 o.1 ∙ (own o.0 o.1 o.2).cuts_are

one_more : (rows : List TableRow) (bytes : List ℕ) → 0 < length bytes → length rows < length (rows ++ rest_rows bytes)
one_more rows [] some = absurd (omega (arith, some))
one_more rows (byte ∷ bytes) some =
    let more : length (rows ++ rest_rows (byte ∷ bytes)) ≡ length rows + 1 = length-append rows (rest_rows (byte ∷ bytes)) in
    omega (arith, more)

-- behind the rest that was cut there is a fragment more
pub more_cut : (mid new : State) (w cut : Writer) → cut.put ≡ w.put → cut.table.rows ≡ rows_at_close (written_as w) → is_writing mid cut.put ≡ true
    → IsWriterOf mid (written_as cut) → cuts_of new w.put ≡ cuts_of mid w.put → 0 < length w.gathered.items → length w.table.rows < length (cuts_of new w.put)
more_cut mid new w cut put rows writing own same some =
    let all : cuts_of new w.put ≡ rows_at_close (written_as w) = same ∙ (ap (cuts_of mid) (sym put) ∙ (cuts_at mid cut writing own ∙ rows)) in
    subst (λ (rs : List TableRow). length w.table.rows < length rs) (sym all) (one_more w.table.rows w.gathered.items some)

-- of a writer as it was the same is told
pub closed_same : (new : State) (w other : Writer) (contents : Contents) → SameWriter w other → IsToldClosed new (written_as w) contents
    → IsToldClosed new (written_as other) contents
closed_same new w other contents same told = record {
  rest = λ more.
      let here : length w.table.rows < length (cuts_of new w.put) =
      subst (λ n. length w.table.rows < length (cuts_of new n)) same.put
      (subst (λ (rs : List TableRow). length rs < length (cuts_of new other.put)) same.rows more) in
      subst (λ bytes. IsToldNext (written_as other) bytes contents) (sym same.gathered)
      (told_same contents w other w.gathered.items same.put same.key same.rows (told.rest here));
  vectors = told.vectors;
}
