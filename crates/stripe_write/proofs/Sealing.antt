-- A writer that is sealed, and two writers of one alternate.
use Rattle.std.proofs.Common.{◌≡◌, ℕ, ◌*◌, List, [], ◌∷◌, ◌++◌, sym, ◌∙◌, ap, subst, true, length, inl, inr, ◌⊎◌}
use Rattle.std.specs.Prelude.{◌≤◌}
use Rattle.std.proofs.lemmas.List.{append-nil}
use Rattle.tape_base.specs.declared.geometries.Geometry.{Geometry}
use Rattle.tape_base.specs.Blocks.{blocks_of}
use Rattle.tape_base.specs.Geometry.{budget_of}
use Rattle.fragment_table.specs.Table.{TableRow, total_length}
use Rattle.alternate_vector.specs.Field.{Field}
use Rattle.alternate_vector.specs.Alternates.{Stored, vector_size}
use Rattle.cache_model.specs.State.{State, put_of}
use Rattle.stripe_vectors.specs.Spelled.{IsSpelled}
use Rattle.stripe_write.specs.declared.weighing.Vectors.{Vectors}
use Rattle.stripe_write.specs.declared.writer.Writer.{Writer}
use Rattle.stripe_write.specs.Writes.{SameButBytes, SameWriter}
use Rattle.stripe_write.specs.Closing.{AreSpelled}
use Rattle.cache_calls.specs.Actors.{IsWriterOf, IsAllCut, IsAtHand}
use Rattle.cache_calls.specs.Asked.{rest_rows, rows_at_close}
use Rattle.cache_calls.specs.Writers.{alternate_at_close}
use Rattle.stripe_write.specs.Writers.{written_as}

-- ---- a writer that is sealed

pub record IsSealed (old new : Writer) : Type 0 where
  pub put : new.put ≡ old.put
  pub key : new.key ≡ old.key
  pub request : new.request ≡ old.request
  pub response : new.response ≡ old.response
  pub pin : new.pin ≡ old.pin
  pub gathered : new.gathered.items ≡ old.gathered.items
  pub rows : new.table.rows ≡ old.table.rows
  pub sealed : new.sealed ≡ true

sealed_cut : (w new : Writer) (P : Type 0) → IsSealed w new → IsAllCut (written_as w) ⊎ P → IsAllCut (written_as new) ⊎ P
sealed_cut w new P same (inl cut) = inl (record { sealed = same.sealed; empty = same.gathered ∙ cut.empty })
sealed_cut w new P same (inr whole) = inr whole

pub sealed_writer : (s : State) (w new : Writer) → IsSealed w new → IsWriterOf s (written_as w) → IsWriterOf s (written_as new)
sealed_writer s w new same own = λ row found o.
    let here : IsAtHand s.geometry row (written_as w) = own row (ap (put_of s) (sym same.put) ∙ found) o in
    record {
      key_is = here.key_is ∙ sym same.key;
      request_is = here.request_is ∙ sym same.request;
      response_is = here.response_is ∙ sym same.response;
      pin_is = here.pin_is ∙ sym same.pin;
      cuts_are = here.cuts_are ∙ sym same.rows;
      whole = sealed_cut w new (total_length row.cuts ≡ length row.cuts * s.geometry.fragment) same here.whole;
      few = rw same.gathered here.few;
      more = rw same.gathered here.more;
    }

-- ---- two writers of one alternate

-- they stand for the same alternate when they close
pub record SameAtClose (old new : Writer) : Type 0 where
  pub put : new.put ≡ old.put
  pub key : new.key ≡ old.key
  pub rows : rows_at_close (written_as new) ≡ rows_at_close (written_as old)
  pub alternate : alternate_at_close (written_as new) ≡ alternate_at_close (written_as old)

abbrev made : ℕ → ℕ → List Field → List Field → List TableRow → Stored
made n pin q r rows = record { put = n; pin = pin; length = total_length rows; request = q; response = r; table = rows }

same_alternate : (w new : Writer) → new.put ≡ w.put → new.pin ≡ w.pin → new.request ≡ w.request → new.response ≡ w.response → rows_at_close (written_as new) ≡ rows_at_close (written_as w) → alternate_at_close (written_as new) ≡ alternate_at_close (written_as w)
same_alternate w new put pin request response rows =
    ap (λ n. made n new.pin new.request new.response (rows_at_close (written_as new))) put
    ∙ (ap (λ n. made w.put n new.request new.response (rows_at_close (written_as new))) pin
    ∙ (ap (λ q. made w.put w.pin q new.response (rows_at_close (written_as new))) request
    ∙ (ap (λ r. made w.put w.pin w.request r (rows_at_close (written_as new))) response ∙ ap (made w.put w.pin w.request w.response) rows)))

pub sealed_same : (w new : Writer) → IsSealed w new → SameAtClose w new
sealed_same w new same =
    let rows : rows_at_close (written_as new) ≡ rows_at_close (written_as w) = ap (λ (r : List TableRow). r ++ rest_rows new.gathered.items) same.rows ∙ ap (λ b. w.table.rows ++ rest_rows b) same.gathered in
    record { put = same.put; key = same.key; rows = rows; alternate = same_alternate w new same.put same.pin same.request same.response rows }

-- a writer as it was
pub alike_same : (w new : Writer) → SameWriter w new → SameAtClose w new
alike_same w new same =
    let rows : rows_at_close (written_as new) ≡ rows_at_close (written_as w) =
    ap (λ (r : List TableRow). r ++ rest_rows new.gathered.items) same.rows ∙ ap (λ b. w.table.rows ++ rest_rows b) same.gathered in
    record { put = same.put; key = same.key; rows = rows; alternate = same_alternate w new same.put same.pin same.request same.response rows }

pub cut_same : (w new : Writer) → SameButBytes w new → new.table.rows ≡ rows_at_close (written_as w) → new.gathered.items ≡ [] → SameAtClose w new
cut_same w new same rows none =
    let all : rows_at_close (written_as new) ≡ rows_at_close (written_as w) = ap (λ b. new.table.rows ++ rest_rows b) none ∙ (append-nil new.table.rows ∙ rows) in
    record { put = same.put; key = same.key; rows = all; alternate = same_alternate w new same.put same.pin same.request same.response all }

pub then_same : (a b c : Writer) → SameAtClose a b → SameAtClose b c → SameAtClose a c
then_same a b c x y = record { put = y.put ∙ x.put; key = y.key ∙ x.key; rows = y.rows ∙ x.rows; alternate = y.alternate ∙ x.alternate }

pub spelled_same : (g h : Geometry) (w new : Writer) (v : Vectors) → h ≡ g → SameAtClose w new → AreSpelled g w v → AreSpelled h new v
spelled_same g h w new v is same spelled = record {
  fits = rw is (subst (λ (a : Stored). blocks_of (vector_size (a ∷ [])) ≤ budget_of g) (sym same.alternate) spelled.fits);
  alone = rw is (subst (λ (a : Stored). IsSpelled g [] a v.alone) (sym same.alternate) spelled.alone);
  merged = λ m e. rw is (spelled.merged m e);
}
