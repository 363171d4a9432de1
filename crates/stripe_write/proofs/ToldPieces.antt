-- What is told of the bytes of the pieces that writers place.
use Rattle.std.proofs.Common.{◌≡◌, ℕ, ◌+◌, List, [], length, refl, sym, ◌∙◌, ap, subst, false}
use Rattle.std.specs.Prelude.{IfSome, Some, None}
use Rattle.std.proofs.lemmas.Option.{IfSome_then}
use Rattle.tape_base.specs.declared.pieces.PieceId.{PieceId}
use Rattle.tape_base.specs.Piece.{is_vector}
use Rattle.logged_disk.specs.Device.{TellsAll}
use Rattle.logged_disk.specs.declared.device.Disk.{Ghosts as DiskGhosts}
use Rattle.dir_table.specs.declared.directory.Directory.{Ghosts as DirectoryGhosts}
use Rattle.cache_chronicle.specs.declared.chronicle.Chronicle.{Ghosts as ChronicleGhosts}
use Rattle.fragment_table.specs.Table.{TableRow, total_length}
use Rattle.alternate_vector.specs.Alternates.{Stored}
use Rattle.alternate_vector.specs.Spelling.{vector_bytes}
use Rattle.cache_model.specs.State.{State, fragment_piece, list_of_put, vector_piece}
use Rattle.cache_model.specs.Contents.{AnyContents, Content, Contents, IsToldAs, TellsVectors, contents_of_vectors}
use Rattle.stripe_core.specs.declared.stripe.Stripe.{Stripe}
use Rattle.stripe_core.specs.Between.{ContinuesWith, Rests, RestsWith}
use Rattle.stripe_core.specs.Stripe.{seen_in, state_in}
use Rattle.stripe_core.proofs.Continuing.{continues_with_rests, continues_with_then, rests_continues, rests_with_then, standing_where_told}
use Rattle.stripe_write.specs.declared.weighing.Vectors.{Vectors}
use Rattle.stripe_write.specs.declared.writer.Writer.{Writer}
use Rattle.stripe_write.specs.Closing.{AreSpelled, IsReadFor}
use Rattle.stripe_write.specs.Finishing.{vector_now}
use Rattle.stripe_write.specs.Writes.{next_start}
use Rattle.stripe_write.proofs.Completing.{IsClosing, is_current, lists_spelled}
use Rattle.cache_calls.specs.Writers.{piece_cut_next}
use Rattle.cache_calls.specs.Standing.{IsToldNext}
use Rattle.stripe_write.specs.Writers.{written_as}

-- ---- what a call has to be told

module _ {D R C : Type 0} {d : DiskGhosts D} {r : DirectoryGhosts R} {c : ChronicleGhosts C} where
  -- it is told, where that tells what it was said to need
  pub continues_as : (First Told : Contents → Type 0) (s t : Stripe D R C d r c)
      → ((contents : Contents) → TellsAll (seen_in t).device → Told contents → First contents) → ContinuesWith First s t
      → ContinuesWith Told s t
  continues_as First Told s t tell call = record {
    stripe = call.stripe;
    between = call.between;
    contents = λ contents told stands. standing_where_told contents (state_in t) (seen_in t)
        (λ tells. call.contents contents (tell contents tells told) stands);
    later = call.later;
  }

  pub rests_as : (First Told : Contents → Type 0) (s t : Stripe D R C d r c)
      → ((contents : Contents) → TellsAll (seen_in t).device → Told contents → First contents) → RestsWith First s t → RestsWith Told s t
  rests_as First Told s t tell call = record {
    resting = call.resting;
    between = call.between;
    contents = λ contents told stands. standing_where_told contents (state_in t) (seen_in t)
        (λ tells. call.contents contents (tell contents tells told) stands);
    later = call.later;
  }

  -- behind a call that places nothing
  pub rests_behind : (First Told : Contents → Type 0) (s t u : Stripe D R C d r c)
      → ((contents : Contents) → TellsAll (seen_in u).device → Told contents → First contents) → Rests s t → RestsWith First t u
      → RestsWith Told s u
  rests_behind First Told s t u tell first last =
      rests_with_then Told AnyContents First s t u (λ contents tells told. (tt, tell contents tells told)) first last

  -- what is placed, and then committed
  pub rests_before : (First Told : Contents → Type 0) (s t u : Stripe D R C d r c)
      → ((contents : Contents) → TellsAll (seen_in u).device → Told contents → First contents) → ContinuesWith First s t → Rests t u
      → RestsWith Told s u
  rests_before First Told s t u tell first last =
      continues_with_rests Told s u
      (continues_with_then Told First AnyContents s t u (λ contents tells told. (tell contents tells told, tt)) first
      (rests_continues t u last))
      last.resting.quiet

-- ---- fragments

-- a fragment lists nothing
pub told_of_next : (contents : Contents) (s : State) (id : PieceId) (start : ℕ) (payload : List ℕ) → is_vector id ≡ false
    → IfSome (contents id None) (λ x. x ≡ record { start = start; payload = payload }) → IsToldAs contents s id start payload
told_of_next contents s id start payload kind told = record { content = rw kind told; spelled = rw kind tt }

-- of two writers of one put, with the same fragments cut, the same is told
pub told_same : (contents : Contents) (w other : Writer) (payload : List ℕ) → other.put ≡ w.put → other.key ≡ w.key
    → other.table.rows ≡ w.table.rows → IsToldNext (written_as w) payload contents → IsToldNext (written_as other) payload contents
told_same contents w other payload put key rows told =
    let id : piece_cut_next (written_as other) ≡ piece_cut_next (written_as w) =
    ap (λ k. fragment_piece k other.put (length other.table.rows + 1)) key
    ∙ (ap (λ n. fragment_piece w.key n (length other.table.rows + 1)) put
    ∙ ap (λ (rs : List TableRow). fragment_piece w.key w.put (length rs + 1)) rows) in
    subst (λ i. IfSome (contents i None) (λ x. x ≡ record { start = next_start other; payload = payload })) (sym id)
    (subst (λ (rs : List TableRow). IfSome (contents (piece_cut_next (written_as w)) None) (λ x. x ≡ record { start = total_length rs; payload = payload }))
    (sym rows) told)

-- ---- the vector of a put

-- of vectors it is told that each spells its alternates
pub own_vectors : TellsVectors contents_of_vectors
own_vectors = record { spell = λ id list vector. refl }

-- so it is of the one that is placed
pub told_vector : (s : State) (w : Writer) (v : Vectors) (payload : List ℕ) (c : IsClosing s w) (contents : Contents)
    → s.displaced ≡ [] → AreSpelled s.geometry w v → IsReadFor s w v
    → payload ≡ (vector_now s w v).bytes.items → TellsVectors contents → IsToldAs contents s (vector_piece w.key w.put) 0 payload
told_vector s w v payload c contents none spelled read is told =
    let list : List Stored = list_of_put s w.put in
    let bytes : payload ≡ vector_bytes list = is ∙ (is_current s w v c none spelled read).payload in
    record {
      content = IfSome_then (contents (vector_piece w.key w.put) (Some list)) (told.spell (vector_piece w.key w.put) list refl)
          (λ x same. same ∙ ap (λ q. let y : Content = record { start = 0; payload = q } in y) (sym bytes));
      spelled = lists_spelled s w v c none spelled read;
    }
