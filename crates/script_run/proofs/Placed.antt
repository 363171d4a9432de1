-- A fragment or a vector that is placed, and a put that is complete.
use Rattle.std.proofs.Common.{◌≡◌, ℕ, ◌+◌, ◌-◌, ◌*◌, ◌≤◌, List, [], ◌∷◌, ◌++◌, length, refl, sym, ◌∙◌, ap, subst, arith, inl, inr, ◌⊎◌, false, length-append}
use Rattle.std.specs.Prelude.{Option, Some, None, if◌then◌else◌, find, unwrap_or, ◌==◌}
use Rattle.std.specs.List.{AllByRecursion}
use Rattle.std.proofs.lemmas.Bool.{ne_eqb}
use Rattle.std.proofs.lemmas.List.Sums.{sum_by_push}
use Rattle.alternate_vector.proofs.Loops.{each_push}
use Rattle.tape_base.specs.declared.digests.Digest.{Digest}
use Rattle.tape_base.specs.declared.geometries.Geometry.{Geometry}
use Rattle.tape_base.specs.declared.pieces.PieceId.{PieceId}
use Rattle.tape_base.specs.Blocks.{blocks_of}
use Rattle.tape_base.specs.Digest.{digest_of}
use Rattle.tape_base.specs.Piece.{is_vector}
use Rattle.doc_header.specs.declared.documents.Doc.{Doc}
use Rattle.doc_header.specs.Document.{digest_of_document}
use Rattle.fragment_table.specs.Table.{TableRow, made_row, total_length}
use Rattle.alternate_vector.specs.Alternates.{Stored}
use Rattle.cache_model.specs.declared.record.Rec.{Rec}
use Rattle.cache_model.specs.declared.record.Rec.TheVariants as rec
use Rattle.cache_model.specs.State.{State, PutRow, Closed, Open, after_all, alternate_of, change_put, list_among, list_of_put, place_now, placed_row, put_of, state_after, vector_piece, with_cut, with_writing, without}
use Rattle.cache_model.specs.Permit.{Permit}
use Rattle.cache_model.specs.Room.{MayDisplace, doc_at, greatest_pin}
use Rattle.cache_model.specs.Legal
use Rattle.cache_model.specs.Legal.{IsQuiet, next_fragment_of}
use Rattle.cache_model.proofs.Steps.{after_all-append, all_append, all_as}
use Rattle.cache_model.proofs.Found.{none_is, number_of, same_some}
use Rattle.cache_model.proofs.Rows.{part-filter, each_part}
use Rattle.cache_model.proofs.Sound.{leaves_one}
use Rattle.cache_model.proofs.Merged.{list_found}
use Rattle.script_run.specs.Run.{Stream}
use Rattle.script_run.specs.Own.{AreAlternates, AreListedOf, IsListedOf, IsOwnPut, piece_of, rows_of_parts}
use Rattle.script_run.proofs.Saying.{alternates_of_rows, IsRow, Kind, Stands, stands_alike, rows_carried}
use Rattle.script_run.proofs.Cuts.{cuts_more}
use Rattle.script_run.proofs.Carried.{Carries, alternate_carried, put_stays, puts_stay, readers_carried, same_carries}
use Rattle.script_run.proofs.Changed.{Changes, Was, changed, changed_from, changed_to, either, found_as, itself}
use Rattle.script_run.proofs.Held.{IsHeld, change_stands, quiet_whole}
use Rattle.script_run.proofs.Listed.{AreDisplaced, all_merged, displaced_listed, listed_among}

-- what an insert displaces
displaced_by : (p : Permit) (s t : State) (piece : PieceId) (added : List Rec) → MayDisplace p s piece added → AllByRecursion (AreAlternates t) t.rows → t.displaced ≡ [] → AreDisplaced t (after_all t added)
displaced_by p s t piece added m each none =
    subst (λ xs. AreDisplaced t (after_all t xs)) (sym m.is) (displaced_listed t _ _ m.purged each (subst (AllByRecursion (AreAlternates t)) (sym none) tt))

-- a row is placed that belongs to what its writer took
stands_placed : (kind : Kind) (t : State) (streams : ℕ → Stream) (piece : PieceId) (place blocks : ℕ) (digest : Digest) (pin : ℕ)
    → (let u : State = state_after t (rec.Placed piece place blocks digest pin) in Carries t u → IsRow kind u streams (placed_row t piece place blocks digest pin) → Stands kind t streams → Stands kind u streams)
stands_placed kind t streams piece place blocks digest pin c row own =
    let u : State = state_after t (rec.Placed piece place blocks digest pin) in
    let before : AllByRecursion (IsRow kind t streams) (without piece t.rows) = each_part (IsRow kind t streams) (part-filter _ t.rows) own.rows in
    record {
      puts = puts_stay t u streams refl refl refl own.puts;
      rows = each_push (IsRow kind u streams) (without piece t.rows) (placed_row t piece place blocks digest pin) (rows_carried kind t u c streams (without piece t.rows) before) row;
      readers = readers_carried t u c (omega arith) t.readers own.readers;
    }

-- ---- a fragment

-- the bytes are those of this fragment of what the writer took, and where it is not sealed as many as a
-- fragment has
pub record IsPiece (fragment : ℕ) (streams : ℕ → Stream) (put index : ℕ) (payload : List ℕ) : Type 0 where
  pub is : payload ≡ piece_of fragment (streams put).bytes index
  pub full : (streams put).sealed ≡ false → length payload ≡ fragment

-- the bytes are those of the fragment that the put cuts next
piece_next : (s : State) (streams : ℕ → Stream) (put index : ℕ) (payload : List ℕ) (w : PutRow) → Legal.IsNext s put index payload w → IsPiece s.geometry.fragment streams put index payload
    → payload ≡ piece_of s.geometry.fragment (streams w.put).bytes (length w.cuts + 1)
piece_next s streams put index payload w n piece =
    let number : w.put ≡ put = number_of s put w n.writing.found in
    piece.is ∙ (ap (λ m. piece_of s.geometry.fragment (streams m).bytes index) (sym number) ∙ ap (piece_of s.geometry.fragment (streams w.put).bytes) n.next)

pub start_next : (n fragment : ℕ) → n * fragment ≡ (n + 1 - 1) * fragment
start_next n fragment = let e : n ≡ n + 1 - 1 = omega arith in ap (λ k. k * fragment) e

full_more : (n fragment total size : ℕ) → total ≡ n * fragment → size ≡ fragment → total + size ≡ (n + 1) * fragment
full_more n fragment total size full is = omega arith

cut_stands : (kind : Kind) (s : State) (streams : ℕ → Stream) (put index : ℕ) (payload : List ℕ) (w : PutRow) → Legal.IsNext s put index payload w → IsPiece s.geometry.fragment streams put index payload → Stands kind s streams
    → Stands kind (state_after s (rec.Cut put index (length payload) (digest_of payload))) streams
cut_stands kind s streams put index payload w n piece own =
    let t : State = state_after s (rec.Cut put index (length payload) (digest_of payload)) in
    let row : TableRow = made_row (length payload) (digest_of payload).0 in
    let p : IsOwnPut s streams w = own.puts put w n.writing.found in
    let number : w.put ≡ put = number_of s put w n.writing.found in
    let is : payload ≡ piece_of s.geometry.fragment (streams w.put).bytes (length w.cuts + 1) = piece_next s streams put index payload w n piece in
    let new : IsOwnPut t streams (with_cut row w) = record {
      begun = p.begun;
      cuts = cuts_more s.geometry.fragment (streams w.put).bytes w.cuts payload p.cuts n.full is n.some n.of_bytes;
      whole = λ closed. absurd (let is_open : w.writing ≡ Open = n.writing.is_open in cc);
      full = λ is_open unsealed.
          let size : length payload ≡ s.geometry.fragment = piece.full (ap (λ m. (streams m).sealed) (sym number) ∙ unsealed) in
          sum_by_push {X = TableRow} (λ (row : TableRow). row.length) w.cuts row
          ∙ (full_more (length w.cuts) s.geometry.fragment (total_length w.cuts) (length payload) n.full size
          ∙ ap (λ k. k * s.geometry.fragment) (sym (length-append w.cuts (row ∷ []))));
    } in
    change_stands s t put (with_cut row) w
    (record { number = λ p. refl; more = λ p. omega (arith, length-append p.cuts (row ∷ [])); writing = n.writing })
    (record { puts = refl; keeps = λ p. refl }) kind streams refl refl refl refl refl new own

-- the cut stands in every later state
cut_found : (s : State) (put : ℕ) (row : TableRow) (w : PutRow) → put_of s put ≡ Some w
    → find (λ (q : PutRow). q.put == put) (change_put put (with_cut row) s.puts) ≡ Some (with_cut row w)
cut_found s put row w found =
    let t : State = record s { puts = change_put put (with_cut row) s.puts } in
    let c : Changes s t put (with_cut row) = record { puts = refl; keeps = λ p. refl } in
    changed_to s t put (with_cut row) put w c found
    ∙ ap Some (itself put (with_cut row) w (number_of s put w found))

no_vector : (w : PutRow) → is_vector (next_fragment_of w) ≡ false
no_vector w = ne_eqb (length w.cuts + 1) 0 (λ e. omega (arith, e))

fragment_row : (kind : Kind) (g : Geometry) (streams : ℕ → Stream) (u : State) (put place blocks pin : ℕ) (payload : List ℕ) (w x : PutRow) (doc : Doc) (t : State) → u.geometry ≡ g → put_of u w.put ≡ Some x
    → length x.cuts ≡ length w.cuts + 1 → t.last_cut ≡ Some (made_row (length payload) (digest_of payload).0) → payload ≡ piece_of g.fragment (streams w.put).bytes (length w.cuts + 1)
    → doc ≡ record { id = next_fragment_of w; place = place; generation = g.generation; pin = pin; start = (length w.cuts + 1 - 1) * g.fragment }
    → IsRow kind u streams (placed_row t (next_fragment_of w) place blocks (digest_of_document doc payload) pin)
fragment_row kind g streams u put place blocks pin payload w x doc t geometry found count last is same = (
  kind.own u streams (placed_row t (next_fragment_of w) place blocks (digest_of_document doc payload) pin) (λ some. record {
    w = x;
    found = found;
    cut = omega (arith, count);
    payload = rw geometry (ap (λ b. if b then None else t.last_cut) (no_vector w) ∙ (last ∙ ap (λ (piece : List ℕ). Some (made_row (length piece) (digest_of piece).0)) is));
    digest = rw geometry (ap (λ (d : Doc). digest_of_document d payload) same ∙ ap (digest_of_document _) is);
  }),
  subst (AreListedOf u w.key) (sym (ap (λ b. if b then Some (list_of_put t w.put) else None) (no_vector w))) tt,
)

pub held_fragment : (kind : Kind) (g : Geometry) (streams : ℕ → Stream) (p : Permit) (s : State) (put index : ℕ) (payload : List ℕ) (added : List Rec) → IsPiece g.fragment streams put index payload
    → Legal.MayPlaceFragment p s put index payload added → IsHeld kind g streams s → IsHeld kind g streams (after_all s added)
held_fragment kind g streams p s put index payload added piece m h =
    let w : PutRow = m.w in
    let number : w.put ≡ put = number_of s put w m.cut.writing.found in
    let here : IsPiece s.geometry.fragment streams put index payload = subst (λ (x : Geometry). IsPiece x.fragment streams put index payload) (sym h.geometry) piece in
    let cut : Rec = rec.Cut put index (length payload) (digest_of payload) in
    let entry : TableRow = made_row (length payload) (digest_of payload).0 in
    let t : State = state_after s cut in
    let mid : State = after_all t m.displaced in
    let id : PieceId = next_fragment_of w in
    let doc : Doc = doc_at s id w.pin (total_length w.cuts) in
    let placed : Rec = rec.Placed id (place_now s) (blocks_of (length payload)) (digest_of_document doc payload) w.pin in
    let u : State = state_after mid placed in
    let own : Stands kind t streams = cut_stands kind s streams put index payload w m.cut here h.stands in
    let d : AreDisplaced t mid = displaced_by p s t id m.displaced m.displaces (alternates_of_rows kind t streams t.rows own.rows) h.displaced in
    let pending : u.pending ≡ mid.pending = ap (λ b. if b then Some id else mid.pending) (no_vector w) in
    let found : put_of u w.put ≡ Some (with_cut entry w) =
    ap (find (λ (q : PutRow). q.put == w.put)) d.alike.puts ∙ subst (λ n. put_of t n ≡ Some (with_cut entry w)) (sym number) (cut_found s put entry w m.cut.writing.found) in
    let row : IsRow kind u streams (placed_row mid id (place_now s) (blocks_of (length payload)) (digest_of_document doc payload) w.pin) =
    fragment_row kind s.geometry streams u put (place_now s) (blocks_of (length payload)) w.pin payload w (with_cut entry w) doc mid d.alike.geometry found
    (length-append w.cuts (entry ∷ [])) d.last_cut (piece_next s streams put index payload w m.cut here)
    (ap (λ start. record { id = id; place = place_now s; generation = s.geometry.generation; pin = w.pin; start = start }) (m.cut.full ∙ start_next (length w.cuts) s.geometry.fragment)) in
    let all : Stands kind u streams =
    stands_placed kind mid streams id (place_now s) (blocks_of (length payload)) (digest_of_document doc payload) w.pin (same_carries mid u refl refl pending) row (stands_alike kind t mid streams d.alike own) in
    subst (λ xs. IsHeld kind g streams (after_all s xs)) (sym m.is)
    (subst (IsHeld kind g streams) (sym (after_all-append t m.displaced (placed ∷ []))) (record {
      geometry = d.alike.geometry ∙ h.geometry;
      stands = all;
      displaced = refl;
      pending = quiet_whole u streams (pending ∙ (d.alike.pending ∙ m.cut.writing.quiet));
    }))

-- ---- a vector

-- all that the writer took is cut
pub whole_cut : (kind : Kind) (s : State) (streams : ℕ → Stream) (put fragments : ℕ) (w : PutRow) → Stands kind s streams → put_of s put ≡ Some w → length w.cuts ≡ fragments
    → total_length (rows_of_parts s.geometry.fragment (streams put).bytes 1 fragments) ≡ length (streams put).bytes → total_length w.cuts ≡ length (streams w.put).bytes
whole_cut kind s streams put fragments w own found count whole =
    let p : IsOwnPut s streams w = own.puts put w found in
    let number : w.put ≡ put = number_of s put w found in
    ap total_length p.cuts.rows
    ∙ (ap (λ n. total_length (rows_of_parts s.geometry.fragment (streams w.put).bytes 1 n)) count
    ∙ subst (λ n. total_length (rows_of_parts s.geometry.fragment (streams n).bytes 1 fragments) ≡ length (streams n).bytes)
    (sym number) whole)

-- where no vector was pending, complete puts stay as a piece is placed
quiet_carries : (t : State) (piece : PieceId) (place blocks : ℕ) (digest : Digest) (pin : ℕ) → IsQuiet t → Carries t (state_after t (rec.Placed piece place blocks digest pin))
quiet_carries t piece place blocks digest pin quiet = record {
  geometry = refl;
  whole = λ put w found complete. record {
    now = w;
    found = found;
    key = refl;
    stands_for = refl;
    complete = elim complete [ inl closed ↦ inl closed | inr waits ↦ none_is (sym quiet ∙ waits) ];
  };
  puts = λ put w found. record { now = w; found = found; more = omega arith };
}

pub held_vector : (kind : Kind) (g : Geometry) (streams : ℕ → Stream) (p : Permit) (s : State) (put fragments : ℕ) (added : List Rec)
    → total_length (rows_of_parts g.fragment (streams put).bytes 1 fragments) ≡ length (streams put).bytes
    → Legal.MayPlaceVector p s put fragments added → IsHeld kind g streams s → IsHeld kind g streams (after_all s added)
held_vector kind g streams p s put fragments added whole m h =
    let w : PutRow = m.w in
    let number : w.put ≡ put = number_of s put w m.cut.writing.found in
    let t : State = after_all s m.displaced in
    let id : PieceId = vector_piece w.key put in
    let digest : Digest = digest_of_document (doc_at s id (greatest_pin (list_of_put s put)) 0) (Legal.vector_payload s put) in
    let pin : ℕ = greatest_pin (list_of_put s put) in
    let blocks : ℕ = blocks_of (Legal.vector_length s put) in
    let placed : Rec = rec.Placed id (place_now s) blocks digest pin in
    let u : State = state_after t placed in
    let d : AreDisplaced s t = displaced_by p s s id m.displaced m.displaces (alternates_of_rows kind s streams s.rows h.stands.rows) h.displaced in
    let own : Stands kind t streams = stands_alike kind s t streams d.alike h.stands in
    let quiet : IsQuiet t = d.alike.pending ∙ m.cut.writing.quiet in
    let c : Carries t u = quiet_carries t id (place_now s) blocks digest pin quiet in
    let found : put_of t put ≡ Some w = ap (find (λ (q : PutRow). q.put == put)) d.alike.puts ∙ m.cut.writing.found in
    let own_new : IsListedOf u w.key (alternate_of w) = record {
      w = w;
      found = subst (λ n. put_of t n ≡ Some w) (sym number) found;
      key_is = refl;
      stands_for = refl;
      complete = inr (ap (λ n. Some (vector_piece w.key n)) (sym number));
    } in
    let rows : AllByRecursion (AreAlternates t) (t.displaced ++ t.rows) = all_append (AreAlternates t) t.displaced t.rows d.listed (alternates_of_rows kind t streams t.rows own.rows) in
    let before : AllByRecursion (IsListedOf u w.key) (list_among t (t.displaced ++ t.rows) w.key) =
    all_as (IsListedOf t w.key) (IsListedOf u w.key) (alternate_carried t u c w.key) (list_among t (t.displaced ++ t.rows) w.key) (listed_among t (t.displaced ++ t.rows) w.key rows) in
    let listed : AllByRecursion (IsListedOf u w.key) (list_of_put t put) =
    subst (AllByRecursion (IsListedOf u w.key)) (sym (list_found t put w found)) (all_merged (IsListedOf u w.key) _ _ (list_among t (t.displaced ++ t.rows) w.key) (alternate_of w) before own_new) in
    let row : IsRow kind u streams (placed_row t id (place_now s) blocks digest pin) =
    (kind.own u streams (placed_row t id (place_now s) blocks digest pin) (λ some. absurd (omega (arith, some))), listed) in
    let cut : total_length w.cuts ≡ length (streams w.put).bytes =
    whole_cut kind s streams put fragments w h.stands m.cut.writing.found m.cut.count
    (subst (λ (x : Geometry). total_length (rows_of_parts x.fragment (streams put).bytes 1 fragments) ≡ length (streams put).bytes) (sym h.geometry) whole) in
    subst (λ xs. IsHeld kind g streams (after_all s xs)) (sym m.is)
    (subst (IsHeld kind g streams) (sym (after_all-append s m.displaced (placed ∷ []))) (record {
      geometry = d.alike.geometry ∙ h.geometry;
      stands = stands_placed kind t streams id (place_now s) blocks digest pin c row own;
      displaced = refl;
      pending = λ n x found_x waits.
          let same : put ≡ n = ap (λ (o : Option PieceId). (unwrap_or o id).put) waits in
          let is : w ≡ x = same_some w x (put_of t put) found (subst (λ k. put_of t k ≡ Some x) (sym same) found_x) in
          subst (λ (y : PutRow). total_length y.cuts ≡ length (streams y.put).bytes) is cut;
    }))

-- ---- a put that is complete

module _ (s t : State) (put : ℕ) (w : PutRow) (found : put_of s put ≡ Some w) (waits : s.pending ≡ Some (vector_piece w.key put)) (c : Changes s t put (with_writing Closed)) where
  closes : (n : ℕ) (x : PutRow) → put_of s n ≡ Some x → (x.writing ≡ Closed) ⊎ (s.pending ≡ Some (vector_piece x.key n)) → (changed put (with_writing Closed) x).writing ≡ Closed
  closes n x found_x (inl closed) = either (λ (y : PutRow). y.writing ≡ Closed) put (with_writing Closed) x (λ e. refl) closed
  closes n x found_x (inr last) =
      let same : put ≡ n = ap (λ (o : Option PieceId). (unwrap_or o (vector_piece w.key put)).put) (sym waits ∙ last) in
      ap (λ (y : PutRow). y.writing) (itself put (with_writing Closed) x (number_of s n x found_x ∙ sym same))

  committed_carries : t.geometry ≡ s.geometry → Carries s t
  committed_carries geometry = record {
    geometry = geometry;
    whole = λ n x found_x complete. record {
      now = changed put (with_writing Closed) x;
      found = changed_to s t put (with_writing Closed) n x c found_x;
      key = either (λ (y : PutRow). y.key ≡ x.key) put (with_writing Closed) x (λ e. refl) refl;
      stands_for = either (λ (y : PutRow). alternate_of y ≡ alternate_of x) put (with_writing Closed) x (λ e. refl) refl;
      complete = inl (closes n x found_x complete);
    };
    puts = λ n x found_x. record {
      now = changed put (with_writing Closed) x;
      found = changed_to s t put (with_writing Closed) n x c found_x;
      more = either (λ (y : PutRow). length x.cuts ≤ length y.cuts) put (with_writing Closed) x (λ e. omega arith) (omega arith);
    };
  }

committed_put : (kind : Kind) (g : Geometry) (streams : ℕ → Stream) (s t : State) (put : ℕ) (w : PutRow) → put_of s put ≡ Some w → s.pending ≡ Some (vector_piece w.key put) → t.geometry ≡ s.geometry → t.next_put ≡ s.next_put
    → IsHeld kind g streams s → IsOwnPut t streams (with_writing Closed w)
committed_put kind g streams s t put w found waits geometry next h =
    let p : IsOwnPut t streams w = put_stays s t streams w geometry (omega (arith, next)) (h.stands.puts put w found) in
    record {
      begun = p.begun;
      cuts = p.cuts;
      whole = λ closed. h.pending put w found waits;
      full = λ is_open unsealed. absurd cc;
    }

pub held_committed : (kind : Kind) (g : Geometry) (streams : ℕ → Stream) (s : State) (put size : ℕ) (listed : List Stored) (w : PutRow) → put_of s put ≡ Some w → s.pending ≡ Some (vector_piece w.key put)
    → IsHeld kind g streams s → IsHeld kind g streams (state_after s (rec.Committed put w.key size listed))
held_committed kind g streams s put size listed w found waits h =
    let r : Rec = rec.Committed put w.key size listed in
    let t : State = state_after s r in
    let changes : Changes s t put (with_writing Closed) = record { puts = refl; keeps = λ p. refl } in
    let c : Carries s t = committed_carries s t put w found waits changes refl in
    let new : IsOwnPut t streams (with_writing Closed w) = committed_put kind g streams s t put w found waits refl refl h in
    let left : AllByRecursion (IsRow kind s streams) t.rows = each_part (IsRow kind s streams) (leaves_one s r tt).rows h.stands.rows in
    record {
      geometry = h.geometry;
      stands = record {
        puts = λ n x found_x.
            let was : Was (put_of s n) (changed put (with_writing Closed)) x = changed_from s t put (with_writing Closed) n x changes found_x in
            subst (IsOwnPut t streams) (sym was.is)
            (either (IsOwnPut t streams) put (with_writing Closed) was.old
            (λ here. subst (λ (p : PutRow). IsOwnPut t streams (with_writing Closed p)) (same_some w was.old (put_of s put) found (found_as s n put was.old was.found here)) new)
            (put_stays s t streams was.old refl (omega arith) (h.stands.puts n was.old was.found)));
        rows = rows_carried kind s t c streams t.rows left;
        readers = readers_carried s t c (omega arith) s.readers h.stands.readers;
      };
      displaced = h.displaced;
      pending = quiet_whole t streams refl;
    }
