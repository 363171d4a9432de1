-- The records of what an entry displaced, pushed one behind the other.
use Rattle.std.proofs.Common.{◌≡◌, ℕ, ◌+◌, ◌≤◌, List, [], ◌∷◌, ◌++◌, Option, Some, None, sym, ◌∙◌, ap, arith, drop}
use Rattle.std.specs.Prelude.{◌==◌, slice_get}
use Rattle.std.specs.Map.{lookup}
use Rattle.std.proofs.lemmas.List.{drop_more}
use Rattle.std.proofs.lemmas.Option.{get_or_from_slice_get, slice_get_within}
use Rattle.tape_base.specs.declared.pieces.PieceId.{PieceId}
use Rattle.dir_table.specs.Displacement.{Displacement}
use Rattle.cache_model.specs.declared.record.Rec.{Rec}
use Rattle.cache_model.specs.declared.record.Rec.TheVariants as rec
use Rattle.cache_model.specs.State.{State}
use Rattle.cache_model.specs.Kept.{Kept, state_of, with_record, with_records}
use Rattle.held_pieces.specs.Displaced.{displaced_from, displaced_of, displaced_piece, last_at}
use Rattle.piece_answers.proofs.RecordsAdded.{with_records-append}
use Rattle.stripe_pieces.proofs.Telling.{state_behind}

-- so many places are behind: what was pushed of them. What was placed last at each place is as it was
pub record HasPushed (old new : Kept) (d : Displacement) (room left i : ℕ) : Type 0 where
  pub adds : with_records new (displaced_from (last_at (state_of old)) d (drop i d.places)) ≡ with_records old (displaced_of (state_of old) d)
  pub same : (state_of new).places ≡ (state_of old).places
  pub spends : room ≤ left + i

module _ (old now : Kept) (d : Displacement) (room left i place : ℕ) (o : Option PieceId) (h : HasPushed old now d room left i) (at : slice_get d.places i ≡ Some place)
    (found : o ≡ last_at (state_of now) place) where
  abbrev last : ℕ → Option PieceId
  last = last_at (state_of old)

  -- what is to be pushed of the next place, and of those behind it
  next_is : displaced_from last d (drop i d.places) ≡ displaced_piece d o ++ displaced_from last d (drop (i + 1) d.places)
  next_is =
      let there : drop i d.places ≡ place ∷ drop (i + 1) d.places =
      drop_more d.places i 0 (slice_get_within d.places i place at) ∙ ap (λ n. n ∷ drop (i + 1) d.places) (get_or_from_slice_get d.places i place 0 at) in
      let its : last place ≡ o = ap (lookup (λ p. p == place)) (sym h.same) ∙ sym found in
      ap (displaced_from last d) there ∙ ap (λ x. displaced_piece d x ++ displaced_from last d (drop (i + 1) d.places)) its

  -- no piece was placed there
  pub none_pushed : o ≡ None → HasPushed old now d room left (i + 1)
  none_pushed none = record {
    adds = ap (with_records now) (sym (next_is ∙ ap (λ x. displaced_piece d x ++ displaced_from last d (drop (i + 1) d.places)) none)) ∙ h.adds;
    same = h.same;
    spends = omega (arith, h.spends);
  }

  -- the piece that was placed there last is told of
  pub one_pushed : (new : Kept) (id : PieceId) (segment live rest : ℕ) → o ≡ Some id → segment ≡ d.segment → live ≡ d.live
      → new ≡ with_record now (rec.Displaced id segment live) → left ≤ rest + 1 → HasPushed old new d room rest (i + 1)
  one_pushed new id segment live rest some of count pushed room_left =
      let r : Rec = rec.Displaced id d.segment d.live in
      let behind : List Rec = displaced_from last d (drop (i + 1) d.places) in
      let is : new ≡ with_record now r = pushed ∙ (ap (λ n. with_record now (rec.Displaced id n live)) of ∙ ap (λ n. with_record now (rec.Displaced id d.segment n)) count) in
      record {
        adds = ap (λ k. with_records k behind) is
            ∙ (with_records-append now (r ∷ []) behind
            ∙ (ap (with_records now) (sym (next_is ∙ ap (λ x. displaced_piece d x ++ behind) some)) ∙ h.adds));
        same = ap (λ (s : State). s.places) (state_behind now new (r ∷ []) is) ∙ h.same;
        spends = omega (arith, h.spends, room_left);
      }
