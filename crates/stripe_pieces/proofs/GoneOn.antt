-- The buffer that begins behind what is told of pieces.
use Rattle.std.proofs.Common.{◌≡◌, ◌∷◌, ◌++◌, [], List, max, sym, ◌∙◌, ap}
use Rattle.tape_base.specs.Place.{floor_of}
use Rattle.cyclone.specs.Cyclone.{SameButRows, Seen, next_buffer_cursor}
use Rattle.cache_model.specs.declared.record.Rec.{Rec}
use Rattle.cache_model.specs.declared.record.Rec.TheVariants as rec
use Rattle.cache_model.specs.State.{State, cursor_next, floor_next, state_after}
use Rattle.cache_model.specs.Kept.{Kept, state_of, with_records}
use Rattle.stripe_pieces.specs.Copying.{begun_behind}
use Rattle.held_pieces.specs.Held.{IsHeld}
use Rattle.piece_answers.proofs.RecordsAdded.{with_records-append}
use Rattle.held_pieces.proofs.Holding.{next_is}
use Rattle.stripe_pieces.proofs.Telling.{state_behind}

module _ (k mid : Kept) (c seen : Seen) (told : List Rec) (held : IsHeld (state_of k) c) (mid_held : IsHeld (state_of mid) seen) (rest : SameButRows c seen)
    (adds : mid ≡ with_records k told) where
  abbrev s : State
  s = state_of k

  abbrev t : State
  t = state_of mid

  -- the next one begins where it would have begun
  pub cursor_stays : cursor_next t ≡ cursor_next s
  cursor_stays = sym (next_is t seen mid_held) ∙ (ap next_buffer_cursor rest.same ∙ next_is s c held)

  geometry_stays : t.geometry ≡ s.geometry
  geometry_stays = sym mid_held.geometry ∙ (ap (λ (y : Seen). y.geometry) rest.same ∙ held.geometry)

  least_stays : t.least ≡ s.least
  least_stays = sym mid_held.least ∙ (ap (λ (y : Seen). y.least) rest.same ∙ held.least)

  floor_stays : floor_next t ≡ floor_next s
  floor_stays =
      ap (λ n. max n (floor_of t.geometry (cursor_next t))) least_stays
      ∙ (ap (λ g. max s.least (floor_of g (cursor_next t))) geometry_stays ∙ ap (λ n. max s.least (floor_of s.geometry n)) cursor_stays)

  abbrev began : Rec
  began = rec.Began (cursor_next s) (floor_next s)

  module _ (new : Kept) (begins : new ≡ with_records mid (rec.Began (cursor_next t) (floor_next t) ∷ [])) where
    begins_so : new ≡ with_records mid (began ∷ [])
    begins_so = begins ∙ (ap (λ n. with_records mid (rec.Began n (floor_next t) ∷ [])) cursor_stays ∙ ap (λ n. with_records mid (rec.Began (cursor_next s) n ∷ [])) floor_stays)

    pub begun_is : state_of new ≡ begun_behind s told
    begun_is = state_behind mid new (began ∷ []) begins_so ∙ ap (λ x. state_after x began) (state_behind k mid told adds)

    -- and this is what is added up to records behind it
    pub adds_behind : (last : Kept) (recs : List Rec) → last ≡ with_records new recs → last ≡ with_records k (told ++ began ∷ recs)
    adds_behind last recs is =
        is
        ∙ (ap (λ x. with_records x recs) begins_so
        ∙ (with_records-append mid (began ∷ []) recs
        ∙ (ap (λ x. with_records x (began ∷ recs)) adds ∙ with_records-append k told (began ∷ recs))))
