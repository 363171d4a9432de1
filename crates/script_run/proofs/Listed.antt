-- What a key's vector lists, and what a new one is to list, are alternates of complete puts of the key.
use Rattle.std.proofs.Common.{◌≡◌, ℕ, List, [], ◌∷◌, refl, sym, ◌∙◌, ap, subst, inl, inr, Bool, true, false}
use Rattle.std.specs.Prelude.{Option, Some, None, if◌then◌else◌, not, map, option_map, option_to_list, unwrap_or}
use Rattle.std.specs.List.{AllByRecursion, filter}
use Rattle.std.proofs.lemmas.Bool.{cond_both}
use Rattle.tape_base.specs.declared.keys.Key.{Key}
use Rattle.tape_base.specs.declared.pieces.PieceId.{PieceId}
use Rattle.alternate_vector.specs.Alternates.{Stored, is_match, is_within, longest_within, merged, with_new}
use Rattle.alternate_vector.proofs.Loops.{each_push}
use Rattle.cache_model.specs.State.{State, Row, LastVector, Complete, TakenOut, after_all, is_live, last_vector, list_among, list_of_last, list_of_row, row_in, state_after, vector_piece}
use Rattle.cache_model.specs.Permit.{IsAmong}
use Rattle.cache_model.specs.Room.{displaced_record}
use Rattle.cache_model.proofs.Lists.{found_row, own_piece}
use Rattle.cache_model.proofs.Rows.{part_all, part-filter, part-trans, each_part}
use Rattle.cache_model.proofs.Steps.{all_append, all_as}
use Rattle.script_run.specs.Own.{AreAlternates, AreListedOf, IsListedOf, IsTableOf}
use Rattle.script_run.proofs.Carried.{AreAlike, alike_carries, all_filter, listed_carried}

-- ---- what a key's vector lists

-- it has the table of its put
pub listed_table : (s : State) (key : Key) (a : Stored) → IsListedOf s key a → IsTableOf s a.put a.table
listed_table s key a h = record { w = h.w; found = h.found; cuts = ap (λ (x : Stored). x.table) h.stands_for; complete = h.complete }

listed_by : (s : State) (key : Key) (o : Option (List Stored)) (b : Bool) → AreListedOf s key o → AllByRecursion (IsListedOf s key) (if b then unwrap_or o [] else [])
listed_by s key None true listed = tt
listed_by s key (Some list) true listed = listed
listed_by s key o false listed = tt

listed_found : (s : State) (rows : List Row) (id : PieceId) (o : Option Row) → row_in rows id ≡ o → AllByRecursion (AreAlternates s) rows
    → AllByRecursion (IsListedOf s id.first) (unwrap_or (option_map (list_of_row s) o) [])
listed_found s rows id None e each = tt
listed_found s rows id (Some row) e each =
    let key : row.id.first ≡ id.first = ap (λ (i : PieceId). i.first) (own_piece id rows row e) in
    listed_by s id.first row.alternates (is_live s row) (subst (λ k. AreListedOf s k row.alternates) key (found_row (AreAlternates s) id rows row each e))

listed_last : (s : State) (rows : List Row) (key : Key) (last : Option LastVector) → AllByRecursion (AreAlternates s) rows → AllByRecursion (IsListedOf s key) (unwrap_or (option_map (list_of_last s rows key) last) [])
listed_last s rows key (Some (Complete put)) each = listed_found s rows (vector_piece key put) (row_in rows (vector_piece key put)) refl each
listed_last s rows key (Some (TakenOut put)) each = tt
listed_last s rows key None each = tt

pub listed_among : (s : State) (rows : List Row) (key : Key) → AllByRecursion (AreAlternates s) rows → AllByRecursion (IsListedOf s key) (list_among s rows key)
listed_among s rows key each = listed_last s rows key (last_vector s key) each

pub is_among : {X : Type 0} (P : X → Type 0) (x : X) (xs : List X) → AllByRecursion P xs → IsAmong x xs → P x
is_among P x [] each among = absurd among
is_among P x (y ∷ ys) each (inl same) = subst P (sym same) each.0
is_among P x (y ∷ ys) each (inr among) = is_among P x ys each.1 among

-- ---- what a new one is to list

module _ (P : Stored → Type 0) where
  longest : (most bytes : ℕ) (alternates : List Stored) → AllByRecursion P alternates → AllByRecursion P (longest_within most bytes alternates)
  longest most bytes [] each = tt
  longest most bytes (a ∷ alternates) each =
      cond_both (is_within most bytes (a ∷ alternates)) (a ∷ alternates) (longest_within most bytes alternates) (AllByRecursion P) (λ e. each) (λ e. longest most bytes alternates each.1)

  pub all_merged : (most bytes : ℕ) (before : List Stored) (new : Stored) → AllByRecursion P before → P new → AllByRecursion P (merged most bytes before new)
  all_merged most bytes before new each p =
      let kept : List Stored = filter (λ a. not (is_match new.request a)) before in
      longest most bytes (with_new before new) (each_push P kept new (all_filter P (λ a. not (is_match new.request a)) before each) p)

-- ---- pieces that are displaced for it

pub record AreDisplaced (s t : State) : Type 0 where
  pub alike : AreAlike s t
  pub last_cut : t.last_cut ≡ s.last_cut
  pub listed : AllByRecursion (AreAlternates t) t.displaced

taken_out : (s : State) (id : PieceId) (rows : List Row) (o : Option Row) → row_in rows id ≡ o → AllByRecursion (AreAlternates s) rows → AllByRecursion (AreAlternates s) (option_to_list o)
taken_out s id rows None e each = tt
taken_out s id rows (Some row) e each = (found_row (AreAlternates s) id rows row each e, tt)

alternates_alike : (s t : State) → AreAlike s t → (rows : List Row) → AllByRecursion (AreAlternates s) rows → AllByRecursion (AreAlternates t) rows
alternates_alike s t a rows each = all_as (AreAlternates s) (AreAlternates t) (λ row listed. listed_carried s t (alike_carries s t a) row.id.first row.alternates listed) rows each

alike_trans : (s t u : State) → AreAlike s t → AreAlike t u → AreAlike s u
alike_trans s t u a b = record {
  geometry = b.geometry ∙ a.geometry;
  next_put = b.next_put ∙ a.next_put;
  puts = b.puts ∙ a.puts;
  pending = b.pending ∙ a.pending;
  rows = part-trans b.rows a.rows;
  readers = b.readers ∙ a.readers;
  next_reader = b.next_reader ∙ a.next_reader;
}

pub displaced_listed : (s : State) (segment live : ℕ) (rows : List Row) → AllByRecursion (AreAlternates s) s.rows → AllByRecursion (AreAlternates s) s.displaced
    → AreDisplaced s (after_all s (map (displaced_record segment live) rows))
displaced_listed s segment live [] each gone = record {
  alike = record { geometry = refl; next_put = refl; puts = refl; pending = refl; rows = part_all s.rows; readers = refl; next_reader = refl };
  last_cut = refl;
  listed = gone;
}
displaced_listed s segment live (row ∷ rows) each gone =
    let t : State = state_after s (displaced_record segment live row) in
    let a : AreAlike s t = record { geometry = refl; next_put = refl; puts = refl; pending = refl; rows = part-filter _ s.rows; readers = refl; next_reader = refl } in
    let left : AllByRecursion (AreAlternates t) t.rows = alternates_alike s t a t.rows (each_part (AreAlternates s) a.rows each) in
    let moved : AllByRecursion (AreAlternates s) t.displaced = all_append (AreAlternates s) s.displaced _ gone (taken_out s row.id s.rows (row_in s.rows row.id) refl each) in
    let rest : AreDisplaced t (after_all t (map (displaced_record segment live) rows)) = displaced_listed t segment live rows left (alternates_alike s t a t.displaced moved) in
    record { alike = alike_trans s t (after_all t (map (displaced_record segment live) rows)) a rest.alike; last_cut = rest.last_cut; listed = rest.listed }
