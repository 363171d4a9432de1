-- What records of displacements tell, and what they leave.
use Rattle.std.proofs.Common.{◌≡◌, ℕ, List, [], ◌∷◌, refl, sym, ◌∙◌, ap, subst, Bool, false, true}
use Rattle.std.specs.Prelude.{◌++◌, map, ◌&&◌, Option, Some, None, if◌then◌else◌, option_map, unwrap_or}
use Rattle.tape_base.specs.declared.keys.Key.{Key}
use Rattle.tape_base.specs.declared.pieces.PieceId.{PieceId}
use Rattle.tape_base.specs.Piece.{is_vector}
use Rattle.alternate_vector.specs.Alternates.{merged}
use Rattle.cache_model.specs.declared.record.Rec.{Rec}
use Rattle.cache_model.specs.declared.record.Rec.TheVariants as rec
use Rattle.cache_model.specs.State.{Complete, LastVector, PutRow, Row, State, TakenOut, after_all, alternate_of, last_vector}
use Rattle.cache_model.specs.State.{list_of_last, list_of_put, list_of_row, listed, merged_list, most_payload, put_of, state_after, vector_piece}
use Rattle.cache_model.specs.Permit.{Permit}
use Rattle.cache_model.specs.Room.{MayDisplace, displaced_record, is_full_for}
use Rattle.cache_model.specs.Given.{effects_told}
use Rattle.cache_model.specs.Damage.{TellNoDamage}
use Rattle.cache_model.proofs.Lists.{row_in-moved}
use Rattle.cache_model.specs.Displacing.{AreOfDisplacement, IsOfDisplacement, PushesOut}
use Rattle.piece_answers.proofs.SamePuts.{SamePuts}

-- a step of a directory that displaces, or that does not
abbrev step_of : Bool → Permit
step_of packed = record { packed = packed; syncs = false; now = 0; past = []; events = [] }

mapped : (segment live : ℕ) (rows : List Row) → AreOfDisplacement (map (displaced_record segment live) rows)
mapped segment live [] = tt
mapped segment live (row ∷ rows) = (tt, mapped segment live rows)

-- all that is pushed out is told as displaced
pub pushed_kinds : (packed : Bool) (s : State) (id : PieceId) (displaced : List Rec) → PushesOut packed s id displaced → AreOfDisplacement displaced
pushed_kinds packed s id displaced pushed =
    let m : MayDisplace (step_of packed) s id displaced = pushed (step_of packed) refl in
    subst AreOfDisplacement (sym m.is) (mapped _ _ m.purged)

-- a directory that displaces nothing pushes nothing out
pub pushes_nothing : (s : State) (id : PieceId) → PushesOut false s id []
pushes_nothing s id = λ p plain. record {
  purged = [];
  full = λ h. let f : false ≡ true = ap (λ b. b && is_full_for s id) (sym plain) ∙ h in cc;
  free = λ h. refl;
  is = refl;
}

-- such records tell no damage, and no call of the device
pub displaced_unharmed : (recs : List Rec) → AreOfDisplacement recs → TellNoDamage recs
displaced_unharmed [] all = tt
displaced_unharmed (rec.Displaced piece segment live ∷ recs) all = (refl, displaced_unharmed recs all.1)
displaced_unharmed (_ ∷ recs) all = absurd all.0

pub displaced_quiet : (recs : List Rec) → AreOfDisplacement recs → effects_told recs ≡ []
displaced_quiet [] all = refl
displaced_quiet (rec.Displaced piece segment live ∷ recs) all = displaced_quiet recs all.1
displaced_quiet (_ ∷ recs) all = absurd all.0

one_same : (s : State) (r : Rec) → IsOfDisplacement r → SamePuts s (state_after s r)
one_same s (rec.Displaced piece segment live) h = record { geometry = refl; pending = refl; puts = refl; next_put = refl }
one_same s _ h = absurd h

-- they leave the puts
pub displaced_puts : (s : State) (recs : List Rec) → AreOfDisplacement recs → SamePuts s (after_all s recs)
displaced_puts s [] all = record { geometry = refl; pending = refl; puts = refl; next_put = refl }
displaced_puts s (r ∷ recs) all =
    let first : SamePuts s (state_after s r) = one_same s r all.0 in
    let rest : SamePuts (state_after s r) (after_all (state_after s r) recs) = displaced_puts (state_after s r) recs all.1 in
    record { geometry = rest.geometry ∙ first.geometry; pending = rest.pending ∙ first.pending; puts = rest.puts ∙ first.puts; next_put = rest.next_put ∙ first.next_put }

-- ---- what a put is to list: what is displaced for it counts as still there

last_moved : (s : State) (piece : PieceId) (segment live : ℕ) (key : Key) (last : Option LastVector)
    → (let t : State = state_after s (rec.Displaced piece segment live) in
    unwrap_or (option_map (list_of_last t (t.displaced ++ t.rows) key) last) [])
    ≡ unwrap_or (option_map (list_of_last s (s.displaced ++ s.rows) key) last) []
last_moved s piece segment live key (Some (Complete put)) =
    ap (λ (o : Option Row). unwrap_or (option_map (list_of_row s) o) []) (row_in-moved piece (vector_piece key put) s.displaced s.rows)
last_moved s piece segment live key (Some (TakenOut put)) = refl
last_moved s piece segment live key None = refl

put_moved : (s : State) (piece : PieceId) (segment live : ℕ) (o : Option PutRow)
    → unwrap_or (option_map (merged_list (state_after s (rec.Displaced piece segment live))) o) []
    ≡ unwrap_or (option_map (merged_list s) o) []
put_moved s piece segment live None = refl
put_moved s piece segment live (Some w) =
    ap (λ before. merged s.geometry.alternates (most_payload s.geometry) before (alternate_of w))
    (last_moved s piece segment live w.key (last_vector s w.key))

one_list : (s : State) (r : Rec) (put : ℕ) → IsOfDisplacement r → list_of_put (state_after s r) put ≡ list_of_put s put
one_list s (rec.Displaced piece segment live) put h = put_moved s piece segment live (put_of s put)
one_list s _ put h = absurd h

-- so they leave what each put is to list
pub displaced_list : (s : State) (recs : List Rec) (put : ℕ) → AreOfDisplacement recs
    → list_of_put (after_all s recs) put ≡ list_of_put s put
displaced_list s [] put all = refl
displaced_list s (r ∷ recs) put all = displaced_list (state_after s r) recs put all.1 ∙ one_list s r put all.0

-- and what each piece would list
pub displaced_listed : (s : State) (recs : List Rec) (id : PieceId) → AreOfDisplacement recs → listed (after_all s recs) id ≡ listed s id
displaced_listed s recs id all = ap (λ list. if is_vector id then Some list else None) (displaced_list s recs id.put all)
