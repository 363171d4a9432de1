-- Rows by their pieces, in lists from which some are taken.
use Rattle.std.proofs.Common.{◌≡◌, List, [], ◌∷◌, ◌++◌, Bool, true, false, Option, Some, None, refl, sym, ◌∙◌, ap, subst, cond}
use Rattle.std.specs.Prelude.{ℕ, map, not, if◌then◌else◌, option_map, option_to_list}
use Rattle.std.specs.List.{AllByRecursion}
use Rattle.tape_base.specs.declared.pieces.PieceId.{PieceId}
use Rattle.tape_base.specs.Piece.{same_piece}
use Rattle.tape_base.proofs.NameLaws.{same_piece-true, same_piece-same}
use Rattle.tape_base.specs.declared.digests.Digest.{Digest}
use Rattle.cache_model.specs.State.{Row, moved_row, row_in, without}
use Rattle.cache_model.proofs.Found.{no_truth, none_is}

abbrev either : Bool → Option Row → Option Row → Option Row
either b one other = if b then one else other

none_either : (b : Bool) → either b None None ≡ None
none_either true = refl
none_either false = refl

-- ---- a piece is taken out

module _ (id x : PieceId) where
  as_its_own : (row : Row) → same_piece row.id id ≡ true → same_piece id x ≡ same_piece row.id x
  as_its_own row h = ap (λ i. same_piece i x) (sym (same_piece-true row.id id h))

  -- the first row goes
  dropped : (row : Row) (rows : List Row) (c : Bool) → same_piece row.id x ≡ c → same_piece row.id id ≡ true
      → row_in (without id rows) x ≡ (if same_piece id x then None else row_in rows x)
      → row_in (without id rows) x ≡ (if same_piece id x then None else (if c then Some row else row_in rows x))
  dropped row rows true e h k = let q : same_piece id x ≡ true = as_its_own row h ∙ e in rw q (k ∙ ap (λ b. if b then None else row_in rows x) q)
  dropped row rows false e h k = let q : same_piece id x ≡ false = as_its_own row h ∙ e in rw q (k ∙ ap (λ b. if b then None else row_in rows x) q)

  other : (row : Row) → same_piece row.id x ≡ true → same_piece row.id id ≡ false → (b : Bool) → same_piece id x ≡ b → b ≡ false
  other row e h false k = refl
  other row e h true k =
      no_truth (sym (same_piece-same row.id) ∙ (ap (λ i. same_piece row.id i) (same_piece-true row.id x e ∙ sym (same_piece-true id x k)) ∙ h))

  stays : (row : Row) (rows : List Row) (c : Bool) → same_piece row.id x ≡ c → same_piece row.id id ≡ false
      → row_in (without id rows) x ≡ (if same_piece id x then None else row_in rows x)
      → (if c then Some row else row_in (without id rows) x) ≡ (if same_piece id x then None else (if c then Some row else row_in rows x))
  stays row rows true e h k = rw (other row e h (same_piece id x) refl) refl
  stays row rows false e h k = k

  by_test : (row : Row) (rows : List Row) (b : Bool) → same_piece row.id id ≡ b
      → row_in (without id rows) x ≡ (if same_piece id x then None else row_in rows x)
      → row_in (cond (not b) (row ∷ without id rows) (without id rows)) x ≡ (if same_piece id x then None else row_in (row ∷ rows) x)
  by_test row rows true e k = dropped row rows (same_piece row.id x) refl e k
  by_test row rows false e k = stays row rows (same_piece row.id x) refl e k

  pub row_in-without : (rows : List Row) → row_in (without id rows) x ≡ (if same_piece id x then None else row_in rows x)
  row_in-without [] = sym (none_either (same_piece id x))
  row_in-without (row ∷ rows) = by_test row rows (same_piece row.id id) refl (row_in-without rows)

-- ---- a row behind the others

abbrev pub first_of : Option Row → Option Row → Option Row
first_of (Some row) other = Some row
first_of None other = other

behind_by : (x : PieceId) (first row : Row) (rows : List Row) (b : Bool) → row_in (rows ++ row ∷ []) x ≡ first_of (row_in rows x) (if same_piece row.id x then Some row else None)
    → (if b then Some first else row_in (rows ++ row ∷ []) x) ≡ first_of (if b then Some first else row_in rows x) (if same_piece row.id x then Some row else None)
behind_by x first row rows true h = refl
behind_by x first row rows false h = h

pub row_in-behind : (x : PieceId) (rows : List Row) (row : Row) → row_in (rows ++ row ∷ []) x ≡ first_of (row_in rows x) (if same_piece row.id x then Some row else None)
row_in-behind x [] row = refl
row_in-behind x (first ∷ rows) row = behind_by x first row rows (same_piece first.id x) (row_in-behind x rows row)

placed_by : (b : Bool) (row : Row) (before : Option Row) → first_of (if b then None else before) (if b then Some row else None) ≡ (if b then Some row else before)
placed_by true row before = refl
placed_by false row None = refl
placed_by false row (Some other) = refl

-- a piece that is placed stands there alone
pub row_in-placed : (x : PieceId) (rows : List Row) (row : Row) → row_in (without row.id rows ++ row ∷ []) x ≡ (if same_piece row.id x then Some row else row_in rows x)
row_in-placed x rows row =
    row_in-behind x (without row.id rows) row
    ∙ (ap (λ o. first_of o (if same_piece row.id x then Some row else None)) (row_in-without row.id x rows)
    ∙ placed_by (same_piece row.id x) row (row_in rows x))

-- ---- a row that is found

found_by : (P : Row → Type 0) (first row : Row) (other : Option Row) (b : Bool) → P first → (other ≡ Some row → P row) → (if b then Some first else other) ≡ Some row → P row
found_by P first row other true p rest h = let same : first ≡ row = cc in subst P same p
found_by P first row other false p rest h = rest h

-- it is one of the list
pub found_row : (P : Row → Type 0) (id : PieceId) (rows : List Row) (row : Row) → AllByRecursion P rows → row_in rows id ≡ Some row → P row
found_row P id [] row each h = none_is h
found_row P id (first ∷ rows) row each h = found_by P first row (row_in rows id) (same_piece first.id id) each.0 (found_row P id rows row each.1) h

own_by : (id : PieceId) (first row : Row) (other : Option Row) (b : Bool) → same_piece first.id id ≡ b → (other ≡ Some row → row.id ≡ id)
    → (if b then Some first else other) ≡ Some row → row.id ≡ id
own_by id first row other true e rest h = let same : first ≡ row = cc in ap (λ (r : Row). r.id) (sym same) ∙ same_piece-true first.id id e
own_by id first row other false e rest h = rest h

-- and that of its piece
pub own_piece : (id : PieceId) (rows : List Row) (row : Row) → row_in rows id ≡ Some row → row.id ≡ id
own_piece id [] row h = none_is h
own_piece id (first ∷ rows) row h = own_by id first row (row_in rows id) (same_piece first.id id) refl (own_piece id rows row) h

-- ---- a row that is moved to the end of a list before

append_by : (b : Bool) (first : Row) (all front other : Option Row) → all ≡ first_of front other
    → (if b then Some first else all) ≡ first_of (if b then Some first else front) other
append_by true first all front other h = refl
append_by false first all front other h = h

row_in-append : (x : PieceId) (a b : List Row) → row_in (a ++ b) x ≡ first_of (row_in a x) (row_in b x)
row_in-append x [] b = refl
row_in-append x (first ∷ a) b = append_by (same_piece first.id x) first (row_in (a ++ b) x) (row_in a x) (row_in b x) (row_in-append x a b)

first_of-assoc : (a b c : Option Row) → first_of (first_of a b) c ≡ first_of a (first_of b c)
first_of-assoc (Some row) b c = refl
first_of-assoc None b c = refl

taken_out : (piece x : PieceId) (rows : List Row) (o : Option Row) (b : Bool) → row_in rows piece ≡ o → same_piece piece x ≡ b
    → first_of (row_in (option_to_list o) x) (if b then None else row_in rows x) ≡ row_in rows x
taken_out piece x rows None true h e = sym (ap (row_in rows) (sym (same_piece-true piece x e)) ∙ h)
taken_out piece x rows None false h e = refl
taken_out piece x rows (Some row) true h e =
    let same : same_piece row.id x ≡ true = ap (λ i. same_piece i x) (own_piece piece rows row h) ∙ e in
    rw same (sym (ap (row_in rows) (sym (same_piece-true piece x e)) ∙ h))
taken_out piece x rows (Some row) false h e =
    let same : same_piece row.id x ≡ false = ap (λ i. same_piece i x) (own_piece piece rows row h) ∙ e in
    rw same refl

pub row_in-moved : (piece x : PieceId) (before rows : List Row) → row_in ((before ++ option_to_list (row_in rows piece)) ++ without piece rows) x ≡ row_in (before ++ rows) x
row_in-moved piece x before rows =
    let gone : List Row = option_to_list (row_in rows piece) in
    let moved : first_of (row_in gone x) (row_in (without piece rows) x) ≡ row_in rows x =
    ap (first_of (row_in gone x)) (row_in-without piece x rows) ∙ taken_out piece x rows (row_in rows piece) (same_piece piece x) refl refl in
    row_in-append x (before ++ gone) (without piece rows)
    ∙ (ap (λ o. first_of o (row_in (without piece rows) x)) (row_in-append x before gone)
    ∙ (first_of-assoc (row_in before x) (row_in gone x) (row_in (without piece rows) x)
    ∙ (ap (first_of (row_in before x)) moved ∙ sym (row_in-append x before rows))))

-- ---- a piece that is copied to the end

alone : (row : Option Row) → first_of row None ≡ row
alone (Some row) = refl
alone None = refl

copied_by : (piece x : PieceId) (rows : List Row) (place : ℕ) (digest : Digest) (o : Option Row) (b : Bool) → row_in rows piece ≡ o → same_piece piece x ≡ b
    → first_of (if b then None else row_in rows x) (row_in (map (moved_row place digest) (option_to_list o)) x)
    ≡ (if b then option_map (moved_row place digest) (row_in rows x) else row_in rows x)
copied_by piece x rows place digest None true h e =
    sym (ap (option_map (moved_row place digest)) (ap (row_in rows) (sym (same_piece-true piece x e)) ∙ h))
copied_by piece x rows place digest None false h e = alone (row_in rows x)
copied_by piece x rows place digest (Some row) true h e =
    let same : same_piece row.id x ≡ true = ap (λ i. same_piece i x) (own_piece piece rows row h) ∙ e in
    rw same (sym (ap (option_map (moved_row place digest)) (ap (row_in rows) (sym (same_piece-true piece x e)) ∙ h)))
copied_by piece x rows place digest (Some row) false h e =
    let same : same_piece row.id x ≡ false = ap (λ i. same_piece i x) (own_piece piece rows row h) ∙ e in
    rw same (alone (row_in rows x))

-- it has its new place and digest, and the others are as they were
pub row_in-copied : (piece x : PieceId) (rows : List Row) (place : ℕ) (digest : Digest)
    → row_in (without piece rows ++ map (moved_row place digest) (option_to_list (row_in rows piece))) x
    ≡ (if same_piece piece x then option_map (moved_row place digest) (row_in rows x) else row_in rows x)
row_in-copied piece x rows place digest =
    let copy : List Row = map (moved_row place digest) (option_to_list (row_in rows piece)) in
    row_in-append x (without piece rows) copy
    ∙ (ap (λ o. first_of o (row_in copy x)) (row_in-without piece x rows)
    ∙ copied_by piece x rows place digest (row_in rows piece) (same_piece piece x) refl refl)
