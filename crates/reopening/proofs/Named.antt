-- An image whose newest copy names the pieces of a sync opens to that sync.
use Rattle.std.proofs.Common.{◌≡◌, ◌<◌, ◌+◌, ◌-◌, ℕ, zero, suc, inl, inr, Bool, true, false, Option, Some, None, List, [], ◌∷◌, map, refl, sym, ap, subst, ◌∙◌, arith, ◌≤◌, length}
use Rattle.std.specs.Prelude.{◌==◌, ◌||◌, ◌&&◌, not, AllPairs, IfSome, slice_get}
use Rattle.std.specs.List.{AllByRecursion, list_all, list_any}
use Rattle.std.proofs.lemmas.Bool.{and_from, cases_Bool, eqb-true, eq-eqb, or_from}
use Rattle.std.proofs.lemmas.List.Quantifiers.{all_pairs_remove}
use Rattle.std.proofs.lemmas.Option.{slice_get_within}
use Rattle.tape_base.specs.Digest.{digest_of}
use Rattle.tape_base.specs.Key.{same_key}
use Rattle.tape_base.specs.Piece.{is_vector, same_piece}
use Rattle.doc_header.proofs.ReadingLaws.{again}
use Rattle.fragment_table.specs.Table.{TableRow, made_row}
use Rattle.alternate_vector.specs.Alternates.{IsStored, Stored}
use Rattle.cache_model.specs.Openings.{AreOfTwoKeys}
use Rattle.cache_model.proofs.Found.{none_is, same_some}
use Rattle.reopening.specs.Documents.{document_at}
use Rattle.reopening.specs.Later.{all_state, has_length, has_lengths, lengths_agree, measure_of, replaces, row_of_fragment, states}
use Rattle.reopening.proofs.Alone.{key_back, piece_back}
use Rattle.device_log.specs.Image.{Image, IsImage}
use Rattle.tape_base.specs.declared.pieces.PieceId.{PieceId}
use Rattle.stripe_header.specs.declared.area.Area.{Area}
use Rattle.cache_model.specs.declared.findings.FoundRow.{FoundRow}
use Rattle.cache_model.specs.Contents.{Content, doc_of_row}
use Rattle.cache_model.specs.State.{Mark, Row, row_of_found}
use Rattle.cache_model.specs.Tape.{AreApart, AreRising, NotAmong}
use Rattle.cache_model.specs.Syncs.{IsTakenUp}
use Rattle.reopening.specs.declared.newest.Newest.{Newest}
use Rattle.reopening.specs.Newest.{bound_of, directory_at}
use Rattle.reopening.specs.Tests.{is_inside, standing_at}
use Rattle.reopening.specs.Opens.{found_of, opening_at, rows_at}
use Rattle.reopening.specs.Kept.{AreAlone, FoundRowsRise, StandAll, is_found_at}
use Rattle.reopening.specs.Named.{MarksAreTakenUp, NamesAll, StandsNamed, StatesRow, StatesRows, TellsMark, found_row, is_row_at}
use Rattle.reopening.proofs.Found.{recorded_found}
use Rattle.reopening.proofs.Keeping.{all_found}
use Rattle.reopening.proofs.Passing.{documents_pass}
use Rattle.reopening.proofs.Whole.{image_is_sound, opens_newest}

-- not both are vectors of one key
none_shared : (later this same : Bool) → (later ≡ true → this ≡ true → same ≡ false) → (later && (this && same)) ≡ false
none_shared true true same h = h refl refl
none_shared true false same h = refl
none_shared false this same h = refl

-- what is asked where a test holds
asked_so : (test rest : Bool) → (test ≡ true → rest ≡ true) → (not test || rest) ≡ true
asked_so true rest h = h refl
asked_so false rest h = refl

-- the first of a list and each later one
each_later : (R : Row → Row → Type 0) (x : Row) (xs : List Row) → AllPairs R (x ∷ xs) → AllByRecursion (R x) xs
each_later R x [] pairs = tt
each_later R x (y ∷ ys) pairs = (pairs 0 1 x (omega arith) (omega arith), each_later R x ys (all_pairs_remove R (x ∷ (y ∷ ys)) 1 (omega arith) pairs))

module _ (a : Area) (c : Image) (n : Newest) (image : IsImage c) (content : PieceId → Content) where
  found_rise : (low high : ℕ) (rows : List Row) → AreRising low rows high → FoundRowsRise low high (map (found_row a c) rows)
  found_rise low high [] rise = tt
  found_rise low high (x ∷ rest) rise = (rise.0, omega (arith, rise.1, rise.2), found_rise (x.place + 1) high rest rise.3)

  found_there : (rows : List Row) (p : ℕ) → is_found_at (map (found_row a c) rows) p ≡ is_row_at rows p
  found_there [] p = refl
  found_there (x ∷ rest) p = ap (λ b. (x.place == p) || b) (found_there rest p)

  one_stands : (row : Row) → StandsNamed a c n row (content row.id) → standing_at a n.told (rows_at a c n) c row.place ≡ Some (found_row a c row)
  one_stands row is =
      let x = content row.id in
      let there = recorded_found a c row x image is.stands in
      let inside = ap (is_inside a.geometry n.told.cursor row.place) (sym is.stands.recorded.blocks) ∙ is.inside in
      let e = documents_pass a n.told (rows_at a c n) c row.place (doc_of_row a.geometry row x.start) x.payload is.from there.document inside is.entered is.put is.lists in
      e.0

  each_stands : (rows : List Row) → AllByRecursion (λ (row : Row). StandsNamed a c n row (content row.id)) rows
      → AllByRecursion (λ (x : FoundRow). standing_at a n.told (rows_at a c n) c x.place ≡ Some x) (map (found_row a c) rows)
  each_stands [] each = tt
  each_stands (row ∷ rest) each = (one_stands row each.0, each_stands rest each.1)

  rows_back : (rows : List Row) → AllByRecursion (λ (row : Row). StandsNamed a c n row (content row.id)) rows → map row_of_found (map (found_row a c) rows) ≡ rows
  rows_back [] each = refl
  rows_back (row ∷ rest) each =
      let there = recorded_found a c row (content row.id) image each.0.stands in
      ap (λ (r : Row). r ∷ map row_of_found (map (found_row a c) rest)) there.found ∙ ap (λ (l : List Row). row ∷ l) (rows_back rest each.1)

  -- ---- none is at odds with another

  name_same : (row : Row) → StandsNamed a c n row (content row.id) → (found_row a c row).id ≡ row.id
  name_same row is = ap (λ (r : Row). r.id) (recorded_found a c row (content row.id) image is.stands).found

  not_replaced : (x y : Row) → StandsNamed a c n x (content x.id) → StandsNamed a c n y (content y.id) → same_piece x.id y.id ≡ false → AreOfTwoKeys x y
      → replaces (found_row a c y).id (found_row a c x).id ≡ false
  not_replaced x y one other apart keys =
      ap (λ (i : PieceId). replaces i (found_row a c x).id) (name_same y other)
      ∙ (ap (replaces y.id) (name_same x one)
      ∙ (ap (λ b. b || (is_vector y.id && (is_vector x.id && same_key y.id.first x.id.first))) (piece_back y.id x.id apart)
      ∙ none_shared (is_vector y.id) (is_vector x.id) (same_key y.id.first x.id.first) (λ later this. key_back y.id.first x.id.first (keys this later))))

  none_replace : (x : Row) (later : List Row) → StandsNamed a c n x (content x.id) → AllByRecursion (λ (row : Row). StandsNamed a c n row (content row.id)) later
      → NotAmong x.id later → AllByRecursion (AreOfTwoKeys x) later → list_any (λ (y : FoundRow). replaces y.id (found_row a c x).id) (map (found_row a c) later) ≡ false
  none_replace x [] one others apart keys = refl
  none_replace x (y ∷ later) one others apart keys =
      or_from (replaces (found_row a c y).id (found_row a c x).id) (list_any (λ (z : FoundRow). replaces z.id (found_row a c x).id) (map (found_row a c) later))
      (not_replaced x y one others.0 apart.0 keys.0) (none_replace x later one others.1 apart.1 keys.1)

  are_alone : (rows : List Row) → AllByRecursion (λ (row : Row). StandsNamed a c n row (content row.id)) rows → AreApart rows → AllPairs AreOfTwoKeys rows
      → AreAlone (map (found_row a c) rows)
  are_alone [] each apart keys = tt
  are_alone (x ∷ later) each apart keys =
      (none_replace x later each.0 each.1 apart.0 (each_later AreOfTwoKeys x later keys), are_alone later each.1 apart.1 (all_pairs_remove AreOfTwoKeys (x ∷ later) 0 (omega arith) keys))

  -- a vector is of no index that a table has
  vector_states : (y : FoundRow) (s : Stored) → is_vector y.id ≡ true → has_length y.length (row_of_fragment s.table y.id.index) ≡ true
  vector_states y s vector = ap (λ i. has_length y.length (row_of_fragment s.table i)) (eqb-true y.id.index 0 vector)

  entry_states : (row : Row) (len : ℕ) (index : ℕ) (s : Stored) → 0 < index
      → ((entry : TableRow) → slice_get s.table (index - 1) ≡ Some entry → entry.length ≡ len) → has_length len (row_of_fragment s.table index) ≡ true
  entry_states row len zero s some states = absurd (omega (arith, some))
  entry_states row len (suc i) s some states = at (slice_get s.table i) refl where
    at : (o : Option TableRow) → slice_get s.table i ≡ o → has_length len o ≡ true
    at None is = refl
    at (Some entry) is = eq-eqb entry.length len (states entry (ap (slice_get s.table) (let e : suc i - 1 ≡ i = omega arith in e) ∙ is))

  fragment_length : (y : Row) → StandsNamed a c n y (content y.id) → is_vector y.id ≡ false → y.payload ≡ Some (made_row (found_row a c y).length (digest_of (content y.id).payload).0)
  fragment_length y is fragment =
      let there = recorded_found a c y (content y.id) image is.stands in
      let read = again (document_at a c y.place) a.geometry.generation y.place (doc_of_row a.geometry y (content y.id).start) (content y.id).payload there.document in
      (is.stands.fragment fragment).payload
      ∙ ap (λ k. Some (made_row k (digest_of (content y.id).payload).0)) (sym read.sized)

  states_one : (y : Row) → StandsNamed a c n y (content y.id) → (s : Stored) → length s.table ≤ 4096 → StatesRow y s → states (measure_of (found_row a c y)) s ≡ true
  states_one y is s few so =
      let id = name_same y is in
      let len = (found_row a c y).length in
      asked_so (s.put == (found_row a c y).id.put) (has_length len (row_of_fragment s.table (found_row a c y).id.index)) (λ put.
      let same : s.put ≡ y.id.put = eqb-true s.put (found_row a c y).id.put put ∙ ap (λ (i : PieceId). i.put) id in
      elim (cases_Bool (is_vector y.id)) [
        | inl vector ↦ vector_states (found_row a c y) s (ap is_vector id ∙ vector)
        | inr fragment ↦
            let some : 0 < y.id.index = grind (arith, fragment) in
            ap (λ (i : PieceId). has_length len (row_of_fragment s.table i.index)) id
            ∙ entry_states y len y.id.index s some (λ entry there. subst (λ (o : Option TableRow). IfSome o (λ p. entry.length ≡ p.length)) (fragment_length y is fragment)
            (so same some (let within = slice_get_within s.table (y.id.index - 1) entry there in omega (arith, within, few)) entry there))
      ])

  states_each : (y : Row) → StandsNamed a c n y (content y.id) → (list : List Stored) → AllByRecursion IsStored list → AllByRecursion (StatesRow y) list
      → list_all (states (measure_of (found_row a c y))) list ≡ true
  states_each y is [] stored each = refl
  states_each y is (s ∷ list) stored each = and_from (states (measure_of (found_row a c y)) s) (list_all (states (measure_of (found_row a c y))) list) (states_one y is s stored.0.table.few each.0) (states_each y is list stored.1 each.1)

  -- what a row lists may be kept
  stored_list : (x : Row) → StandsNamed a c n x (content x.id) → (list : List Stored) → x.alternates ≡ Some list → AllByRecursion IsStored list
  stored_list x is list lists = elim (cases_Bool (is_vector x.id)) [
    | inl vector ↦
        let v = is.stands.vector vector in
        let same : v.list ≡ list = same_some v.list list x.alternates v.lists lists in
        subst (AllByRecursion IsStored) same v.spelled.stored.each
    | inr fragment ↦ none_is (sym (is.stands.fragment fragment).lists ∙ lists)
  ]

  all_states : (x y : Row) → StandsNamed a c n x (content x.id) → StandsNamed a c n y (content y.id) → StatesRows x y
      → lengths_agree (found_row a c x) (measure_of (found_row a c y)) ≡ true
  all_states x y one other so =
      let there = recorded_found a c x (content x.id) image one.stands in
      let listed : (found_row a c x).alternates ≡ x.alternates = ap (λ (r : Row). r.alternates) there.found in
      asked_so (same_key (found_row a c x).id.first (found_row a c y).id.first) (all_state (measure_of (found_row a c y)) (found_row a c x).alternates) (λ key.
      let same : same_key x.id.first y.id.first ≡ true =
      ap (λ (i : PieceId). same_key i.first y.id.first) (sym (name_same x one)) ∙ (ap (λ (i : PieceId). same_key (found_row a c x).id.first i.first) (sym (name_same y other)) ∙ key) in
      ap (all_state (measure_of (found_row a c y))) listed ∙ at x.alternates refl same) where
        at : (o : Option (List Stored)) → x.alternates ≡ o → same_key x.id.first y.id.first ≡ true → all_state (measure_of (found_row a c y)) o ≡ true
        at None is same = refl
        at (Some list) is same = states_each y other list (stored_list x one list is) (so list is same)

  agrees_each : (x : Row) → StandsNamed a c n x (content x.id) → (rows : List Row) → AllByRecursion (λ (row : Row). StandsNamed a c n row (content row.id)) rows
      → AllByRecursion (StatesRows x) rows → has_lengths (map measure_of (map (found_row a c) rows)) (found_row a c x) ≡ true
  agrees_each x one [] each so = refl
  agrees_each x one (y ∷ rows) each so =
      and_from (lengths_agree (found_row a c x) (measure_of (found_row a c y))) (has_lengths (map measure_of (map (found_row a c) rows)) (found_row a c x))
      (all_states x y one each.0 so.0) (agrees_each x one rows each.1 so.1)

  lengths_each : (all xs : List Row) → AllByRecursion (λ (row : Row). StandsNamed a c n row (content row.id)) all
      → AllByRecursion (λ (row : Row). StandsNamed a c n row (content row.id)) xs → AllByRecursion (λ (x : Row). AllByRecursion (StatesRows x) all) xs
      → AllByRecursion (λ (x : FoundRow). has_lengths (map measure_of (map (found_row a c) all)) x ≡ true) (map (found_row a c) xs)
  lengths_each all [] each some so = tt
  lengths_each all (x ∷ xs) each some so = (agrees_each x some.0 all each so.0, lengths_each all xs each some.1 so.1)

  stand_all : (rows : List Row) → NamesAll a c n content rows → StandAll a c n (map (found_row a c) rows)
  stand_all rows is = record {
    rising = found_rise (bound_of a.geometry n.told) n.told.cursor rows is.rising;
    stand = each_stands rows is.stand;
    no_more = λ p there. found_there rows p ∙ is.no_more p there;
    alone = are_alone rows is.stand is.even.apart is.even.keys;
    lengths = lengths_each rows rows is.stand is.stand is.even.lengths;
  }

  rows_found : (rows : List Row) → NamesAll a c n content rows → map row_of_found (found_of a n.told (rows_at a c n) c) ≡ rows
  rows_found rows is = ap (map row_of_found) (all_found a c n (map (found_row a c) rows) (stand_all rows is)) ∙ rows_back rows is.stand

  pub taken_up : (m : Mark) → TellsMark a n m → NamesAll a c n content m.rows → IsTakenUp m (opening_at a c n)
  taken_up m told is =
      let rows = rows_found m.rows is in
      λ i. record {
        serial = told.serial i;
        cursor = told.cursor i;
        low = told.low i;
        end = n.told.cursor;
        next_put = told.next_put i;
        clean = told.clean i;
        rows = rows i;
      }

pub marks_taken_up : MarksAreTakenUp
marks_taken_up a c n content m image newest segments told is =
    (opens_newest a c n newest (image_is_sound a.geometry (directory_at a c n.side) segments), taken_up a c n image content m told is)
