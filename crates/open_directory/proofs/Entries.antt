-- An entry that is written through, as the definitions change it.
use Rattle.std.proofs.Common.{◌≡◌, ℕ, true, false, cond, List, [], ◌∷◌, ◌++◌, Some, None, refl, sym, ap, ◌∙◌, arith}
use Rattle.std.specs.Map.{lookup, remove_entry, set_value}
use Rattle.fragment_table.specs.Table.{TableRow}
use Rattle.open_directory.specs.declared.kept.KeptPut.{KeptPut}
use Rattle.open_directory.specs.Directory.{changed, is_number, kept_with_cut, room_for_fragments, room_kept, with_cuts, with_room}

pub some_is : {X : Type 0} (a b : X) → Some a ≡ Some b → a ≡ b
some_is a b h = grind arith

pub written : {X : Type 0} (f : X → X) (n : ℕ) (es : List (ℕ × X)) (v : X) → lookup (is_number n) es ≡ Some v → set_value (is_number n) es (f v) ≡ changed f n es
written f n [] v h = refl
written f n (e ∷ es) v h =
    elim (is_number n e.0) as (λ b. cond b (Some e.1) (lookup (is_number n) es) ≡ Some v → cond b ((e.0, f v) ∷ es) (e ∷ set_value (is_number n) es (f v)) ≡ cond b ((e.0, f e.1) ∷ es) (e ∷ changed f n es)) [
      | true ↦ λ same. ap (λ x. (e.0, f x) ∷ es) (sym (some_is e.1 v same))
      | false ↦ λ rest. ap (λ xs. e ∷ xs) (written f n es v rest)
    ] h

pub absent : {X : Type 0} (f : X → X) (n : ℕ) (es : List (ℕ × X)) → lookup (is_number n) es ≡ None → changed f n es ≡ es
absent f n [] h = refl
absent f n (e ∷ es) h =
    elim (is_number n e.0) as (λ b. cond b (Some e.1) (lookup (is_number n) es) ≡ None → cond b ((e.0, f e.1) ∷ es) (e ∷ changed f n es) ≡ e ∷ es) [
      | true ↦ λ some. absurd (cc)
      | false ↦ λ rest. ap (λ xs. e ∷ xs) (absent f n es rest)
    ] h

-- what is not there is not removed
pub not_removed : {X : Type 0} (n : ℕ) (es : List (ℕ × X)) → lookup (is_number n) es ≡ None → remove_entry (is_number n) es ≡ es
not_removed n [] h = refl
not_removed n (e ∷ es) h =
    elim (is_number n e.0) as (λ b. cond b (Some e.1) (lookup (is_number n) es) ≡ None → cond b es (e ∷ remove_entry (is_number n) es) ≡ e ∷ es) [
      | true ↦ λ some. absurd (cc)
      | false ↦ λ rest. ap (λ xs. e ∷ xs) (not_removed n es rest)
    ] h

-- a change that keeps what stands there
pub kept_as_is : {X : Type 0} (f : X → X) (n : ℕ) (es : List (ℕ × X)) (v : X) → lookup (is_number n) es ≡ Some v → f v ≡ v → changed f n es ≡ es
kept_as_is f n [] v h same = refl
kept_as_is f n (e ∷ es) v h same =
    elim (is_number n e.0) as (λ b. cond b (Some e.1) (lookup (is_number n) es) ≡ Some v → cond b ((e.0, f e.1) ∷ es) (e ∷ changed f n es) ≡ e ∷ es) [
      | true ↦ λ found. let it : e.1 ≡ v = some_is e.1 v found in ap (λ x. (e.0, x) ∷ es) (ap f it ∙ same ∙ sym it)
      | false ↦ λ rest. ap (λ xs. e ∷ xs) (kept_as_is f n es v rest same)
    ] h

-- what `get_mut` lends and takes back
pub written_as : {X : Type 0} (f : X → X) (n : ℕ) (es es' : List (ℕ × X)) (v w : X) → lookup (is_number n) es ≡ Some v → es' ≡ set_value (is_number n) es w → w ≡ f v → es' ≡ changed f n es
written_as f n es es' v w found writes is = writes ∙ ap (λ x. set_value (is_number n) es x) is ∙ written f n es v found

found_written : {X : Type 0} (n : ℕ) (es : List (ℕ × X)) (v w : X) → lookup (is_number n) es ≡ Some v → lookup (is_number n) (set_value (is_number n) es w) ≡ Some w
found_written n [] v w h = absurd (cc)
found_written n (e ∷ es) v w h =
    elim (is_number n e.0) as (λ b. is_number n e.0 ≡ b → cond b (Some e.1) (lookup (is_number n) es) ≡ Some v → lookup (is_number n) (cond b ((e.0, w) ∷ es) (e ∷ set_value (is_number n) es w)) ≡ Some w) [
      | true ↦ λ t found. rw t refl
      | false ↦ λ t found. rw t (found_written n es v w found)
    ] refl h

pub cut_written : (n : ℕ) (row : TableRow) (es es' : List (ℕ × KeptPut)) (v w : KeptPut) → lookup (is_number n) es ≡ Some v → es' ≡ set_value (is_number n) es w
    → w ≡ with_cuts (v.cuts.rows ++ row ∷ []) w.cuts.room v → es' ≡ kept_with_cut n row (room_for_fragments n es') es
cut_written n row es es' v w found writes is =
    let room : room_for_fragments n es' ≡ w.cuts.room = ap (λ xs. room_for_fragments n xs) writes
    ∙ ap room_kept (found_written n es v w found) in
    written_as (λ kept. with_cuts (kept.cuts.rows ++ row ∷ []) (room_for_fragments n es') kept) n es es' v w found writes (is ∙ ap (λ r. with_cuts (v.cuts.rows ++ row ∷ []) r v) (sym room))

pub room_written : (n : ℕ) (es es' : List (ℕ × KeptPut)) (v w : KeptPut) → lookup (is_number n) es ≡ Some v → es' ≡ set_value (is_number n) es w
    → w ≡ with_cuts v.cuts.rows w.cuts.room v → es' ≡ with_room n (room_for_fragments n es') es
room_written n es es' v w found writes is =
    let room : room_for_fragments n es' ≡ w.cuts.room = ap (λ xs. room_for_fragments n xs) writes
    ∙ ap room_kept (found_written n es v w found) in
    written_as (λ kept. with_cuts kept.cuts.rows (room_for_fragments n es') kept) n es es' v w found writes (is ∙ ap (λ r. with_cuts v.cuts.rows r v) (sym room))
