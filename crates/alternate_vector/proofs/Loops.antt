-- Reading lines and alternates one after the other, as a loop does.
use Rattle.std.proofs.Common.{◌≡◌, ℕ, zero, suc, ◌-◌, ◌+◌, ◌≤◌, ◌<◌, Bool, true, false, cond, ltb, List, [], ◌∷◌, ◌++◌, length, get_or, Result, Ok, Err, refl, sym, ap, ◌∙◌, append_assoc, arith}
use Rattle.std.specs.Prelude.{not, ◌||◌, bytes_eq}
use Rattle.std.specs.List.{AllByRecursion}
use Rattle.std.specs.Cmp.Lexicographic.{same_text}
use Rattle.std.proofs.lemmas.Bool.{ltb-false, not-true}
use Rattle.std.proofs.lemmas.List.{append-nil}
use Rattle.http_header.specs.Token.{lowercase}
use Rattle.fragment_table.specs.Table.{TableRow}
use Rattle.fragment_table.specs.Reading.{has_sum, read_table, told_count, told_length, told_rows}
use Rattle.fragment_table.specs.declared.fault.TableFault.{TableFault}
use Rattle.fragment_table.specs.declared.fault.TableFault.TheVariants as tables
use Rattle.alternate_vector.specs.declared.fault.VectorFault.{VectorFault}
use Rattle.alternate_vector.specs.declared.fault.VectorFault.TheVariants.{Short, Count, Name, Value, Table, Rest, Memory}
use Rattle.alternate_vector.specs.declared.fields.Line.{Line}
use Rattle.alternate_vector.specs.Field.{Field, IsRising, is_above, is_name}
use Rattle.alternate_vector.specs.Lines.{fields_of}
use Rattle.alternate_vector.specs.Alternates.{Stored}
use Rattle.alternate_vector.specs.Reading.{◌>>=◌, FailsAs, alternate_at, alternates_at, field_at, fields_from, follows, last_name}
use Rattle.alternate_vector.proofs.Order.{chain, three}

-- what was read before, and what is still read
abbrev pub with_front : {A : Type 0} → List A → Result (List A × List ℕ) VectorFault → Result (List A × List ℕ) VectorFault
with_front front read = read >>= λ x. Ok (front ++ x.0, x.1)

regroup : {A : Type 0} (front : List A) (n : A) (read : Result (List A × List ℕ) VectorFault) → with_front front (read >>= λ x. Ok (n ∷ x.0, x.1)) ≡ with_front (front ++ n ∷ []) read
regroup {A} front n (Ok x) = ap (λ (ns : List A). Ok (ns, x.1)) (simp append_assoc)
regroup front n (Err f) = refl

pub fails_on : {A B : Type 0} (e : VectorFault) (one : Result A VectorFault) (two : Result B VectorFault) → ((f : VectorFault) → one ≡ Err f → two ≡ Err f) → FailsAs e one → FailsAs e two
fails_on (Memory e) one two h k = tt
fails_on Short one two h k = h Short k
fails_on Count one two h k = h Count k
fails_on Name one two h k = h Name k
fails_on Value one two h k = h Value k
fails_on Table one two h k = h Table k
fails_on Rest one two h k = h Rest k

pub last-push : (fields : List Field) (f : Field) → last_name (fields ++ f ∷ []) ≡ f.name
last-push [] f = refl
last-push (x ∷ []) f = refl
last-push (x ∷ y ∷ ys) f = last-push (y ∷ ys) f

pub last_at : (lines : List Line) (k : ℕ) (d : Line) → k + 1 ≡ length lines → (get_or lines k d).name ≡ last_name (fields_of lines)
last_at [] k d h = absurd (omega (arith, h))
last_at (x ∷ []) zero d h = refl
last_at (x ∷ []) (suc k) d h = absurd (omega (arith, h))
last_at (x ∷ y ∷ ys) zero d h = absurd (omega (arith, h))
last_at (x ∷ y ∷ ys) (suc k) d h = last_at (y ∷ ys) k d (omega (arith, h))

-- ---- lines

pub lines_go_on : (front : List Field) (count i : ℕ) (bytes : List ℕ) (f : Field) (after : List ℕ) (total : Result (List Field × List ℕ) VectorFault) → i < count → field_at (last_name front) bytes ≡ Ok (f, after)
    → with_front front (fields_from (count - i) (last_name front) bytes) ≡ total → with_front (front ++ f ∷ []) (fields_from (count - (i + 1)) (last_name (front ++ f ∷ [])) after) ≡ total
unfolding fields_from
lines_go_on front count i bytes f after total lt h so_far =
    let k : count - i ≡ suc (count - (i + 1)) = omega arith in
    let one : with_front front (fields_from (count - i) (last_name front) bytes) ≡ with_front (front ++ f ∷ []) (fields_from (count - (i + 1)) f.name after) = rw (k, h) (regroup front f (fields_from (count - (i + 1)) f.name after)) in
    ap (λ (name : List ℕ). with_front (front ++ f ∷ []) (fields_from (count - (i + 1)) name after)) (last-push front f) ∙ sym one ∙ so_far

pub lines_end : (e : VectorFault) (front : List Field) (count i : ℕ) (bytes : List ℕ) (total : Result (List Field × List ℕ) VectorFault) → i < count → FailsAs e (field_at (last_name front) bytes)
    → with_front front (fields_from (count - i) (last_name front) bytes) ≡ total → FailsAs e total
unfolding fields_from
lines_end e front count i bytes total lt h so_far =
    let k : count - i ≡ suc (count - (i + 1)) = omega arith in
    rw (← so_far, k) (fails_on e (field_at (last_name front) bytes) (with_front front (fields_from (suc (count - (i + 1))) (last_name front) bytes)) (λ f g. rw g refl) h)

pub lines_done : (front : List Field) (count i : ℕ) (bytes : List ℕ) (total : Result (List Field × List ℕ) VectorFault) → count ≤ i → with_front front (fields_from (count - i) (last_name front) bytes) ≡ total → total ≡ Ok (front, bytes)
unfolding fields_from
lines_done front count i bytes total le so_far =
    let k : count - i ≡ 0 = omega arith in
    let one : with_front front (fields_from (count - i) (last_name front) bytes) ≡ Ok (front, bytes) = rw k (ap (λ (ns : List Field). Ok (ns, bytes)) (append-nil front)) in
    sym so_far ∙ one

-- ---- alternates

pub alternates_go_on : (front : List Stored) (count i : ℕ) (bytes : List ℕ) (a : Stored) (after : List ℕ) (total : Result (List Stored × List ℕ) VectorFault) → i < count → alternate_at bytes ≡ Ok (a, after)
    → with_front front (alternates_at (count - i) bytes) ≡ total → with_front (front ++ a ∷ []) (alternates_at (count - (i + 1)) after) ≡ total
unfolding alternates_at
alternates_go_on front count i bytes a after total lt h so_far =
    let k : count - i ≡ suc (count - (i + 1)) = omega arith in
    let one : with_front front (alternates_at (count - i) bytes) ≡ with_front (front ++ a ∷ []) (alternates_at (count - (i + 1)) after) = rw (k, h) (regroup front a (alternates_at (count - (i + 1)) after)) in
    sym one ∙ so_far

pub alternates_end : (e : VectorFault) (front : List Stored) (count i : ℕ) (bytes : List ℕ) (total : Result (List Stored × List ℕ) VectorFault) → i < count → FailsAs e (alternate_at bytes)
    → with_front front (alternates_at (count - i) bytes) ≡ total → FailsAs e total
unfolding alternates_at
alternates_end e front count i bytes total lt h so_far =
    let k : count - i ≡ suc (count - (i + 1)) = omega arith in
    rw (← so_far, k) (fails_on e (alternate_at bytes) (with_front front (alternates_at (suc (count - (i + 1))) bytes)) (λ f g. rw g refl) h)

pub alternates_done : (front : List Stored) (count i : ℕ) (bytes : List ℕ) (total : Result (List Stored × List ℕ) VectorFault) → count ≤ i → with_front front (alternates_at (count - i) bytes) ≡ total → total ≡ Ok (front, bytes)
unfolding alternates_at
alternates_done front count i bytes total le so_far =
    let k : count - i ≡ 0 = omega arith in
    let one : with_front front (alternates_at (count - i) bytes) ≡ Ok (front, bytes) = rw k (ap (λ (ns : List Stored). Ok (ns, bytes)) (append-nil front)) in
    sym so_far ∙ one

-- ---- names and tables

pub follows_name : (before name : List ℕ) → follows before name ≡ true → is_name name ≡ true
follows_name before name h = (three (is_name name) (bytes_eq name (lowercase name)) (not (is_above before name)) h).0

pub follows_lower : (before name : List ℕ) → follows before name ≡ true → lowercase name ≡ name
follows_lower before name h = sym (same_text name (lowercase name) (sym (three (is_name name) (bytes_eq name (lowercase name)) (not (is_above before name)) h).1))

pub follows_order : (before name : List ℕ) → follows before name ≡ true → is_above before name ≡ false
follows_order before name h = not-true (is_above before name) (three (is_name name) (bytes_eq name (lowercase name)) (not (is_above before name)) h).2

abbrev Found : Type 0
Found = List TableRow × ℕ

abbrev picked : Bool → Bool → Bool → Bool → Found → Result Found TableFault
picked a b c d found = cond (a || b) (Err tables.Short) (cond c (Err tables.Count) (cond d (Ok found) (Err tables.Sum)))

picked_ok : (a b c d : Bool) (found answer : Found) → picked a b c d found ≡ Ok answer → (b ≡ false) × (found ≡ answer)
picked_ok true b c d found answer f = absurd cc
picked_ok false true c d found answer f = absurd cc
picked_ok false false true d found answer f = absurd cc
picked_ok false false false true found answer f = (refl, cc)
picked_ok false false false false found answer f = absurd cc

-- a table that was read lies within the bytes
pub table_within : (bytes : List ℕ) (total : ℕ) (rows : List TableRow) (taken : ℕ) → read_table bytes total ≡ Ok (rows, taken) → taken ≤ length bytes
unfolding read_table
table_within bytes total rows taken h =
    let p = picked_ok (ltb (length bytes) 4) (ltb (length bytes) (told_length bytes)) (ltb 4096 (told_count bytes)) (has_sum total (told_rows bytes)) (told_rows bytes, told_length bytes) (rows, taken) h in
    let long : told_length bytes ≤ length bytes = ltb-false _ _ p.0 in
    let same : told_length bytes ≡ taken = ap (λ (found : Found). found.1) p.1 in
    omega (arith, long, same)

-- ---- what is kept while lines are read

pub each_push : {X : Type 0} (P : X → Type 0) (xs : List X) (y : X) → AllByRecursion P xs → P y → AllByRecursion P (xs ++ y ∷ [])
each_push P [] y each p = (p, tt)
each_push P (x ∷ xs) y each p = (each.0, each_push P xs y each.1 p)

above_last : (a : List ℕ) (x : Field) (xs : List Field) → is_above a x.name ≡ false → AllByRecursion (λ other. is_above a other.name ≡ false) xs → is_above a (last_name (x ∷ xs)) ≡ false
above_last a x [] h each = h
above_last a x (y ∷ ys) h each = above_last a y ys each.0 each.1

pub rising_push : (fields : List Field) (f : Field) → IsRising fields → is_above (last_name fields) f.name ≡ false → IsRising (fields ++ f ∷ [])
rising_push [] f rising h = (tt, tt)
rising_push (x ∷ []) f rising h = ((h, tt), (tt, tt))
rising_push (x ∷ y ∷ ys) f rising h =
    let last : is_above x.name (last_name (y ∷ ys)) ≡ false = above_last x.name y ys rising.0.0 rising.0.1 in
    (each_push (λ other. is_above x.name other.name ≡ false) (y ∷ ys) f rising.0 (chain x.name (last_name (y ∷ ys)) f.name last h), rising_push (y ∷ ys) f rising.1 h)
