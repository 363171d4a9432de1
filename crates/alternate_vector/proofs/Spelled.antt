-- What is read was spelled so.
use Rattle.std.proofs.Common.{◌≡◌, ℕ, zero, suc, ◌<◌, ◌≤◌, Bool, true, false, cond, ltb, eqb, List, [], ◌∷◌, ◌++◌, length, take, drop, Result, Ok, Err, refl, sym, ap, subst, ◌∙◌, append_assoc, arith}
use Rattle.std.specs.Prelude.{◌||◌}
use Rattle.std.specs.Int.{Width, w16, w32, w64, byte_len, from_le_bytes, to_le_bytes}
use Rattle.std.specs.List.{flat_map}
use Rattle.std.proofs.lemmas.Bool.{ltb-false, eqb-true, or_parts}
use Rattle.std.proofs.lemmas.List.{append-nil, nil_from_length, take-append-drop, length-take}
use Rattle.std.proofs.lemmas.List.Concat.{flat_map-cons}
use Rattle.std.proofs.lemmas.Nat.{le_bytes_2, le_bytes_4, le_bytes_8}
use Rattle.fragment_table.specs.Table.{TableRow, table_bytes}
use Rattle.fragment_table.specs.Reading.{read_table}
use Rattle.fragment_table.specs.declared.fault.TableFault.{TableFault}
use Rattle.hex.specs.Hex.{IsBytes}
use Rattle.tape_base.proofs.Bytes.{IsBytes-drop, IsBytes-take}
use Rattle.fragment_table.proofs.Whole.{is_spelled}
use Rattle.alternate_vector.specs.declared.fault.VectorFault.{VectorFault}
use Rattle.alternate_vector.specs.declared.fault.VectorFault.TheVariants.{Short, Count, Name, Value, Rest}
use Rattle.alternate_vector.specs.Field.{Field, is_value}
use Rattle.alternate_vector.specs.Alternates.{Stored}
use Rattle.alternate_vector.specs.Reading.{◌>>=◌, alternate_at, alternates_at, field_at, fields_at, fields_from, follows, number_at, only_alternates, read_vector, table_at, text_at, told_table, value_at}
use Rattle.alternate_vector.specs.Spelling.{alternate_bytes, field_bytes, fields_bytes, vector_bytes}

-- the value of a step that did not fail
bind_ok : {A B : Type 0} (r : Result A VectorFault) (f : A → Result B VectorFault) (y : B) → (r >>= f) ≡ Ok y → (x : A) × (r ≡ Ok x) × (f x ≡ Ok y)
bind_ok (Ok x) f y e = (x, refl, e)
bind_ok (Err d) f y e = absurd cc

-- a test that did not fail
passed : {A : Type 0} (b : Bool) (d : VectorFault) (r : Result A VectorFault) (y : A) → cond b (Err d) r ≡ Ok y → (b ≡ false) × (r ≡ Ok y)
passed true d r y e = absurd cc
passed false d r y e = (refl, e)

held : {A : Type 0} (b : Bool) (d : VectorFault) (r : Result A VectorFault) (y : A) → cond b r (Err d) ≡ Ok y → (b ≡ true) × (r ≡ Ok y)
held true d r y e = (refl, e)
held false d r y e = absurd cc

abbrev done : {A : Type 0} → A → Result A VectorFault
done x = Ok x

ok_is : {A : Type 0} (x y : A) → done x ≡ done y → x ≡ y
ok_is x y e = cc

-- what a reader took from the front
record Takes (bytes text rest : List ℕ) : Type 0 where
  parts : bytes ≡ text ++ rest
  fits : IsBytes rest

takes_then : (a x b y c : List ℕ) → Takes a x b → Takes b y c → Takes a (x ++ y) c
takes_then a x b y c p q = record { parts = p.parts ∙ ap (λ (t : List ℕ). x ++ t) q.parts ∙ sym (append_assoc x y c); fits = q.fits }

-- ---- numbers and texts

abbrev GoesBack : Width → Type 0
GoesBack w = (bytes : List ℕ) → length bytes ≡ byte_len w → IsBytes bytes → to_le_bytes w (from_le_bytes w bytes) ≡ bytes

back16 : GoesBack w16
back16 bytes len fits = le_bytes_2 bytes (from_le_bytes w16 bytes) len fits refl

back32 : GoesBack w32
back32 bytes len fits = le_bytes_4 bytes (from_le_bytes w32 bytes) len fits refl

back64 : GoesBack w64
back64 bytes len fits = le_bytes_8 bytes (from_le_bytes w64 bytes) len fits refl

number_takes : (w : Width) → GoesBack w → (bytes : List ℕ) (x : ℕ × List ℕ) → IsBytes bytes → number_at w bytes ≡ Ok x → Takes bytes (to_le_bytes w x.0) x.1
number_takes w back bytes x fits e =
    let n = byte_len w in
    let g = passed (ltb (length bytes) n) Short (Ok (from_le_bytes w (take n bytes), drop n bytes)) x e in
    let long : n ≤ length bytes = ltb-false _ _ g.0 in
    let front : to_le_bytes w (from_le_bytes w (take n bytes)) ≡ take n bytes = back (take n bytes) (omega (arith, length-take n bytes, long)) (IsBytes-take n bytes fits) in
    let made : Takes bytes (to_le_bytes w (from_le_bytes w (take n bytes))) (drop n bytes) = record {
      parts = sym (take-append-drop n bytes) ∙ ap (λ (t : List ℕ). t ++ drop n bytes) (sym front);
      fits = IsBytes-drop n bytes fits;
    } in
    subst (λ (y : ℕ × List ℕ). Takes bytes (to_le_bytes w y.0) y.1) (ok_is (from_le_bytes w (take n bytes), drop n bytes) x g.1) made

text_takes : (n : ℕ) (bytes : List ℕ) (x : List ℕ × List ℕ) → IsBytes bytes → text_at n bytes ≡ Ok x → Takes bytes x.0 x.1 × (length x.0 ≡ n)
text_takes n bytes x fits e =
    let g = passed (ltb (length bytes) n) Short (Ok (take n bytes, drop n bytes)) x e in
    let long : n ≤ length bytes = ltb-false _ _ g.0 in
    let len : length (take n bytes) ≡ n = omega (arith, length-take n bytes, long) in
    let made : Takes bytes (take n bytes) (drop n bytes) = record { parts = sym (take-append-drop n bytes); fits = IsBytes-drop n bytes fits } in
    subst (λ (y : List ℕ × List ℕ). Takes bytes y.0 y.1 × (length y.0 ≡ n)) (ok_is (take n bytes, drop n bytes) x g.1) (made, len)

-- ---- fields

value_takes : (name : List ℕ) (n : ℕ) (bytes : List ℕ) (x : Field × List ℕ) → IsBytes bytes → value_at name n bytes ≡ Ok x → Takes bytes x.0.value x.1 × (length x.0.value ≡ n) × (x.0.name ≡ name)
value_takes name n bytes x fits e =
    let a = bind_ok (text_at n bytes) (λ value. cond (is_value value.0) (Ok (record { name = name; value = value.0 }, value.1)) (Err Value)) x e in
    let g = held (is_value a.0.0) Value (Ok (record { name = name; value = a.0.0 }, a.0.1)) x a.2 in
    let t = text_takes n bytes a.0 fits a.1 in
    subst (λ (y : Field × List ℕ). Takes bytes y.0.value y.1 × (length y.0.value ≡ n) × (y.0.name ≡ name)) (ok_is (record { name = name; value = a.0.0 }, a.0.1) x g.1) (t.0, t.1, refl)

abbrev spelled_field : ℕ → ℕ → List ℕ → List ℕ → List ℕ
spelled_field n v name value = to_le_bytes w16 n ++ to_le_bytes w32 v ++ name ++ value

-- a line, from its name, its lengths and its number on
abbrev from_name : List ℕ → ℕ → List ℕ × List ℕ → Result (Field × List ℕ) VectorFault
from_name before v name = cond (follows before name.0) (value_at name.0 v name.1) (Err Name)

abbrev from_lengths : List ℕ → ℕ → ℕ × List ℕ → Result (Field × List ℕ) VectorFault
from_lengths before n v = text_at n v.1 >>= from_name before v.0

abbrev from_length : List ℕ → ℕ × List ℕ → Result (Field × List ℕ) VectorFault
from_length before n = number_at w32 n.1 >>= from_lengths before n.0

field_takes : (before bytes : List ℕ) (x : Field × List ℕ) → IsBytes bytes → field_at before bytes ≡ Ok x → Takes bytes (field_bytes x.0) x.1
unfolding field_at
field_takes before bytes x fits e =
    let a = bind_ok (number_at w16 bytes) (from_length before) x e in
    let b = bind_ok (number_at w32 a.0.1) (from_lengths before a.0.0) x a.2 in
    let c = bind_ok (text_at a.0.0 b.0.1) (from_name before b.0.0) x b.2 in
    let d = held (follows before c.0.0) Name (value_at c.0.0 b.0.0 c.0.1) x c.2 in
    let t1 = number_takes w16 back16 bytes a.0 fits a.1 in
    let t2 = number_takes w32 back32 a.0.1 b.0 t1.fits b.1 in
    let t3 = text_takes a.0.0 b.0.1 c.0 t2.fits c.1 in
    let t4 = value_takes c.0.0 b.0.0 c.0.1 x t3.0.fits d.1 in
    let two = to_le_bytes w16 a.0.0 ++ to_le_bytes w32 b.0.0 in
    let e2 = takes_then bytes (to_le_bytes w16 a.0.0) a.0.1 (to_le_bytes w32 b.0.0) b.0.1 t1 t2 in
    let e3 = takes_then bytes two b.0.1 c.0.0 c.0.1 e2 t3.0 in
    let e4 = takes_then bytes (two ++ c.0.0) c.0.1 x.0.value x.1 e3 t4.0 in
    let same : spelled_field a.0.0 b.0.0 c.0.0 x.0.value ≡ field_bytes x.0 =
    ap (λ (n : ℕ). spelled_field n b.0.0 c.0.0 x.0.value) (sym t3.1)
    ∙ ap (λ (v : ℕ). spelled_field (length c.0.0) v c.0.0 x.0.value) (sym t4.1)
    ∙ ap (λ (name : List ℕ). spelled_field (length name) (length x.0.value) name x.0.value) (sym t4.2) in
    subst (λ (text : List ℕ). Takes bytes text x.1) same e4

lines_take : (n : ℕ) (before bytes : List ℕ) (x : List Field × List ℕ) → IsBytes bytes → fields_from n before bytes ≡ Ok x → Takes bytes (flat_map field_bytes x.0) x.1 × (length x.0 ≡ n)
unfolding fields_from
lines_take zero before bytes x fits e =
    subst (λ (y : List Field × List ℕ). Takes bytes (flat_map field_bytes y.0) y.1 × (length y.0 ≡ 0)) (ok_is ([], bytes) x e) (record { parts = refl; fits = fits }, refl)
lines_take (suc n) before bytes x fits e =
    let a = bind_ok (field_at before bytes) (λ first. fields_from n first.0.name first.1 >>= λ others. Ok (first.0 ∷ others.0, others.1)) x e in
    let b = bind_ok (fields_from n a.0.0.name a.0.1) (λ others. Ok (a.0.0 ∷ others.0, others.1)) x a.2 in
    let first = field_takes before bytes a.0 fits a.1 in
    let others = lines_take n a.0.0.name a.0.1 b.0 first.fits b.1 in
    let both = takes_then bytes (field_bytes a.0.0) a.0.1 (flat_map field_bytes b.0.0) b.0.1 first others.0 in
    let whole = subst (λ (text : List ℕ). Takes bytes text b.0.1) (sym (flat_map-cons field_bytes a.0.0 b.0.0)) both in
    subst (λ (y : List Field × List ℕ). Takes bytes (flat_map field_bytes y.0) y.1 × (length y.0 ≡ suc n)) (ok_is (a.0.0 ∷ b.0.0, b.0.1) x b.2) (whole, ap suc others.1)

fields_take : (bytes : List ℕ) (x : List Field × List ℕ) → IsBytes bytes → fields_at bytes ≡ Ok x → Takes bytes (fields_bytes x.0) x.1
unfolding fields_at
fields_take bytes x fits e =
    let a = bind_ok (number_at w16 bytes) (λ count. cond (ltb 128 count.0) (Err Count) (fields_from count.0 [] count.1)) x e in
    let g = passed (ltb 128 a.0.0) Count (fields_from a.0.0 [] a.0.1) x a.2 in
    let count = number_takes w16 back16 bytes a.0 fits a.1 in
    let lines = lines_take a.0.0 [] a.0.1 x count.fits g.1 in
    let both = takes_then bytes (to_le_bytes w16 a.0.0) a.0.1 (flat_map field_bytes x.0) x.1 count lines.0 in
    subst (λ (n : ℕ). Takes bytes (to_le_bytes w16 n ++ flat_map field_bytes x.0) x.1) (sym lines.1) both

-- ---- tables

abbrev Found : Type 0
Found = List TableRow × ℕ

told_ok : (bytes : List ℕ) (r : Result Found TableFault) (x : List TableRow × List ℕ) → told_table bytes r ≡ Ok x → (found : Found) × (r ≡ Ok found) × ((found.0, drop found.1 bytes) ≡ x)
told_ok bytes (Ok found) x e = (found, refl, ok_is (found.0, drop found.1 bytes) x e)
told_ok bytes (Err fault) x e = absurd cc

table_takes : (total : ℕ) (bytes : List ℕ) (x : List TableRow × List ℕ) → IsBytes bytes → table_at total bytes ≡ Ok x → Takes bytes (table_bytes x.0) x.1
table_takes total bytes x fits e =
    let a = told_ok bytes (read_table bytes total) x e in
    let found = a.0 in
    let read = is_spelled bytes total (Ok (record { rows = found.0; room = 0 }, found.1)) fits a.1 in
    let made : Takes bytes (table_bytes found.0) (drop found.1 bytes) = record {
      parts = sym (take-append-drop found.1 bytes) ∙ ap (λ (t : List ℕ). t ++ drop found.1 bytes) read.spelling;
      fits = IsBytes-drop found.1 bytes fits;
    } in
    subst (λ (y : List TableRow × List ℕ). Takes bytes (table_bytes y.0) y.1) a.2 made

-- ---- alternates

-- an alternate, from its last part to its first
abbrev made : ℕ → ℕ → ℕ → List Field → List Field → List TableRow × List ℕ → Result (Stored × List ℕ) VectorFault
made put pin n request response table = Ok (record { put = put; pin = pin; length = n; request = request; response = response; table = table.0 }, table.1)

abbrev from_response : ℕ → ℕ → ℕ → List Field → List Field × List ℕ → Result (Stored × List ℕ) VectorFault
from_response put pin n request response = table_at n response.1 >>= made put pin n request response.0

abbrev from_request : ℕ → ℕ → ℕ → List Field × List ℕ → Result (Stored × List ℕ) VectorFault
from_request put pin n request = fields_at request.1 >>= from_response put pin n request.0

abbrev from_body : ℕ → ℕ → ℕ × List ℕ → Result (Stored × List ℕ) VectorFault
from_body put pin n = fields_at n.1 >>= from_request put pin n.0

abbrev from_pin : ℕ → ℕ × List ℕ → Result (Stored × List ℕ) VectorFault
from_pin put pin = number_at w64 pin.1 >>= from_body put pin.0

abbrev from_put : ℕ × List ℕ → Result (Stored × List ℕ) VectorFault
from_put put = number_at w64 put.1 >>= from_pin put.0

alternate_takes : (bytes : List ℕ) (x : Stored × List ℕ) → IsBytes bytes → alternate_at bytes ≡ Ok x → Takes bytes (alternate_bytes x.0) x.1
unfolding alternate_at
alternate_takes bytes x fits e =
    let a = bind_ok (number_at w64 bytes) from_put x e in
    let b = bind_ok (number_at w64 a.0.1) (from_pin a.0.0) x a.2 in
    let c = bind_ok (number_at w64 b.0.1) (from_body a.0.0 b.0.0) x b.2 in
    let d = bind_ok (fields_at c.0.1) (from_request a.0.0 b.0.0 c.0.0) x c.2 in
    let f = bind_ok (fields_at d.0.1) (from_response a.0.0 b.0.0 c.0.0 d.0.0) x d.2 in
    let g = bind_ok (table_at c.0.0 f.0.1) (made a.0.0 b.0.0 c.0.0 d.0.0 f.0.0) x f.2 in
    let t1 = number_takes w64 back64 bytes a.0 fits a.1 in
    let t2 = number_takes w64 back64 a.0.1 b.0 t1.fits b.1 in
    let t3 = number_takes w64 back64 b.0.1 c.0 t2.fits c.1 in
    let t4 = fields_take c.0.1 d.0 t3.fits d.1 in
    let t5 = fields_take d.0.1 f.0 t4.fits f.1 in
    let t6 = table_takes c.0.0 f.0.1 g.0 t5.fits g.1 in
    let two = to_le_bytes w64 a.0.0 ++ to_le_bytes w64 b.0.0 in
    let three = two ++ to_le_bytes w64 c.0.0 in
    let four = three ++ fields_bytes d.0.0 in
    let five = four ++ fields_bytes f.0.0 in
    let e2 = takes_then bytes (to_le_bytes w64 a.0.0) a.0.1 (to_le_bytes w64 b.0.0) b.0.1 t1 t2 in
    let e3 = takes_then bytes two b.0.1 (to_le_bytes w64 c.0.0) c.0.1 e2 t3 in
    let e4 = takes_then bytes three c.0.1 (fields_bytes d.0.0) d.0.1 e3 t4 in
    let e5 = takes_then bytes four d.0.1 (fields_bytes f.0.0) f.0.1 e4 t5 in
    let e6 = takes_then bytes five f.0.1 (table_bytes g.0.0) g.0.1 e5 t6 in
    let whole : Stored × List ℕ = (record { put = a.0.0; pin = b.0.0; length = c.0.0; request = d.0.0; response = f.0.0; table = g.0.0 }, g.0.1) in
    subst (λ (y : Stored × List ℕ). Takes bytes (alternate_bytes y.0) y.1) (ok_is whole x g.2) e6

alternates_take : (n : ℕ) (bytes : List ℕ) (x : List Stored × List ℕ) → IsBytes bytes → alternates_at n bytes ≡ Ok x → Takes bytes (flat_map alternate_bytes x.0) x.1 × (length x.0 ≡ n)
unfolding alternates_at
alternates_take zero bytes x fits e =
    subst (λ (y : List Stored × List ℕ). Takes bytes (flat_map alternate_bytes y.0) y.1 × (length y.0 ≡ 0)) (ok_is ([], bytes) x e) (record { parts = refl; fits = fits }, refl)
alternates_take (suc n) bytes x fits e =
    let a = bind_ok (alternate_at bytes) (λ first. alternates_at n first.1 >>= λ others. Ok (first.0 ∷ others.0, others.1)) x e in
    let b = bind_ok (alternates_at n a.0.1) (λ others. Ok (a.0.0 ∷ others.0, others.1)) x a.2 in
    let first = alternate_takes bytes a.0 fits a.1 in
    let others = alternates_take n a.0.1 b.0 first.fits b.1 in
    let both = takes_then bytes (alternate_bytes a.0.0) a.0.1 (flat_map alternate_bytes b.0.0) b.0.1 first others.0 in
    let whole = subst (λ (text : List ℕ). Takes bytes text b.0.1) (sym (flat_map-cons alternate_bytes a.0.0 b.0.0)) both in
    subst (λ (y : List Stored × List ℕ). Takes bytes (flat_map alternate_bytes y.0) y.1 × (length y.0 ≡ suc n)) (ok_is (a.0.0 ∷ b.0.0, b.0.1) x b.2) (whole, ap suc others.1)

-- ---- the vector

some_of : (n : ℕ) → eqb n 0 ≡ false → 0 < n
some_of zero h = absurd cc
some_of (suc n) h = omega arith

-- all of the bytes, and one alternate at least
pub vector_takes : (bytes : List ℕ) (alternates : List Stored) → IsBytes bytes → read_vector bytes ≡ Ok alternates → (bytes ≡ vector_bytes alternates) × (0 < length alternates)
unfolding read_vector
vector_takes bytes alternates fits e =
    let a = bind_ok (number_at w32 bytes) (λ count. cond (eqb count.0 0 || ltb 16 count.0) (Err Count) (only_alternates count.0 count.1)) alternates e in
    let g = passed (eqb a.0.0 0 || ltb 16 a.0.0) Count (only_alternates a.0.0 a.0.1) alternates a.2 in
    let b = bind_ok (alternates_at a.0.0 a.0.1) (λ read. cond (eqb (length read.1) 0) (Ok read.0) (Err Rest)) alternates g.1 in
    let h = held (eqb (length b.0.1) 0) Rest (Ok b.0.0) alternates b.2 in
    let count = number_takes w32 back32 bytes a.0 fits a.1 in
    let each = alternates_take a.0.0 a.0.1 b.0 count.fits b.1 in
    let nothing : b.0.1 ≡ [] = nil_from_length b.0.1 (eqb-true _ _ h.0) in
    let both = (takes_then bytes (to_le_bytes w32 a.0.0) a.0.1 (flat_map alternate_bytes b.0.0) b.0.1 count each.0).parts in
    let whole : bytes ≡ vector_bytes b.0.0 =
    both
    ∙ ap (λ (rest : List ℕ). (to_le_bytes w32 a.0.0 ++ flat_map alternate_bytes b.0.0) ++ rest) nothing
    ∙ append-nil (to_le_bytes w32 a.0.0 ++ flat_map alternate_bytes b.0.0)
    ∙ ap (λ (n : ℕ). to_le_bytes w32 n ++ flat_map alternate_bytes b.0.0) (sym each.1) in
    let some : 0 < a.0.0 = some_of a.0.0 (or_parts (eqb a.0.0 0) (ltb 16 a.0.0) g.0).0 in
    let made : (bytes ≡ vector_bytes b.0.0) × (0 < length b.0.0) = (whole, omega (arith, some, each.1)) in
    subst (λ (v : List Stored). (bytes ≡ vector_bytes v) × (0 < length v)) (ok_is b.0.0 alternates h.1) made
