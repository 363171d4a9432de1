-- What is read of a vector may be kept.
use Rattle.std.proofs.Common.{◌≡◌, ℕ, zero, suc, ◌<◌, ◌≤◌, ◌^◌, Bool, true, false, cond, ltb, eqb, List, [], ◌∷◌, length, take, drop, Result, Ok, Err, refl, sym, ap, subst, arith}
use Rattle.std.specs.Prelude.{◌||◌}
use Rattle.std.specs.Int.{Width, w16, w32, w64, byte_len, from_le_bytes}
use Rattle.std.specs.List.{AllByRecursion}
use Rattle.std.proofs.lemmas.Bool.{ltb-false, or_parts}
use Rattle.http_header.specs.Token.{lowercase}
use Rattle.hex.specs.Hex.{IsBytes}
use Rattle.tape_base.proofs.Bytes.{IsBytes-drop, IsBytes-take}
use Rattle.doc_header.proofs.Stands.{below_64}
use Rattle.doc_header.specs.Reading.{doc_number as number_in, slice_at as bytes_at}
use Rattle.fragment_table.specs.Table.{TableRow, AreRows, total_length}
use Rattle.fragment_table.specs.Reading.{read_table}
use Rattle.fragment_table.specs.declared.fault.TableFault.{TableFault}
use Rattle.fragment_table.proofs.Whole.{is_spelled}
use Rattle.alternate_vector.specs.declared.fault.VectorFault.{VectorFault}
use Rattle.alternate_vector.specs.declared.fault.VectorFault.TheVariants.{Short, Count, Name, Value, Rest}
use Rattle.alternate_vector.specs.Field.{Field, AreFields, IsKept, IsRising, is_above, is_name, is_value}
use Rattle.alternate_vector.specs.Alternates.{Stored, AreStoredAlternates, IsStored}
use Rattle.alternate_vector.specs.Reading.{◌>>=◌, alternate_at, alternates_at, field_at, fields_at, fields_from, follows, number_at, only_alternates, read_vector, table_at, text_at, told_table, value_at}
use Rattle.alternate_vector.specs.Spelling.{IsSpelling, vector_bytes}
use Rattle.alternate_vector.proofs.Loops.{follows_lower, follows_name, follows_order}
use Rattle.alternate_vector.proofs.Order.{chain}
use Rattle.alternate_vector.proofs.Spelled.{vector_takes}

-- the value of a step that did not fail
bind_ok : {A B : Type 0} (r : Result A VectorFault) (f : A → Result B VectorFault) (y : B) → (r >>= f) ≡ Ok y → (x : A) × (r ≡ Ok x) × (f x ≡ Ok y)
bind_ok (Ok x) f y e = (x, refl, e)
bind_ok (Err d) f y e = absurd cc

-- a test that did not fail
passed : {A : Type 0} (b : Bool) (d : VectorFault) (r : Result A VectorFault) (y : A) → cond b (Err d) r ≡ Ok y → (b ≡ false) × (r ≡ Ok y)
passed true d r y e = absurd cc
passed false d r y e = (refl, e)

held : {A : Type 0} (b : Bool) (d : VectorFault) (r : Result A VectorFault) (y : A) → cond b r (Err d) ≡ Ok y → (b ≡ true) × (r ≡ Ok y)
held true d r y e = (refl, e)
held false d r y e = absurd cc

abbrev done : {A : Type 0} → A → Result A VectorFault
done x = Ok x

ok_is : {A : Type 0} (x y : A) → done x ≡ done y → x ≡ y
ok_is x y e = cc

-- ---- numbers and texts

number_rest : (w : Width) (bytes : List ℕ) (x : ℕ × List ℕ) → IsBytes bytes → number_at w bytes ≡ Ok x → (x.0 ≡ from_le_bytes w (take (byte_len w) bytes)) × IsBytes x.1
number_rest w bytes x fits e =
    let n = byte_len w in
    let g = passed (ltb (length bytes) n) Short (Ok (from_le_bytes w (take n bytes), drop n bytes)) x e in
    subst (λ (y : ℕ × List ℕ). (y.0 ≡ from_le_bytes w (take n bytes)) × IsBytes y.1) (ok_is (from_le_bytes w (take n bytes), drop n bytes) x g.1) (refl, IsBytes-drop n bytes fits)

front_small : (bytes : List ℕ) → IsBytes bytes → from_le_bytes w64 (take 8 bytes) < 2 ^ 64
unfolding number_in bytes_at
front_small bytes fits = below_64 0 bytes fits

long_number : (bytes : List ℕ) (x : ℕ × List ℕ) → IsBytes bytes → number_at w64 bytes ≡ Ok x → (x.0 < 2 ^ 64) × IsBytes x.1
long_number bytes x fits e =
    let r = number_rest w64 bytes x fits e in
    (subst (λ n. n < 2 ^ 64) (sym r.0) (front_small bytes fits), r.1)

text_rest : (n : ℕ) (bytes : List ℕ) (x : List ℕ × List ℕ) → IsBytes bytes → text_at n bytes ≡ Ok x → IsBytes x.0 × IsBytes x.1
text_rest n bytes x fits e =
    let g = passed (ltb (length bytes) n) Short (Ok (take n bytes, drop n bytes)) x e in
    subst (λ (y : List ℕ × List ℕ). IsBytes y.0 × IsBytes y.1) (ok_is (take n bytes, drop n bytes) x g.1) (IsBytes-take n bytes fits, IsBytes-drop n bytes fits)

-- ---- lines

-- a line whose name has this one before it
abbrev Follows : List ℕ → Field → Type 0
Follows before f = is_above before f.name ≡ false

value_kept : (name : List ℕ) (n : ℕ) (bytes : List ℕ) (x : Field × List ℕ) → IsBytes bytes → value_at name n bytes ≡ Ok x
    → (x.0.name ≡ name) × (is_value x.0.value ≡ true) × IsBytes x.0.value × IsBytes x.1
value_kept name n bytes x fits e =
    let a = bind_ok (text_at n bytes) (λ value. cond (is_value value.0) (Ok (record { name = name; value = value.0 }, value.1)) (Err Value)) x e in
    let g = held (is_value a.0.0) Value (Ok (record { name = name; value = a.0.0 }, a.0.1)) x a.2 in
    let t = text_rest n bytes a.0 fits a.1 in
    subst (λ (y : Field × List ℕ). (y.0.name ≡ name) × (is_value y.0.value ≡ true) × IsBytes y.0.value × IsBytes y.1)
    (ok_is (record { name = name; value = a.0.0 }, a.0.1) x g.1) (refl, g.0, t.0, t.1)

abbrev from_name : List ℕ → ℕ → List ℕ × List ℕ → Result (Field × List ℕ) VectorFault
from_name before v name = cond (follows before name.0) (value_at name.0 v name.1) (Err Name)

abbrev from_lengths : List ℕ → ℕ → ℕ × List ℕ → Result (Field × List ℕ) VectorFault
from_lengths before n v = text_at n v.1 >>= from_name before v.0

abbrev from_length : List ℕ → ℕ × List ℕ → Result (Field × List ℕ) VectorFault
from_length before n = number_at w32 n.1 >>= from_lengths before n.0

field_kept : (before bytes : List ℕ) (x : Field × List ℕ) → IsBytes bytes → field_at before bytes ≡ Ok x → IsKept x.0 × Follows before x.0 × IsBytes x.1
unfolding field_at
field_kept before bytes x fits e =
    let a = bind_ok (number_at w16 bytes) (from_length before) x e in
    let b = bind_ok (number_at w32 a.0.1) (from_lengths before a.0.0) x a.2 in
    let c = bind_ok (text_at a.0.0 b.0.1) (from_name before b.0.0) x b.2 in
    let d = held (follows before c.0.0) Name (value_at c.0.0 b.0.0 c.0.1) x c.2 in
    let t1 = number_rest w16 bytes a.0 fits a.1 in
    let t2 = number_rest w32 a.0.1 b.0 t1.1 b.1 in
    let t3 = text_rest a.0.0 b.0.1 c.0 t2.1 c.1 in
    let v = value_kept c.0.0 b.0.0 c.0.1 x t3.1 d.1 in
    let name = sym v.0 in (
      record {
        name = subst (λ (n : List ℕ). is_name n ≡ true) name (follows_name before c.0.0 d.0);
        lower = subst (λ (n : List ℕ). lowercase n ≡ n) name (follows_lower before c.0.0 d.0);
        value = v.1;
        bytes = v.2;
      },
      subst (λ (n : List ℕ). is_above before n ≡ false) name (follows_order before c.0.0 d.0),
      v.3,
    )

behind_all : (before name : List ℕ) (fields : List Field) → is_above before name ≡ false → AllByRecursion (Follows name) fields → AllByRecursion (Follows before) fields
behind_all before name [] h each = tt
behind_all before name (f ∷ fields) h each = (chain before name f.name h each.0, behind_all before name fields h each.1)

-- lines of a message behind a name
record AreLines (before : List ℕ) (n : ℕ) (fields : List Field) (rest : List ℕ) : Type 0 where
  each : AllByRecursion IsKept fields
  rising : IsRising fields
  behind : AllByRecursion (Follows before) fields
  count : length fields ≡ n
  fits : IsBytes rest

lines_kept : (n : ℕ) (before bytes : List ℕ) (x : List Field × List ℕ) → IsBytes bytes → fields_from n before bytes ≡ Ok x → AreLines before n x.0 x.1
unfolding fields_from
lines_kept zero before bytes x fits e =
    subst (λ (y : List Field × List ℕ). AreLines before 0 y.0 y.1) (ok_is ([], bytes) x e) (record { each = tt; rising = tt; behind = tt; count = refl; fits = fits })
lines_kept (suc n) before bytes x fits e =
    let a = bind_ok (field_at before bytes) (λ first. fields_from n first.0.name first.1 >>= λ others. Ok (first.0 ∷ others.0, others.1)) x e in
    let b = bind_ok (fields_from n a.0.0.name a.0.1) (λ others. Ok (a.0.0 ∷ others.0, others.1)) x a.2 in
    let first = field_kept before bytes a.0 fits a.1 in
    let others = lines_kept n a.0.0.name a.0.1 b.0 first.2 b.1 in
    subst (λ (y : List Field × List ℕ). AreLines before (suc n) y.0 y.1) (ok_is (a.0.0 ∷ b.0.0, b.0.1) x b.2)
    (record {
      each = (first.0, others.each);
      rising = (others.behind, others.rising);
      behind = (first.1, behind_all before a.0.0.name b.0.0 first.1 others.behind);
      count = ap suc others.count;
      fits = others.fits;
    })

fields_kept : (bytes : List ℕ) (x : List Field × List ℕ) → IsBytes bytes → fields_at bytes ≡ Ok x → AreFields x.0 × IsBytes x.1
unfolding fields_at
fields_kept bytes x fits e =
    let a = bind_ok (number_at w16 bytes) (λ count. cond (ltb 128 count.0) (Err Count) (fields_from count.0 [] count.1)) x e in
    let g = passed (ltb 128 a.0.0) Count (fields_from a.0.0 [] a.0.1) x a.2 in
    let few : a.0.0 ≤ 128 = ltb-false _ _ g.0 in
    let lines = lines_kept a.0.0 [] a.0.1 x (number_rest w16 bytes a.0 fits a.1).1 g.1 in
    (record { few = omega (arith, few, lines.count); each = lines.each; rising = lines.rising }, lines.fits)

-- ---- tables

abbrev Found : Type 0
Found = List TableRow × ℕ

told_ok : (bytes : List ℕ) (r : Result Found TableFault) (x : List TableRow × List ℕ) → told_table bytes r ≡ Ok x → (found : Found) × (r ≡ Ok found) × ((found.0, drop found.1 bytes) ≡ x)
told_ok bytes (Ok found) x e = (found, refl, ok_is (found.0, drop found.1 bytes) x e)
told_ok bytes (Err fault) x e = absurd cc

table_kept : (total : ℕ) (bytes : List ℕ) (x : List TableRow × List ℕ) → IsBytes bytes → table_at total bytes ≡ Ok x → AreRows x.0 × (total_length x.0 ≡ total) × IsBytes x.1
table_kept total bytes x fits e =
    let a = told_ok bytes (read_table bytes total) x e in
    let found = a.0 in
    let read = is_spelled bytes total (Ok (record { rows = found.0; room = 0 }, found.1)) fits a.1 in
    subst (λ (y : List TableRow × List ℕ). AreRows y.0 × (total_length y.0 ≡ total) × IsBytes y.1) a.2 (read.rows, read.sum, IsBytes-drop found.1 bytes fits)

-- ---- alternates

-- an alternate, from its last part to its first
abbrev made : ℕ → ℕ → ℕ → List Field → List Field → List TableRow × List ℕ → Result (Stored × List ℕ) VectorFault
made put pin n request response table = Ok (record { put = put; pin = pin; length = n; request = request; response = response; table = table.0 }, table.1)

abbrev from_response : ℕ → ℕ → ℕ → List Field → List Field × List ℕ → Result (Stored × List ℕ) VectorFault
from_response put pin n request response = table_at n response.1 >>= made put pin n request response.0

abbrev from_request : ℕ → ℕ → ℕ → List Field × List ℕ → Result (Stored × List ℕ) VectorFault
from_request put pin n request = fields_at request.1 >>= from_response put pin n request.0

abbrev from_body : ℕ → ℕ → ℕ × List ℕ → Result (Stored × List ℕ) VectorFault
from_body put pin n = fields_at n.1 >>= from_request put pin n.0

abbrev from_pin : ℕ → ℕ × List ℕ → Result (Stored × List ℕ) VectorFault
from_pin put pin = number_at w64 pin.1 >>= from_body put pin.0

abbrev from_put : ℕ × List ℕ → Result (Stored × List ℕ) VectorFault
from_put put = number_at w64 put.1 >>= from_pin put.0

alternate_kept : (bytes : List ℕ) (x : Stored × List ℕ) → IsBytes bytes → alternate_at bytes ≡ Ok x → IsStored x.0 × IsBytes x.1
unfolding alternate_at
alternate_kept bytes x fits e =
    let a = bind_ok (number_at w64 bytes) from_put x e in
    let b = bind_ok (number_at w64 a.0.1) (from_pin a.0.0) x a.2 in
    let c = bind_ok (number_at w64 b.0.1) (from_body a.0.0 b.0.0) x b.2 in
    let d = bind_ok (fields_at c.0.1) (from_request a.0.0 b.0.0 c.0.0) x c.2 in
    let f = bind_ok (fields_at d.0.1) (from_response a.0.0 b.0.0 c.0.0 d.0.0) x d.2 in
    let g = bind_ok (table_at c.0.0 f.0.1) (made a.0.0 b.0.0 c.0.0 d.0.0 f.0.0) x f.2 in
    let t1 = long_number bytes a.0 fits a.1 in
    let t2 = long_number a.0.1 b.0 t1.1 b.1 in
    let t3 = long_number b.0.1 c.0 t2.1 c.1 in
    let t4 = fields_kept c.0.1 d.0 t3.1 d.1 in
    let t5 = fields_kept d.0.1 f.0 t4.1 f.1 in
    let t6 = table_kept c.0.0 f.0.1 g.0 t5.1 g.1 in
    let whole : Stored × List ℕ = (record { put = a.0.0; pin = b.0.0; length = c.0.0; request = d.0.0; response = f.0.0; table = g.0.0 }, g.0.1) in
    subst (λ (y : Stored × List ℕ). IsStored y.0 × IsBytes y.1) (ok_is whole x g.2)
    (record { put = t1.0; pin = t2.0; request = t4.0; response = t5.0; table = t6.0; length = t6.1 }, t6.2)

alternates_kept : (n : ℕ) (bytes : List ℕ) (x : List Stored × List ℕ) → IsBytes bytes → alternates_at n bytes ≡ Ok x → AllByRecursion IsStored x.0 × (length x.0 ≡ n)
unfolding alternates_at
alternates_kept zero bytes x fits e =
    subst (λ (y : List Stored × List ℕ). AllByRecursion IsStored y.0 × (length y.0 ≡ 0)) (ok_is ([], bytes) x e) (tt, refl)
alternates_kept (suc n) bytes x fits e =
    let a = bind_ok (alternate_at bytes) (λ first. alternates_at n first.1 >>= λ others. Ok (first.0 ∷ others.0, others.1)) x e in
    let b = bind_ok (alternates_at n a.0.1) (λ others. Ok (a.0.0 ∷ others.0, others.1)) x a.2 in
    let first = alternate_kept bytes a.0 fits a.1 in
    let others = alternates_kept n a.0.1 b.0 first.1 b.1 in
    subst (λ (y : List Stored × List ℕ). AllByRecursion IsStored y.0 × (length y.0 ≡ suc n)) (ok_is (a.0.0 ∷ b.0.0, b.0.1) x b.2)
    ((first.0, others.0), ap suc others.1)

vector_kept : (bytes : List ℕ) (list : List Stored) → IsBytes bytes → read_vector bytes ≡ Ok list → AreStoredAlternates list
unfolding read_vector
vector_kept bytes list fits e =
    let a = bind_ok (number_at w32 bytes) (λ count. cond (eqb count.0 0 || ltb 16 count.0) (Err Count) (only_alternates count.0 count.1)) list e in
    let g = passed (eqb a.0.0 0 || ltb 16 a.0.0) Count (only_alternates a.0.0 a.0.1) list a.2 in
    let few : a.0.0 ≤ 16 = ltb-false _ _ (or_parts (eqb a.0.0 0) (ltb 16 a.0.0) g.0).1 in
    let b = bind_ok (alternates_at a.0.0 a.0.1) (λ read. cond (eqb (length read.1) 0) (Ok read.0) (Err Rest)) list g.1 in
    let h = held (eqb (length b.0.1) 0) Rest (Ok b.0.0) list b.2 in
    let each = alternates_kept a.0.0 a.0.1 b.0 (number_rest w32 bytes a.0 fits a.1).1 b.1 in
    subst AreStoredAlternates (ok_is b.0.0 list h.1) (record { few = omega (arith, few, each.1); each = each.0 })

-- what is read spells what is kept of it
pub vector_spelled : (bytes : List ℕ) (list : List Stored) → IsBytes bytes → read_vector bytes ≡ Ok list → IsSpelling (vector_bytes list) list × (bytes ≡ vector_bytes list)
vector_spelled bytes list fits e =
    let takes = vector_takes bytes list fits e in
    (record { some = takes.1; stored = vector_kept bytes list fits e; spelled = refl }, takes.0)
