-- Field lines in order: where a line goes, and that the order is kept.
use Rattle.std.proofs.Common.{◌≡◌, ℕ, zero, suc, ◌<◌, ◌≤◌, Bool, true, false, cond, leb, ltb, List, [], ◌∷◌, length, drop, get_or, refl, ap, ◌∙◌, arith}
use Rattle.std.specs.Prelude.{◌&&◌}
use Rattle.std.specs.List.{insert, list_all, AllByRecursion}
use Rattle.std.specs.Ordering.{nat_cmp, is_gt, ordering_reverse}
use Rattle.std.specs.declared.cmp.Ordering.{Ordering}
use Rattle.std.specs.declared.cmp.Ordering.TheVariants.{Less, Equal, Greater}
use Rattle.std.specs.Cmp.{upto, tied_itself}
use Rattle.std.specs.Cmp.Lexicographic.{slice_cmp, nat_list_cmp_total}
use Rattle.hex.specs.Hex.{IsBytes}
use Rattle.http_header.specs.Token.{is_token_byte, lowercase}
use Rattle.http_header.specs.FieldValue.{plain_value}
use Rattle.http_header.proofs.TokenLemmas.{is_token_byte-to_ascii_lowercase, lowercase-lowercase_lem}
use Rattle.std.specs.Char.{to_ascii_lowercase}
use Rattle.std.proofs.lemmas.List.{length-map}
use Rattle.alternate_vector.specs.declared.fields.Line.{Line}
use Rattle.alternate_vector.specs.Field.{Field, AreFields, IsKept, IsRising, is_above, is_name, is_value, made_field, with_field}
use Rattle.alternate_vector.specs.Lines.{field_of, fields_of}

pub chain : (a b c : List ℕ) → is_above a b ≡ false → is_above b c ≡ false → is_above a c ≡ false
chain a b c h k = upto nat_list_cmp_total a b c h k

turn_above : (o : Ordering) → is_gt o ≡ true → is_gt (ordering_reverse o) ≡ false
turn_above Less h = absurd cc
turn_above Equal h = absurd cc
turn_above Greater h = refl

other_way : (a b : List ℕ) → is_above a b ≡ true → is_above b a ≡ false
other_way a b h = ap is_gt (nat_list_cmp_total.antisymm b a) ∙ turn_above (slice_cmp nat_cmp a b) h

pub itself : (a : List ℕ) → is_above a a ≡ false
itself a = ap is_gt (tied_itself nat_list_cmp_total a)

-- ---- where a line goes

pub placed : (lines : List Line) (at : ℕ) (line d : Line) → ((k : ℕ) → k < at → is_above (get_or lines k d).name line.name ≡ false) → (at < length lines → is_above (get_or lines at d).name line.name ≡ true)
    → at ≤ length lines → fields_of (insert lines at line) ≡ with_field (fields_of lines) (field_of line)
placed [] zero line d below here le = refl
placed [] (suc at) line d below here le = absurd (omega (arith, le))
placed (x ∷ xs) zero line d below here le = rw (here (omega arith)) refl
placed (x ∷ xs) (suc at) line d below here le =
    let first : is_above x.name line.name ≡ false = below 0 (omega arith) in
    let rest = placed xs at line d (λ k l. below (suc k) (omega (arith, l))) (λ l. here (omega (arith, l))) (omega (arith, le)) in
    rw first (ap (λ (fs : List Field). field_of x ∷ fs) rest)

each_with : (P : Field → Type 0) (fields : List Field) (f : Field) → AllByRecursion P fields → P f → AllByRecursion P (with_field fields f)
each_with P [] f each p = (p, tt)
each_with P (x ∷ xs) f each p =
    elim (is_above x.name f.name) as (λ b. AllByRecursion P (cond b (f ∷ x ∷ xs) (x ∷ with_field xs f))) [
      | true ↦ (p, each)
      | false ↦ (each.0, each_with P xs f each.1 p)
    ]

length-with : (fields : List Field) (f : Field) → length (with_field fields f) ≡ suc (length fields)
length-with [] f = refl
length-with (x ∷ xs) f =
    elim (is_above x.name f.name) as (λ b. length (cond b (f ∷ x ∷ xs) (x ∷ with_field xs f)) ≡ suc (suc (length xs))) [
      | true ↦ refl
      | false ↦ ap suc (length-with xs f)
    ]

each_above : (a b : List ℕ) (fields : List Field) → is_above a b ≡ false → AllByRecursion (λ other. is_above b other.name ≡ false) fields → AllByRecursion (λ other. is_above a other.name ≡ false) fields
each_above a b [] h each = tt
each_above a b (x ∷ xs) h each = (chain a b x.name h each.0, each_above a b xs h each.1)

rising_with : (fields : List Field) (f : Field) → IsRising fields → IsRising (with_field fields f)
rising_with [] f rising = (tt, tt)
rising_with (x ∷ xs) f rising =
    elim (is_above x.name f.name) as (λ b. is_above x.name f.name ≡ b → IsRising (cond b (f ∷ x ∷ xs) (x ∷ with_field xs f))) [
      | true ↦ λ e. let h = other_way x.name f.name e in ((h, each_above f.name x.name xs h rising.0), rising)
      | false ↦ λ e. (each_with (λ other. is_above x.name other.name ≡ false) xs f rising.0 e, rising_with xs f rising.1)
    ] refl

pub fields_with : (fields : List Field) (f : Field) → AreFields fields → length fields < 128 → IsKept f → AreFields (with_field fields f)
fields_with fields f valid few kept = record {
  few = omega (arith, length-with fields f, few);
  each = each_with IsKept fields f valid.each kept;
  rising = rising_with fields f valid.rising;
}

-- ---- lines in order

each_at : (a : List ℕ) (lines : List Line) (k : ℕ) (d : Line) → AllByRecursion (λ other. is_above a other.name ≡ false) (fields_of lines) → k < length lines → is_above a (get_or lines k d).name ≡ false
each_at a [] k d each lt = absurd (omega (arith, lt))
each_at a (x ∷ xs) zero d each lt = each.0
each_at a (x ∷ xs) (suc k) d each lt = each_at a xs k d each.1 (omega (arith, lt))

pub rising_at : (lines : List Line) (i j : ℕ) (d : Line) → IsRising (fields_of lines) → i ≤ j → j < length lines → is_above (get_or lines i d).name (get_or lines j d).name ≡ false
rising_at [] i j d rising le lt = absurd (omega (arith, lt))
rising_at (x ∷ xs) zero zero d rising le lt = itself x.name
rising_at (x ∷ xs) zero (suc j) d rising le lt = each_at x.name xs j d rising.0 (omega (arith, lt))
rising_at (x ∷ xs) (suc i) zero d rising le lt = absurd (omega (arith, le))
rising_at (x ∷ xs) (suc i) (suc j) d rising le lt = rising_at xs i j d rising.1 (omega (arith, le)) (omega (arith, lt))

pub rising_drop : (n : ℕ) (lines : List Line) → IsRising (fields_of lines) → IsRising (fields_of (drop n lines))
rising_drop zero lines rising = rising
rising_drop (suc n) [] rising = tt
rising_drop (suc n) (x ∷ xs) rising = rising_drop n xs rising.1

-- ---- a line that is made

token_lower : (bytes : List ℕ) → list_all is_token_byte bytes ≡ true → list_all is_token_byte (lowercase bytes) ≡ true
token_lower [] h = refl
token_lower (b ∷ bytes) h =
    elim (is_token_byte b) as (λ t. is_token_byte b ≡ t → (t && list_all is_token_byte bytes) ≡ true → (is_token_byte (to_ascii_lowercase b) && list_all is_token_byte (lowercase bytes)) ≡ true) [
      | true ↦ λ e r. rw (is_token_byte-to_ascii_lowercase b e) (token_lower bytes r)
      | false ↦ λ e r. absurd cc
    ] refl h

pub three : (a b c : Bool) → (a && b && c) ≡ true → (a ≡ true) × (b ≡ true) × (c ≡ true)
three true true c h = (refl, refl, h)
three true false c h = absurd cc
three false b c h = absurd cc

three_back : (a b c : Bool) → a ≡ true → b ≡ true → c ≡ true → (a && b && c) ≡ true
three_back a b c h k l = rw (h, k, l) refl

pub name_lower : (bytes : List ℕ) → is_name bytes ≡ true → is_name (lowercase bytes) ≡ true
name_lower bytes h =
    let parts = three (ltb 0 (length bytes)) (leb (length bytes) 256) (list_all is_token_byte bytes) h in
    let same : length (lowercase bytes) ≡ length bytes = simp length-map in
    three_back (ltb 0 (length (lowercase bytes))) (leb (length (lowercase bytes)) 256) (list_all is_token_byte (lowercase bytes))
    (ap (λ (n : ℕ). ltb 0 n) same ∙ parts.0) (ap (λ (n : ℕ). leb n 256) same ∙ parts.1) (token_lower bytes parts.2)

pub kept_made : (name value : List ℕ) → is_name name ≡ true → is_value value ≡ true → IsBytes value → IsKept (made_field name value)
kept_made name value n v b = record { name = name_lower name n; lower = lowercase-lowercase_lem name; value = v; bytes = b }

pub some_line : Line
some_line = record { name = []; value = plain_value [] }

-- the line at a place
pub kept_at : (lines : List Line) (k : ℕ) (d : Line) → AllByRecursion IsKept (fields_of lines) → k < length lines → IsKept (field_of (get_or lines k d))
kept_at [] k d each lt = absurd (omega (arith, lt))
kept_at (x ∷ xs) zero d each lt = each.0
kept_at (x ∷ xs) (suc k) d each lt = kept_at xs k d each.1 (omega (arith, lt))
