-- An accepted copy is spelled as one is written, and what is spelled so is accepted.
use Rattle.std.proofs.Common.{◌≡◌, ◌≢◌, ◌≤◌, ◌<◌, ◌+◌, ◌-◌, ◌^◌, ◌⊎◌, inl, inr, ℕ, Bool, true, false, cond, List, ◌++◌, length, take, drop, Option, Some, None, Result, Ok, Err, refl, sym, ap, subst, ◌∙◌, append_assoc, arith}
use Rattle.std.specs.Prelude.{◌*◌, ◌/◌, min, codes, not, nat_lt, ◌==◌, ◌&&◌, ◌||◌, IfOk, replicate}
use Rattle.std.specs.Int.{w32, w64, to_le_bytes, from_le_bytes}
use Rattle.std.specs.List.{slice_index}
use Rattle.std.specs.Option.{option_or}
use Rattle.std.specs.Str.{bytes_eq}
use Rattle.std.proofs.Math.Seq.{take-add}
use Rattle.std.proofs.lemmas.Slice.Eq.{bytes_eq-Decides}
use Rattle.std.proofs.lemmas.Bool.{eqb-true, eq-eqb, and_parts, ltb-false}
use Rattle.std.proofs.lemmas.List.{take-append-drop, take_at, drop_at, length-append, length-drop}
use Rattle.std.proofs.lemmas.Nat.{from_le_bytes-to_le_bytes_4, from_le_bytes-to_le_bytes_8}
use Rattle.std.proofs.Math.Nat.{min-le_right, mul-div-le, mul-suc}
use Rattle.tape_base.specs.Place.{slot_of, reach_of}
use Rattle.sha2.specs.Sha256.{sha256, digest_bytes}
use Rattle.tape_base.specs.declared.geometries.Geometry.{Geometry}
use Rattle.stripe_header.specs.declared.states.CopyState.{CopyState}
use Rattle.stripe_header.specs.declared.states.CopyFault.{CopyFault}
use Rattle.stripe_header.specs.declared.states.CopyFault.TheVariants as copy_faults
use Rattle.stripe_header.specs.Spelling.{Numbers, numbers_of, clean_mark, head_bytes, foot_bytes, covered_bytes, lies_within, has_cursor, has_counts, has_floor, may_say, IsCopy}
use Rattle.stripe_header.specs.Reading.{block_bytes, block_number, is_version, version_in, covered_of, footer_of, foot_serial, copy_told, has_magics, are_spelled, form_fault, digest_fault, geometry_fault, copy_fault, CopyAnswers}

-- ---- what passed, and what passes

pub not_none : {F : Type 0} (b : Bool) (fault : F) (rest : Option F) → cond (not b) (Some fault) rest ≡ None → (b ≡ true) × (rest ≡ None)
not_none true fault rest h = (refl, h)
not_none false fault rest h = absurd cc

pub neither : {F : Type 0} (a b : Option F) → option_or a b ≡ None → (a ≡ None) × (b ≡ None)
neither None b h = (refl, h)
neither (Some fault) b h = absurd cc

pub kept_none : {F : Type 0} (b : Bool) (fault : F) → cond b None (Some fault) ≡ None → b ≡ true
kept_none true fault h = refl
kept_none false fault h = absurd cc

pub same : (a b : List ℕ) → bytes_eq a b ≡ true → a ≡ b
same a b h = (bytes_eq-Decides a b).0 h

pub equal : (a b : List ℕ) → a ≡ b → bytes_eq a b ≡ true
equal a b h = (bytes_eq-Decides a b).1 h

-- what a copy without a fault has
record Passes (g : Geometry) (body : List ℕ) : Type 0 where
  magics : has_magics body ≡ true
  version : is_version (version_in body) ≡ true
  serials : block_number w64 56 body ≡ foot_serial body
  digest : block_bytes 16 32 (footer_of body) ≡ sha256 (covered_of body)
  spelled : are_spelled g body ≡ true
  says : may_say g (copy_told body) ≡ true

passed : (g : Geometry) (gate body : List ℕ) → copy_fault g gate body ≡ None → (slice_index gate 0 ≡ 1) × Passes g body
unfolding copy_fault form_fault digest_fault geometry_fault
passed g gate body h =
    let a = not_none _ _ _ h in
    let b = neither _ _ a.1 in
    let c = neither _ _ b.1 in
    let m = not_none _ _ _ b.0 in
    let v = not_none _ _ _ m.1 in
    let s = not_none _ _ _ v.1 in
    let both = and_parts (are_spelled g body) (may_say g (copy_told body)) (kept_none _ _ c.1) in
    (eqb-true _ _ a.0, record { magics = m.0; version = v.0; serials = eqb-true _ _ s.0; digest = same _ _ (kept_none _ _ c.0); spelled = both.0; says = both.1 })

passes : (g : Geometry) (gate body : List ℕ) → slice_index gate 0 ≡ 1 → Passes g body → copy_fault g gate body ≡ None
unfolding copy_fault form_fault digest_fault geometry_fault
passes g gate body gated p =
    rw (eq-eqb _ _ gated, p.magics, p.version, eq-eqb _ _ p.serials, equal _ _ p.digest, p.spelled, p.says) refl

front_of : (body : List ℕ) → block_bytes 0 512 body ≡ take 512 body
unfolding block_bytes
front_of body = refl

-- ---- what is written

-- behind a header that is put over the first block stands the directory
pub covered_behind : (head body : List ℕ) → length head ≡ 512 → 1024 ≤ length body → covered_of (head ++ drop 512 body) ≡ head ++ block_bytes 512 (length body - 1024) body
unfolding block_bytes
covered_behind head body wide long =
    let whole = head ++ drop 512 body in
    let directory = length body - 1024 in
    let parted : length whole - 512 ≡ 512 + directory = omega (arith, length-append head (drop 512 body), length-drop 512 body, wide, long) in
    ap (λ k. take k whole) parted ∙ (take-add 512 directory whole
    ∙ (ap (λ l. l ++ take directory (drop 512 whole)) (take_at head (drop 512 body) 512 wide)
    ∙ ap (λ l. head ++ take directory l) (drop_at head (drop 512 body) 512 wide)))

-- ---- what is accepted is spelled so

versions_by : (one two : Bool) (v : ℕ) (marked : Bool) → (v == 1) ≡ one → (v == 2) ≡ two → (one || two) ≡ true → (v ≡ 2) ⊎ ((v ≡ 1) × ((v == 2 && marked) ≡ false))
versions_by true two v marked h1 h2 h =
    let e = eqb-true v 1 h1 in
    inr (e, ap (λ k. k == 2 && marked) e)
versions_by false true v marked h1 h2 h = inl (eqb-true v 2 h2)
versions_by false false v marked h1 h2 h = absurd cc

versions : (v : ℕ) (marked : Bool) → is_version v ≡ true → (v ≡ 2) ⊎ ((v ≡ 1) × ((v == 2 && marked) ≡ false))
versions v marked h = versions_by (v == 1) (v == 2) v marked refl refl h

pub accepted : (g : Geometry) (gate body : List ℕ) → 1024 ≤ length body → copy_fault g gate body ≡ None
    → (slice_index gate 0 ≡ 1) × IsCopy body (version_in body) g (copy_told body) (block_bytes 512 (length body - 1024) body)
unfolding block_bytes
accepted g gate body long h =
    let both_parts = passed g gate body h in
    let p = both_parts.1 in
    let n = numbers_of g in
    let told = copy_told body in
    let directory = block_bytes 512 (length body - 1024) body in
    let both = and_parts _ _ p.spelled in
    let head : take 512 body ≡ head_bytes (version_in body) n told = sym (front_of body) ∙ same _ _ both.0 in
    let foot : footer_of body ≡ foot_bytes (foot_serial body) (block_bytes 16 32 (footer_of body)) = same _ _ both.1 in
    let parted : length body - 512 ≡ 512 + (length body - 1024) = omega (arith, long) in
    let covered : covered_of body ≡ head_bytes (version_in body) n told ++ directory =
    ap (λ k. take k body) parted ∙ (take-add 512 (length body - 1024) body ∙ ap (λ l. l ++ directory) head) in
    let footed : footer_of body ≡ foot_bytes told.serial (sha256 (head_bytes (version_in body) n told ++ directory)) =
    foot ∙ (ap (λ k. foot_bytes k (block_bytes 16 32 (footer_of body))) (sym p.serials) ∙ ap (foot_bytes told.serial) (p.digest ∙ ap sha256 covered)) in (
      both_parts.0,
      record {
        says = p.says;
        of_version = versions (version_in body) _ p.version;
        spelled = sym (take-append-drop (length body - 512) body) ∙ (ap (λ l. l ++ footer_of body) covered ∙ ap (λ l. (head_bytes (version_in body) n told ++ directory) ++ l) footed);
      },
    )

pub is_accepted : (g : Geometry) (gate body : List ℕ) (r : Result CopyState CopyFault) → 1024 ≤ length body → CopyAnswers r (copy_fault g gate body) (copy_told body)
    → IfOk r (λ state. (slice_index gate 0 ≡ 1) × IsCopy body (version_in body) g state (block_bytes 512 (length body - 1024) body))
is_accepted g gate body (Ok state) long given =
    let law = accepted g gate body long given.0 in
    (law.0, subst (λ (s : CopyState). IsCopy body (version_in body) g s (block_bytes 512 (length body - 1024) body)) (sym given.1) law.1)
is_accepted g gate body (Err fault) long given = tt

-- a gate that is not open is the first fault
gate_by : (opened : Bool) (gate : ℕ) (rest : Option CopyFault) → (gate == 1) ≡ opened → gate ≢ 1
    → cond (not opened) (Some copy_faults.GateShut) rest ≡ Some copy_faults.GateShut
gate_by true gate rest is shut = absurd (shut (eqb-true _ _ is))
gate_by false gate rest is shut = refl

pub shut_refused : (g : Geometry) (gate body : List ℕ) → slice_index gate 0 ≢ 1 → copy_fault g gate body ≡ Some copy_faults.GateShut
unfolding copy_fault
shut_refused g gate body shut = gate_by _ (slice_index gate 0) _ refl shut

-- ---- what is spelled so is accepted

pub length-sha256 : (m : List ℕ) → length (sha256 m) ≡ 32
unfolding sha256 digest_bytes
length-sha256 m = refl

-- the fields of a header
record Heads (body : List ℕ) (version : ℕ) (s : CopyState) : Type 0 where
  magic : block_bytes 0 8 body ≡ codes "TSCHEAD1"
  version_is : block_bytes 8 4 body ≡ to_le_bytes w32 version
  serial : block_bytes 56 8 body ≡ to_le_bytes w64 s.serial
  cursor : block_bytes 64 8 body ≡ to_le_bytes w64 s.cursor
  next_put : block_bytes 72 8 body ≡ to_le_bytes w64 s.next_put
  clean : block_bytes 80 8 body ≡ to_le_bytes w64 (clean_mark s.clean)
  floor : block_bytes 88 8 body ≡ to_le_bytes w64 s.floor

pub length-head : (version : ℕ) (n : Numbers) (s : CopyState) → length (head_bytes version n s) ≡ 512
unfolding head_bytes
length-head version n s = refl

heads : (version : ℕ) (n : Numbers) (s : CopyState) (rest : List ℕ) → Heads (head_bytes version n s ++ rest) version s
unfolding block_bytes head_bytes
heads version n s rest =
    record { magic = refl; version_is = refl; serial = refl; cursor = refl; next_put = refl; clean = refl; floor = refl }

-- the fields of a footer
record Foots (footer : List ℕ) (serial : ℕ) (digest : List ℕ) : Type 0 where
  magic : block_bytes 0 8 footer ≡ codes "TSCFOOT1"
  serial_is : block_bytes 8 8 footer ≡ to_le_bytes w64 serial
  digest_is : block_bytes 16 32 footer ≡ digest

foots : (serial : ℕ) (digest : List ℕ) → length digest ≡ 32 → Foots (foot_bytes serial digest) serial digest
unfolding block_bytes foot_bytes
foots serial digest wide = record { magic = refl; serial_is = refl; digest_is = take_at digest (replicate 464 0) 32 wide }

length-foot : (serial : ℕ) (digest : List ℕ) → length digest ≡ 32 → length (foot_bytes serial digest) ≡ 512
unfolding foot_bytes
length-foot serial digest wide =
    let early : List ℕ = codes "TSCFOOT1" ++ to_le_bytes w64 serial in
    let zeros : List ℕ = replicate 464 0 in
    let before : length early ≡ 16 = refl in
    let behind : length zeros ≡ 464 = refl in
    let sum : length ((early ++ digest) ++ zeros) ≡ 512 = omega (arith, length-append (early ++ digest) zeros, length-append early digest, before, behind, wide) in
    sum

pub number_64_is : (at n : ℕ) (bytes : List ℕ) → n < 2 ^ 64 → block_bytes at 8 bytes ≡ to_le_bytes w64 n → block_number w64 at bytes ≡ n
unfolding block_number
number_64_is at n bytes fits h = ap (from_le_bytes w64) h ∙ from_le_bytes-to_le_bytes_8 n fits

pub number_32_is : (at n : ℕ) (bytes : List ℕ) → n < 2 ^ 32 → block_bytes at 4 bytes ≡ to_le_bytes w32 n → block_number w32 at bytes ≡ n
unfolding block_number
number_32_is at n bytes fits h = ap (from_le_bytes w32) h ∙ from_le_bytes-to_le_bytes_4 n fits

pub not_false : (b : Bool) → not b ≡ true → b ≡ false
not_false true h = absurd cc
not_false false h = refl

within : (least most n : ℕ) → lies_within least most n ≡ true → (least ≤ n) × (n ≤ most)
within least most n h =
    let both = and_parts (not (nat_lt n least)) (not (nat_lt most n)) h in
    (ltb-false _ _ (not_false _ both.0), ltb-false _ _ (not_false _ both.1))

-- what a state that may be said is, as far as its fields spell it
record Fits (s : CopyState) : Type 0 where
  serial : s.serial < 2 ^ 64
  cursor : s.cursor < 2 ^ 64
  next_put : s.next_put < 2 ^ 64
  floor : s.floor < 2 ^ 64
  unmarked : s.clean ≡ false → s.floor ≡ 0

floor_fits : (clean : Bool) (least most floor : ℕ) → cond clean (lies_within least most floor) (floor == 0) ≡ true → most < 2 ^ 64 → (floor < 2 ^ 64) × (clean ≡ false → floor ≡ 0)
floor_fits true least most floor h small = (omega (arith, (within least most floor h).1, small), λ e. absurd cc)
floor_fits false least most floor h small =
    let none = eqb-true floor 0 h in
    (omega (arith, none), λ e. none)

lap_below : (m n c : ℕ) → min m (n * (c / n + 1)) - n ≤ c
lap_below m n c = omega (arith, min-le_right m (n * (c / n + 1)), mul-div-le c n, mul-suc n (c / n))

fits : (g : Geometry) (s : CopyState) → may_say g s ≡ true → Fits s
fits g s h =
    let a = and_parts (has_cursor g s && has_counts s) (has_floor g s) h in
    let b = and_parts (has_cursor g s) (has_counts s) a.0 in
    let c = and_parts (lies_within g.content (2 ^ 62 - 1) s.cursor) (not (nat_lt g.content (slot_of g s.cursor + g.agg))) b.0 in
    let d = and_parts (lies_within 1 (2 ^ 62 - 1) s.serial) (lies_within 1 (2 ^ 62 - 1) s.next_put) b.1 in
    let cursor = within g.content (2 ^ 62 - 1) s.cursor c.0 in
    let serial = within 1 (2 ^ 62 - 1) s.serial d.0 in
    let next_put = within 1 (2 ^ 62 - 1) s.next_put d.1 in
    let most : reach_of g s.cursor - g.content < 2 ^ 64 = omega (arith, lap_below (s.cursor + g.reach) g.content s.cursor, cursor.1) in
    let floor = floor_fits s.clean (s.cursor + g.agg - g.content) (reach_of g s.cursor - g.content) s.floor a.1 most in
    record { serial = omega (arith, serial.1); cursor = omega (arith, cursor.1); next_put = omega (arith, next_put.1); floor = floor.0; unmarked = floor.1 }

mark_fits : (clean : Bool) → clean_mark clean < 2 ^ 64
mark_fits true = omega arith
mark_fits false = omega arith

mark_again : (clean : Bool) → (clean_mark clean == 1) ≡ clean
mark_again true = refl
mark_again false = refl

version_again : (body : List ℕ) (version : ℕ) (s : CopyState) → version ≤ 2 → Heads body version s → version_in body ≡ version
version_again body version s few h = number_32_is 8 version body (omega (arith, few)) h.version_is

told_again : (body : List ℕ) (version : ℕ) (s : CopyState) → (version ≡ 2) ⊎ ((version ≡ 1) × (s.clean ≡ false)) → Fits s → Heads body version s → copy_told body ≡ s
told_again body version s (inl two) f h =
    let v : version_in body ≡ 2 = version_again body version s (omega (arith, two)) h ∙ two in
    let mark = number_64_is 80 (clean_mark s.clean) body (mark_fits s.clean) h.clean in
    let kept = number_64_is 88 s.floor body f.floor h.floor in
    let serial = number_64_is 56 s.serial body f.serial h.serial in
    let cursor = number_64_is 64 s.cursor body f.cursor h.cursor in
    let next_put = number_64_is 72 s.next_put body f.next_put h.next_put in
    let clean : (copy_told body).clean ≡ s.clean = rw (v, mark) (mark_again s.clean) in
    let floor : (copy_told body).floor ≡ s.floor = rw v kept in
    λ i. record { serial = serial i; cursor = cursor i; next_put = next_put i; clean = clean i; floor = floor i }
told_again body version s (inr one) f h =
    let v : version_in body ≡ 1 = version_again body version s (omega (arith, one.0)) h ∙ one.0 in
    let serial = number_64_is 56 s.serial body f.serial h.serial in
    let cursor = number_64_is 64 s.cursor body f.cursor h.cursor in
    let next_put = number_64_is 72 s.next_put body f.next_put h.next_put in
    let clean : (copy_told body).clean ≡ s.clean = rw v (sym one.1) in
    let floor : (copy_told body).floor ≡ s.floor = rw v (sym (f.unmarked one.1)) in
    λ i. record { serial = serial i; cursor = cursor i; next_put = next_put i; clean = clean i; floor = floor i }

few_versions : (version : ℕ) (s : CopyState) → (version ≡ 2) ⊎ ((version ≡ 1) × (s.clean ≡ false)) → (version ≤ 2) × (is_version version ≡ true)
few_versions version s (inl two) = (omega (arith, two), ap is_version two)
few_versions version s (inr one) = (omega (arith, one.0), ap is_version one.0)

pub again : (g : Geometry) (gate body : List ℕ) (version : ℕ) (s : CopyState) (directory : List ℕ) → slice_index gate 0 ≡ 1
    → IsCopy body version g s directory → (copy_fault g gate body ≡ None) × (copy_told body ≡ s)
again g gate body version s directory gated c =
    let n = numbers_of g in
    let head = head_bytes version n s in
    let front = covered_bytes version n s directory in
    let wide_digest = length-sha256 front in
    let foot = foot_bytes s.serial (sha256 front) in
    let parts : body ≡ head ++ (directory ++ foot) = c.spelled ∙ append_assoc head directory foot in
    let h : Heads body version s = subst (λ (b : List ℕ). Heads b version s) (sym parts) (heads version n s (directory ++ foot)) in
    let wide : length body ≡ length front + 512 = omega (arith, ap length c.spelled, length-append front foot, length-foot s.serial (sha256 front) wide_digest) in
    let parted : length front ≡ length body - 512 = omega (arith, wide) in
    let covered : covered_of body ≡ front = ap (take (length body - 512)) c.spelled ∙ take_at front foot (length body - 512) parted in
    let footer : footer_of body ≡ foot = ap (drop (length body - 512)) c.spelled ∙ drop_at front foot (length body - 512) parted in
    let f : Foots (footer_of body) s.serial (sha256 front) = subst (λ (b : List ℕ). Foots b s.serial (sha256 front)) (sym footer) (foots s.serial (sha256 front) wide_digest) in
    let small = fits g s c.says in
    let told = told_again body version s c.of_version small h in
    let few = few_versions version s c.of_version in
    let v = version_again body version s few.0 h in
    let serial = number_64_is 56 s.serial body small.serial h.serial in
    let footed = number_64_is 8 s.serial (footer_of body) small.serial f.serial_is in
    let has_head : block_bytes 0 512 body ≡ head_bytes (version_in body) n (copy_told body) =
    front_of body ∙ (ap (take 512) parts ∙ (take_at head (directory ++ foot) 512 (length-head version n s)
    ∙ (ap (λ k. head_bytes k n s) (sym v) ∙ ap (head_bytes (version_in body) n) (sym told)))) in
    let has_foot : footer_of body ≡ foot_bytes (foot_serial body) (block_bytes 16 32 (footer_of body)) =
    footer ∙ (ap (λ k. foot_bytes k (sha256 front)) (sym footed) ∙ ap (foot_bytes (foot_serial body)) (sym f.digest_is)) in
    let p : Passes g body = record {
      magics = rw (equal _ _ h.magic, equal _ _ f.magic) refl;
      version = ap is_version v ∙ few.1;
      serials = serial ∙ sym footed;
      digest = f.digest_is ∙ ap sha256 (sym covered);
      spelled = rw (equal _ _ has_head, equal _ _ has_foot) refl;
      says = ap (may_say g) told ∙ c.says;
    } in
    (passes g gate body gated p, told)

pub is_again : (g : Geometry) (gate body : List ℕ) (r : Result CopyState CopyFault) → CopyAnswers r (copy_fault g gate body) (copy_told body)
    → (version : ℕ) (s : CopyState) (directory : List ℕ) → slice_index gate 0 ≡ 1 → IsCopy body version g s directory → CopyAnswers r None s
is_again g gate body r given version s directory gated c =
    let read = again g gate body version s directory gated c in
    subst (λ (x : CopyState). CopyAnswers r None x) read.1 (subst (λ (f : Option CopyFault). CopyAnswers r f (copy_told body)) read.0 given)
