-- What was written out stays on the device: no buffer is written where a piece stands that may be read.
use Rattle.std.proofs.Common.{◌≡◌, ℕ, ◌+◌, ◌-◌, ◌*◌, ◌/◌, ◌%◌, ◌<◌, ◌≤◌, List, [], ◌∷◌, ◌++◌, length, take, drop, refl, sym, ◌∙◌, ap, subst, arith}
use Rattle.std.specs.List.{AllByRecursion}
use Rattle.std.proofs.Math.Nat.{div-add-mod, lt_of_mul-lt-mul_left, mul-le-mul_left}
use Rattle.tape_base.specs.declared.geometries.Geometry.{Geometry}
use Rattle.tape_base.specs.Place.{floor_of, lap_end_of, block_of}
use Rattle.device_log.specs.Image.{Image, SameBut, span}
use Rattle.device_log.proofs.Spans.{length-span, span_apart, span_more}
use Rattle.doc_header.specs.Reading.{document_digest}
use Rattle.agg_buffer.specs.Buffer.{Buffer, IsFilled, bytes_at, filled_of}
use Rattle.cache_model.specs.State.{Row, State, floor_now}
use Rattle.cache_model.proofs.Laps.{lap-is}
use Rattle.held_pieces.specs.Held.{IsIntact, IsIntactWhereWritten}

-- ---- places and slots

-- of two multiples the higher is one step above, or more
step_up : (n a b : ℕ) → n * a < n * b → n * a + n ≤ n * b
step_up n a b less =
    let more : a < b = lt_of_mul-lt-mul_left n less in
    let up : n * (a + 1) ≤ n * b = mul-le-mul_left n (omega (arith, more)) in
    omega arith

-- a piece between the floor and the buffer shares no slot with the buffer
slots_apart : (g : Geometry) (cursor filled place blocks : ℕ) → floor_of g cursor ≤ place → place + blocks ≤ cursor → filled ≤ g.agg
    → (j : ℕ) → block_of g place ≤ j → j < block_of g place + blocks → block_of g cursor ≤ j → j < block_of g cursor + filled → ⊥
slots_apart g cursor filled place blocks low ends few j from below first last =
    let p : g.content * (place / g.content) + place % g.content ≡ place = div-add-mod place g.content in
    let c : g.content * (cursor / g.content) + cursor % g.content ≡ cursor = div-add-mod cursor g.content in
    let less : g.content * (place / g.content) < g.content * (cursor / g.content) = omega (arith, p, c) in
    let up : g.content * (place / g.content) + g.content ≤ g.content * (cursor / g.content) = step_up g.content (place / g.content) (cursor / g.content) less in
    omega (arith, p, c, up)

-- a place in the buffer's lap is as far behind it in slots
slot_behind : (g : Geometry) (cursor place : ℕ) → cursor ≤ place → place < lap_end_of g cursor → block_of g place ≡ block_of g cursor + (place - cursor)
slot_behind g cursor place above low =
    let c : g.content * (cursor / g.content) + cursor % g.content ≡ cursor = div-add-mod cursor g.content in
    let lap : place / g.content ≡ cursor / g.content = lap-is g.content (cursor / g.content) place (omega (arith, c)) low in
    let p : g.content * (place / g.content) + place % g.content ≡ place = div-add-mod place g.content in
    let same : g.content * (place / g.content) ≡ g.content * (cursor / g.content) = ap (λ n. g.content * n) lap in
    omega (arith, p, c, same)

-- ---- a write of the buffer

-- what stands where it may be read has the same bytes behind it
pub span_stays : (s : State) (filled : ℕ) (old new : Image) (row : Row) → filled ≤ s.geometry.agg
    → SameBut (block_of s.geometry s.cursor) filled old new
    → floor_now s ≤ row.place → row.place + row.blocks ≤ s.cursor
    → span new (block_of s.geometry row.place) row.blocks ≡ span old (block_of s.geometry row.place) row.blocks
span_stays s filled old new row few same low ends =
    span_apart old new (block_of s.geometry row.place) row.blocks (block_of s.geometry s.cursor) filled same
    (slots_apart s.geometry s.cursor filled row.place row.blocks (omega (arith, low)) ends few)

stays_intact : (s : State) (filled : ℕ) (old new : Image) (row : Row) → filled ≤ s.geometry.agg
    → SameBut (block_of s.geometry s.cursor) filled old new
    → IsIntactWhereWritten s old row → IsIntactWhereWritten s new row
stays_intact s filled old new row few same h = λ low below.
    let i : IsIntact s old row = h low below in
    record { ends = i.ends; digest = ap document_digest (span_stays s filled old new row few same low i.ends) ∙ i.digest }

pub each_stays_intact : (s : State) (filled : ℕ) (old new : Image) (rows : List Row) → filled ≤ s.geometry.agg → SameBut (block_of s.geometry s.cursor) filled old new
    → AllByRecursion (IsIntactWhereWritten s old) rows → AllByRecursion (IsIntactWhereWritten s new) rows
each_stays_intact s filled old new [] few same all = tt
each_stays_intact s filled old new (row ∷ rows) few same all = (stays_intact s filled old new row few same all.0, each_stays_intact s filled old new rows few same all.1)

-- ---- what a write put there

front : (xs ys : List ℕ) → take (length xs) (xs ++ ys) ≡ xs
front [] ys = refl
front (x ∷ xs) ys = ap (λ l. x ∷ l) (front xs ys)

between : (xs ys zs : List ℕ) → take (length ys) (drop (length xs) (xs ++ (ys ++ zs))) ≡ ys
between [] ys zs = front ys zs
between (x ∷ xs) ys zs = between xs ys zs

-- blocks within a span
span_within : (content : Image) (at before blocks behind : ℕ) → ((j : ℕ) → length (content j) ≡ 512)
    → take (512 * blocks) (drop (512 * before) (span content at (before + (blocks + behind)))) ≡ span content (at + before) blocks
span_within content at before blocks behind whole =
    let parts : span content at (before + (blocks + behind)) ≡ span content at before ++ (span content (at + before) blocks ++ span content (at + before + blocks) behind) =
    span_more content at before (blocks + behind) ∙ ap (λ l. span content at before ++ l) (span_more content (at + before) blocks behind) in
    ap (λ n. take (512 * blocks) (drop n (span content at (before + (blocks + behind))))) (sym (length-span content at before whole))
    ∙ (ap (λ n. take n (drop (length (span content at before)) (span content at (before + (blocks + behind))))) (sym (length-span content (at + before) blocks whole))
    ∙ (ap (λ l. take (length (span content (at + before) blocks)) (drop (length (span content at before)) l)) parts
    ∙ between (span content at before) (span content (at + before) blocks) (span content (at + before + blocks) behind)))

-- what holds of the bytes of a piece of a buffer that was written holds of those that stand on the device
pub written_intact : (P : List ℕ → Type 0) (g : Geometry) (b : Buffer) (content : Image) (row : Row) → filled_of b ≤ g.agg
    → b.cursor + g.agg ≤ lap_end_of g b.cursor → ((j : ℕ) → length (content j) ≡ 512)
    → span content (block_of g b.cursor) (filled_of b) ≡ b.bytes → 0 < row.blocks → IsFilled b row.place row.blocks
    → P (bytes_at b row.place row.blocks) → P (span content (block_of g row.place) row.blocks)
written_intact P g b content row few lap whole written some filled here =
    let from : b.cursor ≤ row.place = filled.from in
    let within : row.place + row.blocks ≤ b.cursor + filled_of b = filled.within in
    let before : ℕ = row.place - b.cursor in
    let behind : ℕ = b.cursor + filled_of b - (row.place + row.blocks) in
    let parts : before + (row.blocks + behind) ≡ filled_of b = omega (arith, from, within) in
    let slot : block_of g row.place ≡ block_of g b.cursor + before = slot_behind g b.cursor row.place from (omega (arith, within, some, few, lap)) in
    let there : span content (block_of g row.place) row.blocks ≡ bytes_at b row.place row.blocks =
    ap (λ n. span content n row.blocks) slot
    ∙ (sym (span_within content (block_of g b.cursor) before row.blocks behind whole)
    ∙ (ap (λ n. take (512 * row.blocks) (drop (512 * before) (span content (block_of g b.cursor) n))) parts
    ∙ ap (λ l. take (512 * row.blocks) (drop (512 * before) l)) written)) in
    subst P (sym there) here

-- ---- states that are alike

-- what is intact for one state is for another with the same geometry, cursor and bound
same_intact : (s t : State) (content : Image) (row : Row) → s.geometry ≡ t.geometry → s.cursor ≡ t.cursor → s.least ≡ t.least → IsIntactWhereWritten s content row → IsIntactWhereWritten t content row
same_intact s t content row geometry cursor least h = λ low below.
    let i : IsIntact s content row = h (rw (geometry, cursor, least) low) (rw cursor below) in
    record {
      ends = subst (λ n. row.place + row.blocks ≤ n) cursor i.ends;
      digest = subst (λ g. document_digest (span content (block_of g row.place) row.blocks) ≡ row.digest) geometry i.digest;
    }

pub each_same_intact : (s t : State) (content : Image) (rows : List Row) → s.geometry ≡ t.geometry → s.cursor ≡ t.cursor → s.least ≡ t.least → AllByRecursion (IsIntactWhereWritten s content) rows
    → AllByRecursion (IsIntactWhereWritten t content) rows
each_same_intact s t content [] geometry cursor least all = tt
each_same_intact s t content (row ∷ rows) geometry cursor least all =
    (same_intact s t content row geometry cursor least all.0, each_same_intact s t content rows geometry cursor least all.1)
