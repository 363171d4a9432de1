-- Places of a lap's length have blocks of their own.
use Rattle.std.proofs.Common.{◌≡◌, ◌≢◌, ◌≤◌, ◌<◌, ◌+◌, ◌-◌, ◌*◌, ◌/◌, ◌%◌, ℕ, true, false, cond, inl, inr, subst, sym, arith}
use Rattle.std.specs.Prelude.{◌==◌, ◌&&◌}
use Rattle.std.proofs.lemmas.Bool.{cases_lt, and_parts}
use Rattle.std.proofs.Math.Nat.{mod-add-div, mul-le-mul_left}
use Rattle.tape_base.specs.declared.geometries.Geometry.{Geometry}
use Rattle.tape_base.specs.Place.{reach_of}
use Rattle.stripe_header.specs.declared.area.Area.{Area}
use Rattle.stripe_header.specs.declared.states.CopyState.{CopyState}
use Rattle.stripe_header.specs.Layout.{block_of_place}
use Rattle.stripe_header.specs.Spelling.{has_cursor, has_counts, has_floor, lies_within}
use Rattle.reopening.specs.Newest.{bound_of}
use Rattle.reopening.specs.Windows.{WindowsAreApart, CleanWindowsAreApart}
use Rattle.reopening.proofs.Bounds.{in_lap, within, cursor_fits}

more : (n a b : ℕ) → a < b → n * a + n ≤ n * b
more n a b low = let e : n * (a + 1) ≤ n * b = mul-le-mul_left n (omega (arith, low)) in omega (arith, e)

mod_apart : (p q n : ℕ) → p < q → q < p + n → p % n ≢ q % n
mod_apart p q n low high same =
    let a = mod-add-div p n in
    let b = mod-add-div q n in
    elim (cases_lt (p / n) (q / n)) [
      | inl less ↦ let e = more n (p / n) (q / n) less in omega (arith, e, a, b, same, low, high)
      | inr rest ↦ let e : n * (q / n) ≤ n * (p / n) = mul-le-mul_left n rest in omega (arith, e, a, b, same, low, high)
    ]

-- places of a lap's length, wherever they begin
pub places_apart : (a : Area) (low end p q : ℕ) → low ≤ p → p < end → end ≤ q → q < low + a.geometry.content
    → block_of_place a p ≢ block_of_place a q
places_apart a low end p q from to behind below same =
    mod_apart p q a.geometry.content (omega (arith, to, behind)) (omega (arith, from, below))
    (let e : p % a.geometry.content ≡ q % a.geometry.content = omega (arith, same) in e)

unclean_bound : (g : Geometry) (told : CopyState) → told.clean ≡ false → g.content ≤ told.cursor → reach_of g told.cursor ≤ bound_of g told + g.content
unclean_bound g told is first =
    let lap = in_lap g told.cursor in
    subst (λ b. reach_of g told.cursor ≤ cond b told.floor (reach_of g told.cursor - g.content) + g.content) (sym is)
    (let e : reach_of g told.cursor ≤ reach_of g told.cursor - g.content + g.content = omega (arith, lap.1, first) in e)

pub windows_apart : WindowsAreApart
windows_apart a told end p q says is from to behind below =
    places_apart a (bound_of a.geometry told) end p q from to behind
    (omega (arith, below, unclean_bound a.geometry told is (cursor_fits a.geometry told says).0))

clean_floor : (g : Geometry) (told : CopyState) → has_floor g told ≡ true → told.clean ≡ true → told.cursor + g.agg - g.content ≤ bound_of g told
clean_floor g told h is =
    let inside : lies_within (told.cursor + g.agg - g.content) (reach_of g told.cursor - g.content) told.floor ≡ true =
    subst (λ b. cond b (lies_within (told.cursor + g.agg - g.content) (reach_of g told.cursor - g.content) told.floor) (told.floor == 0) ≡ true) is h in
    subst (λ b. told.cursor + g.agg - g.content ≤ cond b told.floor (reach_of g told.cursor - g.content)) (sym is)
    (within (told.cursor + g.agg - g.content) (reach_of g told.cursor - g.content) told.floor inside).0

pub clean_windows_apart : CleanWindowsAreApart
clean_windows_apart a told end p q says is from to behind below =
    let g = a.geometry in
    let low = clean_floor g told (and_parts (has_cursor g told && has_counts told) (has_floor g told) says).1 is in
    places_apart a (bound_of g told) end p q from to behind (omega (arith, below, low))
