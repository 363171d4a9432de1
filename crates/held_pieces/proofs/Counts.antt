-- What stays equal of two counts when a range moves on.
use Rattle.std.proofs.Common.{◌≡◌, ℕ, ◌+◌, ◌<◌, ◌≤◌, Bool, true, false, refl, sym, ◌∙◌, ap, arith}
use Rattle.std.specs.Prelude.{◌&&◌, nat_le, nat_lt}
use Rattle.std.proofs.lemmas.Bool.{leb-true, le-leb, ltb-false, ltb-true, lt-ltb, le-ltb}
use Rattle.held_pieces.proofs.Entries.{kept, one_more}

-- a place is at or above one and below another
abbrev pub is_between : ℕ → ℕ → ℕ → Bool
is_between low high place = nat_le low place && nat_lt place high

clash : {X : Type 0} → true ≡ false → X
clash h = cc

-- ---- the range ends further on, and one more row may stand behind the old end

more_by : (a b c added : Bool) (entries rows : ℕ) → (b ≡ false → entries ≡ 0) → (b ≡ true → c ≡ true) → (added ≡ true → (a ≡ true) × (b ≡ false) × (c ≡ true))
    → kept (a && b) entries ≡ kept a rows → kept (a && c) (one_more added entries) ≡ one_more added (kept a rows)
more_by true true true false entries rows none on new h = h
more_by true true false added entries rows none on new h = clash (sym (on refl))
more_by true true true true entries rows none on new h = clash (new refl).1
more_by true false true true entries rows none on new h = ap (λ n. n + 1) (none refl ∙ h)
more_by true false true false entries rows none on new h = none refl ∙ h
more_by true false false false entries rows none on new h = h
more_by true false false true entries rows none on new h = clash (sym (new refl).2)
more_by false b c true entries rows none on new h = clash (sym (new refl).0)
more_by false b c false entries rows none on new h = refl

pub more_between : (floor end end' place : ℕ) (entries rows : ℕ) (added : Bool) → floor ≤ end → end < end' → (end ≤ place → entries ≡ 0)
    → (added ≡ true → place ≡ end) → kept (is_between floor end place) entries ≡ kept (nat_le floor place) rows
    → kept (is_between floor end' place) (one_more added entries) ≡ one_more added (kept (nat_le floor place) rows)
more_between floor end end' place entries rows added above more none at h =
    more_by (nat_le floor place) (nat_lt place end) (nat_lt place end') added entries rows
    (λ e. none (ltb-false place end e))
    (λ e. let below : place < end = ltb-true place end e in lt-ltb place end' (omega arith))
    (λ e. let same : place ≡ end = at e in (le-leb floor place (omega arith), le-ltb place end (omega arith), lt-ltb place end' (omega arith)))
    h

-- ---- the range begins and ends further on, and rows below some place may be forgotten

later_by : (a later b c l : Bool) (entries rows : ℕ) → (later ≡ true → (a ≡ true) × (l ≡ true)) → (b ≡ false → entries ≡ 0) → (b ≡ true → c ≡ true)
    → kept (a && b) entries ≡ kept a rows → kept (later && c) (kept l entries) ≡ kept later rows
later_by a false b c l entries rows up none on h = refl
later_by true true true true true entries rows up none on h = h
later_by true true true false l entries rows up none on h = clash (sym (on refl))
later_by true true false true true entries rows up none on h = none refl ∙ h
later_by true true false false true entries rows up none on h = h
later_by true true b c false entries rows up none on h = clash (sym (up refl).1)
later_by false true b c l entries rows up none on h = clash (sym (up refl).0)

pub later_between : (floor floor' end end' low place : ℕ) (entries rows : ℕ) → floor ≤ floor' → low ≤ floor' → end ≤ end' → (end ≤ place → entries ≡ 0)
    → kept (is_between floor end place) entries ≡ kept (nat_le floor place) rows
    → kept (is_between floor' end' place) (kept (nat_le low place) entries) ≡ kept (nat_le floor' place) rows
later_between floor floor' end end' low place entries rows up under on none h =
    later_by (nat_le floor place) (nat_le floor' place) (nat_lt place end) (nat_lt place end') (nat_le low place) entries rows
    (λ e. let above : floor' ≤ place = leb-true floor' place e in (le-leb floor place (omega arith), le-leb low place (omega arith)))
    (λ e. none (ltb-false place end e))
    (λ e. let below : place < end = ltb-true place end e in lt-ltb place end' (omega arith))
    h

-- ---- a row in range is taken out of both

down : (n m : ℕ) → n + 1 ≡ m + 1 → n ≡ m
down n m h = omega arith

fewer_by : (a b gone : Bool) (entries rows : ℕ) → (gone ≡ true → (a ≡ true) × (b ≡ true)) → kept (a && b) (one_more gone entries) ≡ kept a (one_more gone rows)
    → kept (a && b) entries ≡ kept a rows
fewer_by true true true entries rows in_range h = down entries rows h
fewer_by true false true entries rows in_range h = clash (sym (in_range refl).1)
fewer_by false b true entries rows in_range h = clash (sym (in_range refl).0)
fewer_by true true false entries rows in_range h = h
fewer_by true false false entries rows in_range h = h
fewer_by false b false entries rows in_range h = refl

pub fewer_between : (floor end place : ℕ) (entries rows : ℕ) (gone : Bool) → (gone ≡ true → (floor ≤ place) × (place < end))
    → kept (is_between floor end place) (one_more gone entries) ≡ kept (nat_le floor place) (one_more gone rows)
    → kept (is_between floor end place) entries ≡ kept (nat_le floor place) rows
fewer_between floor end place entries rows gone in_range h =
    fewer_by (nat_le floor place) (nat_lt place end) gone entries rows (λ e. let r = in_range e in (le-leb floor place r.0, lt-ltb place end r.1)) h
