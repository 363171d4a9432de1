-- Which copy is the newest, by its gate, its body and the other copy.
use Rattle.std.proofs.Common.{◌≡◌, ◌⊎◌, ◌==◌, inl, inr, ℕ, Bool, true, false, List, Option, Some, None, slice_index, refl, sym, ap, subst, ◌∙◌, arith}
use Rattle.std.specs.Prelude.{nat_lt, not, if◌then◌else◌}
use Rattle.std.specs.Option.{option_or}
use Rattle.std.proofs.lemmas.Bool.{eqb-true}
use Rattle.device_log.specs.Image.{Image}
use Rattle.stripe_header.specs.declared.area.Area.{Area}
use Rattle.stripe_header.specs.declared.area.Side.{Side}
use Rattle.stripe_header.specs.declared.area.Side.TheVariants as sides
use Rattle.stripe_header.specs.declared.states.CopyState.{CopyState}
use Rattle.stripe_header.specs.declared.states.CopyFault.TheVariants as copy_faults
use Rattle.stripe_header.specs.Layout.{gate_of, other_side}
use Rattle.stripe_header.specs.Reading.{copy_fault, copy_told, digest_fault, form_fault, geometry_fault}
use Rattle.dir_sync.specs.Moments.{IsOpen}
use Rattle.reopening.specs.declared.newest.Newest.{Newest}
use Rattle.reopening.specs.Newest.{IsBeaten, body_at, copy_at, newer, newest_of, unless_fault}
use Rattle.reopening.specs.Alike.{NewestWins, NewestWon, ShutIsNoCopy}
use Rattle.reopening.specs.Guards.{told_by_body}

-- ---- sides

pub back : (side : Side) → other_side (other_side side) ≡ side
back sides.A = refl
back sides.B = refl

abbrev of_side : Side → Option CopyState → Option CopyState → Option CopyState
of_side sides.A x y = x
of_side sides.B x y = y

of_copies : (a : Area) (c : Image) (side : Side) → of_side side (copy_at a c sides.A) (copy_at a c sides.B) ≡ copy_at a c side
of_copies a c sides.A = refl
of_copies a c sides.B = refl

-- ---- an accepted copy is the newest where the other one does not count

abbrev as_newest : Side → CopyState → Newest
as_newest side told = record { side = side; told = told }

first_wins : (t : CopyState) (o : Option CopyState) → IsBeaten o sides.A t.serial → newer (Some t) o ≡ Some (as_newest sides.A t)
first_wins t None beaten = refl
first_wins t (Some u) beaten =
    ap (λ b. if b then Some (as_newest sides.B u) else Some (as_newest sides.A t))
    (let e : nat_lt t.serial u.serial ≡ false = grind (arith, beaten) in e)

second_wins : (t : CopyState) (o : Option CopyState) → IsBeaten o sides.B t.serial → newer o (Some t) ≡ Some (as_newest sides.B t)
second_wins t None beaten = refl
second_wins t (Some u) beaten =
    ap (λ b. if b then Some (as_newest sides.B t) else Some (as_newest sides.A u))
    (let e : nat_lt u.serial t.serial ≡ true = grind (arith, beaten) in e)

pub wins : NewestWins
wins a c n is beaten = by n.side is beaten where
  by : (side : Side) → copy_at a c side ≡ Some n.told → IsBeaten (copy_at a c (other_side side)) side n.told.serial
      → newest_of a c ≡ Some (as_newest side n.told)
  by sides.A is' beaten' = ap (λ o. newer o (copy_at a c sides.B)) is' ∙ first_wins n.told (copy_at a c sides.B) beaten'
  by sides.B is' beaten' = ap (newer (copy_at a c sides.A)) is' ∙ second_wins n.told (copy_at a c sides.A) beaten'

abbrev Won : Newest → Option CopyState → Option CopyState → Type 0
Won n x y = (of_side n.side x y ≡ Some n.told) × IsBeaten (of_side (other_side n.side) x y) n.side n.told.serial

won_of : (x y : Option CopyState) (n : Newest) → newer x y ≡ Some n → Won n x y
won_of None None n is = absurd cc
won_of None (Some b) n is = let e : as_newest sides.B b ≡ n = cc is in subst (λ (m : Newest). Won m None (Some b)) e (refl, tt)
won_of (Some t) None n is = let e : as_newest sides.A t ≡ n = cc is in subst (λ (m : Newest). Won m (Some t) None) e (refl, tt)
won_of (Some t) (Some b) n is = by (nat_lt t.serial b.serial) refl is where
  by : (less : Bool) → nat_lt t.serial b.serial ≡ less
      → (if less then Some (as_newest sides.B b) else Some (as_newest sides.A t)) ≡ Some n → Won n (Some t) (Some b)
  by true less so =
      let e : as_newest sides.B b ≡ n = cc so in
      subst (λ (m : Newest). Won m (Some t) (Some b)) e (refl, grind (arith, less))
  by false less so =
      let e : as_newest sides.A t ≡ n = cc so in
      subst (λ (m : Newest). Won m (Some t) (Some b)) e (refl, grind (arith, less))

pub won : NewestWon
won a c n is =
    let e = won_of (copy_at a c sides.A) (copy_at a c sides.B) n is in
    (sym (of_copies a c n.side) ∙ e.0, subst (λ o. IsBeaten o n.side n.told.serial) (of_copies a c (other_side n.side)) e.1)

-- ---- a copy behind its gate

abbrev behind : Area → Bool → List ℕ → Option CopyState
behind a closed body =
    unless_fault
    (if closed then Some copy_faults.GateShut
    else option_or (form_fault body) (option_or (digest_fault body) (geometry_fault a.geometry body)))
    (copy_told body)

copy_is : (a : Area) (c : Image) (side : Side) → copy_at a c side ≡ behind a (not (slice_index (c (gate_of side)) 0 == 1)) (body_at a c side)
unfolding copy_fault
copy_is a c side = refl

pub copy_open : (a : Area) (c : Image) (side : Side) → IsOpen side c → copy_at a c side ≡ told_by_body a (body_at a c side)
copy_open a c side is = copy_is a c side ∙ ap (λ n. behind a (not (n == 1)) (body_at a c side)) is

pub copy_shut : ShutIsNoCopy
copy_shut a c side is =
    copy_is a c side
    ∙ ap (λ b. behind a (not b) (body_at a c side)) (let e : (slice_index (c (gate_of side)) 0 == 1) ≡ false = grind (arith, is) in e)

one_of : (a : Area) (body : List ℕ) (b : Bool) → (behind a (not b) body ≡ None) ⊎ (behind a (not b) body ≡ told_by_body a body)
one_of a body true = inr refl
one_of a body false = inl refl

pub shut_or_open : (a : Area) (c : Image) (side : Side)
    → (copy_at a c side ≡ None) ⊎ (copy_at a c side ≡ told_by_body a (body_at a c side))
shut_or_open a c side =
    let is = copy_is a c side in
    elim (one_of a (body_at a c side) (slice_index (c (gate_of side)) 0 == 1)) [
      | inl none ↦ inl (is ∙ none)
      | inr told ↦ inr (is ∙ told)
    ]

told_open : (a : Area) (t : CopyState) (is_open : Bool) (body : List ℕ) → behind a (not is_open) body ≡ Some t
    → (is_open ≡ true) × (told_by_body a body ≡ Some t)
told_open a t true body is = (refl, is)
told_open a t false body is = absurd cc

-- an accepted copy has its gate open, and its body tells it
pub accepted_copy : (a : Area) (c : Image) (side : Side) (t : CopyState) → copy_at a c side ≡ Some t
    → IsOpen side c × (told_by_body a (body_at a c side) ≡ Some t)
accepted_copy a c side t is =
    let e = told_open a t (slice_index (c (gate_of side)) 0 == 1) (body_at a c side) (sym (copy_is a c side) ∙ is) in
    (eqb-true (slice_index (c (gate_of side)) 0) 1 e.0, e.1)
