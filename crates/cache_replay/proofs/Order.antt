-- The devices of a bay come back in the order in which they were attached.
use Rattle.std.proofs.Common.{◌≡◌, ℕ, suc, ◌+◌, ◌++◌, List, [], ◌∷◌, length, refl, sym, ◌∙◌, ap, subst, arith}
use Rattle.std.proofs.lemmas.List.{append-nil, append_assoc, length_push, length-append}
use Rattle.logged_disk.specs.Device.{DeviceState as Device}
use Rattle.device_bay.specs.Calls.{BayCall, Gave, RefusedAttach, TookBack, Gift, gifts_of, number_behind, returned_by}
use Rattle.device_bay.specs.Bay.{IsNewDevice, Refuses}
use Rattle.script_run.specs.Ledger.{AreLast, AreNumbered, InOrder, KeepsOrder}
use Rattle.cache_replay.specs.Session.{AreLater}

-- ---- numbers

numbered_at : (a b : ℕ) (devices : List Device) → a ≡ b → AreNumbered a devices → AreNumbered b devices
numbered_at a b devices same h = subst (λ n. AreNumbered n devices) same h

numbered_append : (given : ℕ) (front back : List Device) → AreNumbered given front → AreNumbered (given + length front) back → AreNumbered given (front ++ back)
numbered_append given [] back h k = numbered_at (given + length {A = Device} []) given back (omega arith) k
numbered_append given (device ∷ front) back h k =
    (h.0, numbered_append (given + 1) front back h.1 (numbered_at (given + length (device ∷ front)) (given + 1 + length front) back (omega arith) k))

-- devices that go on keep their numbers
numbered_later : (given : ℕ) (old new : List Device) → AreLater old new → AreNumbered given old → AreNumbered given new
numbered_later given [] [] later h = tt
numbered_later given [] (e ∷ new) later h = absurd later
numbered_later given (d ∷ old) [] later h = absurd later
numbered_later given (d ∷ old) (e ∷ new) later h = (later.0.number ∙ h.0, numbered_later (given + 1) old new later.1 h.1)

-- ---- how many there are

pub as_many : (old new : List Device) → AreLater old new → length new ≡ length old
as_many [] [] later = refl
as_many [] (e ∷ new) later = absurd later
as_many (d ∷ old) [] later = absurd later
as_many (d ∷ old) (e ∷ new) later = ap suc (as_many old new later.1)

-- ---- a bay that goes on

last_at : (a b : ℕ) (own : List Device) (past : List BayCall) → a ≡ b → AreLast a own past → AreLast b own past
last_at a b own past same h = subst (λ n. AreLast n own past) same h

-- none came back
pub none_back : (given : ℕ) (own : List Device) (old new : List BayCall) → returned_by new ≡ returned_by old → AreLast given own new → InOrder given own old new
none_back given own old new same last = record {
  devices = [];
  returned = same ∙ sym (append-nil (returned_by old));
  numbered = tt;
  rest = last_at given (given + length {A = Device} []) own new (omega arith) last;
}

-- no call of the bay was made, and its devices went on
pub order_stays : (old new : List Device) (past : List BayCall) → AreLater old new → KeepsOrder old past new past
order_stays old new past later given last = none_back given new past past refl (record {
  numbered = numbered_later given old new later last.numbered;
  all = last.all ∙ ap (λ n. given + n) (sym (as_many old new later));
})

pub order_same : (own : List Device) (past : List BayCall) → KeepsOrder own past own past
order_same own past given last = none_back given own past past refl last

pub order_as : (own : List Device) (old new : List BayCall) → new ≡ old → KeepsOrder own old own new
order_as own old new is = subst (KeepsOrder own old own) (sym is) (order_same own old)

-- an attach was refused
pub order_refused : (own : List Device) (name : List ℕ) (blocks count : ℕ) (old new : List BayCall) → Refuses name blocks count old new → KeepsOrder own old own new
order_refused own name blocks count old new refuses = subst (KeepsOrder own old own) (sym refuses.past) (λ given last.
    none_back given own old (RefusedAttach name blocks count ∷ old) refl (record { numbered = last.numbered; all = last.all }))

-- the last one came back
pub order_closed : (front own : List Device) (old new : List BayCall) → KeepsOrder (front ++ []) old own new → KeepsOrder front old own new
order_closed front own old new h = subst (λ (xs : List Device). KeepsOrder xs old own new) (append-nil front) h

-- the first of those that are out came back
pub order_took : (device : Device) (own : List Device) (old new : List BayCall) → new ≡ TookBack device ∷ old → KeepsOrder (device ∷ own) old own new
order_took device own old new is given last =
    let before : length (gifts_of old) ≡ given + length (device ∷ own) = last.all in
    subst (InOrder given own old) (sym is) (record {
      devices = device ∷ [];
      returned = refl;
      numbered = (last.numbered.0, tt);
      rest = record { numbered = last.numbered.1; all = omega (arith, before) };
    })

-- one more was attached
pub order_gave : (device : Device) (own : List Device) (name : List ℕ) (blocks : ℕ) (old new : List BayCall) → new ≡ Gave name blocks ∷ old → IsNewDevice blocks old device
    → KeepsOrder own old (own ++ device ∷ []) new
order_gave device own name blocks old new is attached given last =
    let gift : Gift = record { name = name; blocks = blocks } in
    let before : length (gifts_of old) ≡ given + length own = last.all in
    subst (InOrder given (own ++ device ∷ []) old) (sym is) (none_back given (own ++ device ∷ []) old (Gave name blocks ∷ old) refl (record {
      numbered = numbered_append given own (device ∷ []) last.numbered (attached.number_is ∙ ap number_behind before, tt);
      all = omega (arith, before, length_push (gifts_of old) gift, length_push own device);
    }))

pub order_then : (a b c : List Device) (p q r : List BayCall) → KeepsOrder a p b q → KeepsOrder b q c r → KeepsOrder a p c r
order_then a b c p q r front back given last =
    let first : InOrder given b p q = front given last in
    let second : InOrder (given + length first.devices) c q r = back (given + length first.devices) first.rest in
    record {
      devices = first.devices ++ second.devices;
      returned = second.returned ∙ (ap (λ l. l ++ second.devices) first.returned ∙ append_assoc (returned_by p) first.devices second.devices);
      numbered = numbered_append given first.devices second.devices first.numbered second.numbered;
      rest = last_at (given + length first.devices + length second.devices) (given + length (first.devices ++ second.devices)) c r
          (omega (arith, length-append first.devices second.devices)) second.rest;
    }

-- nothing is out that was attached behind all
pub none_out : (past : List BayCall) → AreLast (length (gifts_of past)) [] past
none_out past = record { numbered = tt; all = omega arith }
