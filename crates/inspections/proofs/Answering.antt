-- What answers say of an inspection, by what was read.
use Rattle.std.proofs.Common.{◌≡◌, ◌≢◌, ℕ, false, ◌+◌, ◌/◌, ◌≤◌, min, Bool, List, [], length, Result, Ok, Err, Option, Some, None, ap, subst, ◌∙◌, inl, inr, arith}
use Rattle.std.specs.Prelude.{IfErr, IfOk, IsErrAnd, string_bytes}
use Rattle.device_log.specs.Image.{Image, span}
use Rattle.device_log.proofs.Spans.{span_one}
use Rattle.logged_disk.specs.Device.{DeviceState as Device}
use Rattle.stripe_header.specs.declared.area.Area.{Area}
use Rattle.stripe_header.specs.declared.area.Side.TheVariants as sides
use Rattle.stripe_header.specs.Layout.{body_blocks, body_of, device_blocks}
use Rattle.std.specs.declared.alloc.AllocError.{AllocError}
use Rattle.device_reads.specs.declared.reads.ReadFault.{ReadFault}
use Rattle.device_reads.specs.declared.reads.ReadFault.TheVariants.{Memory}
use Rattle.device_reads.specs.Reads.{Fails, Reads}
use Rattle.device_reads.proofs.Telling.{fails_as, fails_then, reads_as, reads_none, reads_then, wants_behind}
use Rattle.inspections.specs.declared.copies.CopyRead.{CopyRead}
use Rattle.inspections.specs.declared.copies.Gates.{Gates}
use Rattle.inspections.specs.declared.device.Inspection.{Inspection}
use Rattle.inspections.specs.declared.head.Head.{Head}
use Rattle.inspections.specs.Copies.{copy_of}
use Rattle.inspections.specs.Head.{HeadIs, IsLaid}
use Rattle.inspections.specs.Inspect.{IsInspected, Says}
use Rattle.inspections.specs.Lines.{lines_of, opens_by}
use Rattle.inspections.proofs.Opening.{opens_as_image}

pub err_as : {T E : Type 0} {Q : E → Type 0} (r : Result T E) (P : E → Type 0) → IsErrAnd r Q → ((y : E) → Q y → P y) → IfErr r P
err_as (Ok x) P is f = tt
err_as (Err y) P is f = f y is

pub err_map : {T E : Type 0} {Q : E → Type 0} (r : Result T E) (P : E → Type 0) → ((y : E) → Q y → P y) → IfErr r Q → IfErr r P
err_map (Ok x) P f is = tt
err_map (Err y) P f is = f y is

pub ok_map : {T E : Type 0} {Q : T → Type 0} (r : Result T E) (P : T → Type 0) → ((x : T) → Q x → P x) → IfOk r Q → IfOk r P
ok_map (Ok x) P f is = f x is
ok_map (Err y) P f is = tt

-- ---- the head

-- a device without a block has no stripe
pub none_there : (s : Device) → s.size ≡ 0 → Reads 0 (min 1 s.size) 1 s s (λ c. HeadIs (c 0) s.size None)
none_there s empty =
    reads_none 0 (min 1 s.size) 1 s (λ c. HeadIs (c 0) s.size None) (omega arith) (λ c image a lies. let room : device_blocks a ≤ s.size = lies.laid.room in absurd (omega (arith, room, empty)))

pub head_as_read : (old new : Device) (block : List ℕ) (head : Option Head) → old.size ≢ 0 → length block ≡ 512 → HeadIs block old.size head
    → Reads 0 (0 + length block / 512) 1 old new (λ c. block ≡ span c 0 (length block / 512)) → Reads 0 (min 1 old.size) 1 old new (λ c. HeadIs (c 0) old.size head)
head_as_read old new block head some long is reads =
    let one : length block / 512 ≡ 1 = ap (λ n. n / 512) long in
    reads_as 0 (0 + length block / 512) (min 1 old.size) 1 1 old new (λ c. block ≡ span c 0 (length block / 512)) (λ c. HeadIs (c 0) old.size head) (omega (arith, one, some)) (omega arith)
    (λ c image told. subst (λ (l : List ℕ). HeadIs l old.size head) (told ∙ (ap (span c 0) one ∙ span_one c 0)) is) reads

-- ---- the stripe

module _ (head : Head) (s : Device) (laid : IsLaid s.size head.area) where
  abbrev area : Area
  area = head.area

  abbrev middle : ℕ
  middle = body_of area sides.A + body_blocks area

  abbrev end : ℕ
  end = body_of area sides.B + body_blocks area

  room : device_blocks area ≤ s.size
  room = laid.room

  pub gates_fail : (t : Device) (e : ReadFault) → Fails 1 3 1 s t e → Fails 1 s.size 3 s t e
  gates_fail t e fails = fails_as 1 3 s.size 1 3 s t e (omega (arith, room)) (omega arith) fails

  module _ (gates : Gates) (t u : Device) where
    abbrev AreGates : Image → Type 0
    AreGates c = (gates.a ≡ c 1) × (gates.b ≡ c 2)

    pub one_fails : (e : ReadFault) → Reads 1 3 1 s t AreGates → Fails (body_of area sides.A) middle 1 t u e → Fails 1 s.size 3 s u e
    one_fails e front fails = fails_as 1 middle s.size 2 3 s u e (omega (arith, room)) (omega arith) (fails_then 1 3 middle 1 1 s t u AreGates e front fails)

    module _ (a : CopyRead) where
      abbrev IsOne : Image → Type 0
      IsOne c = gates.a ≡ c 1 → a ≡ copy_of area c sides.A

      front_reads : Reads 1 3 1 s t AreGates → Reads (body_of area sides.A) middle 1 t u IsOne → Reads 1 (body_of area sides.B) 2 s u (λ c. AreGates c × IsOne c)
      front_reads front one =
          let wide : Reads 3 (body_of area sides.B) 1 t u IsOne = reads_as 3 middle (body_of area sides.B) 1 1 t u IsOne IsOne (omega arith) (omega arith) (λ c image is. is) one in
          reads_then 1 3 (body_of area sides.B) 1 1 s t u AreGates IsOne front wide

      module _ (v : Device) where
        pub other_fails : (e : ReadFault) → Reads 1 3 1 s t AreGates → Reads (body_of area sides.A) middle 1 t u IsOne → Fails (body_of area sides.B) end 1 u v e → Fails 1 s.size 3 s v e
        other_fails e front one fails =
            fails_as 1 end s.size 3 3 s v e (omega (arith, room)) (omega arith) (fails_then 1 (body_of area sides.B) end 2 1 s u v (λ c. AreGates c × IsOne c) e (front_reads front one) fails)

        module _ (b : CopyRead) (front : Reads 1 3 1 s t AreGates) (one : Reads (body_of area sides.A) middle 1 t u IsOne)
            (other : Reads (body_of area sides.B) end 1 u v (λ c. gates.b ≡ c 2 → b ≡ copy_of area c sides.B)) where
          abbrev IsOther : Image → Type 0
          IsOther c = gates.b ≡ c 2 → b ≡ copy_of area c sides.B

          abbrev AreAll : Image → Type 0
          AreAll c = (AreGates c × IsOne c) × IsOther c

          all_reads : Reads 1 s.size 3 s v AreAll
          all_reads =
              reads_as 1 end s.size 3 3 s v AreAll AreAll (omega (arith, room)) (omega arith) (λ c image is. is)
              (reads_then 1 (body_of area sides.B) end 2 1 s u v (λ c. AreGates c × IsOne c) IsOther (front_reads front one) other)

          pub all_want : (e : AllocError) → Fails 1 s.size 3 s v (Memory e)
          all_want e = wants_behind 1 s.size 3 s v AreAll e all_reads

          pub stripe_says : (said : Inspection) → string_bytes said.text ≡ lines_of head.version area a b → said.opens ≡ opens_by a b → Reads 1 s.size 3 s v (IsInspected head said)
          stripe_says said text opens =
              reads_as 1 s.size s.size 3 3 s v AreAll (IsInspected head said) (omega arith) (omega arith)
              (λ c image is.
              let first : a ≡ copy_of area c sides.A = is.0.1 is.0.0.0 in
              let second : b ≡ copy_of area c sides.B = is.1 is.0.0.1 in
              record {
                text_is = text ∙ (ap (λ x. lines_of head.version area x b) first ∙ ap (lines_of head.version area (copy_of area c sides.A)) second);
                opens_is = opens ∙ (ap (λ x. opens_by x b) first ∙ ap (opens_by (copy_of area c sides.A)) second);
              })
              all_reads

-- ---- the device

module _ (s t : Device) where
  pub head_fails : (e : ReadFault) → Fails 0 (min 1 s.size) 1 s t e → Fails 0 s.size 4 s t e
  head_fails e fails = fails_as 0 (min 1 s.size) s.size 1 4 s t e (omega arith) (omega arith) fails

  pub none_says : (text : List ℕ) (opens : Bool) → text ≡ [] → opens ≡ false → Reads 0 (min 1 s.size) 1 s t (λ c. HeadIs (c 0) s.size None) → Reads 0 s.size 4 s t (λ c. Says s.size c text opens)
  none_says text opens empty shut reads =
      reads_as 0 (min 1 s.size) s.size 1 4 s t (λ c. HeadIs (c 0) s.size None) (λ c. Says s.size c text opens) (omega arith) (omega arith)
      (λ c image none. inl (record { none = none; text_is = empty; shut = shut })) reads

  module _ (head : Head) (front : Reads 0 (min 1 s.size) 1 s t (λ c. HeadIs (c 0) s.size (Some head))) (u : Device) where
    abbrev Heads : Image → Type 0
    Heads c = HeadIs (c 0) s.size (Some head)

    first : Reads 0 1 1 s t Heads
    first = reads_as 0 (min 1 s.size) 1 1 1 s t Heads Heads (omega arith) (omega arith) (λ c image is. is) front

    same : t.size ≡ s.size
    same = front.keeps.size

    pub stripe_fails : (e : ReadFault) → Fails 1 t.size 3 t u e → Fails 0 s.size 4 s u e
    stripe_fails e fails = fails_then 0 1 s.size 1 3 s t u Heads e first (subst (λ (n : ℕ). Fails 1 n 3 t u e) same fails)

    pub device_says : (said : Inspection) → Reads 1 t.size 3 t u (IsInspected head said) → Reads 0 s.size 4 s u (λ c. Says s.size c (string_bytes said.text) said.opens)
    device_says said reads =
        let both = reads_then 0 1 s.size 1 3 s t u Heads (IsInspected head said) first (subst (λ (n : ℕ). Reads 1 n 3 t u (IsInspected head said)) same reads) in
        reads_as 0 s.size s.size 4 4 s u (λ c. Heads c × IsInspected head said c) (λ c. Says s.size c (string_bytes said.text) said.opens) (omega arith) (omega arith)
        (λ c image is.
        let lines : ℕ → List ℕ = λ version. lines_of version head.area (copy_of head.area c sides.A) (copy_of head.area c sides.B) in
        inr (record {
          area = head.area;
          lies = is.0.0;
          text_is = is.1.text_is ∙ ap lines is.0.1;
          opens_is = is.1.opens_is ∙ opens_as_image head.area c;
        }))
        both
