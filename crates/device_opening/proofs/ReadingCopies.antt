-- What reads of both copies tell together.
use Rattle.std.proofs.Common.{◌≡◌, ℕ, ◌+◌, sym, subst, arith}
use Rattle.device_log.specs.Image.{Image}
use Rattle.logged_disk.specs.Device.{DeviceState as Device}
use Rattle.stripe_header.specs.declared.area.Area.{Area}
use Rattle.stripe_header.specs.declared.area.Side.TheVariants as sides
use Rattle.stripe_header.specs.Layout.{body_blocks, body_of, content_of}
use Rattle.device_reads.specs.declared.reads.ReadFault.{ReadFault}
use Rattle.device_reads.specs.Reads.{Fails, Reads}
use Rattle.device_reads.proofs.Telling.{fails_as, fails_then, reads_as, reads_then}
use Rattle.device_opening.specs.declared.copies.CopyRead.{CopyRead}
use Rattle.device_opening.specs.declared.copies.Copies.{Copies}
use Rattle.device_opening.specs.declared.copies.Gates.{Gates}
use Rattle.device_opening.specs.Copies.{AreCopiesOf, IsSideOf}

module _ (area : Area) (s t : Device) where
  abbrev middle : ℕ
  middle = body_of area sides.A + body_blocks area

  abbrev end : ℕ
  end = body_of area sides.B + body_blocks area

  pub gates_fail : (e : ReadFault) → Fails 1 3 1 s t e → Fails 1 (content_of area) 3 s t e
  gates_fail e fails = fails_as 1 3 (content_of area) 1 3 s t e (omega arith) (omega arith) fails

  module _ (gates : Gates) (front : Reads 1 3 1 s t (λ c. (gates.a ≡ c 1) × (gates.b ≡ c 2))) (u : Device) where
    abbrev AreGates : Image → Type 0
    AreGates c = (gates.a ≡ c 1) × (gates.b ≡ c 2)

    pub one_fails : (e : ReadFault) → Fails (body_of area sides.A) middle 1 t u e → Fails 1 (content_of area) 3 s u e
    one_fails e fails = fails_as 1 middle (content_of area) 2 3 s u e (omega arith) (omega arith) (fails_then 1 3 middle 1 1 s t u AreGates e front fails)

    module _ (a : CopyRead) (one : Reads (body_of area sides.A) middle 1 t u (λ c. gates.a ≡ c 1 → IsSideOf area c sides.A a)) (v : Device) where
      abbrev IsOne : Image → Type 0
      IsOne c = gates.a ≡ c 1 → IsSideOf area c sides.A a

      both : Reads 1 (body_of area sides.B) 2 s u (λ c. AreGates c × IsOne c)
      both =
          let wide : Reads 3 (body_of area sides.B) 1 t u IsOne = reads_as 3 middle (body_of area sides.B) 1 1 t u IsOne IsOne (omega arith) (omega arith) (λ c image is. is) one in
          reads_then 1 3 (body_of area sides.B) 1 1 s t u AreGates IsOne front wide

      pub other_fails : (e : ReadFault) → Fails (body_of area sides.B) end 1 u v e → Fails 1 (content_of area) 3 s v e
      other_fails e fails =
          fails_as 1 end (content_of area) 3 3 s v e (omega arith) (omega arith) (fails_then 1 (body_of area sides.B) end 2 1 s u v (λ c. AreGates c × IsOne c) e both fails)

      pub copies_read : (b : CopyRead) → Reads (body_of area sides.B) end 1 u v (λ c. gates.b ≡ c 2 → IsSideOf area c sides.B b)
          → (copies : Copies) → copies ≡ record { a = a; b = b } → Reads 1 (content_of area) 3 s v (AreCopiesOf area copies)
      copies_read b other copies is =
          let IsOther : Image → Type 0 = λ c. gates.b ≡ c 2 → IsSideOf area c sides.B b in
          let all : Image → Type 0 = λ c. (AreGates c × IsOne c) × IsOther c in
          reads_as 1 end (content_of area) 3 3 s v all (AreCopiesOf area copies) (omega arith) (omega arith)
          (λ c image told. subst (λ (x : Copies). AreCopiesOf area x c) (sym is) (told.0.1 told.0.0.0, told.1 told.0.0.1))
          (reads_then 1 (body_of area sides.B) end 2 1 s u v (λ c. AreGates c × IsOne c) IsOther both other)
