-- Whether a put's vector is a piece, and what comes of it.
use Rattle.std.proofs.Common.{◌≡◌, ℕ, ◌+◌, ◌*◌, ◌<◌, ◌≤◌, List, [], ◌∷◌, ◌++◌, refl, sym, ◌∙◌, ap, subst, arith, inl, inr, ◌⊎◌, Bool, true, false, length, Result, Ok, Err, IfOk, append_assoc, append-nil}
use Rattle.std.specs.Prelude.{Option, Some, None, IsSome, ◌==◌, if◌then◌else◌, IfErr}
use Rattle.std.proofs.lemmas.Bool.{eqb-true}
use Rattle.std.specs.declared.alloc.AllocError.{AllocError}
use Rattle.std.proofs.lemmas.List.{length-append}
use Rattle.tape_base.specs.declared.geometries.Geometry.{Geometry}
use Rattle.tape_base.specs.Blocks.{blocks_of}
use Rattle.tape_base.specs.Geometry.{budget_of}
use Rattle.logged_disk.specs.Device.{DeviceState as Device, TellsAll}
use Rattle.logged_disk.specs.declared.device.Disk.{Ghosts as DiskGhosts}
use Rattle.dir_table.specs.declared.directory.Directory.{Ghosts as DirectoryGhosts}
use Rattle.cache_chronicle.specs.declared.chronicle.Chronicle.{Ghosts as ChronicleGhosts}
use Rattle.fragment_table.specs.Table.{TableRow, made_row}
use Rattle.alternate_vector.specs.Field.{Field}
use Rattle.alternate_vector.specs.Alternates.{Stored, fields_size, vector_size}
use Rattle.cache_model.specs.declared.record.Rec.{Rec}
use Rattle.cache_model.specs.declared.record.Rec.TheVariants as rec
use Rattle.cache_model.specs.State.{PutRow, Row, State, after_all, alternate_of, alternates_of, put_of, with_cut, most_fragments}
use Rattle.cache_model.specs.Kept.{Kept, state_of, with_records}
use Rattle.cache_model.specs.Verdict.{live_vector_of}
use Rattle.cache_model.specs.Permit.{Done, End, Fails, Faulted, Permit, Stays, TooLarge, Weigh, work_after}
use Rattle.cache_model.specs.Given.{IsReadWhereLive}
use Rattle.cache_model.specs.Legal.{DoesWeigh, IsQuiet, IsWriting, MayGrow, aborted_record, is_writing, nothing, size_alone}
use Rattle.cache_model.specs.Pair.{IsKeyPair}
use Rattle.cache_model.specs.Vectors.{AreVectors, IsVectorAs}
use Rattle.cache_model.proofs.Steps.{grows_by, grows_on}
use Rattle.call_laws.specs.Untold.{Untold}
use Rattle.call_laws.proofs.Kept.{tells_or_not}
use Rattle.cache_answers.specs.declared.answers.Refusal.{Refusal}
use Rattle.cache_answers.specs.declared.answers.Refusal.TheVariants as refusal
use Rattle.piece_answers.specs.Covers.{AllReadIsSeen, Covers, SpendsFirst}
use Rattle.held_pieces.specs.Still.{IsUnwritten}
use Rattle.stripe_core.specs.declared.stripe.Stripe.{Stripe}
use Rattle.stripe_core.specs.Between.{Continues}
use Rattle.stripe_answers.specs.Counts.{IsCounted}
use Rattle.stripe_core.specs.Stripe.{Wanting, kept_in, seen_in}
use Rattle.stripe_core.proofs.Continuing.{continues_still}
use Rattle.piece_answers.proofs.Covering.{own_covers, own_permit}
use Rattle.stripe_vectors.specs.declared.reading.KeyVector.{KeyVector}
use Rattle.stripe_vectors.specs.declared.reading.KeyVector.TheVariants as found
use Rattle.stripe_vectors.specs.declared.spelling.Spelled.{Spelled}
use Rattle.stripe_vectors.specs.Reading.{FindsVector, ReadIsListed, trouble_records, vector_adds}
use Rattle.stripe_vectors.specs.Spelled.{IsSpelled}
use Rattle.stripe_write.specs.declared.weighing.Vectors.{Vectors}
use Rattle.stripe_write.specs.declared.writer.Writer.{Writer}
use Rattle.stripe_write.specs.Closing.{AreSpelled, IsReadFor, WeighsAsAsked, WeighsInStripe, WeighsWhere, weigh_end}
use Rattle.stripe_write.specs.Weighing.{FitsWhere, IsSpelledWith, fault_in, fit_adds, list_in}
use Rattle.stripe_write.specs.Writers.{HasOpenWriter, written_as}
use Rattle.stripe_write.proofs.Ended.{open_put, own_number}
use Rattle.stripe_answers.proofs.KeyPairs.{key_wider}
use Rattle.stripe_write.proofs.Owning.{owns_none}
use Rattle.stripe_write.proofs.Spending.{nothing_more, state_behind}
use Rattle.stripe_write.proofs.WeighingReads.{IsReadSoFar, fault_does, read_so_far}
use Rattle.cache_calls.specs.Actors.{IsWriterOf, IsAtHand}
use Rattle.cache_calls.specs.Asked.{rest_rows}
use Rattle.cache_calls.specs.Writers.{alternate_at_close, size_at_close}

-- ---- the size of the vector

-- a table of so many rows beside the fields
abbrev sized : List Field → List Field → ℕ → ℕ
sized request response rows = 4 + (0 + (24 + fields_size request + fields_size response + (4 + 36 * rows)))

not_zero : (n : ℕ) → 0 < n → (n == 0) ≡ false
not_zero n some = by (n == 0) refl
  where
    by : (b : Bool) → (n == 0) ≡ b → b ≡ false
    by false e = refl
    by true e = let zero : n ≡ 0 = eqb-true n 0 e in absurd (omega (arith, zero, some))

size_cut : (row : PutRow) (rest : ℕ) → 0 < rest → size_alone row rest ≡ sized row.request row.response (length row.cuts + 1)
size_cut row rest some =
    ap (λ b. vector_size (alternate_of (if b then row else with_cut (made_row rest []) row) ∷ [])) (not_zero rest some)
    ∙ ap (sized row.request row.response) (length-append row.cuts (made_row rest [] ∷ []))

size_with : (row : PutRow) (rest : List ℕ) → size_alone row (length rest) ≡ sized row.request row.response (length (row.cuts ++ rest_rows rest))
size_with row [] = ap (λ (rows : List TableRow). sized row.request row.response (length rows)) (sym (append-nil row.cuts))
size_with row (byte ∷ bytes) = size_cut row (length (byte ∷ bytes)) (omega arith) ∙ ap (sized row.request row.response) (sym (length-append row.cuts (rest_rows (byte ∷ bytes))))

size_is : (g : Geometry) (row : PutRow) (w : Writer) → IsAtHand g row (written_as w) → size_alone row (length w.gathered.items) ≡ size_at_close (written_as w)
size_is g row w here =
    size_with row w.gathered.items
    ∙ (ap (λ fields. sized fields row.response (length (row.cuts ++ rest_rows w.gathered.items))) here.request_is
    ∙ (ap (λ fields. sized w.request fields (length (row.cuts ++ rest_rows w.gathered.items))) here.response_is
    ∙ ap (λ (rows : List TableRow). sized w.request w.response (length (rows ++ rest_rows w.gathered.items))) here.cuts_are))

pub more_gathered : (s : State) (w : Writer) → is_writing s w.put ≡ true → IsWriterOf s (written_as w) → 0 < length w.gathered.items → length w.table.rows < most_fragments
more_gathered s w writing own some =
    let o = open_put (put_of s w.put) writing in
    let here : IsAtHand s.geometry o.0 (written_as w) = own o.0 o.1 o.2 in
    subst (λ (rows : List TableRow). length rows < most_fragments) here.cuts_are (here.more some)

-- ---- what is spelled

small_of : (g : Geometry) (list : Option (List Stored)) (new : Stored) (o : Option Spelled) → IsSpelledWith g list new o → (m : Spelled) → o ≡ Some m → blocks_of (length m.bytes.items) ≤ budget_of g
small_of g (Some list) new (Some spelled) h m is = let same : spelled ≡ m = cc in subst (λ (x : Spelled). blocks_of (length x.bytes.items) ≤ budget_of g) same h.small
small_of g (Some list) new None h m is = cc
small_of g None new (Some spelled) h m is = absurd h
small_of g None new None h m is = cc

pub weighs_where : (s t : State) (list : Option (List Stored)) (w : Writer) (result : Result Vectors Refusal) → t.geometry ≡ s.geometry → FitsWhere t list w result → WeighsWhere s w result
weighs_where s t list w (Ok v) same h =
    subst (λ g. AreSpelled g w v) same (record { fits = h.fits; alone = h.alone; merged = small_of t.geometry list (alternate_at_close (written_as w)) v.merged h.merged })
weighs_where s t list w (Err (refusal.VectorTooLarge bytes)) same h = (h.0, subst (λ g. budget_of g < blocks_of bytes) same h.1)
weighs_where s t list w (Err (refusal.Memory e)) same h = tt
weighs_where s t list w (Err (refusal.DeviceFault count)) same h = absurd h
weighs_where s t list w (Err (refusal.Exhausted number)) same h = absurd h
weighs_where s t list w (Err refusal.TooManyWriters) same h = absurd h
weighs_where s t list w (Err refusal.TooManyFragments) same h = absurd h
weighs_where s t list w (Err (refusal.Lost index why)) same h = absurd h
weighs_where s t list w (Err refusal.Sealed) same h = absurd h
weighs_where s t list w (Err refusal.NoSuchWriter) same h = absurd h

-- the device is not asked for it
pub fit_counted : (s : State) (list : Option (List Stored)) (w : Writer) (faults : ℕ) (result : Result Vectors Refusal)
    → FitsWhere s list w result → IfErr result (IsCounted faults)
fit_counted s list w faults (Ok v) h = tt
fit_counted s list w faults (Err (refusal.DeviceFault count)) h = absurd h
fit_counted s list w faults (Err _) h = tt

-- ---- where memory is wanting nothing was recorded

none_read : (o : Option Row) (answer : KeyVector) → IsSome (list_in answer) → trouble_records o answer ≡ []
none_read None answer h = refl
none_read (Some row) (found.Read list) h = refl
none_read (Some row) found.Absent h = refl
none_read (Some row) (found.Trouble why) h = cc

pub wants_nothing : (kept mid new : Kept) (w : Writer) (answer : KeyVector) (result : Result Vectors Refusal) → FitsWhere (state_of mid) (list_in answer) w result
    → mid ≡ with_records kept (vector_adds (state_of kept) w.key answer) → new ≡ with_records mid (fit_adds w result) → Wanting result (new ≡ kept)
wants_nothing kept mid new w answer (Err (refusal.Memory e)) h reads adds =
    adds ∙ (nothing_more mid ∙ (reads ∙ (ap (with_records kept) (none_read (live_vector_of (state_of kept) w.key) answer h) ∙ nothing_more kept)))
wants_nothing kept mid new w answer (Ok v) h reads adds = tt
wants_nothing kept mid new w answer (Err _) h reads adds = tt

-- ---- the last group

fit_does : (p : Permit) (t : State) (w : Writer) (row : PutRow) (list : Option (List Stored)) (result : Result Vectors Refusal) → IsWriting t w.put row → IsAtHand t.geometry row (written_as w)
    → IsReadWhereLive p t (live_vector_of t row.key) → FitsWhere t list w result → SpendsFirst p t (Weigh w.put (length w.gathered.items)) (fit_adds w result) (weigh_end w result)
fit_does p t w row list (Ok v) writing here readable h = λ rest why.
    let size : size_alone row (length w.gathered.items) ≡ size_at_close (written_as w) = size_is t.geometry row w here in
    let fits : blocks_of (size_alone row (length w.gathered.items)) ≤ budget_of t.geometry = subst (λ n. blocks_of n ≤ budget_of t.geometry) (sym size) h.fits in
    grows_by p t _ _ [] (Done, DoesWeigh.weighs row writing readable fits refl, refl)
fit_does p t w row list (Err (refusal.VectorTooLarge bytes)) writing here readable h = λ rest why.
    let size : size_alone row (length w.gathered.items) ≡ bytes = size_is t.geometry row w here ∙ sym h.0 in
    let large : budget_of t.geometry < blocks_of (size_alone row (length w.gathered.items)) = subst (λ n. budget_of t.geometry < blocks_of n) (sym size) h.1 in
    let adds : rec.Aborted w.put w.key ∷ [] ≡ aborted_record row ∷ [] =
    ap (λ n. rec.Aborted n w.key ∷ []) (sym (own_number w.put t.puts row writing.found)) ∙ ap (λ k. rec.Aborted row.put k ∷ []) (sym here.key_is) in
    let does : DoesWeigh p t w.put (length w.gathered.items) (rec.Aborted w.put w.key ∷ []) (Fails (TooLarge w.put bytes)) =
    subst (λ n. DoesWeigh p t w.put (length w.gathered.items) (rec.Aborted w.put w.key ∷ []) (Fails (TooLarge w.put n))) size (DoesWeigh.too_large row writing readable large adds) in
    grows_by p t _ _ (rec.Aborted w.put w.key ∷ []) (Fails (TooLarge w.put bytes), does, refl)
fit_does p t w row list (Err (refusal.Memory e)) writing here readable h = λ rest why. nothing
fit_does p t w row list (Err (refusal.DeviceFault count)) writing here readable h = absurd h
fit_does p t w row list (Err (refusal.Exhausted number)) writing here readable h = absurd h
fit_does p t w row list (Err refusal.TooManyWriters) writing here readable h = absurd h
fit_does p t w row list (Err refusal.TooManyFragments) writing here readable h = absurd h
fit_does p t w row list (Err (refusal.Lost index why)) writing here readable h = absurd h
fit_does p t w row list (Err refusal.Sealed) writing here readable h = absurd h
fit_does p t w row list (Err refusal.NoSuchWriter) writing here readable h = absurd h

-- behind what was read
spends_on : (p : Permit) (s : State) (put rest : ℕ) (before added : List Rec) (e : End) → (before ≡ []) ⊎ DoesWeigh p s put rest before Stays → SpendsFirst p (after_all s before) (Weigh put rest) added e
    → SpendsFirst p s (Weigh put rest) (before ++ added) e
spends_on p s put rest before added e (inl none) h = λ is why.
    subst (λ recs. MayGrow p s (record { intents = Weigh put rest ∷ is; refused = why }) (recs ++ added) (work_after (Weigh put rest) is why e)) (sym none)
    (subst (λ recs. MayGrow p (after_all s recs) (record { intents = Weigh put rest ∷ is; refused = why }) added (work_after (Weigh put rest) is why e)) none (h is why))
spends_on p s put rest before added e (inr does) h = λ is why. grows_on (grows_by p s _ _ before (Stays, does, refl)) (h is why)

-- ---- what the vectors that are spelled have

merged_some : (g : Geometry) (list : List Stored) (new : Stored) (o : Option Spelled) → IsSpelledWith g (Some list) new o → (m : Spelled) × (o ≡ Some m) × IsSpelled g list new m
merged_some g list new (Some m) h = (m, refl, h)
merged_some g list new None h = absurd h

read_by : (t : State) (w : Writer) (answer : KeyVector) (v : Vectors) → FitsWhere t (list_in answer) w (Ok v)
    → ((row : Row) → live_vector_of t w.key ≡ Some row → list_in answer ≡ Some (alternates_of t w.key)) → IsReadFor t w v
read_by t w answer v h same = λ row live.
    merged_some t.geometry (alternates_of t w.key) (alternate_at_close (written_as w)) v.merged
    (subst (λ o. IsSpelledWith t.geometry o (alternate_at_close (written_as w)) v.merged) (same row live) h.merged)

told_by : (p : Permit) (s t : State) (w : Writer) (answer : KeyVector) (result : Result Vectors Refusal) → FitsWhere t (list_in answer) w result
    → (AreVectors s → ((row : Row) → live_vector_of t w.key ≡ Some row → list_in answer ≡ Some (alternates_of t w.key)) ⊎ IsKeyPair IsVectorAs p s w.key)
    → IfOk result (λ v. AreVectors s → IsReadFor t w v ⊎ IsKeyPair IsVectorAs p s w.key)
told_by p s t w answer (Err e) h listed = tt
told_by p s t w answer (Ok v) h listed = λ vectors.
    elim (listed vectors) [ inl same ↦ inl (read_by t w answer v h same) | inr collide ↦ inr collide ]

-- what was read of the device's own content
exact_by : (t : State) (w : Writer) (answer : KeyVector) (result : Result Vectors Refusal) → FitsWhere t (list_in answer) w result
    → ((row : Row) → live_vector_of t w.key ≡ Some row → list_in answer ≡ Some (alternates_of t w.key)) → IfOk result (IsReadFor t w)
exact_by t w answer (Err e) h same = tt
exact_by t w answer (Ok v) h same = read_by t w answer v h same

-- a pair is shown where the device did not tell its content alone
told_surely : (p : Permit) (after : Device) (s t : State) (w : Writer) (result : Result Vectors Refusal)
    → (TellsAll after → IfOk result (IsReadFor t w))
    → IfOk result (λ v. AreVectors s → IsReadFor t w v ⊎ IsKeyPair IsVectorAs p s w.key)
    → IfOk result (λ v. AreVectors s → IsReadFor t w v ⊎ IsKeyPair (Untold after IsVectorAs) p s w.key)
told_surely p after s t w (Err e) exact told = tt
told_surely p after s t w (Ok v) exact told = λ vectors. elim (tells_or_not after) [
  | inl tells ↦ inl (exact tells)
  | inr n ↦ elim (told vectors) [
    | inl read ↦ inl read
    | inr pair ↦ inr (key_wider IsVectorAs (Untold after IsVectorAs) (λ u row document h. (h, n)) p s w.key pair)
  ]
]

-- where a vector is spelled nothing is added
no_more : (mid new : Kept) (w : Writer) (P : State → Vectors → Type 0) (result : Result Vectors Refusal)
    → new ≡ with_records mid (fit_adds w result) → IfOk result (P (state_of mid)) → IfOk result (P (state_of new))
no_more mid new w P (Err e) is h = tt
no_more mid new w P (Ok v) is h = subst (λ t. P t v) (sym (state_behind mid new [] is)) h

-- ---- weighing

-- memory is wanting before anything is read
pub wants : (kept new : Kept) (before after : Device) (w : Writer) (e : AllocError) (result : Result Vectors Refusal) → result ≡ Err (refusal.Memory e) → new ≡ kept → AllReadIsSeen before after → WeighsAsAsked before after kept new w result
wants kept new before after w e result is same seen =
    subst (WeighsAsAsked before after kept new w) (sym is) (record {
      seen = seen;
      exact = λ tells. tt;
      does = λ p covers. record {
        added = [];
        adds = same ∙ ap (λ recs. let k : Kept = record { told = kept.told; base = kept.base; since = recs } in k) (sym (append-nil kept.since));
        does = λ rest why. nothing;
        told = tt;
      };
    })

-- the device refuses to give the vector
pub faults : (kept new : Kept) (before after : Device) (w : Writer) (answer : KeyVector) (count : ℕ) → IsQuiet (state_of kept) → is_writing (state_of kept) w.put ≡ true → IsWriterOf (state_of kept) (written_as w)
    → fault_in answer ≡ Some count → new ≡ with_records kept (vector_adds (state_of kept) w.key answer) → FindsVector (state_of kept) before after w.key answer
    → WeighsAsAsked before after kept new w (Err (refusal.DeviceFault count))
faults kept new before after w answer count quiet writing own fault adds finds =
    let s : State = state_of kept in
    let o = open_put (put_of s w.put) writing in
    let key : o.0.key ≡ w.key = (own o.0 o.1 o.2).key_is in
    record {
      seen = finds.seen;
      exact = λ tells. tt;
      does = λ p covers. record {
        added = vector_adds s w.key answer;
        adds = adds;
        does = λ rest why.
            grows_by p s _ _ (vector_adds s w.key answer)
            (Fails (Faulted count), fault_does p s w.put (length w.gathered.items) o.0 (live_vector_of s w.key) answer count (record { quiet = quiet; found = o.1; is_open = o.2 }) (ap (live_vector_of s) key) (finds.answers p covers) fault, refl);
        told = tt;
      };
    }

-- a call that read, was not refused by the device, and judged: what its two parts tell
pub record IsWeighed (kept mid new : Kept) (before during after : Device) (w : Writer) (answer : KeyVector) (result : Result Vectors Refusal) : Type 0 where
  pub quiet : IsQuiet (state_of kept)
  pub writing : is_writing (state_of kept) w.put ≡ true
  pub own : IsWriterOf (state_of kept) (written_as w)
  pub quiet_then : IsQuiet (state_of mid)
  pub writing_then : is_writing (state_of mid) w.put ≡ true
  pub own_then : IsWriterOf (state_of mid) (written_as w)
  pub no_fault : fault_in answer ≡ None
  pub reads : mid ≡ with_records kept (vector_adds (state_of kept) w.key answer)
  pub finds : FindsVector (state_of kept) before during w.key answer
  pub fits : FitsWhere (state_of mid) (list_in answer) w result
  pub adds : new ≡ with_records mid (fit_adds w result)
  pub still : after ≡ during

so_far : ReadIsListed → (kept mid new : Kept) (before during after : Device) (w : Writer) (answer : KeyVector) (result : Result Vectors Refusal) (h : IsWeighed kept mid new before during after w answer result)
    (p : Permit) → Covers p before.past during.past → IsReadSoFar p (state_of kept) w.put (length w.gathered.items) w.key (vector_adds (state_of kept) w.key answer) answer
so_far law kept mid new before during after w answer result h p covers =
    let s : State = state_of kept in
    let o = open_put (put_of s w.put) h.writing in
    let key : o.0.key ≡ w.key = (h.own o.0 o.1 o.2).key_is in
    subst (λ k. IsReadSoFar p s w.put (length w.gathered.items) k (vector_adds s w.key answer) answer) key
    (read_so_far law p s w.put (length w.gathered.items) o.0 (live_vector_of s w.key) answer (record { quiet = h.quiet; found = o.1; is_open = o.2 }) (ap (live_vector_of s) key) (h.finds.answers p covers) h.no_fault)

pub weighs : ReadIsListed → (kept mid new : Kept) (before during after : Device) (w : Writer) (answer : KeyVector) (result : Result Vectors Refusal) → IsWeighed kept mid new before during after w answer result
    → WeighsAsAsked before after kept new w result
weighs law kept mid new before during after w answer result h =
    let s : State = state_of kept in
    let first : List Rec = vector_adds s w.key answer in
    let there : state_of mid ≡ after_all s first = state_behind kept mid first h.reads in
    let o = open_put (put_of (state_of mid) w.put) h.writing_then in
    let here : IsAtHand (state_of mid).geometry o.0 (written_as w) = h.own_then o.0 o.1 o.2 in
    let own = so_far law kept mid new before during after w answer result h (own_permit 0 before.past during.past)
    (own_covers 0 before.past during.past) in
    let exact : TellsAll after → IfOk result (IsReadFor (state_of mid) w) = λ tells.
    let same = own.exact (h.finds.exact (subst TellsAll h.still tells)) in
    exact_by (state_of mid) w answer result h.fits
    (subst (λ t. (row : Row) → live_vector_of t w.key ≡ Some row → list_in answer ≡ Some (alternates_of t w.key)) (sym there) same) in
    record {
      seen = subst (AllReadIsSeen before) (sym h.still) h.finds.seen;
      exact = λ tells. no_more mid new w (λ t. IsReadFor t w) result h.adds (exact tells);
      does = λ p covers.
          let far = so_far law kept mid new before during after w answer result h p (subst (λ (d : Device). Covers p before.past d.past) h.still covers) in
          let readable : IsReadWhereLive p (state_of mid) (live_vector_of (state_of mid) o.0.key) =
          subst (λ k. IsReadWhereLive p (state_of mid) (live_vector_of (state_of mid) k)) (sym here.key_is) (subst (λ t. IsReadWhereLive p t (live_vector_of t w.key)) (sym there) far.readable) in
          let last : SpendsFirst p (state_of mid) (Weigh w.put (length w.gathered.items)) (fit_adds w result) (weigh_end w result) =
          fit_does p (state_of mid) w o.0 (list_in answer) result (record { quiet = h.quiet_then; found = o.1; is_open = o.2 }) here readable h.fits in
          record {
            added = first ++ fit_adds w result;
            adds = h.adds ∙ (ap (λ k. with_records k (fit_adds w result)) h.reads ∙ ap (λ recs. let k : Kept = record { told = kept.told; base = kept.base; since = recs } in k) (append_assoc kept.since first (fit_adds w result)));
            does = spends_on p s w.put (length w.gathered.items) first (fit_adds w result) (weigh_end w result) far.grows (subst (λ t. SpendsFirst p t (Weigh w.put (length w.gathered.items)) (fit_adds w result) (weigh_end w result)) there last);
            told = no_more mid new w (λ t v. AreVectors s → IsReadFor t w v ⊎ IsKeyPair (Untold after IsVectorAs) p s w.key) result h.adds
                (told_surely p after s (state_of mid) w result exact (told_by p s (state_of mid) w answer result h.fits
                (subst (λ t. AreVectors s → ((row : Row) → live_vector_of t w.key ≡ Some row → list_in answer ≡ Some (alternates_of t w.key))
                ⊎ IsKeyPair IsVectorAs p s w.key) (sym there) far.listed)));
          };
    }

-- nothing is weighed, and nothing recorded
pub weighs_nothing : {D R C : Type 0} {d : DiskGhosts D} {r : DirectoryGhosts R} {c : ChronicleGhosts C} (s t : Stripe D R C d r c)
    (w : Writer) (result : Result Vectors Refusal) (e : AllocError) → result ≡ Err (refusal.Memory e) → HasOpenWriter s w → Continues s t
    → kept_in t ≡ kept_in s → IsUnwritten (seen_in s).device (seen_in t).device → AllReadIsSeen (seen_in s).device (seen_in t).device
    → WeighsInStripe s t w result
weighs_nothing s t w result e is at continues same unwritten seen =
    subst (λ (x : Result Vectors Refusal). WeighsInStripe s t w x) (sym is) (record {
      rests = continues_still s t continues same at.resting;
      weighs = tt;
      does =
          wants (kept_in s) (kept_in t) (seen_in s).device (seen_in t).device w e (Err (refusal.Memory e)) refl same seen;
      unwritten = unwritten;
      counts = tt;
      wanting = same;
      writer = subst (λ (k : Kept). IsWriterOf (state_of k) (written_as w)) (sym same) at.writer;
      puts = tt;
      geometry = tt;
      displaced = tt;
      row = tt;
      unit = tt;
      own = owns_none w.put (kept_in s) (kept_in t) same;
    })
