use Rattle.std.proofs.Common.{◌≡◌, ◌∙◌, ap, length, take, take_at, drop_at, refl, drop, ◌++◌, arith}
use Rattle.std.proofs.lemmas.List.{take_all}
use Rattle.edge_io.proofs.Ranges.{range_more, range_same, whole_again}
use Rattle.edge_io.proofs.buffer.LineBuffer.read_from.Goals as goal

pub returns-in-Ok-clause-reads : goal.returns-in-Ok-clause-reads
returns-in-Ok-clause-reads g c =
    let i = c.self.inside in
    let new = c.read_behind.new.bytes in
    let got = take c.in-Ok.count (drop i.end new) in
    let len : length new ≡ i.bytes.len = omega (arith, c.read_behind.auto.bytes, c.deref_mut.ensures.len) in
    let front : take i.end new ≡ take i.end i.bytes.items = c.read_behind.ensures.front ∙ ap (take i.end) c.deref_mut.ensures.value in
    let more = range_more i.bytes.items new i.start i.end c.in-Ok.count (omega arith) (omega arith) front in
    let held = more ∙ ap (λ l. l ++ got) (ap (λ shown. shown.rest) c.self.view_is) in
    rw (whole_again i.bytes.len new i.bytes.items len, held, drop_at c.args.self.now.rest got _ refl) c.in-Ok.ensures.reads

pub returns-in-Ok-clause-front : goal.returns-in-Ok-clause-front
returns-in-Ok-clause-front g c =
    let i = c.self.inside in
    let new = c.read_behind.new.bytes in
    let len : length new ≡ i.bytes.len = omega (arith, c.read_behind.auto.bytes, c.deref_mut.ensures.len) in
    let front : take i.end new ≡ take i.end i.bytes.items = c.read_behind.ensures.front ∙ ap (take i.end) c.deref_mut.ensures.value in
    let more = range_more i.bytes.items new i.start i.end c.in-Ok.count (omega arith) (omega arith) front in
    let held = more ∙ ap (λ l. l ++ take c.in-Ok.count (drop i.end new)) (ap (λ shown. shown.rest) c.self.view_is) in
    rw (whole_again i.bytes.len new i.bytes.items len, held) (take_at c.args.self.now.rest (take c.in-Ok.count (drop i.end new)) _ refl)

held_still : goal.returns-in-Err-clause-err
held_still g c =
    let i = c.self.inside in
    let new = c.read_behind.new.bytes in
    let len : length new ≡ i.bytes.len = omega (arith, c.read_behind.auto.bytes, c.deref_mut.ensures.len) in
    let front : take i.end new ≡ take i.end i.bytes.items = c.read_behind.ensures.front ∙ ap (take i.end) c.deref_mut.ensures.value in
    rw (whole_again i.bytes.len new i.bytes.items len) (range_same i.bytes.items new i.start i.end front ∙ ap (λ shown. shown.rest) c.self.view_is)

pub returns-in-Err-clause-err : goal.returns-in-Err-clause-err
returns-in-Err-clause-err g c = held_still g c

pub returns-in-Err-clause-front : goal.returns-in-Err-clause-front
returns-in-Err-clause-front g c = rw (held_still g c) (take_all (length c.args.self.now.rest) c.args.self.now.rest (omega arith))
