use Rattle.std.proofs.Common.{◌∙◌, refl, sym, subst, arith}
use Rattle.device_log.specs.Along.{Stopped, Went}
use Rattle.logged_disk.proofs.GoingOn.{goes_by_none, goes_further, stays_put}
use Rattle.std.specs.List.{AllByRecursion}
use Rattle.stripe_copies.specs.Format.{IsFirstBody, format_calls}
use Rattle.stripe_copies.proofs.Going.{IsWriting, stopped_counts, stopped_goes, went_goes}
use Rattle.stripe_copies.proofs.format.lay_out.Goals as goal

pub returns-in-Err-clause-fault : goal.returns-in-Err-clause-fault
returns-in-Err-clause-fault g c = record { unlaid = refl; goes = stays_put _ }

pub returns-in-Err-make_room-clause-fault : goal.returns-in-Err-make_room-clause-fault
returns-in-Err-make_room-clause-fault g c = record {
  unlaid = c.in-Err-make_room.ensures.none.past;
  goes = goes_by_none 0 0 _ _ c.in-Err-make_room.ensures.keeps c.in-Err-make_room.ensures.none.past;
}

pub returns-in-Ok-write_all-clause-laid : goal.returns-in-Ok-write_all-clause-laid
returns-in-Ok-write_all-clause-laid g c =
    let old = g.D.Disk.state c.args.disk.now in
    let mid = g.D.Disk.state c.make_room.new.self in
    let new = g.D.Disk.state c.write_all.new.disk in
    let calls = format_calls c.args.g.now c.deref.result.now in
    let room = c.in_default.ensures.room in
    let made = c.in-Ok-write_all.ensures.went in
    record {
      body = c.deref.result.now;
      first = subst (IsFirstBody c.args.g.now) (sym c.deref.ensures.value) c.in-Ok.ensures.body;
      made = record { went = subst (λ past. Went calls past new.past) room.past made.went; faults = made.faults ∙ room.faults };
      goes = goes_further old mid new (goes_by_none 0 0 old mid c.make_room.ensures.keeps room.past)
          (went_goes _ _ mid new calls c.write_all.ensures.keeps (tt, (tt, (tt, (tt, (tt, (tt, (tt, tt))))))) made.went);
    }

pub returns-clause-fault : goal.returns-clause-fault
returns-clause-fault g c =
    let old = g.D.Disk.state c.args.disk.now in
    let mid = g.D.Disk.state c.make_room.new.self in
    let new = g.D.Disk.state c.write_all.new.disk in
    let calls = format_calls c.args.g.now c.deref.result.now in
    let room = c.in_default.ensures.room in
    let stopped : Stopped calls new.faults mid.past new.past = c.in-Err-write_all.ensures.stopped in
    let all : AllByRecursion IsWriting calls = (tt, (tt, (tt, (tt, (tt, (tt, (tt, tt))))))) in
    record {
      unlaid = record {
        body = c.deref.result.now;
        first = subst (IsFirstBody c.args.g.now) (sym c.deref.ensures.value) c.in-Ok.ensures.body;
        stopped = subst (λ past. Stopped calls new.faults past new.past) room.past stopped;
        counted = c.faults.ensures;
        some = omega (arith, stopped_counts calls new.faults mid.past new.past all stopped, g.met.D.Disk.counted c.write_all.new.disk, c.faults.ensures);
      };
      goes = goes_further old mid new (goes_by_none 0 0 old mid c.make_room.ensures.keeps room.past)
          (stopped_goes _ _ new.faults mid new calls c.write_all.ensures.keeps all stopped);
    }
