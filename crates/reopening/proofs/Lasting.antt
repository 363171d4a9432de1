-- What lasts lasts on.
use Rattle.std.proofs.Common.{ℕ, ◌≡◌, ◌≤◌, ◌++◌, ◌∷◌, [], append_assoc, List, inr, refl, sym, ap, subst, ◌∙◌, arith}
use Rattle.device_log.specs.Image.{Image}
use Rattle.device_log.specs.Along.{NoCall}
use Rattle.device_log.proofs.CallLaws.{joins, weaker}
use Rattle.stripe_header.specs.declared.area.Area.{Area}
use Rattle.cache_model.specs.Permit.{IsAmong}
use Rattle.cache_model.specs.State.{Mark}
use Rattle.reopening.specs.Guards.{OpensToOne}
use Rattle.reopening.specs.Lasting.{LastsOn, LastsStill, OpeningsFollow, TakesUpOne}

pub among_more : (added marks : List Mark) (m : Mark) → IsAmong m marks → IsAmong m (added ++ marks)
among_more [] marks m is = is
among_more (x ∷ added) marks m is = inr (among_more added marks m is)

-- what opens to one of these syncs opens to one of more, from an earlier serial on
one_more : (a : Area) (added marks all : List Mark) (low high : ℕ) (c : Image) → all ≡ added ++ marks → low ≤ high
    → OpensToOne a (TakesUpOne marks) high c → OpensToOne a (TakesUpOne all) low c
one_more a added marks all low high c is le h = record {
  opening = h.opening;
  opens = h.opens;
  found = (h.found.0, subst (IsAmong h.found.0) (sym is) (among_more added marks h.found.0 h.found.1), h.found.2);
  later = let l = h.later in omega (arith, le, l);
}

pub lasts_on : LastsOn
lasts_on a settled first x y z s t u one two =
    let Opens = λ (marks : List Mark) (low : ℕ). OpensToOne a (TakesUpOne marks) low in
    record {
      added = two.added ++ one.added;
      marks = two.marks ∙ (ap (λ l. two.added ++ l) one.marks ∙ sym (append_assoc two.added one.added s.marks));
      later = omega (arith, one.later, two.later);
      geometry = two.geometry ∙ one.geometry;
      moments = joins (Opens u.marks s.finished) settled first x y z
          (weaker (Opens t.marks s.finished) (Opens u.marks s.finished) settled first x y
          (λ c h. one_more a two.added t.marks u.marks s.finished s.finished c two.marks (let e : s.finished ≤ s.finished = omega arith in e) h) one.moments)
          (weaker (Opens u.marks t.finished) (Opens u.marks s.finished) settled first y z
          (λ c h. one_more a [] u.marks u.marks s.finished t.finished c refl one.later h) two.moments);
    }

pub lasts_still : LastsStill
lasts_still a settled first past s t marks finished geometry = record {
  added = [];
  marks = marks;
  later = omega (arith, finished);
  geometry = geometry;
  moments = NoCall;
}

pub openings_follow : OpeningsFollow
openings_follow a s settled first past c same now may =
    let is = now c may in
    let serial : is.opening.serial ≡ is.found.0.serial = ap (λ (m : Mark). m.serial) is.found.2 in (
      is.opening,
      is.opens,
      record { same = same; mark = is.found.0; allowed = (is.found.1, omega (arith, serial, is.later)); taken = is.found.2 },
    )
