use Rattle.std.proofs.Common.{rules, refl, subst, sym}
use Rattle.cache_replay.specs.Bare.{IsBareOf}
use Rattle.cache_replay.proofs.bare_lines.lay_bare.Goals as goal

pub returns-in-Some-clause-laid : goal.returns-in-Some-clause-laid
returns-in-Some-clause-laid g c = record {
  part = c.replace.ensures.after;
  bare = subst (λ p. IsBareOf p c.args.replay.now.bare c.replace-before.new.dest) c.replace.ensures.value
      (subst (λ p. IsBareOf p c.args.replay.now.bare c.replace-before.new.dest) (sym c.in-Some.is) (_, c.replace-before.ensures.after, c.into_device.ensures));
  slots = (search rules);
  names = (search rules);
  now = refl;
}
