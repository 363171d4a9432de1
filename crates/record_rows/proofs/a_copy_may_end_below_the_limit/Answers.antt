use Rattle.std.proofs.Common.{◌≡◌, ℕ, List, [], ◌∷◌, refl, ap, inl, inr, lit<, lit≤, arith}
use Rattle.std.specs.Prelude.{◌/◌, ◌≤◌}
use Rattle.doc_header.specs.Reading.{document_digest}
use Rattle.cache_model.specs.Legal
use Rattle.cache_model.specs.Legal.{more, nothing}
use Rattle.cache_model.specs.Outcomes.{Copied}
use Rattle.cache_model.specs.Permit.{Done}
use Rattle.record_rows.proofs.Blocks.{taken}
use Rattle.record_rows.proofs.a_copy_may_end_below_the_limit.Goals as goal

pub returns : goal.returns
returns c = λ bytes block four size. record {
  grows = more _ _ (
    Done,
    Legal.DoesFlush.flushes (record {
      unsynced = refl;
      outcomes = Copied bytes ∷ [];
      can = record { quiet = refl; filled = lit< tt; below = refl };
      takes = record {
        bytes = block;
        written = inl refl;
        whole = ap (λ n. n / 512) size;
        holds = ((λ from. absurd (omega (arith, from))), ((λ from. ap document_digest (taken block size)), tt));
      };
      are = ((lit≤ tt, record { written = lit< tt; given = inr (inl refl); whole = four.whole; of_bytes = four.of_bytes }, refl), tt);
      is = refl;
    }),
    refl,
  ) nothing;
  quiet = refl;
  faults = refl;
  effects = (λ off. refl);
}
