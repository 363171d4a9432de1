-- A call that leaves the pieces as they were.
use Rattle.std.proofs.Common.{ℕ, [], refl, sym, arith}
use Rattle.logged_disk.specs.declared.device.Disk.{Ghosts as DiskGhosts}
use Rattle.logged_disk.proofs.GoingOn.{asked_nothing}
use Rattle.dir_table.specs.declared.directory.Directory.{Ghosts as DirectoryGhosts}
use Rattle.power_cuts.specs.Surviving.{NoneMade}
use Rattle.cache_chronicle.specs.declared.chronicle.Chronicle.{Ghosts as ChronicleGhosts}
use Rattle.cache_model.specs.Contents.{Contents}
use Rattle.piece_answers.specs.declared.ahead.Ahead.{Ahead}
use Rattle.stripe_pieces.specs.declared.pieces.Pieces.{Pieces}
use Rattle.stripe_pieces.specs.Pieces.{ArePieces, kept_now, seen_now, state_now}
use Rattle.piece_answers.specs.Ahead.{IsMadeFor}
use Rattle.stripe_pieces.specs.Calls.{AddsRecords, AsksNoDevice, FlushesAtMost, OnlyReads, TellsOf}
use Rattle.piece_answers.proofs.RecordsAdded.{with_records-nil}
use Rattle.piece_answers.proofs.Uses.{nothing_used, still_uses}

module _ {D R C : Type 0} {d : DiskGhosts D} {r : DirectoryGhosts R} {c : ChronicleGhosts C} (p : Pieces D R C d r c) (held : ArePieces p) where
  pub adds_nothing : (Told : Contents → Type 0) (records entries : ℕ) → AddsRecords Told [] records entries p p
  adds_nothing Told records entries = record {
    pieces = record { held = held; contents = λ contents told stands. stands };
    adds = sym (with_records-nil (kept_now p));
    still = refl;
    uses = still_uses records entries _ _ (seen_now p) (seen_now p) refl refl (omega arith) (omega arith);
  }

  pub asks_nothing : (Told : Contents → Type 0) (records entries : ℕ) → AsksNoDevice Told records entries p p
  asks_nothing Told records entries = record {
    pieces = record { held = held; contents = λ contents told stands. stands };
    still = refl;
    uses = still_uses records entries _ _ (seen_now p) (seen_now p) refl refl (omega arith) (omega arith);
  }

  pub tells_nothing : TellsOf [] p p
  tells_nothing = record {
    pieces = record { held = held; contents = λ contents told stands. stands };
    adds = sym (with_records-nil (kept_now p));
    rest = record { same = refl; spare = omega arith };
    room = omega arith;
  }

  pub reads_nothing : OnlyReads p p
  reads_nothing = record {
    pieces = held;
    chronicle = refl;
    same = refl;
    asked = asked_nothing (seen_now p).device;
    leaves = NoneMade;
    seen = λ j. refl;
  }

  pub flushes_nothing : (Told : Contents → Type 0) (Idle : Type 0) (records entries : ℕ) (memory : Ahead) → IsMadeFor (state_now p).geometry memory
      → FlushesAtMost Told Idle records entries memory p p
  flushes_nothing Told Idle records entries memory made = record {
    pieces = record { held = held; contents = λ contents told stands. stands };
    ahead = made;
    still = λ idle. refl;
    uses = nothing_used records entries 1 (seen_now p).geometry.agg _ (seen_now p);
  }
