-- What lies behind a `FullChronicle`, and what of it a contract sees.
use Rattle.std.specs.Prelude.{◌≡◌, ◌-◌, ◌^◌, min, length}
use Rattle.cache_model.specs.State.{nothing_yet, after_all}
use Rattle.cache_chronicle.specs.Full.{History}
use Rattle.cache_chronicle.specs.Indexed.{HasTables, spare_of}
use Rattle.cache_chronicle.specs.declared.full.FullChronicle.TheInside.{Inside}

-- the records; there is room for one more only where the count of them can rise and the tables have some too
abbrev pub history_of : Inside → History
history_of c = record {
  records = c.records.list;
  room = min (2 ^ 64 - 1 - c.count) (spare_of c.tables);
}

-- the tables have what the state behind the records says, and the count is that of the records
pub record IsIndexed (c : Inside) : Type 0 where
  pub tables : HasTables c.tables (after_all nothing_yet c.records.list)
  pub count : c.count ≡ length c.records.list
