-- What the tables have stays, however a map orders it.
use Rattle.std.proofs.Common.{◌∙◌, ap}
use Rattle.std.specs.Prelude.{option_map}
use Rattle.cache_chronicle.specs.Tables.{told_vector}
use Rattle.cache_chronicle.proofs.tables.Tables.reserve.Goals as goal

pub returns-in_err-reserve-2-clause-has : goal.returns-in_err-reserve-2-clause-has
returns-in_err-reserve-2-clause-has c = λ s has. record {
  tape = has.tape;
  cut = has.cut;
  pieces = λ id. c.reserve.ensures.entries.2 id ∙ has.pieces id;
  losses = λ id. c.reserve-2.ensures.entries.2 id ∙ has.losses id;
  places = has.places;
  unsaved = has.unsaved;
  vectors = has.vectors;
  aborts = has.aborts;
  counts = has.counts;
}

pub returns-in_err-reserve-3-clause-has : goal.returns-in_err-reserve-3-clause-has
returns-in_err-reserve-3-clause-has c = λ s has. record {
  tape = has.tape;
  cut = has.cut;
  pieces = λ id. c.reserve.ensures.entries.2 id ∙ has.pieces id;
  losses = λ id. c.reserve-2.ensures.entries.2 id ∙ has.losses id;
  places = λ place. c.reserve-3.ensures.entries.2 place ∙ has.places place;
  unsaved = has.unsaved;
  vectors = has.vectors;
  aborts = has.aborts;
  counts = has.counts;
}

pub returns-in_err-reserve-4-clause-has : goal.returns-in_err-reserve-4-clause-has
returns-in_err-reserve-4-clause-has c = λ s has. record {
  tape = has.tape;
  cut = has.cut;
  pieces = λ id. c.reserve.ensures.entries.2 id ∙ has.pieces id;
  losses = λ id. c.reserve-2.ensures.entries.2 id ∙ has.losses id;
  places = λ place. c.reserve-3.ensures.entries.2 place ∙ has.places place;
  unsaved = λ place. c.reserve-4.ensures.keys.2 place ∙ has.unsaved place;
  vectors = has.vectors;
  aborts = has.aborts;
  counts = has.counts;
}

pub returns-in_err-reserve-5-clause-has : goal.returns-in_err-reserve-5-clause-has
returns-in_err-reserve-5-clause-has c = λ s has. record {
  tape = has.tape;
  cut = has.cut;
  pieces = λ id. c.reserve.ensures.entries.2 id ∙ has.pieces id;
  losses = λ id. c.reserve-2.ensures.entries.2 id ∙ has.losses id;
  places = λ place. c.reserve-3.ensures.entries.2 place ∙ has.places place;
  unsaved = λ place. c.reserve-4.ensures.keys.2 place ∙ has.unsaved place;
  vectors = λ key. ap (option_map told_vector) (c.reserve-5.ensures.entries.2 key) ∙ has.vectors key;
  aborts = has.aborts;
  counts = has.counts;
}

pub returns-in_err-reserve-6-clause-has : goal.returns-in_err-reserve-6-clause-has
returns-in_err-reserve-6-clause-has c = λ s has. record {
  tape = has.tape;
  cut = has.cut;
  pieces = λ id. c.reserve.ensures.entries.2 id ∙ has.pieces id;
  losses = λ id. c.reserve-2.ensures.entries.2 id ∙ has.losses id;
  places = λ place. c.reserve-3.ensures.entries.2 place ∙ has.places place;
  unsaved = λ place. c.reserve-4.ensures.keys.2 place ∙ has.unsaved place;
  vectors = λ key. ap (option_map told_vector) (c.reserve-5.ensures.entries.2 key) ∙ has.vectors key;
  aborts = λ key. c.reserve-6.ensures.entries.2 key ∙ has.aborts key;
  counts = has.counts;
}

pub returns-clause-has : goal.returns-clause-has
returns-clause-has c = λ s has. record {
  tape = has.tape;
  cut = has.cut;
  pieces = λ id. c.reserve.ensures.entries.2 id ∙ has.pieces id;
  losses = λ id. c.reserve-2.ensures.entries.2 id ∙ has.losses id;
  places = λ place. c.reserve-3.ensures.entries.2 place ∙ has.places place;
  unsaved = λ place. c.reserve-4.ensures.keys.2 place ∙ has.unsaved place;
  vectors = λ key. ap (option_map told_vector) (c.reserve-5.ensures.entries.2 key) ∙ has.vectors key;
  aborts = λ key. c.reserve-6.ensures.entries.2 key ∙ has.aborts key;
  counts = λ id. c.reserve-7.ensures.entries.2 id ∙ has.counts id;
}
