use Rattle.std.proofs.Common.{arith}
use Rattle.nb_record.proofs.writers.put_cell.Goals as goal

pub returns-clause-fits : goal.returns-clause-fits
returns-clause-fits c = record {
  key = omega arith;
  mass = c.put_words.ensures.fits 1;
  x = c.put_words.ensures.fits 2;
  y = c.put_words.ensures.fits 3;
  z = c.put_words.ensures.fits 4;
  first = c.put_words.ensures.fits 5;
  count = c.put_words.ensures.fits 6;
  kids = omega arith;
}
