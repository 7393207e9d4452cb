use Rattle.nb_record.proofs.VectorSums.{plus-zero, plus_comm, plus_assoc, vector_sum-cons, vector_sum-append, vector_sum-IsPermutation}
use Rattle.nb_record.proofs.force_laws.law_vector_sums.Goals as goal

pub returns : goal.returns
returns c = record {
  zero = plus-zero;
  exchange = plus_comm;
  regroup = plus_assoc;
  more = vector_sum-cons;
  append = vector_sum-append;
  same = vector_sum-IsPermutation;
}
