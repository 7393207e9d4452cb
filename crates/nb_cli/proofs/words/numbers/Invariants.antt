use Rattle.std.proofs.Common.{map}
use Rattle.nb_cli.proofs.Values.{AreRead}
use Rattle.nb_cli.proofs.words.numbers.Given as goal

-- what is read so far
abbrev pub invariant-loop-word : goal.invariant-loop-word
invariant-loop-word l = AreRead (map (λ v. v.now) l.words) l.word-index l.numbers.items
