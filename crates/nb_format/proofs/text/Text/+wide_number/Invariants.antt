use Rattle.nb_format.proofs.text.Text.+wide_number.Given as goal

abbrev pub decreases-wide_number : goal.decreases-wide_number
decreases-wide_number l = l.number
