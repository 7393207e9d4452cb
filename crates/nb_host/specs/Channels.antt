-- What a host in memory has heard on its two channels.
use Rattle.std.specs.Prelude.{ℕ, List}
use Rattle.nb_host.specs.declared.host.Channel.{Channel}
use Rattle.nb_host.specs.declared.host.Channel.TheVariants.{Out, Err}
use Rattle.nb_host.specs.declared.channels.Channels.{Channels}
use Rattle.nb_host.specs.declared.channels.Refusals.{Refusals}

-- the bytes said on a channel
abbrev pub said_on : Channels → Channel → List ℕ
said_on channels Out = channels.out.items
said_on channels Err = channels.err.items

-- how many says on a channel were refused
abbrev pub refused_on : Refusals → Channel → ℕ
refused_on refusals Out = refusals.out
refused_on refusals Err = refusals.err
