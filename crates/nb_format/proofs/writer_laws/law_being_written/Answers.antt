use Rattle.nb_format.proofs.Callers.{being_begun, being_each, add_leads, close_leads}
use Rattle.nb_format.proofs.writer_laws.law_being_written.Goals as goal

pub returns-clause-begun : goal.returns-clause-begun
returns-clause-begun g c = λ others plan filling old new empty begun shut leads. being_begun others empty begun shut leads

pub returns-clause-added : goal.returns-clause-added
returns-clause-added g c = λ others plan filling last bodies more start old new being each. being_each filling last bodies more being each

pub returns-clause-refused : goal.returns-clause-refused
returns-clause-refused g c = λ others plan filling bodies start old new being leads. add_leads being leads

pub returns-clause-closed : goal.returns-clause-closed
returns-clause-closed g c = λ others plan filling bodies start old new being leads. close_leads being leads
