use Rattle.std.proofs.Common.{◌≡◌, ◌⊎◌, inr, ℕ, Err, ap, List, map, Bor, IsTrue}
use Rattle.nb_cli.specs.Stop.{stop_status}
use Rattle.nb_cli.specs.Answer.{Yields}
use Rattle.nb_cli.proofs.Statuses.{IsRefusal, refusal_told, told_answer, told_kept, finished_no_cause, finished_where, refused_where, refused_complete, cause_untouched, begun_leads, run_leads, leads_run, leads_told, not_done, status_in, words_where}
use Rattle.nb_cli.proofs.Sounding.{stays_sound}
use Rattle.nb_cli.proofs.Extending.{done_extends, refused_extends}
use Rattle.nb_cli.proofs.program.nbody.Given.{Over}
use Rattle.nb_cli.proofs.program.nbody.Goals as goal

-- Where the run is done.

pub returns-in-Ok-clause-causes : goal.returns-in-Ok-clause-causes
returns-in-Ok-clause-causes g c status told other steady = finished_where (c.in-Ok.ensures.done told) other

pub returns-in-Ok-clause-untouched : goal.returns-in-Ok-clause-untouched
returns-in-Ok-clause-untouched g c why told holds = absurd (finished_no_cause (c.in-Ok.ensures.done told) holds)

pub returns-in-Ok-clause-leads : goal.returns-in-Ok-clause-leads
returns-in-Ok-clause-leads g c = leads_run (begun_leads c.in-Ok.ensures.begun)

-- Where the run is refused.

refused : (g : Over) (c : goal.After-say_why g) → IsTrue g.H.Host.meaning.tells
    → IsRefusal (map (λ (w : Bor (List ℕ)). w.now) c.args.words.now) (g.H.Host.meaning.contents c.args.host.now) c.in-Err.why c.say_why.result
refused g c told = refusal_told (c.in-Err.ensures.cause told) c.say_why.ensures

answer : (g : Over) (c : goal.After-say_why g)
    → (c.say_why.result ≡ stop_status c.in-Err.why) ⊎ Yields c.say_why.result
answer g c = told_answer c.say_why.ensures

pub returns-in-Err-clause-status : goal.returns-in-Err-clause-status
returns-in-Err-clause-status g c = status_in c.in-Err.why c.say_why.result c.in-Err.ensures.sayable (answer g c)

pub returns-in-Err-clause-words : goal.returns-in-Err-clause-words
returns-in-Err-clause-words g c =
    words_where c.in-Err.ensures.words c.in-Err.ensures.no_words (answer g c) (told_kept c.say_why.ensures)

pub returns-in-Err-clause-causes : goal.returns-in-Err-clause-causes
returns-in-Err-clause-causes g c status told other steady = refused_where (refused g c told) steady

pub returns-in-Err-clause-complete : goal.returns-in-Err-clause-complete
returns-in-Err-clause-complete g c job is told ready = inr (refused_complete job (refused g c told) is ready)

pub returns-in-Err-clause-done : goal.returns-in-Err-clause-done
returns-in-Err-clause-done g c done = absurd (not_done c.in-Err.why c.say_why.result (answer g c) done)

pub returns-in-Err-clause-untouched : goal.returns-in-Err-clause-untouched
returns-in-Err-clause-untouched g c why told holds =
    cause_untouched ((leads_told (run_leads c.in-Err.ensures.run) c.say_why.ensures).contents told) holds

pub returns-in-Err-clause-leads : goal.returns-in-Err-clause-leads
returns-in-Err-clause-leads g c = leads_told (run_leads c.in-Err.ensures.run) c.say_why.ensures

-- A folder that is sound stays so.

pub returns-in-Ok-clause-sound : goal.returns-in-Ok-clause-sound
returns-in-Ok-clause-sound g c at_entry = stays_sound c.law_acknowledged.ensures.line g.H.Host.meaning {files = (g.H.Host.meaning.contents c.args.host.now).file} (leads_run (begun_leads c.in-Ok.ensures.begun)) at_entry

pub returns-in-Err-clause-sound : goal.returns-in-Err-clause-sound
returns-in-Err-clause-sound g c at_entry =
    stays_sound c.law_acknowledged.ensures.line g.H.Host.meaning {files = (g.H.Host.meaning.contents c.args.host.now).file} (leads_told (run_leads c.in-Err.ensures.run) c.say_why.ensures) at_entry

-- It extends what it was.

pub returns-in-Ok-clause-extends : goal.returns-in-Ok-clause-extends
returns-in-Ok-clause-extends g c job is sound = done_extends g.H.Host.meaning _ job is sound c.in-Ok.ensures.begun

pub returns-in-Err-clause-extends : goal.returns-in-Err-clause-extends
returns-in-Err-clause-extends g c job is sound = refused_extends g.H.Host.meaning _ job is (λ same. c.in-Err.ensures.words (ap Err same)) sound c.in-Err.ensures.run c.say_why.ensures
