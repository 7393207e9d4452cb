use Rattle.std.proofs.Common.{◌≡◌, true, false, [], ◌∷◌, Err, refl, ap, ◌∙◌, arith, rules}
use Rattle.std.proofs.lemmas.Result.{on_ok_weaker}
use Rattle.nb_cache.specs.declared.cache_error.CacheError.TheVariants as cache
use Rattle.nb_tick.specs.Errors.{of_cache}
use Rattle.nb_cache.specs.View.{seen}
use Rattle.nb_tick.specs.Slots.{drifted_file, cell_file}
use Rattle.nb_tick.proofs.Calls.{among_of, among_all, went_none, went_on, went_to}
use Rattle.nb_tick.proofs.Refusing.{cache_fault, cache_damaged}
use Rattle.nb_tick.proofs.TreeDrifts.{drifts_after, cant_after, cant_known_after}
use Rattle.nb_tick.proofs.drifting.drift_all.Goals as goal

pub returns-in_err-empty-clause-damaged : goal.returns-in_err-empty-clause-damaged
returns-in_err-empty-clause-damaged g c = λ name is.
    let handed_on : c.from_residual.result ≡ Err (of_cache c.in_err-empty.field-0.0) = search rules in
    let error : c.empty.result ≡ Err (cache.Short name) =
    c.in_err-empty.was ∙ ap Err (cache_damaged c.in_err-empty.field-0.0 name (cc)) in
    absurd (c.empty.ensures.host_refusal name error)

pub returns-in_err-empty-clause-ran : goal.returns-in_err-empty-clause-ran
returns-in_err-empty-clause-ran g c =
    let handed_on : c.from_residual.result ≡ Err (of_cache c.in_err-empty.field-0.0) = search rules in
    let files = drifted_file ∷ cell_file ∷ [] in
    let begun = went_none g.H.Host.meaning files c.args.cache.now c.args.host.now c.requires.in_step in
    went_to begun (among_of files (0, omega arith, refl)) c.empty.ensures.ran
    (λ faulted. c.in_err-empty.was ∙ ap Err (cache_fault c.in_err-empty.field-0.0 (cc))) (λ error. search rules)

pub returns-then-known-clause-drifted : goal.returns-then-known-clause-drifted
returns-then-known-clause-drifted g c =
    let is : c.args.known ≡ true = search rules in
    let drifted = seen g.H.Host.meaning c.drift_known.new.cache c.drift_known.new.host drifted_file in
    on_ok_weaker c.drift_known.result
    (λ does tells. drifts_after c.requires.apart.0 c.empty.ensures.ran.writes drifted is tells (does tells))
    c.drift_known.ensures.drifted

pub returns-then-known-clause-damaged : goal.returns-then-known-clause-damaged
returns-then-known-clause-damaged g c = λ name is.
    cant_known_after c.requires.apart.0 c.empty.ensures.ran.writes (c.drift_known.ensures.damaged name is)

pub returns-then-known-clause-ran : goal.returns-then-known-clause-ran
returns-then-known-clause-ran g c =
    let files = drifted_file ∷ cell_file ∷ [] in
    let begun = went_none g.H.Host.meaning files c.args.cache.now c.args.host.now c.requires.in_step in
    let emptied = went_on begun (among_of files (0, omega arith, refl)) c.empty.ensures.ran (search rules) in
    went_to emptied (among_of files (0, omega arith, refl)) c.drift_known.ensures.ran (λ faulted. faulted) (λ error. error)

pub returns-clause-drifted : goal.returns-clause-drifted
returns-clause-drifted g c =
    let is : c.args.known ≡ false = search rules in
    let drifted = seen g.H.Host.meaning c.drift_found.new.cache c.drift_found.new.host drifted_file in
    on_ok_weaker c.drift_found.result
    (λ does tells. drifts_after c.requires.apart.0 c.empty.ensures.ran.writes drifted is tells (does tells))
    c.drift_found.ensures.drifted

pub returns-clause-damaged : goal.returns-clause-damaged
returns-clause-damaged g c = λ name is.
    cant_after c.requires.apart.0 c.empty.ensures.ran.writes (c.drift_found.ensures.damaged name is)

pub returns-clause-ran : goal.returns-clause-ran
returns-clause-ran g c =
    let files = drifted_file ∷ cell_file ∷ [] in
    let begun = went_none g.H.Host.meaning files c.args.cache.now c.args.host.now c.requires.in_step in
    let emptied = went_on begun (among_of files (0, omega arith, refl)) c.empty.ensures.ran (search rules) in
    went_to emptied (among_all files) c.drift_found.ensures.ran (λ faulted. faulted) (λ error. error)
