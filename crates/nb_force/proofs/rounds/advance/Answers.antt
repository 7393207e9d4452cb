use Rattle.std.proofs.Common.{◌≡◌, ◌⊎◌, refl, subst}
use Rattle.nb_host.specs.declared.page_name.PageName.{PageName}
use Rattle.nb_cache.specs.View.{view_of}
use Rattle.nb_walk.proofs.Callers.{goes_on}
use Rattle.nb_force.specs.Rounds.{shown_of}
use Rattle.nb_force.proofs.Fetching.{window_shows, window_shown}
use Rattle.nb_force.proofs.Walks.{blamed_file}
use Rattle.nb_force.proofs.rounds.advance.Goals as goal

pub returns-in-Ok-clause-lower : goal.returns-in-Ok-clause-lower
returns-in-Ok-clause-lower c = λ wants name wanted there resident.
    let cache = c.args.cache.now in
    let tree = c.args.tree.now in
    c.in-Ok.ensures.lower
    (goes_on (shown_of cache tree.cells) (shown_of cache tree.bodies) tree c.args.pool.now.walks wants name wanted there
    (window_shown cache tree name ((c.pages.ensures.resident name).0 resident)))

pub returns-in-Ok-clause-tree : goal.returns-in-Ok-clause-tree
returns-in-Ok-clause-tree c = λ image bodies fits of_tree on.
    let cache = c.args.cache.now in
    let shows = window_shows cache c.args.tree.now image c.pages.ensures.shown fits in
    (refl, (c.in-Ok.ensures.tree (view_of cache image) bodies of_tree shows on).walks)

pub returns-in-Err-clause-tree : goal.returns-in-Err-clause-tree
returns-in-Err-clause-tree c = λ image bodies fits of_tree on.
    let cache = c.args.cache.now in
    let shows = window_shows cache c.args.tree.now image c.pages.ensures.shown fits in
    (c.in-Err.ensures.sound (view_of cache image) bodies of_tree shows on, (c.in-Err.ensures.tree (view_of cache image) bodies of_tree shows on).walks)

pub returns-in-Err-clause-file : goal.returns-in-Err-clause-file
returns-in-Err-clause-file c = λ name is.
    let same : c.in-Err.name ≡ name = cc in
    subst (λ (n : PageName). (n.file ≡ c.args.tree.now.bodies) ⊎ (n.file ≡ c.args.tree.now.cells)) same
    (blamed_file (c.in-Err.ensures.damaged c.in-Err.name refl))
