use Rattle.nb_cache.proofs.Shown.{shown_page, shown_where}
use Rattle.nb_cache.proofs.cache.Cache.pages.Goals as goal

pub returns-clause-shown : goal.returns-clause-shown
returns-clause-shown c = λ image name bytes fits is.
    shown_page c.args.self.now image name bytes c.len.ensures.sound fits is

pub returns-clause-resident : goal.returns-clause-resident
returns-clause-resident c = λ name. shown_where c.args.self.now.held name
