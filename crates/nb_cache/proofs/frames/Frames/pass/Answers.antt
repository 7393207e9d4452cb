use Rattle.nb_cache.proofs.Fitting.{without_page, moved_file}
use Rattle.nb_cache.proofs.frames.Frames.pass.Goals as goal

pub returns-then-name-file-clause-others : goal.returns-then-name-file-clause-others
returns-then-name-file-clause-others c =
    without_page c.args.name c.args.self.now.pages c.args.file c.args.self.now.held c.forget.new.self.held
    c.len.ensures.sound c.if-name-file.true c.forget.ensures.held

pub returns-clause-others : goal.returns-clause-others
returns-clause-others c =
    moved_file c.args.name c.args.self.now.pages c.args.file c.args.self.now.held c.promote.new.self.held
    (c.promote.ensures.moved (c.promote.ensures.found.1 c.requires.resident)) c.len.ensures.sound
