use Rattle.std.proofs.Common.{◌≡◌, ℕ, List, sym, subst}
use Rattle.std.specs.Prelude.{Contains}
use Rattle.nbody.proofs.folder.Folder.cut.Goals as goal

-- What was marked stays marked where the list then stays.
kept : (before marked after : List ℕ) → ((n : ℕ) → Contains before n → Contains marked n) → after ≡ marked
    → (other : ℕ) → Contains before other → Contains after other
kept before marked after more same other has = let P : List ℕ → Type 0 = λ xs. Contains xs other in subst P (sym same) (more other has)

pub returns-in_err-len-clause-earlier : goal.returns-in_err-len-clause-earlier
returns-in_err-len-clause-earlier g c =
    kept c.args.self.now.unsynced.items _ c.len.new.self.unsynced.items c.mark_unsynced.ensures.earlier c.len.ensures.unsynced

pub returns-then-branch-len-clause-earlier : goal.returns-then-branch-len-clause-earlier
returns-then-branch-len-clause-earlier g c =
    kept c.args.self.now.unsynced.items _ c.len.new.self.unsynced.items c.mark_unsynced.ensures.earlier c.len.ensures.unsynced

pub returns-in_err-open-clause-earlier : goal.returns-in_err-open-clause-earlier
returns-in_err-open-clause-earlier g c =
    kept c.args.self.now.unsynced.items _ c.len.new.self.unsynced.items c.mark_unsynced.ensures.earlier c.len.ensures.unsynced

pub returns-in_err-set_len-clause-earlier : goal.returns-in_err-set_len-clause-earlier
returns-in_err-set_len-clause-earlier g c =
    kept c.args.self.now.unsynced.items _ c.len.new.self.unsynced.items c.mark_unsynced.ensures.earlier c.len.ensures.unsynced

pub returns-clause-earlier : goal.returns-clause-earlier
returns-clause-earlier g c =
    kept c.args.self.now.unsynced.items _ c.len.new.self.unsynced.items c.mark_unsynced.ensures.earlier c.len.ensures.unsynced
