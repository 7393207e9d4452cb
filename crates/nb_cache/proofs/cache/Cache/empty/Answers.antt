use Rattle.std.proofs.Common.{◌≡◌, ◌≢◌, ◌↔◌, ◌==◌, ℕ, true, false, List, [], ◌∷◌, refl, Contains, ap, sym, subst, ◌∙◌, rules}
use Rattle.lru.proofs.Splits.{Contains-tail}
use Rattle.nb_host.proofs.Callers.{partly_cut_by_nothing}
use Rattle.nb_host.specs.Image.{IsPartlyCut}
use Rattle.nb_host.specs.declared.page_name.PageName.{PageName}
use Rattle.nb_cache.specs.Names.{without_file, IsWithoutFile}
use Rattle.nb_cache.specs.View.{CacheValue, held_names, names_of, seen}
use Rattle.nb_cache.proofs.Entries.{cache_of}
use Rattle.nb_cache.proofs.Putting.{cut_view, partly_cut, seen_same, writes_emptied, writes_same}
use Rattle.nb_cache.proofs.cache.Cache.empty.Goals as goal

-- without the pages of a file twice
twice : (file : ℕ) (names : List PageName) → without_file file (without_file file names) ≡ without_file file names
twice file [] = refl
twice file (n ∷ names) = (elim (n.file == file) as (λ y. (n.file == file) ≡ y → without_file file (without_file file (n ∷ names)) ≡ without_file file (n ∷ names)) [
  | true ↦ λ here. rw here (twice file names)
  | false ↦ λ here. rw here (rw here (ap (λ l. n ∷ l) (twice file names)))
]) refl

-- the names of other files, where those of one were taken out
others_stay : (file : ℕ) (new before old : List PageName) → new ≡ without_file file before → before ≡ old
    → without_file file new ≡ without_file file old
others_stay file new before old gone was =
    ap (without_file file) gone ∙ twice file before ∙ ap (without_file file) was

pub returns-in-Ok-clause-others : goal.returns-in-Ok-clause-others
returns-in-Ok-clause-others g c =
    others_stay c.args.file (held_names c.forget_file.new.self.held) (held_names c.self.inside.frames.held)
    (names_of c.args.self.now) c.forget_file.ensures.resident (ap names_of c.self.view_is)

pub returns-in-Err-Fault-clause-others : goal.returns-in-Err-Fault-clause-others
returns-in-Err-Fault-clause-others g c =
    others_stay c.args.file (held_names c.forget_file-in-Err-Fault.new.self.held) (held_names c.self.inside.frames.held)
    (names_of c.args.self.now) c.forget_file-in-Err-Fault.ensures.resident (ap names_of c.self.view_is)

pub returns-in-Ok-clause-unwritten : goal.returns-in-Ok-clause-unwritten
returns-in-Ok-clause-unwritten g c =
    subst (λ (v : CacheValue). (other : ℕ) → (Contains c.unmark.new.self other
    ↔ (Contains v.unwritten other × (other ≢ c.args.file)))) c.self.view_is c.unmark.ensures

pub returns-in-Ok-clause-partly : goal.returns-in-Ok-clause-partly
returns-in-Ok-clause-partly g c =
    partly_cut g.H.Host.meaning c.args.self.now {old = c.args.host.now} (cache_of c.forget_file.new.self c.unmark.new.self) {new = c.cut.new.self} c.requires.in_step
    c.len.ensures.sound c.args.file
    (subst (λ (v : CacheValue). IsWithoutFile c.args.file v.held c.forget_file.new.self.held) c.self.view_is c.forget_file.ensures.others)
    (c.forget_file.ensures.resident ∙ ap (λ (v : CacheValue). without_file c.args.file (names_of v)) c.self.view_is) c.cut.ensures.ran.leads

pub returns-in-Ok-clause-view : goal.returns-in-Ok-clause-view
returns-in-Ok-clause-view g c = λ tells.
    cut_view g.H.Host.meaning c.args.self.now {old = c.args.host.now} (cache_of c.forget_file.new.self c.unmark.new.self) {new = c.cut.new.self} c.requires.in_step
    c.len.ensures.sound c.args.file
    (subst (λ (v : CacheValue). IsWithoutFile c.args.file v.held c.forget_file.new.self.held) c.self.view_is c.forget_file.ensures.others)
    (c.forget_file.ensures.resident ∙ ap (λ (v : CacheValue). without_file c.args.file (names_of v)) c.self.view_is) c.cut.ensures.ran.leads
    ∙ (c.in-Ok.ensures.cut tells).file

pub returns-in-Ok-clause-ran : goal.returns-in-Ok-clause-ran
returns-in-Ok-clause-ran g c =
    let marks = subst (λ (v : CacheValue). (other : ℕ) → (Contains c.unmark.new.self other
    ↔ (Contains v.unwritten other × (other ≢ c.args.file)))) c.self.view_is c.unmark.ensures in
    record {
      writes = writes_emptied g.H.Host.meaning c.args.self.now {old = c.args.host.now} (cache_of c.forget_file.new.self c.unmark.new.self) {new = c.cut.new.self} c.requires.in_step
          c.len.ensures.sound c.args.file
          (subst (λ (v : CacheValue). IsWithoutFile c.args.file v.held c.forget_file.new.self.held) c.self.view_is c.forget_file.ensures.others)
          (c.forget_file.ensures.resident ∙ ap (λ (v : CacheValue). without_file c.args.file (names_of v)) c.self.view_is) c.cut.ensures.ran.leads
          (λ other has differ. (marks other).1 (has, differ)) (λ other has. ((marks other).0 has).0)
          (c.forget_file.ensures.pages ∙ ap (λ (v : CacheValue). v.pages) c.self.view_is) c.cut.ensures.ran.count
          c.cut.ensures.ran.tally;
      rose = search rules;
      spared = λ _. c.cut.ensures.ran.spared (search rules);
    }

pub returns-in-Err-Fault-clause-partly : goal.returns-in-Err-Fault-clause-partly
returns-in-Err-Fault-clause-partly g c =
    partly_cut g.H.Host.meaning c.args.self.now {old = c.args.host.now} (cache_of c.forget_file-in-Err-Fault.new.self c.self.inside.unwritten) {new = c.cut.new.self} c.requires.in_step
    c.len.ensures.sound c.args.file
    (subst (λ (v : CacheValue). IsWithoutFile c.args.file v.held c.forget_file-in-Err-Fault.new.self.held) c.self.view_is c.forget_file-in-Err-Fault.ensures.others)
    (c.forget_file-in-Err-Fault.ensures.resident ∙ ap (λ (v : CacheValue). without_file c.args.file (names_of v)) c.self.view_is) c.cut.ensures.ran.leads

pub returns-in-Err-Fault-clause-ran : goal.returns-in-Err-Fault-clause-ran
returns-in-Err-Fault-clause-ran g c = record {
  writes = writes_emptied g.H.Host.meaning c.args.self.now {old = c.args.host.now} (cache_of c.forget_file-in-Err-Fault.new.self c.self.inside.unwritten) {new = c.cut.new.self} c.requires.in_step
      c.len.ensures.sound c.args.file
      (subst (λ (v : CacheValue). IsWithoutFile c.args.file v.held c.forget_file-in-Err-Fault.new.self.held) c.self.view_is c.forget_file-in-Err-Fault.ensures.others)
      (c.forget_file-in-Err-Fault.ensures.resident ∙ ap (λ (v : CacheValue). without_file c.args.file (names_of v)) c.self.view_is) c.cut.ensures.ran.leads
      (λ other has _. subst (λ (v : CacheValue). Contains v.unwritten other) (sym c.self.view_is) has)
      (λ other has. subst (λ (v : CacheValue). Contains v.unwritten other) c.self.view_is has)
      (c.forget_file-in-Err-Fault.ensures.pages ∙ ap (λ (v : CacheValue). v.pages) c.self.view_is) c.cut.ensures.ran.count
      c.cut.ensures.ran.tally;
  rose = λ _. c.cut.ensures.ran.rose (search rules);
  spared = λ never. absurd (never refl);
}

pub returns-in-Err-NoMemory-clause-ran : goal.returns-in-Err-NoMemory-clause-ran
returns-in-Err-NoMemory-clause-ran g c = record {
  writes = writes_same g.H.Host.meaning c.args.self.now {old = c.args.host.now} c.args.self.now {new = c.cut.new.self}
      c.requires.in_step refl (c.cut.ensures.nothing (search rules)) c.cut.ensures.ran.count c.cut.ensures.ran.tally
      (c.args.file ∷ []) refl (λ file has. has)
      (λ file has. Contains-tail c.args.file c.args.self.now.unwritten file has);
  rose = search rules;
  spared = λ _. c.cut.ensures.ran.spared (search rules);
}

pub returns-in-Err-NoMemory-clause-no_memory : goal.returns-in-Err-NoMemory-clause-no_memory
returns-in-Err-NoMemory-clause-no_memory g c = λ _ file. record {
  told = λ tells.
      seen_same g.H.Host.meaning c.args.self.now {old = c.args.host.now} c.args.self.now {new = c.cut.new.self}
      c.requires.in_step refl (c.cut.ensures.nothing (search rules)) file;
}

pub returns-in-Err-NoMemory-clause-partly : goal.returns-in-Err-NoMemory-clause-partly
returns-in-Err-NoMemory-clause-partly g c = record {
  told = λ tells.
      let was = seen g.H.Host.meaning c.args.self.now c.args.host.now c.args.file in
      subst (IsPartlyCut 0 was)
      (sym (seen_same g.H.Host.meaning c.args.self.now {old = c.args.host.now} c.args.self.now {new = c.cut.new.self}
      c.requires.in_step refl (c.cut.ensures.nothing (search rules)) c.args.file))
      (partly_cut_by_nothing 0 was);
}
