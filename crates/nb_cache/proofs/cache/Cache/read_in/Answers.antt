use Rattle.std.proofs.Common.{◌≡◌, ◌-◌, ℕ, Bool, false, List, [], ◌∷◌, inl, inr, Contains, take, ap, sym, subst, ◌∙◌, rules}
use Rattle.nb_host.specs.declared.page_name.PageName.{PageName}
use Rattle.nb_cache.specs.Names.{held_without}
use Rattle.nb_cache.specs.Stock.{Stock}
use Rattle.nb_cache.specs.View.{CacheValue, Held, names_of}
use Rattle.nb_cache.specs.declared.frame.Frame.{Frame}
use Rattle.nb_cache.proofs.Entries.{cache_of}
use Rattle.nb_cache.proofs.Fitting.{name_there}
use Rattle.nb_cache.proofs.Putting.{whole_of, writes_loaded, writes_same}
use Rattle.nb_cache.proofs.cache.Cache.read_in.Goals as goal

-- the pages after a page was placed
abbrev placed : PageName → List ℕ → Bool → ℕ → List Held → List Held
placed k bytes waits pages held = record { name = k; bytes = bytes; dirty = waits } ∷ take (pages - 1) (held_without k held)

placed_is : (k : PageName) (f : Frame) (bytes : List ℕ) (s : Stock) (c : CacheValue) (new : List Held) → f.bytes.items ≡ bytes
    → f.dirty ≡ false → s.held ≡ c.held → s.pages ≡ c.pages → new ≡ placed k f.bytes.items f.dirty s.pages s.held
    → new ≡ placed k bytes false c.pages c.held
placed_is k f bytes s c new same rests held pages is =
    is ∙ ap (λ b. placed k b f.dirty s.pages s.held) same ∙ ap (λ w. placed k bytes w s.pages s.held) rests
    ∙ ap (λ n. placed k bytes false n s.held) pages ∙ ap (λ l. placed k bytes false c.pages l) held

pub returns-in_ok-place-in-Ok-clause-ran : goal.returns-in_ok-place-in-Ok-clause-ran
returns-in_ok-place-in-Ok-clause-ran g c =
    let ran = c.load.ensures.ran in
    record {
      writes = writes_loaded g.H.Host.meaning c.args.self.now {old = c.args.host.now}
          (cache_of c.place.new.self c.self.inside.unwritten) {new = c.load.new.host} c.requires.in_step
          (c.place.ensures.pages ∙ c.take-frame.ensures.pages ∙ ap (λ (v : CacheValue). v.pages) c.self.view_is)
          ran.leads ran.count ran.tally (ap (λ (v : CacheValue). v.unwritten) c.self.view_is) c.len.ensures.sound c.args.name
          c.load.new.frame.bytes.items c.load.new.frame.whole c.requires.name c.requires.room
          (placed_is c.args.name c.mark.new.self c.load.new.frame.bytes.items c.take-frame.new.self c.args.self.now
          c.place.new.self.held
          (ap (λ (f : Frame). f.bytes.items) c.mark.ensures) (ap (λ (f : Frame). f.dirty) c.mark.ensures)
          (c.take-frame.ensures.held ∙ ap (λ (v : CacheValue). v.held) c.self.view_is)
          (c.take-frame.ensures.pages ∙ ap (λ (v : CacheValue). v.pages) c.self.view_is)
          c.in_ok-place-in-Ok.ensures.held)
          c.requires.absent c.in-Ok.ensures.page;
      rose = search rules;
      spared = λ _. ran.spared (search rules);
    }

pub returns-in_ok-place-in-Ok-clause-whole : goal.returns-in_ok-place-in-Ok-clause-whole
returns-in_ok-place-in-Ok-clause-whole g c = λ tells.
    whole_of c.args.self.now (g.H.Host.meaning.contents c.args.host.now) c.args.name c.len.ensures.sound
    (c.in-Ok.ensures.whole tells)

pub returns-in_err-place-in-Ok-clause-ran : goal.returns-in_err-place-in-Ok-clause-ran
returns-in_err-place-in-Ok-clause-ran g c =
    let ran = c.load.ensures.ran in
    record {
      writes = writes_same g.H.Host.meaning c.args.self.now {old = c.args.host.now}
          (cache_of c.place.new.self c.self.inside.unwritten) {new = c.load.new.host} c.requires.in_step
          (c.place.ensures.pages ∙ c.take-frame.ensures.pages ∙ ap (λ (v : CacheValue). v.pages) c.self.view_is)
          ran.leads ran.count ran.tally []
          (c.in_err-place-in-Ok.ensures.refusal ∙ c.take-frame.ensures.held ∙ ap (λ (v : CacheValue). v.held) c.self.view_is)
          (λ file has. subst (λ (v : CacheValue). Contains v.unwritten file) (sym c.self.view_is) has)
          (λ file has. subst (λ (v : CacheValue). Contains v.unwritten file) c.self.view_is has);
      rose = search rules;
      spared = λ _. ran.spared (search rules);
    }

pub returns-in-Err-clause-ran : goal.returns-in-Err-clause-ran
returns-in-Err-clause-ran g c =
    let ran = c.load.ensures.ran in
    record {
      writes = writes_same g.H.Host.meaning c.args.self.now {old = c.args.host.now}
          (cache_of c.give.new.self c.self.inside.unwritten) {new = c.load.new.host} c.requires.in_step
          (c.give.ensures.pages ∙ c.take-frame.ensures.pages ∙ ap (λ (v : CacheValue). v.pages) c.self.view_is)
          ran.leads ran.count ran.tally []
          (c.give.ensures.held ∙ c.take-frame.ensures.held ∙ ap (λ (v : CacheValue). v.held) c.self.view_is)
          (λ file has. subst (λ (v : CacheValue). Contains v.unwritten file) (sym c.self.view_is) has)
          (λ file has. subst (λ (v : CacheValue). Contains v.unwritten file) c.self.view_is has);
      rose = λ faulted. ran.rose (c.in-Err.is ∙ faulted);
      spared = λ never. ran.spared (λ faulted. never (sym c.in-Err.is ∙ faulted));
    }

pub returns-in-Err-clause-ends : goal.returns-in-Err-clause-ends
returns-in-Err-clause-ends g c = λ other short tells whole.
    elim ((c.requires.in_step tells).no_gap c.args.name c.requires.name.file whole) [
      | inl there ↦ c.load.ensures.ends other (c.in-Err.is ∙ short) tells there
      | inr waits ↦ c.requires.absent (subst (Contains (names_of c.args.self.now)) waits.named
          (name_there c.args.self.now.held waits.page waits.there))
    ]
