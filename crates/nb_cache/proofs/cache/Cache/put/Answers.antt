use Rattle.std.proofs.Common.{◌≡◌, ◌↔◌, ◌⊎◌, ◌≤◌, ℕ, inl, IsTrue, OnOk, Result, Ok, Err, List, [], ◌∷◌, Contains, length, ap, refl, sym, subst, ◌∙◌, rules}
use Rattle.nb_host.proofs.Callers.{stopped_after, torn_by_nothing}
use Rattle.nb_host.specs.Image.{IsTorn}
use Rattle.nb_host.specs.Page.{page_start}
use Rattle.nb_host.specs.declared.page_name.TheConstants.{PAGE_SIZE}
use Rattle.nb_cache.specs.Names.{used}
use Rattle.nb_cache.specs.Stock.{Stock}
use Rattle.nb_cache.specs.View.{CacheValue, Same, Seen, names_of, seen}
use Rattle.nb_cache.specs.Writes.{RanCached}
use Rattle.nb_cache.specs.declared.cache_error.CacheError.TheVariants.{Fault}
use Rattle.nb_cache.proofs.Callers.{may_write, no_file, ran_again, ran_more, seen_after, writes_again}
use Rattle.nb_cache.proofs.Entries.{cache_of}
use Rattle.nb_cache.proofs.Putting.{seen_same, step_marked, writes_marked}
use Rattle.nb_cache.proofs.cache.Cache.put.Goals as goal

on_ok : {T E P Q : Type 0} (r : Result T E) → OnOk r P → (P → Q) → OnOk r Q
on_ok (Ok x) has step = step has
on_ok (Err e) has step = tt

-- which files are marked then
marked_now : (file : ℕ) (frames : Stock) (before now : List ℕ) (old : CacheValue) → cache_of frames before ≡ old
    → ((other : ℕ) → (Contains now other ↔ ((other ≡ file) ⊎ Contains before other)))
    → (other : ℕ) → (Contains now other ↔ ((other ≡ file) ⊎ Contains old.unwritten other))
marked_now file frames before now old is marks =
    subst (λ (v : CacheValue). (other : ℕ) → (Contains now other ↔ ((other ≡ file) ⊎ Contains v.unwritten other))) is marks

pub joins-requires-clause-in_step : goal.joins-requires-clause-in_step
joins-requires-clause-in_step g c =
    let marks = marked_now c.args.name.file c.self.inside.frames c.self.inside.unwritten c.mark.new.self c.args.self.now
    c.self.view_is c.mark.ensures in
    step_marked g.H.Host.meaning c.args.self.now {old = c.args.host.now}
    (cache_of c.self.inside.frames c.mark.new.self) c.requires.in_step c.args.name.file
    (ap (λ (v : CacheValue). v.held) c.self.view_is) (ap (λ (v : CacheValue). v.pages) c.self.view_is) marks

pub make_room-requires : goal.make_room-requires
make_room-requires g c =
    let marks = marked_now c.args.name.file c.self.inside.frames c.self.inside.unwritten c.mark.new.self c.args.self.now
    c.self.view_is c.mark.ensures in
    let wrote = writes_marked g.H.Host.meaning c.args.self.now {old = c.args.host.now}
    (cache_of c.self.inside.frames c.mark.new.self) c.requires.in_step c.args.name.file
    (ap (λ (v : CacheValue). v.held) c.self.view_is) (ap (λ (v : CacheValue). v.pages) c.self.view_is) marks
    c.joins.ensures.ran.leads c.joins.ensures.ran.count c.joins.ensures.ran.tally in
    record { in_step = wrote.in_step }

pub lay-requires-clause-joins : goal.lay-requires-clause-joins
lay-requires-clause-joins g c = λ few tells.
    let marks = marked_now c.args.name.file c.self.inside.frames c.self.inside.unwritten c.mark.new.self c.args.self.now
    c.self.view_is c.mark.ensures in
    let stepped = step_marked g.H.Host.meaning c.args.self.now {old = c.args.host.now}
    (cache_of c.self.inside.frames c.mark.new.self) c.requires.in_step c.args.name.file
    (ap (λ (v : CacheValue). v.held) c.self.view_is) (ap (λ (v : CacheValue). v.pages) c.self.view_is) marks in
    let same = c.make_room.ensures.ran.writes.view tells c.args.name.file (no_file c.args.name.file)
    ∙ seen_same g.H.Host.meaning (cache_of c.self.inside.frames c.mark.new.self) {old = c.args.host.now}
    (cache_of c.self.inside.frames c.mark.new.self) {new = c.joins.new.host} stepped refl c.joins.ensures.ran.leads
    c.args.name.file in
    subst (λ l. page_start c.args.name.page ≤ length l) (sym same) (c.in_ok-joins.ensures.joins few tells)

pub lay-requires-clause-absent : goal.lay-requires-clause-absent
lay-requires-clause-absent g c = λ out has.
    c.in_ok-joins.ensures.absent out (subst (λ l. Contains l c.args.name) c.make_room.ensures.resident has)

pub lay-requires-clause-marked : goal.lay-requires-clause-marked
lay-requires-clause-marked g c =
    subst (λ l. Contains l c.args.name.file) (sym c.make_room.ensures.unwritten)
    ((c.mark.ensures c.args.name.file).1 (inl refl))

pub lay-requires-clause-in_step : goal.lay-requires-clause-in_step
lay-requires-clause-in_step g c = c.make_room.ensures.ran.writes.in_step

pub returns-in_err-joins-clause-ran : goal.returns-in_err-joins-clause-ran
returns-in_err-joins-clause-ran g c =
    let marks = marked_now c.args.name.file c.self.inside.frames c.self.inside.unwritten c.mark.new.self c.args.self.now
    c.self.view_is c.mark.ensures in
    record {
      writes = writes_marked g.H.Host.meaning c.args.self.now {old = c.args.host.now}
          (cache_of c.self.inside.frames c.mark.new.self) c.requires.in_step c.args.name.file
          (ap (λ (v : CacheValue). v.held) c.self.view_is) (ap (λ (v : CacheValue). v.pages) c.self.view_is) marks
          c.joins.ensures.ran.leads c.joins.ensures.ran.count c.joins.ensures.ran.tally;
      rose = λ faulted. c.joins.ensures.ran.rose (search rules);
      spared = λ never. c.joins.ensures.ran.spared (search rules);
    }

pub returns-in_err-joins-clause-torn : goal.returns-in_err-joins-clause-torn
returns-in_err-joins-clause-torn g c = record {
  told = λ tells.
      let was = seen g.H.Host.meaning c.args.self.now c.args.host.now c.args.name.file in
      subst (IsTorn (page_start c.args.name.page) PAGE_SIZE was)
      (sym (seen_same g.H.Host.meaning c.args.self.now {old = c.args.host.now}
      (cache_of c.self.inside.frames c.mark.new.self) {new = c.joins.new.host} c.requires.in_step
      (ap (λ (v : CacheValue). v.held) c.self.view_is) c.joins.ensures.ran.leads c.args.name.file))
      (torn_by_nothing (page_start c.args.name.page) PAGE_SIZE was);
}

pub returns-in_err-joins-clause-no_memory : goal.returns-in_err-joins-clause-no_memory
returns-in_err-joins-clause-no_memory g c = λ _ file. record {
  told = λ tells. seen_same g.H.Host.meaning c.args.self.now {old = c.args.host.now}
      (cache_of c.self.inside.frames c.mark.new.self) {new = c.joins.new.host} c.requires.in_step
      (ap (λ (v : CacheValue). v.held) c.self.view_is) c.joins.ensures.ran.leads file;
}

pub returns-in_err-joins-clause-unwritten : goal.returns-in_err-joins-clause-unwritten
returns-in_err-joins-clause-unwritten g c =
    marked_now c.args.name.file c.self.inside.frames c.self.inside.unwritten c.mark.new.self c.args.self.now c.self.view_is
    c.mark.ensures

pub returns-in_err-make_room-clause-ran : goal.returns-in_err-make_room-clause-ran
returns-in_err-make_room-clause-ran g c =
    let marks = marked_now c.args.name.file c.self.inside.frames c.self.inside.unwritten c.mark.new.self c.args.self.now
    c.self.view_is c.mark.ensures in
    let wrote = writes_marked g.H.Host.meaning c.args.self.now {old = c.args.host.now}
    (cache_of c.self.inside.frames c.mark.new.self) c.requires.in_step c.args.name.file
    (ap (λ (v : CacheValue). v.held) c.self.view_is) (ap (λ (v : CacheValue). v.pages) c.self.view_is) marks
    c.joins.ensures.ran.leads c.joins.ensures.ran.count c.joins.ensures.ran.tally in
    let ran = c.make_room.ensures.ran in
    record {
      writes = writes_again wrote (may_write (c.args.name.file ∷ []) ran.writes);
      rose = λ faulted. stopped_after (c.joins.ensures.ran.spared (search rules)) (ran.rose (search rules));
      spared = λ never. ran.spared (search rules) ∙ c.joins.ensures.ran.spared (search rules);
    }

pub returns-in_err-make_room-clause-torn : goal.returns-in_err-make_room-clause-torn
returns-in_err-make_room-clause-torn g c =
    let before : IsTrue g.H.Host.meaning.tells → (file : ℕ) → seen g.H.Host.meaning c.make_room.new.self c.make_room.new.host file
    ≡ seen g.H.Host.meaning c.args.self.now c.args.host.now file = λ tells file.
    c.make_room.ensures.ran.writes.view tells file (no_file file)
    ∙ seen_same g.H.Host.meaning c.args.self.now {old = c.args.host.now}
    (cache_of c.self.inside.frames c.mark.new.self) {new = c.joins.new.host} c.requires.in_step
    (ap (λ (v : CacheValue). v.held) c.self.view_is) c.joins.ensures.ran.leads file in
    record {
      told = λ tells.
          let was = seen g.H.Host.meaning c.args.self.now c.args.host.now c.args.name.file in
          subst (IsTorn (page_start c.args.name.page) PAGE_SIZE was) (sym (before tells c.args.name.file))
          (torn_by_nothing (page_start c.args.name.page) PAGE_SIZE was);
    }

pub returns-in_err-make_room-clause-no_memory : goal.returns-in_err-make_room-clause-no_memory
returns-in_err-make_room-clause-no_memory g c = λ _ file.
    let before : IsTrue g.H.Host.meaning.tells → (file : ℕ) → seen g.H.Host.meaning c.make_room.new.self c.make_room.new.host file
    ≡ seen g.H.Host.meaning c.args.self.now c.args.host.now file = λ tells file.
    c.make_room.ensures.ran.writes.view tells file (no_file file)
    ∙ seen_same g.H.Host.meaning c.args.self.now {old = c.args.host.now}
    (cache_of c.self.inside.frames c.mark.new.self) {new = c.joins.new.host} c.requires.in_step
    (ap (λ (v : CacheValue). v.held) c.self.view_is) c.joins.ensures.ran.leads file in
    record { told = λ tells. before tells file }

pub returns-in_err-make_room-clause-unwritten : goal.returns-in_err-make_room-clause-unwritten
returns-in_err-make_room-clause-unwritten g c =
    let marks = marked_now c.args.name.file c.self.inside.frames c.self.inside.unwritten c.mark.new.self c.args.self.now
    c.self.view_is c.mark.ensures in
    subst (λ (l : List ℕ). (other : ℕ) → (Contains l other ↔ ((other ≡ c.args.name.file) ⊎ Contains c.args.self.now.unwritten other)))
    (sym c.make_room.ensures.unwritten) marks

pub returns-clause-ran : goal.returns-clause-ran
returns-clause-ran g c =
    let marks = marked_now c.args.name.file c.self.inside.frames c.self.inside.unwritten c.mark.new.self c.args.self.now
    c.self.view_is c.mark.ensures in
    let wrote = writes_marked g.H.Host.meaning c.args.self.now {old = c.args.host.now}
    (cache_of c.self.inside.frames c.mark.new.self) c.requires.in_step c.args.name.file
    (ap (λ (v : CacheValue). v.held) c.self.view_is) (ap (λ (v : CacheValue). v.pages) c.self.view_is) marks
    c.joins.ensures.ran.leads c.joins.ensures.ran.count c.joins.ensures.ran.tally in
    let first : RanCached g.H.Host.meaning Fault (c.args.name.file ∷ []) c.args.self.now c.args.host.now
    (cache_of c.self.inside.frames c.mark.new.self) c.joins.new.host c.joins.result =
    record { writes = wrote; rose = c.joins.ensures.ran.rose; spared = c.joins.ensures.ran.spared } in
    ran_again first (search rules)
    (ran_again (ran_more (λ file has. absurd (no_file file has)) c.make_room.ensures.ran) (search rules) c.lay.ensures.ran)

pub returns-clause-view : goal.returns-clause-view
returns-clause-view g c =
    let before : IsTrue g.H.Host.meaning.tells → (file : ℕ) → seen g.H.Host.meaning c.make_room.new.self c.make_room.new.host file
    ≡ seen g.H.Host.meaning c.args.self.now c.args.host.now file = λ tells file.
    c.make_room.ensures.ran.writes.view tells file (no_file file)
    ∙ seen_same g.H.Host.meaning c.args.self.now {old = c.args.host.now}
    (cache_of c.self.inside.frames c.mark.new.self) {new = c.joins.new.host} c.requires.in_step
    (ap (λ (v : CacheValue). v.held) c.self.view_is) c.joins.ensures.ran.leads file in
    let first : Seen g.H.Host.meaning c.args.name.file Same c.args.self.now c.args.host.now c.make_room.new.self c.make_room.new.host =
    record { told = λ tells. before tells c.args.name.file } in
    on_ok c.lay.result c.lay.ensures.view (λ is. seen_after first is)

pub returns-clause-torn : goal.returns-clause-torn
returns-clause-torn g c =
    let before : IsTrue g.H.Host.meaning.tells → (file : ℕ) → seen g.H.Host.meaning c.make_room.new.self c.make_room.new.host file
    ≡ seen g.H.Host.meaning c.args.self.now c.args.host.now file = λ tells file.
    c.make_room.ensures.ran.writes.view tells file (no_file file)
    ∙ seen_same g.H.Host.meaning c.args.self.now {old = c.args.host.now}
    (cache_of c.self.inside.frames c.mark.new.self) {new = c.joins.new.host} c.requires.in_step
    (ap (λ (v : CacheValue). v.held) c.self.view_is) c.joins.ensures.ran.leads file in
    let first : Seen g.H.Host.meaning c.args.name.file Same c.args.self.now c.args.host.now c.make_room.new.self c.make_room.new.host =
    record { told = λ tells. before tells c.args.name.file } in
    seen_after first c.lay.ensures.torn

pub returns-clause-no_memory : goal.returns-clause-no_memory
returns-clause-no_memory g c = λ wants file.
    let before : IsTrue g.H.Host.meaning.tells → (file : ℕ) → seen g.H.Host.meaning c.make_room.new.self c.make_room.new.host file
    ≡ seen g.H.Host.meaning c.args.self.now c.args.host.now file = λ tells file.
    c.make_room.ensures.ran.writes.view tells file (no_file file)
    ∙ seen_same g.H.Host.meaning c.args.self.now {old = c.args.host.now}
    (cache_of c.self.inside.frames c.mark.new.self) {new = c.joins.new.host} c.requires.in_step
    (ap (λ (v : CacheValue). v.held) c.self.view_is) c.joins.ensures.ran.leads file in
    record { told = λ tells. (c.lay.ensures.no_memory wants file).told tells ∙ before tells file }

pub returns-clause-resident : goal.returns-clause-resident
returns-clause-resident g c =
    on_ok c.lay.result c.lay.ensures.resident (λ is.
    is ∙ ap (λ n. used n (c.args.name ∷ []) (names_of c.make_room.new.self))
    (c.make_room.ensures.ran.writes.pages ∙ ap (λ (v : CacheValue). v.pages) c.self.view_is)
    ∙ ap (λ l. used c.args.self.now.pages (c.args.name ∷ []) l) (c.make_room.ensures.resident ∙ ap names_of c.self.view_is))

pub returns-clause-unwritten : goal.returns-clause-unwritten
returns-clause-unwritten g c =
    let marks = marked_now c.args.name.file c.self.inside.frames c.self.inside.unwritten c.mark.new.self c.args.self.now
    c.self.view_is c.mark.ensures in
    subst (λ (l : List ℕ). (other : ℕ) → (Contains l other ↔ ((other ≡ c.args.name.file) ⊎ Contains c.args.self.now.unwritten other)))
    (sym (c.lay.ensures.unwritten ∙ c.make_room.ensures.unwritten)) marks
