use Rattle.std.proofs.Common.{◌≡◌, ◌-◌, Bool, true, false, slice_get, Contains, length, ap, sym, subst, ◌∙◌, arith}
use Rattle.nb_cache.specs.Names.{SparesDirty}
use Rattle.nb_cache.specs.View.{CacheValue, names_of}
use Rattle.nb_cache.proofs.Rooms.{room_few, room_none, room_resident, room_settled}
use Rattle.nb_cache.proofs.cache.Cache.make_room.Goals as goal

pub returns-then-len-pages-clause-room : goal.returns-then-len-pages-clause-room
returns-then-len-pages-clause-room g c =
    let is = ap (λ (v : CacheValue). v.pages) c.self.view_is in
    room_few c.args.name c.args.self.now.pages c.args.self.now.held
    (omega (arith, is, c.len.ensures.count, c.pages.ensures, c.if-len-pages.true))

pub returns-then-is_some-clause-room : goal.returns-then-is_some-clause-room
returns-then-is_some-clause-room g c =
    room_resident c.args.name c.args.self.now.pages c.args.self.now.held c.len.ensures.sound
    (subst (λ (v : CacheValue). Contains (names_of v) c.args.name) c.self.view_is
    (c.lent.ensures.resident.0 (sym c.is_some.ensures ∙ c.if-is_some.true)))

pub returns-in_default-clause-room : goal.returns-in_default-clause-room
returns-in_default-clause-room g c =
    room_none c.args.name c.args.self.now.pages c.args.self.now.held c.len.ensures.sound.positive
    (c.in_default.ensures ∙ ap (λ (v : CacheValue). slice_get (names_of v) (length (names_of v) - 1)) c.self.view_is)

pub returns-clause-room : goal.returns-clause-room
returns-clause-room g c =
    subst (λ n. SparesDirty c.args.name n c.settle.new.self.held) (sym c.settle.ensures.ran.writes.pages)
    (room_settled c.args.name c.args.self.now.pages c.args.self.now.held c.settle.new.self.held c.in-Some.last c.len.ensures.sound
    (omega (arith, ap (λ (v : CacheValue). v.pages) c.self.view_is, c.len.ensures.count, c.pages.ensures, c.if-len-pages.false))
    (λ has. absent (sym c.is_some.ensures ∙ c.if-is_some.false)
    (c.lent.ensures.resident.1 (subst (λ (v : CacheValue). Contains (names_of v) c.args.name) (sym c.self.view_is) has)))
    (c.in-Some.ensures ∙ ap (λ (v : CacheValue). slice_get (names_of v) (length (names_of v) - 1)) c.self.view_is)
    c.in_ok-settle.ensures.settled)
  where
    absent : {b : Bool} → b ≡ false → b ≡ true → ⊥
    absent out in_there = let two : false ≡ true = sym out ∙ in_there in (cc)
