-- A file to which bodies are added, one after the other.
use Rattle.std.proofs.Common.{◌≡◌, ℕ, ◌+◌, ◌-◌, ◌<◌, ◌≤◌, IsTrue, List, [], ◌∷◌, ◌++◌, length, map, get_or, take, drop, Some, refl, sym, ap, subst, ◌∙◌, arith, append_assoc, length-append, length-drop}
use Rattle.std.specs.Prelude.{◌≢◌, false, slice_get, Contains}
use Rattle.std.proofs.lemmas.List.{append-nil, map-append, take_more, get_or-drop, drop_more, take_rest}
use Rattle.std.proofs.lemmas.Option.{slice_get-get_or}
use Rattle.nb_model.specs.declared.body.V3.{V3}
use Rattle.nb_model.specs.declared.body.Body.{Body}
use Rattle.nb_model.specs.Vector.{zero_vector}
use Rattle.nb_host.specs.Meaning.{HostModel}
use Rattle.nb_host.specs.declared.page_name.PageName.{PageName}
use Rattle.nb_cache.specs.View.{CacheValue, seen}
use Rattle.nb_cache.specs.Writes.{Writes}
use Rattle.nb_cache.proofs.Callers.{no_file, other_file}
use Rattle.nb_record.specs.declared.sizes.TheConstants.{BODY_SIZE}
use Rattle.nb_record.specs.Writing.{IsZeroPaddedFile}
use Rattle.nb_order.specs.Files.{HasPushed}
use Rattle.nb_order.specs.Refusals.{IsNoBody}
use Rattle.nb_order.specs.declared.body_file.KickedBody.{KickedBody}
use Rattle.nb_tick.specs.Steps.{without_kicks, HoldsList}
use Rattle.nb_tick.specs.Writer.{WriterValue, HasWritten, HasAdded, CantAdd, HasCopied, CantCopy}
use Rattle.nb_tick.proofs.Lists.{length-without_kicks, list_pushed}

-- ---- a file without bodies

none_at : (j : ℕ) (k : KickedBody) → slice_get [] j ≡ Some k → ⊥
none_at j k is = absurd (cc)

pub written_none : (files : ℕ → List ℕ) (file : ℕ) → files file ≡ [] → HasWritten files (record { file = file; count = 0 }) []
written_none files file is = record {
  count_is = refl;
  holds = record {
    bodies = record {
      whole = omega (arith, ap (λ (l : List ℕ). length l) is);
      pages = λ p below. absurd (omega arith);
      counts = λ p below. absurd (omega arith);
      records = λ j below. absurd (omega arith);
      held = λ j below. absurd (omega arith);
    };
    kicks = λ j k at. absurd (none_at j k at);
  };
  padded = subst (IsZeroPaddedFile BODY_SIZE) (sym is) (λ p has. absurd (omega arith));
}

-- ---- one body more

-- what a writer's file has after a push
pub written_pushed : (old new : ℕ → List ℕ) (w after : WriterValue) (list : List KickedBody) (body : Body) (kick : V3)
    → after.file ≡ w.file → after.count ≡ w.count + 1 → HasPushed w.count body kick (old w.file) (new w.file) → HasWritten old w list
    → HasWritten new after (list ++ record { body = body; kick = kick } ∷ [])
written_pushed old new w after list body kick file count pushed has =
    let long : length (without_kicks list) ≡ w.count = length-without_kicks list ∙ has.count_is in
    let one = pushed (without_kicks list) has.holds.bodies long in
    record {
      count_is = omega (arith, length-append {A = KickedBody}, has.count_is, count);
      holds = subst (λ (n : ℕ). HoldsList (new n) (list ++ record { body = body; kick = kick } ∷ [])) (sym file)
          (list_pushed (old w.file) (new w.file) list body kick has.holds one);
      padded = subst (λ (n : ℕ). IsZeroPaddedFile BODY_SIZE (new n)) (sym file) (one.padded has.padded);
    }

-- what a writer's file has depends on that file alone
pub written_same : (old new : ℕ → List ℕ) (w after : WriterValue) (list : List KickedBody) → after ≡ w → new w.file ≡ old w.file
    → HasWritten old w list → HasWritten new after list
written_same old new w after list same is has =
    subst (λ (v : WriterValue). HasWritten new v list) (sym same)
    (record {
      count_is = has.count_is;
      holds = subst (λ (l : List ℕ). HoldsList l list) (sym is) has.holds;
      padded = subst (IsZeroPaddedFile BODY_SIZE) (sym is) has.padded;
    })

-- ---- the bodies of a range

some_body : KickedBody
some_body = record {
  body = record { id = 0; mass = 0; out = false; at = record { x = 0; y = 0; z = 0 }; v = zero_vector };
  kick = zero_vector;
}

take_one : (bodies : List KickedBody) (index : ℕ) → index + 1 ≤ length bodies
    → take ((index + 1) - index) (drop index bodies) ≡ get_or bodies index some_body ∷ []
take_one bodies index within =
    let one : (index + 1) - index ≡ 1 = omega arith in
    ap (λ (n : ℕ). take n (drop index bodies)) one
    ∙ ap (λ (l : List KickedBody). take 1 l) (drop_more bodies index some_body (omega arith))

take_next : (bodies : List KickedBody) (begin index : ℕ) → begin ≤ index → index + 1 ≤ length bodies
    → take ((index + 1) - begin) (drop begin bodies) ≡ take (index - begin) (drop begin bodies) ++ take ((index + 1) - index) (drop index bodies)
take_next bodies begin index before within =
    let far : (index + 1) - begin ≡ (index - begin) + 1 = omega arith in
    let there : begin + (index - begin) ≡ index = omega arith in
    ap (λ (n : ℕ). take n (drop begin bodies)) far
    ∙ take_more (drop begin bodies) (index - begin) some_body (omega (arith, length-drop begin bodies))
    ∙ ap (λ (k : KickedBody). take (index - begin) (drop begin bodies) ++ k ∷ [])
    (get_or-drop begin bodies (index - begin) some_body ∙ ap (λ (n : ℕ). get_or bodies n some_body) there)
    ∙ ap (λ (l : List KickedBody). take (index - begin) (drop begin bodies) ++ l) (sym (take_one bodies index within))

-- to the end of the list
pub take_end : (bodies : List KickedBody) (begin end : ℕ) → length bodies ≡ end → take (end - begin) (drop begin bodies) ≡ drop begin bodies
take_end bodies begin end is = subst (λ (n : ℕ). take (n - begin) (drop begin bodies) ≡ drop begin bodies) is (take_rest bodies begin)

module _ {H : Type 0} (m : HostModel H) (made : KickedBody → KickedBody) (from : ℕ) where
  -- no body yet
  pub copied_none : (begin : ℕ) (cache : CacheValue) (host : H) (w : WriterValue) → HasCopied m made from begin begin cache host w cache host w
  copied_none begin cache host w = record {
    count_is = omega arith;
    written = λ tells bodies holds within list has.
        let none : begin - begin ≡ 0 = omega arith in
        let same : list ++ map made (take (begin - begin) (drop begin bodies)) ≡ list =
        ap (λ (n : ℕ). list ++ map made (take n (drop begin bodies))) none ∙ append-nil list in
        subst (λ (l : List KickedBody). HasWritten (seen m cache host) w l) (sym same) has;
  }

  -- one body behind the others
  pub copied_more : {begin index : ℕ} {old_cache middle_cache new_cache : CacheValue} {old middle new : H} {before between after : WriterValue}
      → begin ≤ index → from ≢ before.file → Writes m (before.file ∷ []) old_cache old middle_cache middle
      → HasCopied m made from begin index old_cache old before middle_cache middle between
      → HasCopied m made from index (index + 1) middle_cache middle between new_cache new after
      → HasCopied m made from begin (index + 1) old_cache old before new_cache new after
  copied_more {begin = begin} {index = index} {new_cache = new_cache} {new = new} {after = after} rising apart writes first second = record {
    count_is = omega (arith, first.count_is, second.count_is);
    written = λ tells bodies holds within list has.
        let so_far = take (index - begin) (drop begin bodies) in
        let one = take ((index + 1) - index) (drop index bodies) in
        let stays = writes.view tells from (other_file apart) in
        let same : (list ++ map made so_far) ++ map made one ≡ list ++ map made (take ((index + 1) - begin) (drop begin bodies)) =
        append_assoc list (map made so_far) (map made one)
        ∙ ap (λ (l : List KickedBody). list ++ l) (sym (map-append made so_far one))
        ∙ ap (λ (l : List KickedBody). list ++ map made l) (sym (take_next bodies begin index rising within)) in
        subst (λ (l : List KickedBody). HasWritten (seen m new_cache new) after l) same
        (second.written tells bodies (subst (λ (l : List ℕ). HoldsList l bodies) (sym stays) holds) within (list ++ map made so_far)
        (first.written tells bodies holds (omega arith) list has));
  }

  -- where one body can't be added, the range can't
  pub cant_copy_later : {begin index end : ℕ} {old_cache middle_cache : CacheValue} {old middle : H} {before between : WriterValue} {name : PageName}
      → begin ≤ index → index < end → from ≢ before.file → between.file ≡ before.file
      → Writes m (before.file ∷ []) old_cache old middle_cache middle
      → HasCopied m made from begin index old_cache old before middle_cache middle between
      → CantCopy m from index (index + 1) middle_cache middle between name → CantCopy m from begin end old_cache old before name
  cant_copy_later {begin = begin} {index = index} {end = end} {before = before} {name = name} rising below apart file writes first later = record {
    file = subst (λ (n : ℕ). Contains (from ∷ n ∷ []) name.file) file later.file;
    cause = λ tells bodies holds within list has room.
        let so_far = take (index - begin) (drop begin bodies) in
        let stays = writes.view tells from (other_file apart) in
        later.cause tells bodies (subst (λ (l : List ℕ). HoldsList l bodies) (sym stays) holds) (omega arith) (list ++ map made so_far)
        (first.written tells bodies holds (omega arith) list has) (omega (arith, first.count_is));
  }

  -- a body that was read and then added
  pub copied_one : {index : ℕ} {old_cache middle_cache new_cache : CacheValue} {old middle new : H} {before after : WriterValue} {added : KickedBody}
      → Writes m [] old_cache old middle_cache middle → HasAdded m added middle_cache middle before new_cache new after
      → (IsTrue m.tells → (bodies : List KickedBody) → HoldsList (seen m old_cache old from) bodies → (k : KickedBody)
      → slice_get bodies index ≡ Some k → made k ≡ added)
      → HasCopied m made from index (index + 1) old_cache old before new_cache new after
  copied_one {index = index} {old_cache = old_cache} {middle_cache = middle_cache} {new_cache = new_cache} {old = old} {middle = middle} {new = new} {before = before} {after = after} writes has_added read = record {
    count_is = omega (arith, has_added.count_is);
    written = λ tells bodies holds within list has.
        let k = get_or bodies index some_body in
        let is = read tells bodies holds k (slice_get-get_or bodies index some_body (omega arith)) in
        let one : list ++ map made (take ((index + 1) - index) (drop index bodies)) ≡ list ++ made k ∷ [] =
        ap (λ (l : List KickedBody). list ++ map made l) (take_one bodies index within) in
        let middle_has = written_same (seen m old_cache old) (seen m middle_cache middle) before before list refl
        (writes.view tells before.file (no_file before.file)) has in
        subst (λ (l : List KickedBody). HasWritten (seen m new_cache new) after l) (ap (λ (x : KickedBody). list ++ x ∷ []) (sym is) ∙ sym one)
        (has_added.written tells list middle_has);
  }

-- why one body can't be added: it can't be read
pub cant_read : {H : Type 0} {m : HostModel H} {from index : ℕ} {cache : CacheValue} {host : H} {w : WriterValue} {name : PageName}
    → IsNoBody m cache host from index name → CantCopy m from index (index + 1) cache host w name
cant_read {m = m} {from = from} {index = index} {w = w} {name = name} none = record {
  file = (0, omega arith, sym (ap (λ (n : PageName). n.file) none.page));
  cause = λ tells bodies holds within list has room.
      let few = none.listed tells (without_kicks bodies) holds.bodies in omega (arith, length-without_kicks bodies);
}

-- or there is no room
pub cant_write : {H : Type 0} {m : HostModel H} {from index : ℕ} {cache middle_cache : CacheValue} {host middle : H} {w : WriterValue} {name : PageName}
    → Writes m [] cache host middle_cache middle → CantAdd m middle_cache middle w name → CantCopy m from index (index + 1) cache host w name
cant_write {m = m} {from = from} {index = index} {cache = cache} {middle_cache = middle_cache} {host = host} {middle = middle} {w = w} {name = name} writes cant = record {
  file = (1, omega arith, sym cant.file);
  cause = λ tells bodies holds within list has room.
      cant.cause tells list
      (written_same (seen m cache host) (seen m middle_cache middle) w w list refl (writes.view tells w.file (no_file w.file)) has) (omega arith);
}
