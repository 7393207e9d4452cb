-- What is written by each phase of a tick.
use Rattle.std.proofs.Common.{◌≡◌, ℕ, ◌-◌, ◌≤◌, true, false, IsTrue, List, [], ◌∷◌, ◌++◌, length, map, get_or, drop, take, refl, sym, ap, subst, ◌∙◌, arith}
use Rattle.std.proofs.lemmas.List.{length-map, map-id}
use Rattle.std.proofs.lemmas.List.Elements.{All-map}
use Rattle.std.proofs.lemmas.Simd.{map-map}
use Rattle.nb_model.specs.declared.body.Body.{Body}
use Rattle.nb_model.specs.declared.params.Params.{Params}
use Rattle.nb_model.specs.declared.way.Way.{Way}
use Rattle.nb_model.specs.Limits.{kick_limit, most_bodies}
use Rattle.nb_model.specs.Valid.{IsBelow, IsValidBodies}
use Rattle.nb_model.specs.Leapfrog.{unescaped, half_kick}
use Rattle.nb_model.proofs.Facts.{half_kick_below}
use Rattle.nb_host.specs.Meaning.{HostModel}
use Rattle.nb_host.specs.declared.page_name.PageName.{PageName}
use Rattle.nb_cache.specs.View.{CacheValue, seen}
use Rattle.nb_record.specs.Order.{by_key, sorted_by, HoldsBodies}
use Rattle.nb_record.proofs.Callers.{length-sorted_by}
use Rattle.nb_order.specs.declared.body_file.KickedBody.{KickedBody}
use Rattle.nb_tick.specs.State.{HoldsState}
use Rattle.nb_tick.specs.Steps.{HoldsList, half_kicked, in_morton_order, drifted_one, resting_one, IsDrifted, CantDrift}
use Rattle.nb_tick.specs.Writer.{WriterValue, HasWritten, HasCopied, CantCopy}
use Rattle.nb_tick.proofs.Lists.{length-without_kicks, without_kicks-kicks_from, held_list, held_list-holds, held_list-range, held_list-known}
use Rattle.nb_tick.proofs.Kicks.{Rests, front_and_back}
use Rattle.nb_tick.proofs.Written.{written_none, take_end}

length-held_list : (file : List ℕ) (bodies : List Body) (count : ℕ) → length bodies ≡ count → length (held_list file (sorted_by by_key bodies)) ≡ count
length-held_list file bodies count long =
    sym (length-without_kicks (held_list file (sorted_by by_key bodies))) ∙ ap length (without_kicks-kicks_from file 0 (sorted_by by_key bodies))
    ∙ length-sorted_by by_key bodies ∙ long

-- ---- by the kicks of the records

module _ {H : Type 0} (m : HostModel H) (params : Params) (from to count : ℕ) (cache : CacheValue) (host : H) (empty : IsTrue m.tells → seen m cache host to ≡ []) where
  pub drifted_known : (way : Way) (new_cache : CacheValue) (new : H) (after : WriterValue) → after.file ≡ to
      → HasCopied m (drifted_one params way) from 0 count cache host (record { file = to; count = 0 }) new_cache new after
      → IsTrue m.tells → (bodies : List Body) → length bodies ≡ count → HoldsState bodies (seen m cache host from)
      → IsDrifted params way true bodies (seen m cache host from) (seen m new_cache new to)
  drifted_known way new_cache new after file copied tells bodies long state =
      let slot = seen m cache host from in
      let list = held_list slot (sorted_by by_key bodies) in
      let many : length list ≡ count = length-held_list slot bodies count long in
      let has = copied.written tells list (held_list-holds slot (sorted_by by_key bodies) state) (omega (arith, many)) []
      (written_none (seen m cache host) to (empty tells)) in
      let all : map (drifted_one params way) (take (count - 0) (drop 0 list)) ≡ map (drifted_one params way) list =
      ap (map (drifted_one params way)) (take_end list 0 count many) in
      record {
        list = list;
        bodies_are = without_kicks-kicks_from slot 0 (sorted_by by_key bodies);
        range = held_list-range slot (sorted_by by_key bodies) state;
        holds = subst (HoldsList (seen m new_cache new to)) all
            (subst (λ (n : ℕ). HoldsList (seen m new_cache new n) (map (drifted_one params way) (take (count - 0) (drop 0 list)))) file has.holds);
        right = λ known. held_list-known slot (half_kick params bodies) (sorted_by by_key bodies) (known refl);
      }

  pub cant_known : {name : PageName} → count ≤ most_bodies → CantCopy m from 0 count cache host (record { file = to; count = 0 }) name
      → CantDrift m params (from ∷ to ∷ []) from count cache host name
  cant_known few cant = record {
    file = cant.file;
    cause = λ tells bodies valid long state.
        let slot = seen m cache host from in
        let list = held_list slot (sorted_by by_key bodies) in
        let many : length list ≡ count = length-held_list slot bodies count long in
        cant.cause tells list (held_list-holds slot (sorted_by by_key bodies) state) (omega (arith, many)) []
        (written_none (seen m cache host) to (empty tells)) (omega (arith, few));
  }

-- ---- by the half kicks from a tree

-- the bodies in Morton order, by their half kicks, are drifted
pub drifted_found : (params : Params) (way : Way) (bodies : List Body) (slot drifted : List ℕ) → IsValidBodies params bodies
    → HoldsList drifted (map (drifted_one params way) (in_morton_order params bodies)) → IsDrifted params way false bodies slot drifted
drifted_found params way bodies slot drifted valid holds = record {
  list = in_morton_order params bodies;
  bodies_are = map-map (λ (k : KickedBody). k.body) (half_kicked params bodies) (sorted_by by_key bodies) ∙ map-id (sorted_by by_key bodies);
  range = All-map (λ (k : KickedBody). IsBelow kick_limit k.kick) (half_kicked params bodies) (sorted_by by_key bodies)
      (λ j d below. half_kick_below params bodies valid.gm (get_or (sorted_by by_key bodies) j d));
  holds = holds;
  right = λ _. refl;
}

-- behind the bodies in the box those that are out
module _ {H : Type 0} (m : HostModel H) (params : Params) (from begin count : ℕ) (middle_cache : CacheValue) (middle : H) (before : WriterValue) (bodies : List Body) (made : KickedBody → KickedBody) (rests : Rests params bodies made) (long : length bodies ≡ count) (inside : begin ≡ length (unescaped bodies)) (holds : HoldsBodies (seen m middle_cache middle from) (sorted_by by_key bodies)) (has : HasWritten (seen m middle_cache middle) before (map made (map (half_kicked params bodies) (sorted_by by_key (unescaped bodies))))) where
  pub escaped_behind : (new_cache : CacheValue) (new : H) (after : WriterValue) → HasCopied m resting_one from begin count middle_cache middle before new_cache new after
      → IsTrue m.tells → HasWritten (seen m new_cache new) after (map made (in_morton_order params bodies))
  escaped_behind new_cache new after copied tells =
      let file = seen m middle_cache middle from in
      let list = held_list file (sorted_by by_key bodies) in
      let many : length list ≡ count = length-held_list file bodies count long in
      let front = map made (map (half_kicked params bodies) (sorted_by by_key (unescaped bodies))) in
      let is : front ++ map resting_one (take (count - begin) (drop begin list)) ≡ map made (in_morton_order params bodies) =
      ap (λ (l : List KickedBody). front ++ map resting_one l) (take_end list begin count many)
      ∙ ap (λ (n : ℕ). front ++ map resting_one (drop n list)) inside
      ∙ front_and_back params bodies made rests list (without_kicks-kicks_from file 0 (sorted_by by_key bodies)) in
      subst (HasWritten (seen m new_cache new) after) is
      (copied.written tells list (held_list-holds file (sorted_by by_key bodies) holds) (omega (arith, many)) front has)

  pub never_cant : {name : PageName} → begin ≤ count → count ≤ most_bodies → CantCopy m from begin count middle_cache middle before name → IsTrue m.tells → ⊥
  never_cant less few cant tells =
      let file = seen m middle_cache middle from in
      let list = held_list file (sorted_by by_key bodies) in
      let many : length list ≡ count = length-held_list file bodies count long in
      let front = map made (map (half_kicked params bodies) (sorted_by by_key (unescaped bodies))) in
      let written : length front ≡ begin =
      length-map (map (half_kicked params bodies) (sorted_by by_key (unescaped bodies))) made
      ∙ length-map (sorted_by by_key (unescaped bodies)) (half_kicked params bodies) ∙ length-sorted_by by_key (unescaped bodies) ∙ sym inside in
      cant.cause tells list (held_list-holds file (sorted_by by_key bodies) holds) (omega (arith, many)) front has
      (omega (arith, has.count_is, written, less, few))
