-- The sums of the bodies of a cell at the deepest level, as far as they are taken.
use Rattle.std.proofs.Common.{◌≡◌, ℕ, ◌+◌, ◌*◌, ◌<◌, ◌≤◌, List, [], ◌∷◌, ◌++◌, length, take, drop, Some, None, inl, inr, refl, sym, ap, subst, ◌∙◌, arith}
use Rattle.std.specs.Prelude.{sum_by, slice_get, Option}
use Rattle.std.proofs.lemmas.Bool.{cases_lt}
use Rattle.std.proofs.lemmas.List.{take_more, length-append, length-drop, get_or-drop}
use Rattle.std.proofs.lemmas.List.Sums.{sum_by_push}
use Rattle.std.proofs.lemmas.Option.{same_Some, slice_get_within, get_or_from_slice_get}
use Rattle.nb_model.specs.declared.body.Body.{Body}
use Rattle.nb_model.specs.Octree.{total_mass}
use Rattle.nb_key.specs.Morton.{key_at, IsKeyAt}
use Rattle.nb_key.proofs.Paths.{key_is}
use Rattle.nb_record.specs.Cells.{first_body, in_cell}
use Rattle.nb_record.proofs.Callers.{range_sum}
use Rattle.nb_tree.specs.Passes.{AreSums, LiesIn, IsAt, body_ahead}
use Rattle.nb_tree.specs.declared.sums.Sums.{Sums}
use Rattle.nb_tree.specs.declared.reader.Ahead.{Ahead}
use Rattle.nb_tree.specs.declared.reader.Reader.{Reader}
use Rattle.nb_tree.proofs.Octants.{AreSorted, IsNext, some_length, next_within, next_some, next_holds}

-- ---- the body ahead is the next one

abbrev pub next_of_lies : {level key : ℕ} {front : List Body} {r : Reader} → IsAt front r → LiesIn level key r → IsNext level key front r.taken
next_of_lies at lies = record { body = lies.next.body; there = sym at ∙ ap body_ahead lies.there; lies = lies.lies }

ahead_of : (ahead : Option Ahead) (b : Body) → body_ahead ahead ≡ Some b → (n : Ahead) × (ahead ≡ Some n) × (n.body ≡ b)
ahead_of None b is = absurd (cc)
ahead_of (Some n) b is = (n, refl, same_Some n.body b is)

pub lies_of_next : {level key : ℕ} {front : List Body} {r : Reader} → IsAt front r → IsNext level key front r.taken → LiesIn level key r
lies_of_next {level = level} {key = key} {r = r} at next =
    let ahead = ahead_of r.ahead next.body (at ∙ next.there) in
    record { next = ahead.0; there = ahead.1; lies = subst (λ (b : Body). key_at level b.at ≡ key) (sym ahead.2) next.lies }

-- ---- the sums of a range

ranged : {X : Type 0} (xs : List X) (from n : ℕ) (x : X) → slice_get xs (from + n) ≡ Some x → take (n + 1) (drop from xs) ≡ take n (drop from xs) ++ x ∷ []
ranged xs from n x there =
    let within = slice_get_within xs (from + n) x there in
    let long : n < length (drop from xs) = omega (arith, length-drop from xs) in
    take_more (drop from xs) n x long
    ∙ ap (λ y. take n (drop from xs) ++ y ∷ []) (get_or-drop from xs n x ∙ get_or_from_slice_get xs (from + n) x x there)

-- the sums are those of the bodies that were taken behind so many, all of the cell
pub record AreSumsTo (front : List Body) (key taken : ℕ) (sums : Sums) : Type 0 where
  pub are : AreSums sums (take sums.count (drop taken front))
  pub most : sums.count ≤ length (in_cell 21 key front)

-- the sums of these bodies and of those
pub record IsPlus (a b sum : Sums) : Type 0 where
  pub count : sum.count ≡ a.count + b.count
  pub mass : sum.mass ≡ a.mass + b.mass
  pub x : sum.x ≡ a.x + b.x
  pub y : sum.y ≡ a.y + b.y
  pub z : sum.z ≡ a.z + b.z

-- the sums of one body
pub record IsOne (b : Body) (s : Sums) : Type 0 where
  pub count : s.count ≡ 1
  pub mass : s.mass ≡ b.mass
  pub x : s.x ≡ b.mass * b.at.x
  pub y : s.y ≡ b.mass * b.at.y
  pub z : s.z ≡ b.mass * b.at.z

sums_push : (a one sum : Sums) (xs : List Body) (b : Body) → AreSums a xs → IsOne b one → IsPlus a one sum → AreSums sum (xs ++ b ∷ [])
sums_push a one sum xs b are is plus = record {
  count = plus.count ∙ ap (λ n. n + one.count) are.count ∙ ap (λ n. length xs + n) is.count ∙ sym (length_push' xs b);
  mass = plus.mass ∙ ap (λ n. n + one.mass) are.mass ∙ ap (λ n. total_mass xs + n) is.mass ∙ sym (sum_by_push (λ c. c.mass) xs b);
  x = plus.x ∙ ap (λ n. n + one.x) are.x ∙ ap (λ n. sum_by (λ c. c.mass * c.at.x) xs + n) is.x ∙ sym (sum_by_push (λ c. c.mass * c.at.x) xs b);
  y = plus.y ∙ ap (λ n. n + one.y) are.y ∙ ap (λ n. sum_by (λ c. c.mass * c.at.y) xs + n) is.y ∙ sym (sum_by_push (λ c. c.mass * c.at.y) xs b);
  z = plus.z ∙ ap (λ n. n + one.z) are.z ∙ ap (λ n. sum_by (λ c. c.mass * c.at.z) xs + n) is.z ∙ sym (sum_by_push (λ c. c.mass * c.at.z) xs b);
} where
  length_push' : (ys : List Body) (c : Body) → length (ys ++ c ∷ []) ≡ length ys + 1
  length_push' ys c = length-append ys (c ∷ [])

module _ {front : List Body} (are : AreSorted front) (key taken : ℕ) (first : first_body front (in_cell 21 key front) ≡ taken) where
  deepest_key : (now : ℕ) → IsNext 21 key front now → IsKeyAt 21 key
  deepest_key now next = subst (IsKeyAt 21) next.lies (key_is 21 next.body.at (omega arith))

  pub summed_more : (now : ℕ) (sums one sum : Sums) (body : Body) → now ≡ taken + sums.count → IsNext 21 key front now → slice_get front now ≡ Some body
      → IsOne body one → IsPlus sums one sum → AreSumsTo front key taken sums → AreSumsTo front key taken sum
  summed_more now sums one sum body at next there is plus so_far =
      let range = next_within are 21 key now (deepest_key now next) (next_holds 21 key now front next) next in
      let count : sum.count ≡ sums.count + 1 = plus.count ∙ ap (λ n. sums.count + n) is.count in
      record {
        are = subst (λ n. AreSums sum (take n (drop taken front))) (sym count)
            (subst (AreSums sum) (sym (ranged front taken sums.count body (subst (λ n. slice_get front n ≡ Some body) at there)))
            (sums_push sums one sum (take sums.count (drop taken front)) body so_far.are is plus));
        most = omega (arith, range.1, first, at, count);
      }

  pub summed_all : (now : ℕ) (sums : Sums) → now ≡ taken + sums.count → (some : IsNext 21 key front taken) → (IsNext 21 key front now → ⊥)
      → AreSumsTo front key taken sums → AreSums sums (in_cell 21 key front)
  summed_all now sums at some none so_far =
      let holds = next_holds 21 key taken front some in
      let is = deepest_key taken some in
      let all : sums.count ≡ length (in_cell 21 key front) = elim (cases_lt sums.count (length (in_cell 21 key front))) [
        | inl fewer ↦ absurd (none (next_some are 21 key now is holds (omega (arith, first, at)) (omega (arith, first, at, fewer))))
        | inr from ↦ (let most = so_far.most in omega arith)
      ] in
      let range = λ (f : Body → ℕ).
      ap (λ n. sum_by f (take n (drop taken front))) all
      ∙ ap (λ n. sum_by f (take (length (in_cell 21 key front)) (drop n front))) (sym first)
      ∙ ap (λ l. sum_by f (take (length (in_cell 21 key front)) (drop (first_body front (in_cell 21 key front)) l))) (sym are.sorted)
      ∙ range_sum f 21 key front is are.inside (some_length (in_cell 21 key front) holds) in
      record {
        count = all;
        mass = so_far.are.mass ∙ range (λ b. b.mass);
        x = so_far.are.x ∙ range (λ b. b.mass * b.at.x);
        y = so_far.are.y ∙ range (λ b. b.mass * b.at.y);
        z = so_far.are.z ∙ range (λ b. b.mass * b.at.z);
      }
