-- The octants of a cell, one after the other, over a front of bodies in Morton order: where each begins, what those before it
-- sum to, and which the next body lies in.
use Rattle.std.proofs.Common.{◌≡◌, ℕ, zero, suc, ◌+◌, ◌-◌, ◌*◌, ◌<◌, ◌≤◌, Bool, true, eqb, List, [], ◌∷◌, length, take, get_or, Some, inl, inr, refl, sym, ap, subst, ◌∙◌, arith}
use Rattle.std.specs.Prelude.{◌≢◌, sum_by, slice_get, filter}
use Rattle.std.proofs.lemmas.Bool.{cases_lt, eq-eqb}
use Rattle.std.proofs.lemmas.List.Sums.{sum_by_more}
use Rattle.std.proofs.lemmas.Option.{slice_get-get_or, slice_get_within, same_Some}
use Rattle.nb_model.specs.declared.body.Body.{Body}
use Rattle.nb_model.specs.Octree.{in_octant}
use Rattle.nb_model.specs.Gravity.{octants}
use Rattle.nb_model.proofs.Facts.{sum_by-octants}
use Rattle.nb_key.specs.Morton.{key_at, IsKeyAt}
use Rattle.nb_key.proofs.Levels.{child_at}
use Rattle.nb_record.specs.Order.{by_key, sorted_by}
use Rattle.nb_record.specs.Cells.{first_body, in_cell}
use Rattle.nb_record.proofs.Callers.{Inside, range_within, first_of_octant, octant_of_cell, octant_number, index_in_cell, length-octants, either, filter_yes, filter_no}
use Rattle.nb_tree.proofs.Keys.{octant_within}

-- ---- a cell's bodies

pub some_length : (bs : List Body) → 0 < length bs → bs ≢ []
some_length bs some none = let long : length bs ≡ 0 = ap length none in omega arith

-- bodies in the box, in Morton order
pub record AreSorted (all : List Body) : Type 0 where
  pub inside : Inside all
  pub sorted : sorted_by by_key all ≡ all

-- the body at an index lies in the cell
pub record IsNext (level key : ℕ) (all : List Body) (taken : ℕ) : Type 0 where
  pub body : Body
  pub there : slice_get all taken ≡ Some body
  pub lies : key_at level body.at ≡ key

module _ {all : List Body} (are : AreSorted all) where
  -- an index is that of a body of the cell exactly in the cell's range
  pub next_within : (level key taken : ℕ) → IsKeyAt level key → 0 < length (in_cell level key all) → IsNext level key all taken
      → (first_body all (in_cell level key all) ≤ taken) × (taken < first_body all (in_cell level key all) + length (in_cell level key all))
  next_within level key taken is some next =
      (index_in_cell level key all is are.inside (some_length (in_cell level key all) some) taken next.body
      (ap (λ l. slice_get l taken) are.sorted ∙ next.there)).0 next.lies

  pub next_some : (level key taken : ℕ) → IsKeyAt level key → 0 < length (in_cell level key all)
      → first_body all (in_cell level key all) ≤ taken → taken < first_body all (in_cell level key all) + length (in_cell level key all)
      → IsNext level key all taken
  next_some level key taken is some from to =
      let within = range_within level key all is are.inside (some_length (in_cell level key all) some) in
      body_there (all_nonempty all taken (omega arith)) where
        all_nonempty : (bs : List Body) (n : ℕ) → n < length bs → (b : Body) × (slice_get bs n ≡ Some b)
        all_nonempty [] n below = absurd (omega arith)
        all_nonempty (b ∷ bs) n below = (get_or (b ∷ bs) n b, slice_get-get_or (b ∷ bs) n b below)

        body_there : (b : Body) × (slice_get all taken ≡ Some b) → IsNext level key all taken
        body_there (b, there) = record {
          body = b;
          there = there;
          lies = (index_in_cell level key all is are.inside (some_length (in_cell level key all) some) taken b
              (ap (λ l. slice_get l taken) are.sorted ∙ there)).1 (from, to);
        }

holds_some : (p : Body → Bool) (bs : List Body) (n : ℕ) (b : Body) → slice_get bs n ≡ Some b → p b ≡ true → 0 < length (filter p bs)
holds_some p [] n b there is = let within = slice_get_within [] n b there in absurd (omega arith)
holds_some p (c ∷ cs) zero b there is =
    let same : c ≡ b = same_Some c b there in
    subst (λ l. 0 < length l) (sym (filter_yes p c cs (ap p same ∙ is))) (omega arith)
holds_some p (c ∷ cs) (suc n) b there is =
    let more = holds_some p cs n b there is in
    elim (either (p c)) [
      | inl kept ↦ subst (λ l. 0 < length l) (sym (filter_yes p c cs kept)) (omega arith)
      | inr dropped ↦ subst (λ l. 0 < length l) (sym (filter_no p c cs dropped)) more
    ]

-- a cell in which the next body lies has a body
pub next_holds : (level key taken : ℕ) (all : List Body) → IsNext level key all taken → 0 < length (in_cell level key all)
next_holds level key taken all next =
    holds_some (λ b. eqb (key_at level b.at) key) all taken next.body next.there (eq-eqb (key_at level next.body.at) key next.lies)

-- ---- the octants of a cell

-- the bodies of an octant of the cell with this key: the octants are at this level
abbrev pub child_of : List Body → ℕ → ℕ → ℕ → List Body
child_of all next key octant = in_cell next (8 * key + octant) all

-- a sum over the first n octants
abbrev pub over_of : List Body → ℕ → ℕ → (List Body → ℕ) → ℕ → ℕ
over_of all next key f n = sum_by (λ octant. f (child_of all next key octant)) (take n octants)

module _ {all : List Body} (are : AreSorted all) (level next key : ℕ) (is : IsKeyAt level key) (up : next ≡ level + 1) (above : level < 21) where
  abbrev pub child : ℕ → List Body
  child octant = child_of all next key octant

  abbrev pub over : (List Body → ℕ) → ℕ → ℕ
  over f n = over_of all next key f n

  pub octant_is : (octant : ℕ) → octant < 8 → in_octant level (in_cell level key all) octant ≡ child octant
  octant_is octant below = octant_of_cell level key octant all below ∙ ap (λ l. in_cell l (8 * key + octant) all) (sym up)

  pub child_key : (octant : ℕ) → octant < 8 → IsKeyAt next (8 * key + octant)
  child_key octant below =
      let same : suc level ≡ next = omega arith in
      subst (λ l. IsKeyAt l (8 * key + octant)) same (child_at level key octant is above below)

  pub over_more : (f : List Body → ℕ) (n : ℕ) → n < 8 → over f (n + 1) ≡ over f n + f (child n)
  over_more f n below =
      sum_by_more (λ octant. f (child octant)) octants n 0 below ∙ ap (λ o. over f n + f (child o)) (octant_number n below)

  over_octants : (f : List Body → ℕ) (n : ℕ) → n ≤ 8
      → over f n ≡ sum_by (λ octant. f (in_octant level (in_cell level key all) octant)) (take n octants)
  over_octants f zero within = refl
  over_octants f (suc n) within =
      let next_one : suc n ≡ n + 1 = omega arith in
      let g = λ (octant : ℕ). f (in_octant level (in_cell level key all) octant) in
      let more = over_more f n (omega arith) in
      let step : sum_by g (take (n + 1) octants) ≡ sum_by g (take n octants) + g n =
      sum_by_more g octants n 0 (omega arith) ∙ ap (λ o. sum_by g (take n octants) + g o) (octant_number n (omega arith)) in
      let last : g n ≡ f (child n) = ap f (octant_is n (omega arith)) in
      let rest = over_octants f n (omega arith) in
      let one : over f (suc n) ≡ over f (n + 1) = ap (over f) next_one in
      let other : sum_by g (take (suc n) octants) ≡ sum_by g (take (n + 1) octants) = ap (λ m. sum_by g (take m octants)) next_one in
      omega (arith, more, step, last, rest, one, other)

  pub over_all : (f : Body → ℕ) → over (sum_by f) 8 ≡ sum_by f (in_cell level key all)
  over_all f = over_octants (sum_by f) 8 (omega arith) ∙ sum_by-octants f level (in_cell level key all)

  pub over_count : over length 8 ≡ length (in_cell level key all)
  over_count = over_octants length 8 (omega arith) ∙ length-octants level (in_cell level key all)

  pub over_mono : (m more : ℕ) → m + more ≤ 8 → over length m ≤ over length (m + more)
  over_mono m zero within = let same : m + zero ≡ m = omega arith in let one = ap (over length) same in omega arith
  over_mono m (suc more) within =
      let same : m + suc more ≡ m + more + 1 = omega arith in
      let one : over length (m + suc more) ≡ over length (m + more + 1) = ap (over length) same in
      let step = over_more length (m + more) (omega arith) in
      let rest = over_mono m more (omega arith) in
      omega (arith, one, step, rest)

  -- where an octant that isn't empty begins
  first_child : (octant : ℕ) → octant < 8 → 0 < length (child octant)
      → first_body all (child octant) ≡ first_body all (in_cell level key all) + over length octant
  first_child octant below some =
      let same = octant_is octant below in
      let full : in_octant level (in_cell level key all) octant ≢ [] = λ none. some_length (child octant) some (sym same ∙ none) in
      let first = first_of_octant level key octant all is above below are.inside full in
      let sums = over_octants length octant (omega arith) in
      let at : first_body all (in_octant level (in_cell level key all) octant) ≡ first_body all (child octant) = ap (first_body all) same in
      omega (arith, first, sums, at)

  module _ (taken : ℕ) where
    -- the octants before this one were gone through
    abbrev IsPast : ℕ → Type 0
    IsPast n = taken ≡ first_body all (in_cell level key all) + over length n

    pub empty_past : (n : ℕ) → n < 8 → IsPast n → (IsNext next (8 * key + n) all taken → ⊥) → length (child n) ≡ 0
    empty_past n below past none = elim (cases_lt 0 (length (child n))) [
      | inl some ↦
          let first = first_child n below some in
          absurd (none (next_some are next (8 * key + n) taken (child_key n below) some (omega (arith, first, past)) (omega (arith, first, past, some))))
      | inr empty ↦ omega arith
    ]

    pub begins : (octant : ℕ) → octant < 8 → IsPast octant → IsNext next (8 * key + octant) all taken
        → first_body all (child octant) ≡ taken
    begins octant below past lies = first_child octant below (next_holds next (8 * key + octant) taken all lies) ∙ sym past

    pub isnt_past : (n octant : ℕ) → n ≤ 8 → octant < 8 → IsPast n → IsNext next (8 * key + octant) all taken → n ≤ octant
    isnt_past n octant within below past lies = elim (cases_lt octant n) [
      | inl before ↦
          let some = next_holds next (8 * key + octant) taken all lies in
          let range = next_within are next (8 * key + octant) taken (child_key octant below) some lies in
          let first = first_child octant below some in
          let more = over_more length octant below in
          let up_to : octant + 1 + (n - (octant + 1)) ≡ n = omega arith in
          let mono = over_mono (octant + 1) (n - (octant + 1)) (omega arith) in
          let to : over length (octant + 1 + (n - (octant + 1))) ≡ over length n = ap (over length) up_to in
          absurd (omega (arith, range.1, first, more, mono, to, past))
      | inr from ↦ from
    ]

    -- octants of one cell are told apart by the next body
    pub one_next : (n octant : ℕ) → IsNext next (8 * key + n) all taken → IsNext next (8 * key + octant) all taken → n ≡ octant
    one_next n octant one other =
        let same : one.body ≡ other.body = same_Some one.body other.body (sym one.there ∙ other.there) in
        let keys : 8 * key + n ≡ 8 * key + octant = sym one.lies ∙ ap (λ (b : Body). key_at next b.at) same ∙ other.lies in
        omega arith

    pub next_in_cell : (octant : ℕ) → octant < 8 → IsNext next (8 * key + octant) all taken → IsNext level key all taken
    next_in_cell octant below lies =
        let at : suc level ≡ next = omega arith in
        record {
          body = lies.body;
          there = lies.there;
          lies = octant_within level key octant lies.body.at (ap (λ l. key_at l lies.body.at) at ∙ lies.lies) (omega arith);
        }
