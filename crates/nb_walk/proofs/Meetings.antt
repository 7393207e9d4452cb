-- What tallies take of a page that all their walks look at.
use Rattle.std.proofs.Common.{◌≡◌, ℕ, ◌+◌, ◌-◌, ◌*◌, ◌/◌, ◌%◌, ◌^◌, ◌<◌, ◌≤◌, Bool, true, false, ◌&&◌, eqb, List, [], ◌∷◌, ◌++◌, length, get_or, set, sym, ap, ◌∙◌, refl, arith, subst, inl, inr}
use Rattle.std.specs.Prelude.{◌≢◌, ◌⊎◌, ◌==◌, if◌then◌else◌, All}
use Rattle.std.proofs.lemmas.Bool.{cond-true, cond-false, eq-eqb, ne_eqb, eqb-true, and_parts}
use Rattle.std.proofs.lemmas.Bool.Decides.{eqb_tells}
use Rattle.std.proofs.lemmas.Nat.{pow_below}
use Rattle.nb_model.specs.declared.body.At.{At}
use Rattle.nb_model.specs.declared.body.Body.{Body}
use Rattle.nb_model.specs.declared.params.Params.{Params}
use Rattle.nb_model.specs.Valid.{IsInBox}
use Rattle.nb_model.specs.Vector.{zero_vector}
use Rattle.nb_key.specs.Morton.{morton_key}
use Rattle.nb_record.specs.declared.cell.Cell.{Cell}
use Rattle.nb_walk.specs.declared.shared.SharedItem.{SharedItem}
use Rattle.nb_walk.specs.declared.tally.Tally.{Tally}
use Rattle.nb_walk.specs.declared.term.Term.{Term}
use Rattle.nb_walk.specs.declared.term.Term.TheVariants as term
use Rattle.nb_walk.specs.Angle.{by_angle}
use Rattle.nb_walk.specs.Group.{Meets, AddsTo}
use Rattle.nb_walk.specs.Part.{IsTally, KeepsTally}
use Rattle.nb_walk.specs.Running.{EachAt}
use Rattle.nb_walk.specs.Shared.{in_set, is_left_to, IsShared}
use Rattle.nb_walk.specs.Shown.{IsAtMost}
use Rattle.nb_walk.specs.Taking.{Adds}
use Rattle.nb_walk.proofs.Bits.{is_below}
use Rattle.nb_walk.proofs.Runs.{SameFrom, each_more, each_stays, each_all, item_at}
use Rattle.nb_walk.proofs.Tallies.{adds_none, adds_body, adds_more}

-- ---- the walks of a block

-- the same item, left to these walks of its block
abbrev pub of_set : SharedItem → ℕ → SharedItem
of_set e walks = record { item = e.item; block = e.block; walks = walks }

pub left_here : (e : SharedItem) (i : ℕ) → e.block * 64 ≤ i → i < e.block * 64 + 64 → is_left_to i e ≡ in_set e.walks (i - e.block * 64)
left_here e i from below =
    let block : e.block ≡ i / 64 = omega arith in
    let place : i % 64 ≡ i - e.block * 64 = omega arith in
    ap (λ b. b && in_set e.walks (i % 64)) (eq-eqb e.block (i / 64) block) ∙ ap (in_set e.walks) place

pub left_out : (e : SharedItem) (i : ℕ) → e.block ≢ i / 64 → is_left_to i e ≡ false
left_out e i other = ap (λ b. b && in_set e.walks (i % 64)) (ne_eqb e.block (i / 64) other)

pub left_block : (e : SharedItem) (i : ℕ) → is_left_to i e ≡ true → e.block ≡ i / 64
left_block e i is = eqb-true e.block (i / 64) (and_parts (eqb e.block (i / 64)) (in_set e.walks (i % 64)) is).0

pub left_place : (e : SharedItem) (i : ℕ) → is_left_to i e ≡ true → in_set e.walks (i % 64) ≡ true
left_place e i is = (and_parts (eqb e.block (i / 64)) (in_set e.walks (i % 64)) is).1

pub shared_first : (n : ℕ) (e : SharedItem) → IsShared n e → e.block * 64 < n
shared_first n e shared =
    let block = left_block e shared.walk shared.has in
    let within = shared.below shared.walk shared.has in
    omega arith

-- a set of the first walks of the block has only those
pub left_below : (e : SharedItem) (walks i k : ℕ) → walks < 2 ^ (i - e.block * 64) → e.block * 64 ≤ i → is_left_to k (of_set e walks) ≡ true → k < i
left_below e walks i k below from is =
    let block = left_block (of_set e walks) k is in
    let place = is_below walks (i - e.block * 64) (k % 64) below (left_place (of_set e walks) k is) in
    omega arith

-- ---- a set with one walk more

abbrev pub IsWith : ℕ → ℕ → ℕ → Type 0
IsWith walks k more = (j : ℕ) → in_set more j ≡ (if j == k then true else in_set walks j)

pub left_with_same : (e : SharedItem) (walks more i : ℕ) → IsWith walks (i - e.block * 64) more → e.block * 64 ≤ i → i < e.block * 64 + 64 → is_left_to i (of_set e more) ≡ true
left_with_same e walks more i sets from below =
    let k = i - e.block * 64 in
    left_here (of_set e more) i from below ∙ sets k ∙ cond-true (eqb k k) true (in_set walks k) (eq-eqb k k refl)

pub left_with_other : (e : SharedItem) (walks more i k : ℕ) → IsWith walks (i - e.block * 64) more → e.block * 64 ≤ i → k ≢ i → is_left_to k (of_set e more) ≡ is_left_to k (of_set e walks)
left_with_other e walks more i k sets from other = elim (eqb_tells e.block (k / 64)) [
  | inl here ↦
      let block = here.1 in
      let place : k % 64 ≢ i - e.block * 64 = λ same. other (omega arith) in
      ap (λ b. (e.block == k / 64) && b)
      (sets (k % 64) ∙ cond-false (eqb (k % 64) (i - e.block * 64)) true (in_set walks (k % 64)) (ne_eqb (k % 64) (i - e.block * 64) place))
  | inr out ↦ left_out (of_set e more) k out.1 ∙ sym (left_out (of_set e walks) k out.1)
]

pub below_more : (walks first i : ℕ) → first ≤ i → walks < 2 ^ (i - first) → walks < 2 ^ (i + 1 - first)
below_more walks first i from below =
    let more = pow_below (i - first) (i + 1 - first) (omega arith) in
    omega arith

pub below_with : (walks first i : ℕ) → first ≤ i → walks < 2 ^ ((i - first) + 1) → walks < 2 ^ (i + 1 - first)
below_with walks first i from below =
    let same : (i - first) + 1 ≡ i + 1 - first = omega arith in
    subst (λ n. walks < 2 ^ n) same below

-- ---- tallies that went on

pub keeps_same : (params : Params) (most : ℕ) (a b : Tally) → IsTally params a → b ≡ a → KeepsTally params most a b
keeps_same params most a b tally same = subst (KeepsTally params most a) (sym same) (record {
  target = refl;
  key = refl;
  range = tally.range;
  within = λ few. few;
})

pub keeps_added : (params : Params) (most : ℕ) (terms : List Term) (a b : Tally) → Adds params terms a b → IsAtMost (params.grav * b.taken) b.sum → b.taken ≤ most → KeepsTally params most a b
keeps_added params most terms a b added range few = record {
  target = added.target;
  key = added.key;
  range = range;
  within = λ before. few;
}

pub keeps_then : (params : Params) (most : ℕ) (a b c : Tally) → KeepsTally params most a b → KeepsTally params most b c → KeepsTally params most a c
keeps_then params most a b c first second = record {
  target = second.target ∙ first.target;
  key = second.key ∙ first.key;
  range = second.range;
  within = λ few. second.within (first.within few);
}

pub kept_tally : (params : Params) (most : ℕ) (a b : Tally) → IsTally params a → KeepsTally params most a b → IsTally params b
kept_tally params most a b tally kept = record {
  target = subst IsInBox (sym kept.target) tally.target;
  key = kept.key ∙ tally.key ∙ ap morton_key (sym kept.target);
  range = kept.range;
}

-- the tally at the index of the loop, before its turn
pub tally_at : (params : Params) (old now : List Tally) (i : ℕ) (e : Tally) → All (IsTally params) old → length now ≡ length old → i < length now → SameFrom i old now → IsTally params (get_or now i e)
tally_at params old now i e tallies long within same = subst (IsTally params) (sym (item_at old now i e within same e)) (tallies i e (omega arith))

-- the tally that a slice's index has where there is none
abbrev pub no_tally : Tally
no_tally = record { target = record { x = 0; y = 0; z = 0 }; key = 0; sum = zero_vector; taken = 0 }

-- the same of the tally as it was
pub heavy_at : (most : ℕ) (a b : Tally) (mass m : ℕ) → a ≡ b → mass ≡ m → most < a.taken + mass → most < b.taken + m
heavy_at most a b mass m same mass_is heavy =
    subst (λ t. most < t.taken + m) same (subst (λ n. most < a.taken + n) mass_is heavy)

pub adds_at : (params : Params) (a b c : Tally) (mass m : ℕ) (centre x : At) → a ≡ b → mass ≡ m → centre ≡ x → Adds params (term.Cell mass centre ∷ []) a c → Adds params (term.Cell m x ∷ []) b c
adds_at params a b c mass m centre x same mass_is centre_is added =
    subst (λ t. Adds params (term.Cell m x ∷ []) t c) same
    (subst (λ n. Adds params (term.Cell n x ∷ []) a c) mass_is
    (subst (λ p. Adds params (term.Cell mass p ∷ []) a c) centre_is added))

-- ---- what a walk does with a cell

abbrev pub Meeting : Params → Cell → SharedItem → ℕ → ℕ → Tally → Tally → Type 0
Meeting params cell e opened i a b = Meets params cell (is_left_to i e) (is_left_to i (of_set e opened)) a b

pub meets_opens : (params : Params) (cell : Cell) (has opens : Bool) (a b : Tally) → has ≡ true → opens ≡ true → by_angle params a.target cell.key cell.centre ≡ false → b ≡ a → Meets params cell has opens a b
meets_opens params cell has opens a b has_is opens_is near same =
    subst (λ h. Meets params cell h opens a b) (sym has_is) (subst (λ o. Meets params cell true o a b) (sym opens_is) (near, same))

pub meets_takes : (params : Params) (cell : Cell) (has opens : Bool) (a b : Tally) → has ≡ true → opens ≡ false → by_angle params a.target cell.key cell.centre ≡ true → Adds params (term.Cell cell.mass cell.centre ∷ []) a b → Meets params cell has opens a b
meets_takes params cell has opens a b has_is opens_is far added =
    subst (λ h. Meets params cell h opens a b) (sym has_is) (subst (λ o. Meets params cell true o a b) (sym opens_is) (far, added))

pub meets_not : (params : Params) (cell : Cell) (has opens : Bool) (a b : Tally) → has ≡ false → opens ≡ false → b ≡ a → Meets params cell has opens a b
meets_not params cell has opens a b has_is opens_is same = subst (λ h. Meets params cell h opens a b) (sym has_is) (opens_is, same)

-- the answer of the opening criterion, told of the tally as it was
pub angle_at : (params : Params) (a b : Tally) (key k : ℕ) (centre c : At) (r answer : Bool) → r ≡ by_angle params a.target key centre → r ≡ answer → a ≡ b → key ≡ k → centre ≡ c → by_angle params b.target k c ≡ answer
angle_at params a b key k centre c r answer is answer_is same key_is centre_is =
    ap (λ t. by_angle params t.target k c) (sym same)
    ∙ ap (λ n. by_angle params a.target n c) (sym key_is)
    ∙ ap (λ x. by_angle params a.target key x) (sym centre_is)
    ∙ sym is
    ∙ answer_is

-- the walks before the block
pub met_none : (params : Params) (cell : Cell) (e : SharedItem) (old : List Tally) → EachAt (Meeting params cell e 0) (e.block * 64) old old
met_none params cell e old k d below =
    let out : e.block ≢ k / 64 = λ same. omega arith in
    meets_not params cell (is_left_to k e) (is_left_to k (of_set e 0)) (get_or old k d) (get_or old k d) (left_out e k out) (left_out (of_set e 0) k out) refl

pub met_opens : (params : Params) (cell : Cell) (e : SharedItem) (opened more i : ℕ) (old now : List Tally)
    → EachAt (Meeting params cell e opened) i old now → SameFrom i old now → IsWith opened (i - e.block * 64) more → e.block * 64 ≤ i → i < e.block * 64 + 64
    → is_left_to i e ≡ true → ((d : Tally) → by_angle params (get_or old i d).target cell.key cell.centre ≡ false) → EachAt (Meeting params cell e more) (i + 1) old now
met_opens params cell e opened more i old now met rest sets from below has near =
    each_stays (Meeting params cell e more) old now i
    (λ k d before.
    let other : k ≢ i = omega arith in
    subst (λ o. Meets params cell (is_left_to k e) o (get_or old k d) (get_or now k d)) (sym (left_with_other e opened more i k sets from other)) (met k d before))
    (λ d. meets_opens params cell (is_left_to i e) (is_left_to i (of_set e more)) (get_or old i d) (get_or now i d) has (left_with_same e opened more i sets from below) (near d) (rest i d (omega arith)))

-- no walk from i on is in the set
left_later : (e : SharedItem) (opened i : ℕ) → opened < 2 ^ (i - e.block * 64) → e.block * 64 ≤ i → is_left_to i (of_set e opened) ≡ false
left_later e opened i below from = by_answer (is_left_to i (of_set e opened)) refl where
  by_answer : (b : Bool) → is_left_to i (of_set e opened) ≡ b → is_left_to i (of_set e opened) ≡ false
  by_answer true is = let less = left_below e opened i i below from is in absurd (omega arith)
  by_answer false is = is

pub met_takes : (params : Params) (cell : Cell) (e : SharedItem) (opened i : ℕ) (old now : List Tally) (b : Tally)
    → EachAt (Meeting params cell e opened) i old now → opened < 2 ^ (i - e.block * 64) → e.block * 64 ≤ i → i < length now
    → is_left_to i e ≡ true → ((d : Tally) → by_angle params (get_or old i d).target cell.key cell.centre ≡ true)
    → ((d : Tally) → Adds params (term.Cell cell.mass cell.centre ∷ []) (get_or old i d) b) → EachAt (Meeting params cell e opened) (i + 1) old (set now i b)
met_takes params cell e opened i old now b met below from within has far added =
    each_more (Meeting params cell e opened) old now i b met within
    (λ d. meets_takes params cell (is_left_to i e) (is_left_to i (of_set e opened)) (get_or old i d) b has (left_later e opened i below from) (far d) (added d))

pub met_not : (params : Params) (cell : Cell) (e : SharedItem) (opened i : ℕ) (old now : List Tally)
    → EachAt (Meeting params cell e opened) i old now → SameFrom i old now → opened < 2 ^ (i - e.block * 64) → e.block * 64 ≤ i
    → is_left_to i e ≡ false → EachAt (Meeting params cell e opened) (i + 1) old now
met_not params cell e opened i old now met rest below from has =
    each_stays (Meeting params cell e opened) old now i met
    (λ d. meets_not params cell (is_left_to i e) (is_left_to i (of_set e opened)) (get_or old i d) (get_or now i d) has (left_later e opened i below from) (rest i d (omega arith)))

-- the walks behind the block, or behind all
pub met_all : (params : Params) (cell : Cell) (e : SharedItem) (opened i n : ℕ) (old now : List Tally)
    → EachAt (Meeting params cell e opened) i old now → SameFrom i old now → (n ≤ i) ⊎ (e.block * 64 + 64 ≤ i) → EachAt (Meeting params cell e opened) n old now
met_all params cell e opened i n old now met rest end =
    each_all (Meeting params cell e opened) old now i n met rest
    (λ k d from below. elim end [
      | inl all ↦ absurd (omega arith)
      | inr block ↦
          let out : e.block ≢ k / 64 = λ same. omega arith in
          meets_not params cell (is_left_to k e) (is_left_to k (of_set e opened)) (get_or old k d) (get_or old k d) (left_out e k out) (left_out (of_set e opened) k out) refl
    ])

-- ---- what a walk adds

abbrev pub Adding : Params → SharedItem → List Term → ℕ → Tally → Tally → Type 0
Adding params e terms i a b = AddsTo params (is_left_to i e) terms a b

pub adds_to : (params : Params) (has : Bool) (terms : List Term) (a b : Tally) → has ≡ true → Adds params terms a b → AddsTo params has terms a b
adds_to params has terms a b has_is added = subst (λ h. AddsTo params h terms a b) (sym has_is) added

pub adds_not : (params : Params) (has : Bool) (terms : List Term) (a b : Tally) → has ≡ false → b ≡ a → AddsTo params has terms a b
adds_not params has terms a b has_is same = subst (λ h. AddsTo params h terms a b) (sym has_is) same

pub adds_to_none : (params : Params) (has : Bool) (a : Tally) → AddsTo params has [] a a
adds_to_none params true a = adds_none params a
adds_to_none params false a = refl

pub adds_to_body : (params : Params) (has : Bool) (b : Body) (mass : ℕ) (a c : Tally) → mass ≡ b.mass → AddsTo params has (term.Cell mass b.at ∷ []) a c → AddsTo params has (term.Body b ∷ []) a c
adds_to_body params true b mass a c same added = adds_body params b mass a c same added
adds_to_body params false b mass a c same stays = stays

pub adds_to_more : (params : Params) (has : Bool) (xs ys : List Term) (a b c : Tally) → AddsTo params has xs a b → AddsTo params has ys b c → AddsTo params has (xs ++ ys) a c
adds_to_more params true xs ys a b c first second = adds_more params xs ys a b c first second
adds_to_more params false xs ys a b c first second = second ∙ first

pub added_none : (params : Params) (e : SharedItem) (terms : List Term) (old : List Tally) → EachAt (Adding params e terms) (e.block * 64) old old
added_none params e terms old k d below =
    let out : e.block ≢ k / 64 = λ same. omega arith in
    adds_not params (is_left_to k e) terms (get_or old k d) (get_or old k d) (left_out e k out) refl

pub added_one : (params : Params) (e : SharedItem) (terms : List Term) (i : ℕ) (old now : List Tally) (b : Tally)
    → EachAt (Adding params e terms) i old now → i < length now → is_left_to i e ≡ true → ((d : Tally) → Adds params terms (get_or old i d) b) → EachAt (Adding params e terms) (i + 1) old (set now i b)
added_one params e terms i old now b each within has added =
    each_more (Adding params e terms) old now i b each within (λ d. adds_to params (is_left_to i e) terms (get_or old i d) b has (added d))

pub added_not : (params : Params) (e : SharedItem) (terms : List Term) (i : ℕ) (old now : List Tally)
    → EachAt (Adding params e terms) i old now → SameFrom i old now → is_left_to i e ≡ false → EachAt (Adding params e terms) (i + 1) old now
added_not params e terms i old now each rest has =
    each_stays (Adding params e terms) old now i each (λ d. adds_not params (is_left_to i e) terms (get_or old i d) (get_or now i d) has (rest i d (omega arith)))

pub added_all : (params : Params) (e : SharedItem) (terms : List Term) (i n : ℕ) (old now : List Tally)
    → EachAt (Adding params e terms) i old now → SameFrom i old now → (n ≤ i) ⊎ (e.block * 64 + 64 ≤ i) → EachAt (Adding params e terms) n old now
added_all params e terms i n old now each rest end =
    each_all (Adding params e terms) old now i n each rest
    (λ k d from below. elim end [
      | inl all ↦ absurd (omega arith)
      | inr block ↦
          let out : e.block ≢ k / 64 = λ same. omega arith in
          adds_not params (is_left_to k e) terms (get_or old k d) (get_or old k d) (left_out e k out) refl
    ])
