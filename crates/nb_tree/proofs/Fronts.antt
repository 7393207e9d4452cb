-- The front of a file of bodies, and a reader that goes through it.
use Rattle.std.proofs.Common.{◌≡◌, ℕ, ◌+◌, ◌-◌, ◌^◌, ◌<◌, ◌≤◌, Bool, true, false, cond, ◌&&◌, ◌||◌, eqb, ltb, List, length, Some, None, inl, inr, refl, sym, ap, subst, ◌∙◌, arith}
use Rattle.std.specs.Prelude.{◌⊎◌, ◌↔◌, Option, IfSome, IfNone, slice_get}
use Rattle.std.proofs.lemmas.Bool.{cases_lt, lt-ltb}
use Rattle.std.proofs.lemmas.Bool.Decides.{nat_tests}
use Rattle.std.proofs.lemmas.Option.{same_Some, slice_get_within, slice_get_past, get_or_from_slice_get}
use Rattle.nb_host.specs.declared.page_name.PageName.{PageName}
use Rattle.nb_model.specs.declared.body.Body.{Body}
use Rattle.nb_key.specs.Morton.{morton_key}
use Rattle.nb_record.specs.Records.{body_of}
use Rattle.nb_record.specs.Order.{by_key, precedes, record_of}
use Rattle.nb_record.proofs.Callers.{morton_key-lt}
use Rattle.nb_order.specs.Files.{page_of_body, HasBody}
use Rattle.nb_tree.specs.Fronts.{IsInOrder, IsFront}
use Rattle.nb_tree.specs.Refusals.{IsMisplaced}
use Rattle.nb_tree.specs.Passes.{Follows, inside_of, body_ahead}
use Rattle.nb_tree.specs.declared.reader.Ahead.{Ahead}

pub same_ahead : (a b : Ahead) → Some a ≡ Some b → a ≡ b
same_ahead a b is = same_Some a b is

-- ---- the order of two bodies

out_rank : (out : Bool) (m n : ℕ) → out ≡ true → n < 2 ^ 64 → ltb (cond false (2 ^ 64) 0 + n) (cond out (2 ^ 64) 0 + m) ≡ true
out_rank true m n is small = lt-ltb (0 + n) (2 ^ 64 + m) (omega arith)
out_rank false m n is small = absurd (cc)

-- a body in the box precedes one that has left it
pub out_follows : (a b : Body) → a.out ≡ false → b.out ≡ true → precedes by_key a b ≡ true
out_follows a b inside out =
    let first : ltb (by_key a) (by_key b) ≡ true =
    subst (λ o. ltb (cond o (2 ^ 64) 0 + morton_key a.at) (by_key b) ≡ true) (sym inside) (out_rank b.out (morton_key b.at) (morton_key a.at) out (morton_key-lt a)) in
    ap (λ t. t || (eqb (by_key a) (by_key b) && ltb a.id b.id)) first

-- ---- reading on

isnt_out : (n : Ahead) → n.body.out ≡ false → body_ahead (inside_of (Some n)) ≡ Some n.body
isnt_out n is = ap (λ t. body_ahead (cond t None (Some n))) is

is_out : (n : Ahead) → n.body.out ≡ true → body_ahead (inside_of (Some n)) ≡ None
is_out n is = ap (λ t. body_ahead (cond t None (Some n))) is

module _ {file : List ℕ} {count : ℕ} {front : List Body} (is : IsFront file count front) where
  -- what was read at an index up to the front's end is its body there
  pub read_at : (index : ℕ) (next : Option Ahead) → index ≤ length front → IfNone next (count ≤ index) → IfSome next (λ _. index < count)
      → IfSome next (λ _. HasBody file index) → IfSome next (λ n. n.body ≡ body_of (record_of file index))
      → (0 < index → precedes by_key (body_of (record_of file (index - 1))) (body_of (record_of file index)) ≡ true)
      → body_ahead (inside_of next) ≡ slice_get front index
  read_at index None within none some has body after =
      let most = is.most in
      sym (slice_get_past front index (omega arith))
  read_at index (Some n) within none some has body after = elim (cases_lt index (length front)) [
    | inl here ↦
        let held = is.first.held index here in
        let out : (body_of (record_of file index)).out ≡ false =
        subst (λ (b : Body). b.out ≡ false) (get_or_from_slice_get front index (body_of (record_of file index)) n.body held) (is.inside index n.body here) in
        isnt_out n (ap (λ (b : Body). b.out) body ∙ out) ∙ ap Some body ∙ sym held
    | inr behind ↦
        let last : index ≡ length front = omega arith in
        let out : (body_of (record_of file index)).out ≡ true =
        subst (λ j. IsInOrder file j → (body_of (record_of file j)).out ≡ true) (sym last) (is.ends (omega arith))
        (record { has = has; after = after }) in
        is_out n (ap (λ (b : Body). b.out) body ∙ out) ∙ sym (slice_get_past front index (omega arith))
  ]

  -- the body ahead is that of the file
  ahead_held : (r : ℕ) (a : Body) → slice_get front r ≡ Some a → a ≡ body_of (record_of file r)
  ahead_held r a there = same_Some a (body_of (record_of file r)) (sym there ∙ is.first.held r (slice_get_within front r a there))

  pub read_next : (taken : ℕ) (a : Body) (next : Option Ahead) → slice_get front taken ≡ Some a → IfNone next (count ≤ taken + 1)
      → IfSome next (λ _. taken + 1 < count) → IfSome next (λ _. HasBody file (taken + 1))
      → IfSome next (λ n. n.body ≡ body_of (record_of file (taken + 1))) → Follows a next
      → body_ahead (inside_of next) ≡ slice_get front (taken + 1)
  read_next taken a None there none some has body follows =
      let most = is.most in
      sym (slice_get_past front (taken + 1) (omega arith))
  read_next taken a (Some n) there none some has body follows =
      let within = slice_get_within front taken a there in
      let back : taken + 1 - 1 ≡ taken = omega arith in
      let before : a ≡ body_of (record_of file (taken + 1 - 1)) = ahead_held taken a there ∙ ap (λ j. body_of (record_of file j)) (sym back) in
      read_at (taken + 1) (Some n) (omega arith) none some has body
      (λ _. subst (λ (b : Body). precedes by_key b (body_of (record_of file (taken + 1))) ≡ true) before
      (subst (λ (b : Body). precedes by_key a b ≡ true) body follows))

-- a body that doesn't follow the one before it is misplaced, and is the first where all before it are in order
pub unfollowed : {file : List ℕ} {count : ℕ} (number taken : ℕ) (a : Body) (next : Option Ahead) → ((j : ℕ) → j ≤ taken → IsInOrder file j)
    → a ≡ body_of (record_of file taken)
    → IfSome next (λ _. taken + 1 < count) → IfSome next (λ n. n.body ≡ body_of (record_of file (taken + 1))) → (Follows a next → ⊥)
    → IsMisplaced number count file (page_of_body number (taken + 1))
unfollowed number taken a None first there some body fails = absurd (fails tt)
unfollowed {file = file} number taken a (Some n) first there some body fails =
    let back : taken + 1 - 1 ≡ taken = omega arith in
    let before : a ≡ body_of (record_of file (taken + 1 - 1)) = there ∙ ap (λ j. body_of (record_of file j)) (sym back) in
    record {
      index = taken + 1;
      below = some;
      page = refl;
      first = λ j below. first j (omega arith);
      cause = λ order. fails
          (subst (λ (b : Body). precedes by_key a b ≡ true) (sym body)
          (subst (λ (b : Body). precedes by_key b (body_of (record_of file (taken + 1))) ≡ true) (sym before) (order.after (omega arith))));
    }

some_inside : (m n : Ahead) (out : Bool) → cond out None (Some m) ≡ Some n → m ≡ n
some_inside m n true is = absurd (cc)
some_inside m n false is = same_Some m n is

-- a body that was read, and is in the box, is that of the file
pub held_ahead : (file : List ℕ) (index : ℕ) (read ahead : Option Ahead) → ahead ≡ inside_of read → IfSome read (λ n. n.body ≡ body_of (record_of file index))
    → (n : Ahead) → ahead ≡ Some n → n.body ≡ body_of (record_of file index)
held_ahead file index None ahead inside body n is = absurd (let none : None ≡ Some n = sym inside ∙ is in cc)
held_ahead file index (Some m) ahead inside body n is =
    subst (λ (k : Ahead). k.body ≡ body_of (record_of file index)) (some_inside m n m.body.out (sym inside ∙ is)) body

-- the first body that was read is in order
pub order_first : (file : List ℕ) (read ahead : Option Ahead) → ahead ≡ inside_of read → IfSome read (λ _. HasBody file 0)
    → (n : Ahead) → ahead ≡ Some n → (j : ℕ) → j ≤ 0 → IsInOrder file j
order_first file None ahead inside has n is j none = absurd (let never : None ≡ Some n = sym inside ∙ is in cc)
order_first file (Some m) ahead inside has n is j none =
    let zero : 0 ≡ j = omega arith in
    subst (IsInOrder file) zero (record { has = has; after = λ before. absurd (omega arith) })

-- one that follows the body ahead is too
pub order_next : (file : List ℕ) (taken : ℕ) (a : Body) (read ahead : Option Ahead) → a ≡ body_of (record_of file taken)
    → ahead ≡ inside_of read → IfSome read (λ _. HasBody file (taken + 1))
    → IfSome read (λ n. n.body ≡ body_of (record_of file (taken + 1))) → Follows a read
    → ((j : ℕ) → j ≤ taken → IsInOrder file j) → (n : Ahead) → ahead ≡ Some n → (j : ℕ) → j ≤ taken + 1 → IsInOrder file j
order_next file taken a None ahead there inside has body follows before n is j within =
    absurd (let never : None ≡ Some n = sym inside ∙ is in cc)
order_next file taken a (Some m) ahead there inside has body follows before n is j within = elim (cases_lt j (taken + 1)) [
  | inl below ↦ before j (omega arith)
  | inr from ↦
      let last : taken + 1 ≡ j = omega arith in
      let back : taken + 1 - 1 ≡ taken = omega arith in
      let earlier : a ≡ body_of (record_of file (taken + 1 - 1)) = there ∙ ap (λ j. body_of (record_of file j)) (sym back) in
      subst (IsInOrder file) last (record {
        has = has;
        after = λ _.
            subst (λ (b : Body). precedes by_key b (body_of (record_of file (taken + 1))) ≡ true) earlier
            (subst (λ (b : Body). precedes by_key a b ≡ true) body follows);
      })
]

-- a clause that holds where the host tells
pub told_some : {T : Type 0} {X : Type 0} (P : X → Type 0) (next : Option X) → T → IfSome next (λ x. T → P x) → IfSome next P
told_some P None told is = tt
told_some P (Some x) told is = is told

pub missing : (number count index : ℕ) (file : List ℕ) (name : PageName) → name ≡ page_of_body number index → index < count
    → ((j : ℕ) → j < index → IsInOrder file j) → (HasBody file index → ⊥)
    → IsMisplaced number count file name
missing number count index file name page below first none =
    record { index = index; below = below; page = page; first = first; cause = λ order. none order.has }
