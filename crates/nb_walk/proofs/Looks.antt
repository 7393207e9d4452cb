-- One look at a page: what it finds of a key, and what it leaves of an item.
use Rattle.std.proofs.Common.{◌≡◌, ℕ, ◌+◌, ◌-◌, ◌/◌, ◌%◌, ◌<◌, ◌≤◌, cond, eqb, leb, ltb, not, ◌||◌, Bool, true, false, Result, Ok, Err, List, [], ◌∷◌, ◌++◌, append-nil, Option, Some, None, sym, ap, ◌∙◌, refl, subst, inl, inr}
use Rattle.std.proofs.lemmas.Bool.{cond-true, cond-false, lt-ltb, le-ltb}
use Rattle.nb_record.specs.declared.answer.Look.{Look}
use Rattle.nb_record.specs.declared.answer.Look.TheVariants as look
use Rattle.nb_record.specs.declared.cell.Cell.{Cell}
use Rattle.nb_record.specs.declared.header.PageError.{PageError}
use Rattle.nb_record.specs.declared.header.PageError.TheVariants as error
use Rattle.nb_record.specs.declared.sizes.TheConstants.{BODIES_PER_PAGE, CELLS_PER_PAGE}
use Rattle.nb_record.specs.declared.tree.Tree.{Tree}
use Rattle.nb_record.specs.Fields.{u64_at}
use Rattle.nb_record.specs.Looking.{index_of_key, IsLook, IsLookAt, IsLookOn}
use Rattle.nb_record.specs.Pages.{page_next, read_cell_page}
use Rattle.nb_record.specs.Records.{cell_record, cell_of}
use Rattle.nb_walk.specs.declared.item.Item.{Item}
use Rattle.nb_walk.specs.declared.item.Item.TheVariants as item
use Rattle.nb_walk.specs.Items.{chain_page}
use Rattle.nb_walk.specs.Looks.{opened_items, later_bodies, next_bodies, IsRestOfCell, IsOneLook}
use Rattle.nb_walk.specs.Sight.{HasCell, HasNextPage}

-- ---- what a look finds

ok_same : (a b c d : Bool) (bytes other : List ℕ) → cond a (Err error.Number) (cond b (Err error.Count) (cond c (Err error.Next) (cond d (Err error.Next) (Ok bytes)))) ≡ Ok other → bytes ≡ other
ok_same true b c d bytes other is = absurd (cc)
ok_same false true c d bytes other is = absurd (cc)
ok_same false false true d bytes other is = absurd (cc)
ok_same false false false true bytes other is = absurd (cc)
ok_same false false false false bytes other is = cc

read_same : (page : ℕ) (bytes other : List ℕ) → read_cell_page page bytes ≡ Ok other → bytes ≡ other
read_same page bytes other is = ok_same (not (eqb (u64_at 0 bytes) page)) (not (leb (u64_at 8 bytes) CELLS_PER_PAGE)) (not (eqb (u64_at 16 bytes) 0 || ltb page (u64_at 16 bytes))) (not (eqb (u64_at 24 bytes) 0)) bytes other is

not_found : (t : Bool) (next : ℕ) (cell : Cell) → cond t look.Gone (look.Next next) ≡ look.Found cell → ⊥
not_found true next cell is = cc
not_found false next cell is = cc

was_next : (t : Bool) (n m : ℕ) → cond t look.Gone (look.Next n) ≡ look.Next m → n ≡ m
was_next true n m is = absurd (cc)
was_next false n m is = cc

pub has_cell : (key page : ℕ) (shown : Option (List ℕ)) (answer : Look) (cell : Cell) → IsLook key page shown answer → answer ≡ look.Found cell → HasCell shown key cell
has_cell key page None answer cell is e = absurd (let both = sym is ∙ e in cc)
has_cell key page (Some bytes) answer cell is e = on_read (read_cell_page page bytes) refl is where
  on_index : (other : List ℕ) → bytes ≡ other → (at : Option ℕ) → index_of_key key other ≡ at → IsLookOn page other at answer → HasCell (Some bytes) key cell
  on_index other same (Some i) there (inl found) =
      let own : cell_of (cell_record i other) ≡ cell = (let both = sym found.1 ∙ e in cc) in
      record {
        bytes = bytes;
        is = refl;
        at = i;
        found = subst (λ b. index_of_key key b ≡ Some i) (sym same) there;
        cell_is = subst (λ b. cell_of (cell_record i b) ≡ cell) (sym same) own;
      }
  on_index other same (Some i) there (inr bad) = absurd (let both = sym bad.1 ∙ e in cc)
  on_index other same None there answers = absurd (not_found (eqb (page_next other) 0) (page_next other) cell (sym answers ∙ e))

  on_read : (read : Result (List ℕ) PageError) → read_cell_page page bytes ≡ read → IsLookAt key page read answer → HasCell (Some bytes) key cell
  on_read (Err why) read answers = absurd (let both = sym answers ∙ e in cc)
  on_read (Ok other) read answers = on_index other (read_same page bytes other read) (index_of_key key other) refl answers

pub has_next : (key page : ℕ) (shown : Option (List ℕ)) (answer : Look) (next : ℕ) → IsLook key page shown answer → answer ≡ look.Next next → HasNextPage shown key next
has_next key page None answer next is e = absurd (let both = sym is ∙ e in cc)
has_next key page (Some bytes) answer next is e = on_read (read_cell_page page bytes) refl is where
  on_index : (other : List ℕ) → bytes ≡ other → (at : Option ℕ) → index_of_key key other ≡ at → IsLookOn page other at answer → HasNextPage (Some bytes) key next
  on_index other same (Some i) there (inl found) = absurd (let both = sym found.1 ∙ e in cc)
  on_index other same (Some i) there (inr bad) = absurd (let both = sym bad.1 ∙ e in cc)
  on_index other same None there answers = record {
    bytes = bytes;
    is = refl;
    lacks = subst (λ b. index_of_key key b ≡ None) (sym same) there;
    next_is = subst (λ b. page_next b ≡ next) (sym same) (was_next (eqb (page_next other) 0) (page_next other) next (sym answers ∙ e));
  }

  on_read : (read : Result (List ℕ) PageError) → read_cell_page page bytes ≡ read → IsLookAt key page read answer → HasNextPage (Some bytes) key next
  on_read (Err why) read answers = absurd (let both = sym answers ∙ e in cc)
  on_read (Ok other) read answers = on_index other (read_same page bytes other read) (index_of_key key other) refl answers

-- ---- what it leaves

pub later_some : (from count here : ℕ) → here ≡ BODIES_PER_PAGE - from % BODIES_PER_PAGE → here < count → later_bodies from count ≡ item.Bodies (from + here) (count - here) ∷ []
later_some from count here same more =
    let most = BODIES_PER_PAGE - from % BODIES_PER_PAGE in
    cond-true (ltb most count) (item.Bodies (from + most) (count - most) ∷ []) [] (lt-ltb most count (subst (λ h. h < count) same more))
    ∙ ap (λ h. item.Bodies (from + h) (count - h) ∷ []) (sym same)

pub later_none : (from count : ℕ) → count ≤ BODIES_PER_PAGE - from % BODIES_PER_PAGE → later_bodies from count ≡ []
later_none from count few =
    let most = BODIES_PER_PAGE - from % BODIES_PER_PAGE in
    cond-false (ltb most count) (item.Bodies (from + most) (count - most) ∷ []) [] (le-ltb most count few)

pub next_some : (from count : ℕ) → 1 < count → next_bodies from count ≡ item.Bodies (from + 1) (count - 1) ∷ []
next_some from count more = cond-true (ltb 1 count) (item.Bodies (from + 1) (count - 1) ∷ []) [] (lt-ltb 1 count more)

pub next_none : (from count : ℕ) → count ≤ 1 → next_bodies from count ≡ []
next_none from count few = cond-false (ltb 1 count) (item.Bodies (from + 1) (count - 1) ∷ []) [] (le-ltb 1 count few)

module _ (of_bodies : ℕ → ℕ → List Item) (cells bodies_shown : ℕ → Option (List ℕ)) (tree : Tree) where
  module _ (front new : List Item) (key page : ℕ) where
    abbrev LooksAtCell : Type 0
    LooksAtCell = IsOneLook of_bodies cells bodies_shown tree (front ++ item.Cell key page ∷ []) new

    pub look_opened : (cell : Cell) → HasCell (cells (chain_page tree.bits key page)) key cell → new ≡ front ++ opened_items cell → LooksAtCell
    look_opened cell has left = record {
      front = front;
      item = item.Cell key page;
      next = refl;
      bytes = has.bytes;
      shown = has.is;
      more = opened_items cell;
      left = left;
      leaves = subst (λ at. IsRestOfCell key has.bytes at (opened_items cell)) (sym has.found) (inr (ap opened_items (sym has.cell_is)));
    }

    pub look_accepted : (cell : Cell) → HasCell (cells (chain_page tree.bits key page)) key cell → new ≡ front → LooksAtCell
    look_accepted cell has left = record {
      front = front;
      item = item.Cell key page;
      next = refl;
      bytes = has.bytes;
      shown = has.is;
      more = [];
      left = left ∙ sym (append-nil front);
      leaves = subst (λ at. IsRestOfCell key has.bytes at []) (sym has.found) (inl refl);
    }

    pub look_passed : (next : ℕ) → HasNextPage (cells (chain_page tree.bits key page)) key next → new ≡ front ++ item.Cell key next ∷ [] → LooksAtCell
    look_passed next has left = record {
      front = front;
      item = item.Cell key page;
      next = refl;
      bytes = has.bytes;
      shown = has.is;
      more = item.Cell key next ∷ [];
      left = left;
      leaves = subst (λ at. IsRestOfCell key has.bytes at (item.Cell key next ∷ [])) (sym has.lacks) (ap (λ n. item.Cell key n ∷ []) (sym has.next_is));
    }

  pub look_bodies : (front new more : List Item) (from count : ℕ) (bytes : List ℕ) → bodies_shown (from / BODIES_PER_PAGE) ≡ Some bytes → new ≡ front ++ more → more ≡ of_bodies from count
      → IsOneLook of_bodies cells bodies_shown tree (front ++ item.Bodies from count ∷ []) new
  look_bodies front new more from count bytes shown left later = record {
    front = front;
    item = item.Bodies from count;
    next = refl;
    bytes = bytes;
    shown = shown;
    more = more;
    left = left;
    leaves = later;
  }

  pub same_look : (old was new now : List Item) → was ≡ old → now ≡ new → IsOneLook of_bodies cells bodies_shown tree old new → IsOneLook of_bodies cells bodies_shown tree was now
  same_look old was new now before after one = subst (λ l. IsOneLook of_bodies cells bodies_shown tree l now) (sym before) (subst (λ l. IsOneLook of_bodies cells bodies_shown tree old l) (sym after) one)
