-- The pages that walks over a tree want are whole in their files.
use Rattle.std.proofs.Common.{◌≡◌, ℕ, ◌%◌, ◌/◌, ◌^◌, ◌<◌, not, List, Option, Some, length, get_or, sym, ap, refl, arith, subst, inl, inr}
use Rattle.std.specs.Prelude.{All, Contains}
use Rattle.std.proofs.lemmas.List.Elements.{All-map, All-contains, All-contains_itself}
use Rattle.nb_model.specs.declared.body.Body.{Body}
use Rattle.nb_model.specs.declared.params.Params.{Params}
use Rattle.nb_model.specs.Leapfrog.{unescaped}
use Rattle.nb_model.proofs.Facts.{length-filter-le}
use Rattle.nb_host.specs.declared.page_name.PageName.{PageName}
use Rattle.nb_host.specs.Page.{HasPage}
use Rattle.nb_record.specs.declared.sizes.TheConstants.{BODIES_PER_PAGE}
use Rattle.nb_record.specs.declared.tree.Tree.{Tree}
use Rattle.nb_record.specs.Cells.{tree_cells}
use Rattle.nb_record.specs.Order.{by_key, sorted_by}
use Rattle.nb_record.specs.Tree.{IsTreeOf}
use Rattle.nb_record.proofs.Callers.{page_within, length-sorted_by, starts_within}
use Rattle.nb_walk.specs.declared.item.Item.{Item}
use Rattle.nb_walk.specs.declared.item.Item.TheVariants as item
use Rattle.nb_walk.specs.Items.{chain_page, page_for}
use Rattle.nb_walk.specs.Left.{IsItemOf}
use Rattle.nb_walk.specs.Walk.{IsWalkOn}
use Rattle.nb_walk.specs.Pool.{PooledWalk, all_needs, AreOn, IsSettled, IsWanted}

module _ (params : Params) (bodies : List Body) (tree : Tree) (files : ℕ → List ℕ) (of_tree : IsTreeOf tree files params bodies) where
  abbrev Is : Item → Type 0
  Is x = IsItemOf params bodies tree (files tree.cells) x

  cell_page : (page : ℕ) → page < tree.pages → HasPage (files tree.cells) page
  cell_page page below = omega (arith, of_tree.table.whole)

  body_page : (from : ℕ) → from < length (unescaped bodies) → HasPage (files tree.bodies) (from / BODIES_PER_PAGE)
  body_page from below =
      let most = length-filter-le (λ (b : Body). not b.out) bodies in
      let long = length-sorted_by by_key bodies in
      let page = page_within (length (sorted_by by_key bodies)) from (omega arith) in
      omega (arith, of_tree.ordered.whole)

  -- also the root's, where the tree has no cell
  pub item_page : (x : Item) → Is x → HasPage (files (page_for tree x).file) (page_for tree x).page
  item_page (item.Cell key page) is = elim is [
    | inl root ↦
        let start = starts_within (files tree.cells) tree.bits tree.pages (tree_cells params bodies) of_tree.table key in
        let first : chain_page tree.bits key page ≡ key % 2 ^ tree.bits = ap (chain_page tree.bits key) root.1 in
        subst (HasPage (files tree.cells)) (sym first) (cell_page (key % 2 ^ tree.bits) start)
    | inr cell ↦ cell_page (chain_page tree.bits key page) cell.within
  ]
  item_page (item.Bodies from count) is = body_page from (omega (arith, is.0, is.1))

  module _ (cells bodies_shown : ℕ → Option (List ℕ)) (walks : List PooledWalk) (on : AreOn params bodies tree (files tree.cells) walks) (settled : All (IsSettled cells bodies_shown tree) walks) where
    abbrev NeedIs : Option Item → Type 0
    NeedIs need = (x : Item) → need ≡ Some x → Is x

    need_is : (w : PooledWalk) → IsWalkOn params bodies tree (files tree.cells) w.walk → IsSettled cells bodies_shown tree w → NeedIs w.needs
    need_is w its own x is = All-contains Is w.walk.items x its.items (own.own x is)

    needs_are : All NeedIs (all_needs walks)
    needs_are = All-map NeedIs (λ w. w.needs) walks (λ k d below. need_is (get_or walks k d) (on k d below) (settled k d below))

    pub needed_page : (x : Item) → Contains (all_needs walks) (Some x) → HasPage (files (page_for tree x).file) (page_for tree x).page
    needed_page x needed = item_page x (All-contains NeedIs (all_needs walks) (Some x) needs_are needed x refl)

pub wanted_pages : (cells bodies_shown : ℕ → Option (List ℕ)) (params : Params) (bodies : List Body) (tree : Tree) (files : ℕ → List ℕ) (walks : List PooledWalk) (wants : List PageName)
    → IsTreeOf tree files params bodies → AreOn params bodies tree (files tree.cells) walks → All (IsSettled cells bodies_shown tree) walks → IsWanted tree walks wants
    → All (λ name. HasPage (files name.file) name.page) wants
wanted_pages cells bodies_shown params bodies tree files walks wants of_tree on settled wanted k d below =
    let needed = (wanted.names (get_or wants k d)).0 (All-contains_itself wants k d below) in
    subst (λ (n : PageName). HasPage (files n.file) n.page) needed.page
    (needed_page params bodies tree files of_tree cells bodies_shown walks on settled needed.item needed.needed)
