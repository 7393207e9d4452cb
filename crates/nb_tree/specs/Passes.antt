-- What a pass through a cell reads, closes and inserts. These are of the crate's own calls.
use Rattle.std.specs.Prelude.{◌≡◌, ◌≢◌, ℕ, zero, suc, ◌+◌, ◌-◌, ◌*◌, ◌/◌, ◌^◌, ◌<◌, ◌≤◌, ◌==◌, nat_le, true, false, ◌||◌, if◌then◌else◌, ⊤, List, [], ◌∷◌, ◌++◌, length, map, slice_get, sum_by, AllPairs, Option, None, Some}
use Rattle.std.specs.List.{flat_map}
use Rattle.nb_model.specs.declared.body.Body.{Body}
use Rattle.nb_model.specs.declared.params.Params.{Params}
use Rattle.nb_model.specs.Limits.{deepest_level, most_bodies}
use Rattle.nb_model.specs.Valid.{IsValidBody}
use Rattle.nb_model.specs.Octree.{total_mass, centre_of_mass}
use Rattle.nb_model.specs.Gravity.{octants}
use Rattle.nb_key.specs.Morton.{key_at, morton_key, IsKey}
use Rattle.nb_cache.specs.InStep.{IsCachedFile}
use Rattle.nb_record.specs.declared.cell.Cell.{Cell}
use Rattle.nb_record.specs.declared.sizes.TheConstants.{CELL_SIZE}
use Rattle.nb_record.specs.Records.{body_of}
use Rattle.nb_record.specs.Order.{by_key, precedes, record_of}
use Rattle.nb_record.specs.Cells.{first_body, in_cell, kids_of}
use Rattle.nb_record.specs.Table.{IsCellTable}
use Rattle.nb_record.specs.Writing.{IsZeroPaddedFile}
use Rattle.nb_tree.specs.Fronts.{IsInOrder}
use Rattle.nb_tree.specs.declared.sums.Sums.{Sums}
use Rattle.nb_tree.specs.declared.closed.ClosedCell.{ClosedCell}
use Rattle.nb_tree.specs.declared.reader.Ahead.{Ahead}
use Rattle.nb_tree.specs.declared.reader.Reader.{Reader}
use Rattle.nb_tree.specs.declared.maker.Maker.{Maker}

-- ---- reading

-- a valid body with its key
pub record IsAhead (ahead : Ahead) : Type 0 where
  pub body : IsValidBody ahead.body
  pub key : ahead.key ≡ morton_key ahead.body.at

-- whether the next body, if there is one, follows this one in Morton order
abbrev pub Follows : Body → Option Ahead → Type 0
Follows body None = ⊤
Follows body (Some next) = precedes by_key body next.body ≡ true

abbrev pub inside_of : Option Ahead → Option Ahead
inside_of None = None
inside_of (Some next) = if next.body.out then None else Some next

abbrev pub body_ahead : Option Ahead → Option Body
body_ahead None = None
body_ahead (Some next) = Some next.body

-- what holds of a reader over every host
pub record IsReader (r : Reader) : Type 0 where
  pub file : IsCachedFile r.file
  pub count : r.count ≤ most_bodies
  pub taken : r.taken ≤ r.count
  pub ahead : (next : Ahead) → r.ahead ≡ Some next → IsAhead next
  pub inside : (next : Ahead) → r.ahead ≡ Some next → next.body.out ≡ false
  pub more : (next : Ahead) → r.ahead ≡ Some next → r.taken < r.count

-- the body ahead lies in the cell at this level with this key
pub record LiesIn (level key : ℕ) (r : Reader) : Type 0 where
  pub next : Ahead
  pub there : r.ahead ≡ Some next
  pub lies : key_at level next.body.at ≡ key

-- so many bodies were taken
pub record Reads (old new : Reader) (n : ℕ) : Type 0 where
  pub file : new.file ≡ old.file
  pub count : new.count ≡ old.count
  pub taken : new.taken ≡ old.taken + n

-- the body ahead is the one of these behind those that were taken
abbrev pub IsAt : List Body → Reader → Type 0
IsAt bodies r = body_ahead r.ahead ≡ slice_get bodies r.taken

-- the body ahead is that of the file behind those that were taken, and each one up to it is in order
pub record IsHeld (file : List ℕ) (r : Reader) : Type 0 where
  pub body : (next : Ahead) → r.ahead ≡ Some next → next.body ≡ body_of (record_of file r.taken)
  pub order : (next : Ahead) → r.ahead ≡ Some next → (j : ℕ) → j ≤ r.taken → IsInOrder file j

-- ---- sums, and a cell that is closed

-- the bounds of the sums of valid bodies
pub record IsSmall (s : Sums) : Type 0 where
  pub count : s.count ≤ most_bodies
  pub least : s.count ≤ s.mass
  pub mass : s.mass ≤ 2 ^ 32 * s.count
  pub x : s.x ≤ (2 ^ 40 - 1) * s.mass
  pub y : s.y ≤ (2 ^ 40 - 1) * s.mass
  pub z : s.z ≤ (2 ^ 40 - 1) * s.mass

-- these are the sums of these bodies
pub record AreSums (s : Sums) (bodies : List Body) : Type 0 where
  pub count : s.count ≡ length bodies
  pub mass : s.mass ≡ total_mass bodies
  pub x : s.x ≡ sum_by (λ b. b.mass * b.at.x) bodies
  pub y : s.y ≡ sum_by (λ b. b.mass * b.at.y) bodies
  pub z : s.z ≡ sum_by (λ b. b.mass * b.at.z) bodies

abbrev pub cell_closed : ClosedCell → Cell
cell_closed c = record {
  key = c.key;
  mass = c.sums.mass;
  centre = record { x = c.sums.x / c.sums.mass; y = c.sums.y / c.sums.mass; z = c.sums.z / c.sums.mass };
  first = c.first;
  count = c.sums.count;
  kids = c.kids;
}

-- what holds of a closed cell over every host
pub record IsClosed (c : ClosedCell) : Type 0 where
  pub key : IsKey c.key
  pub small : IsSmall c.sums
  pub some : 0 < c.sums.count
  pub first : c.first < most_bodies
  pub kids : c.kids < 256
  pub deepest : 8 ^ deepest_level ≤ c.key → c.kids ≡ 0

abbrev pub cells_closed : List ClosedCell → List Cell
cells_closed closed = map cell_closed closed

-- ---- the cells of a tree, in the order in which a pass inserts them

-- the cell at this level with this key, of these bodies
abbrev pub tree_cell : Params → List Body → ℕ → ℕ → Cell
tree_cell params all level key = record {
  key = key;
  mass = total_mass (in_cell level key all);
  centre = centre_of_mass (in_cell level key all);
  first = first_body all (in_cell level key all);
  count = length (in_cell level key all);
  kids = if nat_le (length (in_cell level key all)) params.leaf || (level == deepest_level) then 0 else kids_of level (in_cell level key all);
}

-- the same as a list, which is empty where the cell has no bodies
abbrev pub kid : Params → List Body → ℕ → ℕ → List Cell
kid params all level key = if length (in_cell level key all) == 0 then [] else tree_cell params all level key ∷ []

-- The cells below the one with this key, which has so many levels below it: none below a leaf. Those below each octant come
-- first, and then the octants themselves, since a cell waits until its parent's count is known.
unfoldable pub put_below : Params → List Body → ℕ → ℕ → List Cell
put_below params all zero key = []
put_below params all (suc depth) key =
    if nat_le (length (in_cell ((deepest_level - 1) - depth) key all)) params.leaf then []
    else flat_map (λ octant. put_below params all depth (8 * key + octant)) octants
    ++ flat_map (λ octant. kid params all (deepest_level - depth) (8 * key + octant)) octants

-- ---- inserting

-- A tree has at most so many cells: one on each level for each body.
abbrev pub most_cells : ℕ
most_cells = 22 * most_bodies

-- what holds of a maker over every host
pub record IsMaker (m : Maker) : Type 0 where
  pub file : IsCachedFile m.table.file
  pub bits : m.table.bits ≤ 18
  pub pages : m.table.pages ≤ 2 ^ 18 + m.nodes
  pub nodes : m.nodes ≤ most_cells

-- what stays of a maker
pub record SameMaker (old new : Maker) : Type 0 where
  pub file : new.table.file ≡ old.table.file
  pub bits : new.table.bits ≡ old.table.bits
  pub leaf : new.leaf ≡ old.leaf

-- the file is the maker's table, with these cells
pub record HoldsCells (file : List ℕ) (m : Maker) (cells : List Cell) : Type 0 where
  pub table : IsCellTable file m.table.bits m.table.pages cells
  pub padded : IsZeroPaddedFile CELL_SIZE file
  pub nodes : m.nodes ≡ length cells

-- these cells can stand in one table
pub record MayStand (cells : List Cell) : Type 0 where
  pub differ : AllPairs (λ a b. a.key ≢ b.key) cells
  pub few : length cells ≤ most_cells

-- These cells were inserted: a table of some cells is the table of these too, where they can stand in one.
abbrev pub Inserts : List Cell → List ℕ → Maker → List ℕ → Maker → Type 0
Inserts more before old now new =
    (cells : List Cell) → HoldsCells before old cells → MayStand (cells ++ more) → HoldsCells now new (cells ++ more)

-- ---- a pass

-- What a pass through the cell with this key makes, which has so many levels below it: over the front of the file of bodies,
-- and from the first of the cell's bodies on, it closes the cell and inserts those below it.
pub record HasPassed (params : Params) (all : List Body) (depth key : ℕ) (before : List ℕ) (old : Maker) (now : List ℕ) (new : Maker) (closed : ClosedCell) : Type 0 where
  pub cell : cell_closed closed ≡ tree_cell params all (deepest_level - depth) key
  pub sums : AreSums closed.sums (in_cell (deepest_level - depth) key all)
  pub inserts : Inserts (put_below params all depth key) before old now new
