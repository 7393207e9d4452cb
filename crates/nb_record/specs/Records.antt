-- The records of a page, behind its header.
--
-- A body's record: 0 to 7 the id; 8 to 11 the mass; 12 to 15 the flag, 1 for a body that has left the box and else 0;
-- 16 to 39 the position; 40 to 63 the velocity; 64 to 87 the kick that the body got last. `nb_model` has the bytes of a body
-- and of a vector, as a snapshot has them too.
--
-- A cell's record: 0 to 7 the key; 8 to 15 the mass; 16 to 39 the centre; 40 to 47 the number of its first body; 48 to 55
-- the count of its bodies; 56 to 63 the kids, a bit for each octant that isn't empty, and 0 for a leaf.
use Rattle.std.specs.Prelude.{◌≡◌, ℕ, zero, suc, ◌+◌, ◌*◌, ◌^◌, ◌<◌, ◌≤◌, ◌==◌, List, [], ◌∷◌, ◌++◌, take, drop, FitsSigned}
use Rattle.std.specs.Int.{w64}
use Rattle.std.specs.List.{flat_map}
use Rattle.nb_model.specs.declared.body.V3.{V3}
use Rattle.nb_model.specs.declared.body.Body.{Body}
use Rattle.nb_model.specs.Limits.{deepest_level, kick_limit, most_bodies}
use Rattle.nb_model.specs.Bytes.{body_bytes, vector_bytes}
use Rattle.nb_model.specs.Valid.{IsInBox, IsBelow, IsValidBody}
use Rattle.nb_key.specs.Morton.{IsKey}
use Rattle.nb_record.specs.declared.cell.Cell.{Cell}
use Rattle.nb_record.specs.declared.sizes.TheConstants.{HEADER_SIZE, BODY_SIZE, CELL_SIZE, KICK_AT}
use Rattle.nb_record.specs.Fields.{u64_at, u32_at, i64_at, u64_bytes}
use Rattle.nb_record.specs.Pages.{record_count}

-- ---- bodies

-- the bytes of record i of a page of bodies
abbrev pub body_record : ℕ → List ℕ → List ℕ
body_record i bytes = take BODY_SIZE (drop (HEADER_SIZE + BODY_SIZE * i) bytes)

-- what the bytes of a record say
abbrev pub body_of : List ℕ → Body
body_of bytes = record {
  id = u64_at 0 bytes;
  mass = u32_at 8 bytes;
  out = u32_at 12 bytes == 1;
  at = record { x = u64_at 16 bytes; y = u64_at 24 bytes; z = u64_at 32 bytes };
  v = record { x = i64_at 40 bytes; y = i64_at 48 bytes; z = i64_at 56 bytes };
}

-- the kick behind the body
abbrev pub kick_of : List ℕ → V3
kick_of bytes = record { x = i64_at KICK_AT bytes; y = i64_at (KICK_AT + 8) bytes; z = i64_at (KICK_AT + 16) bytes }

-- the bytes are a body's record
pub record IsBodyRecord (bytes : List ℕ) : Type 0 where
  pub flag : u32_at 12 bytes ≤ 1
  pub body : IsValidBody (body_of bytes)
  pub kick : IsBelow kick_limit (kick_of bytes)

-- the record of a body with its kick
abbrev pub record_bytes : Body → V3 → List ℕ
record_bytes b kick = body_bytes b ++ vector_bytes kick

-- the first n bodies of a page
unfoldable pub first_bodies : ℕ → List ℕ → List Body
first_bodies zero bytes = []
first_bodies (suc n) bytes = first_bodies n bytes ++ body_of (body_record n bytes) ∷ []

abbrev pub bodies_of : List ℕ → List Body
bodies_of bytes = first_bodies (record_count bytes) bytes

-- a body whose numbers fit their fields in a record, as those of the code do
pub record FitsBodyRecord (b : Body) : Type 0 where
  pub id : b.id < 2 ^ 64
  pub mass : b.mass < 2 ^ 32
  pub x : b.at.x < 2 ^ 64
  pub y : b.at.y < 2 ^ 64
  pub z : b.at.z < 2 ^ 64
  pub velocity_x : FitsSigned w64 b.v.x
  pub velocity_y : FitsSigned w64 b.v.y
  pub velocity_z : FitsSigned w64 b.v.z

-- ---- cells

-- the bytes of record i of a page of cells
abbrev pub cell_record : ℕ → List ℕ → List ℕ
cell_record i bytes = take CELL_SIZE (drop (HEADER_SIZE + CELL_SIZE * i) bytes)

-- what the bytes of a record say
abbrev pub cell_of : List ℕ → Cell
cell_of bytes = record {
  key = u64_at 0 bytes;
  mass = u64_at 8 bytes;
  centre = record { x = u64_at 16 bytes; y = u64_at 24 bytes; z = u64_at 32 bytes };
  first = u64_at 40 bytes;
  count = u64_at 48 bytes;
  kids = u64_at 56 bytes;
}

-- A cell of the form. The keys at the deepest level are those from 8 ^ 21 on: such a cell has no kids.
pub record IsCell (cell : Cell) : Type 0 where
  pub key : IsKey cell.key
  pub some_mass : 1 ≤ cell.mass
  pub mass : cell.mass ≤ 2 ^ 56
  pub centre : IsInBox cell.centre
  pub first : cell.first < most_bodies
  pub some_bodies : 1 ≤ cell.count
  pub count : cell.count ≤ most_bodies
  pub kids : cell.kids < 256
  pub deepest : 8 ^ deepest_level ≤ cell.key → cell.kids ≡ 0

-- the record of a cell
abbrev pub cell_bytes : Cell → List ℕ
cell_bytes c = flat_map u64_bytes (c.key ∷ c.mass ∷ c.centre.x ∷ c.centre.y ∷ c.centre.z ∷ c.first ∷ c.count ∷ c.kids ∷ [])

-- a cell whose numbers fit their fields in a record, as those of the code do
pub record FitsCellRecord (cell : Cell) : Type 0 where
  pub key : cell.key < 2 ^ 64
  pub mass : cell.mass < 2 ^ 64
  pub x : cell.centre.x < 2 ^ 64
  pub y : cell.centre.y < 2 ^ 64
  pub z : cell.centre.z < 2 ^ 64
  pub first : cell.first < 2 ^ 64
  pub count : cell.count < 2 ^ 64
  pub kids : cell.kids < 2 ^ 64

-- the first n cells of a page
unfoldable pub first_cells : ℕ → List ℕ → List Cell
first_cells zero bytes = []
first_cells (suc n) bytes = first_cells n bytes ++ cell_of (cell_record n bytes) ∷ []

abbrev pub cells_of : List ℕ → List Cell
cells_of bytes = first_cells (record_count bytes) bytes
