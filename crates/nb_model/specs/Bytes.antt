-- A body in bytes, as a snapshot and a file of bodies have it. Numbers are little-endian, and those with a sign are two's
-- complement.
--
-- 0 to 7 the id; 8 to 11 the mass; 12 to 15 the flag, 1 for a body that is out and 0 for any other; 16 to 39 the position,
-- axis by axis; 40 to 63 the velocity.
use Rattle.std.specs.Prelude.{ℕ, if◌then◌else◌, List, ◌++◌}
use Rattle.std.specs.Int.{w32, w64, to_le_bytes, cast_unsigned}
use Rattle.nb_model.specs.declared.body.V3.{V3}
use Rattle.nb_model.specs.declared.body.Body.{Body}

abbrev pub vector_bytes : V3 → List ℕ
vector_bytes v =
    to_le_bytes w64 (cast_unsigned w64 v.x) ++ to_le_bytes w64 (cast_unsigned w64 v.y)
    ++ to_le_bytes w64 (cast_unsigned w64 v.z)

unfoldable pub body_bytes : Body → List ℕ
body_bytes b =
    to_le_bytes w64 b.id ++ to_le_bytes w32 b.mass ++ to_le_bytes w32 (if b.out then 1 else 0)
    ++ to_le_bytes w64 b.at.x ++ to_le_bytes w64 b.at.y ++ to_le_bytes w64 b.at.z ++ vector_bytes b.v
