-- The fields of a record, before they are known to be a body's.
use Rattle.std.specs.Prelude.{ℕ, if◌then◌else◌, List, ◌++◌}
use Rattle.std.specs.Int.{w32, w64, to_le_bytes}
use Rattle.nb_model.specs.declared.body.Body.{Body}
use Rattle.nb_format.specs.declared.record.Fields.{Fields}
use Rattle.nb_model.specs.Bytes.{vector_bytes}

abbrev pub fields_of : Body → Fields
fields_of b = record { id = b.id; mass = b.mass; flag = (if b.out then 1 else 0); at = b.at; v = b.v }

-- the bytes that spell the fields: of `fields_of` a body, its record
unfoldable pub fields_bytes : Fields → List ℕ
fields_bytes f =
    to_le_bytes w64 f.id ++ to_le_bytes w32 f.mass ++ to_le_bytes w32 f.flag
    ++ to_le_bytes w64 f.at.x ++ to_le_bytes w64 f.at.y ++ to_le_bytes w64 f.at.z
    ++ vector_bytes f.v
