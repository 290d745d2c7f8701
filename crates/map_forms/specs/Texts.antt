-- Values beside their compact texts.
use Rattle.std.specs.Prelude.{◌≡◌, List, Some, String, string_bytes, string_cmp}
use Rattle.std.specs.BTreeMap.{insert_entry}
use Rattle.std.specs.declared.alloc.Global.{Global}
use Rattle.serde_json.specs.Data.{Data}
use Rattle.serde_json.specs.Read.{read}
use Rattle.serde_json.specs.View.{view}
use Rattle.serde_json.specs.Written.{compact_text}
use Rattle.serde_json.specs.declared.value.Value.{Value}

-- The text is the value's compact one, and the value what is read of it.
abbrev pub IsTextOf : String Global × Value → Type 0
IsTextOf e = (string_bytes e.0 ≡ compact_text (view e.1)) × (read (string_bytes e.0) ≡ Some (view e.1))

-- A value was put among others, by its text.
abbrev pub PutsValue : Data → List (String Global × Value) → List (String Global × Value) → Type 0
PutsValue d old new = (e : String Global × Value) × IsTextOf e × (view e.1 ≡ d) × (new ≡ insert_entry string_cmp old e.0 e.1)
