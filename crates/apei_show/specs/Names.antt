-- The name of a file.
use Rattle.std.specs.Prelude.{ℕ, List, unwrap_or}
use Rattle.std.specs.Path.{path_file_name}

-- the last part of a path, or the whole path where it has none
abbrev pub name_of : List ℕ → List ℕ
name_of path = unwrap_or (path_file_name path) path
