-- How people know the object that a line of the API tells of: by its kind, its namespace, where it
-- has one, and its name.
use Rattle.std.specs.Prelude.{ℕ, List, [], ◌∷◌, ◌++◌, length, nat_le, codes, if◌then◌else◌}
use Rattle.serde_json.specs.Data.{Data}
use Rattle.objects.specs.declared.translation.TheConstants.{MAX_OBJECT}
use Rattle.objects.specs.LeftOut.{shown}
use Rattle.objects.specs.Reading.{field, absent_or, spelled}
use Rattle.objects.specs.Told.{object_in, parsed}

-- (an item of a raw list says no kind)
abbrev pub kind_shown : (kind : List ℕ) → List ℕ
kind_shown [] = codes "object"
kind_shown (x ∷ more) = shown (x ∷ more)

abbrev pub namespace_shown : (namespace : List ℕ) → List ℕ
namespace_shown [] = []
namespace_shown (x ∷ more) = shown (x ∷ more) ++ codes "/"

-- what has no name isn't known
abbrev pub known_as : (kind namespace name : List ℕ) → List ℕ
known_as kind namespace [] = []
known_as kind namespace (x ∷ more) = kind_shown kind ++ codes " " ++ namespace_shown namespace ++ shown (x ∷ more)

unfoldable pub object_name : Data → List ℕ
object_name json =
    absent_or [] (λ meta. known_as (spelled (codes "kind") json) (spelled (codes "namespace") meta) (spelled (codes "name") meta)) (field (codes "metadata") json)

-- the name of a line's object, which is empty where it has none
unfoldable pub name_in : (line : List ℕ) → List ℕ
name_in line = if nat_le (length line) MAX_OBJECT then absent_or [] (λ json. object_name (object_in json)) (parsed line) else []
