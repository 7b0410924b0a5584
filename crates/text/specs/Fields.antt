-- Fields of a line. Assumes nothing.
use Rattle.std.specs.Prelude.{ℕ, ◌==◌, Bool, List, []}
use Rattle.std.specs.List.{slice_split}
use Rattle.std.specs.Option.{option_map_or}
use Rattle.text.specs.declared.field.Fields.{Fields}

abbrev pub is_space : ℕ → Bool
is_space b = b == 32

-- what stands before, between and behind the spaces of a line
abbrev pub fields_of : List ℕ → List (List ℕ)
fields_of line = slice_split is_space line

-- the fields that are left
abbrev pub fields_left : Fields → List (List ℕ)
fields_left it = option_map_or (λ rest. fields_of rest.now) it.rest []
