-- The lines of Prometheus' text format: a name with its labels, a space and a number.
use Rattle.std.specs.Prelude.{ℕ, ◌==◌, List, [], ◌++◌, codes, decimal, if◌then◌else◌}
use Rattle.server_control.specs.declared.families.Family as families
use Rattle.server_control.specs.declared.exposition.Metadata.{Metadata}
use Rattle.server_control.specs.declared.exposition.Metadata.TheVariants.{Family, Nothing}
use Rattle.server_control.specs.declared.exposition.MetricLine.{MetricLine}

-- the first line of a family has its metadata before it
abbrev pub metadata_of : families.Family → ℕ → Metadata
metadata_of family index = if index == 0 then Family family else Nothing

-- the help text of the family, and its kind
abbrev pub metadata_text : Metadata → List ℕ
metadata_text Nothing = []
metadata_text (Family family) =
    codes "# HELP " ++ family.name.now ++ codes " " ++ family.help.now
    ++ codes "\n# TYPE " ++ family.name.now ++ codes " " ++ family.kind.now ++ codes "\n"

abbrev pub line_text : MetricLine → List ℕ
line_text line = metadata_text line.metadata ++ line.name.now ++ line.end.now ++ codes " " ++ decimal line.value ++ codes "\n"

-- the label of an operator's lines: its identifier needs no escape since it is a UUID
abbrev pub operator_label : List ℕ → List ℕ
operator_label operator = codes "{operator=\"" ++ operator ++ codes "\"}"
