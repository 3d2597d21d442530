-- The kind of a document that was read.
use Rattle.std.specs.Prelude.{Option, Some, None}
use Rattle.serde_json.specs.declared.value.Value.{Value}
use Rattle.serde_json.specs.View.{view}
use Rattle.json_fields.specs.declared.forms.Kind.{Kind}
use Rattle.json_fields.specs.declared.forms.Kind.TheVariants.{Script}
use Rattle.check_lines.specs.DocumentKind.{kind_in}

-- the kind of file that it seems to be: a script where there is none
abbrev pub kind_shown : Option Value → Kind
kind_shown None = Script
kind_shown (Some document) = kind_in (view document)
