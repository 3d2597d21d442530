-- What becomes of a line of an input: what is shown of it, or said.
use Rattle.std.specs.Prelude.{◌≡◌, ◌⊎◌, ℕ, ◌<◌, ◌≤◌, Bool, true, false, List, [], ◌++◌, length, codes}
use Rattle.std.specs.Prelude.{Option, None, Some}
use Rattle.std.specs.Bool.{MatchBool}
use Rattle.std.specs.Io.KnownBytes.{Appends}
use Rattle.text_stream.specs.declared.TheConstants.{MAX_LINE}
use Rattle.decode_command.specs.declared.form.Form.{Form}
use Rattle.decode_command.specs.declared.form.Form.TheVariants.{Payload, Explained, Frame}
use Rattle.decode_command.specs.Table.{labelled, ShowsMap}
use Rattle.decode_command.specs.ExplainedFault.{ShowsFault}
use Rattle.decode_command.specs.Frame.{IsHexOfFrame, ShowsFrame, ShowsFrameFault}
use Rattle.decode_command.specs.Asked.{asked_of}

-- what is said behind the fault of a text that is no payload, but a whole frame
abbrev pub frame_found : List ℕ
frame_found = codes "this is a whole frame: use --frame\n"

-- behind the fault of a text this is told where it is hexadecimal of a whole frame, and else nothing
abbrev pub PointsToFrames : List ℕ → List ℕ → List ℕ → Type 0
PointsToFrames text fault told =
    (IsHexOfFrame text × (told ≡ fault ++ frame_found)) ⊎ ((IsHexOfFrame text → ⊥) × (told ≡ fault))

-- the text is no payload, and what is said of it is its fault, and that it is a whole frame where it is one
pub record SaysFault (explained : Bool) (text told : List ℕ) : Type 0 where
  pub fault : List ℕ
  pub shows : ShowsFault explained text (Some []) (Some fault)
  pub behind : PointsToFrames text fault told

-- this is what is shown of a text, which is a payload or a frame; or what is said of one that is none
abbrev pub Decodes : Form → Option ℕ → List ℕ → Bool → List ℕ → Type 0
Decodes Payload columns text is told = MatchBool is (ShowsMap columns text (Some []) (Some told))
    (SaysFault false text told)
Decodes Explained columns text is told = MatchBool is (ShowsMap columns text (Some []) (Some told))
    (SaysFault true text told)
Decodes Frame columns text is told = MatchBool is (ShowsFrame columns text (Some []) (Some told))
    (ShowsFrameFault text (Some []) (Some told))

-- what is said of a long line
abbrev pub long_text : Form → List ℕ
long_text Payload = codes "fault long\n"
long_text Explained = codes "fault long\nit has more than 65536 bytes\n"
long_text Frame = codes "fault long\n"

-- A line that is not long asks for nothing
pub record IsPassedOver (line : List ℕ) : Type 0 where
  pub short : length line ≤ MAX_LINE
  pub nothing : asked_of line ≡ None

-- A line that is not long asks for a text, and this is shown or said of that
pub record IsDecoded (form : Form) (columns : Option ℕ) (line : List ℕ) (is : Bool) (told : List ℕ) : Type 0 where
  pub short : length line ≤ MAX_LINE
  pub text : List ℕ
  pub asked : asked_of line ≡ Some text
  pub decodes : Decodes form columns text is told

-- A line is long, and this is said
pub record IsTooLong (form : Form) (line : List ℕ) (is : Bool) (told : List ℕ) : Type 0 where
  pub long : MAX_LINE < length line
  pub wrong : is ≡ false
  pub said : told ≡ long_text form

-- what becomes of a line: it is passed over, or something is shown of it, or said where it is wrong
abbrev pub Becomes : Form → Option ℕ → List ℕ → Option (Bool × List ℕ) → Type 0
Becomes form columns line None = IsPassedOver line
Becomes form columns line (Some (is, told)) = IsDecoded form columns line is told ⊎ IsTooLong form line is told

-- a text behind an empty line
abbrev pub behind_gap : List ℕ → List ℕ
behind_gap text = codes "\n" ++ text

-- what is said of the line of this number
unfoldable pub said_line : ℕ → List ℕ → List ℕ
said_line number told = labelled (codes "line ") number ++ codes ": " ++ told

-- what becomes of a line of which this was found, and told
abbrev pub outcome_of : Option Bool → List ℕ → Option (Bool × List ℕ)
outcome_of None told = None
outcome_of (Some is) told = Some (is, told)

-- what is written for a line, behind others or as the first
abbrev pub shown_one : Bool → Option (Bool × List ℕ) → List ℕ
shown_one is_first None = []
shown_one true (Some (true, told)) = told
shown_one false (Some (true, told)) = behind_gap told
shown_one is_first (Some (false, told)) = []

-- what is said of a line
abbrev pub said_one : ℕ → Option (Bool × List ℕ) → List ℕ
said_one number None = []
said_one number (Some (true, told)) = []
said_one number (Some (false, told)) = said_line number told

-- nothing was said where saying it has failed, and else this was
abbrev pub Says : {E : Type 0} → (E → Option (List ℕ)) → (E → Bool) → E → E → List ℕ → Type 0
Says contents has_failed old new text =
    has_failed new ≡ false → (has_failed old ≡ false) × Appends (contents old) (contents new) text
