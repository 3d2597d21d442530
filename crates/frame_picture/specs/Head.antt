-- The head of a picture: how its bars look, and what each look is for.
use Rattle.std.specs.Prelude.{ℕ, Bool, if◌then◌else◌, List, [], ◌++◌, codes}
use Rattle.frame_picture.specs.declared.layout.Scale.{Scale}
use Rattle.frame_picture.specs.Labelled.{labelled}
use Rattle.frame_picture.specs.Time.{ms_text}
use Rattle.frame_picture.specs.Shade.{shade_rules}
use Rattle.frame_picture.specs.Layout.{depth_of}
use Rattle.frame_picture.specs.Patterns.{patterns_text}
use Rattle.frame_picture.specs.Opportunities.{met_rules, met_patterns, met_keys}

-- how the parts of a picture look
unfoldable pub style_text : List ℕ
style_text =
    codes "' font-family='sans-serif' font-size='12'>\n<style>.head{font-size:14px}"
    ++ (codes ".start,.at{font-size:11px;text-anchor:middle}.start{text-anchor:end}rect,.key{stroke:#333;"
    ++ (codes "stroke-width:.5px}\n.tick{stroke:#ccc}.sid{paint-order:stroke;stroke:#fff;stroke-width:3px;"
    ++ (codes "stroke-linejoin:round}\n.region{fill:url(#region)}.poll{fill:url(#poll)}.short{fill:url(#short)}"
    ++ (codes ".long{fill:#2f7fc1}\n.unsolicited{fill:url(#unsolicited)}.ranging{fill:url(#ranging)}.idle{fill:#fff}"
    ++ codes ".other{fill:url(#other)}\n.left{font-size:11px}.gap{stroke:#c22;stroke-width:2;stroke-dasharray:6 4}\n"))))

-- a text, where it is shown
abbrev pub shown_if : Bool → List ℕ → List ℕ
shown_if shown text = if shown then text else []

-- how open idles look
abbrev pub open_rule : List ℕ
open_rule = codes ".open{fill:#d8c9f2}\n"

-- how they look where a reader has a dark screen
unfoldable pub dark_text : List ℕ
dark_text =
    codes "@media (prefers-color-scheme:dark){.ground,.idle{fill:#181818}text{fill:#ddd}.sid{fill:#000}"
    ++ codes ".tick{stroke:#444}rect,.key{stroke:#999}.gap{stroke:#f66}}\n"

-- the ground under a picture of so many rows, as large as the picture
unfoldable pub ground_text : ℕ → List ℕ
ground_text rows =
    labelled (codes "</style>\n<path class='ground' fill='#fff' d='M0 0h1220v") (depth_of rows) ++ codes "H0z'/>\n"

-- what the looks are for of the minislots in which modems may ask, and of data grants
unfoldable pub usual_legend : List ℕ
usual_legend =
    codes "<g id='legend'><path class='key region' d='M-160 8h28v16h-28z'/>"
    ++ (codes "<text x='-124' y='21'>request region</text>\n"
    ++ (codes "<path class='key poll' d='M-12 8h28v16h-28z'/><text x='24' y='21'>poll of one modem</text>\n"
    ++ (codes "<path class='key short' d='M156 8h28v16h-28z'/><text x='192' y='21'>short data grant</text>\n"
    ++ codes "<path class='key long' d='M306 8h28v16h-28z'/><text x='342' y='21'>long data grant</text>\n")))

-- what the other looks are for, and what the numbers before a row are
unfoldable pub other_legend : List ℕ
other_legend =
    codes "<path class='key unsolicited' d='M452 8h28v16h-28z'/><text x='488' y='21'>unsolicited grant</text>\n"
    ++ (codes "<path class='key ranging' d='M606 8h28v16h-28z'/><text x='642' y='21'>ranging</text>\n"
    ++ (codes "<path class='key idle' d='M728 8h28v16h-28z'/><text x='764' y='21'>idle</text>\n"
    ++ (codes "<path class='key other' d='M876 8h28v16h-28z'/><text x='912' y='21'>other</text>\n"
    ++ (codes "<text class='start' x='-128' y='46'>frame</text><text class='start' x='-8' y='46'>minislot</text>\n"
    ++ codes "<text class='start' x='-8' y='59'>ms</text></g></defs>\n"))))

-- what the look of open idles is for
abbrev pub open_key : List ℕ
open_key = codes "<path class='key open' d='M952 8h28v16h-28z'/><text x='988' y='21'>open idle</text>\n"

-- how large a picture of so many rows is
unfoldable pub size_text : ℕ → List ℕ
size_text rows =
    labelled (codes "<svg xmlns='http://www.w3.org/2000/svg' width='1220' height='") (depth_of rows)
    ++ labelled (codes "' viewBox='0 0 1220 ") (depth_of rows)

-- how many of so many frames are drawn, and how long a frame is
unfoldable pub counts_text : Scale → ℕ → ℕ → List ℕ
counts_text scale rows total =
    labelled (codes "<text class='head' x='16' y='26'>Frames drawn: ") rows
    ++ (labelled (codes " of ") total
    ++ (labelled (codes ". A frame: ") scale.frame
    ++ (codes " minislots, " ++ (ms_text scale.ticks scale.frame
    ++ codes " ms. The shade of a box goes by its SID. A dashed line: frames left out.</text>\n"))))

-- the head of a picture of so many rows, of so many frames in all: with open idles where the channel has them
unfoldable pub head_text : Scale → ℕ → ℕ → List ℕ
head_text scale rows total =
    size_text rows ++ (style_text ++ (met_rules ++ (shade_rules ++ (shown_if scale.opens open_rule
    ++ (dark_text ++ (ground_text rows ++ (patterns_text ++ (met_patterns
    ++ (usual_legend ++ (met_keys ++ (shown_if scale.opens open_key
    ++ (other_legend ++ counts_text scale rows total))))))))))))
