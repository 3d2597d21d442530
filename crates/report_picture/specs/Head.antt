-- The head of a picture: how its parts look, its title, and what each look is for.
use Rattle.std.specs.Prelude.{ℕ, ◌+◌, ◌-◌, ◌*◌, ◌/◌, max, if◌then◌else◌, List, [], ◌∷◌, ◌++◌, codes, Option, None, Some}
use Rattle.sched_report.specs.declared.slots.Slots.{Slots}
use Rattle.sched_report.specs.declared.totals.Totals.{Totals}
use Rattle.sched_report.specs.Uses.{all_slots}
use Rattle.report_picture.specs.declared.course.Course.{Course}
use Rattle.report_picture.specs.Filled.{filled}
use Rattle.report_picture.specs.Axis.{place, microseconds}

-- how deep a picture is in which so many ranks have delays: it has one row at least
abbrev pub depth_of : ℕ → ℕ
depth_of ranks = 584 + 32 * max ranks 1

-- how large it is
unfoldable pub size_text : ℕ → List ℕ
size_text ranks =
    filled (codes "<svg xmlns='http://www.w3.org/2000/svg' width='1400' height='@' viewBox='0 0 1400 @")
    (depth_of ranks ∷ depth_of ranks ∷ [])

-- how its texts and lines look
unfoldable pub line_style : List ℕ
line_style =
    codes "' font-family='sans-serif' font-size='12'>\n<rect width='100%' height='100%' fill='#fff'/><style>"
    ++ (codes
    ".head{font-size:14px}.at,.end,.part{font-size:11px}.at{text-anchor:middle}.end{text-anchor:end}\n"
    ++ codes
    ".key{stroke:#333;stroke-width:.5px}.tick{stroke:#000;stroke-opacity:.2}.edge{stroke:#333;fill:none}\n")

-- how its areas and marks look
unfoldable pub area_style : List ℕ
area_style =
    codes
    ".step{fill-opacity:0}.request{fill:url(#request)}.poll{fill:url(#poll)}.unsolicited{fill:url(#unsolicited)}"
    ++ (codes ".opportunity{fill:url(#opportunity)}.data{fill:#2f7fc1}.idle{fill:#ddd}.range{fill:#ccc}\n"
    ++ codes ".most{stroke:#333;stroke-width:2px}.middle{fill:#fff;stroke:#000;stroke-width:2px}</style>\n")

-- how its parts look
unfoldable pub style_text : List ℕ
style_text = line_style ++ area_style

-- the patterns of minislots in which modems may ask
unfoldable pub request_patterns : List ℕ
request_patterns =
    codes "<defs><pattern id='request' width='6' height='6' patternUnits='userSpaceOnUse'>"
    ++ (codes "<path fill='#eee' d='M0 0h6v6H0z'/><path fill='#555' d='M2 2h2v2H2z'/></pattern>\n"
    ++ (codes "<pattern id='poll' width='8' height='8' patternUnits='userSpaceOnUse' patternTransform='rotate(45)'>"
    ++ codes "<path fill='#ffd79a' d='M0 0h8v8H0z'/><path fill='#b85f00' d='M0 0h4v8H0z'/></pattern>\n"))

-- the patterns of unsolicited grants and of opportunities
unfoldable pub other_patterns : List ℕ
other_patterns =
    codes "<pattern id='unsolicited' width='8' height='8' patternUnits='userSpaceOnUse'>"
    ++ (codes "<path fill='#eaa9cd' d='M0 0h8v8H0z'/><path stroke='#80154f' d='M0 0l8 8M8 0l-8 8'/></pattern>\n"
    ++ (codes "<pattern id='opportunity' width='6' height='6' patternUnits='userSpaceOnUse'>"
    ++ codes "<path fill='#ddd' d='M0 0h6v6H0z'/><path fill='#555' d='M0 0h2v6H0z'/></pattern>\n</defs>\n"))

-- from where to where the frames reach, where there are any
unfoldable pub span_text : ℕ → Option ℕ → Option ℕ → List ℕ
span_text ticks (Some from) (Some to) =
    filled (codes " Minislots @ to @, ^ ms.") (from ∷ to ∷ microseconds ticks (to - from) ∷ [])
span_text ticks (Some from) None = []
span_text ticks None to = []

-- how many frames there are, how long they are, from where to where they reach, and how often frames were left out
unfoldable pub frames_told : Course → Totals → List ℕ
frames_told c t =
    filled (codes "<text class='head' x='96' y='26'>Use of minislots over time. Frames: @, of @ minislots, ^ ms each.")
    (c.frames ∷ c.frame ∷ microseconds c.ticks c.frame ∷ [])
    ++ (span_text c.ticks t.from t.to ++ filled (codes " Skips: @.</text>\n") (t.skips ∷ []))

-- what a step is
unfoldable pub step_told : Course → List ℕ
step_told c =
    filled
    (codes
    "<text x='96' y='47'>Frames in a step: @. It reaches from the start of its first to the end of its last one, ")
    (c.width ∷ [])
    ++ codes "a use as high as its part of that time. White: no frame, since no MAP was built.</text>\n"

-- the title: how many frames there are, how long they are, from where to where they reach, and what a step is
unfoldable pub title_text : Course → Totals → List ℕ
title_text c t = frames_told c t ++ step_told c

-- how many in a thousand of all a part is, rounded to the nearest
abbrev pub thousandths : ℕ → ℕ → ℕ
thousandths part all = (place 2000 part all + 1) / 2

-- a key of the legend: a look, and how many in a thousand of all minislots have it
abbrev pub key_text : List ℕ → ℕ → ℕ → List ℕ
key_text template part all = filled template (thousandths part all ∷ [])

-- the keys of minislots in which modems may ask, and of unsolicited grants
unfoldable pub first_keys : Slots → List ℕ
first_keys s =
    key_text (codes "<path class='key request' d='M96 60h28v16h-28z'/><text x='132' y='73'>request region ~ %</text>\n")
    s.request (all_slots s)
    ++ (key_text (codes "<path class='key poll' d='M290 60h28v16h-28z'/><text x='326' y='73'>polls ~ %</text>\n")
    s.poll (all_slots s)
    ++ key_text
    (codes "<path class='key unsolicited' d='M420 60h28v16h-28z'/><text x='456' y='73'>unsolicited ~ %</text>\n")
    s.unsolicited (all_slots s))

-- the others
unfoldable pub last_keys : Slots → List ℕ
last_keys s =
    key_text
    (codes
    "<path class='key opportunity' d='M590 60h28v16h-28z'/><text x='626' y='73'>opportunities ~ %</text>\n")
    s.opportunity (all_slots s)
    ++ (key_text (codes "<path class='key data' d='M836 60h28v16h-28z'/><text x='872' y='73'>data grants ~ %</text>\n")
    s.data_grants (all_slots s)
    ++ key_text (codes "<path class='key idle' d='M1020 60h28v16h-28z'/><text x='1056' y='73'>idle ~ %</text>\n")
    s.idle (all_slots s))

-- that of open idles, where idles are open
unfoldable pub open_key : Totals → List ℕ
open_key t =
    if t.opens then
    codes "<style>.open{fill:#b39ddb}</style>"
    ++ key_text
    (codes "<path class='key open' d='M1140 60h28v16h-28z'/><text x='1176' y='73'>open idle ~ %</text>\n")
    t.slots.open_idle (all_slots t.slots)
    else []

-- the head of a picture in which so many ranks have delays
unfoldable pub head_text : Course → Totals → ℕ → List ℕ
head_text c t ranks =
    size_text ranks ++ (style_text ++ (request_patterns ++ (other_patterns
    ++ (title_text c t ++ (first_keys t.slots ++ (last_keys t.slots ++ open_key t))))))
