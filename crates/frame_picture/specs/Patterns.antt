-- The patterns of bars.
use Rattle.std.specs.Prelude.{ℕ, List, ◌++◌, codes}

-- the patterns of bars in which modems may ask
unfoldable pub request_patterns : List ℕ
request_patterns =
    codes "<defs><pattern id='region' width='6' height='6' patternUnits='userSpaceOnUse'>"
    ++ (codes "<path fill='#eee' d='M0 0h6v6H0z'/><path fill='#555' d='M2 2h2v2H2z'/></pattern>\n"
    ++ (codes "<pattern id='poll' width='8' height='8' patternUnits='userSpaceOnUse' patternTransform='rotate(45)'>"
    ++ codes "<path fill='#ffd79a' d='M0 0h8v8H0z'/><path fill='#b85f00' d='M0 0h4v8H0z'/></pattern>\n"))

-- the pattern of short data grants
unfoldable pub short_pattern : List ℕ
short_pattern =
    codes "<pattern id='short' width='6' height='6' patternUnits='userSpaceOnUse'>"
    ++ codes "<path fill='#8fd9ba' d='M0 0h6v6H0z'/><path fill='#006b4b' d='M0 0h6v2H0z'/></pattern>\n"

-- the pattern of minislots in which modems range
unfoldable pub ranging_pattern : List ℕ
ranging_pattern =
    codes "<pattern id='ranging' width='8' height='8' patternUnits='userSpaceOnUse'>"
    ++ (codes "<path fill='#f5ec8e' d='M0 0h8v8H0z'/>"
    ++ codes "<path fill='none' stroke='#6b5d00' d='M0 6l4-4 4 4'/></pattern>\n")

-- the patterns of unsolicited grants and of what is none of these
unfoldable pub other_patterns : List ℕ
other_patterns =
    codes "<pattern id='unsolicited' width='8' height='8' patternUnits='userSpaceOnUse'>"
    ++ (codes "<path fill='#eaa9cd' d='M0 0h8v8H0z'/><path stroke='#80154f' d='M0 0l8 8M8 0l-8 8'/></pattern>\n"
    ++ (codes "<pattern id='other' width='6' height='6' patternUnits='userSpaceOnUse'>"
    ++ codes "<path fill='#ddd' d='M0 0h6v6H0z'/><path fill='#555' d='M0 0h2v6H0z'/></pattern>\n"))

-- the patterns of bars
unfoldable pub patterns_text : List ℕ
patterns_text = request_patterns ++ (short_pattern ++ (ranging_pattern ++ other_patterns))
