-- How opportunities that were reserved look, where they are no ranging.
use Rattle.std.specs.Prelude.{ℕ, List, ◌++◌, codes}

-- how they look
unfoldable pub met_rules : List ℕ
met_rules =
    codes ".request{fill:url(#request)}.quiet{fill:url(#quiet)}.data{fill:url(#data)}\n"

-- their patterns
unfoldable pub met_patterns : List ℕ
met_patterns =
    codes "<pattern id='request' width='6' height='6' patternUnits='userSpaceOnUse'>"
    ++ (codes "<path fill='#ffd79a' d='M0 0h6v6H0z'/><path fill='#b85f00' d='M2 2h2v2H2z'/></pattern>\n"
    ++ (codes "<pattern id='quiet' width='6' height='6' patternUnits='userSpaceOnUse'>"
    ++ (codes "<path fill='#c9cfd6' d='M0 0h6v6H0z'/><path stroke='#5c6873' d='M0 3h6'/></pattern>\n"
    ++ (codes "<pattern id='data' width='6' height='6' patternUnits='userSpaceOnUse'>"
    ++ codes "<path fill='#a9cdec' d='M0 0h6v6H0z'/><path fill='#1d5c91' d='M2 2h2v2H2z'/></pattern>\n"))))

-- what their looks are for, above the legend of the others
unfoldable pub met_keys : List ℕ
met_keys =
    codes "<path class='key request' d='M604-5h28v11h-28z'/><text x='640' y='5'>request opportunity</text>\n"
    ++ (codes "<path class='key quiet' d='M772-5h28v11h-28z'/><text x='808' y='5'>quiet window</text>\n"
    ++ codes "<path class='key data' d='M900-5h28v11h-28z'/><text x='936' y='5'>data opportunity</text>\n")
