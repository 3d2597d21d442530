-- The shades by which the flows of a kind are told apart.
use Rattle.std.specs.Prelude.{◌≡◌, ℕ, ◌+◌, ◌*◌, ◌%◌, ◌<◌, List, ◌++◌, codes, flat_map}
use Rattle.std.specs.List.{range_with_len}
use Rattle.frame_picture.specs.Labelled.{labelled}

-- the number of a SID's shade: one of 64, as many as flows may be live
abbrev pub shade_of : ℕ → ℕ
shade_of sid = sid % 64

-- how opaque a shade is, in hundredths: that of the next number is at least 25 away
abbrev pub opacity_of : ℕ → ℕ
opacity_of shade = 36 + shade * 25 % 64

-- how a shade looks
unfoldable pub shade_rule : ℕ → List ℕ
shade_rule shade =
    labelled (codes ".s") shade ++ (labelled (codes "{fill-opacity:.") (opacity_of shade) ++ codes "}\n")

-- how the shades look
abbrev pub shade_rules : List ℕ
shade_rules = flat_map shade_rule (range_with_len 0 64)

-- no two shades look alike
abbrev pub TellsShadesApart : Type 0
TellsShadesApart = (a b : ℕ) → a < 64 → b < 64 → opacity_of a ≡ opacity_of b → a ≡ b
